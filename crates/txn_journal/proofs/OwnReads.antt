-- A bundle's own lines: reading is sound and complete, and then the line acts.
use Rattle.std.proofs.Common.{length, ◌<◌, arith, ◌≡◌, ℕ, Bool, true, false, not, cond, eqb, List, [], ◌∷◌, ◌++◌, Option, Some, None, Ok, Err, refl, sym, ap, subst, ◌∙◌, Result}
use Rattle.std.specs.Prelude.{codes, MatchResult}
use Rattle.std.specs.List.{list_all}
use Rattle.std.specs.Str.{bytes_eq}
use Rattle.std.proofs.lemmas.List.{append-nil}
use Rattle.std.proofs.lemmas.Slice.Eq.{bytes_eq-Decides}
use Rattle.gtid_text.specs.Canonical.{source_text}
use Rattle.gtid_text.specs.Written.{IsSource, IsSpaced, source_tokens}
use Rattle.gtid_text.specs.Reading.{source_in}
use Rattle.gtid_text.specs.Grammar.{ParsesAsSource}
use Rattle.gtid_text.proofs.Shown.{source_shown, spaced_joined}
use Rattle.gtid_text.proofs.Single.{source_reads_back, source_spelled}
use Rattle.gtid_set.proofs.SpanLemmas.{all_weaker}
use Rattle.rows.specs.declared.limits.Limits.{Limits}
use Rattle.txn_journal.specs.Versions.{limits_of, is_named}
use Rattle.row_images.specs.Words.{first_word, others}
use Rattle.journal_words.specs.Gtids.{is_ascii_byte, same_or_none, source_of_word, spans_of_word}
use Rattle.row_images.proofs.Counts.{lacks, word_alone, word_and_more, first_word-front, others-front, first_word-whole, others-whole}
use Rattle.row_images.proofs.ValueLaws.{where_same-again}
use Rattle.txn_journal.specs.Words.{name_of}
use Rattle.txn_journal.specs.Lines.{◌>>=◌, some_or_body, version_in, set_in, nothing_in, table_in, image_in, due}
use Rattle.txn_journal.specs.Shapes.{Shape, shape_text, FitsShape, shape_in, with_table, added_table}
use Rattle.txn_journal.specs.BundleStates.{word_of, is_due_in, replica_in, preserve_in, channel_in, BundleStanding, bare, after_replica, after_tables, put_reference, put_row, join_channel, put_assumption, version_line, replica_line, opening_line, add_table_line, reference_line, row_line, channel_line, assume_line, done_line, own_step, judge_own}
use Rattle.txn_journal.specs.BundleText.{OwnLine, Heads, Names, Starts, Has, Refers, Puts, Opens, Assumes, Done, preserve_text, own_text}
use Rattle.txn_journal.specs.BundleCauses.{own_word_text, own_word, FitsOwn, own_wording}
use Rattle.txn_journal.specs.Spelling.{version_text}
use Rattle.row_images.specs.Images.{values_text}
use Rattle.txn_journal.specs.declared.bundle_draft.Word.{Word}
use Rattle.txn_journal.specs.declared.lines.Version.TheVariants.{One, Two, Three}
use Rattle.std.specs.FinSet as set
use Rattle.lemmas.proofs.Lists.{all_true_append as joins}
use Rattle.gtid_text.specs.declared.Span.{Span}
use Rattle.txn_journal.specs.WrittenSets.{spans_word, set_text, AreWrittenSpans}
use Rattle.txn_journal.proofs.NameLemmas.{name_no_blank, name_no_feed}
use Rattle.txn_journal.proofs.GtidLaws.{is_set_byte, set_ascii, set_no_feed, source_set, source_small, same_found, ascii_found, SpansFound, spans_found, spans_again, spans_word_lacks, set_again, set_no_feeds}
use Rattle.txn_journal.proofs.JournalLaws.{values_one, table_one}
use Rattle.journal.specs.Writing.{is_image_writable}
use Rattle.txn_journal.specs.declared.fault.Cause.{Cause}
use Rattle.txn_journal.specs.declared.bundle_draft.Word.TheVariants as words
use Rattle.txn_journal.specs.declared.fault.Cause.TheVariants as causes
use Rattle.txn_journal.specs.declared.bundle_draft.Part.TheVariants as parts
use Rattle.txn_journal.proofs.Judged.{then_both, if_both, some_both, found_weaker, IsBody, one_step, two_steps, bind_assoc}
use Rattle.txn_journal.proofs.WordLaws.{among_found, IsRestFault, ParsesAs, read_by, read_at, RestLaws, of_body, of_header}
use Rattle.txn_journal.proofs.ImageLaws.{image_both, image_again}
use Rattle.txn_journal.proofs.LineReads.{version_both, set_both, nothing_both, name_both, table_both, table_again, with_more, with_none, with_table as table_line}
use Rattle.txn_journal.proofs.ShapeWords.{shape_both, shape_again, shape_one, reference_both, reference_again, reference_one}
use Rattle.txn_journal.specs.References.{reference_text, reference_behind}
use Rattle.txn_journal.specs.Assumptions.{assumption_text, next_assumption, FitsAssumption, last_of, may_follow, name_behind, named_in, spans_behind, some_spans, part_behind, part_in, assumption_of, assumption_in}
use Rattle.txn_journal.specs.declared.assumptions.Assumption.{Assumption}
use Rattle.txn_journal.specs.declared.assumptions.Assumption.TheVariants.{Executed, Checksums, Opening, Statements, Ignored, References, Rows}

-- ---- the line of an assumption

behind_both : (limits : Limits) (rest : Option (List ℕ)) → MatchResult (name_behind limits rest) (λ name. (rest ≡ Some name) × (is_named limits name ≡ true)) IsBody
behind_both limits None = tt
behind_both limits (Some word) = found_weaker (some_or_body (name_of limits word)) _ _ _ (λ name h. (ap Some h.0, h.1)) (name_both limits word)

some_spans_both : (word : List ℕ) (spans : List Span) → SpansFound word spans → MatchResult (some_spans spans) (λ spans. (Some word ≡ Some (spans_word spans)) × AreWrittenSpans spans × (0 < length spans)) IsBody
some_spans_both word [] f = tt
some_spans_both word (s ∷ ss) f = (ap Some f.text, record { merged = f.merged; usable = f.usable }, omega arith)

spans_behind_both : (rest : Option (List ℕ)) → MatchResult (spans_behind rest) (λ spans. (rest ≡ Some (spans_word spans)) × AreWrittenSpans spans × (0 < length spans)) IsBody
spans_behind_both None = tt
spans_behind_both (Some word) = then_both _ _ (some_or_body (spans_of_word word)) _ (some_both _ _ (spans_of_word word) (λ spans e. spans_found word spans e) tt) (λ spans f. some_spans_both word spans f)

part_both : (limits : Limits) (rest : Option (List ℕ)) → MatchResult (part_behind limits rest) (λ part. (rest ≡ Some (part.0 ++ 32 ∷ spans_word part.1)) × (is_named limits part.0 ≡ true) × AreWrittenSpans part.1 × (0 < length part.1)) IsBody
part_both limits None = tt
part_both limits (Some text) = then_both _ _ (some_or_body (name_of limits (first_word text))) _ (name_both limits (first_word text)) (λ name n. then_both _ _ (spans_behind (others text)) _ (spans_behind_both (others text))
    (λ spans f. (ap Some (word_and_more text (spans_word spans) f.0 ∙ ap (λ (w : List ℕ). w ++ 32 ∷ spans_word spans) n.0), n.1, f.1, f.2)))

abbrev Says : Limits → List ℕ → Assumption → Type 0
Says limits text a = (text ≡ assumption_text a) × FitsAssumption limits a

-- a word, and the name behind it
named_both : (limits : Limits) (text word : List ℕ) (make : List ℕ → Assumption) → first_word text ≡ word → ((name : List ℕ) → assumption_text (make name) ≡ word ++ 32 ∷ name) → ((name : List ℕ) → is_named limits name ≡ true → FitsAssumption limits (make name))
    → MatchResult (named_in limits make (others text)) (Says limits text) IsBody
named_both limits text word make first says fits = then_both _ _ (name_behind limits (others text)) _ (behind_both limits (others text)) (λ name h.
    (word_and_more text name h.0 ∙ ap (λ (w : List ℕ). w ++ 32 ∷ name) first ∙ sym (says name), fits name h.1))

-- a word, and a name and spans behind it
parted_both : (limits : Limits) (text word : List ℕ) (make : List ℕ → List Span → Assumption) → first_word text ≡ word → ((name : List ℕ) → (spans : List Span) → assumption_text (make name spans) ≡ word ++ 32 ∷ (name ++ 32 ∷ spans_word spans))
    → ((name : List ℕ) → (spans : List Span) → is_named limits name ≡ true → AreWrittenSpans spans × (0 < length spans) → FitsAssumption limits (make name spans)) → MatchResult (part_in limits make (others text)) (Says limits text) IsBody
parted_both limits text word make first says fits = then_both _ _ (part_behind limits (others text)) _ (part_both limits (others text)) (λ part h.
    (word_and_more text (part.0 ++ 32 ∷ spans_word part.1) h.0 ∙ ap (λ (w : List ℕ). w ++ 32 ∷ (part.0 ++ 32 ∷ spans_word part.1)) first ∙ sym (says part.0 part.1), fits part.0 part.1 h.1 (h.2, h.3)))

says_both : (limits : Limits) (text : List ℕ) → MatchResult (assumption_of limits (first_word text) (others text)) (Says limits text) IsBody
unfolding assumption_of
says_both limits text =
    let is_word = λ (word : List ℕ) (e : bytes_eq (first_word text) word ≡ true). (bytes_eq-Decides (first_word text) word).0 e in
    if_both _ _ (bytes_eq (first_word text) (codes "executed")) _ _ (λ e. named_both limits text (codes "executed") Executed (is_word (codes "executed") e) (λ name. refl) (λ name h. h))
    (λ no. if_both _ _ (bytes_eq (first_word text) (codes "checksums")) _ _ (λ e. named_both limits text (codes "checksums") Checksums (is_word (codes "checksums") e) (λ name. refl) (λ name h. h))
    (λ no. if_both _ _ (bytes_eq (first_word text) (codes "opening")) _ _ (λ e. parted_both limits text (codes "opening") Opening (is_word (codes "opening") e) (λ name spans. refl) (λ name spans n s. (n, s.0, s.1)))
    (λ no. if_both _ _ (bytes_eq (first_word text) (codes "statements")) _ _ (λ e. parted_both limits text (codes "statements") Statements (is_word (codes "statements") e) (λ name spans. refl) (λ name spans n s. (n, s.0, s.1)))
    (λ no. if_both _ _ (bytes_eq (first_word text) (codes "ignored")) _ _ (λ e. named_both limits text (codes "ignored") Ignored (is_word (codes "ignored") e) (λ name. refl) (λ name h. h))
    (λ no. if_both _ _ (bytes_eq (first_word text) (codes "references")) _ _ (λ e. then_both _ _ (nothing_in (others text)) _ (nothing_both (others text)) (λ nothing none. (word_alone text none ∙ is_word (codes "references") e, tt)))
    (λ no. if_both _ _ (bytes_eq (first_word text) (codes "rows")) _ _ (λ e. then_both _ _ (nothing_in (others text)) _ (nothing_both (others text)) (λ nothing none. (word_alone text none ∙ is_word (codes "rows") e, tt)))
    (λ no. tt)))))))

assumption_both : (limits : Limits) (rest : Option (List ℕ)) → MatchResult (assumption_in limits rest) (λ a. (rest ≡ Some (assumption_text a)) × FitsAssumption limits a) IsBody
assumption_both limits None = tt
assumption_both limits (Some text) = found_weaker (assumption_of limits (first_word text) (others text)) _ _ _ (λ a h. (ap Some h.0, h.1)) (says_both limits text)

pub next_both : (limits : Limits) (before : List Assumption) (rest : Option (List ℕ)) → MatchResult (next_assumption limits before rest) (λ a. (rest ≡ Some (assumption_text a)) × FitsAssumption limits a × (may_follow (last_of before) a ≡ true)) IsBody
next_both limits before rest = then_both _ _ (assumption_in limits rest) _ (assumption_both limits rest) (λ a h. if_both _ _ (may_follow (last_of before) a) _ _ (λ follows. (h.0, h.1, follows)) (λ no. tt))

-- it is read again

said_again : (limits : Limits) (a : Assumption) → FitsAssumption limits a → assumption_in limits (Some (assumption_text a)) ≡ Ok a
unfolding assumption_of
said_again limits (Executed name) fits = rw fits refl
said_again limits (Checksums name) fits = rw fits refl
said_again limits (Opening name []) fits = absurd (omega (arith, fits.2))
said_again limits (Opening name (s ∷ ss)) fits =
    let spans : List Span = s ∷ ss in rw (others-front name (spans_word spans) (name_no_blank limits name fits.0), first_word-front name (spans_word spans) (name_no_blank limits name fits.0), fits.0, spans_again spans fits.1.merged fits.1.usable) refl
said_again limits (Statements name []) fits = absurd (omega (arith, fits.2))
said_again limits (Statements name (s ∷ ss)) fits =
    let spans : List Span = s ∷ ss in rw (others-front name (spans_word spans) (name_no_blank limits name fits.0), first_word-front name (spans_word spans) (name_no_blank limits name fits.0), fits.0, spans_again spans fits.1.merged fits.1.usable) refl
said_again limits (Ignored name) fits = rw fits refl
said_again limits References fits = refl
said_again limits Rows fits = refl

pub next_again : (limits : Limits) (before : List Assumption) (a : Assumption) → FitsAssumption limits a → may_follow (last_of before) a ≡ true → next_assumption limits before (Some (assumption_text a)) ≡ Ok a
next_again limits before a fits follows = rw (said_again limits a fits, follows) refl

pub assumption_one : (limits : Limits) (a : Assumption) → FitsAssumption limits a → lacks 10 (assumption_text a) ≡ true
assumption_one limits (Executed name) fits = name_no_feed limits name fits
assumption_one limits (Checksums name) fits = name_no_feed limits name fits
assumption_one limits (Opening name spans) fits = joins (λ b. not (eqb b 10)) name (32 ∷ spans_word spans) (name_no_feed limits name fits.0) (spans_word_lacks 10 spans set_no_feed refl fits.1.usable)
assumption_one limits (Statements name spans) fits = joins (λ b. not (eqb b 10)) name (32 ∷ spans_word spans) (name_no_feed limits name fits.0) (spans_word_lacks 10 spans set_no_feed refl fits.1.usable)
assumption_one limits (Ignored name) fits = name_no_feed limits name fits
assumption_one limits References fits = refl
assumption_one limits Rows fits = refl

-- ---- the lines of a bundle

-- what the rest of a table's line parses as
abbrev pub shape_behind : Limits → Option (List ℕ) → Result Shape Cause
shape_behind limits None = Err causes.Body
shape_behind limits (Some text) = shape_in limits text

-- what the rest of a line parses as
unfoldable pub own_body : BundleStanding → Word → Option (List ℕ) → Result OwnLine Cause
own_body s words.Bundle rest = version_in s.due rest >>= λ version. Ok (Heads version)
own_body s words.Replica rest = replica_in rest >>= λ replica. Ok (Names replica)
own_body s words.Opening rest = set_in rest >>= λ opened. Ok (Starts opened)
own_body s words.Table rest = shape_behind (limits_of s.version) rest >>= λ shape. Ok (Has shape)
own_body s words.Reference rest = reference_behind (limits_of s.version) rest >>= λ shape. Ok (Refers shape)
own_body s words.Row rest = table_in (limits_of s.version) rest >>= λ table. image_in table.1 >>= λ row. Ok (Puts (record { table = table.0; row = row }))
own_body s words.Channel rest = channel_in (limits_of s.version) rest >>= λ channel. Ok (Opens channel)
own_body s words.Assume rest = next_assumption (limits_of s.version) (after_tables s).bundle.assumptions rest >>= λ a. Ok (Assumes a)
own_body s words.Done rest = nothing_in rest >>= λ nothing. Ok Done

-- what a line makes of what the lines before it have made
unfoldable pub own_put : BundleStanding → OwnLine → Result BundleStanding Cause
own_put s (Heads version) = Ok (record s { part = parts.Replica; version = version })
own_put s (Names replica) = Ok (record s { part = after_replica s.version; bundle = bare replica set.empty [] })
own_put s (Starts opened) = Ok (record s { part = parts.Tables; bundle = bare s.bundle.replica opened [] })
own_put s (Has shape) = with_table (limits_of s.version) s.tables shape >>= λ tables. Ok (record s { tables = tables })
own_put s (Refers shape) = put_reference (after_tables s) shape
own_put s (Puts r) = cond (is_image_writable (limits_of s.version) r.row) (put_row (after_tables s) r) (Err causes.Limit)
own_put s (Opens c) = join_channel s c
own_put s (Assumes a) = put_assumption (after_tables s) a
own_put s Done = Ok (record (after_tables s) { part = parts.Ended })

-- a table's line
table_step : (s : BundleStanding) (r : Result Shape Cause) → ((r >>= λ shape. with_table (limits_of s.version) s.tables shape) >>= λ tables. Ok (record s { tables = tables })) ≡ ((r >>= λ shape. Ok (Has shape)) >>= own_put s)
unfolding own_put
table_step s (Ok shape) = refl
table_step s (Err c) = refl

step_reads : (s : BundleStanding) (w : Word) (rest : Option (List ℕ)) → own_step s w rest ≡ (own_body s w rest >>= own_put s)
unfolding own_step version_line replica_line opening_line add_table_line added_table reference_line row_line channel_line assume_line done_line own_body own_put
step_reads s words.Bundle rest = one_step (version_in s.due rest) Heads (own_put s)
step_reads s words.Replica rest = one_step (replica_in rest) Names (own_put s)
step_reads s words.Opening rest = one_step (set_in rest) Starts (own_put s)
step_reads s words.Table None = refl
step_reads s words.Table (Some text) = table_step s (shape_in (limits_of s.version) text)
step_reads s words.Reference rest = one_step (reference_behind (limits_of s.version) rest) Refers (own_put s)
step_reads s words.Row rest = two_steps (table_in (limits_of s.version) rest) (λ table. image_in table.1) (λ table row. Puts (record { table = table.0; row = row })) (own_put s)
step_reads s words.Channel rest = one_step (channel_in (limits_of s.version) rest) Opens (own_put s)
step_reads s words.Assume rest = one_step (next_assumption (limits_of s.version) (after_tables s).bundle.assumptions rest) Assumes (own_put s)
step_reads s words.Done rest = one_step (nothing_in rest) (λ nothing. Done) (own_put s)

pub own_reads : (s : BundleStanding) (line : List ℕ) → judge_own s line ≡ (read_by (own_wording s) (own_body s) line >>= own_put s)
unfolding judge_own
own_reads s line = bind_assoc (due (is_due_in s.version s.part) (word_of (first_word line))) (λ word. own_body s word (others line)) (λ word. own_step s word (others line)) (own_put s) (λ word. step_reads s word (others line))

abbrev every_word : List Word
every_word = words.Bundle ∷ words.Replica ∷ words.Opening ∷ words.Table ∷ words.Reference ∷ words.Row ∷ words.Channel ∷ words.Assume ∷ words.Done ∷ []

-- ---- sources

source_word_found : (w : List ℕ) (id : ℕ) → source_of_word w ≡ Some id → (w ≡ source_text id) × IsSource id
source_word_found w id e =
    let f = same_found source_text w (source_in w) id (ascii_found w (same_or_none source_text w (source_in w)) id e) in
    let s : ParsesAsSource w id = source_spelled w id f.1 in
    (f.0, source_small s.uuid id s.is_uuid.names)

source_word_again : (id : ℕ) → IsSource id → source_of_word (source_text id) ≡ Some id
source_word_again id small =
    let spaced : IsSpaced (source_tokens id) (source_text id) = subst (IsSpaced (source_tokens id)) (append-nil (source_text id)) (spaced_joined (source_tokens id)) in
    let read : source_in (source_text id) ≡ Ok id = source_reads_back (source_text id) id (source_shown id small (source_text id) spaced) in
    let ascii : list_all is_ascii_byte (source_text id) ≡ true = all_weaker is_set_byte is_ascii_byte (source_text id) set_ascii (source_set id) in
    rw (ascii, read) (where_same-again source_text id)

-- ---- reading is sound

replica_both : (rest : Option (List ℕ)) → MatchResult (replica_in rest) (λ id. (rest ≡ Some (source_text id)) × IsSource id) IsBody
replica_both None = tt
replica_both (Some w) = some_both _ _ (source_of_word w) (λ id e. let f = source_word_found w id e in (ap Some f.0, f.1)) tt

shape_behind_both : (limits : Limits) (rest : Option (List ℕ)) → MatchResult (shape_behind limits rest) (λ s. (rest ≡ Some (shape_text s)) × FitsShape limits s) IsBody
shape_behind_both limits None = tt
shape_behind_both limits (Some text) = found_weaker (shape_in limits text) _ _ _ (λ s f. (ap Some f.0, f.1)) (shape_both limits text)

preserve_both : (text : List ℕ) (rest : Option (List ℕ)) → others text ≡ rest → MatchResult (preserve_in rest) (λ p. text ≡ first_word text ++ preserve_text p) IsBody
preserve_both text None o = word_alone text o ∙ sym (append-nil (first_word text))
preserve_both text (Some w) o = if_both _ _ (bytes_eq w (codes "preserve")) _ _ (λ is. word_and_more text w o ∙ ap (λ (x : List ℕ). first_word text ++ 32 ∷ x) ((bytes_eq-Decides w (codes "preserve")).0 is)) (λ no. tt)

channel_both : (limits : Limits) (rest : Option (List ℕ)) → MatchResult (channel_in limits rest) (λ c. (rest ≡ Some (c.name ++ preserve_text c.preserve)) × (is_named limits c.name ≡ true)) IsBody
unfolding channel_in
channel_both limits None = tt
channel_both limits (Some text) = then_both _ _ (some_or_body (name_of limits (first_word text))) _ (name_both limits (first_word text)) (λ name n. then_both _ _ (preserve_in (others text)) _ (preserve_both text (others text) refl)
    (λ p f. (ap Some (f ∙ ap (λ (w : List ℕ). w ++ preserve_text p) n.0), n.1)))

rest_both : (s : BundleStanding) (k : Word) (line : List ℕ) → first_word line ≡ own_word_text k → MatchResult (own_body s k (others line)) (ParsesAs (own_wording s) k line) (IsRestFault (own_wording s) k (others line))
unfolding own_body
rest_both s words.Bundle line first =
    of_header (own_wording s) (others line) (ParsesAs (own_wording s) words.Bundle line) _ (then_both _ _ (version_in s.due (others line)) _ (version_both s.due (others line)) (λ v f. record { text = with_more line (codes "bundle") (version_text v) first f.0; fits = f.1; word = refl }))
rest_both s words.Replica line first =
    of_body (own_wording s) words.Replica (others line) (ParsesAs (own_wording s) words.Replica line) _ (then_both _ _ (replica_in (others line)) _ (replica_both (others line)) (λ id f. record { text = with_more line (codes "replica") (source_text id) first f.0; fits = f.1; word = refl }))
rest_both s words.Opening line first =
    of_body (own_wording s) words.Opening (others line) (ParsesAs (own_wording s) words.Opening line) _ (then_both _ _ (set_in (others line)) _ (set_both (others line)) (λ p f. record { text = with_more line (codes "opening") (set_text p) first f.0; fits = f.1; word = refl }))
rest_both s words.Table line first =
    of_body (own_wording s) words.Table (others line) (ParsesAs (own_wording s) words.Table line) _ (then_both _ _ (shape_behind (limits_of s.version) (others line)) _ (shape_behind_both (limits_of s.version) (others line)) (λ shape f. record { text = with_more line (codes "table") (shape_text shape) first f.0; fits = f.1; word = refl }))
rest_both s words.Reference line first =
    of_body (own_wording s) words.Reference (others line) (ParsesAs (own_wording s) words.Reference line) _ (then_both _ _ (reference_behind (limits_of s.version) (others line)) _ (reference_both (limits_of s.version) (others line)) (λ shape f. record { text = with_more line (codes "fk") (reference_text shape) first f.0; fits = f.1; word = refl }))
rest_both s words.Row line first =
    of_body (own_wording s) words.Row (others line) (ParsesAs (own_wording s) words.Row line) _ (then_both _ _ (table_in (limits_of s.version) (others line)) _ (table_both (limits_of s.version) (others line)) (λ t h. then_both _ _ (image_in t.1) _ (image_both t.1)
    (λ row f. record { text = table_line line (codes "row") t.0 t.1 (values_text row) first h.0 f.0; fits = record { name = h.1; values = f.1; some = f.2 }; word = refl })))
rest_both s words.Channel line first =
    of_body (own_wording s) words.Channel (others line) (ParsesAs (own_wording s) words.Channel line) _ (then_both _ _ (channel_in (limits_of s.version) (others line)) _ (channel_both (limits_of s.version) (others line)) (λ c f. record { text = with_more line (codes "channel") (c.name ++ preserve_text c.preserve) first f.0; fits = f.1; word = refl }))
rest_both s words.Assume line first =
    let before = (after_tables s).bundle.assumptions in
    of_body (own_wording s) words.Assume (others line) (ParsesAs (own_wording s) words.Assume line) _ (then_both _ _ (next_assumption (limits_of s.version) before (others line)) _ (next_both (limits_of s.version) before (others line)) (λ a f. record { text = with_more line (codes "assume") (assumption_text a) first f.0; fits = (f.1, f.2); word = refl }))
rest_both s words.Done line first =
    of_body (own_wording s) words.Done (others line) (ParsesAs (own_wording s) words.Done line) _ (then_both _ _ (nothing_in (others line)) _ (nothing_both (others line)) (λ u none. record { text = with_none line (codes "done") first none; fits = tt; word = refl }))

-- ---- reading is complete

channel_again : (limits : Limits) (name : List ℕ) (p : Bool) → is_named limits name ≡ true → channel_in limits (Some (name ++ preserve_text p)) ≡ Ok (record { name = name; preserve = p })
unfolding channel_in
channel_again limits name false e = rw (append-nil name, others-whole name (name_no_blank limits name e), first_word-whole name (name_no_blank limits name e), e) refl
channel_again limits name true e = rw (others-front name (codes "preserve") (name_no_blank limits name e), first_word-front name (codes "preserve") (name_no_blank limits name e), e) refl

own_again : (st : BundleStanding) (l : OwnLine) → is_due_in st.version st.part (own_word l) ≡ true → FitsOwn st l → read_by (own_wording st) (own_body st) (own_text l) ≡ Ok l
unfolding own_body
own_again st (Heads One) is fits = read_at (own_wording st) (own_body st) (own_text (Heads One)) words.Bundle (Some (codes "1")) refl refl refl is ∙ rw fits refl
own_again st (Heads Two) is fits = read_at (own_wording st) (own_body st) (own_text (Heads Two)) words.Bundle (Some (codes "2")) refl refl refl is ∙ rw fits refl
own_again st (Heads Three) is fits = read_at (own_wording st) (own_body st) (own_text (Heads Three)) words.Bundle (Some (codes "3")) refl refl refl is ∙ rw fits refl
own_again st (Starts p) is fits = read_at (own_wording st) (own_body st) (own_text (Starts p)) words.Opening (Some (set_text p)) refl refl refl is ∙ rw (set_again p fits) refl
own_again st (Names id) is fits = read_at (own_wording st) (own_body st) (own_text (Names id)) words.Replica (Some (source_text id)) refl refl refl is ∙ rw (source_word_again id fits) refl
own_again st (Has s) is fits = read_at (own_wording st) (own_body st) (own_text (Has s)) words.Table (Some (shape_text s)) refl refl refl is ∙ rw (shape_again (limits_of st.version) s fits) refl
own_again st (Refers s) is fits = read_at (own_wording st) (own_body st) (own_text (Refers s)) words.Reference (Some (reference_text s)) refl refl refl is ∙ rw (reference_again (limits_of st.version) s fits) refl
own_again st (Puts r) is fits = read_at (own_wording st) (own_body st) (own_text (Puts r)) words.Row (Some (r.table ++ 32 ∷ values_text r.row)) refl refl refl is ∙ rw (table_again (limits_of st.version) r.table (values_text r.row) fits.name, image_again r.row fits.some fits.values) refl
own_again st (Opens c) is fits = read_at (own_wording st) (own_body st) (own_text (Opens c)) words.Channel (Some (c.name ++ preserve_text c.preserve)) refl refl refl is ∙ rw (channel_again (limits_of st.version) c.name c.preserve fits) refl
own_again st (Assumes a) is fits = read_at (own_wording st) (own_body st) (own_text (Assumes a)) words.Assume (Some (assumption_text a)) refl refl refl is ∙ rw (next_again (limits_of st.version) (after_tables st).bundle.assumptions a fits.0 fits.1) refl
own_again st Done is fits = read_at (own_wording st) (own_body st) (own_text Done) words.Done None refl refl refl is

pub own_laws : (s : BundleStanding) → RestLaws (own_wording s) (own_body s)
own_laws s = record { found = λ t k e. among_found own_word_text every_word t k e; reads = rest_both s; again = own_again s }

-- no line feed is in it
preserve_one : (p : Bool) → lacks 10 (preserve_text p) ≡ true
preserve_one true = refl
preserve_one false = refl

pub own_one : (s : BundleStanding) (l : OwnLine) → FitsOwn s l → lacks 10 (own_text l) ≡ true
own_one st (Heads One) fits = refl
own_one st (Heads Two) fits = refl
own_one st (Heads Three) fits = refl
own_one st (Starts p) fits = set_no_feeds p fits
own_one st (Names id) fits = all_weaker is_set_byte (λ b. not (eqb b 10)) (source_text id) set_no_feed (source_set id)
own_one st (Has s) fits = shape_one (limits_of st.version) s fits
own_one st (Refers s) fits = reference_one (limits_of st.version) s fits
own_one st (Puts r) fits = table_one r.table (values_text r.row) (name_no_feed (limits_of st.version) r.table fits.name) (values_one r.row fits.values)
own_one st (Opens c) fits = joins (λ b. not (eqb b 10)) c.name (preserve_text c.preserve) (name_no_feed (limits_of st.version) c.name fits) (preserve_one c.preserve)
own_one st (Assumes a) fits = assumption_one (limits_of st.version) a fits.0
own_one st Done fits = refl
