-- Lines: reading is sound and complete.
use Rattle.std.proofs.Common.{◌≡◌, ℕ, Bool, inl, inr, true, false, List, [], ◌∷◌, ◌++◌, Option, Some, None, Result, Ok, Err, refl, sym, ap, ◌∙◌, ◌+◌, not, eqb}
use Rattle.std.specs.Prelude.{codes, MatchResult, is_some, ◌&&◌}
use Rattle.std.proofs.lemmas.Bool.{and_parts}
use Rattle.std.proofs.lemmas.List.{append-nil}
use Rattle.gtid_set.proofs.SpanLemmas.{all_weaker}
use Rattle.gtid_text.specs.Written.{IsUsable}
use Rattle.gtid_text.specs.Canonical.{gtid_text}
use Rattle.gtid_text.specs.declared.Gtid.{Gtid}
use Rattle.rows.specs.declared.change.Change.TheVariants.{Insert, Delete, Update}
use Rattle.rows.specs.declared.schema.Table.{Table}
use Rattle.rows.specs.declared.limits.Limits.{Limits}
use Rattle.txn_journal.specs.Versions.{limits_of, is_named, is_numbered}
use Rattle.row_images.specs.Words.{is_count, first_word, others}
use Rattle.journal_words.specs.Gtids.{gtid_of_word, set_of_word}
use Rattle.txn_journal.specs.WrittenSets.{set_text, IsWrittenSet}
use Rattle.row_images.proofs.Counts.{lacks, word_alone, word_and_more, first_word-front, others-front}
use Rattle.txn_journal.proofs.GtidLaws.{is_set_byte, set_no_blank, gtid_set_bytes, gtid_found, gtid_again, set_found, set_again}
use Rattle.txn_journal.proofs.SplitLaws.{count_no_blank}
use Rattle.txn_journal.specs.Words.{name_of}
use Rattle.txn_journal.specs.Due.{is_due}
use Rattle.txn_journal.specs.Lines.{◌>>=◌, Numbers, Beginning, stamp_in, at_place, some_or_body, keyword_of, due, takes, version_named, known_version, version_in, numbers_in, beginning_text, beginning_in, set_in, nothing_in, image_in, images_in, table_in}
use Rattle.txn_journal.specs.Machine.{Standing, close_entry, add, begin, header_line, previous_line, txn_line, end_line, close_line, step, judge}
use Rattle.txn_journal.specs.Spelling.{Line, Header, Previous, Begin, Makes, End, Close, version_text, numbers_text, line_text}
use Rattle.row_images.specs.Images.{values_text}
use Rattle.txn_journal.specs.Causes.{keyword_text, word_for, AreCounts, HasNumbers, FitsAt, wording}
use Rattle.txn_journal.specs.declared.fault.Cause.{Cause}
use Rattle.txn_journal.specs.declared.lines.LinePlace.TheVariants as places
use Rattle.txn_journal.specs.declared.lines.Keyword.{Keyword}
use Rattle.txn_journal.specs.declared.lines.Keyword.TheVariants as keywords
use Rattle.txn_journal.specs.declared.lines.Version.{Version}
use Rattle.txn_journal.specs.declared.lines.Version.TheVariants.{One, Two, Three}
use Rattle.txn_journal.proofs.NameLemmas.{name_no_blank}
use Rattle.txn_journal.proofs.ImageLaws.{image_both, images_both, image_again, images_again}
use Rattle.txn_journal.proofs.Judged.{then_both, if_both, some_both, IsBody, one_step, two_steps, bind_assoc}
use Rattle.txn_journal.proofs.WordLaws.{among_found, IsVersionFault, IsRestFault, ParsesAs, read_by, read_at, RestLaws, of_body, of_header}
use Rattle.std.proofs.lemmas.Option.{same_Some}
use Rattle.gtid_text.proofs.Turns.{chosen}
use Rattle.txn_journal.specs.declared.lines.Due.{Due}

-- ---- a line is read, and then it acts

-- what the rest of a line parses as
unfoldable pub body_of : Due → Version → Keyword → Option (List ℕ) → Result Line Cause
body_of due version keywords.Journal rest = version_in due rest >>= λ v. Ok (Header v)
body_of due version keywords.Previous rest = set_in rest >>= λ s. Ok (Previous s)
body_of due version keywords.Txn rest = beginning_in version rest >>= λ b. Ok (Begin b.gtid b.numbers)
body_of due version keywords.Ins rest = table_in (limits_of version) rest >>= λ table. image_in table.1 >>= λ after. Ok (Makes (Insert table.0 after))
body_of due version keywords.Del rest = table_in (limits_of version) rest >>= λ table. image_in table.1 >>= λ before. Ok (Makes (Delete table.0 before))
body_of due version keywords.Upd rest = table_in (limits_of version) rest >>= λ table. images_in table.1 >>= λ images. Ok (Makes (Update table.0 images.0 images.1))
body_of due version keywords.End rest = nothing_in rest >>= λ nothing. Ok End
body_of due version keywords.Close rest = nothing_in rest >>= λ nothing. Ok Close

-- what a line makes of what the lines before it have made
unfoldable pub put : Option (List Table) → Standing → Line → Result Standing Cause
put schema s (Header version) = Ok (record s { place = places.Previous; version = version; changes = [] })
put schema s (Previous previous) = Ok (record s { place = places.Between; journal = record { previous = previous; entries = [] }; seen = previous })
put schema s (Begin g numbers) = begin s g (stamp_in (s.count + 1) numbers)
put schema s (Makes change) = add schema s change
put schema s End = Ok (close_entry s)
put schema s Close = Ok (record s { place = places.Ended })

txn_step : (schema : Option (List Table)) (s : Standing) (r : Result Beginning Cause) → ((r >>= λ b. Ok (at_place (s.count + 1) b)) >>= λ p. begin s p.0 p.1) ≡ ((r >>= λ b. Ok (Begin b.gtid b.numbers)) >>= put schema s)
unfolding put
txn_step schema s (Ok b) = refl
txn_step schema s (Err c) = refl

step_reads : (schema : Option (List Table)) (s : Standing) (k : Keyword) (rest : Option (List ℕ)) → step schema s k rest ≡ (body_of s.due s.version k rest >>= put schema s)
unfolding step header_line previous_line txn_line end_line close_line body_of put
step_reads schema s keywords.Journal rest = one_step (version_in s.due rest) Header (put schema s)
step_reads schema s keywords.Previous rest = one_step (set_in rest) Previous (put schema s)
step_reads schema s keywords.Txn rest = txn_step schema s (beginning_in s.version rest)
step_reads schema s keywords.Ins rest = two_steps (table_in (limits_of s.version) rest) (λ table. image_in table.1) (λ table after. Makes (Insert table.0 after)) (put schema s)
step_reads schema s keywords.Del rest = two_steps (table_in (limits_of s.version) rest) (λ table. image_in table.1) (λ table before. Makes (Delete table.0 before)) (put schema s)
step_reads schema s keywords.Upd rest = two_steps (table_in (limits_of s.version) rest) (λ table. images_in table.1) (λ table images. Makes (Update table.0 images.0 images.1)) (put schema s)
step_reads schema s keywords.End rest = one_step (nothing_in rest) (λ nothing. End) (put schema s)
step_reads schema s keywords.Close rest = one_step (nothing_in rest) (λ nothing. Close) (put schema s)

pub judge_reads : (schema : Option (List Table)) (s : Standing) (line : List ℕ) → judge schema s line ≡ (read_by (wording schema s) (body_of s.due s.version) line >>= put schema s)
unfolding judge
judge_reads schema s line = bind_assoc (due (is_due s.place) (keyword_of (first_word line))) (λ word. body_of s.due s.version word (others line)) (λ word. step schema s word (others line)) (put schema s) (λ word. step_reads schema s word (others line))

-- ---- the first word

abbrev every_keyword : List Keyword
every_keyword = keywords.Journal ∷ keywords.Previous ∷ keywords.Txn ∷ keywords.Ins ∷ keywords.Upd ∷ keywords.Del ∷ keywords.End ∷ keywords.Close ∷ []

-- ---- what the words are

version_known : (due : Due) (w : List ℕ) (o : Option Version) → is_count w ≡ true → version_named w ≡ o → MatchResult (known_version due o) (λ v. (Some w ≡ Some (version_text v)) × (takes due v ≡ true)) (IsVersionFault (Some w))
version_known due w None count e = (w, refl, count)
version_known due w (Some v) count e = if_both _ _ (takes due v) _ _ (λ taken. (ap Some (among_found version_text (One ∷ Two ∷ Three ∷ []) w v e), taken)) (λ no. (w, refl, count))

pub version_both : (due : Due) (rest : Option (List ℕ)) → MatchResult (version_in due rest) (λ v. (rest ≡ Some (version_text v)) × (takes due v ≡ true)) (IsVersionFault rest)
version_both due None = tt
version_both due (Some w) = if_both _ _ (is_count w) _ _ (λ count. version_known due w (version_named w) count refl) (λ no. tt)

-- two numbers
record AreNumbers (rest : Option (List ℕ)) (n : Numbers) : Type 0 where
  text : rest ≡ Some (n.last_committed ++ 32 ∷ n.sequence_number)
  counts : AreCounts (Some n)

numbers_both : (rest : Option (List ℕ)) → MatchResult (numbers_in rest) (AreNumbers rest) IsBody
numbers_both None = tt
numbers_both (Some text) =
    then_both _ _ (some_or_body (others text)) _ (some_both (λ r. others text ≡ Some r) _ (others text) (λ r e. e) tt)
    (λ r rest. if_both _ _ (is_count (first_word text) && is_count r) _ _ (λ both. record { text = ap Some (word_and_more text r rest); counts = and_parts (is_count (first_word text)) (is_count r) both }) (λ no. tt))

-- a GTID, and numbers where the version writes them
record IsBeginning (numbered : Bool) (rest : Option (List ℕ)) (b : Beginning) : Type 0 where
  text : rest ≡ Some (gtid_text b.gtid ++ numbers_text b.numbers)
  usable : IsUsable b.gtid
  counts : AreCounts b.numbers
  of_version : is_some b.numbers ≡ numbered

beginning_both_of : (numbered : Bool) (text : List ℕ) → MatchResult (beginning_text numbered text) (IsBeginning numbered (Some text)) IsBody
beginning_both_of false w =
    then_both _ _ (some_or_body (gtid_of_word w)) _ (some_both _ _ (gtid_of_word w) (λ g e. gtid_found w g e) tt)
    (λ g f. record { text = ap Some (f.0 ∙ sym (append-nil (gtid_text g))); usable = f.1; counts = tt; of_version = refl })
beginning_both_of true text =
    then_both _ _ (some_or_body (gtid_of_word (first_word text))) _ (some_both _ _ (gtid_of_word (first_word text)) (λ g e. gtid_found (first_word text) g e) tt)
    (λ g f. then_both _ _ (numbers_in (others text)) _ (numbers_both (others text))
    (λ n h. record { text = ap Some (word_and_more text _ h.text ∙ ap (λ (w : List ℕ). w ++ 32 ∷ (n.last_committed ++ 32 ∷ n.sequence_number)) f.0); usable = f.1; counts = h.counts; of_version = refl }))

beginning_both : (version : Version) (rest : Option (List ℕ)) → MatchResult (beginning_in version rest) (IsBeginning (is_numbered version) rest) IsBody
beginning_both version None = tt
beginning_both version (Some text) = beginning_both_of (is_numbered version) text

pub set_both : (rest : Option (List ℕ)) → MatchResult (set_in rest) (λ s. (rest ≡ Some (set_text s)) × IsWrittenSet s) IsBody
set_both None = tt
set_both (Some w) = some_both _ _ (set_of_word w) (λ s e. let f = set_found w s e in (ap Some f.0, f.1)) tt

pub nothing_both : (rest : Option (List ℕ)) → MatchResult (nothing_in rest) (λ u. rest ≡ None) IsBody
nothing_both None = refl
nothing_both (Some t) = tt

pub name_found : (limits : Limits) (w name : List ℕ) → name_of limits w ≡ Some name → (w ≡ name) × (is_named limits name ≡ true)
name_found limits w name e = elim (chosen (is_named limits w) (Some w) None (Some name) e) [
  | inl p ↦ let same = same_Some w name p.1 in (same, ap (is_named limits) (sym same) ∙ p.0)
  | inr p ↦ absurd cc
]

pub name_both : (limits : Limits) (w : List ℕ) → MatchResult (some_or_body (name_of limits w)) (λ name. (w ≡ name) × (is_named limits name ≡ true)) IsBody
name_both limits w = some_both _ _ (name_of limits w) (name_found limits w) tt

pub table_both : (limits : Limits) (rest : Option (List ℕ)) → MatchResult (table_in limits rest) (λ t. (rest ≡ Some (t.0 ++ 32 ∷ t.1)) × (is_named limits t.0 ≡ true)) IsBody
table_both limits None = tt
table_both limits (Some text) =
    then_both _ _ (some_or_body (others text)) _ (some_both (λ r. others text ≡ Some r) _ (others text) (λ r e. e) tt)
    (λ r rest. then_both _ _ (some_or_body (name_of limits (first_word text))) _ (name_both limits (first_word text))
    (λ name n. (ap Some (word_and_more text r rest ∙ ap (λ (w : List ℕ). w ++ 32 ∷ r) n.0), n.1)))

-- the line from its words
pub with_more : (line w r : List ℕ) → first_word line ≡ w → others line ≡ Some r → line ≡ w ++ 32 ∷ r
with_more line w r first rest = word_and_more line r rest ∙ ap (λ (x : List ℕ). x ++ 32 ∷ r) first

pub with_none : (line w : List ℕ) → first_word line ≡ w → others line ≡ None → line ≡ w
with_none line w first rest = word_alone line rest ∙ first

pub with_table : (line w name text r : List ℕ) → first_word line ≡ w → others line ≡ Some (name ++ 32 ∷ text) → text ≡ r → line ≡ w ++ 32 ∷ (name ++ 32 ∷ r)
with_table line w name text r first rest is = with_more line w (name ++ 32 ∷ text) first rest ∙ ap (λ (t : List ℕ). w ++ 32 ∷ (name ++ 32 ∷ t)) is

rest_both : (schema : Option (List Table)) (s : Standing) (k : Keyword) (line : List ℕ) → first_word line ≡ keyword_text k → MatchResult (body_of s.due s.version k (others line)) (ParsesAs (wording schema s) k line) (IsRestFault (wording schema s) k (others line))
unfolding body_of
rest_both schema s keywords.Journal line first =
    of_header (wording schema s) (others line) (ParsesAs (wording schema s) keywords.Journal line) _
    (then_both _ _ (version_in s.due (others line)) _ (version_both s.due (others line)) (λ v f. record { text = with_more line (codes "journal") (version_text v) first f.0; fits = record { words = tt; images = tt; of_version = f.1 }; word = refl }))
rest_both schema s keywords.Previous line first =
    of_body (wording schema s) keywords.Previous (others line) (ParsesAs (wording schema s) keywords.Previous line) _
    (then_both _ _ (set_in (others line)) _ (set_both (others line)) (λ p f. record { text = with_more line (codes "previous") (set_text p) first f.0; fits = record { words = f.1; images = tt; of_version = tt }; word = refl }))
rest_both schema s keywords.Txn line first =
    of_body (wording schema s) keywords.Txn (others line) (ParsesAs (wording schema s) keywords.Txn line) _
    (then_both _ _ (beginning_in s.version (others line)) _ (beginning_both s.version (others line))
    (λ b f. record { text = with_more line (codes "txn") (gtid_text b.gtid ++ numbers_text b.numbers) first f.text; fits = record { words = (f.usable, f.counts); images = tt; of_version = f.of_version }; word = refl }))
rest_both schema s keywords.Ins line first =
    of_body (wording schema s) keywords.Ins (others line) (ParsesAs (wording schema s) keywords.Ins line) _
    (then_both _ _ (table_in (limits_of s.version) (others line)) _ (table_both (limits_of s.version) (others line)) (λ t h. then_both _ _ (image_in t.1) _ (image_both t.1) (λ after f. record { text = with_table line (codes "ins") t.0 t.1 (values_text after) first h.0 f.0; fits = record { words = (h.1, f.1); images = f.2; of_version = tt }; word = refl })))
rest_both schema s keywords.Del line first =
    of_body (wording schema s) keywords.Del (others line) (ParsesAs (wording schema s) keywords.Del line) _
    (then_both _ _ (table_in (limits_of s.version) (others line)) _ (table_both (limits_of s.version) (others line)) (λ t h. then_both _ _ (image_in t.1) _ (image_both t.1) (λ before f. record { text = with_table line (codes "del") t.0 t.1 (values_text before) first h.0 f.0; fits = record { words = (h.1, f.1); images = f.2; of_version = tt }; word = refl })))
rest_both schema s keywords.Upd line first =
    of_body (wording schema s) keywords.Upd (others line) (ParsesAs (wording schema s) keywords.Upd line) _
    (then_both _ _ (table_in (limits_of s.version) (others line)) _ (table_both (limits_of s.version) (others line)) (λ t h. then_both _ _ (images_in t.1) _ (images_both t.1)
    (λ p f. record { text = with_table line (codes "upd") t.0 t.1 (values_text p.0 ++ 32 ∷ (124 ∷ 32 ∷ values_text p.1)) first h.0 f.spelt; fits = record { words = (h.1, f.before_fits, f.after_fits); images = (f.before_some, f.after_some); of_version = tt }; word = refl })))
rest_both schema s keywords.End line first =
    of_body (wording schema s) keywords.End (others line) (ParsesAs (wording schema s) keywords.End line) _ (then_both _ _ (nothing_in (others line)) _ (nothing_both (others line)) (λ u none. record { text = with_none line (codes "end") first none; fits = record { words = tt; images = tt; of_version = tt }; word = refl }))
rest_both schema s keywords.Close line first =
    of_body (wording schema s) keywords.Close (others line) (ParsesAs (wording schema s) keywords.Close line) _ (then_both _ _ (nothing_in (others line)) _ (nothing_both (others line)) (λ u none. record { text = with_none line (codes "close") first none; fits = record { words = tt; images = tt; of_version = tt }; word = refl }))

-- ---- reading is complete

pub table_again : (limits : Limits) (name text : List ℕ) → is_named limits name ≡ true → table_in limits (Some (name ++ 32 ∷ text)) ≡ Ok (name, text)
table_again limits name text e = rw (others-front name text (name_no_blank limits name e), first_word-front name text (name_no_blank limits name e), e) refl

beginning_again_of : (numbered : Bool) (g : Gtid) (numbers : Option Numbers) → IsUsable g → AreCounts numbers → is_some numbers ≡ numbered → beginning_text numbered (gtid_text g ++ numbers_text numbers) ≡ Ok (record { gtid = g; numbers = numbers })
beginning_again_of false g None usable counts is = rw (append-nil (gtid_text g), gtid_again g usable) refl
beginning_again_of true g (Some n) usable counts is =
    let no_blank : lacks 32 (gtid_text g) ≡ true = all_weaker is_set_byte (λ b. not (eqb b 32)) (gtid_text g) set_no_blank (gtid_set_bytes g usable) in
    let lacks_blank = count_no_blank n.last_committed counts.0 in
    rw (
      first_word-front (gtid_text g) (n.last_committed ++ 32 ∷ n.sequence_number) no_blank,
      others-front (gtid_text g) (n.last_committed ++ 32 ∷ n.sequence_number) no_blank,
      gtid_again g usable,
      others-front n.last_committed n.sequence_number lacks_blank,
      first_word-front n.last_committed n.sequence_number lacks_blank,
      counts.0,
      counts.1,
    ) refl
beginning_again_of false g (Some n) usable counts is = absurd cc
beginning_again_of true g None usable counts is = absurd cc

beginning_again : (version : Version) (g : Gtid) (numbers : Option Numbers) → IsUsable g → AreCounts numbers → HasNumbers version numbers → beginning_in version (Some (gtid_text g ++ numbers_text numbers)) ≡ Ok (record { gtid = g; numbers = numbers })
beginning_again version g numbers usable counts is = beginning_again_of (is_numbered version) g numbers usable counts is

header_again : (schema : Option (List Table)) (st : Standing) (v : Version) → is_due st.place keywords.Journal ≡ true → takes st.due v ≡ true → read_by (wording schema st) (body_of st.due st.version) (line_text (Header v)) ≡ Ok (Header v)
unfolding body_of
header_again schema st One is taken = read_at (wording schema st) (body_of st.due st.version) (line_text (Header One)) keywords.Journal (Some (codes "1")) refl refl refl is ∙ rw taken refl
header_again schema st Two is taken = read_at (wording schema st) (body_of st.due st.version) (line_text (Header Two)) keywords.Journal (Some (codes "2")) refl refl refl is ∙ rw taken refl
header_again schema st Three is taken = read_at (wording schema st) (body_of st.due st.version) (line_text (Header Three)) keywords.Journal (Some (codes "3")) refl refl refl is ∙ rw taken refl

read_again : (schema : Option (List Table)) (st : Standing) (l : Line) → is_due st.place (word_for l) ≡ true → FitsAt st.due st.version l → read_by (wording schema st) (body_of st.due st.version) (line_text l) ≡ Ok l
unfolding body_of
read_again schema st (Header v) is fits = header_again schema st v is fits.of_version
read_again schema st (Previous s) is fits = read_at (wording schema st) (body_of st.due st.version) (line_text (Previous s)) keywords.Previous (Some (set_text s)) refl refl refl is ∙ rw (set_again s fits.words) refl
read_again schema st (Begin g numbers) is fits =
    read_at (wording schema st) (body_of st.due st.version) (line_text (Begin g numbers)) keywords.Txn (Some (gtid_text g ++ numbers_text numbers)) refl refl refl is
    ∙ rw (beginning_again st.version g numbers fits.words.0 fits.words.1 fits.of_version) refl
read_again schema st (Makes (Insert table after)) is fits = read_at (wording schema st) (body_of st.due st.version) (line_text (Makes (Insert table after))) keywords.Ins (Some (table ++ 32 ∷ values_text after)) refl refl refl is ∙ rw (table_again (limits_of st.version) table (values_text after) fits.words.0, image_again after fits.images fits.words.1) refl
read_again schema st (Makes (Delete table before)) is fits = read_at (wording schema st) (body_of st.due st.version) (line_text (Makes (Delete table before))) keywords.Del (Some (table ++ 32 ∷ values_text before)) refl refl refl is ∙ rw (table_again (limits_of st.version) table (values_text before) fits.words.0, image_again before fits.images fits.words.1) refl
read_again schema st (Makes (Update table before after)) is fits =
    read_at (wording schema st) (body_of st.due st.version) (line_text (Makes (Update table before after))) keywords.Upd (Some (table ++ 32 ∷ (values_text before ++ 32 ∷ (124 ∷ 32 ∷ values_text after)))) refl refl refl is
    ∙ rw (table_again (limits_of st.version) table (values_text before ++ 32 ∷ (124 ∷ 32 ∷ values_text after)) fits.words.0, images_again before after fits.images.0 fits.words.1 fits.images.1 fits.words.2) refl
read_again schema st End is fits = read_at (wording schema st) (body_of st.due st.version) (line_text End) keywords.End None refl refl refl is
read_again schema st Close is fits = read_at (wording schema st) (body_of st.due st.version) (line_text Close) keywords.Close None refl refl refl is

pub rest_laws : (schema : Option (List Table)) (s : Standing) → RestLaws (wording schema s) (body_of s.due s.version)
rest_laws schema s = record { found = λ t k e. among_found keyword_text every_keyword t k e; reads = rest_both schema s; again = read_again schema s }
