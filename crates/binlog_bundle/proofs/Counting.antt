-- A bundle has a journal for each line of a channel that its text has.
use Rattle.std.proofs.Common.{◌≡◌, ℕ, suc, ◌+◌, ◌≤◌, Bool, true, false, eqb, not, List, [], ◌∷◌, ◌++◌, length, map, codes, Option, Some, None, Result, Ok, refl, sym, ap, ◌∙◌, subst, append_assoc, append-nil, zero-add, add_assoc, arith}
use Rattle.std.specs.Prelude.{MatchResult}
use Rattle.std.specs.List.{flat_map, list_all, AllByRecursion}
use Rattle.std.proofs.lemmas.Bool.{and_parts}
use Rattle.std.proofs.lemmas.List.{append_cancel_right, map-append}
use Rattle.std.proofs.lemmas.Slice.Eq.{starts_is}
use Rattle.std.proofs.lemmas.Bool.Decides.{Decides-eqb}
use Rattle.lemmas.proofs.Tests.{false_from_not}
use Rattle.gtid_set.specs.Sets.{Gtids}
use Rattle.rows.specs.declared.change.Change.TheVariants.{Insert, Delete, Update}
use Rattle.rows.specs.declared.change.TableRow.{TableRow}
use Rattle.rows.specs.declared.schema.Table.{Table}
use Rattle.journal.specs.Journals.{JournalValue}
use Rattle.txn_journal.specs.BundleLinesSoFar.{bundle_lines_so_far_at}
use Rattle.txn_journal.specs.BundleStates.{BundleValue, BundleStanding, is_done, judge_bundle, no_bundle}
use Rattle.txn_journal.specs.BundleText.{BundleLine, Own, Inner, Heads, Names, Starts, Has, Refers, Puts, Opens, Assumes, Done, bundle_line_text, bundle_front, channel_lines, channels_lines, start_lines, table_lines, reference_lines, row_lines, assumption_lines, opening_set_lines, WritesBundle}
use Rattle.txn_journal.specs.declared.references.Reference.{Reference}
use Rattle.txn_journal.specs.declared.assumptions.Assumption.{Assumption}
use Rattle.txn_journal.specs.BundleCauses.{HasBundleCause}
use Rattle.txn_journal.specs.BundleReading.{plain_bundles}
use Rattle.txn_journal.specs.Places.{place_text, PlacedLine, AtPlace, Plain, without_places, placed_text, text_with_places, text_without_places, StandBeforeEntries}
use Rattle.txn_journal.specs.Spelling.{Line, Header, Previous, Begin, Makes, End, Close, ended_line, lines_text, front_lines, journal_lines, spelling_as}
use Rattle.txn_journal.specs.Stamps.{all_stamps}
use Rattle.txn_journal.specs.Words.{IsOneLine}
use Rattle.txn_journal.specs.declared.bundle.BundleChannel.{BundleChannel}
use Rattle.txn_journal.specs.declared.bundle_draft.Part.{Part}
use Rattle.txn_journal.specs.declared.bundle_draft.Part.TheVariants as parts
use Rattle.txn_journal.specs.declared.fault.Cause.{Cause}
use Rattle.txn_journal.specs.declared.lines.Version.{Version}
use Rattle.txn_journal.specs.declared.lines.Version.TheVariants.{One, Two, Three}
use Rattle.txn_journal.proofs.FormatLaws.{same_texts, lines_read}
use Rattle.txn_journal.proofs.BundleLaws.{IsSoundPlain, plain_bundle_laws}
use Rattle.txn_journal.specs.declared.lines.Due.TheVariants.{Any}
use Rattle.binlog_entries.proofs.TransactionLaws.{flat_map_more}
use Rattle.binlog_bundle.specs.Lines.{with_line_feed, is_channel}
use Rattle.binlog_bundle.specs.Executed.{HadExecuted}
use Rattle.binlog_bundle.specs.Bundles.{done_line, ImportedLog, journal_text, IsStart, IsImported}
use Rattle.binlog_bundle.specs.declared.grants.Grants.{Grants}
use Rattle.binlog_bundle.specs.Logs.{Terms}

-- ---- lines that begin with `channel `

abbrev counted : Bool → ℕ
counted true = 1
counted false = 0

least : (n : ℕ) → 0 ≤ n
least n = omega arith

-- how many lines of the text begin so; it begins with a line, or within one
abbrev lines_with : Bool → List ℕ → ℕ
lines_with b [] = 0
lines_with true (c ∷ cs) = counted (is_channel (c ∷ cs)) + lines_with (eqb c 10) cs
lines_with false (c ∷ cs) = lines_with (eqb c 10) cs

-- what comes after a line feed has no more of them than the whole
behind_feed : (b : Bool) (xs ys : List ℕ) → lines_with true ys ≤ lines_with b (xs ++ 10 ∷ ys)
behind_feed true [] ys =
    let e : lines_with true ([] ++ 10 ∷ ys) ≡ counted (is_channel (10 ∷ ys)) + lines_with true ys = refl in
    omega (arith, e)
behind_feed false [] ys =
    let e : lines_with false ([] ++ 10 ∷ ys) ≡ lines_with true ys = refl in
    omega (arith, e)
behind_feed true (x ∷ xs) ys =
    let h = behind_feed (eqb x 10) xs ys in
    let e : lines_with true ((x ∷ xs) ++ 10 ∷ ys) ≡ counted (is_channel ((x ∷ xs) ++ 10 ∷ ys)) + lines_with (eqb x 10) (xs ++ 10 ∷ ys) = refl in
    omega (arith, h, e)
behind_feed false (x ∷ xs) ys = behind_feed (eqb x 10) xs ys

behind_lines : (ls : List (PlacedLine BundleLine)) (ys : List ℕ) → lines_with true ys ≤ lines_with true (text_with_places bundle_line_text ls ++ ys)
behind_lines [] ys = omega arith
behind_lines (l ∷ ls) ys =
    let text = placed_text bundle_line_text l in
    let rest = text_with_places bundle_line_text ls in
    let h = behind_lines ls ys in
    let k = behind_feed true text (rest ++ ys) in
    let e = append_assoc (text ++ 10 ∷ []) rest ys ∙ append_assoc text (10 ∷ []) (rest ++ ys) in
    let m : lines_with true ys ≤ lines_with true (text ++ 10 ∷ (rest ++ ys)) = omega (arith, h, k) in
    subst (λ (xs : List ℕ). lines_with true ys ≤ lines_with true xs) (sym e) m

-- ---- channels that are written

channel_here : (rest ys : List ℕ) → lines_with true ys + 1 ≤ lines_with true ((codes "channel " ++ rest) ++ 10 ∷ ys)
channel_here rest ys =
    let h = behind_feed false (codes "hannel " ++ rest) ys in
    let e : lines_with true ((codes "channel " ++ rest) ++ 10 ∷ ys) ≡ 1 + lines_with false ((codes "hannel " ++ rest) ++ 10 ∷ ys) = refl in
    omega (arith, h, e)

own_begins : (grants : Grants) (line own : List ℕ) (executed : Option Gtids) → is_channel line ≡ true → HadExecuted grants line own executed → (rest : List ℕ) × (own ≡ codes "channel " ++ rest)
own_begins grants line own (Some executed) is (word, says, reads) = (_, says.own_is)
own_begins grants line own None is (cut, granted) = (_, cut.0 ∙ (starts_is Decides-eqb line (codes "channel ") (is_channel line) refl).0 is)

-- the text of a journal ends with a line feed
journal_ends : (version : Version) (stamps : List ℕ) (j : JournalValue) → (front : List ℕ) × (spelling_as version stamps j ≡ front ++ 10 ∷ [])
journal_ends version stamps j = (lines_text (front_lines version stamps j) ++ codes "close", flat_map_more ended_line (front_lines version stamps j) Close ∙ sym (append_assoc (lines_text (front_lines version stamps j)) (codes "close") (10 ∷ [])))

journal_behind : (journal front ys : List ℕ) → journal ≡ front ++ 10 ∷ [] → lines_with true ys ≤ lines_with true (journal ++ ys)
journal_behind journal front ys e =
    subst (λ (xs : List ℕ). lines_with true ys ≤ lines_with true xs) (sym (ap (λ (xs : List ℕ). xs ++ ys) e ∙ append_assoc front (10 ∷ []) ys)) (behind_feed true front ys)

channel_counts : (own journal ys : List ℕ) (rest : List ℕ) → own ≡ codes "channel " ++ rest → lines_with true ys ≤ lines_with true (journal ++ ys) → lines_with true ys + 1 ≤ lines_with true ((with_line_feed own ++ journal) ++ ys)
channel_counts own journal ys rest e h =
    let is : (with_line_feed own ++ journal) ++ ys ≡ (codes "channel " ++ rest) ++ 10 ∷ (journal ++ ys) =
    append_assoc (with_line_feed own) journal ys ∙ append_assoc own (10 ∷ []) (journal ++ ys) ∙ ap (λ (xs : List ℕ). xs ++ 10 ∷ (journal ++ ys)) e in
    let k = channel_here rest (journal ++ ys) in
    let m : lines_with true ys + 1 ≤ lines_with true ((codes "channel " ++ rest) ++ 10 ∷ (journal ++ ys)) = omega (arith, h, k) in
    subst (λ (xs : List ℕ). lines_with true ys + 1 ≤ lines_with true xs) (sym is) m

channels_count : (terms : Terms) (plain : List ℕ) (cs : List ImportedLog) (ys : List ℕ) → AllByRecursion (IsImported terms plain) cs → length cs ≤ lines_with true (flat_map journal_text cs ++ ys)
channels_count terms plain [] ys all = least (lines_with true ys)
channels_count terms plain (c ∷ cs) ys all =
    let h = channels_count terms plain cs ys all.1 in
    let own = own_begins terms.grants c.line c.own c.executed all.0.channel all.0.says in
    let ends = journal_ends Three _ (record { previous = all.0.imports.previous; entries = all.0.imports.entries }) in
    let behind = journal_behind c.journal ends.0 (flat_map journal_text cs ++ ys) (all.0.imports.writes.spells ∙ ends.1) in
    let k = channel_counts c.own c.journal (flat_map journal_text cs ++ ys) own.0 own.1 behind in
    let m : suc (length cs) ≤ lines_with true (journal_text c ++ (flat_map journal_text cs ++ ys)) = omega (arith, h, k) in
    subst (λ (xs : List ℕ). suc (length cs) ≤ lines_with true xs) (sym (append_assoc (journal_text c) (flat_map journal_text cs) ys)) m

-- ---- lines of a bundle

abbrev opens : BundleLine → ℕ
opens (Own (Opens c)) = 1
opens (Own (Heads version)) = 0
opens (Own (Names replica)) = 0
opens (Own (Starts opened)) = 0
opens (Own (Has shape)) = 0
opens (Own (Refers shape)) = 0
opens (Own (Puts r)) = 0
opens (Own (Assumes a)) = 0
opens (Own Done) = 0
opens (Inner l) = 0

abbrev opened : List BundleLine → ℕ
opened [] = 0
opened (l ∷ ls) = opens l + opened ls

most_one : (b : Bool) → counted b ≤ 1
most_one true = omega arith
most_one false = omega arith

none_counted : (b : Bool) → b ≡ false → counted b ≤ 0
none_counted b e = subst (λ (v : Bool). counted v ≤ 0) (sym e) (omega arith)

-- a line that opens no channel doesn't begin so
other_begins : (l : BundleLine) (ys : List ℕ) → counted (is_channel (bundle_line_text l ++ 10 ∷ ys)) ≤ opens l
other_begins (Own (Opens c)) ys = most_one (is_channel (bundle_line_text (Own (Opens c)) ++ 10 ∷ ys))
other_begins (Own (Heads version)) ys = none_counted (is_channel (bundle_line_text (Own (Heads version)) ++ 10 ∷ ys)) refl
other_begins (Own (Names replica)) ys = none_counted (is_channel (bundle_line_text (Own (Names replica)) ++ 10 ∷ ys)) refl
other_begins (Own (Starts opened)) ys = none_counted (is_channel (bundle_line_text (Own (Starts opened)) ++ 10 ∷ ys)) refl
other_begins (Own (Has shape)) ys = none_counted (is_channel (bundle_line_text (Own (Has shape)) ++ 10 ∷ ys)) refl
other_begins (Own (Refers shape)) ys = none_counted (is_channel (bundle_line_text (Own (Refers shape)) ++ 10 ∷ ys)) refl
other_begins (Own (Assumes a)) ys = none_counted (is_channel (bundle_line_text (Own (Assumes a)) ++ 10 ∷ ys)) refl
other_begins (Own (Puts r)) ys = none_counted (is_channel (bundle_line_text (Own (Puts r)) ++ 10 ∷ ys)) refl
other_begins (Own Done) ys = none_counted (is_channel (bundle_line_text (Own Done) ++ 10 ∷ ys)) refl
other_begins (Inner (Header version)) ys = none_counted (is_channel (bundle_line_text (Inner (Header version)) ++ 10 ∷ ys)) refl
other_begins (Inner (Previous s)) ys = none_counted (is_channel (bundle_line_text (Inner (Previous s)) ++ 10 ∷ ys)) refl
other_begins (Inner (Begin g numbers)) ys = none_counted (is_channel (bundle_line_text (Inner (Begin g numbers)) ++ 10 ∷ ys)) refl
other_begins (Inner (Makes (Insert table after))) ys = none_counted (is_channel (bundle_line_text (Inner (Makes (Insert table after))) ++ 10 ∷ ys)) refl
other_begins (Inner (Makes (Delete table before))) ys = none_counted (is_channel (bundle_line_text (Inner (Makes (Delete table before))) ++ 10 ∷ ys)) refl
other_begins (Inner (Makes (Update table before after))) ys = none_counted (is_channel (bundle_line_text (Inner (Makes (Update table before after))) ++ 10 ∷ ys)) refl
other_begins (Inner End) ys = none_counted (is_channel (bundle_line_text (Inner End) ++ 10 ∷ ys)) refl
other_begins (Inner Close) ys = none_counted (is_channel (bundle_line_text (Inner Close) ++ 10 ∷ ys)) refl

within_line : (text ys : List ℕ) → IsOneLine text → lines_with false (text ++ 10 ∷ ys) ≡ lines_with true ys
within_line [] ys one = refl
within_line (b ∷ bs) ys one =
    let p = and_parts (not (eqb b 10)) (list_all (λ x. not (eqb x 10)) bs) one in
    ap (λ (v : Bool). lines_with v (bs ++ 10 ∷ ys)) (false_from_not (eqb b 10) p.0) ∙ within_line bs ys p.1

one_line_counts : (text ys : List ℕ) → IsOneLine text → lines_with true (text ++ 10 ∷ ys) ≡ counted (is_channel (text ++ 10 ∷ ys)) + lines_with true ys
one_line_counts [] ys one = refl
one_line_counts (b ∷ bs) ys one =
    let p = and_parts (not (eqb b 10)) (list_all (λ x. not (eqb x 10)) bs) one in
    ap (λ (k : ℕ). counted (is_channel ((b ∷ bs) ++ 10 ∷ ys)) + k) (ap (λ (v : Bool). lines_with v (bs ++ 10 ∷ ys)) (false_from_not (eqb b 10) p.0) ∙ within_line bs ys p.1)

-- places are no lines of channels
placed_counts : (ls : List (PlacedLine BundleLine)) (ks : List BundleLine) → AllByRecursion (λ l. IsOneLine (placed_text bundle_line_text l)) ls → map bundle_line_text (without_places ls) ≡ map bundle_line_text ks → lines_with true (text_with_places bundle_line_text ls) ≤ opened ks
placed_counts [] ks whole same = least (opened ks)
placed_counts (AtPlace p ∷ ls) ks whole same =
    let rest = text_with_places bundle_line_text ls in
    let h = placed_counts ls ks whole.1 same in
    let e : lines_with true (place_text p ++ 10 ∷ rest) ≡ 0 + lines_with true rest = one_line_counts (place_text p) rest whole.0 in
    let m : lines_with true (place_text p ++ 10 ∷ rest) ≤ opened ks = omega (arith, h, e) in
    subst (λ (xs : List ℕ). lines_with true xs ≤ opened ks) (sym (append_assoc (place_text p) (10 ∷ []) rest)) m
placed_counts (Plain l ∷ ls) [] whole same = absurd cc
placed_counts (Plain l ∷ ls) (k ∷ ks) whole same =
    let rest = text_with_places bundle_line_text ls in
    let same_text : bundle_line_text l ≡ bundle_line_text k = cc in
    let same_rest : map bundle_line_text (without_places ls) ≡ map bundle_line_text ks = cc in
    let h = placed_counts ls ks whole.1 same_rest in
    let b = subst (λ (xs : List ℕ). counted (is_channel (xs ++ 10 ∷ rest)) ≤ opens k) (sym same_text) (other_begins k rest) in
    let e = one_line_counts (bundle_line_text l) rest whole.0 in
    let m : lines_with true (bundle_line_text l ++ 10 ∷ rest) ≤ opens k + opened ks = omega (arith, h, b, e) in
    subst (λ (xs : List ℕ). lines_with true xs ≤ opens k + opened ks) (sym (append_assoc (bundle_line_text l) (10 ∷ []) rest)) m

-- ---- the lines of a whole bundle

opened_both : (xs ys : List BundleLine) → opened (xs ++ ys) ≡ opened xs + opened ys
opened_both [] ys = sym (zero-add (opened ys))
opened_both (x ∷ xs) ys = ap (λ (k : ℕ). opens x + k) (opened_both xs ys) ∙ sym (add_assoc (opens x) (opened xs) (opened ys))

opened_inner : (ls : List Line) → opened (map Inner ls) ≡ 0
opened_inner [] = refl
opened_inner (l ∷ ls) = ap (λ (k : ℕ). 0 + k) (opened_inner ls)

opened_tables : (ts : List Table) → opened (table_lines ts) ≡ 0
opened_tables [] = refl
opened_tables (t ∷ ts) = ap (λ (k : ℕ). 0 + k) (opened_tables ts)

opened_rows : (rs : List TableRow) → opened (row_lines rs) ≡ 0
opened_rows [] = refl
opened_rows (r ∷ rs) = ap (λ (k : ℕ). 0 + k) (opened_rows rs)

opened_references : (rs : List Reference) → opened (reference_lines rs) ≡ 0
opened_references [] = refl
opened_references (r ∷ rs) = ap (λ (k : ℕ). 0 + k) (opened_references rs)

opened_assumptions : (said : List Assumption) → opened (assumption_lines said) ≡ 0
opened_assumptions [] = refl
opened_assumptions (a ∷ said) = ap (λ (k : ℕ). 0 + k) (opened_assumptions said)

opened_opening : (version : Version) (s : Gtids) → opened (opening_set_lines version s) ≡ 0
opened_opening One s = refl
opened_opening Two s = refl
opened_opening Three s = refl

opened_start : (version : Version) (rows : List TableRow) (b : BundleValue) → opened (start_lines version rows b) ≡ 0
opened_start version rows b =
    let first : List BundleLine = Own (Heads version) ∷ Own (Names b.replica) ∷ opening_set_lines version b.opened in
    let none : opened first ≡ 0 = ap (λ (k : ℕ). 0 + (0 + k)) (opened_opening version b.opened) in
    opened_both (first ++ table_lines b.start.schema) (reference_lines b.references ++ row_lines rows)
    ∙ (λ i. (opened_both first (table_lines b.start.schema) ∙ (λ j. none j + opened_tables b.start.schema j)) i + (opened_both (reference_lines b.references) (row_lines rows) ∙ (λ j. opened_references b.references j + opened_rows rows j)) i)

opened_channels : (version : Version) (cs : List BundleChannel) (all : List (List ℕ)) (js : List JournalValue) → opened (channels_lines version cs all js) ≤ length js
opened_channels version [] all js = least (length js)
opened_channels version (c ∷ cs) [] js = least (length js)
opened_channels version (c ∷ cs) (stamps ∷ all) [] = least 0
opened_channels version (c ∷ cs) (stamps ∷ all) (j ∷ js) =
    let e = opened_both (channel_lines version c stamps j) (channels_lines version cs all js) in
    let f : opened (channel_lines version c stamps j) ≡ 1 = ap (λ (k : ℕ). 1 + k) (opened_inner (journal_lines version stamps j)) in
    let h = opened_channels version cs all js in
    let m : opened (channel_lines version c stamps j ++ channels_lines version cs all js) ≤ suc (length js) = omega (arith, e, f, h) in
    m

opened_front : (version : Version) (rows : List TableRow) (stamps : List (List ℕ)) (b : BundleValue) → opened (bundle_front version rows stamps b ++ (assumption_lines b.assumptions ++ Own Done ∷ [])) ≤ length b.journals
opened_front version rows stamps b =
    let last : List BundleLine = Own Done ∷ [] in
    let e = opened_both (bundle_front version rows stamps b) (assumption_lines b.assumptions ++ last) in
    let d : opened (assumption_lines b.assumptions ++ last) ≡ 0 = opened_both (assumption_lines b.assumptions) last ∙ (λ i. opened_assumptions b.assumptions i + 0) in
    let f = opened_both (start_lines version rows b) (channels_lines version b.channels stamps b.journals) in
    let g = opened_start version rows b in
    let h = opened_channels version b.channels stamps b.journals in
    let k : opened (bundle_front version rows stamps b) ≤ length b.journals = omega (arith, f, g, h) in
    omega (arith, e, d, k)

opened_last : (part : Part) (rows : List TableRow) (s : BundleStanding) → is_done part ≡ true → opened (bundle_lines_so_far_at part rows s) ≤ length s.bundle.journals
opened_last parts.Ended rows s e = opened_front s.version rows (all_stamps s.version s.bundle.start.schema s.bundle.journals) s.bundle
opened_last parts.Header rows s e = absurd cc
opened_last parts.Replica rows s e = absurd cc
opened_last parts.Opening rows s e = absurd cc
opened_last parts.Tables rows s e = absurd cc
opened_last parts.References rows s e = absurd cc
opened_last parts.Rows rows s e = absurd cc
opened_last parts.Channels rows s e = absurd cc
opened_last parts.Journal rows s e = absurd cc
opened_last parts.Assumptions rows s e = absurd cc

-- ---- lines that are read

whole_texts : (ls : List BundleLine) → AllByRecursion (λ l. IsOneLine (bundle_line_text l)) ls → AllByRecursion IsOneLine (map bundle_line_text ls)
whole_texts [] all = tt
whole_texts (l ∷ ls) all = (all.0, whole_texts ls all.1)

-- the lines of a text without its places, which have made the bundle
record AreMade (ls : List (PlacedLine BundleLine)) (b : BundleValue) : Type 0 where
  lines : List BundleLine
  texts_are : map bundle_line_text (without_places ls) ≡ map bundle_line_text lines
  front : List BundleLine
  last : lines ≡ front ++ Own Done ∷ []
  few : opened lines ≤ length b.journals

last_lines : (part : Part) (rows : List TableRow) (s : BundleStanding) → is_done part ≡ true → (front : List BundleLine) × (bundle_lines_so_far_at part rows s ≡ front ++ Own Done ∷ [])
last_lines parts.Ended rows s e =
    let before = bundle_front s.version rows (all_stamps s.version s.bundle.start.schema s.bundle.journals) s.bundle in
    (before ++ assumption_lines s.bundle.assumptions, sym (append_assoc before (assumption_lines s.bundle.assumptions) (Own Done ∷ [])))
last_lines part rows s e = absurd cc

whole_plain : (ls : List (PlacedLine BundleLine)) → AllByRecursion (λ l. IsOneLine (placed_text bundle_line_text l)) ls → AllByRecursion (λ l. IsOneLine (bundle_line_text l)) (without_places ls)
whole_plain [] whole = tt
whole_plain (AtPlace p ∷ ls) whole = whole_plain ls whole.1
whole_plain (Plain l ∷ ls) whole = (whole.0, whole_plain ls whole.1)

are_made : (bytes : List ℕ) (b : BundleValue) (w : WritesBundle bytes b) → AreMade w.lines b
are_made bytes b w =
    let r = (plain_bundle_laws Any).reads (text_without_places bundle_line_text w.lines) b w.written in
    let whole = whole_texts r.lines r.leads.whole in
    let are = lines_read (plain_bundles Any) (IsSoundPlain Any) (plain_bundle_laws Any) (map bundle_line_text r.lines) (no_bundle Any) r.last [] ((plain_bundle_laws Any).starts) whole r.leads.run in
    let same = same_texts bundle_line_text (without_places w.lines) r.lines (whole_plain w.lines w.fit.whole) r.leads.whole r.parts in
    let last = last_lines r.last.part are.sound.1.0 r.last r.done in
    let most = subst (λ (ls : List BundleLine). opened ls ≤ length r.last.bundle.journals) are.sound.1.1 (opened_last r.last.part are.sound.1.0 r.last r.done) in
    record {
      lines = are.lines;
      texts_are = sym same ∙ sym are.texts_are;
      front = last.0;
      last = sym are.sound.1.1 ∙ last.1;
      few = subst (λ (v : BundleValue). opened are.lines ≤ length v.journals) r.value most;
    }

journals_counted : (bytes : List ℕ) (b : BundleValue) → WritesBundle bytes b → lines_with true bytes ≤ length b.journals
journals_counted bytes b w =
    let made = are_made bytes b w in
    let count = placed_counts w.lines made.lines w.fit.whole made.texts_are in
    let few = made.few in
    subst (λ (xs : List ℕ). lines_with true xs ≤ length b.journals) (sym w.parts) (omega (arith, count, few))

-- ---- the plain head

none_plain : (ls : List (PlacedLine BundleLine)) → without_places ls ≡ [] → StandBeforeEntries bundle_line_text false false ls → ls ≡ []
none_plain [] none stand = refl
none_plain (AtPlace p ∷ []) none stand = absurd (let k = stand.1 in cc)
none_plain (AtPlace p ∷ AtPlace q ∷ ls) none stand = absurd stand.1
none_plain (AtPlace p ∷ Plain l ∷ ls) none stand = absurd cc
none_plain (Plain l ∷ ls) none stand = absurd cc

none_mapped : (ls : List BundleLine) → map bundle_line_text ls ≡ [] → ls ≡ []
none_mapped [] e = refl
none_mapped (l ∷ ls) e = absurd cc

-- the last line is no place
record EndsWith (ls : List (PlacedLine BundleLine)) (text : List ℕ) : Type 0 where
  front : List (PlacedLine BundleLine)
  last : BundleLine
  parts : ls ≡ front ++ Plain last ∷ []
  is : bundle_line_text last ≡ text

one_before : (l : PlacedLine BundleLine) (ls : List (PlacedLine BundleLine)) (text : List ℕ) → EndsWith ls text → EndsWith (l ∷ ls) text
one_before l ls text h = record { front = l ∷ h.front; last = h.last; parts = ap (λ (xs : List (PlacedLine BundleLine)). l ∷ xs) h.parts; is = h.is }

ends_with : (before : Bool) (ls : List (PlacedLine BundleLine)) (xs : List BundleLine) (text : List ℕ) → StandBeforeEntries bundle_line_text before false ls → map bundle_line_text (without_places ls) ≡ map bundle_line_text xs ++ text ∷ [] → EndsWith ls text
ends_with before [] [] text stand same = absurd cc
ends_with before [] (x ∷ xs) text stand same = absurd cc
ends_with true (AtPlace p ∷ ls) xs text stand same = absurd stand
ends_with false (AtPlace p ∷ ls) xs text stand same = one_before (AtPlace p) ls text (ends_with true ls xs text stand.1 same)
ends_with true (Plain l ∷ ls) [] text stand same =
    let is : bundle_line_text l ≡ text = cc in
    let rest : map bundle_line_text (without_places ls) ≡ [] = cc in
    record { front = []; last = l; parts = ap (λ (xs : List (PlacedLine BundleLine)). Plain l ∷ xs) (none_plain ls (none_mapped (without_places ls) rest) stand.1); is = is }
ends_with false (Plain l ∷ ls) [] text stand same =
    let is : bundle_line_text l ≡ text = cc in
    let rest : map bundle_line_text (without_places ls) ≡ [] = cc in
    record { front = []; last = l; parts = ap (λ (xs : List (PlacedLine BundleLine)). Plain l ∷ xs) (none_plain ls (none_mapped (without_places ls) rest) stand); is = is }
ends_with true (Plain l ∷ ls) (x ∷ xs) text stand same =
    let rest : map bundle_line_text (without_places ls) ≡ map bundle_line_text xs ++ text ∷ [] = cc in
    one_before (Plain l) ls text (ends_with false ls xs text stand.1 rest)
ends_with false (Plain l ∷ ls) (x ∷ xs) text stand same =
    let rest : map bundle_line_text (without_places ls) ≡ map bundle_line_text xs ++ text ∷ [] = cc in
    one_before (Plain l) ls text (ends_with false ls xs text stand rest)

plain_lines : (plain : List ℕ) (start : BundleValue) → IsStart plain start → (ls : List (PlacedLine BundleLine)) × (plain ≡ text_with_places bundle_line_text ls)
plain_lines plain start h =
    let w : WritesBundle (plain ++ done_line) start = record { lines = h.lines; parts = h.parts; fit = h.fit; written = (h.written.0, refl, h.written.2) } in
    let made = are_made (plain ++ done_line) start w in
    let same : map bundle_line_text (without_places w.lines) ≡ map bundle_line_text made.front ++ codes "done" ∷ [] = made.texts_are ∙ ap (map bundle_line_text) made.last ∙ map-append bundle_line_text made.front (Own Done ∷ []) in
    let end = ends_with false w.lines made.front (codes "done") w.fit.stand same in (
      end.front,
      append_cancel_right plain (text_with_places bundle_line_text end.front) done_line (
          w.parts ∙ ap (text_with_places bundle_line_text) end.parts
          ∙ flat_map_more (λ l. placed_text bundle_line_text l ++ 10 ∷ []) end.front (Plain end.last)
          ∙ ap (λ (xs : List ℕ). text_with_places bundle_line_text end.front ++ (xs ++ 10 ∷ [])) end.is
          ),
    )

pub as_many_journals : (terms : Terms) (plain : List ℕ) (cs : List ImportedLog) (tail : List ℕ) (b : BundleValue) → AllByRecursion (IsImported terms plain) cs → WritesBundle ((plain ++ flat_map journal_text cs) ++ tail) b → length cs ≤ length b.journals
as_many_journals terms plain [] tail b all w = least (length b.journals)
as_many_journals terms plain (c ∷ cs) tail b all w =
    let head = plain_lines plain all.0.start all.0.has in
    let front = behind_lines head.0 (flat_map journal_text (c ∷ cs) ++ tail) in
    let P : List ℕ → Type 0 = λ xs. lines_with true (flat_map journal_text (c ∷ cs) ++ tail) ≤ lines_with true (xs ++ (flat_map journal_text (c ∷ cs) ++ tail)) in
    let whole = subst P (sym head.1) front in
    let rest = channels_count terms plain (c ∷ cs) tail all in
    let is = append_assoc plain (flat_map journal_text (c ∷ cs)) tail in
    let most = journals_counted _ b (subst (λ (xs : List ℕ). WritesBundle xs b) is w) in
    omega (arith, whole, rest, most)
