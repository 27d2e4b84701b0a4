-- Lines of bundles that are written one after another.
use Rattle.std.proofs.Common.{◌≡◌, ℕ, zero, suc, min, ◌≤◌, ◌-◌, Bool, true, false, List, [], ◌∷◌, ◌++◌, length, map, take, drop, get_or, refl, sym, ap, ◌∙◌, append_assoc, arith}
use Rattle.std.specs.Prelude.{codes, decimal}
use Rattle.std.proofs.lemmas.List.{append-nil, take_rest, length-drop}
use Rattle.std.proofs.lemmas.List.Concat.{flat_map-append}
use Rattle.gtid_text.specs.Canonical.{source_text}
use Rattle.gtid_set.specs.Sets.{Gtids}
use Rattle.rows.specs.declared.change.TableRow.{TableRow}
use Rattle.rows.specs.declared.schema.Table.{Table}
use Rattle.journal.specs.Journals.{JournalValue}
use Rattle.row_images.specs.Parts.{joined_by}
use Rattle.txn_journal.specs.Splits.{columns_text}
use Rattle.txn_journal.specs.Shapes.{unique_words, hidden_words, hidden_text, shape_for}
use Rattle.txn_journal.specs.Stamps.{right_stamps, all_stamps}
use Rattle.txn_journal.specs.Spelling.{Line, ended_line, lines_text, journal_lines, spelling_as}
use Rattle.txn_journal.specs.BundleStates.{BundleValue}
use Rattle.txn_journal.specs.WrittenSets.{set_text}
use Rattle.txn_journal.specs.BundleText.{Heads, Names, Starts, Has, Puts, Opens, Refers, Assumes, Done, BundleLine, Own, Inner, preserve_text, ended_bundle_line, bundle_text, table_lines, reference_lines, row_lines, assumption_lines, channel_lines, channels_lines, opening_set_lines, start_lines, bundle_spelling}
use Rattle.txn_journal.specs.Texts.{columns_behind, uniques_text, hidden_part, cascade_part, tables_text, references_text, rows_text, assumptions_text, channel_and_journal_text, channels_and_journals_text, head_text, start_text}
use Rattle.txn_journal.specs.References.{cascade_words, reference_shape}
use Rattle.txn_journal.specs.Assumptions.{assumption_text}
use Rattle.txn_journal.specs.declared.references.Reference.{Reference}
use Rattle.txn_journal.specs.declared.assumptions.Assumption.{Assumption}
use Rattle.txn_journal.specs.declared.bundle.BundleChannel.{BundleChannel}
use Rattle.txn_journal.specs.declared.lines.Version.{Version}

-- ---- the first lines

pub replica_appended : (out : List ℕ) (replica : ℕ) → ((out ++ codes "replica ") ++ source_text replica) ++ codes "\n" ≡ out ++ ended_bundle_line (Own (Names replica))
replica_appended out replica = simp append_assoc

opened_line : (out : List ℕ) (s : Gtids) → ((out ++ codes "opening ") ++ set_text s) ++ codes "\n" ≡ out ++ ended_bundle_line (Own (Starts s))
opened_line out s = simp append_assoc

pub opened_appended : (out : List ℕ) (s : Gtids) → ((out ++ codes "opening ") ++ set_text s) ++ codes "\n" ≡ out ++ bundle_text (Own (Starts s) ∷ [])
opened_appended out s = opened_line out s ∙ ap (λ (t : List ℕ). out ++ t) (sym (append-nil (ended_bundle_line (Own (Starts s)))))

-- two texts after one another, and a text after both
both_behind : (out a b c : List ℕ) → ((out ++ a) ++ b) ++ c ≡ out ++ (a ++ (b ++ c))
both_behind out a b c = simp append_assoc

pub head_appended : (out : List ℕ) (version : Version) (replica : ℕ) (s : Gtids) → ((out ++ ended_bundle_line (Own (Heads version))) ++ ended_bundle_line (Own (Names replica))) ++ bundle_text (opening_set_lines version s) ≡ out ++ head_text version replica s
unfolding head_text
head_appended out version replica s = both_behind out (ended_bundle_line (Own (Heads version))) (ended_bundle_line (Own (Names replica))) (bundle_text (opening_set_lines version s))

-- ---- tables

-- the first of some columns, and the others after it
first_column : (c : ℕ) (cs : List ℕ) → columns_text (c ∷ cs) ≡ decimal c ++ columns_behind cs
first_column c [] = sym (append-nil (decimal c))
first_column c (d ∷ cs) = ap (λ (t : List ℕ). decimal c ++ 44 ∷ t) (first_column d cs)

-- columns that a slice has, by its first and the others
pub columns_cut : (out : List ℕ) (c : ℕ) (cs : List ℕ) → 1 ≤ length cs → c ≡ get_or cs 0 0 → (out ++ decimal c) ++ columns_behind (take (length cs - 1) (drop 1 cs)) ≡ out ++ columns_text cs
columns_cut out c [] some is = absurd (omega arith)
columns_cut out c (d ∷ ds) some is =
    ap (λ (t : List ℕ). (out ++ decimal c) ++ columns_behind t) (take_rest (d ∷ ds) 1)
    ∙ ap (λ (x : ℕ). (out ++ decimal x) ++ columns_behind ds) is
    ∙ append_assoc out (decimal d) (columns_behind ds)
    ∙ ap (λ (t : List ℕ). out ++ t) (sym (first_column d ds))

-- a word, and unique keys after it
hidden_after : (word : List ℕ) (hidden : ℕ) → joined_by 32 (word ∷ hidden_words (hidden_text hidden)) ≡ word ++ hidden_part hidden
hidden_after word zero = sym (append-nil word)
hidden_after word (suc n) = refl

behind_primary : (word : List ℕ) (us : List (List ℕ)) (hidden : ℕ) → joined_by 32 (word ∷ (unique_words (map columns_text us) ++ hidden_words (hidden_text hidden))) ≡ word ++ (uniques_text us ++ hidden_part hidden)
behind_primary word [] hidden = hidden_after word hidden
behind_primary word (u ∷ us) hidden =
    ap (λ (t : List ℕ). word ++ (codes " uk " ++ t)) (behind_primary (columns_text u) us hidden)
    ∙ ap (λ (t : List ℕ). word ++ (codes " uk " ++ t)) (sym (append_assoc (columns_text u) (uniques_text us) (hidden_part hidden)))

all_behind : (out a b c d e f end : List ℕ) → ((((((out ++ a) ++ b) ++ c) ++ d) ++ e) ++ f) ++ end ≡ out ++ (a ++ (b ++ (c ++ (d ++ (e ++ (f ++ end))))))
all_behind out a b c d e f end = simp append_assoc

end_behind : (b c d e f end : List ℕ) → (b ++ (c ++ (d ++ (e ++ f)))) ++ end ≡ b ++ (c ++ (d ++ (e ++ (f ++ end))))
end_behind b c d e f end = simp append_assoc

table_parts : (out name columns primary uniques : List ℕ) → ((((((out ++ codes "table ") ++ name) ++ 32 ∷ columns) ++ codes " pk ") ++ primary) ++ uniques) ++ codes "\n" ≡ out ++ ((codes "table" ++ 32 ∷ (name ++ 32 ∷ (columns ++ 32 ∷ (codes "pk" ++ 32 ∷ (primary ++ uniques))))) ++ 10 ∷ [])
table_parts out name columns primary uniques =
    all_behind out (codes "table ") name (32 ∷ columns) (codes " pk ") primary uniques (codes "\n")
    ∙ ap (λ (t : List ℕ). out ++ (codes "table " ++ t)) (sym (end_behind name (32 ∷ columns) (codes " pk ") primary uniques (codes "\n")))

pub table_appended : (out : List ℕ) (t : Table) → (((((((out ++ codes "table ") ++ t.name) ++ 32 ∷ decimal t.columns) ++ codes " pk ") ++ columns_text t.primary) ++ uniques_text t.uniques) ++ hidden_part t.hidden) ++ codes "\n" ≡ out ++ ended_bundle_line (Own (Has (shape_for t)))
table_appended out t =
    ap (λ (u : List ℕ). u ++ codes "\n") (append_assoc (((((out ++ codes "table ") ++ t.name) ++ 32 ∷ decimal t.columns) ++ codes " pk ") ++ columns_text t.primary) (uniques_text t.uniques) (hidden_part t.hidden))
    ∙ table_parts out t.name (decimal t.columns) (columns_text t.primary) (uniques_text t.uniques ++ hidden_part t.hidden)
    ∙ ap (λ (u : List ℕ). out ++ ((codes "table" ++ 32 ∷ (t.name ++ 32 ∷ (decimal t.columns ++ 32 ∷ (codes "pk" ++ 32 ∷ u)))) ++ 10 ∷ [])) (sym (behind_primary (columns_text t.primary) t.uniques t.hidden))

-- ---- references and assumptions

reference_parts : (out child columns parent key word : List ℕ) → (((((((out ++ codes "fk ") ++ child) ++ codes " ") ++ columns) ++ codes " ") ++ parent) ++ 32 ∷ key) ++ (word ++ 10 ∷ [])
    ≡ out ++ ((codes "fk" ++ 32 ∷ (child ++ 32 ∷ (columns ++ 32 ∷ (parent ++ 32 ∷ (key ++ word))))) ++ 10 ∷ [])
reference_parts out child columns parent key word = simp append_assoc

-- the last words of a reference's line
key_and_more : (key : List ℕ) (c : Bool) → joined_by 32 (key ∷ cascade_words c) ≡ key ++ cascade_part c
key_and_more key true = refl
key_and_more key false = sym (append-nil key)

pub reference_appended : (out : List ℕ) (r : Reference) → (((((((out ++ codes "fk ") ++ r.child) ++ codes " ") ++ columns_text r.columns) ++ codes " ") ++ r.parent) ++ 32 ∷ decimal r.key) ++ (cascade_part r.cascade ++ codes "\n") ≡ out ++ ended_bundle_line (Own (Refers (reference_shape r)))
reference_appended out r =
    reference_parts out r.child (columns_text r.columns) r.parent (decimal r.key) (cascade_part r.cascade)
    ∙ ap (λ (t : List ℕ). out ++ ((codes "fk" ++ 32 ∷ (r.child ++ 32 ∷ (columns_text r.columns ++ 32 ∷ (r.parent ++ 32 ∷ t)))) ++ 10 ∷ [])) (sym (key_and_more (decimal r.key) r.cascade))

pub assumption_appended : (out : List ℕ) (a : Assumption) → ((out ++ codes "assume ") ++ assumption_text a) ++ codes "\n" ≡ out ++ ended_bundle_line (Own (Assumes a))
assumption_appended out a = line_behind out (assumption_text a)
  where
    line_behind : (out text : List ℕ) → ((out ++ codes "assume ") ++ text) ++ codes "\n" ≡ out ++ ((codes "assume" ++ 32 ∷ text) ++ 10 ∷ [])
    line_behind out text = simp append_assoc

-- a word, and a name behind it
pub named_appended : (out word name : List ℕ) → (out ++ word) ++ name ≡ out ++ (word ++ name)
named_appended out word name = append_assoc out word name

-- a word, a name behind it, and spans
pub part_appended : (out word name spans : List ℕ) → ((out ++ (word ++ name)) ++ codes " ") ++ spans ≡ out ++ (word ++ (name ++ 32 ∷ spans))
part_appended out word name spans = simp append_assoc

-- ---- channels

channel_parts : (out name word : List ℕ) → ((out ++ codes "channel ") ++ name) ++ (word ++ 10 ∷ []) ≡ out ++ ((codes "channel" ++ 32 ∷ (name ++ word)) ++ 10 ∷ [])
channel_parts out name word = simp append_assoc

pub preserving_appended : (out : List ℕ) (c : BundleChannel) → c.preserve ≡ true → ((out ++ codes "channel ") ++ c.name) ++ codes " preserve\n" ≡ out ++ ended_bundle_line (Own (Opens c))
preserving_appended out c preserves =
    channel_parts out c.name (codes " preserve")
    ∙ ap (λ (b : Bool). out ++ ((codes "channel" ++ 32 ∷ (c.name ++ preserve_text b)) ++ 10 ∷ [])) (sym preserves)

pub channel_appended : (out : List ℕ) (c : BundleChannel) → c.preserve ≡ false → ((out ++ codes "channel ") ++ c.name) ++ codes "\n" ≡ out ++ ended_bundle_line (Own (Opens c))
channel_appended out c preserves_not =
    channel_parts out c.name []
    ∙ ap (λ (b : Bool). out ++ ((codes "channel" ++ 32 ∷ (c.name ++ preserve_text b)) ++ 10 ∷ [])) (sym preserves_not)

-- the lines of a journal within a bundle
inner_text : (ls : List Line) → bundle_text (map Inner ls) ≡ lines_text ls
inner_text [] = refl
inner_text (l ∷ ls) = ap (λ (t : List ℕ). ended_line l ++ t) (inner_text ls)

pub brought_appended : (out : List ℕ) (version : Version) (tables : List Table) (c : BundleChannel) (j : JournalValue) → (out ++ ended_bundle_line (Own (Opens c))) ++ spelling_as version (right_stamps version tables j.entries) j ≡ out ++ channel_and_journal_text version tables c j
unfolding channel_and_journal_text
brought_appended out version tables c j =
    append_assoc out (ended_bundle_line (Own (Opens c))) (spelling_as version (right_stamps version tables j.entries) j)
    ∙ ap (λ (t : List ℕ). out ++ (ended_bundle_line (Own (Opens c)) ++ t)) (sym (inner_text (journal_lines version (right_stamps version tables j.entries) j)))

none_brought : (version : Version) (tables : List Table) (cs : List BundleChannel) (js : List JournalValue) → min (length cs) (length js) ≡ 0 → channels_and_journals_text version tables cs js ≡ []
none_brought version tables [] js none = refl
none_brought version tables (c ∷ cs) [] none = refl
none_brought version tables (c ∷ cs) (j ∷ js) none = absurd (omega arith)

-- no channel or no journal is left
pub all_brought : (out whole : List ℕ) (version : Version) (tables : List Table) (cs : List BundleChannel) (js : List JournalValue) (n : ℕ) → n ≡ min (length cs) (length js) → out ++ channels_and_journals_text version tables (drop n cs) (drop n js) ≡ whole → out ≡ whole
all_brought out whole version tables cs js n is so_far =
    let none : min (length (drop n cs)) (length (drop n js)) ≡ 0 = rw (length-drop n cs, length-drop n js) omega (arith, is) in
    sym (ap (λ (t : List ℕ). out ++ t) (none_brought version tables (drop n cs) (drop n js) none) ∙ append-nil out) ∙ so_far

-- ---- the whole

four_behind : (out a b c d : List ℕ) → (((out ++ a) ++ b) ++ c) ++ d ≡ out ++ (a ++ (b ++ (c ++ d)))
four_behind out a b c d = simp append_assoc

pub start_appended : (out : List ℕ) (version : Version) (replica : ℕ) (opened : Gtids) (tables : List Table) (references : List Reference) (rows : List TableRow) → (((out ++ head_text version replica opened) ++ tables_text tables) ++ references_text references) ++ rows_text rows ≡ out ++ start_text version replica opened tables references rows
unfolding start_text
start_appended out version replica opened tables references rows = four_behind out (head_text version replica opened) (tables_text tables) (references_text references) (rows_text rows)

both_lines : (a b : List BundleLine) → bundle_text (a ++ b) ≡ bundle_text a ++ bundle_text b
both_lines a b = flat_map-append ended_bundle_line a b

lines_of_tables : (tables : List Table) → tables_text tables ≡ bundle_text (table_lines tables)
lines_of_tables [] = refl
lines_of_tables (t ∷ ts) = ap (λ (u : List ℕ). ended_bundle_line (Own (Has (shape_for t))) ++ u) (lines_of_tables ts)

lines_of_rows : (rows : List TableRow) → rows_text rows ≡ bundle_text (row_lines rows)
lines_of_rows [] = refl
lines_of_rows (r ∷ rs) = ap (λ (u : List ℕ). ended_bundle_line (Own (Puts r)) ++ u) (lines_of_rows rs)

lines_of_references : (references : List Reference) → references_text references ≡ bundle_text (reference_lines references)
lines_of_references [] = refl
lines_of_references (r ∷ rs) = ap (λ (u : List ℕ). ended_bundle_line (Own (Refers (reference_shape r))) ++ u) (lines_of_references rs)

lines_of_assumptions : (said : List Assumption) → assumptions_text said ≡ bundle_text (assumption_lines said)
lines_of_assumptions [] = refl
lines_of_assumptions (a ∷ said) = ap (λ (u : List ℕ). ended_bundle_line (Own (Assumes a)) ++ u) (lines_of_assumptions said)

lines_of_channels : (version : Version) (tables : List Table) (cs : List BundleChannel) (js : List JournalValue) → channels_and_journals_text version tables cs js ≡ bundle_text (channels_lines version cs (all_stamps version tables js) js)
unfolding channel_and_journal_text
lines_of_channels version tables [] js = refl
lines_of_channels version tables (c ∷ cs) [] = refl
lines_of_channels version tables (c ∷ cs) (j ∷ js) =
    ap (λ (u : List ℕ). bundle_text (channel_lines version c (right_stamps version tables j.entries) j) ++ u) (lines_of_channels version tables cs js)
    ∙ sym (both_lines (channel_lines version c (right_stamps version tables j.entries) j) (channels_lines version cs (all_stamps version tables js) js))

lines_of_start : (version : Version) (rows : List TableRow) (b : BundleValue) → start_text version b.replica b.opened b.start.schema b.references rows ≡ bundle_text (start_lines version rows b)
unfolding start_text head_text
lines_of_start version rows b =
    let head : List BundleLine = Own (Heads version) ∷ Own (Names b.replica) ∷ opening_set_lines version b.opened in
    let tables = table_lines b.start.schema in
    let behind : references_text b.references ++ rows_text rows ≡ bundle_text (reference_lines b.references ++ row_lines rows) = (λ i. lines_of_references b.references i ++ lines_of_rows rows i) ∙ sym (both_lines (reference_lines b.references) (row_lines rows)) in
    (λ i. bundle_text head ++ (lines_of_tables b.start.schema i ++ behind i))
    ∙ sym (append_assoc (bundle_text head) (bundle_text tables) (bundle_text (reference_lines b.references ++ row_lines rows)))
    ∙ ap (λ (u : List ℕ). u ++ bundle_text (reference_lines b.references ++ row_lines rows)) (sym (both_lines head tables))
    ∙ sym (both_lines (head ++ tables) (reference_lines b.references ++ row_lines rows))

-- the assumptions, and the last line
lines_of_end : (said : List Assumption) → assumptions_text said ++ codes "done\n" ≡ bundle_text (assumption_lines said ++ Own Done ∷ [])
lines_of_end said = ap (λ (u : List ℕ). u ++ codes "done\n") (lines_of_assumptions said) ∙ sym (both_lines (assumption_lines said) (Own Done ∷ []))

lines_of_bundle : (version : Version) (rows : List TableRow) (b : BundleValue) → (start_text version b.replica b.opened b.start.schema b.references rows ++ channels_and_journals_text version b.start.schema b.channels b.journals) ++ (assumptions_text b.assumptions ++ codes "done\n") ≡ bundle_spelling version rows b
lines_of_bundle version rows b =
    let brought : List BundleLine = channels_lines version b.channels (all_stamps version b.start.schema b.journals) b.journals in
    let end : List BundleLine = assumption_lines b.assumptions ++ Own Done ∷ [] in
    (λ i. (lines_of_start version rows b i ++ lines_of_channels version b.start.schema b.channels b.journals i) ++ lines_of_end b.assumptions i)
    ∙ ap (λ (u : List ℕ). u ++ bundle_text end) (sym (both_lines (start_lines version rows b) brought))
    ∙ sym (both_lines (start_lines version rows b ++ brought) end)

pub bundle_appended : (out : List ℕ) (version : Version) (rows : List TableRow) (b : BundleValue) → (((out ++ start_text version b.replica b.opened b.start.schema b.references rows) ++ channels_and_journals_text version b.start.schema b.channels b.journals) ++ assumptions_text b.assumptions) ++ codes "done\n" ≡ out ++ bundle_spelling version rows b
bundle_appended out version rows b =
    let start = start_text version b.replica b.opened b.start.schema b.references rows in
    let brought = channels_and_journals_text version b.start.schema b.channels b.journals in
    ends_behind out start brought (assumptions_text b.assumptions) (codes "done\n") ∙ ap (λ (u : List ℕ). out ++ u) (lines_of_bundle version rows b)
  where
    ends_behind : (out a b c d : List ℕ) → (((out ++ a) ++ b) ++ c) ++ d ≡ out ++ ((a ++ b) ++ (c ++ d))
    ends_behind out a b c d = simp append_assoc
