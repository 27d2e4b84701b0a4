-- Lines that are written one after another.
use Rattle.std.proofs.Common.{◌≡◌, ℕ, ◌+◌, List, [], ◌∷◌, ◌++◌, Option, None, map, refl, sym, ap, ◌∙◌, append_assoc}
use Rattle.std.specs.Prelude.{codes}
use Rattle.std.proofs.lemmas.List.{append-nil}
use Rattle.std.proofs.lemmas.List.Concat.{flat_map-append}
use Rattle.gtid_text.specs.declared.Gtid.{Gtid}
use Rattle.gtid_text.specs.Canonical.{gtid_text}
use Rattle.gtid_set.specs.Sets.{Gtids}
use Rattle.row_images.specs.declared.value.Value.{Value}
use Rattle.rows.specs.declared.change.Change.{Change}
use Rattle.rows.specs.declared.change.Change.TheVariants.{Update}
use Rattle.journal.specs.declared.Entry.{Entry}
use Rattle.journal.specs.Journals.{JournalValue}
use Rattle.txn_journal.specs.WrittenSets.{set_text}
use Rattle.txn_journal.specs.Lines.{Numbers}
use Rattle.txn_journal.specs.Stamps.{no_stamps}
use Rattle.txn_journal.specs.Spelling.{Line, Header, Previous, Makes, Begin, End, Close, image_text, change_text, numbers_text, line_text, ended_line, lines_text, numbers_of, entry_lines, entries_lines, opening_lines, spelling, spelling_as}
use Rattle.row_images.specs.Images.{values_text}
use Rattle.txn_journal.specs.Texts.{changes_text, body_text, entries_text, stamped_text, opening_text, text_around}
use Rattle.txn_journal.specs.declared.lines.Version.{Version}
use Rattle.txn_journal.specs.declared.lines.Version.TheVariants.{One}

pub image_appended : (out word table : List ℕ) (image : List Value) → ((((out ++ word) ++ codes " ") ++ table) ++ codes " ") ++ values_text image ≡ out ++ image_text word table image
image_appended out word table image = simp append_assoc

pub two_images_text : (out table : List ℕ) (before after : List Value) → ((out ++ image_text (codes "upd") table before) ++ codes " | ") ++ values_text after ≡ out ++ change_text (Update table before after)
two_images_text out table before after = simp append_assoc

pub begin_appended : (out : List ℕ) (g : Gtid) → (out ++ codes "txn ") ++ gtid_text g ≡ out ++ line_text (Begin g None)
begin_appended out g = append_assoc out (codes "txn ") (gtid_text g) ∙ ap (λ (t : List ℕ). out ++ (codes "txn " ++ t)) (sym (append-nil (gtid_text g)))

-- the lines of changes
changes_lines : (cs : List Change) → changes_text cs ≡ lines_text (map Makes cs)
changes_lines [] = refl
changes_lines (c ∷ cs) = ap (λ (t : List ℕ). ended_line (Makes c) ++ t) (changes_lines cs)

-- the body of an entry, after its first line
body_lines : (cs : List Change) → body_text cs ≡ codes "\n" ++ lines_text (map Makes cs ++ End ∷ [])
body_lines cs = ap (λ (t : List ℕ). codes "\n" ++ t) (ap (λ (t : List ℕ). t ++ codes "end\n") (changes_lines cs) ∙ sym (flat_map-append ended_line (map Makes cs) (End ∷ [])))

first_ended : (out line rest : List ℕ) → (out ++ line) ++ (codes "\n" ++ rest) ≡ out ++ ((line ++ codes "\n") ++ rest)
first_ended out line rest = simp append_assoc

body_behind : (out : List ℕ) (numbers : Option Numbers) (e : Entry) → (out ++ line_text (Begin e.gtid numbers)) ++ body_text e.txn.changes ≡ out ++ lines_text (entry_lines numbers e)
body_behind out numbers e =
    ap (λ (t : List ℕ). (out ++ line_text (Begin e.gtid numbers)) ++ t) (body_lines e.txn.changes)
    ∙ first_ended out (line_text (Begin e.gtid numbers)) (lines_text (map Makes e.txn.changes ++ End ∷ []))

pub entry_appended : (out : List ℕ) (e : Entry) → (out ++ line_text (Begin e.gtid None)) ++ body_text e.txn.changes ≡ out ++ lines_text (entry_lines None e)
entry_appended out e = body_behind out None e

numbers_behind : (out : List ℕ) (g : Gtid) (numbers : Option Numbers) → (out ++ line_text (Begin g None)) ++ numbers_text numbers ≡ out ++ line_text (Begin g numbers)
numbers_behind out g numbers = simp (append_assoc, append-nil)

pub stamped_entry_appended : (out : List ℕ) (version : Version) (stamp place : ℕ) (e : Entry) → ((out ++ line_text (Begin e.gtid None)) ++ numbers_text (numbers_of version place stamp)) ++ body_text e.txn.changes ≡ out ++ lines_text (entry_lines (numbers_of version place stamp) e)
stamped_entry_appended out version stamp place e =
    ap (λ (t : List ℕ). t ++ body_text e.txn.changes) (numbers_behind out e.gtid (numbers_of version place stamp))
    ∙ body_behind out (numbers_of version place stamp) e

-- the lines of entries
entries_unstamped : (place : ℕ) (es : List Entry) → entries_text es ≡ lines_text (entries_lines One place (no_stamps es) es)
entries_unstamped place [] = refl
entries_unstamped place (e ∷ es) =
    ap (λ (t : List ℕ). lines_text (entry_lines None e) ++ t) (entries_unstamped (place + 1) es)
    ∙ sym (flat_map-append ended_line (entry_lines None e) (entries_lines One (place + 1) (no_stamps es) es))

entries_stamped : (version : Version) (place : ℕ) (stamps : List ℕ) (es : List Entry) → stamped_text version place stamps es ≡ lines_text (entries_lines version place stamps es)
entries_stamped version place [] es = refl
entries_stamped version place (s ∷ stamps) [] = refl
entries_stamped version place (s ∷ stamps) (e ∷ es) =
    ap (λ (t : List ℕ). lines_text (entry_lines (numbers_of version place s) e) ++ t) (entries_stamped version (place + 1) stamps es)
    ∙ sym (flat_map-append ended_line (entry_lines (numbers_of version place s) e) (entries_lines version (place + 1) stamps es))

pub previous_appended : (out : List ℕ) (s : Gtids) → ((out ++ codes "previous ") ++ set_text s) ++ codes "\n" ≡ out ++ ended_line (Previous s)
previous_appended out s = simp append_assoc

pub opening_appended : (out : List ℕ) (version : Version) (s : Gtids) → (out ++ ended_line (Header version)) ++ ended_line (Previous s) ≡ out ++ opening_text version s
unfolding opening_text
opening_appended out version s = append_assoc out (ended_line (Header version)) (ended_line (Previous s)) ∙ ap (λ (t : List ℕ). out ++ (ended_line (Header version) ++ t)) (sym (append-nil (ended_line (Previous s))))

pub around_appended : (out : List ℕ) (version : Version) (s : Gtids) (entries : List ℕ) → ((out ++ opening_text version s) ++ entries) ++ codes "close\n" ≡ out ++ text_around version s entries
unfolding text_around
around_appended out version s entries =
    append_assoc (out ++ opening_text version s) entries (codes "close\n")
    ∙ append_assoc out (opening_text version s) (entries ++ codes "close\n")

-- the lines of a journal around those of its entries
around_lines : (version : Version) (s : Gtids) (entries : List Line) → text_around version s (lines_text entries) ≡ lines_text ((opening_lines version s ++ entries) ++ Close ∷ [])
unfolding text_around opening_text
around_lines version s entries =
    sym (append_assoc (lines_text (opening_lines version s)) (lines_text entries) (codes "close\n"))
    ∙ sym (flat_map-append ended_line (opening_lines version s ++ entries) (Close ∷ []) ∙ ap (λ (t : List ℕ). t ++ codes "close\n") (flat_map-append ended_line (opening_lines version s) entries))

pub journal_text : (out : List ℕ) (j : JournalValue) → out ++ text_around One j.previous (entries_text j.entries) ≡ out ++ spelling j
journal_text out j = ap (λ (t : List ℕ). out ++ t) (ap (text_around One j.previous) (entries_unstamped 1 j.entries) ∙ around_lines One j.previous (entries_lines One 1 (no_stamps j.entries) j.entries))

pub stamped_journal_text : (out : List ℕ) (version : Version) (stamps : List ℕ) (j : JournalValue) → out ++ text_around version j.previous (stamped_text version 1 stamps j.entries) ≡ out ++ spelling_as version stamps j
stamped_journal_text out version stamps j = ap (λ (t : List ℕ). out ++ t) (ap (text_around version j.previous) (entries_stamped version 1 stamps j.entries) ∙ around_lines version j.previous (entries_lines version 1 stamps j.entries))
