-- Journals with places before their entries obey the laws of formats.
use Rattle.std.proofs.Common.{◌≡◌, ℕ, true, false, List, Option, None, Some, Result, Ok, codes, refl, sym, ap, subst, ◌∙◌}
use Rattle.std.specs.Prelude.{◌&&◌}
use Rattle.std.proofs.lemmas.Bool.{and_parts, and_from}
use Rattle.std.specs.Str.{bytes_eq}
use Rattle.std.proofs.lemmas.Slice.Eq.{bytes_eq-Decides}
use Rattle.journal.specs.Journals.{JournalValue}
use Rattle.rows.specs.declared.schema.Table.{Table}
use Rattle.row_images.specs.Words.{first_word, others}
use Rattle.txn_journal.specs.Versions.{has_log_places}
use Rattle.txn_journal.specs.Due.{is_due}
use Rattle.txn_journal.specs.Lines.{◌>>=◌, keyword_of, due as if_due}
use Rattle.txn_journal.specs.Machine.{Standing, is_last, is_between, takes_places, step, judge}
use Rattle.txn_journal.specs.Places.{is_place_line, is_entry_line, PlacedLine, BeginsAs}
use Rattle.txn_journal.specs.PlaceWords.{unknown_place}
use Rattle.txn_journal.specs.PlacedFormats.{placed}
use Rattle.txn_journal.specs.Reading.{journals_as, plain_journals, journals, WrittenJournal, as_written, IsWrittenAs, written_journals, IsTextOf}
use Rattle.txn_journal.specs.Spelling.{Line, Header, line_text, newest_header, WritesPlain, Writes}
use Rattle.txn_journal.specs.LinesSoFar.{lines_so_far, lines_so_far_at}
use Rattle.txn_journal.specs.declared.fault.Cause.{Cause}
use Rattle.txn_journal.specs.declared.lines.Keyword.{Keyword}
use Rattle.txn_journal.specs.declared.lines.Keyword.TheVariants as keywords
use Rattle.txn_journal.specs.declared.lines.LinePlace.{LinePlace}
use Rattle.txn_journal.specs.declared.lines.LinePlace.TheVariants as places
use Rattle.txn_journal.specs.declared.lines.Version.{Version}
use Rattle.txn_journal.specs.declared.lines.Version.TheVariants.{One, Two, Three}
use Rattle.txn_journal.specs.declared.lines.Due.{Due}
use Rattle.txn_journal.specs.declared.lines.Due.TheVariants.{Any}
use Rattle.txn_journal.specs.declared.placed.Placed.{Placed}
use Rattle.txn_journal.proofs.FormatLaws.{Laws, one_value}
use Rattle.txn_journal.proofs.JournalLaws.{IsSoundAlone, Seen, laws_as, loose_as, journal_seen, written_seen}
use Rattle.txn_journal.proofs.PlacedLaws.{TakesPlaces, IsSoundPlaced, laws_placed, plain_is_text}

-- ---- lines of entries

between_at : (place : LinePlace) (f : Keyword → Result Standing Cause) (t : Standing) → (if_due (is_due place) (Some keywords.Txn) >>= f) ≡ Ok t → is_between place ≡ true
between_at places.Between f t e = refl
between_at place f t e = absurd cc

-- they stand between entries
pub entry_between : (schema : Option (List Table)) (s t : Standing) (line : List ℕ) → judge schema s line ≡ Ok t → is_entry_line line ≡ true → is_between s.place ≡ true
unfolding judge
entry_between schema s t line e is =
    let word = (bytes_eq-Decides (first_word line) (codes "txn")).0 is in
    between_at s.place (λ k. step schema s k (others line)) t (sym (ap (λ (w : List ℕ). if_due (is_due s.place) (keyword_of w) >>= λ k. step schema s k (others line)) word) ∙ e)

pub not_last_between : (place : LinePlace) → is_between place ≡ true → is_last place ≡ false
not_last_between places.Between e = refl
not_last_between place e = absurd cc

-- ---- the first line

pub not_same : false ≡ true → ⊥
not_same e = cc

three_of : (v : Version) → line_text (Header v) ≡ newest_header → has_log_places v ≡ true
three_of Three e = refl
three_of One e = absurd (not_same (ap (λ (x : List ℕ). bytes_eq x newest_header) e))
three_of Two e = absurd (not_same (ap (λ (x : List ℕ). bytes_eq x newest_header) e))

of_three : (v : Version) → has_log_places v ≡ true → line_text (Header v) ≡ newest_header
of_three Three e = refl
of_three One e = absurd cc
of_three Two e = absurd cc

begun_three : (place : LinePlace) (s : Standing) → BeginsAs line_text newest_header (lines_so_far_at place s) → has_log_places s.version ≡ true
begun_three places.Header s h = absurd h
begun_three places.Previous s h = three_of s.version h
begun_three places.Between s h = three_of s.version h
begun_three places.Within s h = three_of s.version h
begun_three places.Ended s h = three_of s.version h

three_begun : (place : LinePlace) (s : Standing) → is_between place ≡ true → has_log_places s.version ≡ true → BeginsAs line_text newest_header (lines_so_far_at place s)
three_begun places.Between s is three = of_three s.version three
three_begun place s is three = absurd cc

newest_alone : (s : Standing) (ls : List Line) → lines_so_far s ≡ ls → takes_places s ≡ true → BeginsAs line_text newest_header ls
newest_alone s ls says is =
    let p = and_parts (is_between s.place) (has_log_places s.version) is in
    subst (BeginsAs line_text newest_header) says (three_begun s.place s p.0 p.1)

entry_placed : (s t : Standing) (ls : List Line) (line : List ℕ) → lines_so_far s ≡ ls → BeginsAs line_text newest_header ls → judge None s line ≡ Ok t → is_entry_line line ≡ true → takes_places s ≡ true
entry_placed s t ls line says begins e is =
    and_from (is_between s.place) (has_log_places s.version) (entry_between None s t line e is) (begun_three s.place s (subst (BeginsAs line_text newest_header) (sym says) begins))

-- ---- laws

pub alone_places : {V : Type 0} (due : Due) (value : Standing → V) (Spelled : List ℕ → V → Type 0) (seen : Seen due value Spelled) → TakesPlaces (journals_as due value Spelled) (IsSoundAlone due) (laws_as due value Spelled seen) takes_places newest_header
alone_places due value Spelled seen = record {
  unknown = unknown_place None;
  unknown_loosely = λ s line is. loose_as due value Spelled seen s line ∙ unknown_place None s line is;
  not_inside = λ line is. refl;
  not_header = refl;
  not_last = λ s is. not_last_between s.place (and_parts (is_between s.place) (has_log_places s.version) is).0;
  not_open = λ s is. refl;
  newest = λ s ls h is. newest_alone s ls h.1 is;
  before_entry = λ s t ls line h begins e is. entry_placed s t ls line h.1 begins e is;
}

-- what is known of the lines of a journal and of what they have made
abbrev pub IsSoundJournal : Placed Standing → List (PlacedLine Line) → Type 0
IsSoundJournal p ls = IsSoundPlaced plain_journals (IsSoundAlone Any) takes_places newest_header p ls

pub journal_laws : Laws journals IsSoundJournal
journal_laws = laws_placed plain_journals (IsSoundAlone Any) (laws_as Any (λ s. s.journal) WritesPlain journal_seen) takes_places newest_header (alone_places Any (λ s. s.journal) WritesPlain journal_seen)

-- a text without places is one
pub plain_journal : (bytes : List ℕ) (j : JournalValue) → WritesPlain bytes j → Writes bytes j
plain_journal = plain_is_text plain_journals (IsSoundAlone Any) (laws_as Any (λ s. s.journal) WritesPlain journal_seen) takes_places newest_header (alone_places Any (λ s. s.journal) WritesPlain journal_seen)

-- a text is that of one journal, version and numbers
pub one_written : (bytes : List ℕ) (v w : WrittenJournal) → IsTextOf bytes v → IsTextOf bytes w → v ≡ w
one_written =
    let f = written_journals Any in
    let laws = laws_as Any as_written (IsWrittenAs Any) (written_seen Any) in
    one_value (placed f takes_places newest_header) (IsSoundPlaced f (IsSoundAlone Any) takes_places newest_header) (laws_placed f (IsSoundAlone Any) laws takes_places newest_header (alone_places Any as_written (IsWrittenAs Any) (written_seen Any)))
