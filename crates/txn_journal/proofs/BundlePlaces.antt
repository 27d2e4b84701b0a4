-- Bundles with places before their entries obey the laws of formats.
use Rattle.std.proofs.Common.{◌≡◌, ℕ, true, false, List, [], Option, Some, None, Result, Ok, codes, refl, sym, ap, subst, ◌∙◌}
use Rattle.std.specs.Prelude.{◌&&◌}
use Rattle.std.proofs.lemmas.Bool.{and_parts, and_from}
use Rattle.std.specs.Str.{bytes_eq}
use Rattle.std.proofs.lemmas.Slice.Eq.{bytes_eq-Decides}
use Rattle.rows.specs.Listing.{rows_listed}
use Rattle.rows.specs.declared.change.TableRow.{TableRow}
use Rattle.row_images.specs.Words.{first_word, others}
use Rattle.txn_journal.specs.Versions.{has_log_places}
use Rattle.txn_journal.specs.Formats.{closing_by}
use Rattle.txn_journal.specs.Lines.{◌>>=◌, keyword_of, due as if_due, takes}
use Rattle.txn_journal.specs.Machine.{Standing, is_between, is_within, judge}
use Rattle.txn_journal.specs.BundleStates.{BundleValue, BundleStanding, bundle_takes_places, takes_places_in, word_of, is_due_in, is_done, own_step, judge_own, unless_misstamped, judge_inner, judge_part, judge_bundle}
use Rattle.txn_journal.specs.BundleText.{BundleLine, Own, Heads, own_text, bundle_line_text, newest_bundle_header, spelling_by, WritesPlainBundle, WritesBundleBy, WritesWhereWritable}
use Rattle.txn_journal.specs.BundleLinesSoFar.{bundle_lines_so_far, bundle_lines_so_far_at}
use Rattle.txn_journal.specs.BundleReading.{is_inside, is_entry_open, plain_bundles, bundles, BundleProgress, closing_bundle, IsReadAs}
use Rattle.txn_journal.specs.Places.{is_place_line, is_entry_line, PlacedLine, BeginsAs}
use Rattle.txn_journal.specs.PlaceWords.{unknown_in_part, unknown_in_bundle}
use Rattle.txn_journal.specs.Stream.{Reading, Stopped}
use Rattle.txn_journal.specs.declared.bundle_draft.Part.{Part}
use Rattle.txn_journal.specs.declared.bundle_draft.Part.TheVariants as parts
use Rattle.txn_journal.specs.declared.bundle_draft.Word.{Word}
use Rattle.txn_journal.specs.declared.fault.Cause.{Cause}
use Rattle.txn_journal.specs.declared.lines.LinePlace.{LinePlace}
use Rattle.txn_journal.specs.declared.lines.LinePlace.TheVariants as places
use Rattle.txn_journal.specs.declared.lines.Version.{Version}
use Rattle.txn_journal.specs.declared.lines.Version.TheVariants.{One, Two, Three}
use Rattle.txn_journal.specs.declared.lines.Due.{Due}
use Rattle.txn_journal.specs.declared.lines.Due.TheVariants.{Any, Only}
use Rattle.txn_journal.specs.declared.placed.Placed.{Placed}
use Rattle.txn_journal.proofs.Judged.{bind_ok}
use Rattle.txn_journal.proofs.FormatLaws.{Laws, reads_back}
use Rattle.txn_journal.proofs.JournalPlaces.{entry_between, not_same}
use Rattle.txn_journal.proofs.BundleLaws.{IsSoundPlain, plain_bundle_laws, loosely_is, relisted_by}
use Rattle.txn_journal.proofs.PlacedLaws.{TakesPlaces, IsSoundPlaced, laws_placed, plain_is_text}

-- ---- where places are taken

between_in : (p : Part) (s : BundleStanding) → takes_places_in p s ≡ true → (p ≡ parts.Journal) × (is_between s.draft.place ≡ true) × (has_log_places s.version ≡ true)
between_in parts.Journal s is = let p = and_parts (is_between s.draft.place) (has_log_places s.version) is in (refl, p.0, p.1)
between_in p s is = absurd cc

not_done : (p : Part) → p ≡ parts.Journal → is_done p ≡ false
not_done p e = ap is_done e

not_within : (place : LinePlace) → is_between place ≡ true → is_within place ≡ false
not_within places.Between e = refl
not_within place e = absurd cc

entry_closed : (p : Part) (place : LinePlace) → is_between place ≡ true → is_entry_open p place ≡ false
entry_closed parts.Journal place e = not_within place e
entry_closed p place e = refl

-- ---- lines of entries

-- they are lines of a journal
entry_in : (p : Part) (s t : BundleStanding) (line : List ℕ) → judge_part p true s line ≡ Ok t → is_entry_line line ≡ true → has_log_places s.version ≡ true → takes_places_in p s ≡ true
unfolding judge_inner judge_own
entry_in parts.Journal s t line e is three =
    let a = bind_ok (judge (Some s.bundle.start.schema) s.draft line) (unless_misstamped true s) t e in
    and_from (is_between s.draft.place) (has_log_places s.version) (entry_between (Some s.bundle.start.schema) s.draft a.0 line a.1 is) three
entry_in p s t line e is three =
    let word = (bytes_eq-Decides (first_word line) (codes "txn")).0 is in
    absurd (let k = sym (ap (λ (w : List ℕ). if_due (is_due_in s.version s.part) (word_of w) >>= λ k. own_step s k (others line)) word) ∙ e in cc)

-- ---- the first line

three_of : (v : Version) → own_text (Heads v) ≡ newest_bundle_header → has_log_places v ≡ true
three_of Three e = refl
three_of One e = absurd (not_same (ap (λ (x : List ℕ). bytes_eq x newest_bundle_header) e))
three_of Two e = absurd (not_same (ap (λ (x : List ℕ). bytes_eq x newest_bundle_header) e))

of_three : (v : Version) → has_log_places v ≡ true → own_text (Heads v) ≡ newest_bundle_header
of_three Three e = refl
of_three One e = absurd cc
of_three Two e = absurd cc

begun_three : (p : Part) (rows : List TableRow) (s : BundleStanding) → BeginsAs bundle_line_text newest_bundle_header (bundle_lines_so_far_at p rows s) → has_log_places s.version ≡ true
begun_three parts.Header rows s h = absurd h
begun_three parts.Replica rows s h = three_of s.version h
begun_three parts.Opening rows s h = three_of s.version h
begun_three parts.Tables rows s h = three_of s.version h
begun_three parts.References rows s h = three_of s.version h
begun_three parts.Rows rows s h = three_of s.version h
begun_three parts.Channels rows s h = three_of s.version h
begun_three parts.Journal rows s h = three_of s.version h
begun_three parts.Assumptions rows s h = three_of s.version h
begun_three parts.Ended rows s h = three_of s.version h

three_begun : (p : Part) (rows : List TableRow) (s : BundleStanding) → p ≡ parts.Journal → has_log_places s.version ≡ true → BeginsAs bundle_line_text newest_bundle_header (bundle_lines_so_far_at p rows s)
three_begun p rows s e three = subst (λ (q : Part). BeginsAs bundle_line_text newest_bundle_header (bundle_lines_so_far_at q rows s)) (sym e) (of_three s.version three)

newest_bundle : (rows : List TableRow) (s : BundleStanding) (ls : List BundleLine) → bundle_lines_so_far rows s ≡ ls → bundle_takes_places s ≡ true → BeginsAs bundle_line_text newest_bundle_header ls
newest_bundle rows s ls says is =
    let k = between_in s.part s is in
    subst (BeginsAs bundle_line_text newest_bundle_header) says (three_begun s.part rows s k.0 k.2)

entry_placed : (rows : List TableRow) (s t : BundleStanding) (ls : List BundleLine) (line : List ℕ) → bundle_lines_so_far rows s ≡ ls → BeginsAs bundle_line_text newest_bundle_header ls → judge_bundle s line ≡ Ok t → is_entry_line line ≡ true → bundle_takes_places s ≡ true
unfolding judge_bundle
entry_placed rows s t ls line says begins e is = entry_in s.part s t line e is (begun_three s.part rows s (subst (BeginsAs bundle_line_text newest_bundle_header) (sym says) begins))

-- ---- laws

not_inside : (line : List ℕ) → is_place_line line ≡ true → is_inside (keyword_of (first_word line)) ≡ false
not_inside line is = ap (λ (word : List ℕ). is_inside (keyword_of word)) ((bytes_eq-Decides (first_word line) (codes "place")).0 is)

bundle_places : (due : Due) → TakesPlaces (plain_bundles due) (IsSoundPlain due) (plain_bundle_laws due) bundle_takes_places newest_bundle_header
bundle_places due = record {
  unknown = unknown_in_bundle;
  unknown_loosely = λ s line is. loosely_is due s line ∙ unknown_in_part s.part false s line is;
  not_inside = not_inside;
  not_header = refl;
  not_last = λ s is. not_done s.part (between_in s.part s is).0;
  not_open = λ s is. entry_closed s.part s.draft.place (between_in s.part s is).1;
  newest = λ s ls h is. newest_bundle h.1.0 s ls h.1.1 is;
  before_entry = λ s t ls line h begins e is. entry_placed h.1.0 s t ls line h.1.1 begins e is;
}

-- what is known of the lines of a bundle and of what they have made
abbrev pub IsSoundBundle : Due → Placed BundleStanding → List (PlacedLine BundleLine) → Type 0
IsSoundBundle due p ls = IsSoundPlaced (plain_bundles due) (IsSoundPlain due) bundle_takes_places newest_bundle_header p ls

pub bundle_laws : (due : Due) → Laws (bundles due) (IsSoundBundle due)
bundle_laws due = laws_placed (plain_bundles due) (IsSoundPlain due) (plain_bundle_laws due) bundle_takes_places newest_bundle_header (bundle_places due)

-- a text without places is one
pub plain_bundle : (due : Due) (bytes : List ℕ) (b : BundleValue) → WritesPlainBundle due bytes b → WritesBundleBy due bytes b
plain_bundle due = plain_is_text (plain_bundles due) (IsSoundPlain due) (plain_bundle_laws due) bundle_takes_places newest_bundle_header (bundle_places due)

-- ---- whichever version is due, the end is the same

pub closing_same : (due : Due) (p : BundleProgress) → closing_bundle p ≡ closing_by (bundles due) p
unfolding closing_by
closing_same due (Reading s n rest) = refl
closing_same due (Stopped f) = refl

-- ---- a bundle of version 1 as one of version 2

takes_itself : (version : Version) → takes (Only version) version ≡ true
takes_itself One = refl
takes_itself Two = refl
takes_itself Three = refl

-- what is written by a version that can write the bundle
pub spelled_writes : (version : Version) (bytes : List ℕ) (b : BundleValue) → bytes ≡ spelling_by version b → WritesWhereWritable version bytes b
spelled_writes version bytes b spelled written = plain_bundle (Only version) bytes b (version, takes_itself version, record { rows = rows_listed b.start.rows; written = written; text = spelled })

two_plain : (bytes : List ℕ) (b : BundleValue) → WritesPlainBundle (Only One) bytes b → WritesPlainBundle (Only Two) (spelling_by Two b) b
two_plain bytes b (One, is, w) = (Two, refl, record { rows = rows_listed b.start.rows; written = relisted_by One w.rows b w.written; text = refl })
two_plain bytes b (Two, is, w) = absurd cc
two_plain bytes b (Three, is, w) = absurd cc

pub upgraded : (bytes : List ℕ) (b : BundleValue) → WritesBundleBy (Only One) bytes b → WritesBundleBy (Only Two) (spelling_by Two b) b
upgraded bytes b w = plain_bundle (Only Two) (spelling_by Two b) b (two_plain _ b w.written)

-- what a version writes is read by any
pub read_by_any : (version : Version) (bytes : List ℕ) (b : BundleValue) → WritesPlainBundle (Only version) bytes b → IsReadAs bytes b
read_by_any version bytes b w = reads_back (bundles Any) (IsSoundBundle Any) (bundle_laws Any) bytes b (plain_bundle Any bytes b (w.0, any_version w.0, w.2))
  where
    any_version : (v : Version) → takes Any v ≡ true
    any_version v = refl

pub upgraded_read : (bytes : List ℕ) (b : BundleValue) → WritesBundleBy (Only One) bytes b → IsReadAs (spelling_by Two b) b
upgraded_read bytes b w = read_by_any Two (spelling_by Two b) b (two_plain _ b w.written)
