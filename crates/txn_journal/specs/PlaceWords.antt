-- The lines of journals and bundles but those of places don't begin with the word of a place.
use Rattle.std.proofs.Common.{ap, ◌∙◌}
use Rattle.std.proofs.lemmas.Slice.Eq.{bytes_eq-Decides}
use Rattle.std.specs.Prelude.{◌≡◌, ℕ, Bool, true, List, Option, Some, Result, Err, codes}
use Rattle.rows.specs.declared.schema.Table.{Table}
use Rattle.row_images.specs.Words.{first_word, others}
use Rattle.txn_journal.specs.Due.{is_due}
use Rattle.txn_journal.specs.Lines.{◌>>=◌, keyword_of, due}
use Rattle.txn_journal.specs.Machine.{Standing, step, judge}
use Rattle.txn_journal.specs.BundleStates.{BundleStanding, word_of, is_due_in, own_step, judge_own, unless_misstamped, judge_inner, judge_part, judge_bundle}
use Rattle.txn_journal.specs.Places.{is_place_line}
use Rattle.txn_journal.specs.declared.bundle_draft.Part.{Part}
use Rattle.txn_journal.specs.declared.bundle_draft.Part.TheVariants as parts
use Rattle.txn_journal.specs.declared.fault.Cause.{Cause}
use Rattle.txn_journal.specs.declared.fault.Cause.TheVariants as causes

place_word : (line : List ℕ) → is_place_line line ≡ true → first_word line ≡ codes "place"
place_word line is = (bytes_eq-Decides (first_word line) (codes "place")).0 is

pub unknown_place : (schema : Option (List Table)) (s : Standing) (line : List ℕ) → is_place_line line ≡ true → judge schema s line ≡ Err causes.Keyword
unfolding judge
unknown_place schema s line is = ap (λ (word : List ℕ). due (is_due s.place) (keyword_of word) >>= λ k. step schema s k (others line)) (place_word line is)

unknown_own : (s : BundleStanding) (line : List ℕ) → is_place_line line ≡ true → judge_own s line ≡ Err causes.Keyword
unfolding judge_own
unknown_own s line is = ap (λ (word : List ℕ). due (is_due_in s.version s.part) (word_of word) >>= λ k. own_step s k (others line)) (place_word line is)

pub unknown_in_part : (p : Part) (whole : Bool) (s : BundleStanding) (line : List ℕ) → is_place_line line ≡ true → judge_part p whole s line ≡ Err causes.Keyword
unfolding judge_inner
unknown_in_part parts.Journal whole s line is = ap (λ (r : Result Standing Cause). r >>= unless_misstamped whole s) (unknown_place (Some s.bundle.start.schema) s.draft line is)
unknown_in_part p whole s line is = unknown_own s line is

pub unknown_in_bundle : (s : BundleStanding) (line : List ℕ) → is_place_line line ≡ true → judge_bundle s line ≡ Err causes.Keyword
unfolding judge_bundle
unknown_in_bundle s line is = unknown_in_part s.part true s line is
