-- What lines have made of a bundle can be written, once the last has come.
use Rattle.std.proofs.Common.{◌≡◌, ℕ, Bool, true, false, List, [], ◌∷◌, Option, Result, Ok, refl, sym, ap, subst, ◌∙◌}
use Rattle.std.specs.Prelude.{MatchResult}
use Rattle.rows.specs.declared.change.TableRow.{TableRow}
use Rattle.txn_journal.specs.Lines.{◌>>=◌}
use Rattle.txn_journal.specs.BundleStates.{BundleStanding, no_bundle, is_done, judge_bundle}
use Rattle.txn_journal.specs.Stream.{TakesPlain}
use Rattle.txn_journal.specs.BundleLinesSoFar.{bundle_lines_so_far}
use Rattle.txn_journal.specs.BundleLines.{standing_after, HasCome}
use Rattle.txn_journal.specs.BundleText.{IsBundle}
use Rattle.txn_journal.specs.TakenEntries.{judge_all, TakesText}
use Rattle.txn_journal.specs.BundleCauses.{HasBundleCause}
use Rattle.txn_journal.specs.declared.fault.Cause.{Cause}
use Rattle.txn_journal.specs.declared.lines.Version.{Version}
use Rattle.txn_journal.proofs.Judged.{bind_ok, ok_is}
use Rattle.txn_journal.proofs.BundleSound.{IsBundleSound}
use Rattle.txn_journal.proofs.BundleTaken.{InnerTaken, bundle_taken}
use Rattle.txn_journal.proofs.BundleLaws.{ends_at, relisted}
use Rattle.txn_journal.specs.declared.lines.Due.{Due}

pub come_start : (due : Due) → HasCome (no_bundle due)
come_start due = record { due = due; lines = []; made = refl }

pub come_more : (s t : BundleStanding) (line : List ℕ) → HasCome s → judge_bundle s line ≡ Ok t → HasCome t
come_more s t line h e = record { due = h.due; lines = line ∷ h.lines; made = ap (λ (r : Result BundleStanding Cause). r >>= λ x. judge_bundle x line) h.made ∙ e }

pub come_plain : (s t : BundleStanding) (line : List ℕ) (made : Bool) → HasCome s → TakesPlain (Ok made) (judge_bundle s line) s t → HasCome t
come_plain s t line true h e = come_more s t line h e
come_plain s t line false h e = subst HasCome (sym e) h

come_all : (s t : BundleStanding) (lines : List (List ℕ)) → HasCome s → judge_all judge_bundle s lines ≡ Ok t → HasCome t
come_all s t [] h e = subst HasCome (ok_is s t e) h
come_all s t (line ∷ more) h e =
    let a = bind_ok (judge_bundle s line) (λ x. judge_all judge_bundle x more) t e in
    come_all a.0 t more (come_more s a.0 line h a.1) a.2

pub come_text : (s t : BundleStanding) (text : List ℕ) (count : ℕ) (made : Bool) → HasCome s → TakesText judge_bundle (Ok made) text count s t → HasCome t
come_text s t text count true h e = come_all s t e.lines h e.made
come_text s t text count false h e = subst HasCome (sym e) h

-- what lines have made is sound
come_sound : (due : Due) (lines : List (List ℕ)) (s : BundleStanding) → standing_after due lines ≡ Ok s → (rows : List TableRow) × IsBundleSound rows s
come_sound due [] s e = ([], subst (IsBundleSound []) (ok_is (no_bundle due) s e) refl)
come_sound due (line ∷ earlier) s e =
    let a = bind_ok (standing_after due earlier) (λ x. judge_bundle x line) s e in
    let h = come_sound due earlier a.0 a.1 in
    let k = subst (λ (r : Result BundleStanding Cause). MatchResult r (InnerTaken a.0.due (bundle_lines_so_far h.0 a.0) line) (HasBundleCause a.0 line)) a.2 (bundle_taken h.0 a.0 line h.1) in
    (k.keeps.rows, k.keeps.sound)

pub come_kept : (s : BundleStanding) → HasCome s → is_done s.part ≡ true → IsBundle s.bundle
come_kept s h last =
    let k = come_sound h.due h.lines s h.made in
    let e = ends_at s.part k.0 s k.1 last in
    relisted s.version k.0 s.bundle e.0.written
