-- Where a fault is.
use Rattle.std.proofs.Common.{◌≡◌, ℕ, ◌+◌, ◌-◌, ◌%◌, ◌^◌, ◌≤◌, Bool, true, List, [], ◌∷◌, ◌++◌, length, drop, Some, sym, ap, ◌∙◌, arith, inl, inr}
use Rattle.std.specs.Prelude.{◌==◌}
use Rattle.std.proofs.lemmas.List.{length-drop}
use Rattle.binlog_frames.specs.declared.fault.FaultKind.TheVariants as faults
use Rattle.binlog_frames.specs.declared.fault.FrameFault.{FrameFault}
use Rattle.binlog_frames.specs.declared.stage.FileStage.{FileStage}
use Rattle.binlog_frames.specs.declared.stage.FileStage.TheVariants.{Later}
use Rattle.binlog_frames.specs.Spelling.{Framed, len_of, magic, description_text, offset_after}
use Rattle.binlog_frames.specs.Reading.{later_at, is_checked}
use Rattle.binlog_frames.specs.Standing.{Standing, front_from, unfinished_from, Follows, EndsBadly, IsFaultAt}
use Rattle.binlog_frames.specs.Laws.{IsPlace}
use Rattle.binlog_frames.proofs.Spelled.{IsBytes, IsBytes-drop, chosen}
use Rattle.binlog_frames.proofs.Described.{first_takes}
use Rattle.binlog_frames.proofs.Stepping.{at_some, later_len, opening_is, opening_len}
use Rattle.binlog_frames.proofs.Running.{later_run, magic_is, at_err}

later_place : (checked : Bool) (offset : ℕ) (left : List ℕ) (es : List Framed) (t : Standing) → Follows (record { stage = Later checked; offset = offset; left = left }) es t
    → (t.offset + length t.left) % 2 ^ 64 ≡ (offset + length left) % 2 ^ 64
later_place checked offset left [] t f = ap (λ (x : Standing). (x.offset + length x.left) % 2 ^ 64) (sym f)
later_place checked offset left (e ∷ es) t f =
    let h = later_len checked offset left e (at_some offset (later_at checked offset left) e f.0) in
    let n : ℕ = len_of checked e in
    let within : n ≤ length left = omega (arith, h.is, h.within) in
    let ih = later_place checked (offset_after checked offset e) (drop n left) es t f.1 in
    let l : length (drop n left) ≡ length left - n = length-drop n left in
    ih ∙ ap (λ k. ((offset + n) % 2 ^ 64 + k) % 2 ^ 64) l ∙ omega arith

fault_offset : (stage : FileStage) (checked : Bool) (offset : ℕ) (left : List ℕ) (f : FrameFault) → stage ≡ Later checked → IsFaultAt (record { stage = stage; offset = offset; left = left }) f → f.offset ≡ offset
unfolding unfinished_from
fault_offset stage checked offset left f s (inl e) =
    let k = at_err offset (later_at checked offset left) f (ap (λ x. front_from x offset left) (sym s) ∙ e) in
    ap (λ (x : FrameFault). x.offset) k.2
fault_offset stage checked offset left f s (inr p) =
    let e : unfinished_from (Later checked) offset left ≡ Some f = ap (λ x. unfinished_from x offset left) (sym s) ∙ p.1 in
    elim (chosen (length left == 0) _ _ _ e) [
      | inl q ↦ absurd (let r = q.1 in cc)
      | inr q ↦ let r = q.1 in let g : (let x : FrameFault = record { kind = faults.Truncated; offset = offset } in x) ≡ f = cc in sym (ap (λ (x : FrameFault). x.offset) g)
    ]

pub law_fault_place : (bytes : List ℕ) (d : Framed) (es : List Framed) (f : FrameFault) → IsBytes bytes → (bad : EndsBadly bytes (d ∷ es) f) → IsPlace bytes d es f bad.last.left
law_fault_place bytes d es f b bad =
    let o = opening_is bytes d bad.follows.0 in
    let n : ℕ = len_of true d in
    let k = first_takes (drop 4 bytes) d (IsBytes-drop 4 bytes b) o.first in
    let rest : List ℕ = drop n (drop 4 bytes) in
    let run = later_run (is_checked d) (offset_after true 4 d) rest es bad.last (IsBytes-drop n (drop 4 bytes) (IsBytes-drop 4 bytes b)) bad.follows.1 in
    let place = later_place (is_checked d) (offset_after true 4 d) rest es bad.last bad.follows.1 in
    let at : f.offset ≡ bad.last.offset = fault_offset bad.last.stage (is_checked d) bad.last.offset bad.last.left f run.stage bad.wrong in
    let h = opening_len bytes d bad.follows.0 in
    let within : 4 + n ≤ length bytes = omega (arith, h.is, h.within) in
    let l : length rest ≡ length bytes - 4 - n = omega (arith, length-drop n (drop 4 bytes), length-drop 4 bytes) in
    record {
      before = record {
        whole = magic_is bytes o.long o.magic
            ∙ ap (λ r. magic ++ r) (k.whole ∙ ap (λ r. description_text d ++ r) run.whole);
        description = k.description;
        each = run.each;
      };
      offset = ap (λ x. (x + length bad.last.left) % 2 ^ 64) at ∙ place ∙ ap (λ x. ((4 + n) % 2 ^ 64 + x) % 2 ^ 64) l ∙ omega arith;
    }
