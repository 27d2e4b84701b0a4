use Rattle.std.proofs.Common.{◌≡◌, ◌≤◌, ◌+◌, ◌-◌, ◌++◌, length, take, drop, length-drop, arith, sym, ap, ◌∙◌, subst, List, ℕ}
use Rattle.std.proofs.lemmas.List.{take_all}
use Rattle.std.proofs.Math.Seq.{take-add}
use Rattle.std.specs.Io.KnownBytes.{Appends}
use Rattle.std.proofs.KnownBytes.{Appends-trans}
use Rattle.replica_script.proofs.edge.write_answer.Goals as goal

-- a part that is written after the first ones
part_after : (done n : ℕ) (bytes : List ℕ) → done ≤ length bytes → n ≤ length bytes - done → take done bytes ++ take n (take (length bytes - done) (drop done bytes)) ≡ take (done + n) bytes
part_after done n bytes h k =
    ap (λ (rest : List ℕ). take done bytes ++ take n rest) (take_all (length bytes - done) (drop done bytes) (omega (arith, length-drop done bytes)))
    ∙ sym (take-add done n bytes)

pub loop-done-preserved : goal.loop-done-preserved
loop-done-preserved g c =
    let all = c.args.text.now in
    let done = c.loop-done.done in
    let inside = c.loop-done.invariant.within in
    let few : c.in-Ok.n ≤ length all - done = omega (arith, c.in-Ok.ensures.bound) in
    let sent = Appends-trans _ _ _ _ _ c.loop-done.invariant.sent c.in-Ok.ensures.bytes in
    record {
      within = omega arith;
      sent = subst (λ (bytes : List ℕ). Appends (g.W.Write.contents c.args.writer.now) (g.W.Write.contents c.write_again.new.writer) bytes) (part_after done c.in-Ok.n all inside few) sent;
    }
