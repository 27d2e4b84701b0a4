use Rattle.std.proofs.Common.{◌≡◌, ◌++◌, ◌<◌, [], List, ℕ, length, sym, ap, subst, ◌∙◌, inr, arith}
use Rattle.std.proofs.KnownBytes.{Consumes-trans}
use Rattle.std.proofs.lemmas.Result.{IfErr-at_err, IfOk-at_ok}
use Rattle.std.specs.Io.KnownBytes.{Consumes}
use Rattle.parallel_reading.specs.Coming.{HasCome}
use Rattle.commands.specs.Edge.{input_of}
use Rattle.commands.proofs.ReadBlocks.{as_long, at_ok, fault_of_block, longer}
use Rattle.commands.proofs.blocks.read_beside.Goals as goal

pub loop-turn-init : goal.loop-turn-init
loop-turn-init g c =
    let read = c.in_ok-is_last.ensures.read in
    record {
      front = [];
      come = inr c.start-reader.ensures;
      taken = read.taken;
      last = read.last;
      many = omega arith;
      more = λ goes. let some = read.some goes in omega (some, arith);
      some = omega arith;
      calm = c.in_ok-is_last.ensures.calm;
    }

pub returns-then-is_last-clause-read : goal.returns-then-is_last-clause-read
returns-then-is_last-clause-read g c =
    let so_far = c.loop-turn.invariant in
    record {
      bytes = so_far.front ++ c.loop-turn.block.items;
      all = (so_far.taken, so_far.last c.if-is_last.true);
      come = subst (λ (block : List ℕ). HasCome c.feed_beside.new.reader (so_far.front ++ block)) c.deref.ensures.value (c.feed_beside.ensures so_far.front so_far.come);
    }

pub returns-in-Err-clause-fault : goal.returns-in-Err-clause-fault
returns-in-Err-clause-fault g c =
    let after = c.take_and_read-taken in
    fault_of_block (input_of g.S.Source.left g.S.Source.failed c.args.source.now) (input_of g.S.Source.left g.S.Source.failed c.loop-turn.source) (input_of g.S.Source.left g.S.Source.failed after.new.source) c.in-Err.fault c.loop-turn.invariant.calm
    (IfErr-at_err _ c.in-Err.is after.ensures.fault)

pub loop-turn-preserved : goal.loop-turn-preserved
loop-turn-preserved g c =
    let so_far = c.loop-turn.invariant in
    let block = c.loop-turn.block.items in
    let after = c.take_and_read-taken in
    let read = IfOk-at_ok _ c.in-Ok.is after.ensures.read in
    let next = after.new.next.items in
    let same : c.swap.new.x.items ≡ next = ap (λ v. v.items) c.swap.ensures.x_after in
    let all = so_far.front ++ block in
    let more = so_far.more c.if-is_last.false in
    record {
      front = all;
      come = subst (λ (block : List ℕ). HasCome after.result.0 (so_far.front ++ block)) c.deref-in-loop-turn.ensures.value (after.ensures.taken.come so_far.front so_far.come);
      taken = subst (λ (t : List ℕ). Consumes (g.S.Source.left c.args.source.now) (g.S.Source.left after.new.source) (all ++ t)) (sym same) (Consumes-trans _ _ _ all next so_far.taken read.taken);
      last = read.last;
      many = as_long all c.swap.new.x.items _ more;
      more = λ goes. longer all c.swap.new.x.items _ more (subst (λ (t : List ℕ). 0 < length t) (sym same) (read.some goes));
      some = c.more_reads-reads.ensures;
      calm = at_ok _ c.in-Ok.is after.ensures.calm ∙ so_far.calm;
    }
