use Rattle.std.proofs.Common.{sym, ap, List, ℕ, ◌∙◌, arith}
use Rattle.std.proofs.lemmas.Bool.{not-true}
use Rattle.std.proofs.lemmas.Bool.Decides.{nat_tests}
use Rattle.replica_script.proofs.DistinctSources.{are_new_to, seen_in, new_all, new_next}
use Rattle.replica_script.proofs.declaration.are_distinct.Goals as goal

pub loop-own-init : goal.loop-own-init
loop-own-init c = ap (λ (keys : List ℕ). are_new_to (seen_in keys) c.args.ids.now) c.new-seen.ensures.empty ∙ new_all c.args.ids.now

pub loop-own-preserved : goal.loop-own-preserved
loop-own-preserved c =
    new_next _ (λ x y. grind (arith, nat_tests)) c.loop-own.seen.keys c.insert.new.self.keys c.loop-own.left.now c.in-Some.more.now c.in-Some.own.now _ c.in-Some.ensures.cases.0 c.loop-own.invariant (not-true _ (sym c.in_ok-insert.ensures.added ∙ c.if-not-branch.false)) c.in_ok-insert.ensures.keys
