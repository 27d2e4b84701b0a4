use Rattle.std.proofs.Common.{List, subst, ap, rules}
use Rattle.shared_replica.specs.Passes.{PassValue, SharedValue}
use Rattle.shared_replica.specs.Closing.{IsMerge}
use Rattle.shared_replica.proofs.Closings.{closed_is}
use Rattle.shared_replica.proofs.replica.SharedReplica.close.Goals as goal

pub returns-clause-ok : goal.returns-clause-ok
returns-clause-ok g c =
    let b = c.close.ensures in
    let book = c.into_inner-book.result in
    let merge = subst (λ (p : List PassValue). IsMerge p book.steps) c.as_slice.ensures.value (c.is_of.ensures (search rules)) in
    closed_is g.N.Naming.opening book c.close.result _ c.args.passes.items (ap (λ (s : SharedValue). s.opening) c.self.view_is) b.book b.kept b.shares b.sheets merge
