use Rattle.std.proofs.Common.{sym, subst}
use Rattle.dependency_graph.specs.Ready.{Turns}
use Rattle.dependency_graph.proofs.Listing.{listing_lowered, listing_same, unturned}
use Rattle.dependency_graph.proofs.ready.Ready.remove_if.Goals as goal

pub returns-then-was : goal.returns-then-was
returns-then-was c = λ base end p q lo hi t h.
    listing_lowered c.args.self.now (record { small = c.lower.new.self; middle = c.lower-then-was.new.self; large = c.lower-then-was-2.new.self }) base end c.args.number p q lo hi
    (subst (Turns p q c.args.number) c.if-was.true t) c.lower.ensures c.lower-then-was.ensures c.lower-then-was-2.ensures h

pub returns-else-was : goal.returns-else-was
returns-else-was c = λ base end p q lo hi t h. listing_same c.args.self.now base end q p (λ m. sym (unturned p q c.args.number (subst (Turns p q c.args.number) c.if-was.false t) m)) h
