use Rattle.std.proofs.Common.{subst}
use Rattle.dependency_graph.specs.Ready.{Turns}
use Rattle.dependency_graph.proofs.Listing.{listing_raised, listing_same, unturned}
use Rattle.dependency_graph.proofs.ready.Ready.insert_if.Goals as goal

pub returns-then-wanted : goal.returns-then-wanted
returns-then-wanted c = λ base end p q lo hi t h.
    listing_raised c.args.self.now (record { small = c.raise.new.self; middle = c.raise-then-wanted.new.self; large = c.raise-then-wanted-2.new.self }) base end c.args.number p q lo hi
    (subst (Turns p q c.args.number) c.if-wanted.true t) c.raise.ensures c.raise-then-wanted.ensures c.raise-then-wanted-2.ensures h

pub returns-else-wanted : goal.returns-else-wanted
returns-else-wanted c = λ base end p q lo hi t h. listing_same c.args.self.now base end p q (unturned p q c.args.number (subst (Turns p q c.args.number) c.if-wanted.false t)) h
