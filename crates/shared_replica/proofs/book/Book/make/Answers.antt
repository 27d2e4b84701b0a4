use Rattle.std.proofs.Common.{◌≡◌, ◌++◌, ◌∷◌, [], ap, ◌∙◌, rules}
use Rattle.commit_ledger.specs.Tallies.{one_more}
use Rattle.shared_replica.specs.History.{line, is_commit, IsStep}
use Rattle.shared_replica.proofs.Replays.{book_more}
use Rattle.shared_replica.proofs.book.Book.make.Goals as goal

pub invariant_of-self-2 : goal.invariant_of-self-2
invariant_of-self-2 g c =
    let old = c.self.inside in
    let event = c.args.event.now in
    let reply = c.in_ok-reply.reply in
    let it : c.add.new.list.items ≡ old.steps.items ++ line event reply ∷ [] = search rules in
    let made : IsStep old.core event reply c.step_of.new.core = record { site = c.in_ok-reply.ensures.site; makes = c.in_ok-reply.ensures.ok } in
    let count : c.count.new.total ≡ one_more (is_commit reply) old.total = c.count.ensures.total ∙ ap (λ b. one_more b old.total) c.is_commit.ensures in
    rw it (book_more g.N.Naming.opening old.steps.items old.core old.total event reply c.step_of.new.core c.count.new.total c.self.invariant c.entries_are_kept.ensures made count)
