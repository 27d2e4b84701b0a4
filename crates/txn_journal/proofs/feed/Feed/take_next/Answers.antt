use Rattle.std.proofs.Common.{rules, ◌≡◌, [], ◌++◌, ℕ, List, Ok, refl, ap, ◌∙◌}
use Rattle.txn_journal.proofs.Pieces.{line_ok}
use Rattle.txn_journal.proofs.feed.Feed.take_next.Goals as goal

pub returns-then-branch-clause-next : goal.returns-then-branch-clause-next
returns-then-branch-clause-next g c =
    let f = c.args.self.now in
    let first : f.rest.items ≡ [] = c.is_at_line.ensures c.if-not-is_at_line.false in
    let judged : g.T.TakeLine.judge f.made c.args.bytes.now ≡ Ok c.take_plain.new.self = search rules in
    line_ok g.T.TakeLine.judge f.stopped f.stopped f.made c.take_plain.new.self f.lines c.saturating_add-number.result f.rest.items f.rest.items c.args.bytes.now
    c.requires.goes refl c.requires.whole (ap (λ (r : List ℕ). g.T.TakeLine.judge f.made (r ++ c.args.bytes.now)) first ∙ judged) first c.saturating_add-number.ensures
