use Rattle.std.proofs.Common.{rules, ◌+◌, length}
use Rattle.txn_journal.specs.TakenEntries.{Makes}
use Rattle.txn_journal.proofs.EntryTexts.{whole_taken}
use Rattle.txn_journal.proofs.feed.Feed.take_whole.Goals as goal

pub returns-then-branch-clause-next : goal.returns-then-branch-clause-next
returns-then-branch-clause-next g c =
    let f = c.args.self.now in
    let e = c.args.entry in
    let taken : Makes g.T.TakeLine.judge e.text (length e.changes + 2) f.made c.take_entry.new.self = search rules in
    whole_taken g.T.TakeLine.judge f.stopped f.made c.take_entry.new.self f.lines c.in-Some.number (length e.changes + 2) f.rest.items e.text
    c.requires c.in-Some.ensures.first taken c.in-Some.ensures.number c.in-Some.ensures.fits
