use Rattle.std.proofs.Common.{sym, ap, ◌∙◌}
use Rattle.journal.specs.Writing.{is_writable}
use Rattle.binlog_entries.proofs.LimitLaws.{within_limits}
use Rattle.binlog_entries.proofs.JournalSteps.{not_added}
use Rattle.binlog_entries.proofs.as_journal.follow.Goals as goal
use Rattle.rows.specs.declared.limits.Limits.TheVariants.{Wide}

pub returns-clause-follows : goal.returns-clause-follows
returns-clause-follows c = (sym c.contains.ensures ∙ c.if-contains.false, within_limits c.args.entry.now c.requires.number (sym c.in_ok-limit.ensures ∙ c.in_default.is))

pub push-requires-clause-writable : goal.push-requires-clause-writable
push-requires-clause-writable c = ap (is_writable Wide) c.in_ok-entry.ensures.cases ∙ within_limits c.args.entry.now c.requires.number (sym c.in_ok-limit.ensures ∙ c.in_default.is)

pub returns-in-Err-clause-refused : goal.returns-in-Err-clause-refused
returns-in-Err-clause-refused c =
    not_added c.add.result c.in-Err.fault c.args.seen.now c.args.entry.now
    (sym c.contains.ensures ∙ c.if-contains.false, within_limits c.args.entry.now c.requires.number (sym c.in_ok-limit.ensures ∙ c.in_default.is))
    c.in-Err.is c.add.ensures.full
