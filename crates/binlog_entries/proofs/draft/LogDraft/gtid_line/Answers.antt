use Rattle.std.proofs.Common.{sym, ◌∙◌}
use Rattle.txn_journal.proofs.GtidLaws.{gtid_found}
use Rattle.binlog_entries.proofs.LimitLaws.{number_of}
use Rattle.binlog_entries.proofs.draft.LogDraft.gtid_line.Goals as goal

pub name-requires : goal.name-requires
name-requires c =
    let gtid = c.in-Some.gtid in
    number_of gtid.number (gtid_found c.args.word.now gtid (sym c.in_ok-gtid.ensures ∙ c.in-Some.is)).1.number
