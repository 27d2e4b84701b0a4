use Rattle.std.proofs.Common.{sym, ◌∙◌}
use Rattle.txn_journal.proofs.GtidLaws.{set_found, written_numbers}
use Rattle.binlog_entries.proofs.draft.LogDraft.sources_line.Goals as goal

pub precede-requires : goal.precede-requires
precede-requires c =
    let gtids = c.in-Some.gtids in
    written_numbers gtids (set_found c.args.word.now gtids (sym c.in_ok-gtids.ensures.found ∙ c.in-Some.is)).1
