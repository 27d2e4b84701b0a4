use Rattle.std.proofs.Common.{sym, ap, ◌∙◌}
use Rattle.txn_journal.specs.Versions.{is_named}
use Rattle.txn_journal.proofs.LineReads.{name_found}
use Rattle.txn_journal.proofs.names.Names.read.Goals as goal

pub keep-requires : goal.keep-requires
keep-requires c = ap (is_named c.args.limits) c.in_ok-clone-in-Err.ensures.cases ∙ (name_found c.args.limits c.args.word.now c.in-Some-found.name (sym c.in_ok-found-in-Err.ensures ∙ c.in-Some-found.is)).1
