use Rattle.std.proofs.Common.{refl, subst, Some, None}
use Rattle.std.specs.Prelude.{unwrap_or}
use Rattle.dependency_graph.specs.Chains.{IsOpened, entry_at}
use Rattle.dependency_graph.proofs.Entries.{ends_opened, entry_opened, entry_stays}
use Rattle.dependency_graph.proofs.chains.Chains.open.Goals as goal

pub returns-clause-same : goal.returns-clause-same
returns-clause-same c =
    let old = c.args.self.now.table.entries in
    let new = c.open_entry.new.table.entries in
    ends_opened c.args.key.now old new (subst (λ key. IsOpened key old new) c.in_ok-copy.ensures c.in-Ok.ensures.ok)

pub returns-clause-stays : goal.returns-clause-stays
returns-clause-stays c =
    let old = c.args.self.now.table.entries in
    let key = c.in_ok-copy.field-0 in
    entry_stays old c.open_entry.new.table.entries key (Some (unwrap_or (entry_at old key) None)) c.in-Ok.ensures.ok refl

pub returns-clause-opened : goal.returns-clause-opened
returns-clause-opened c =
    let old = c.args.self.now.table.entries in
    let new = c.open_entry.new.table.entries in
    entry_opened c.args.key.now old new (subst (λ key. IsOpened key old new) c.in_ok-copy.ensures c.in-Ok.ensures.ok)
