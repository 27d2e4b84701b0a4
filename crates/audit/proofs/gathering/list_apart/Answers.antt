use Rattle.audit.proofs.gathering.list_apart.Goals as goal

pub gather_list-requires-clause-begun : goal.gather_list-requires-clause-begun
gather_list-requires-clause-begun c = c.begin-state.ensures c.args.opened.now c.args.schema.now
