use Rattle.std.proofs.Common.{None}
use Rattle.std.proofs.lemmas.Map.Text.{btree_map_updates_text}
use Rattle.commands.proofs.summary_command.take_count.Goals as goal

pub returns-clause-left : goal.returns-clause-left
returns-clause-left c = btree_map_updates_text c.args.place.now c.args.counts.now c.remove.new.self None c.remove.ensures.updates
