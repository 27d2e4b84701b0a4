use Rattle.std.proofs.Common.{ap, ◌∙◌}
use Rattle.std.specs.List.{list_all}
use Rattle.gtid_set.specs.Sweep.{is_in_range}
use Rattle.gtid_set.proofs.RangeLemmas.{numbers_in_range}
use Rattle.gtid_set.proofs.GtidSet.are_numbers_in_range.Goals as goal

pub returns : goal.returns
returns c = numbers_in_range c.self.inside.spans c.args.self.now c.are_in_range.result c.self.invariant.merged c.self.view_is (c.are_in_range.ensures ∙ ap (list_all is_in_range) c.cursor.ensures)
