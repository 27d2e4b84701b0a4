use Rattle.std.proofs.Common.{ap, sym, ◌∙◌}
use Rattle.std.specs.Prelude.{sum_by}
use Rattle.std.specs.FinSet as set
use Rattle.gtid_set.specs.Sweep.{size_of}
use Rattle.gtid_set.proofs.SetLemmas.{len-set_of}
use Rattle.gtid_set.proofs.SetSources.{apart_merged}
use Rattle.gtid_set.proofs.GtidSet.count.Goals as goal

pub returns : goal.returns
returns c =
    let items = c.self.inside.spans in
    c.count_numbers.ensures ∙ ap (sum_by size_of) c.cursor.ensures ∙ sym (len-set_of items (apart_merged items c.self.invariant.merged)) ∙ ap set.len c.self.view_is
