use Rattle.std.proofs.Common.{[], List, sym, subst}
use Rattle.audit.specs.Marks.{owner_of}
use Rattle.audit.specs.Gathering.{IsGathered, Run}
use Rattle.audit.proofs.Gatherings.{none_gathered}
use Rattle.audit.proofs.gathering.begin.Goals as goal

pub returns : goal.returns
returns c = λ opened schema. subst (λ (runs : List Run). IsGathered opened schema [] runs (owner_of c.args.owners)) (sym c.new.ensures.items) (none_gathered opened schema (owner_of c.args.owners))
