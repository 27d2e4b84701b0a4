use Rattle.std.proofs.Common.{rules, ◌≡◌, []}
use Rattle.std.proofs.lemmas.List.{nil_from_length}
use Rattle.audit.specs.Marks.{owner_of}
use Rattle.audit.proofs.Gatherings.{touches_none}
use Rattle.audit.proofs.gathering.touch_keys.Goals as goal

pub returns-then-is_empty : goal.returns-then-is_empty
returns-then-is_empty c =
    let none : c.args.schema.now ≡ [] = nil_from_length c.args.schema.now (search rules) in
    λ e. touches_none (owner_of c.args.owners.now) c.args.schema.now c.args.entry.now.txn c.args.entry.now.gtid.source none
