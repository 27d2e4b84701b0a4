use Rattle.std.proofs.Common.{◌≡◌, ◌+◌, List, length, sym, ap, ◌∙◌, arith}
use Rattle.std.specs.FinMap as map
use Rattle.rows.specs.declared.change.Key.{Key}
use Rattle.row_images.specs.declared.value.Value.{Value}
use Rattle.rows.specs.Apply.{Rows, with_row}
use Rattle.rows.proofs.Kept.{one_fewer, with_row_first}
use Rattle.rows.proofs.Undoing.{with_row_last}
use Rattle.rows.proofs.replacement.+put_in_turn.Goals as goal

pub put_in_turn-requires : goal.put_in_turn-requires
put_in_turn-requires n c =
    let fewer : length c.args.keys.now.items ≡ length c.pop.new.self.items + 1 = one_fewer c.args.keys.now.items c.pop.new.self.items c.in-Some.key c.in-Some.ensures.items in
    (omega (arith, fewer, c.decreases), omega (arith, fewer, c.requires))

pub returns-clause-ok : goal.returns-clause-ok
returns-clause-ok n c =
    c.put_in_room.ensures.rows
    ∙ ap (λ (m : Rows). map.insert m c.in-Some.key c.in_ok-own.own) c.in_ok-put_in_turn.ensures.ok
    ∙ ap (λ (row : List Value). map.insert (with_row c.pop.new.self.items c.args.row.now (map.from_entries c.args.carriers.now.entries)) c.in-Some.key row) c.in_ok-own.ensures.cases
    ∙ with_row_first c.pop.new.self.items c.in-Some.key c.args.row.now (map.from_entries c.args.carriers.now.entries)
    ∙ sym (with_row_last c.pop.new.self.items c.in-Some.key c.args.row.now (map.from_entries c.args.carriers.now.entries))
    ∙ ap (λ (ks : List Key). with_row ks c.args.row.now (map.from_entries c.args.carriers.now.entries)) (sym c.in-Some.ensures.items)
