use Rattle.std.proofs.Common.{◌≡◌, ◌+◌, ◌-◌, ◌^◌, List, sym, ◌∙◌, arith}
use Rattle.std.specs.Prelude.{min}
use Rattle.std.proofs.lemmas.List.{at_drop_all}
use Rattle.journal.specs.declared.Entry.{Entry}
use Rattle.commands.specs.Unapplied.{entry_line_count}
use Rattle.commands.proofs.unapplied.with_entries.Goals as goal

pub returns : goal.returns
returns c =
    let few = c.loop-entry.invariant.1 in
    let none : c.loop-entry.count ≡ min (c.loop-entry.count + 0) (2 ^ 64 - 1) = omega (arith, few) in
    none
    ∙ sym (at_drop_all (λ (xs : List Entry). min (c.loop-entry.count + entry_line_count xs) (2 ^ 64 - 1)) c.args.entries.now c.loop-entry.entry-index c.loop-entry-test.false)
    ∙ c.loop-entry.invariant.0
