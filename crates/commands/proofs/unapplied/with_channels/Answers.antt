use Rattle.std.proofs.Common.{◌≡◌, ◌+◌, ◌-◌, ◌^◌, List, sym, ◌∙◌, arith}
use Rattle.std.specs.Prelude.{min}
use Rattle.std.proofs.lemmas.List.{at_drop_all}
use Rattle.journal.specs.Journals.{JournalValue}
use Rattle.commands.specs.Unapplied.{channel_line_count}
use Rattle.commands.proofs.unapplied.with_channels.Goals as goal

pub returns : goal.returns
returns c =
    let few = c.loop-journal.invariant.1 in
    let none : c.loop-journal.count ≡ min (c.loop-journal.count + 0) (2 ^ 64 - 1) = omega (arith, few) in
    none
    ∙ sym (at_drop_all (λ (xs : List JournalValue). min (c.loop-journal.count + channel_line_count xs) (2 ^ 64 - 1)) c.args.journals.now c.loop-journal.journal-index c.loop-journal-test.false)
    ∙ c.loop-journal.invariant.0
