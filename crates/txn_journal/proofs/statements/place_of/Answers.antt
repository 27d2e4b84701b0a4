use Rattle.std.proofs.Common.{arith, false, sym, ap, ◌∙◌, []}
use Rattle.std.proofs.lemmas.List.Sums.{position_or_len_is}
use Rattle.txn_journal.specs.Assumptions.{is_called}
use Rattle.txn_journal.specs.declared.bundle.BundleChannel.{BundleChannel}
use Rattle.txn_journal.proofs.statements.place_of.Goals as goal

pub returns-then-eq : goal.returns-then-eq
returns-then-eq c =
    let channel = c.index-channels-i.result in
    sym (position_or_len_is (is_called c.args.name.now) c.args.channels.now c.loop-i.i channel (omega arith) (λ k h. c.loop-i.invariant k channel h) (λ _. ap (is_called c.args.name.now) (sym c.index-channels-i.is) ∙ sym c.eq.ensures ∙ c.if-eq.true))

pub returns : goal.returns
returns c =
    let none : BundleChannel = record { name = []; preserve = false } in
    sym (position_or_len_is (is_called c.args.name.now) c.args.channels.now _ none (omega arith) (λ k h. c.loop-i.invariant k none (omega arith)) (λ h. absurd (omega (arith, h))))
