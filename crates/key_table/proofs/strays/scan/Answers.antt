use Rattle.std.proofs.Common.{◌≡◌, inl, inr, false, length, sym, ◌∙◌, subst, arith}
use Rattle.std.proofs.lemmas.Bool.{cases_lt, cases_eq}
use Rattle.key_table.specs.Slots.{is_under}
use Rattle.key_table.proofs.SlotLemmas.{under_past}
use Rattle.key_table.proofs.strays.scan.Goals as goal

pub loop-place-preserved : goal.loop-place-preserved
loop-place-preserved g c = λ place below.
    elim (cases_eq place c.loop-place.place) [
      | inl same ↦ subst (λ i. is_under g.K.PartialEq.eq c.args.entries.now c.args.key.now i ≡ false) (sym same) (sym c.is_under.ensures ∙ c.if-is_under.false)
      | inr other ↦ c.loop-place.invariant place (omega (below, other, arith))
    ]

pub returns-clause-absent : goal.returns-clause-absent
returns-clause-absent g c = λ _ place.
    elim (cases_lt place (length c.args.entries.now)) [
      | inl within ↦ c.loop-place.invariant place (omega (within, arith, c.loop-place-test))
      | inr beyond ↦ under_past g.K.PartialEq.eq c.args.entries.now c.args.key.now place beyond
    ]
