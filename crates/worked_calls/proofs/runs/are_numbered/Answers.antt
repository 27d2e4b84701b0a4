use Rattle.std.proofs.Common.{◌≡◌, ℕ, zero, suc, ◌+◌, ◌<◌, ◌++◌, ◌∷◌, [], true, take, length, sym, ap, ◌∙◌, subst, arith}
use Rattle.std.proofs.lemmas.List.{take_more, take_all}
use Rattle.std.proofs.lemmas.List.Elements.{All-append}
use Rattle.replica_core.specs.declared.event.Event.{Event}
use Rattle.replica_core.specs.Machine.{AreNumbered, is_numbered}
use Rattle.worked_calls.proofs.runs.are_numbered.Goals as goal

one_numbered : (e : Event) → is_numbered e ≡ true → AreNumbered (e ∷ [])
one_numbered e p zero d h = p
one_numbered e p (suc k) d h = absurd (omega (h, arith))

pub loop-event-preserved : goal.loop-event-preserved
loop-event-preserved c =
    let es = c.args.events.now in
    let i = c.loop-event.event-index in
    let e = c.event-item.result in
    let front = take_more es i e (omega arith) ∙ ap (λ (x : Event). take i es ++ x ∷ []) (sym c.event-item.is) in
    subst AreNumbered (sym front) (All-append (λ (x : Event). is_numbered x ≡ true) (take i es) (e ∷ []) c.loop-event.invariant (one_numbered e (sym c.is_numbered.ensures ∙ c.if-not-is_numbered.false)))

pub returns : goal.returns
returns c told = subst AreNumbered (take_all c.loop-event.event-index c.args.events.now (omega (c.loop-event-test.false, c.loop-event.auto.event-index-end, arith))) c.loop-event.invariant
