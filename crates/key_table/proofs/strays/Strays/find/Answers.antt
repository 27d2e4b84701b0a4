use Rattle.std.proofs.Common.{◌≡◌, false, sym, ap, subst, ◌∙◌}
use Rattle.std.specs.Option.{unwrap_or}
use Rattle.key_table.specs.Slots.{is_under}
use Rattle.key_table.proofs.StrayLemmas.{none_some, stray_get}
use Rattle.key_table.proofs.strays.Strays.find.Goals as goal

pub returns-in_err-place-clause-absent : goal.returns-in_err-place-clause-absent
returns-in_err-place-clause-absent g c = λ _ place own e stray.
    let laws = g.met.K.Ord in
    none_some _ c.in_err-place.ensures.value (stray_get g.K.PartialEq.eq g.K.Ord.cmp laws.total laws.matches_eq c.args.self.now c.args.key.now own place e c.if-self.false stray)

pub returns-else-is_under-clause-absent : goal.returns-else-is_under-clause-absent
returns-else-is_under-clause-absent g c = λ _ place own e stray.
    let laws = g.met.K.Ord in
    let here = c.in_ok-place.ensures.value ∙ stray_get g.K.PartialEq.eq g.K.Ord.cmp laws.total laws.matches_eq c.args.self.now c.args.key.now own place e c.if-self.false stray in
    subst (λ i. is_under g.K.PartialEq.eq c.args.entries.now c.args.key.now i ≡ false) (ap (λ o. unwrap_or o 0) here) (sym c.is_under.ensures ∙ c.if-is_under.false)
