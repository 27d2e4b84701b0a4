use Rattle.std.proofs.Common.{rules, ◌≡◌, ◌++◌, ◌∷◌, [], take, get_or, sym, ap, subst, ◌∙◌, arith}
use Rattle.std.proofs.lemmas.List.{take_all, take_more}
use Rattle.std.proofs.lemmas.List.Elements.{AllZip-push}
use Rattle.std.specs.List.{AllZip}
use Rattle.key_table.proofs.lists.copy_all.Goals as goal

pub loop-place-preserved : goal.loop-place-preserved
loop-place-preserved g c =
    let es = c.args.entries.now in
    let place = c.loop-place.place in
    let d = c.index-entries-place.result in
    let within = c.loop-place-test.true in (
      subst (λ l. AllZip (λ p q. (q.0 ≡ p.0) × g.V.Clone.is_clone p.1 q.1) l c.push.new.self.items) (sym (take_more es place d within))
          (subst (λ l. AllZip (λ p q. (q.0 ≡ p.0) × g.V.Clone.is_clone p.1 q.1) (take place es ++ get_or es place d ∷ []) l) (sym c.in_ok-push.ensures.items)
          (AllZip-push (λ p q. (q.0 ≡ p.0) × g.V.Clone.is_clone p.1 q.1) (take place es) c.loop-place.copies.items (get_or es place d) (c.in_ok-again.field-0, c.in_ok-clone.field-0) c.loop-place.invariant.0 (c.in_ok-again.ensures ∙ ap (λ e. e.0) c.index-entries-place.is, subst (λ e. g.V.Clone.is_clone e.1 c.in_ok-clone.field-0) c.index-entries-place.is (search rules)))),
      c.in_ok-push-2.ensures.items ∙ ap (λ l. l ++ get_or c.args.hashes.now place 0 ∷ []) c.loop-place.invariant.1 ∙ sym (take_more c.args.hashes.now place 0 (omega (within, c.requires, arith))),
    )

pub returns-clause-entries : goal.returns-clause-entries
returns-clause-entries g c =
    subst (λ l. AllZip (λ p q. (q.0 ≡ p.0) × g.V.Clone.is_clone p.1 q.1) l c.loop-place.copies.items) (take_all c.loop-place.place c.args.entries.now (omega (c.loop-place-test.false, arith))) c.loop-place.invariant.0

pub returns-clause-hashes : goal.returns-clause-hashes
returns-clause-hashes g c = c.loop-place.invariant.1 ∙ take_all c.loop-place.place c.args.hashes.now (omega (c.loop-place-test.false, c.requires, arith))
