use Rattle.std.proofs.Common.{◌≡◌, ℕ, List, ◌++◌, ◌∷◌, [], length, sym, ap, subst, ◌∙◌}
use Rattle.std.specs.BTreeMap.{BTreeMap}
use Rattle.log_transactions.specs.Places.{ArePlaces}
use Rattle.log_transactions.specs.declared.mapped.StatementTable.{StatementTable}
use Rattle.log_transactions.proofs.PlaceLaws.{places_stay, places_more, is_there}
use Rattle.log_transactions.proofs.mapped.put.Goals as goal
use Rattle.log_transactions.proofs.mapped.put.Goals.{then-is_none+in_ok-name+in_ok-insert, else-is_none}

pub returns-clause-places : goal.returns-clause-places
returns-clause-places c =
    let old = c.args.list.now.items in
    let table = c.args.table in
    let places = c.args.places.now in
    let reserved : c.reserve.new.self.items ≡ old = c.in_ok-reserve.ensures.items in
    let pushed : old ++ table ∷ [] ≡ c.push_reserved.new.self.items = ap (λ (ts : List StatementTable). ts ++ table ∷ []) (sym reserved) ∙ sym c.push_reserved.ensures.items in
    let at : BTreeMap (List ℕ) ℕ → Type 0 = λ now. ArePlaces c.push_reserved.new.self.items now in
    elim c.if-is_none.branch [
      | then-is_none+in_ok-name+in_ok-insert w ↦
          subst at (sym w.places-is)
          (subst (λ (ts : List StatementTable). ArePlaces ts w.insert.new.self) pushed
          (places_more old places w.insert.new.self table w.in_ok-name.name _ w.in_ok-name.ensures.cases (ap (λ (ts : List StatementTable). length ts) (w.as_slice.ensures.value ∙ reserved)) c.requires
          (is_there c.get.result _ _ c.get.ensures.value w.if-is_none.ensures)
          w.in_ok-insert.ensures.updates))
      | else-is_none w ↦
          subst at (sym w.places-is)
          (subst (λ (ts : List StatementTable). ArePlaces ts places) pushed
          (places_stay old places table c.requires
          (is_there c.get.result _ _ c.get.ensures.value w.if-is_none.ensures)))
    ]
