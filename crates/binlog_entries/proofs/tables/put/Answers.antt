use Rattle.std.proofs.Common.{◌≡◌, ℕ, List, ◌++◌, ◌∷◌, [], length, is_some, true, false, sym, ap, subst, ◌∙◌}
use Rattle.std.specs.BTreeMap.{BTreeMap, get}
use Rattle.std.specs.Cmp.Lexicographic.{slice_cmp}
use Rattle.std.specs.Ordering.{nat_cmp}
use Rattle.binlog_entries.specs.Places.{ArePlaces}
use Rattle.binlog_entries.specs.Tables.{Table}
use Rattle.binlog_entries.proofs.PlaceLaws.{places_stay, places_more, is_there}
use Rattle.binlog_entries.proofs.tables.put.Goals as goal
use Rattle.binlog_entries.proofs.tables.put.Goals.{then-is_none+in_ok-name+in_ok-insert, else-is_none}

pub returns-clause-places : goal.returns-clause-places
returns-clause-places c =
    let old = c.args.list.now.items in
    let table = c.args.table in
    let places = c.args.places.now in
    let named : c.table.inside.name ≡ table.name = ap (λ (t : Table). t.name) c.table.view_is in
    let reserved : c.reserve.new.self.items ≡ old = c.in_ok-reserve.ensures.items in
    let pushed : old ++ table ∷ [] ≡ c.push_reserved.new.self.items = ap (λ (ts : List Table). ts ++ table ∷ []) (sym reserved) ∙ sym c.push_reserved.ensures.items in
    let at : BTreeMap (List ℕ) ℕ → Type 0 = λ now. ArePlaces c.push_reserved.new.self.items now in
    elim c.if-is_none.branch [
      | then-is_none+in_ok-name+in_ok-insert w ↦
          subst at (sym w.places-is)
          (subst (λ (ts : List Table). ArePlaces ts w.insert.new.self) pushed
          (places_more old places w.insert.new.self table w.in_ok-name.name _ (w.in_ok-name.ensures.cases ∙ named) (ap (λ (ts : List Table). length ts) (w.as_slice.ensures.value ∙ reserved)) c.requires
          (subst (λ (n : List ℕ). is_some (get (slice_cmp nat_cmp) places n) ≡ false) named (is_there c.get.result _ _ c.get.ensures.value w.if-is_none.ensures))
          w.in_ok-insert.ensures.updates))
      | else-is_none w ↦
          subst at (sym w.places-is)
          (subst (λ (ts : List Table). ArePlaces ts places) pushed
          (places_stay old places table c.requires
          (subst (λ (n : List ℕ). is_some (get (slice_cmp nat_cmp) places n) ≡ true) named (is_there c.get.result _ _ c.get.ensures.value w.if-is_none.ensures))))
    ]
