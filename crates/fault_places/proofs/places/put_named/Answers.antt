use Rattle.std.proofs.Common.{◌≡◌, ℕ, List, ◌++◌, OnOk, append_assoc, ap, ◌∙◌, subst}
use Rattle.fault_places.specs.LogPlaces.{log_place_text}
use Rattle.fault_places.specs.Places.{entry_text}
use Rattle.fault_places.proofs.places.put_named.Goals as goal

pub returns : goal.returns
returns c =
    let entry : List ℕ = entry_text c.args.gtid.now c.args.name.now c.args.standing c.args.number in
    let place : List ℕ = log_place_text c.args.before.now in
    subst (λ (text : List ℕ). OnOk c.put_log_place.result (c.put_log_place.new.out.items ≡ text))
    (ap (λ (text : List ℕ). text ++ place) c.in_ok-put_entry.ensures ∙ append_assoc c.args.out.now.items entry place) c.put_log_place.ensures
