use Rattle.std.proofs.Common.{◌≡◌, ℕ, List, ◌++◌, OnOk, false, map, take, sym, ap, ◌∙◌, subst, Bor}
use Rattle.std.proofs.lemmas.List.{take-map}
use Rattle.fault_places.specs.Explained.{twice_text}
use Rattle.fault_places.specs.Twice.{read_until_twice}
use Rattle.fault_places.proofs.refusal_text.put_twice.Goals as goal

pub returns : goal.returns
returns c =
    let now : Bor (List ℕ) → List ℕ = λ x. x.now in
    let lines : List (List ℕ) = map now c.args.lines.now in
    let read : map now (take c.in_ok-count.count c.args.lines.now) ≡ read_until_twice c.args.gtid.now lines =
    sym (take-map now c.in_ok-count.count c.args.lines.now) ∙ ap (λ (n : ℕ). take n lines) c.in_ok-count.ensures.read in
    subst (λ (ls : List (List ℕ)). OnOk c.put_each_place.result (c.put_each_place.new.out.items ≡ c.args.out.now.items ++ twice_text c.args.gtid.now ls)) read c.put_each_place.ensures
