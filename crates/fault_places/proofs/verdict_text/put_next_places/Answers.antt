use Rattle.std.proofs.Common.{◌≡◌, ℕ, List, ◌++◌, OnOk, codes, map, append_assoc, ap, ◌∙◌, subst}
use Rattle.gtid_text.specs.Canonical.{gtid_text}
use Rattle.fault_places.specs.Places.{bare_places}
use Rattle.fault_places.proofs.verdict_text.put_next_places.Goals as goal

pub returns : goal.returns
returns c =
    let places : List ℕ = bare_places (gtid_text c.args.gtid.now) (map (λ x. x.now) c.args.lines.now) in
    subst (λ (text : List ℕ). OnOk c.put_bare.result (c.put_bare.new.out.items ≡ text))
    (ap (λ (text : List ℕ). text ++ places) c.in_ok-put.ensures ∙ append_assoc c.args.out.now.items (codes "  next there:\n") places) c.put_bare.ensures
