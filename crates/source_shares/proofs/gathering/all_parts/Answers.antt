use Rattle.std.proofs.Common.{◌++◌, ◌∷◌, [], List, Option, Some, map, sym, ap, ◌∙◌}
use Rattle.std.proofs.lemmas.List.{map-id, map-append}
use Rattle.std.proofs.lemmas.Iterator.Consumers.{YieldsList-end}
use Rattle.std.proofs.lemmas.Iterator.Adapters.{YieldsList-from_vec}
use Rattle.rows.specs.Database.{Database}
use Rattle.source_shares.proofs.gathering.all_parts.Goals as goal

pub loop-part-preserved : goal.loop-part-preserved
loop-part-preserved c =
    let part : Database = c.in_ok-part.part in
    ap (λ (ps : List Database). map Some ps) c.in-Ok.ensures.items
    ∙ map-append Some c.loop-part.parts.items (part ∷ [])
    ∙ ap (λ (ps : List (Option Database)). ps ++ Some part ∷ []) c.loop-part.invariant
    ∙ ap (λ (p : Option Database). c.loop-part.yielded ++ p ∷ []) (sym c.in_ok-part.was)

pub returns : goal.returns
returns c =
    let began = c.into_iter-part-iterator.ensures.into_iter_gives in
    let road = YieldsList-from_vec {s = c.into_iter-part-iterator.result} c.args.found.items began.0 (began.1 ∙ c.args.found.ok.0) in
    let all = YieldsList-end road c.loop-part.yielded c.loop-part.part-iterator c.loop-part.yielded_by _ c.next.new.self c.in-None.is c.next.ensures.steps in
    c.loop-part.invariant ∙ sym (map-id c.loop-part.yielded) ∙ all.0
