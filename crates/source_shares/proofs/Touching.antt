-- What several threads list and find.
use Rattle.std.proofs.Common.{◌≡◌, ◌<◌, ℕ, zero, suc, Bool, true, List, [], ◌∷◌, ◌++◌, Bor, Result, Ok, map, length, get_or, sym, ap, ◌∙◌, arith}
use Rattle.std.specs.Global.{Vec}
use Rattle.std.specs.declared.alloc.AllocError.{AllocError}
use Rattle.std.proofs.lemmas.List.{map-append}
use Rattle.std.proofs.lemmas.Grind.{flat_map-append}
use Rattle.rows.specs.declared.schema.Table.{Table}
use Rattle.journal.specs.declared.Entry.{Entry}
use Rattle.audit.specs.Owned.{touches_in_lists, touches_of, touches_of_all}
use Rattle.audit.specs.declared.parted.MarkTouch.{MarkTouch}
use Rattle.source_shares.specs.Apart.{AreAllFound}

-- what is touched by the entries of two halves
pub both_listed : (schema : List Table) (all front back : List (Bor Entry)) (first second : List (Vec MarkTouch)) → all ≡ front ++ back
    → touches_in_lists first ≡ touches_of_all schema (map (λ (e : Bor Entry). e.now) front) → touches_in_lists second ≡ touches_of_all schema (map (λ (e : Bor Entry). e.now) back)
    → touches_in_lists (first ++ second) ≡ touches_of_all schema (map (λ (e : Bor Entry). e.now) all)
both_listed schema all front back first second parts one two =
    let now : Bor Entry → Entry = λ e. e.now in
    flat_map-append (λ (l : Vec MarkTouch). l.items) first second
    ∙ (λ i. one i ++ two i)
    ∙ sym (flat_map-append (touches_of schema) (map now front) (map now back))
    ∙ ap (touches_of_all schema) (sym (map-append now front back) ∙ ap (map now) (sym parts))

-- each thread found that it holds
pub found_at : (found : List (Result Bool AllocError)) (place : ℕ) (d : Result Bool AllocError) → AreAllFound found → place < length found → get_or found place d ≡ Ok true
found_at [] place d are within = absurd (omega (arith, within))
found_at (answer ∷ more) zero d are within = are.0
found_at (answer ∷ more) (suc place) d are within = found_at more place d are.1 (omega (arith, within))
