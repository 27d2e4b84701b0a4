use Rattle.std.proofs.Common.{◌<◌, ◌∙◌, ℕ, List, Bor, [], sym, subst, map}
use Rattle.std.specs.Prelude.{Result, Ok, Err, IfOk}
use Rattle.std.proofs.lemmas.List.{same_lists, length-map, get_or-map}
use Rattle.parallel_reading.proofs.parts.parse_all.Goals as goal

-- what two clauses say of one answer
of_both : {A E : Type 0} (r : Result A E) (P Q R : A → Type 0) → ((x : A) → P x → Q x → R x) → IfOk r P → IfOk r Q → IfOk r R
of_both (Ok x) P Q R f p q = f x p q
of_both (Err e) P Q R f p q = tt

pub returns : goal.returns
returns g c =
    let none : Bor (List ℕ) = record { ref_ptr = (0, 0); now = [] } in
    of_both c.map_indices.result _ _ _
    (λ parsed len each.
    let count = sym parsed.ok.0 ∙ len in
    same_lists parsed.items (map (λ p. p.now) c.args.parts.now) (count ∙ sym (length-map c.args.parts.now (λ p. p.now)))
    (λ k d lt.
    let within = subst (λ n. k < n) count lt in
    (each k d within).1.met none ∙ sym (get_or-map (λ p. p.now) c.args.parts.now k none d within)))
    c.map_indices.ensures.len c.map_indices.ensures.each
