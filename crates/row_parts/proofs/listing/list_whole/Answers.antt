use Rattle.std.proofs.Common.{◌≡◌, ◌+◌, ◌<◌, List, length, subst, sym, ap, ◌∙◌, le_refl}
use Rattle.std.specs.Prelude.{Result, Ok, Err, IsPermutation, IfOk}
use Rattle.std.proofs.lemmas.List.{length-map}
use Rattle.row_parts.specs.Ranges.{AreListedAt, shown_at}
use Rattle.row_parts.specs.Listing.{entries_at, joined_before, rows_in_each}
use Rattle.row_parts.specs.declared.listing.Listed.{Listed}
use Rattle.row_parts.proofs.Steps.{all_at, each_at, made}
use Rattle.row_parts.proofs.Whole.{whole_listed}
use Rattle.row_parts.proofs.listing.list_whole.Goals as goal

-- what two clauses say of one answer
of_both : {A E : Type 0} (r : Result A E) (P Q R : A → Type 0) → ((x : A) → P x → Q x → R x) → IfOk r P → IfOk r Q → IfOk r R
of_both (Ok x) P Q R f p q = f x p q
of_both (Err e) P Q R f p q = tt

pub returns : goal.returns
returns g c =
    let parts = rows_in_each c.args.parts.now in
    let entries = entries_at c.args.opening.now.rows parts in
    let found = c.in_ok-lists.lists in
    let lists = c.in_ok-lists-2.lists.items in
    let count : length found.items ≡ length c.args.parts.now + 1 = sym found.ok.0 ∙ c.in_ok-lists.ensures.len in
    let each : AreListedAt entries lists = each_at entries lists found.items c.in_ok-lists-2.ensures (λ i d l. (c.in_ok-lists.ensures.each i d (subst (λ n. i < n) count l)).1.met) in
    let number : length lists ≡ length parts + 1 = sym (length-map lists made) ∙ ap length c.in_ok-lists-2.ensures ∙ count ∙ ap (λ n. n + 1) (sym (length-map c.args.parts.now (λ p. p.rows))) in
    of_both c.merge_beside.result _ _ _
    (λ list same rising whole are.
    let merged = subst (λ (ls : List Listed). IsPermutation (joined_before (shown_at ls) (length ls)) list.items) c.deref.ensures.value same in
    whole_listed c.args.opening.now.rows parts whole are (joined_before (shown_at lists) (length lists)) list.items
    (all_at entries lists (length lists) each (le_refl (length lists)) ∙ ap (joined_before entries) number) merged rising)
    c.merge_beside.ensures.same c.merge_beside.ensures.rising
