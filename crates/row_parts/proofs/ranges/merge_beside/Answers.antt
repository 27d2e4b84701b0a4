use Rattle.std.proofs.Common.{List, length, subst}
use Rattle.std.specs.Prelude.{slice_get, IsPermutation}
use Rattle.std.proofs.lemmas.Result.{IfOk-weaker}
use Rattle.row_parts.specs.Listing.{joined_before}
use Rattle.row_parts.specs.Ranges.{RisesAlong, cuts_in, shown_at}
use Rattle.row_parts.specs.declared.listing.Listed.{Listed}
use Rattle.row_parts.proofs.Cutting.{all_ranges, merged}
use Rattle.row_parts.proofs.ranges.merge_beside.Goals as goal

pub returns-clause-same : goal.returns-clause-same
returns-clause-same g c =
    let found = c.in_ok-found in
    IfOk-weaker c.join_ranges.result _ _
    (λ all same. merged c.args.lists.now c.in_ok-ranges.ranges.items found.found.items (λ i. cuts_in (slice_get c.deref.result.now i)) all.items
    c.in_ok-ranges.ensures found.ensures.count found.ensures.ranges
    (subst (λ (rs : List Listed). IsPermutation (joined_before (shown_at rs) (length rs)) all.items) c.deref-2.ensures.value same))
    c.join_ranges.ensures.same

pub returns-clause-rising : goal.returns-clause-rising
returns-clause-rising g c =
    let found = c.in_ok-found in
    IfOk-weaker c.join_ranges.result _ _
    (λ all rising. subst (λ (rs : List Listed). RisesAlong rs all.items) c.deref-2.ensures.value rising
    (λ i l at. (all_ranges c.args.lists.now c.in_ok-ranges.ranges.items found.found.items (λ i. cuts_in (slice_get c.deref.result.now i)) c.in_ok-ranges.ensures found.ensures.ranges i l at).rising))
    c.join_ranges.ensures.rising
