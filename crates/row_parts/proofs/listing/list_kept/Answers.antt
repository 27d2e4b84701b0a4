use Rattle.std.proofs.Common.{Some, Bool, List, sym, ap, ◌∙◌}
use Rattle.std.specs.FinMap.{get}
use Rattle.std.specs.List.{list_all}
use Rattle.row_images.specs.declared.value.Value.{Value}
use Rattle.rows.specs.declared.change.Key.{Key}
use Rattle.rows.specs.Patch.{same_row}
use Rattle.row_parts.specs.Listing.{kept_entries, rows_in_each}
use Rattle.row_parts.proofs.Steps.{one_in, one_out}
use Rattle.row_parts.proofs.listing.list_kept.Goals.{then-have_row+in_ok-push, else-have_row}
use Rattle.row_parts.proofs.listing.list_kept.Goals as goal

pub loop-key-preserved : goal.loop-key-preserved
loop-key-preserved c =
    let parts = rows_in_each c.args.parts.now in
    let t : Key × List Value → Bool = λ e. list_all (λ p. same_row (get p e.0) (Some e.1)) parts in
    let all = kept_entries c.args.opening.now.rows parts in
    let items = c.deref-key-items.result.now in
    elim c.if-have_row.branch [
      | then-have_row+in_ok-push w ↦
          one_in t c.loop-key.list.items c.if-have_row.list.items items c.loop-key.key-index c.loop-key-item.result all
          c.loop-key-test.true c.loop-key-item.is (sym c.have_row.ensures ∙ w.if-have_row.true) (ap (λ v. v.items) w.list-is ∙ w.in_ok-push.ensures.items) c.loop-key.invariant
      | else-have_row w ↦
          one_out t c.loop-key.list.items c.if-have_row.list.items items c.loop-key.key-index c.loop-key-item.result all
          c.loop-key-test.true c.loop-key-item.is (sym c.have_row.ensures ∙ w.if-have_row.false) (ap (λ v. v.items) w.list-is) c.loop-key.invariant
    ]
