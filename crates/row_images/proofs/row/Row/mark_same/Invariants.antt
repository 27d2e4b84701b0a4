use Rattle.std.proofs.Common.{◌≡◌, ℕ, ◌<◌, false, get_or, option_map}
use Rattle.std.specs.Ordering.{eq_by_cmp}
use Rattle.row_images.specs.declared.value.Value.TheVariants.{Null}
use Rattle.row_images.specs.Order.{value_cmp}
use Rattle.row_images.specs.OnePass.{words_left}
use Rattle.row_images.proofs.Passes.{IsLeft}
use Rattle.row_images.proofs.row.Row.mark_same.Given as goal

abbrev pub invariant-loop-mark : goal.invariant-loop-mark
invariant-loop-mark l = record {
  made : (k : ℕ) → k < l.mark-index → get_or l.marks k false ≡ eq_by_cmp value_cmp (get_or l.self k Null) (get_or l.other k Null);
  left : IsLeft (words_left (option_map (λ t. t.now) l.left)) l.self l.mark-index;
  other_left : IsLeft (words_left (option_map (λ t. t.now) l.other_left)) l.other l.mark-index;
}
