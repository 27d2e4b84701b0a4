use Rattle.std.proofs.Common.{◌≡◌, ℕ, ◌<◌, false, get_or, option_map}
use Rattle.row_images.specs.declared.value.Value.TheVariants.{Null}
use Rattle.row_images.specs.Values.{is_null}
use Rattle.row_images.specs.OnePass.{words_left}
use Rattle.row_images.proofs.Passes.{IsLeft}
use Rattle.row_images.proofs.row.Row.mark_nulls.Given as goal

abbrev pub invariant-loop-mark : goal.invariant-loop-mark
invariant-loop-mark l = record {
  made : (k : ℕ) → k < l.mark-index → get_or l.marks k false ≡ is_null (get_or l.self k Null);
  left : IsLeft (words_left (option_map (λ t. t.now) l.left)) l.self l.mark-index;
}
