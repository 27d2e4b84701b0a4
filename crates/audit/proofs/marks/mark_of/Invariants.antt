use Rattle.std.proofs.Common.{◌≡◌, [], ◌∷◌, drop, map}
use Rattle.std.specs.List.{fold}
use Rattle.std.specs.Hash.FoldHasher as folding
use Rattle.row_images.specs.Values.{value_text}
use Rattle.rows.specs.Keys.{values_in}
use Rattle.audit.proofs.marks.mark_of.Given as goal

abbrev pub invariant-loop-column : goal.invariant-loop-column
invariant-loop-column l =
    fold folding.write l.state (map value_text (values_in (drop l.column-index l.column-items) l.words)) ≡ fold folding.write (folding.write l.hash (l.index ∷ [])) (map value_text (values_in l.columns l.words))
