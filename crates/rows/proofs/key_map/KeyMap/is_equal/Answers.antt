use Rattle.std.proofs.Common.{sym, ◌∙◌}
use Rattle.std.proofs.lemmas.Map.Lookups.{hash_map_eq-Decides}
use Rattle.row_images.proofs.Equal.{rows-Decide}
use Rattle.rows.proofs.Hashed.{keys_equiv, hashed_same, hashed_told}
use Rattle.rows.proofs.key_map.KeyMap.is_equal.Goals as goal

pub returns : goal.returns
returns c =
    let es = c.self.inside.carriers.entries in
    let fs = c.other.inside.carriers.entries in
    let d = hash_map_eq-Decides keys_equiv rows-Decide c.self.inside.carriers c.other.inside.carriers c.eq.result c.eq.ensures in (
      λ e. sym c.self.view_is ∙ hashed_same es fs (d.0 e) ∙ c.other.view_is,
      λ e. d.1 (hashed_told es fs (c.self.view_is ∙ e ∙ sym c.other.view_is)),
    )
