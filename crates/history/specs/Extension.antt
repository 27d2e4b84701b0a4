-- Lists that keep the order of what conflicts.
use Rattle.std.specs.Prelude.{◌≡◌, true, List, [], ◌∷◌}
use Rattle.gtid_text.specs.declared.Gtid.{Gtid}
use Rattle.rows.specs.Conflicts.{conflicts}
use Rattle.history.specs.World.{OrderedWorld, Entry, IsIn, Precedes, AreDistinct}

abbrev pub gtids_of : List Entry → List Gtid
gtids_of [] = []
gtids_of (e ∷ es) = e.0 ∷ gtids_of es

-- The list is a linear extension of the conflict order: it has transactions of the world, each once, and before each of them
-- all those that come before it in the world's order and conflict with it.
pub record IsLinearExtension (world : OrderedWorld) (es : List Entry) : Type 0 where
  pub distinct : AreDistinct es
  pub known : (e : Entry) → IsIn e es → IsIn e world.order
  pub ordered : (e f : Entry) → Precedes world.order e f → conflicts world.schema e.1 f.1 ≡ true → IsIn f es → Precedes es e f
