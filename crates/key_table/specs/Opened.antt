-- A key that has a value.
use Rattle.std.specs.Prelude.{◌≡◌, Bool, List, [], ◌∷◌, ◌++◌, Some, is_some, cond}
use Rattle.std.specs.Map.{lookup}
use Rattle.std.specs.Option.{unwrap_or}
use Rattle.indexmap.specs.IndexMap.{IndexMap, get}

-- The key has the value that it had, or else this, and each other key has what it had.
abbrev pub IsOpened : {K V S : Type 0} → (K → K → Bool) → IndexMap K V S → IndexMap K V S → K → V → Type 0
IsOpened {K} eq old new key value = (q : K) → get eq new q ≡ cond (eq key q) (Some (unwrap_or (get eq old key) value)) (get eq old q)

-- the entries, with this one last if none has its key
abbrev pub open_entry : {K V : Type 0} → (K → K → Bool) → List (K × V) → K → V → List (K × V)
open_entry eq entries key value = cond (is_some (lookup (eq key) entries)) entries (entries ++ (key, value) ∷ [])
