-- Keys in the order in which they first come.
use Rattle.std.specs.Prelude.{not, cond, List, [], ◌∷◌, ◌++◌, filter}
use Rattle.rows.specs.declared.change.Key.{Key}
use Rattle.rows.specs.Order.{key_eq}
use Rattle.rows.specs.WriteSet.{is_among}

-- the members of a list, each once, in the order of their first places
abbrev pub each_once : List Key → List Key
each_once [] = []
each_once (key ∷ keys) = key ∷ filter (λ k. not (key_eq k key)) (each_once keys)

-- with this key at the end, unless it is among them
abbrev pub add_key : List Key → Key → List Key
add_key keys key = cond (is_among keys key) keys (keys ++ key ∷ [])
