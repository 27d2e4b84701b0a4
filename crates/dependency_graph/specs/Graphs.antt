-- A graph as its callers see it: the list of its nodes, each finished or not, with its keys.
use Rattle.std.specs.Prelude.{ℕ, suc, ◌≡◌, ◌<◌, ◌≤◌, Bool, true, false, not, ◌&&◌, cond, List, [], ◌∷◌, length, take, Option, Some, None, is_none, slice_index_or, slice_set, refl}
use Rattle.std.specs.List.{list_all, list_any}
use Rattle.std.specs.Coded.{Coded, code_by, coded×, coded_bool, coded_list}
use Rattle.rows.specs.declared.change.Key.{Key}
use Rattle.rows.specs.Coding.{key_code}
use Rattle.rows.specs.WriteSet.{is_among}

pub record Point : Type 0 where
  pub finished : Bool
  pub keys : List Key

abbrev pub point_code : Coded Point
point_code = code_by (Bool × List Key) (coded× coded_bool (coded_list key_code)) (λ p. (p.finished, p.keys)) (λ p. record { finished = p.0; keys = p.1 }) (λ _. refl)

-- a node of the longest finished prefix
abbrev pub gone : Point
gone = record { finished = true; keys = [] }

-- a node that was just added
abbrev pub unfinished : List Key → Point
unfinished keys = record { finished = false; keys = keys }

-- the first that passes, if the first of the list has this number
abbrev pub least : (Point → Bool) → ℕ → List Point → Option ℕ
least p at [] = None
least p at (x ∷ xs) = cond (p x) (Some at) (least p (suc at) xs)

-- an unfinished node that touches the key
abbrev pub is_open_at : Key → Point → Bool
is_open_at k e = not e.finished && is_among e.keys k

-- an unfinished node that touches one of the keys
abbrev pub holds_back : List Key → Point → Bool
holds_back keys e = list_any (λ k. is_open_at k e) keys

abbrev pub point_at : List Point → ℕ → Point
point_at ps n = slice_index_or ps n gone

-- the least earlier unfinished node with a common key
abbrev pub blocker : List Point → ℕ → Option ℕ
blocker ps n = least (holds_back (point_at ps n).keys) 0 (take n ps)

abbrev pub is_ready : List Point → ℕ → Bool
is_ready ps n = is_none (blocker ps n)

-- unfinished and ready
abbrev pub may_go : List Point → ℕ → Bool
may_go ps n = not (point_at ps n).finished && is_ready ps n

-- the least from there that may go
abbrev pub IsNextReady : List Point → ℕ → Option ℕ → Type 0
IsNextReady ps from None = (m : ℕ) → from ≤ m → m < length ps → may_go ps m ≡ false
IsNextReady ps from (Some n) = (from ≤ n) × (n < length ps) × (may_go ps n ≡ true) × ((m : ℕ) → from ≤ m → m < n → may_go ps m ≡ false)

-- every node is finished
abbrev pub are_finished : List Point → Bool
are_finished ps = list_all (λ p. p.finished) ps

-- without the keys of the longest finished prefix
abbrev pub drop_finished : List Point → List Point
drop_finished [] = []
drop_finished (p ∷ ps) = cond p.finished (gone ∷ drop_finished ps) (p ∷ ps)

-- with this node finished
abbrev pub mark_at : List Point → ℕ → List Point
mark_at ps n = slice_set ps n (record (point_at ps n) { finished = true })

-- once this node is finished
abbrev pub finish_at : List Point → ℕ → List Point
finish_at ps n = drop_finished (mark_at ps n)

-- a graph with room for a node that touches these keys
pub record Awaiting : Type 0 where
  pub nodes : List Point
  pub keys : List Key

abbrev pub awaiting_code : Coded Awaiting
awaiting_code = code_by (List Point × List Key) (coded× (coded_list point_code) (coded_list key_code)) (λ a. (a.nodes, a.keys)) (λ p. record { nodes = p.0; keys = p.1 }) (λ _. refl)
