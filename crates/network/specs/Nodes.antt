-- The nodes of a network.
use Rattle.std.specs.Prelude.{ℕ, Bool, true, not, ◌&&◌, ◌==◌, List, [], ◌∷◌, map}
use Rattle.std.specs.List.{list_any}
use Rattle.std.specs.Ordering.{nat_cmp}
use Rattle.std.specs.FinMap as finmap
use Rattle.rows.specs.Apply.{Rows}
use Rattle.rows.specs.declared.schema.Table.{Table}
use Rattle.replica_core.specs.State.{Replica}
use Rattle.replica_core.specs.Core as core

-- the node that a channel reads: the one at which it was positioned last
abbrev pub Sources : Type 0
Sources = finmap.FinMap nat_cmp ℕ

-- a replica, and what its channels read
pub record Node : Type 0 where
  pub replica : Replica
  pub sources : Sources

-- a replica with these rows and nothing else, which reads nothing
abbrev pub opened_node : List Table → Rows → ℕ → Node
opened_node schema rows own = record { replica = core.new_replica own (record { schema = schema; rows = rows }); sources = finmap.empty }

-- a node for each UUID, all with the same rows
abbrev pub new_nodes : List ℕ → List Table → Rows → List Node
new_nodes ids schema rows = map (opened_node schema rows) ids

-- no UUID occurs twice
abbrev pub ids_distinct : List ℕ → Bool
ids_distinct [] = true
ids_distinct (own ∷ ids) = not (list_any (λ other. other == own) ids) && ids_distinct ids
