-- The opening of a replica that no call has named.
use Rattle.std.specs.Prelude.{[]}
use Rattle.std.specs.FinMap as finmap
use Rattle.replica_core.specs.State.{Replica}
use Rattle.replica_core.specs.Core.{new_replica}

-- a replica of no table
abbrev pub unnamed : Replica
unnamed = new_replica 0 (record { schema = []; rows = finmap.empty })
