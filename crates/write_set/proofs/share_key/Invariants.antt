use Rattle.std.proofs.Common.{◌≡◌, drop}
use Rattle.std.specs.List.{find}
use Rattle.rows.specs.WriteSet.{is_among}
use Rattle.write_set.proofs.share_key.Given as goal

abbrev pub invariant-loop-place : goal.invariant-loop-place
invariant-loop-place l = find (is_among l.b.keys) (drop l.place l.a.keys) ≡ find (is_among l.b.keys) l.a.keys
