use Rattle.std.proofs.Common.{◌≡◌, ◌≤◌, ◌-◌, length, take}
use Rattle.std.specs.Prelude.{◌==◌}
use Rattle.std.specs.List.{suffix_len}
use Rattle.derived_columns.proofs.compared.kept_len.Given as goal

-- what is behind is that byte
abbrev pub invariant-loop-len : goal.invariant-loop-len
invariant-loop-len l =
    (l.len ≤ length l.bytes)
    × (length l.bytes - suffix_len (λ b. b == l.byte) l.bytes ≡ l.len - suffix_len (λ b. b == l.byte) (take l.len l.bytes))

abbrev pub decreases-loop-len : goal.decreases-loop-len
decreases-loop-len l = l.len
