use Rattle.std.proofs.Common.{◌≡◌, ◌≤◌, ◌-◌, length, take}
use Rattle.std.specs.Prelude.{◌==◌}
use Rattle.std.specs.List.{suffix_len}
use Rattle.collation_weights.proofs.weighing.kept_len.Given as goal

-- what is behind is blanks
abbrev pub invariant-loop-len : goal.invariant-loop-len
invariant-loop-len l =
    (l.len ≤ length l.weights)
    × (length l.weights - suffix_len (λ w. w == l.blank) l.weights ≡ l.len - suffix_len (λ w. w == l.blank) (take l.len l.weights))

abbrev pub decreases-loop-len : goal.decreases-loop-len
decreases-loop-len l = l.len
