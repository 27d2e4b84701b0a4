use Rattle.std.proofs.Common.{◌≡◌, drop}
use Rattle.std.specs.FinMap as finmap
use Rattle.world.specs.Search.{first}
use Rattle.world.specs.Folds.{shares_with}
use Rattle.audit.proofs.touches.Touches.shared_key.Given as goal

abbrev pub invariant-loop-key : goal.invariant-loop-key
invariant-loop-key l = first (λ key. shares_with l.gtid key (finmap.get l.self key)) (drop l.key-index l.keys) ≡ first (λ key. shares_with l.gtid key (finmap.get l.self key)) l.keys
