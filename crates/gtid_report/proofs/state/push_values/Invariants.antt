use Rattle.std.proofs.Common.{◌≡◌, ◌++◌, ◌∷◌, take, string_bytes}
use Rattle.std.specs.Prelude.{flat_map}
use Rattle.row_images.specs.Values.{value_text}
use Rattle.gtid_report.proofs.state.push_values.Given as goal

abbrev pub invariant-loop-value : goal.invariant-loop-value
invariant-loop-value l = string_bytes l.out ≡ string_bytes l.fn.out ++ flat_map (λ v. 32 ∷ value_text v) (take l.value-index l.values)
