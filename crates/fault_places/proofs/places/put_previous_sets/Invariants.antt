use Rattle.std.proofs.Common.{◌≡◌, ◌+◌, ◌++◌, map, drop}
use Rattle.fault_places.specs.Places.{report_all_previous, previous_sets}
use Rattle.fault_places.proofs.Within.{IsWithin}
use Rattle.fault_places.proofs.places.put_previous_sets.Given as goal

abbrev pub invariant-loop-i : goal.invariant-loop-i
invariant-loop-i l = record {
  within : IsWithin l.standing l.i;
  told :
      l.out.items ++ report_all_previous l.name l.standing (l.i + 1) (map (λ x. x.now) (drop l.i l.lines))
      ≡ l.fn.out.items ++ previous_sets (map (λ x. x.now) l.lines);
}
