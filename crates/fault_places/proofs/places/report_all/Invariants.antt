use Rattle.std.proofs.Common.{◌≡◌, ◌+◌, ◌++◌, map, drop}
use Rattle.fault_places.specs.Places.{report_entries, places_of}
use Rattle.fault_places.proofs.Within.{IsWithin}
use Rattle.fault_places.proofs.places.report_all.Given as goal

abbrev pub invariant-loop-i : goal.invariant-loop-i
invariant-loop-i l = record {
  within : IsWithin l.standing l.i;
  told :
      l.out.items ++ report_entries l.tables.schema.now l.gtid l.wanted l.before l.name l.standing (l.i + 1) (map (λ x. x.now) (drop l.i l.lines))
      ≡ l.fn.out.items ++ places_of l.tables.schema.now l.gtid l.wanted (map (λ x. x.now) l.lines);
}
