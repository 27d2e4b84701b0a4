-- Sets that are closed by source, and the union as join.
use Rattle.std.proofs.Common.{◌≡◌, Bool, ◌||◌, inl, inr, sym, ap, ◌∙◌}
use Rattle.std.specs.FinSet as set
use Rattle.std.specs.FinSet.{contains-union, contains-intersection, is_subset-contains, contains-is_subset, same_set}
use Rattle.gtid_text.specs.declared.Gtid.{Gtid}
use Rattle.gtid_text.specs.Gtids.{gtid_cmp}
use Rattle.history.specs.Sources.{World, IsClosedBySource}
use Rattle.history.specs.SourceLaws.{ClosedBySourceAreALattice}
use Rattle.history.specs.Join.{join, either, both}
use Rattle.history.specs.JoinLaws.{JoinLaws}
use Rattle.history.proofs.Tests.{or_itself}
use Rattle.std.proofs.lemmas.Bool.{or_cases, or_left, or_right, and_parts, and_from}
use mathlib.Core.Bool.{or_comm, or_assoc}
use Rattle.lemmas.proofs.SameGtid.{gtid_total, gtid_exact}

-- ---- closed sets

union_closed : (world : World) (S U : Gtid → Bool) → IsClosedBySource world S → IsClosedBySource world U → IsClosedBySource world (either S U)
union_closed world S U c d = record {
  opened = λ g e. or_left (S g) (U g) (c.opened g e);
  known = λ g e. elim (or_cases (S g) (U g) e) [ inl p ↦ c.known g p | inr q ↦ d.known g q ];
  earlier = λ g h t u f k s l m e. elim (or_cases (S h) (U h) e) [
    | inl p ↦ or_left (S g) (U g) (c.earlier g h t u f k s l m p)
    | inr q ↦ or_right (S g) (U g) (d.earlier g h t u f k s l m q)
  ];
}

meet_closed : (world : World) (S U : Gtid → Bool) → IsClosedBySource world S → IsClosedBySource world U → IsClosedBySource world (both S U)
meet_closed world S U c d = record {
  opened = λ g e. and_from (S g) (U g) (c.opened g e) (d.opened g e);
  known = λ g e. c.known g (and_parts (S g) (U g) e).0;
  earlier = λ g h t u f k s l m e. let two = and_parts (S h) (U h) e in and_from (S g) (U g) (c.earlier g h t u f k s l m two.0) (d.earlier g h t u f k s l m two.1);
}

closed_same : (world : World) (S U : Gtid → Bool) → ((g : Gtid) → U g ≡ S g) → IsClosedBySource world S → IsClosedBySource world U
closed_same world S U same c = record {
  opened = λ g e. same g ∙ c.opened g e;
  known = λ g e. c.known g (sym (same g) ∙ e);
  earlier = λ g h t u f k s l m e. same g ∙ c.earlier g h t u f k s l m (sym (same h) ∙ e);
}

pub closed_by_source_are_a_lattice : ClosedBySourceAreALattice
closed_by_source_are_a_lattice = record {
  unions = union_closed;
  intersections = meet_closed;
  join = λ world a b c d. closed_same world (either (set.contains a) (set.contains b)) (set.contains (set.union a b)) (contains-union gtid_total a b) (union_closed world (set.contains a) (set.contains b) c d);
  meet = λ world a b c d. closed_same world (both (set.contains a) (set.contains b)) (set.contains (set.intersection a b)) (contains-intersection gtid_total a b) (meet_closed world (set.contains a) (set.contains b) c d);
}

-- ---- the join

in_join : (a b : set.FinSet gtid_cmp) (g : Gtid) → set.contains (join a b) g ≡ (set.contains a g || set.contains b g)
in_join a b g = contains-union gtid_total a b g

pub join_laws : JoinLaws
join_laws = record {
  commutative = λ a b. same_set gtid_total gtid_exact _ _ (λ g. in_join a b g ∙ (or_comm (set.contains a g) (set.contains b g) ∙ sym (in_join b a g)));
  associative = λ a b c. same_set gtid_total gtid_exact _ _ (λ g.
      in_join (join a b) c g ∙ (ap (λ x. x || set.contains c g) (in_join a b g)
      ∙ (or_assoc (set.contains a g) (set.contains b g) (set.contains c g)
      ∙ (ap (λ x. set.contains a g || x) (sym (in_join b c g)) ∙ sym (in_join a (join b c) g)))));
  idempotent = λ a. same_set gtid_total gtid_exact _ _ (λ g. in_join a a g ∙ or_itself (set.contains a g));
  above_left = λ a b. contains-is_subset gtid_total a (join a b) (λ g h. in_join a b g ∙ or_left (set.contains a g) (set.contains b g) h);
  above_right = λ a b. contains-is_subset gtid_total b (join a b) (λ g h. in_join a b g ∙ or_right (set.contains a g) (set.contains b g) h);
  least = λ a b c p q. contains-is_subset gtid_total (join a b) c (λ g h.
      elim (or_cases (set.contains a g) (set.contains b g) (sym (in_join a b g) ∙ h)) [
        | inl i ↦ is_subset-contains gtid_total a c p g i
        | inr j ↦ is_subset-contains gtid_total b c q g j
      ]);
}
