-- Closed sets, and their rows.
use Rattle.std.proofs.Common.{◌≡◌, Bool, inl, inr, List, [], ◌∷◌, Result, Ok, Err, refl, sym, subst, ◌∙◌}
use Rattle.std.specs.Prelude.{IsOk}
use Rattle.std.specs.FinSet as set
use Rattle.std.specs.FinSet.{contains-union, contains-intersection}
use Rattle.gtid_text.specs.declared.Gtid.{Gtid}
use Rattle.rows.specs.declared.change.RowFault.{RowFault}
use Rattle.rows.specs.declared.schema.Table.{Table}
use Rattle.rows.specs.Apply.{Rows, apply}
use Rattle.rows.specs.Carriers.{AreCarriers}
use Rattle.rows.proofs.Local.{bind_ok}
use Rattle.rows.proofs.Carriers.{apply_keeps_carriers}
use Rattle.history.specs.World.{OrderedWorld, Entry, apply_all, rows_of, entries_in, IsClosed}
use Rattle.history.specs.Join.{either, both}
use Rattle.history.specs.Laws.{ClosedSetsApply, RowsAreCarriers, ClosedUnderUnion, ClosedUnderIntersection, ClosedSetsAreALattice}
use Rattle.history.proofs.Merging.{closed_applies}
use Rattle.std.proofs.lemmas.Bool.{or_cases, or_left, or_right, and_parts, and_from}
use Rattle.lemmas.proofs.SameGtid.{gtid_total}

pub is_ok_of : {A E : Type 0} (r : Result A E) (a : A) → r ≡ Ok a → IsOk r
is_ok_of (Ok x) a e = refl
is_ok_of (Err d) a e = cc

pub closed_sets_apply : ClosedSetsApply
closed_sets_apply world S sound closed = let h = closed_applies world S sound closed in is_ok_of (rows_of world S) h.0 h.1

-- ---- no key has a second row

pub ok_same : (a b : Rows) → ◌≡◌ {A = Result Rows RowFault} (Ok a) (Ok b) → a ≡ b
ok_same a b e = cc

carriers_after : (schema : List Table) (es : List Entry) (rows new : Rows) → AreCarriers schema rows → apply_all schema es rows ≡ Ok new → AreCarriers schema new
carriers_after schema [] rows new h e = subst (AreCarriers schema) (ok_same rows new e) h
carriers_after schema (x ∷ es) rows new h e =
    let first = bind_ok (apply schema x.1 rows) (apply_all schema es) new e in
    carriers_after schema es first.0 new (apply_keeps_carriers schema x.1 rows first.0 h first.1) first.2

pub rows_are_carriers : RowsAreCarriers
rows_are_carriers world S rows opening e = carriers_after world.schema (entries_in world S) world.opening_rows rows opening e

-- ---- closed sets

pub closed_under_union : ClosedUnderUnion
closed_under_union world S U c d = record {
  opened = λ g e. or_left (S g) (U g) (c.opened g e);
  known = λ g e. elim (or_cases (S g) (U g) e) [ inl p ↦ c.known g p | inr q ↦ d.known g q ];
  earlier = λ e f p s m. elim (or_cases (S f.0) (U f.0) m) [
    | inl a ↦ or_left (S e.0) (U e.0) (c.earlier e f p s a)
    | inr b ↦ or_right (S e.0) (U e.0) (d.earlier e f p s b)
  ];
}

pub closed_under_intersection : ClosedUnderIntersection
closed_under_intersection world S U c d = record {
  opened = λ g e. and_from (S g) (U g) (c.opened g e) (d.opened g e);
  known = λ g e. c.known g (and_parts (S g) (U g) e).0;
  earlier = λ e f p s m. let two = and_parts (S f.0) (U f.0) m in and_from (S e.0) (U e.0) (c.earlier e f p s two.0) (d.earlier e f p s two.1);
}

-- a set that is equal to a closed one is closed
pub closed_same : (world : OrderedWorld) (S U : Gtid → Bool) → ((g : Gtid) → U g ≡ S g) → IsClosed world S → IsClosed world U
closed_same world S U same c = record {
  opened = λ g e. same g ∙ c.opened g e;
  known = λ g e. c.known g (sym (same g) ∙ e);
  earlier = λ e f p s m. same e.0 ∙ c.earlier e f p s (sym (same f.0) ∙ m);
}

pub closed_sets_are_a_lattice : ClosedSetsAreALattice
closed_sets_are_a_lattice = record {
  join = λ world a b c d. closed_same world (either (set.contains a) (set.contains b)) (set.contains (set.union a b)) (contains-union gtid_total a b) (closed_under_union world (set.contains a) (set.contains b) c d);
  meet = λ world a b c d. closed_same world (both (set.contains a) (set.contains b)) (set.contains (set.intersection a b)) (contains-intersection gtid_total a b) (closed_under_intersection world (set.contains a) (set.contains b) c d);
}
