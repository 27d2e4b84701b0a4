-- A set of GTIDs of one source has one source, and no edges but the ends of its GTIDs.
use Rattle.std.proofs.Common.{◌≡◌, ℕ, ◌+◌, ◌≤◌, cond, true, List, [], ◌∷◌, map, inl, inr, sym, ap, subst, ◌∙◌, arith, Err}
use Rattle.std.specs.FinSet as set
use Rattle.std.specs.Cmp.{nat_cmp_total}
use Rattle.std.specs.Ordering.{eq_by_cmp}
use Rattle.gtid_text.specs.declared.Gtid.{Gtid}
use Rattle.gtid_text.specs.Gtids.{gtid_cmp}
use Rattle.gtid_set.specs.declared.fault.SetFault.{SetFault}
use Rattle.gtid_set.specs.Sets.{Gtids, gtid, sources_of, source_count}
use Rattle.gtid_set.specs.Full.{IsFullExactly, HasManyIntervals, IsMemoryOr}
use Rattle.gtid_set.specs.Edges.{HasEnds}
use Rattle.gtid_set.proofs.SetLemmas.{has_itself, gtid_tied}
use Rattle.gtid_set.proofs.SetSources.{no_sources, number_of_source, source_known, sources_with_interval, union_one}
use Rattle.gtid_set.proofs.EdgeLemmas.{crowd_fault, members_edges}
use Rattle.gtid_set.proofs.FaultLemmas.{full_fault, fault_map}
use Rattle.journal.specs.declared.Entry.{Entry}
use Rattle.journal.specs.Journals.{gtids_of}
use Rattle.journal.specs.Edges.{HasEndsOf}
use Rattle.auto_position.specs.Sending.{IsEntriesFault}
use Rattle.std.specs.List.{list_any}
use Rattle.std.proofs.lemmas.Bool.{or_cases}
use Rattle.lemmas.proofs.Tests.{not_true}
use Rattle.lemmas.proofs.SameGtid.{gtid_total, same_is_equal}

-- so many sources, with one more
abbrev pub count_and : Gtids → ℕ → ℕ
count_and s source = set.len (set.insert (sources_of s) source)

pub none_and_one : (s : Gtids) (source : ℕ) → s ≡ set.empty → count_and s source ≡ 1
none_and_one s source e =
    ap (λ t. count_and t source) e
    ∙ set.len-insert nat_cmp_total (sources_of set.empty) source
    ∙ ap (λ b. cond b (source_count set.empty) (source_count set.empty + 1)) (not_true (set.contains (sources_of set.empty) source) (λ h. let r = number_of_source set.empty source h in sym (set.contains-empty gtid_cmp (gtid source r.number)) ∙ r.is))
    ∙ ap (λ n. n + 1) no_sources

-- the sources of a set with one GTID more
with_gtid : (s : Gtids) (g : Gtid) → sources_of (set.insert s g) ≡ set.insert (sources_of s) g.source
with_gtid s g =
    let low : g.number ≤ g.number = omega arith in
    ap sources_of (sym (union_one s g)) ∙ sources_with_interval s g.source g.number g.number low

pub still_one : (s : Gtids) (source n : ℕ) → count_and s source ≡ 1 → count_and (set.insert s (gtid source n)) source ≡ 1
still_one s source n one =
    let g = gtid source n in
    let all = set.insert s g in
    set.len-insert nat_cmp_total (sources_of all) source
    ∙ ap (λ b. cond b (source_count all) (source_count all + 1)) (source_known all g (has_itself s g))
    ∙ ap set.len (with_gtid s g)
    ∙ one

-- so the sources are never too many
sources_of_one : (f : SetFault) (s : Gtids) (source n : ℕ) → count_and s source ≡ 1 → IsFullExactly {T = Unit {0}} (Err f) (set.insert s (gtid source n)) → IsMemoryOr ⊥ (HasManyIntervals (set.insert s (gtid source n))) f
sources_of_one f s source n one h =
    let count = ap set.len (with_gtid s (gtid source n)) ∙ one in
    fault_map f (λ over. absurd (omega (arith, count, over))) (λ many. many) (full_fault f (set.insert s (gtid source n)) h)

-- nor the intervals, unless those of the entries are: the set has no GTID but theirs
pub in_entries : (g : Gtid) (entries : List Entry) (places : Gtids) → list_any (eq_by_cmp gtid_cmp g) (map (λ e. e.gtid) entries) ≡ true → HasEndsOf places entries → HasEnds places g
in_entries g [] places h ends = absurd cc
in_entries g (e ∷ es) places h ends = elim (or_cases (eq_by_cmp gtid_cmp g e.gtid) (list_any (eq_by_cmp gtid_cmp g) (map (λ e. e.gtid) es)) h) [
  | inl is ↦ subst (HasEnds places) (sym (same_is_equal g e.gtid (sym (gtid_tied g e.gtid) ∙ is))) ends.0
  | inr there ↦ in_entries g es places there ends.1
]

pub recorded_fault : (f : SetFault) (s : Gtids) (source n : ℕ) (entries : List Entry) → count_and s source ≡ 1 → ((q : Gtid) → set.contains (set.insert s (gtid source n)) q ≡ true → set.contains (gtids_of entries) q ≡ true)
    → IsFullExactly {T = Unit {0}} (Err f) (set.insert s (gtid source n)) → IsEntriesFault entries f
recorded_fault f s source n entries one part h =
    crowd_fault ⊥ f (set.insert s (gtid source n)) (λ places. HasEndsOf places entries) (λ places ends.
    members_edges places (set.insert s (gtid source n)) (λ q e. in_entries q entries places (sym (set.contains-from_list gtid_total (map (λ x. x.gtid) entries) q) ∙ part q e) ends))
    (sources_of_one f s source n one h)
