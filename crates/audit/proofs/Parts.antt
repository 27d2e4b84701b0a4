-- Why the set of what is missing is not made.
use Rattle.std.proofs.Common.{◌≡◌, ℕ, ◌<◌, ◌≤◌, ◌+◌, ◌-◌, Bool, true, false, ◌∷◌, not, ◌&&◌, ◌==◌, List, length, map, drop, Option, Some, None, Result, Ok, Err, IfErr, refl, sym, ap, ◌∙◌, subst, arith}
use Rattle.std.specs.Cmp.{nat_cmp_is}
use Rattle.std.specs.FinMap as finmap
use Rattle.std.specs.FinSet as set
use Rattle.std.specs.FinSet.{contains-difference, contains-empty}
use Rattle.std.specs.Ordering.{ordering_then}
use Rattle.std.specs.declared.cmp.Ordering.TheVariants.{Less, Equal}
use Rattle.std.proofs.lemmas.Bool.{and_parts, or_left, false_from_ne_true, not-true}
use Rattle.std.proofs.lemmas.Bool.Decides.{nat_tests}
use Rattle.std.proofs.lemmas.List.{length-map}
use Rattle.lemmas.proofs.SameGtid.{gtid_total, same_is_equal}
use Rattle.gtid_text.specs.declared.Gtid.{Gtid}
use Rattle.gtid_text.specs.Gtids.{gtid_cmp, same_gtid}
use Rattle.world.specs.declared.verdict.Verdict.{Verdict}
use Rattle.world.specs.declared.verdict.Verdict.TheVariants.{Missing}
use Rattle.world.specs.Cases.{IsMissing}
use Rattle.gtid_set.proofs.SetLemmas.{same_members}
use Rattle.gtid_set.specs.declared.fault.SetFault.{SetFault}
use Rattle.gtid_set.specs.declared.fault.SetFault.TheVariants.{Memory, PoolFull, SourcesFull}
use Rattle.gtid_set.specs.Edges.{has_before}
use Rattle.gtid_set.specs.Sets.{Gtids, gtid, interval}
use Rattle.gtid_set.specs.Full.{interval_count, HasManySources, IsFaultOf, IsCrowdedExactly}
use Rattle.gtid_set.proofs.EdgeLemmas.{difference_few, insert_few}
use Rattle.gtid_set.proofs.FaultLemmas.{fault_map}
use Rattle.gtid_set.proofs.SetSources.{fewer_sources}
use Rattle.journal.specs.declared.Entry.{Entry}
use Rattle.journal.specs.Journals.{JournalValue}
use Rattle.history.specs.Sources.{World}
use Rattle.history.specs.Sources as history
use Rattle.world.specs.Audit.{all_entries, first_contents, present, verdict}
use Rattle.world.proofs.Leasts.{missing_is_least}
use Rattle.audit.specs.Contents.{Contents, as_pair, in_order}
use Rattle.audit.specs.Missing.{number_before}
use Rattle.audit.specs.Faults.{IsAuditFault, IsFaultWithin, intervals_of}
use Rattle.audit.specs.Others.{IsListFault, but_missing, is_skipped, missing_in, skipped_in, skips_from}
use Rattle.audit.proofs.Counting.{no_intervals, union_interval_few, without_few, skips_few, present_few, lacks_few}
use Rattle.audit.proofs.FoundKinds.{found_missing}
use Rattle.audit.proofs.Made.{pairs_of}
use Rattle.audit.proofs.Passings.{in_skips, in_one, in_but, in_set_missing}

-- these are some of the GTIDs that a set has
abbrev IsWithin : Gtids → Gtids → Type 0
IsWithin part whole = (g : Gtid) → set.contains part g ≡ true → set.contains whole g ≡ true

within_difference : (s t : Gtids) → IsWithin (set.difference s t) s
within_difference s t g e = (and_parts (set.contains s g) (not (set.contains t g)) (sym (contains-difference gtid_total s t g) ∙ e)).0

within_skips : (skipped : Gtids) (last : Option Gtid) (es : List history.Entry) → IsWithin skipped (skips_from skipped last es)
within_skips skipped last es g e = in_skips skipped last es g ∙ or_left (set.contains skipped g) (is_skipped last es g) e

-- some of the GTIDs of a set do not have more sources
many_sources : (part whole : Gtids) → IsWithin part whole → HasManySources part → HasManySources whole
many_sources part whole within many = let few = fewer_sources part whole within in omega (arith, few, many)

-- a step of the pass
module _ (entries rest : List Entry) (i : ℕ) (e : Entry) (skipped whole : Gtids) (last : Option Gtid) (lo : ℕ) (left : drop i entries ≡ e ∷ rest) (low : lo ≡ number_before last e.gtid.source) (so_far : skips_from skipped last (map as_pair (drop i entries)) ≡ whole) (few : interval_count skipped ≤ i) where
  abbrev next : Gtids
  next = set.union skipped (interval e.gtid.source (lo + 1) (e.gtid.number - 1))

  next_skips : skips_from next (Some e.gtid) (map as_pair rest) ≡ whole
  next_skips =
      ap (λ n. skips_from (set.union skipped (interval e.gtid.source (n + 1) (e.gtid.number - 1))) (Some e.gtid) (map as_pair rest)) low
      ∙ ap (λ es. skips_from skipped last (map as_pair es)) (sym left) ∙ so_far

  next_few : interval_count next ≤ i + 1
  next_few = let more = union_interval_few skipped e.gtid.source (lo + 1) (e.gtid.number - 1) in omega (arith, few, more)

  pub step_skips : (new : Gtids) → new ≡ next → (skips_from new (Some e.gtid) (map as_pair rest) ≡ whole) × (interval_count new ≤ i + 1)
  step_skips new is = (ap (λ s. skips_from s (Some e.gtid) (map as_pair rest)) is ∙ next_skips, subst (λ s. interval_count s ≤ i + 1) (sym is) next_few)

  pub fault_of_step : (f : SetFault) → i < length entries → IsFaultOf f next → IsFaultWithin whole (length entries) f
  fault_of_step f below h =
      fault_map f
      (many_sources next whole (subst (IsWithin next) next_skips (within_skips next (Some e.gtid) (map as_pair rest))))
      (λ many. let few = next_few in omega (arith, below, few, many))
      h

-- the set of one GTID is not refused for its size
pub fault_of_one : (f : SetFault) (s : Gtids) (g : Gtid) → set.contains s g ≡ true → IsFaultOf f (set.insert set.empty g) → IsFaultOf f s
fault_of_one f s g there h =
    fault_map f
    (many_sources (set.insert set.empty g) s (λ q e. ap (set.contains s) (same_is_equal q g (sym (in_one g q) ∙ e)) ∙ there))
    (λ many. let few = insert_few set.empty g in let none = no_intervals in absurd (omega (arith, few, none, many)))
    h

-- nor is what is left without it, where it begins a run
pub fault_of_rest : {T : Type 0} (r : Result T SetFault) (s one : Gtids) (g : Gtid) → one ≡ set.insert set.empty g → set.contains s g ≡ true → has_before s g ≡ false → IsCrowdedExactly r (set.difference s one) → IfErr r (λ f. IsFaultOf f s)
fault_of_rest (Ok x) s one g is there begins h = tt
fault_of_rest (Err Memory) s one g is there begins h = tt
fault_of_rest (Err PoolFull) s one g is there begins h = let few = without_few s g there begins in let same = ap (λ x. interval_count (set.difference s x)) is in omega (arith, few, same, h)
fault_of_rest (Err SourcesFull) s one g is there begins h = absurd h

-- ---- of a world

missing_few : (world : World) (journals : List JournalValue) → interval_count (missing_in world journals) ≤ intervals_of world.opening_set journals
missing_few world journals =
    let left = difference_few (skipped_in world journals) world.opening_set in
    let skipped = skips_few set.empty None (present world journals) in
    let none = no_intervals in
    let few = present_few world journals in
    omega (arith, left, skipped, none, few)

pub fault_of_missing : (f : SetFault) (world : World) (journals : List JournalValue) → IsFaultOf f (missing_in world journals) → IsListFault world journals f
fault_of_missing f world journals h =
    fault_map f
    (many_sources (missing_in world journals) (skipped_in world journals) (within_difference (skipped_in world journals) world.opening_set))
    (λ many. let few = missing_few world journals in omega (arith, few, many))
    h

pub fault_of_difference : {T : Type 0} (r : Result T SetFault) (world : World) (journals : List JournalValue) (s t : Gtids) → set.difference s t ≡ missing_in world journals → IsCrowdedExactly r (set.difference s t) → IfErr r (IsListFault world journals)
fault_of_difference (Ok x) world journals s t is h = tt
fault_of_difference (Err Memory) world journals s t is h = tt
fault_of_difference (Err PoolFull) world journals s t is h = let few = missing_few world journals in let same = ap interval_count is in omega (arith, few, same, h)
fault_of_difference (Err SourcesFull) world journals s t is h = absurd h

-- the set that the verdict would name
pub fault_of_purged : (f : SetFault) (world : World) (journals : List JournalValue) → IsAuditFault world.opening_set journals f → IsListFault world journals f
fault_of_purged f world journals h = fault_map f (λ none. absurd none) (λ lacks. lacks_few world.opening_set journals lacks) h

-- the missing GTID of the verdict begins a run of missing ones
pub verdict_begins : (world : World) (journals : List JournalValue) (g : Gtid) → Missing g ≡ verdict world journals → has_before (missing_in world journals) g ≡ false
verdict_begins world journals g is = false_from_ne_true (has_before (missing_in world journals) g) (λ h.
    let parts = and_parts (not (g.number == 0)) (set.contains (missing_in world journals) (gtid g.source (g.number - 1))) h in
    missing_is_least world journals g (found_missing world journals g is) (gtid g.source (g.number - 1)) (in_set_missing world journals (gtid g.source (g.number - 1)) parts.1) (before_less g (not-true (g.number == 0) parts.0)))
  where
    before_less : (g : Gtid) → (g.number == 0) ≡ false → gtid_cmp (gtid g.source (g.number - 1)) g ≡ Less
    before_less g e =
        let less : g.number - 1 < g.number = grind (arith, nat_tests) in
        sym (λ i. ordering_then (nat_cmp_is g.source g.source Equal refl i) (nat_cmp_is (g.number - 1) g.number Less less i))

-- where none is missing the set is empty
pub none_in_set : (world : World) (journals : List JournalValue) → ((g : Gtid) → IsMissing world journals g → ⊥) → set.empty ≡ missing_in world journals
none_in_set world journals none = same_members set.empty (missing_in world journals) (λ g.
    contains-empty gtid_cmp g ∙ sym (false_from_ne_true (set.contains (missing_in world journals) g) (λ h. none g (in_set_missing world journals g h))))

-- ---- the GTID of the verdict

not_in : (s : Gtids) (g q : Gtid) (b : Bool) → same_gtid q g ≡ b → set.contains s g ≡ false → set.contains s q ≡ (set.contains s q && not b)
not_in s g q true e out = by (set.contains s q) (ap (set.contains s) (same_is_equal q g e) ∙ out)
  where
    by : (b : Bool) → b ≡ false → b ≡ (b && false)
    by true e = cc
    by false e = refl
not_in s g q false e out = by (set.contains s q)
  where
    by : (b : Bool) → b ≡ (b && true)
    by true = refl
    by false = refl

pub but_absent : (v : Verdict) (s : Gtids) (g : Gtid) → v ≡ Missing g → set.contains s g ≡ false → s ≡ but_missing v s
but_absent v s g is out =
    same_members s (set.difference s (set.insert set.empty g)) (λ q. not_in s g q (same_gtid q g) refl out ∙ sym (in_but (Missing g) s q))
    ∙ ap (λ x. but_missing x s) (sym is)

pub but_other : (v : Verdict) (s : Gtids) → ((x : Gtid) → v ≡ Missing x → ⊥) → s ≡ but_missing v s
but_other (Missing g) s n = absurd (n g refl)
but_other _ s n = refl

-- ---- what journals bring

-- as a list in the order of GTIDs
pub skips_brought : (world : World) (journals : List JournalValue) (entries : List Entry) (contents : Contents) → entries ≡ in_order contents → contents ≡ first_contents world.opening_set (all_entries journals)
    → skips_from set.empty None (map as_pair entries) ≡ skipped_in world journals
skips_brought world journals entries contents listed brought = ap (skips_from set.empty None) (pairs_of entries contents listed ∙ ap finmap.entries brought)

pub pass_fault : (f : SetFault) (world : World) (journals : List JournalValue) (entries : List Entry) (contents : Contents) → entries ≡ in_order contents → contents ≡ first_contents world.opening_set (all_entries journals)
    → IsFaultWithin (skips_from set.empty None (map as_pair entries)) (length entries) f → IsListFault world journals f
pass_fault f world journals entries contents listed brought h =
    let long : length entries ≡ length (present world journals) = sym (length-map entries as_pair) ∙ ap length (pairs_of entries contents listed ∙ ap finmap.entries brought) in
    let few = present_few world journals in
    fault_map f (subst HasManySources (skips_brought world journals entries contents listed brought)) (λ many. omega (arith, long, few, many)) h
