-- The edges of sets.
use Rattle.std.proofs.Common.{◌≡◌, ◌≤◌, ◌+◌, ◌-◌, ◌*◌, ℕ, suc, Bool, true, false, cond, not, ◌&&◌, ◌||◌, nat_le, List, [], ◌∷◌, ◌++◌, length, inl, inr, refl, sym, ap, subst, ◌∙◌, arith}
use Rattle.std.specs.Prelude.{◌==◌, ◌⊎◌, Err}
use Rattle.std.specs.List.{list_all, list_any}
use Rattle.std.specs.FinSet as set
use Rattle.std.specs.Ordering.{eq_by_cmp}
use Rattle.std.proofs.lemmas.Bool.{or_cases, or_left, or_right}
use Rattle.std.proofs.lemmas.Bool.Decides.{nat_tests}
use Rattle.std.proofs.lemmas.List.{length-append}
use Rattle.std.proofs.lemmas.List.Folds.{list_any-append}
use Rattle.lemmas.proofs.SameGtid.{gtid_total, gtid_exact, same_itself, same_is_equal}
use Rattle.lemmas.proofs.Tests.{and_false}
use Rattle.gtid_text.specs.declared.Gtid.{Gtid}
use Rattle.gtid_text.specs.declared.Span.{Span}
use Rattle.gtid_text.specs.Gtids.{gtid_cmp, same_gtid}
use Rattle.gtid_set.specs.Sets.{Gtids, gtid, only}
use Rattle.gtid_set.specs.Spans.{has, is_merged, is_before}
use Rattle.gtid_set.specs.Sweep.{within}
use Rattle.gtid_set.specs.Runs.{runs}
use Rattle.gtid_set.specs.declared.fault.SetFault.{SetFault}
use Rattle.gtid_set.specs.declared.fault.SetFault.TheVariants.{Memory, PoolFull, SourcesFull}
use Rattle.gtid_set.specs.Full.{interval_count, HasManyIntervals, IsCrowdedExactly, IsMemoryOr}
use Rattle.gtid_set.proofs.FaultLemmas.{fault_map}
use Rattle.gtid_set.specs.Edges.{next_to, ends_of, edges, has_before, changes_at, HasEdges, HasEnds, AreManyEdges, IsCrowd}
use Rattle.gtid_set.proofs.SetLemmas.{same_members, gtid_tied, contains-set_of}
use Rattle.gtid_set.proofs.SpanLemmas.{merged_head, IsHead, any_none}
use Rattle.gtid_set.proofs.RunLemmas.{runs_are_merged, set_of_runs, among}

-- ---- the edges of a merged list

-- membership at a GTID, and at the number before, differ
abbrev differ : Bool → Bool → Bool
differ now before = (now && not before) || (not now && before)

abbrev number_before : Gtid → Gtid
number_before g = gtid g.source (g.number - 1)

abbrev before_in : List Span → Gtid → Bool
before_in ss g = not (g.number == 0) && has ss (number_before g)

-- a GTID in a span, or right after it
abbrev is_near : Span → Gtid → Bool
is_near s g = (g.source == s.source) && (nat_le s.lo g.number && nat_le g.number (s.hi + 1))

-- no later span has it, nor the number before it
later_none : (s : Span) (ss : List Span) (g : Gtid) → list_all (is_before s) ss ≡ true → is_near s g ≡ true → has ss g ≡ false
later_none s ss g after near = any_none (λ t. within t g) (is_before s) ss (λ t b. past t b near) after
  where
    past : (t : Span) → is_before s t ≡ true → is_near s g ≡ true → within t g ≡ false
    past t b near = grind (arith, nat_tests)

before_none : (s : Span) (ss : List Span) (g : Gtid) → list_all (is_before s) ss ≡ true → is_near s g ≡ true → has ss (number_before g) ≡ false
before_none s ss g after near = any_none (λ t. within t (number_before g)) (is_before s) ss (λ t b. past t b near) after
  where
    past : (t : Span) → is_before s t ≡ true → is_near s g ≡ true → within t (number_before g) ≡ false
    past t b near = grind (arith, nat_tests)

abbrev first_of : Span → Gtid
first_of s = gtid s.source s.lo

abbrev behind_of : Span → Gtid
behind_of s = gtid s.source (s.hi + 1)

-- near a span, its two ends are the edges
near_edges : (s : Span) (g : Gtid) → s.lo ≤ s.hi → is_near s g ≡ true
    → (same_gtid g (first_of s) || (same_gtid g (behind_of s) || false)) ≡ differ (within s g || false) (not (g.number == 0) && (within s (number_before g) || false))
near_edges s g filled near = grind (arith, nat_tests)

-- elsewhere the span changes nothing
far_first : (s : Span) (g : Gtid) → s.lo ≤ s.hi → is_near s g ≡ false → same_gtid g (first_of s) ≡ false
far_first s g filled far = grind (arith, nat_tests)

far_behind : (s : Span) (g : Gtid) → s.lo ≤ s.hi → is_near s g ≡ false → same_gtid g (behind_of s) ≡ false
far_behind s g filled far = grind (arith, nat_tests)

far_now : (s : Span) (g : Gtid) → is_near s g ≡ false → within s g ≡ false
far_now s g far = grind (arith, nat_tests)

far_before : (s : Span) (g : Gtid) (b : Bool) → is_near s g ≡ false → (not (g.number == 0) && (within s (number_before g) || b)) ≡ (not (g.number == 0) && b)
far_before s g true far = grind (arith, nat_tests)
far_before s g false far = grind (arith, nat_tests)

edges_in : (ss : List Span) (g : Gtid) → is_merged ss ≡ true → among g (ends_of ss) ≡ differ (has ss g) (before_in ss g)
edges_in [] g m = none (g.number == 0)
  where
    none : (b : Bool) → false ≡ differ false (not b && false)
    none true = refl
    none false = refl
edges_in (s ∷ ss) g m =
    let h = merged_head s ss m in
    let rest = edges_in ss g h.tail in
    cases (is_near s g) refl h rest
  where
    cases : (b : Bool) → is_near s g ≡ b → IsHead s ss → among g (ends_of ss) ≡ differ (has ss g) (before_in ss g)
        → (same_gtid g (first_of s) || (same_gtid g (behind_of s) || among g (ends_of ss))) ≡ differ (within s g || has ss g) (not (g.number == 0) && (within s (number_before g) || has ss (number_before g)))
    cases true near h rest =
        let now = later_none s ss g h.after near in
        let past = before_none s ss g h.after near in
        let quiet : among g (ends_of ss) ≡ false = rest ∙ (λ i. differ (now i) (not (g.number == 0) && past i)) ∙ ap (differ false) (and_false (not (g.number == 0))) in
        (λ i. same_gtid g (first_of s) || (same_gtid g (behind_of s) || quiet i))
        ∙ near_edges s g h.filled near
        ∙ sym (λ i. differ (within s g || now i) (not (g.number == 0) && (within s (number_before g) || past i)))
    cases false far h rest =
        (λ i. far_first s g h.filled far i || (far_behind s g h.filled far i || among g (ends_of ss)))
        ∙ rest
        ∙ sym (λ i. differ (far_now s g far i || has ss g) (far_before s g (has ss (number_before g)) far i))

-- ---- the edges of a set

any_same : (q : Gtid) (gs : List Gtid) → list_any (eq_by_cmp gtid_cmp q) gs ≡ among q gs
any_same q [] = refl
any_same q (g ∷ gs) = λ i. gtid_tied q g i || any_same q gs i

pub contains-listed : (gs : List Gtid) (q : Gtid) → set.contains (set.from_list {R = gtid_cmp} gs) q ≡ among q gs
contains-listed gs q = set.contains-from_list gtid_total gs q ∙ any_same q gs

has_runs : (s : Gtids) (q : Gtid) → has (runs s) q ≡ set.contains s q
has_runs s q = sym (contains-set_of (runs s) q) ∙ ap (λ t. set.contains t q) (set_of_runs s)

pub contains-edges : (s : Gtids) (g : Gtid) → set.contains (edges s) g ≡ changes_at s g
unfolding edges
contains-edges s g =
    contains-listed (ends_of (runs s)) g
    ∙ edges_in (runs s) g (runs_are_merged s)
    ∙ (λ i. differ (has_runs s g i) (not (g.number == 0) && has_runs s (number_before g) i))

-- no end is among those of later spans
fresh : (s : Span) (ss : List Span) (g : Gtid) → is_merged (s ∷ ss) ≡ true → is_near s g ≡ true → among g (ends_of ss) ≡ false
fresh s ss g m near =
    let h = merged_head s ss m in
    edges_in ss g h.tail ∙ (λ i. differ (later_none s ss g h.after near i) (not (g.number == 0) && before_none s ss g h.after near i)) ∙ ap (differ false) (and_false (not (g.number == 0)))

one_more : (gs : List Gtid) (g : Gtid) → among g gs ≡ false → set.len (set.from_list {R = gtid_cmp} (g ∷ gs)) ≡ set.len (set.from_list {R = gtid_cmp} gs) + 1
one_more gs g new =
    let s : Gtids = set.from_list gs in
    set.len-insert gtid_total s g ∙ ap (λ b. cond b (set.len s) (set.len s + 1)) (contains-listed gs g ∙ new)

len-ends : (ss : List Span) → is_merged ss ≡ true → set.len (set.from_list {R = gtid_cmp} (ends_of ss)) ≡ 2 * length ss
len-ends [] m = set.len-empty gtid_cmp
len-ends (s ∷ ss) m =
    let h = merged_head s ss m in
    let f = h.filled in
    let last = one_more (ends_of ss) (behind_of s) (fresh s ss (behind_of s) m (near_last f)) in
    let first = one_more (behind_of s ∷ ends_of ss) (first_of s) ((λ i. apart f i || fresh s ss (first_of s) m (near_first f) i)) in
    let rest = len-ends ss h.tail in
    omega (arith, first, last, rest)
  where
    near_last : s.lo ≤ s.hi → is_near s (behind_of s) ≡ true
    near_last f = grind (arith, nat_tests)

    near_first : s.lo ≤ s.hi → is_near s (first_of s) ≡ true
    near_first f = grind (arith, nat_tests)

    apart : s.lo ≤ s.hi → same_gtid (first_of s) (behind_of s) ≡ false
    apart f = grind (arith, nat_tests)

pub len-edges : (s : Gtids) → set.len (edges s) ≡ 2 * interval_count s
unfolding edges
len-edges s = len-ends (runs s) (runs_are_merged s)

-- ---- how many GTIDs a list has

pub len-listed : (gs : List Gtid) → set.len (set.from_list {R = gtid_cmp} gs) ≤ length gs
len-listed [] = let none = set.len-empty gtid_cmp in omega (arith, none)
len-listed (g ∷ gs) = cases (set.contains (set.from_list {R = gtid_cmp} gs) g) refl (len-listed gs)
  where
    cases : (b : Bool) → set.contains (set.from_list {R = gtid_cmp} gs) g ≡ b → set.len (set.from_list {R = gtid_cmp} gs) ≤ length gs → set.len (set.from_list {R = gtid_cmp} (g ∷ gs)) ≤ suc (length gs)
    cases true e le = let k = set.len-insert gtid_total (set.from_list {R = gtid_cmp} gs) g ∙ ap (λ b. cond b (set.len (set.from_list {R = gtid_cmp} gs)) (set.len (set.from_list {R = gtid_cmp} gs) + 1)) e in omega (arith, k, le)
    cases false e le = let k = set.len-insert gtid_total (set.from_list {R = gtid_cmp} gs) g ∙ ap (λ b. cond b (set.len (set.from_list {R = gtid_cmp} gs)) (set.len (set.from_list {R = gtid_cmp} gs) + 1)) e in omega (arith, k, le)

-- a member may be taken out and put back
put_back : (t : Gtids) (k : Gtid) → set.contains t k ≡ true → set.insert (set.remove t k) k ≡ t
put_back t k there = same_members (set.insert (set.remove t k) k) t (λ q.
    set.contains-insert gtid_total (set.remove t k) k q
    ∙ ap (λ b. eq_by_cmp gtid_cmp q k || b) (set.contains-remove gtid_total t k q)
    ∙ split q (eq_by_cmp gtid_cmp q k) refl)
  where
    split : (q : Gtid) (b : Bool) → eq_by_cmp gtid_cmp q k ≡ b → (b || (not b && set.contains t q)) ≡ set.contains t q
    split q true e = sym (ap (set.contains t) (same_is_equal q k (sym (gtid_tied q k) ∙ e)) ∙ there)
    split q false e = refl

len-less : (t : Gtids) (k : Gtid) → set.contains t k ≡ true → set.len t ≡ set.len (set.remove t k) + 1
len-less t k there =
    sym (ap set.len (put_back t k there))
    ∙ set.len-insert gtid_total (set.remove t k) k
    ∙ ap (λ b. cond b (set.len (set.remove t k)) (set.len (set.remove t k) + 1)) gone
  where
    gone : set.contains (set.remove t k) k ≡ false
    gone = set.contains-remove gtid_total t k k ∙ ap (λ b. not b && set.contains t k) (gtid_tied k k ∙ same_itself k)

-- a set with all of a list has as many
len-within : (gs : List Gtid) (t : Gtids) → ((q : Gtid) → among q gs ≡ true → set.contains t q ≡ true) → set.len (set.from_list {R = gtid_cmp} gs) ≤ set.len t
len-within [] t h = let none = set.len-empty gtid_cmp in omega (arith, none)
len-within (g ∷ gs) t h = cases (among g gs) refl (λ u. len-within gs u)
  where
    first : set.contains t g ≡ true
    first = h g (ap (λ b. b || among g gs) (same_itself g))

    others : (q : Gtid) → among g gs ≡ false → among q gs ≡ true → set.contains (set.remove t g) q ≡ true
    others q new there = set.contains-remove gtid_total t g q ∙ split (eq_by_cmp gtid_cmp q g) refl
      where
        split : (b : Bool) → eq_by_cmp gtid_cmp q g ≡ b → (not b && set.contains t q) ≡ true
        split true e =
            let both = sym (ap (λ x. among x gs) (same_is_equal q g (sym (gtid_tied q g) ∙ e)) ∙ new) ∙ there in
            absurd cc
        split false e = h q (or_right (same_gtid q g) (among q gs) there)

    cases : (b : Bool) → among g gs ≡ b → ((u : Gtids) → ((q : Gtid) → among q gs ≡ true → set.contains u q ≡ true) → set.len (set.from_list {R = gtid_cmp} gs) ≤ set.len u)
        → set.len (set.from_list {R = gtid_cmp} (g ∷ gs)) ≤ set.len t
    cases true e fewer =
        let kept = set.len-insert gtid_total (set.from_list {R = gtid_cmp} gs) g ∙ ap (λ b. cond b (set.len (set.from_list {R = gtid_cmp} gs)) (set.len (set.from_list {R = gtid_cmp} gs) + 1)) (contains-listed gs g ∙ e) in
        let le = fewer t (λ q i. h q (or_right (same_gtid q g) (among q gs) i)) in
        omega (arith, kept, le)
    cases false e fewer =
        let more = one_more gs g e in
        let le = fewer (set.remove t g) (λ q i. others q e i) in
        let less = len-less t g first in
        omega (arith, more, le, less)

-- ---- sets whose edges are in a set of places

pub edge_at : (places s : Gtids) → HasEdges places s → (g : Gtid) → changes_at s g ≡ true → set.contains places g ≡ true
edge_at places s h g e = set.is_subset-contains gtid_total (edges s) places h g (contains-edges s g ∙ e)

pub has_edges : (places s : Gtids) → ((g : Gtid) → changes_at s g ≡ true → set.contains places g ≡ true) → HasEdges places s
has_edges places s h = set.contains-is_subset gtid_total (edges s) places (λ g e. h g (sym (contains-edges s g) ∙ e))

-- so they have at most half as many intervals
pub few_intervals : (places s : Gtids) → HasEdges places s → 2 * interval_count s ≤ set.len places
unfolding edges
few_intervals places s h =
    let twice = len-ends (runs s) (runs_are_merged s) in
    let le = len-within (ends_of (runs s)) places (λ q e. edge_at places s h q (sym (contains-edges s q) ∙ (contains-listed (ends_of (runs s)) q ∙ e))) in
    omega (arith, twice, le)

pub many_edges : (places s : Gtids) → HasEdges places s → HasManyIntervals s → AreManyEdges places
many_edges places s h many = let few = few_intervals places s h in omega (arith, few, many)

-- ---- sets that are made of others

-- where neither of two sets changes, nothing that is made of both does
made_change : (f : Bool → Bool → Bool) (a b c d : Bool) → f false false ≡ false → differ (f a b) (f c d) ≡ true → (differ a c || differ b d) ≡ true
made_change f true true true true none e = absurd (same (f true true) e)
  where
    same : (x : Bool) → differ x x ≡ true → ⊥
    same true e = cc
    same false e = cc
made_change f true false true false none e = absurd (same (f true false) e)
  where
    same : (x : Bool) → differ x x ≡ true → ⊥
    same true e = cc
    same false e = cc
made_change f false true false true none e = absurd (same (f false true) e)
  where
    same : (x : Bool) → differ x x ≡ true → ⊥
    same true e = cc
    same false e = cc
made_change f false false false false none e = absurd (same (f false false) e)
  where
    same : (x : Bool) → differ x x ≡ true → ⊥
    same true e = cc
    same false e = cc
made_change f true b false d none e = refl
made_change f false b true d none e = refl
made_change f true true true false none e = refl
made_change f true false true true none e = refl
made_change f false true false false none e = refl
made_change f false false false true none e = refl

guarded : (f : Bool → Bool → Bool) (first a b : Bool) → f false false ≡ false → (first && f a b) ≡ f (first && a) (first && b)
guarded f true a b none = refl
guarded f false a b none = sym none

made_edges : (places a b t : Gtids) (f : Bool → Bool → Bool) → f false false ≡ false → ((q : Gtid) → set.contains t q ≡ f (set.contains a q) (set.contains b q)) → HasEdges places a → HasEdges places b → HasEdges places t
made_edges places a b t f none made in_a in_b = has_edges places t (λ g e.
    let now = made g in
    let before : has_before t g ≡ f (has_before a g) (has_before b g) = ap (λ x. not (g.number == 0) && x) (made (number_before g)) ∙ guarded f (not (g.number == 0)) (set.contains a (number_before g)) (set.contains b (number_before g)) none in
    elim (or_cases (changes_at a g) (changes_at b g) (made_change f (set.contains a g) (set.contains b g) (has_before a g) (has_before b g) none (sym (λ i. differ (now i) (before i)) ∙ e))) [
      | inl x ↦ edge_at places a in_a g x
      | inr x ↦ edge_at places b in_b g x
    ])

pub union_edges : (places a b : Gtids) → HasEdges places a → HasEdges places b → HasEdges places (set.union a b)
union_edges places a b in_a in_b = made_edges places a b (set.union a b) (λ x y. x || y) refl (λ q. set.contains-union gtid_total a b q) in_a in_b

pub difference_edges : (places a b : Gtids) → HasEdges places a → HasEdges places b → HasEdges places (set.difference a b)
difference_edges places a b in_a in_b = made_edges places a b (set.difference a b) (λ x y. x && not y) refl (λ q. set.contains-difference gtid_total a b q) in_a in_b

pub intersection_edges : (places a b : Gtids) → HasEdges places a → HasEdges places b → HasEdges places (set.intersection a b)
intersection_edges places a b in_a in_b = made_edges places a b (set.intersection a b) (λ x y. x && y) refl (λ q. set.contains-intersection gtid_total a b q) in_a in_b

-- ... and that differ from another only at GTIDs whose ends are among the places
pub moved_edges : (places s t : Gtids) → HasEdges places s → ((q : Gtid) → (set.contains t q ≡ set.contains s q) ⊎ HasEnds places q) → HasEdges places t
moved_edges places s t in_s moved = has_edges places t (λ g e. at g e (moved g))
  where
    next_back : (g : Gtid) → (g.number == 0) ≡ false → next_to (number_before g) ≡ g
    next_back g e = same_is_equal (next_to (number_before g)) g (grind (arith, nat_tests))

    behind : (g : Gtid) → changes_at t g ≡ true → set.contains t g ≡ set.contains s g → (b : Bool) → (g.number == 0) ≡ b → (set.contains t (number_before g) ≡ set.contains s (number_before g)) ⊎ HasEnds places (number_before g) → set.contains places g ≡ true
    behind g e now b z (inl past) = edge_at places s in_s g (sym (λ i. differ (now i) (not (g.number == 0) && past i)) ∙ e)
    behind g e now true z (inr ends) = edge_at places s in_s g (sym (λ i. differ (now i) (first i)) ∙ e)
      where
        first : has_before t g ≡ has_before s g
        first = ap (λ x. not x && set.contains t (number_before g)) z ∙ sym (ap (λ x. not x && set.contains s (number_before g)) z)
    behind g e now false z (inr ends) = sym (ap (set.contains places) (next_back g z)) ∙ ends.1

    at : (g : Gtid) → changes_at t g ≡ true → (set.contains t g ≡ set.contains s g) ⊎ HasEnds places g → set.contains places g ≡ true
    at g e (inl now) = behind g e now (g.number == 0) refl (moved (number_before g))
    at g e (inr ends) = ends.0

pub insert_edges : (places s : Gtids) (g : Gtid) → HasEdges places s → HasEnds places g → HasEdges places (set.insert s g)
insert_edges places s g in_s ends = moved_edges places s (set.insert s g) in_s (λ q. at q (same_gtid q g) refl)
  where
    at : (q : Gtid) (b : Bool) → same_gtid q g ≡ b → (set.contains (set.insert s g) q ≡ set.contains s q) ⊎ HasEnds places q
    at q true e = inr (subst (HasEnds places) (sym (same_is_equal q g e)) ends)
    at q false e = inl (set.contains-insert gtid_total s g q ∙ ap (λ b. b || set.contains s q) (gtid_tied q g ∙ e))

pub empty_edges : (places : Gtids) → HasEdges places set.empty
empty_edges places = has_edges places set.empty (λ g e. absurd (none g (g.number == 0) (sym (λ i. differ (set.contains-empty gtid_cmp g i) (not (g.number == 0) && set.contains-empty gtid_cmp (number_before g) i)) ∙ e)))
  where
    none : (g : Gtid) (b : Bool) → differ false (not b && false) ≡ true → ⊥
    none g true e = cc
    none g false e = cc

-- more places have what fewer have
pub wider_edges : (places more s : Gtids) → ((q : Gtid) → set.contains places q ≡ true → set.contains more q ≡ true) → HasEdges places s → HasEdges more s
wider_edges places more s wider h = has_edges more s (λ g e. wider g (edge_at places s h g e))

-- a set of GTIDs whose ends are all among the places
pub members_edges : (places t : Gtids) → ((q : Gtid) → set.contains t q ≡ true → HasEnds places q) → HasEdges places t
members_edges places t ends = moved_edges places set.empty t (empty_edges places) (λ q. at q (set.contains t q) refl)
  where
    at : (q : Gtid) (b : Bool) → set.contains t q ≡ b → (set.contains t q ≡ set.contains {R = gtid_cmp} set.empty q) ⊎ HasEnds places q
    at q true e = inr (ends q e)
    at q false e = inl (e ∙ sym (set.contains-empty gtid_cmp q))

-- places that are listed
pub listed_edges : (gs : List Gtid) (s : Gtids) → ((q : Gtid) → among q (ends_of (runs s)) ≡ true → among q gs ≡ true) → HasEdges (set.from_list gs) s
unfolding edges
listed_edges gs s h = has_edges (set.from_list gs) s (λ g e. contains-listed gs g ∙ h g (sym (contains-listed (ends_of (runs s)) g) ∙ (contains-edges s g ∙ e)))

-- a call is refused for the intervals of a set whose edges are among some places: then these are many
pub crowd_fault : (A : Type 0) (f : SetFault) (s : Gtids) (Has : Gtids → Type 0) → ((places : Gtids) → Has places → HasEdges places s) → IsMemoryOr A (HasManyIntervals s) f → IsMemoryOr A (IsCrowd Has) f
crowd_fault A f s Has within h = fault_map f (λ x. x) (λ many places has. many_edges places s (within places has) many) h

-- where a call is refused for the intervals alone
pub crowded_only : (A : Type 0) (f : SetFault) (s : Gtids) → IsCrowdedExactly {T = Unit {0}} (Err f) s → IsMemoryOr A (HasManyIntervals s) f
crowded_only A Memory s h = tt
crowded_only A PoolFull s h = h
crowded_only A SourcesFull s h = absurd h

-- a set has its own edges
pub own_edges : (s : Gtids) → HasEdges (edges s) s
own_edges s = has_edges (edges s) s (λ g e. contains-edges s g ∙ e)

-- the edges of one source's members
pub only_edges : (places s : Gtids) (source : ℕ) → HasEdges places s → HasEdges places (only s source)
unfolding only
only_edges places s source in_s = has_edges places (set.retain s (λ g. g.source == source)) (λ g e.
    let now = kept g in
    let past = kept (number_before g) in
    edge_at places s in_s g (part (g.source == source) (set.contains s g) (set.contains s (number_before g)) (not (g.number == 0)) (sym (λ i. differ (now i) (not (g.number == 0) && past i)) ∙ e)))
  where
    kept : (q : Gtid) → set.contains (set.retain s (λ g. g.source == source)) q ≡ (set.contains s q && (q.source == source))
    kept q = set.contains-retain s (λ g. g.source == source) q (λ x e. ap (λ (y : Gtid). y.source == source) (sym (gtid_exact q x e)))

    part : (own now past some : Bool) → differ (now && own) (some && (past && own)) ≡ true → differ now (some && past) ≡ true
    part true true true true e = absurd cc
    part true true true false e = refl
    part true true false true e = refl
    part true true false false e = refl
    part true false true true e = refl
    part true false true false e = absurd cc
    part true false false true e = absurd cc
    part true false false false e = absurd cc
    part false true true true e = absurd cc
    part false true true false e = absurd cc
    part false true false true e = absurd cc
    part false true false false e = absurd cc
    part false false true true e = absurd cc
    part false false true false e = absurd cc
    part false false false true e = absurd cc
    part false false false false e = absurd cc

-- ---- how many intervals what is made of two sets has

-- the edges of two sets
abbrev both_edges : Gtids → Gtids → Gtids
both_edges a b = set.from_list (ends_of (runs a) ++ ends_of (runs b))

pub length-ends : (ss : List Span) → length (ends_of ss) ≡ 2 * length ss
length-ends [] = refl
length-ends (s ∷ ss) = let rest = length-ends ss in omega (arith, rest)

both_few : (a b : Gtids) → set.len (both_edges a b) ≤ 2 * (interval_count a + interval_count b)
both_few a b =
    let le = len-listed (ends_of (runs a) ++ ends_of (runs b)) in
    let sum = length-append (ends_of (runs a)) (ends_of (runs b)) in
    let x = length-ends (runs a) in
    let y = length-ends (runs b) in
    omega (arith, le, sum, x, y)

joined_any : (q : Gtid) (xs ys : List Gtid) → among q (xs ++ ys) ≡ (among q xs || among q ys)
joined_any q xs ys = list_any-append (same_gtid q) xs ys

left_edges : (a b : Gtids) → HasEdges (both_edges a b) a
unfolding edges
left_edges a b = has_edges (both_edges a b) a (λ g e.
    contains-listed (ends_of (runs a) ++ ends_of (runs b)) g ∙ joined_any g (ends_of (runs a)) (ends_of (runs b))
    ∙ or_left (among g (ends_of (runs a))) (among g (ends_of (runs b))) (sym (contains-listed (ends_of (runs a)) g) ∙ (contains-edges a g ∙ e)))

right_edges : (a b : Gtids) → HasEdges (both_edges a b) b
unfolding edges
right_edges a b = has_edges (both_edges a b) b (λ g e.
    contains-listed (ends_of (runs a) ++ ends_of (runs b)) g ∙ joined_any g (ends_of (runs a)) (ends_of (runs b))
    ∙ or_right (among g (ends_of (runs a))) (among g (ends_of (runs b))) (sym (contains-listed (ends_of (runs b)) g) ∙ (contains-edges b g ∙ e)))

made_few : (a b t : Gtids) → HasEdges (both_edges a b) t → interval_count t ≤ interval_count a + interval_count b
made_few a b t h =
    let few = few_intervals (both_edges a b) t h in
    let le = both_few a b in
    omega (arith, few, le)

pub union_few : (a b : Gtids) → interval_count (set.union a b) ≤ interval_count a + interval_count b
union_few a b = made_few a b (set.union a b) (union_edges (both_edges a b) a b (left_edges a b) (right_edges a b))

pub difference_few : (a b : Gtids) → interval_count (set.difference a b) ≤ interval_count a + interval_count b
difference_few a b = made_few a b (set.difference a b) (difference_edges (both_edges a b) a b (left_edges a b) (right_edges a b))

pub intersection_few : (a b : Gtids) → interval_count (set.intersection a b) ≤ interval_count a + interval_count b
intersection_few a b = made_few a b (set.intersection a b) (intersection_edges (both_edges a b) a b (left_edges a b) (right_edges a b))

-- the edges of a set, and the ends of one GTID more
abbrev edges_and : Gtids → Gtid → Gtids
edges_and s g = set.from_list (g ∷ next_to g ∷ ends_of (runs s))

pub insert_few : (s : Gtids) (g : Gtid) → interval_count (set.insert s g) ≤ interval_count s + 1
unfolding edges
insert_few s g =
    let list = ends_of (runs s) in
    let few = few_intervals (edges_and s g) (set.insert s g) (insert_edges (edges_and s g) s g old ends) in
    let le = len-listed (g ∷ next_to g ∷ list) in
    let twice = length-ends (runs s) in
    omega (arith, few, le, twice)
  where
    old : HasEdges (edges_and s g) s
    old = has_edges (edges_and s g) s (λ q e.
        contains-listed (g ∷ next_to g ∷ ends_of (runs s)) q
        ∙ or_right (same_gtid q g) (same_gtid q (next_to g) || among q (ends_of (runs s))) (or_right (same_gtid q (next_to g)) (among q (ends_of (runs s))) (sym (contains-listed (ends_of (runs s)) q) ∙ (contains-edges s q ∙ e))))

    ends : HasEnds (edges_and s g) g
    ends = (
      contains-listed (g ∷ next_to g ∷ ends_of (runs s)) g ∙ or_left (same_gtid g g) (same_gtid g (next_to g) || among g (ends_of (runs s))) (same_itself g),
      contains-listed (g ∷ next_to g ∷ ends_of (runs s)) (next_to g) ∙ or_right (same_gtid (next_to g) g) (same_gtid (next_to g) (next_to g) || among (next_to g) (ends_of (runs s))) (or_left (same_gtid (next_to g) (next_to g)) (among (next_to g) (ends_of (runs s))) (same_itself (next_to g))),
    )

-- ---- the edges of two sets together

in_union : (a b : Gtids) (q : Gtid) → set.contains a q ≡ true → set.contains (set.union a b) q ≡ true
in_union a b q h = set.contains-union gtid_total a b q ∙ or_left (set.contains a q) (set.contains b q) h

in_union_too : (a b : Gtids) (q : Gtid) → set.contains b q ≡ true → set.contains (set.union a b) q ≡ true
in_union_too a b q h = set.contains-union gtid_total a b q ∙ or_right (set.contains a q) (set.contains b q) h

pub left_own : (a b : Gtids) → HasEdges (set.union (edges a) (edges b)) a
left_own a b = wider_edges (edges a) (set.union (edges a) (edges b)) a (λ q h. in_union (edges a) (edges b) q h) (own_edges a)

pub right_own : (a b : Gtids) → HasEdges (set.union (edges a) (edges b)) b
right_own a b = wider_edges (edges b) (set.union (edges a) (edges b)) b (λ q h. in_union_too (edges a) (edges b) q h) (own_edges b)
