-- The listed nodes, as the nodes change.
use Rattle.std.proofs.Common.{◌≡◌, ℕ, zero, suc, ◌+◌, ◌-◌, ◌/◌, ◌<◌, ◌≤◌, Bool, true, false, not, ◌&&◌, cond, List, [], ◌∷◌, ◌++◌, length, drop, take, replicate, refl, sym, ap, subst, ◌∙◌, arith, true≢false}
use Rattle.std.specs.Prelude.{nat_eq, nat_lt, slice_index_or, slice_set, Result, Ok, Err, OnOk}
use Rattle.std.proofs.Math.Dec.{ltb, eqb}
use Rattle.std.proofs.lemmas.Bool.{ltb-true, ltb-false, eqb-true, eq-eqb}
use Rattle.dependency_graph.specs.Ready.{IsListing, IsListed, IsListedWithRoom, HasRoomAt, Raises, Lowers, Turns, is_unblocked, is_unblocked_in, is_unblocked_at}
use Rattle.dependency_graph.specs.declared.ready.Ready.{Ready}
use Rattle.dependency_graph.specs.declared.graph.GraphNode.{GraphNode}
use Rattle.std.proofs.lemmas.List.{length_push}
use Rattle.lemmas.proofs.Tests.{not_out}
use Rattle.dependency_graph.specs.Graphs.{Point, may_go, gone, mark_at}
use Rattle.dependency_graph.specs.Kept.{points, is_finished_at, is_finished_first, IsSound}
use Rattle.dependency_graph.specs.declared.chains.Chains.{Chains}
use Rattle.dependency_graph.proofs.Kept.{kept_now, waits_on, may_go_kept, gone_at}
use Rattle.dependency_graph.proofs.Popping.{unfinished_kept, length_set}
use Rattle.dependency_graph.proofs.Adding.{set_last}
use Rattle.dependency_graph.proofs.Levels.{level_less, level_raise, level_lower}

pub listing_same : (r : Ready) (base end : ℕ) (p q : ℕ → Bool) → ((m : ℕ) → p m ≡ q m) → IsListing r base end p → IsListing r base end q
listing_same r base end p q same h = subst (IsListing r base end) (λ i m. same m i) h

pub listing_less : (r : Ready) (base end fewer : ℕ) (p : ℕ → Bool) → fewer ≤ end → IsListing r base end p → IsListing r base fewer p
listing_less r base end fewer p le h = record {
  small = level_less 64 (omega arith) r.small base end fewer p le h.small;
  middle = level_less 4096 (omega arith) r.middle base end fewer p le h.middle;
  large = level_less 262144 (omega arith) r.large base end fewer p le h.large;
}

pub goes_in_at : (nodes : List GraphNode) (i : ℕ) (x : GraphNode) → x ≡ slice_index_or nodes i x → i < length nodes → is_unblocked_in nodes i ≡ is_unblocked x
goes_in_at [] i x e lt = absurd (omega (lt, arith))
goes_in_at (y ∷ nodes) zero x e lt = ap is_unblocked (sym e)
goes_in_at (y ∷ nodes) (suc i) x e lt = goes_in_at nodes i x e (omega (lt, arith))

goes_in_set : (nodes : List GraphNode) (i : ℕ) (x : GraphNode) → i < length nodes → is_unblocked_in (slice_set nodes i x) i ≡ is_unblocked x
goes_in_set [] i x lt = absurd (omega (lt, arith))
goes_in_set (y ∷ nodes) zero x lt = refl
goes_in_set (y ∷ nodes) (suc i) x lt = goes_in_set nodes i x (omega (lt, arith))

goes_in_other : (nodes : List GraphNode) (i j : ℕ) (x : GraphNode) → (j ≡ i → ⊥) → is_unblocked_in (slice_set nodes i x) j ≡ is_unblocked_in nodes j
goes_in_other [] i j x ne = refl
goes_in_other (y ∷ nodes) zero zero x ne = absurd (ne refl)
goes_in_other (y ∷ nodes) zero (suc j) x ne = refl
goes_in_other (y ∷ nodes) (suc i) zero x ne = refl
goes_in_other (y ∷ nodes) (suc i) (suc j) x ne = goes_in_other nodes i j x (λ e. ne (ap suc e))

-- a number after those that were dropped
pub goes_before : (d n : ℕ) (nodes : List GraphNode) → n < d → is_unblocked_at d nodes n ≡ false
goes_before d n nodes lt = by (ltb n d) refl
  where
    by : (b : Bool) → ltb n d ≡ b → cond b false (is_unblocked_in nodes (n - d)) ≡ false
    by true e = refl
    by false e = absurd (let le = ltb-false n d e in omega (le, lt, arith))

by_kept : (b : Bool) (d n : ℕ) (nodes : List GraphNode) → ltb n d ≡ b → d ≤ n → cond b false (is_unblocked_in nodes (n - d)) ≡ is_unblocked_in nodes (n - d)
by_kept true d n nodes e le = absurd (let lt = ltb-true n d e in omega (le, lt, arith))
by_kept false d n nodes e le = refl

pub goes_behind : (d n : ℕ) (nodes : List GraphNode) → d ≤ n → is_unblocked_at d nodes n ≡ is_unblocked_in nodes (n - d)
goes_behind d n nodes le = by_kept (ltb n d) d n nodes refl le

-- a change of one node
pub goes_turns : (d : ℕ) (nodes : List GraphNode) (i : ℕ) (x y : GraphNode) (now : Bool) → x ≡ slice_index_or nodes i x → i < length nodes → is_unblocked x ≡ false → is_unblocked y ≡ now
    → Turns (is_unblocked_at d nodes) (is_unblocked_at d (slice_set nodes i y)) (d + i) now
goes_turns d nodes i x y now at lt was is = record {
  before = goes_behind d (d + i) nodes (omega arith) ∙ ap (is_unblocked_in nodes) place ∙ goes_in_at nodes i x at lt ∙ was;
  after = goes_behind d (d + i) (slice_set nodes i y) (omega arith) ∙ ap (is_unblocked_in (slice_set nodes i y)) place ∙ goes_in_set nodes i y lt ∙ is;
  others = λ m ne. by_front (ltb m d) m ne refl;
}
  where
    place : d + i - d ≡ i
    place = omega arith

    by_front : (b : Bool) (m : ℕ) → (m ≡ d + i → ⊥) → ltb m d ≡ b → cond b false (is_unblocked_in (slice_set nodes i y) (m - d)) ≡ cond b false (is_unblocked_in nodes (m - d))
    by_front true m ne e = refl
    by_front false m ne e = goes_in_other nodes i (m - d) y (λ same. ne (let le = ltb-false m d e in omega (le, same, arith)))

-- a change back
pub goes_turns_back : (d : ℕ) (nodes : List GraphNode) (i : ℕ) (x y : GraphNode) (was : Bool) → x ≡ slice_index_or nodes i x → i < length nodes → is_unblocked x ≡ was → is_unblocked y ≡ false
    → Turns (is_unblocked_at d (slice_set nodes i y)) (is_unblocked_at d nodes) (d + i) was
goes_turns_back d nodes i x y was at lt is now = record {
  before = goes_behind d (d + i) (slice_set nodes i y) (omega arith) ∙ ap (is_unblocked_in (slice_set nodes i y)) place ∙ goes_in_set nodes i y lt ∙ now;
  after = goes_behind d (d + i) nodes (omega arith) ∙ ap (is_unblocked_in nodes) place ∙ goes_in_at nodes i x at lt ∙ is;
  others = λ m ne. sym (by_front (ltb m d) m ne refl);
}
  where
    place : d + i - d ≡ i
    place = omega arith

    by_front : (b : Bool) (m : ℕ) → (m ≡ d + i → ⊥) → ltb m d ≡ b → cond b false (is_unblocked_in (slice_set nodes i y) (m - d)) ≡ cond b false (is_unblocked_in nodes (m - d))
    by_front true m ne e = refl
    by_front false m ne e = goes_in_other nodes i (m - d) y (λ same. ne (let le = ltb-false m d e in omega (le, same, arith)))

goes_in_end : (nodes : List GraphNode) (x : GraphNode) → is_unblocked_in (nodes ++ x ∷ []) (length nodes) ≡ is_unblocked x
goes_in_end [] x = refl
goes_in_end (y ∷ nodes) x = goes_in_end nodes x

goes_in_past : (nodes : List GraphNode) (i : ℕ) → length nodes ≤ i → is_unblocked_in nodes i ≡ false
goes_in_past [] i le = refl
goes_in_past (y ∷ nodes) zero le = absurd (omega (le, arith))
goes_in_past (y ∷ nodes) (suc i) le = goes_in_past nodes i (omega (le, arith))

goes_in_push : (nodes : List GraphNode) (x : GraphNode) (i : ℕ) → (i ≡ length nodes → ⊥) → is_unblocked_in (nodes ++ x ∷ []) i ≡ is_unblocked_in nodes i
goes_in_push [] x zero ne = absurd (ne refl)
goes_in_push [] x (suc i) ne = refl
goes_in_push (y ∷ nodes) x zero ne = refl
goes_in_push (y ∷ nodes) x (suc i) ne = goes_in_push nodes x i (λ e. ne (ap suc e))

-- one node more
pub goes_pushed : (d : ℕ) (nodes : List GraphNode) (x : GraphNode) (now : Bool) → is_unblocked x ≡ now → Turns (is_unblocked_at d nodes) (is_unblocked_at d (nodes ++ x ∷ [])) (d + length nodes) now
goes_pushed d nodes x now is = record {
  before = goes_behind d (d + length nodes) nodes (omega arith) ∙ ap (is_unblocked_in nodes) place ∙ goes_in_past nodes (length nodes) (omega arith);
  after = goes_behind d (d + length nodes) (nodes ++ x ∷ []) (omega arith) ∙ ap (is_unblocked_in (nodes ++ x ∷ [])) place ∙ goes_in_end nodes x ∙ is;
  others = λ m ne. by_front (ltb m d) m ne refl;
}
  where
    place : d + length nodes - d ≡ length nodes
    place = omega arith

    by_front : (b : Bool) (m : ℕ) → (m ≡ d + length nodes → ⊥) → ltb m d ≡ b → cond b false (is_unblocked_in (nodes ++ x ∷ []) (m - d)) ≡ cond b false (is_unblocked_in nodes (m - d))
    by_front true m ne e = refl
    by_front false m ne e = goes_in_push nodes x (m - d) (λ same. ne (let le = ltb-false m d e in omega (le, same, arith)))

-- the first node, which is finished, is gone
pub goes_dropped : (d : ℕ) (x : GraphNode) (nodes : List GraphNode) → x.finished ≡ true → (m : ℕ) → is_unblocked_at d (x ∷ nodes) m ≡ is_unblocked_at (d + 1) nodes m
goes_dropped d x nodes done m = by_front (ltb m d) refl
  where
    later : d < m → is_unblocked_in (x ∷ nodes) (m - d) ≡ is_unblocked_in nodes (m - (d + 1))
    later lt = let next : m - d ≡ suc (m - (d + 1)) = omega (lt, arith) in ap (is_unblocked_in (x ∷ nodes)) next

    here : m ≡ d → is_unblocked_in (x ∷ nodes) (m - d) ≡ false
    here e = let place : m - d ≡ zero = omega (e, arith) in ap (is_unblocked_in (x ∷ nodes)) place ∙ not_out x.finished (nat_eq x.waits 0) done

    by_next : (b : Bool) → ltb m (d + 1) ≡ b → d ≤ m → is_unblocked_in (x ∷ nodes) (m - d) ≡ is_unblocked_at (d + 1) nodes m
    by_next true e le = here (let lt = ltb-true m (d + 1) e in omega (lt, le, arith)) ∙ sym (goes_before (d + 1) m nodes (ltb-true m (d + 1) e))
    by_next false e le = later (let far = ltb-false m (d + 1) e in omega (far, arith)) ∙ sym (goes_behind (d + 1) m nodes (ltb-false m (d + 1) e))

    by_front : (b : Bool) → ltb m d ≡ b → cond b false (is_unblocked_in (x ∷ nodes) (m - d)) ≡ is_unblocked_at (d + 1) nodes m
    by_front true e = sym (goes_before (d + 1) m nodes (let lt = ltb-true m d e in omega (lt, arith)))
    by_front false e = by_next (ltb m (d + 1)) refl (ltb-false m d e)

unturned_by : (b : Bool) (p q : ℕ → Bool) (n m : ℕ) → Turns p q n false → eqb m n ≡ b → p m ≡ q m
unturned_by true p q n m t e = let same = eqb-true m n e in ap p same ∙ t.before ∙ sym (ap q same ∙ t.after)
unturned_by false p q n m t e = sym (t.others m (λ same. not_equal same))
  where
    not_equal : m ≡ n → ⊥
    not_equal same = true≢false (sym (eq-eqb m n same) ∙ e)

-- nothing changes where a number goes on to fail
pub unturned : (p q : ℕ → Bool) (n : ℕ) → Turns p q n false → (m : ℕ) → p m ≡ q m
unturned p q n t m = unturned_by (eqb m n) p q n m t refl

module _ (old new : Ready) (base end n : ℕ) (p q : ℕ → Bool) (lo : base ≤ n) (hi : n < end) where
  pub listing_raised : Turns p q n true → Raises old.small new.small (n / 64) → Raises old.middle new.middle (n / 4096) → Raises old.large new.large (n / 262144) → IsListing old base end p → IsListing new base end q
  listing_raised t a b c h = record {
    small = level_raise 64 (omega arith) old.small new.small base end n p q lo hi t (omega arith) a h.small;
    middle = level_raise 4096 (omega arith) old.middle new.middle base end n p q lo hi t (omega arith) b h.middle;
    large = level_raise 262144 (omega arith) old.large new.large base end n p q lo hi t (omega arith) c h.large;
  }

  pub listing_lowered : Turns p q n true → Lowers old.small new.small (n / 64) → Lowers old.middle new.middle (n / 4096) → Lowers old.large new.large (n / 262144) → IsListing old base end q → IsListing new base end p
  listing_lowered t a b c h = record {
    small = level_lower 64 (omega arith) old.small new.small base end n p q lo hi t a h.small;
    middle = level_lower 4096 (omega arith) old.middle new.middle base end n p q lo hi t b h.middle;
    large = level_lower 262144 (omega arith) old.large new.large base end n p q lo hi t c h.large;
  }

pub listed_pushed : (d : ℕ) (nodes pushed : List GraphNode) (x y : GraphNode) (at : ℕ) (mid new : Ready) (now : Bool) → at ≡ length nodes → pushed ≡ nodes ++ x ∷ [] → is_unblocked y ≡ now
    → IsListing mid d (d + at + 1) (is_unblocked_at d nodes)
    → ((base end : ℕ) (p q : ℕ → Bool) → base ≤ d + at → d + at < end → Turns p q (d + at) now → IsListing mid base end p → IsListing new base end q)
    → IsListed d (slice_set pushed at y) new
listed_pushed d nodes pushed x y at mid new now at_is is go h put =
    let set_now : slice_set pushed at y ≡ nodes ++ y ∷ [] = ap (λ ns. slice_set ns at y) is ∙ set_last nodes x y at at_is in
    let turned : Turns (is_unblocked_at d nodes) (is_unblocked_at d (nodes ++ y ∷ [])) (d + at) now = subst (λ j. Turns (is_unblocked_at d nodes) (is_unblocked_at d (nodes ++ y ∷ [])) (d + j) now) (sym at_is) (goes_pushed d nodes y now go) in
    let listed = put d (d + at + 1) (is_unblocked_at d nodes) (is_unblocked_at d (nodes ++ y ∷ [])) (omega arith) (omega arith) turned h in
    let longer = length_push nodes y in
    let ends : d + at + 1 ≡ d + length (nodes ++ y ∷ []) = omega (longer, at_is, arith) in
    subst (λ ns. IsListed d ns new) (sym set_now) (λ some. subst (λ e. IsListing new d e (is_unblocked_at d (nodes ++ y ∷ []))) ends listed)

-- a node that waits for one key less
pub listed_lowered : (d : ℕ) (nodes : List GraphNode) (node : ℕ) (x : GraphNode) (old new : Ready) → is_finished_at (points d nodes) node ≡ false → x ≡ slice_index_or nodes (node - d) x → 1 ≤ x.waits
    → ((base end : ℕ) (p q : ℕ → Bool) → base ≤ node → node < end → Turns p q node (nat_eq (x.waits - 1) 0) → IsListing old base end p → IsListing new base end q)
    → IsListed d nodes old → IsListed d (slice_set nodes (node - d) (record x { waits = x.waits - 1 })) new
listed_lowered d nodes node x old new open_one at waits put h = λ some.
    let inside = unfinished_kept d nodes node open_one in
    let y : GraphNode = record x { waits = x.waits - 1 } in
    let place : d + (node - d) ≡ node = let le = inside.0 in omega (le, arith) in
    let turned = goes_turns d nodes (node - d) x y (nat_eq (x.waits - 1) 0) at inside.1 (waits_on x.finished x.waits (λ e. absurd (omega (e, waits, arith)))) (ap (λ b. not b && nat_eq (x.waits - 1) 0) (open_here inside.1)) in
    let now : Turns (is_unblocked_at d nodes) (is_unblocked_at d (slice_set nodes (node - d) y)) node (nat_eq (x.waits - 1) 0) = subst (λ n. Turns (is_unblocked_at d nodes) (is_unblocked_at d (slice_set nodes (node - d) y)) n (nat_eq (x.waits - 1) 0)) place turned in
    let size = length_set nodes (node - d) y in
    let ends : d + length nodes ≡ d + length (slice_set nodes (node - d) y) = omega (size, arith) in
    subst (λ e. IsListing new d e (is_unblocked_at d (slice_set nodes (node - d) y))) ends
    (put d (d + length nodes) (is_unblocked_at d nodes) (is_unblocked_at d (slice_set nodes (node - d) y)) inside.0 (let le = inside.0 in let lt = inside.1 in omega (le, lt, arith)) now (h (let lt = inside.1 in omega (lt, arith))))
  where
    open_here : (node - d) < length nodes → x.finished ≡ false
    open_here lt = ap (λ (p : Point). p.finished) (sym (kept_now d nodes node x (unfinished_kept d nodes node open_one).0 lt at)) ∙ open_one

-- a node that is finished now
pub listed_marked : (d : ℕ) (nodes : List GraphNode) (at : ℕ) (x : GraphNode) (old new : Ready) → x ≡ slice_index_or nodes at x → at < length nodes
    → ((base end : ℕ) (p q : ℕ → Bool) → base ≤ d + at → d + at < end → Turns p q (d + at) (is_unblocked x) → IsListing old base end q → IsListing new base end p)
    → IsListed d nodes old → IsListed d (slice_set nodes at (record x { finished = true })) new
listed_marked d nodes at x old new read lt take h = λ some.
    let y : GraphNode = record x { finished = true } in
    let turned = goes_turns_back d nodes at x y (is_unblocked x) read lt refl refl in
    let size = length_set nodes at y in
    let ends : d + length nodes ≡ d + length (slice_set nodes at y) = omega (size, arith) in
    subst (λ e. IsListing new d e (is_unblocked_at d (slice_set nodes at y))) ends
    (take d (d + length nodes) (is_unblocked_at d (slice_set nodes at y)) (is_unblocked_at d nodes) (omega arith) (omega (lt, arith)) turned (h (omega (lt, arith))))

-- the prefix, which is finished, is gone
pub listed_dropped : (d : ℕ) (nodes new : List GraphNode) (old ready : Ready) → is_finished_first nodes ≡ true → new ≡ drop 1 nodes
    → ((was end : ℕ) (p : ℕ → Bool) → was ≤ d + 1 → d + 1 ≤ end → ((m : ℕ) → m < d + 1 → p m ≡ false) → IsListing old was end p → IsListing ready (d + 1) end p)
    → IsListed d nodes old → IsListed (d + 1) new ready
listed_dropped d [] new old ready first is pass h = absurd (true≢false (sym first))
listed_dropped d (x ∷ nodes) new old ready first is pass h =
    let same = goes_dropped d x nodes first in
    let now = listing_same old d (d + length (x ∷ nodes)) (is_unblocked_at d (x ∷ nodes)) (is_unblocked_at (d + 1) nodes) same (h (omega arith)) in
    let passed = pass d (d + length (x ∷ nodes)) (is_unblocked_at (d + 1) nodes) (omega arith) (omega arith) (λ m lt. goes_before (d + 1) m nodes lt) now in
    let ends : d + length (x ∷ nodes) ≡ d + 1 + length nodes = omega arith in
    subst (λ ns. IsListed (d + 1) ns ready) (sym is) (λ some. subst (λ e. IsListing ready (d + 1) e (is_unblocked_at (d + 1) nodes)) ends passed)

-- no nodes, and room for the next one
none_listed : (d : ℕ) (nodes : List GraphNode) (r : Ready) → length nodes ≡ 0 → ((p : ℕ → Bool) → ((m : ℕ) → p m ≡ false) → IsListing r d (d + 1) p) → IsListedWithRoom d nodes r
none_listed d [] r e h = subst (λ n. IsListing r d n (is_unblocked_at d [])) ends (h (is_unblocked_at d []) none)
  where
    ends : d + 1 ≡ d + length {A = GraphNode} [] + 1
    ends = omega arith

    none_by : (b : Bool) (n : ℕ) → cond b false (is_unblocked_in [] n) ≡ false
    none_by true n = refl
    none_by false n = refl

    none : (m : ℕ) → is_unblocked_at d [] m ≡ false
    none m = none_by (nat_lt m d) (m - d)
none_listed d (x ∷ nodes) r e h = absurd (omega (e, arith))

pub restarted : {E : Type 0} (d : ℕ) (nodes : List GraphNode) (old new : Ready) (result : Result (Unit {0}) E) → length nodes ≡ 0 → OnOk result ((p : ℕ → Bool) → ((m : ℕ) → p m ≡ false) → IsListing new d (d + 1) p)
    → OnOk result (IsListed d nodes old → IsListedWithRoom d nodes new)
restarted d nodes old new (Ok done) e h = λ listed. none_listed d nodes new e h
restarted d nodes old new (Err fault) e h = tt

-- some nodes, and room for the next one
pub reserved : {E : Type 0} (d : ℕ) (nodes : List GraphNode) (n : ℕ) (old new : Ready) (result : Result (Unit {0}) E) → n ≡ length nodes → 0 < length nodes → OnOk result (HasRoomAt (d + n) old new)
    → OnOk result (IsListed d nodes old → IsListedWithRoom d nodes new)
reserved d nodes n old new (Ok done) at some h = λ listed.
    subst (λ m. IsListing new d (d + m + 1) (is_unblocked_at d nodes)) at
    (h d (is_unblocked_at d nodes) (omega arith) (subst (λ m. IsListing old d (d + m) (is_unblocked_at d nodes)) (sym at) (listed some)))
reserved d nodes n old new (Err fault) at some h = tt

any_read : (nodes : List GraphNode) (i : ℕ) → i < length nodes → (x : GraphNode) × (x ≡ slice_index_or nodes i x)
any_read [] i lt = absurd (omega (lt, arith))
any_read (y ∷ nodes) zero lt = (y, refl)
any_read (y ∷ nodes) (suc i) lt = any_read nodes i (omega (lt, arith))

-- a node that is here may go where it goes
pub goes_as_told : (d : ℕ) (nodes : List GraphNode) (c : Chains) (m : ℕ) → IsSound d nodes c → d ≤ m → (m - d) < length nodes → may_go (points d nodes) m ≡ is_unblocked_at d nodes m
goes_as_told d nodes c m sound le lt =
    let x = any_read nodes (m - d) lt in
    may_go_kept d nodes c sound m x.0 le lt x.1 ∙ sym (goes_behind d m nodes le ∙ goes_in_at nodes (m - d) x.0 x.1 lt)

pub take_front : (xs ys : List GraphNode) → take (length xs) (xs ++ ys) ≡ xs
take_front [] ys = refl
take_front (x ∷ xs) ys = ap (λ zs. x ∷ zs) (take_front xs ys)

set_gone : (d n : ℕ) (ps : List Point) → n < d → slice_set (replicate d gone ++ ps) n gone ≡ replicate d gone ++ ps
set_gone zero n ps lt = absurd (omega (lt, arith))
set_gone (suc d) zero ps lt = refl
set_gone (suc d) (suc n) ps lt = ap (λ qs. gone ∷ qs) (set_gone d n ps (omega (lt, arith)))

-- a node that is gone is finished already
pub gone_marked : (d n : ℕ) (ps : List Point) → n < d → mark_at (replicate d gone ++ ps) n ≡ replicate d gone ++ ps
gone_marked d n ps lt = ap (λ (p : Point). slice_set (replicate d gone ++ ps) n (record p { finished = true })) (gone_at d n ps lt) ∙ set_gone d n ps lt

by_two : (f : ℕ → Bool) (from node more end m : ℕ) (before here : Bool) → ltb m node ≡ before → ltb m (node + 1) ≡ here → ((k : ℕ) → from ≤ k → k < node → k < end → f k ≡ false) → f node ≡ false
    → ((k : ℕ) → node + 1 ≤ k → k < node + 1 + more → k < end → f k ≡ false) → from ≤ m → m < node + 1 + more → m < end → f m ≡ false
by_two f from node more end m true here b h old new next lo hi e = old m lo (ltb-true m node b) e
by_two f from node more end m false true b h old new next lo hi e = let le = ltb-false m node b in let lt = ltb-true m (node + 1) h in let same : m ≡ node = omega (le, lt, arith) in ap f same ∙ new
by_two f from node more end m false false b h old new next lo hi e = next m (ltb-false m (node + 1) h) hi e

-- after one number that fails, and those after it
pub fails_on : (f : ℕ → Bool) (from node more end : ℕ) → ((k : ℕ) → from ≤ k → k < node → k < end → f k ≡ false) → f node ≡ false
    → ((k : ℕ) → node + 1 ≤ k → k < node + 1 + more → k < end → f k ≡ false) → (m : ℕ) → from ≤ m → m < node + 1 + more → m < end → f m ≡ false
fails_on f from node more end old new next m lo hi e = by_two f from node more end m (ltb m node) (ltb m (node + 1)) refl refl old new next lo hi e
