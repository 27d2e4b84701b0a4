-- Two transactions in two orders are found exactly where there are any.
use Rattle.std.proofs.Common.{◌≡◌, ℕ, zero, suc, ◌+◌, ◌≤◌, ◌<◌, nat_lt, Bool, true, false, cond, List, [], ◌∷◌, ◌++◌, length, length-append, Option, Some, None, ◌⊎◌, inl, inr, refl, sym, ap, subst, ◌∙◌, append_assoc, arith}
use Rattle.std.specs.Prelude.{find, option_map, slice_get, if◌then◌else◌}
use Rattle.std.specs.List.{position_from}
use Rattle.std.specs.FinSet as set
use Rattle.std.specs.Ordering.{eq_by_cmp}
use Rattle.std.proofs.lemmas.Bool.{or_parts}
use Rattle.std.proofs.lemmas.Bool.Decides.{nat_tests}
use Rattle.std.proofs.lemmas.Option.{same_Some, slice_get_within, slice_get-map}
use Rattle.lemmas.proofs.SameGtid.{gtid_total, same_is_equal, same_itself}
use Rattle.lemmas.proofs.Lists.{get_append_left, get_append_within}
use Rattle.gtid_text.specs.declared.Gtid.{Gtid}
use Rattle.gtid_text.specs.Gtids.{gtid_cmp, same_gtid}
use Rattle.gtid_set.specs.Sets.{Gtids}
use Rattle.gtid_set.proofs.SetLemmas.{gtid_tied}
use Rattle.journal.specs.declared.Entry.{Entry}
use Rattle.journal.specs.Journals.{JournalValue, AreNew}
use Rattle.world.specs.Meaning.{AreJournals}
use Rattle.world.specs.Search.{or_next}
use Rattle.txn_journal.specs.BundleStates.{BundleValue}
use Rattle.txn_journal.specs.declared.bundle.BundleChannel.{BundleChannel}
use Rattle.fault_places.specs.declared.orders.Inversion.{Inversion}
use Rattle.fault_places.specs.declared.orders.InvertedPair.{InvertedPair}
use Rattle.fault_places.specs.Channels.{entries_of}
use Rattle.fault_places.specs.Orders.{preserving, position_in, is_after, inversion_by, inversion_at, inversion_from, pair_from, inverted_with, first_inverted, inverted_pair}
use Rattle.fault_places.specs.TwoOrders.{gtids, Preserves, FindsTwoOrders, TwoOrdersAreFound}

-- ---- elements of lists

-- an element that is found is there, and passes
found_in : (t : Entry → Bool) (es : List Entry) (s : Entry) → find t es ≡ Some s → (i : ℕ) × (slice_get es i ≡ Some s) × (t s ≡ true)
found_in t [] s h = absurd cc
found_in t (e ∷ es) s h = by (t e) refl h (λ k. found_in t es s k)
  where
    by : (b : Bool) → t e ≡ b → cond b (Some e) (find t es) ≡ Some s → (find t es ≡ Some s → (i : ℕ) × (slice_get es i ≡ Some s) × (t s ≡ true))
        → (i : ℕ) × (slice_get (e ∷ es) i ≡ Some s) × (t s ≡ true)
    by true is k next = (0, k, sym (ap t (same_Some e s k)) ∙ is)
    by false is k next = let r = next k in (suc r.0, r.1, r.2)

-- where none is found, none passes
none_in : (t : Entry → Bool) (es : List Entry) (i : ℕ) (s : Entry) → find t es ≡ None → slice_get es i ≡ Some s → t s ≡ false
none_in t [] i s h at = absurd cc
none_in t (e ∷ es) i s h at = by (t e) refl h i at (λ k j there. none_in t es j s k there)
  where
    by : (b : Bool) → t e ≡ b → cond b (Some e) (find t es) ≡ None → (j : ℕ) → slice_get (e ∷ es) j ≡ Some s
        → (find t es ≡ None → (k : ℕ) → slice_get es k ≡ Some s → t s ≡ false) → t s ≡ false
    by true is k j there next = absurd cc
    by false is k zero there next = sym (ap t (same_Some e s there)) ∙ is
    by false is k (suc j) there next = next k j there

get_mid : {A : Type 0} (xs : List A) (y : A) (ys : List A) → slice_get (xs ++ y ∷ ys) (length xs) ≡ Some y
get_mid [] y ys = refl
get_mid (x ∷ xs) y ys = get_mid xs y ys

-- the GTID of an entry at a place, and the entry of a GTID at a place
gtid_at : (es : List Entry) (i : ℕ) (s : Entry) → slice_get es i ≡ Some s → slice_get (gtids es) i ≡ Some s.gtid
gtid_at es i s h = slice_get-map (λ (e : Entry). e.gtid) es i ∙ ap (option_map (λ (e : Entry). e.gtid)) h

entry_at : (es : List Entry) (i : ℕ) (g : Gtid) → slice_get (gtids es) i ≡ Some g → (s : Entry) × (slice_get es i ≡ Some s) × (s.gtid ≡ g)
entry_at [] i g h = absurd cc
entry_at (e ∷ es) zero g h = (e, refl, same_Some e.gtid g h)
entry_at (e ∷ es) (suc i) g h = entry_at es i g h

-- ---- places

found_at : (g : Gtid) (n : ℕ) (es : List Entry) (p : ℕ) → position_from (λ e. same_gtid g e.gtid) n es ≡ Some p → (k : ℕ) × (p ≡ n + k) × (slice_get (gtids es) k ≡ Some g)
found_at g n [] p h = absurd cc
found_at g n (e ∷ es) p h = by (same_gtid g e.gtid) refl h (λ k. found_at g (n + 1) es p k)
  where
    by : (b : Bool) → same_gtid g e.gtid ≡ b → cond b (Some n) (position_from (λ e. same_gtid g e.gtid) (n + 1) es) ≡ Some p
        → (position_from (λ e. same_gtid g e.gtid) (n + 1) es ≡ Some p → (k : ℕ) × (p ≡ (n + 1) + k) × (slice_get (gtids es) k ≡ Some g))
        → (k : ℕ) × (p ≡ n + k) × (slice_get (gtids (e ∷ es)) k ≡ Some g)
    by true is k next = let at : n ≡ p = same_Some n p k in (0, omega (arith, at), ap Some (sym (same_is_equal g e.gtid is)))
    by false is k next = let r = next k in (suc r.0, omega (arith, r.1), r.2)

-- a GTID that is there is new
new_apart : (seen : Gtids) (es : List Entry) (g : Gtid) (k : ℕ) → AreNew seen es → slice_get (gtids es) k ≡ Some g → set.contains seen g ≡ false
new_apart seen [] g k new h = absurd cc
new_apart seen (e ∷ es) g zero new h = ap (set.contains seen) (sym (same_Some e.gtid g h)) ∙ new.0
new_apart seen (e ∷ es) g (suc k) new h =
    (or_parts (eq_by_cmp gtid_cmp g e.gtid) (set.contains seen g)
    (sym (set.contains-insert gtid_total seen e.gtid g) ∙ new_apart (set.insert seen e.gtid) es g k new.1 h)).1

new_other : (seen : Gtids) (es : List Entry) (e : Entry) (g : Gtid) (k : ℕ) → AreNew (set.insert seen e.gtid) es → slice_get (gtids es) k ≡ Some g → same_gtid g e.gtid ≡ false
new_other seen es e g k new h =
    sym (gtid_tied g e.gtid)
    ∙ (or_parts (eq_by_cmp gtid_cmp g e.gtid) (set.contains seen g)
    (sym (set.contains-insert gtid_total seen e.gtid g) ∙ new_apart (set.insert seen e.gtid) es g k new h)).0

-- each GTID is found where it is
position_is : (seen : Gtids) (es : List Entry) (g : Gtid) (n k : ℕ) → AreNew seen es → slice_get (gtids es) k ≡ Some g → position_from (λ e. same_gtid g e.gtid) n es ≡ Some (n + k)
position_is seen [] g n k new h = absurd cc
position_is seen (e ∷ es) g n zero new h =
    let same : same_gtid g e.gtid ≡ true = ap (same_gtid g) (same_Some e.gtid g h) ∙ same_itself g in
    ap (λ b. cond b (Some n) (position_from (λ e. same_gtid g e.gtid) (n + 1) es)) same ∙ ap Some (let e : n ≡ n + 0 = omega arith in e)
position_is seen (e ∷ es) g n (suc k) new h =
    ap (λ b. cond b (Some n) (position_from (λ e. same_gtid g e.gtid) (n + 1) es)) (new_other seen es e g k new.1 h)
    ∙ position_is (set.insert seen e.gtid) es g (n + 1) k new.1 h
    ∙ ap Some (let e : (n + 1) + k ≡ n + suc k = omega arith in e)

-- what a place says
position_facts : (opened : Gtids) (es : List Entry) (g : Gtid) (p : ℕ) → position_in opened es g ≡ Some p → (set.contains opened g ≡ false) × (slice_get (gtids es) p ≡ Some g)
position_facts opened es g p h = by (set.contains opened g) refl h
  where
    by : (b : Bool) → set.contains opened g ≡ b → (if b then None else position_from (λ e. same_gtid g e.gtid) 0 es) ≡ Some p
        → (set.contains opened g ≡ false) × (slice_get (gtids es) p ≡ Some g)
    by true is k = absurd cc
    by false is k =
        let r = found_at g 0 es p k in
        let same : r.0 ≡ p = omega (arith, r.1) in
        (is, subst (λ (i : ℕ). slice_get (gtids es) i ≡ Some g) same r.2)

position_there : (opened seen : Gtids) (es : List Entry) (g : Gtid) (k : ℕ) → AreNew seen es → set.contains opened g ≡ false → slice_get (gtids es) k ≡ Some g → position_in opened es g ≡ Some k
position_there opened seen es g k new due h =
    ap (λ b. if b then None else position_from (λ e. same_gtid g e.gtid) 0 es) due
    ∙ position_is seen es g 0 k new h ∙ ap Some (let e : 0 + k ≡ k = omega arith in e)

-- ---- two transactions

-- of entries one of G stands before one of H, and the place of H is before that of G
record Inverts (place : Gtid → Option ℕ) (fs : List Entry) (g h : Gtid) : Type 0 where
  i : ℕ
  j : ℕ
  p : ℕ
  q : ℕ
  ordered : i < j
  first : slice_get (gtids fs) i ≡ Some g
  second : slice_get (gtids fs) j ≡ Some h
  here : place h ≡ Some p
  there : place g ≡ Some q
  behind : p < q

after_by : (p : ℕ) (o : Option ℕ) → is_after p o ≡ true → (q : ℕ) × (o ≡ Some q) × (p < q)
after_by p None h = absurd cc
after_by p (Some q) h = (q, refl, grind (arith, nat_tests, h))

is_after_at : (p q : ℕ) → p < q → is_after p (Some q) ≡ true
is_after_at p q h = grind (arith, nat_tests)

module _ (place : Gtid → Option ℕ) where
  pair_by : (p : ℕ) (seen : List Entry) (e : Entry) (es : List Entry) (c : Inversion) (f : Option Entry) → place e.gtid ≡ Some p
      → find (λ x. is_after p (place x.gtid)) seen ≡ f
      → option_map (λ (g : Gtid). record { earlier = g; later = e.gtid }) (option_map (λ (x : Entry). x.gtid) f) ≡ Some c → Inverts place (seen ++ e ∷ es) c.earlier c.later
  pair_by p seen e es c None at is h = absurd cc
  pair_by p seen e es c (Some s) at is h =
      let found = found_in (λ x. is_after p (place x.gtid)) seen s is in
      let later = after_by p (place s.gtid) found.2 in
      let same : record { earlier = s.gtid; later = e.gtid } ≡ c = same_Some _ c h in
      subst (λ (x : Inversion). Inverts place (seen ++ e ∷ es) x.earlier x.later) same
      (record {
        i = found.0;
        j = length seen;
        p = p;
        q = later.0;
        ordered = slice_get_within seen found.0 s found.1;
        first = gtid_at (seen ++ e ∷ es) found.0 s (get_append_left seen (e ∷ es) found.0 s found.1);
        second = gtid_at (seen ++ e ∷ es) (length seen) e (get_mid seen e es);
        here = at;
        there = later.1;
        behind = later.2;
      })

  here_by : (seen : List Entry) (e : Entry) (es : List Entry) (c : Inversion) (o : Option ℕ) → place e.gtid ≡ o → inversion_by place seen e o ≡ Some c → Inverts place (seen ++ e ∷ es) c.earlier c.later
  here_by seen e es c None at h = absurd cc
  here_by seen e es c (Some p) at h = pair_by p seen e es c (find (λ x. is_after p (place x.gtid)) seen) at refl h

  sound_by : (seen : List Entry) (e : Entry) (es : List Entry) (c : Inversion) (o rest : Option Inversion) → inversion_at place seen e ≡ o → (rest ≡ Some c → Inverts place (seen ++ e ∷ es) c.earlier c.later)
      → or_next o rest ≡ Some c → Inverts place (seen ++ e ∷ es) c.earlier c.later
  sound_by seen e es c None rest is next h = next h
  sound_by seen e es c (Some d) rest is next h = here_by seen e es c (place e.gtid) refl (is ∙ h)

  -- what is found crosses
  inversion_sound : (seen es : List Entry) (c : Inversion) → inversion_from place seen es ≡ Some c → Inverts place (seen ++ es) c.earlier c.later
  inversion_sound seen [] c h = absurd cc
  inversion_sound seen (e ∷ es) c h =
      sound_by seen e es c (inversion_at place seen e) (inversion_from place (seen ++ e ∷ []) es) refl
      (λ k. subst (λ (fs : List Entry). Inverts place fs c.earlier c.later) (append_assoc seen (e ∷ []) es) (inversion_sound (seen ++ e ∷ []) es c k)) h

  none_parts : (o rest : Option Inversion) → or_next o rest ≡ None → (o ≡ None) × (rest ≡ None)
  none_parts None rest h = (refl, h)
  none_parts (Some c) rest h = absurd cc

  map_none : {A B : Type 0} (f : A → B) (o : Option A) → option_map f o ≡ None → o ≡ None
  map_none f None h = refl
  map_none f (Some x) h = absurd cc

  -- where nothing crosses an entry, nothing before it is behind it
  none_here : (seen : List Entry) (e : Entry) (es : List Entry) (g : Gtid) (i p q : ℕ) → inversion_at place seen e ≡ None → place e.gtid ≡ Some p → i < length seen
      → slice_get (gtids (seen ++ e ∷ es)) i ≡ Some g → place g ≡ Some q → p < q → ⊥
  none_here seen e es g i p q none at within is there less =
      let s = entry_at (seen ++ e ∷ es) i g is in
      let stands : slice_get seen i ≡ Some s.0 = get_append_within seen (e ∷ es) i s.0 within s.1 in
      let empty : inversion_by place seen e (Some p) ≡ None = sym (ap (inversion_by place seen e) at) ∙ none in
      let unfound : find (λ x. is_after p (place x.gtid)) seen ≡ None = map_none (λ (x : Entry). x.gtid) _ (map_none (λ (g : Gtid). record { earlier = g; later = e.gtid }) _ empty) in
      let off : is_after p (place s.0.gtid) ≡ false = none_in (λ x. is_after p (place x.gtid)) seen i s.0 unfound stands in
      let on : is_after p (place s.0.gtid) ≡ true = ap (λ x. is_after p (place x)) s.2 ∙ ap (is_after p) there ∙ is_after_at p q less in
      cc

  split_at : (n j : ℕ) → n ≤ j → (j ≡ n) ⊎ (n + 1 ≤ j)
  split_at n j h = by (nat_lt n j) refl
    where
      by : (b : Bool) → nat_lt n j ≡ b → (j ≡ n) ⊎ (n + 1 ≤ j)
      by true is = inr (grind (arith, nat_tests, is))
      by false is = inl (grind (arith, nat_tests, is, h))

  complete_by : (seen : List Entry) (e : Entry) (es : List Entry) (g h : Gtid) → inversion_at place seen e ≡ None
      → ((r : Inverts place (seen ++ e ∷ es) g h) → length seen + 1 ≤ r.j → ⊥)
      → (r : Inverts place (seen ++ e ∷ es) g h) → (r.j ≡ length seen) ⊎ (length seen + 1 ≤ r.j) → ⊥
  complete_by seen e es g h none next r (inr above) = next r above
  complete_by seen e es g h none next r (inl at) =
      let second : slice_get (gtids (seen ++ e ∷ es)) (length seen) ≡ Some h = subst (λ (k : ℕ). slice_get (gtids (seen ++ e ∷ es)) k ≡ Some h) at r.second in
      let same : e.gtid ≡ h = same_Some e.gtid h (sym (gtid_at (seen ++ e ∷ es) (length seen) e (get_mid seen e es)) ∙ second) in
      none_here seen e es g r.i r.p r.q none (ap place same ∙ r.here) (omega (arith, r.ordered, at)) r.first r.there r.behind

  -- where nothing is found, nothing crosses
  no_inversion : (seen es : List Entry) (g h : Gtid) → inversion_from place seen es ≡ None → (r : Inverts place (seen ++ es) g h) → length seen ≤ r.j → ⊥
  no_inversion seen [] g h none r long =
      let s = entry_at (seen ++ []) r.j h r.second in
      let within = slice_get_within (seen ++ []) r.j s.0 s.1 in
      omega (arith, long, within, length-append {A = Entry})
  no_inversion seen (e ∷ es) g h none r long =
      let parts = none_parts (inversion_at place seen e) (inversion_from place (seen ++ e ∷ []) es) none in
      complete_by seen e es g h parts.0
      (λ s above. no_inversion (seen ++ e ∷ []) es g h parts.1
      (record {
        i = s.i;
        j = s.j;
        p = s.p;
        q = s.q;
        ordered = s.ordered;
        first = subst (λ (fs : List Entry). slice_get (gtids fs) s.i ≡ Some g) (sym (append_assoc seen (e ∷ []) es)) s.first;
        second = subst (λ (fs : List Entry). slice_get (gtids fs) s.j ≡ Some h) (sym (append_assoc seen (e ∷ []) es)) s.second;
        here = s.here;
        there = s.there;
        behind = s.behind;
      })
      (simp length-append (omega (arith, above))))
      r (split_at (length seen) r.j long)

-- ---- channels

-- channel m is one of these, of which the first has number n, and keeps commit order
record Keeps (n : ℕ) (cs : List BundleChannel) (m : ℕ) : Type 0 where
  k : ℕ
  at : m ≡ n + k
  keeps : option_map (λ (c : BundleChannel). c.preserve) (slice_get cs k) ≡ Some true

keeps_more : (n : ℕ) (d : BundleChannel) (cs : List BundleChannel) (m : ℕ) → Keeps (n + 1) cs m → Keeps n (d ∷ cs) m
keeps_more n d cs m r = record { k = suc r.k; at = omega (arith, r.at); keeps = r.keeps }

keeps_first : (n : ℕ) (d : BundleChannel) (cs : List BundleChannel) → d.preserve ≡ true → Keeps n (d ∷ cs) n
keeps_first n d cs h = record { k = 0; at = (let e : n ≡ n + 0 = omega arith in e); keeps = ap Some h }

keeps_by : (n : ℕ) (d : BundleChannel) (cs : List BundleChannel) (m k : ℕ) → m ≡ n + k → option_map (λ (c : BundleChannel). c.preserve) (slice_get (d ∷ cs) k) ≡ Some true
    → ((m ≡ n) × (d.preserve ≡ true)) ⊎ Keeps (n + 1) cs m
keeps_by n d cs m zero at keeps = inl (let e : m ≡ n = omega (arith, at) in e, same_Some d.preserve true keeps)
keeps_by n d cs m (suc k) at keeps = inr (record { k = k; at = omega (arith, at); keeps = keeps })

keeps_cases : (n : ℕ) (d : BundleChannel) (cs : List BundleChannel) (m : ℕ) → Keeps n (d ∷ cs) m → ((m ≡ n) × (d.preserve ≡ true)) ⊎ Keeps (n + 1) cs m
keeps_cases n d cs m r = keeps_by n d cs m r.k r.at r.keeps

keeps_none : (n m : ℕ) → Keeps n [] m → ⊥
keeps_none n m r = let h = r.keeps in cc

keeps_above : (n : ℕ) (cs : List BundleChannel) (m : ℕ) → Keeps n cs m → n ≤ m
keeps_above n cs m r = omega (arith, r.at)

no_pair : (o rest : Option InvertedPair) → or_next o rest ≡ None → (o ≡ None) × (rest ≡ None)
no_pair None rest h = (refl, h)
no_pair (Some c) rest h = absurd cc

no_inversion_by : (m n : ℕ) (o : Option Inversion) → pair_from m n o ≡ None → o ≡ None
no_inversion_by m n None h = refl
no_inversion_by m n (Some c) h = absurd cc

module _ (place : Gtid → Option ℕ) (js : List JournalValue) (m : ℕ) where
  -- the second channel of two, and what was found
  record Second (n : ℕ) (cs : List BundleChannel) (c : InvertedPair) : Type 0 where
    same : c.first ≡ m
    keeps : Keeps n cs c.second
    found : inversion_from place [] (entries_of js c.second) ≡ Some c.inversion

  second_more : (n : ℕ) (d : BundleChannel) (cs : List BundleChannel) (c : InvertedPair) → Second (n + 1) cs c → Second n (d ∷ cs) c
  second_more n d cs c r = record { same = r.same; keeps = keeps_more n d cs c.second r.keeps; found = r.found }

  second_by : (n : ℕ) (d : BundleChannel) (cs : List BundleChannel) (c : InvertedPair) (o : Option Inversion) (rest : Option InvertedPair) → d.preserve ≡ true
      → inversion_from place [] (entries_of js n) ≡ o → (rest ≡ Some c → Second n (d ∷ cs) c) → or_next (pair_from m n o) rest ≡ Some c → Second n (d ∷ cs) c
  second_by n d cs c None rest keeps is next h = next h
  second_by n d cs c (Some x) rest keeps is next h =
      let same : record { first = m; second = n; inversion = x } ≡ c = same_Some _ c h in
      subst (λ (y : InvertedPair). Second n (d ∷ cs) y) same (record { same = refl; keeps = keeps_first n d cs keeps; found = is })

  with_sound : (n : ℕ) (cs : List BundleChannel) (c : InvertedPair) → inverted_with place js m (preserving n cs) ≡ Some c → Second n cs c
  with_sound n [] c h = absurd cc
  with_sound n (d ∷ cs) c h = by d.preserve refl (λ k. second_more n d cs c (with_sound (n + 1) cs c k)) h
    where
      by : (b : Bool) → d.preserve ≡ b → (inverted_with place js m (preserving (n + 1) cs) ≡ Some c → Second n (d ∷ cs) c)
          → inverted_with place js m (if b then n ∷ preserving (n + 1) cs else preserving (n + 1) cs) ≡ Some c → Second n (d ∷ cs) c
      by false is next k = next k
      by true is next k = second_by n d cs c (inversion_from place [] (entries_of js n)) (inverted_with place js m (preserving (n + 1) cs)) is refl next k

  with_none : (n : ℕ) (cs : List BundleChannel) (k : ℕ) → inverted_with place js m (preserving n cs) ≡ None → Keeps n cs k → inversion_from place [] (entries_of js k) ≡ None
  with_none n [] k h r = absurd (keeps_none n k r)
  with_none n (d ∷ cs) k h r = by d.preserve refl (λ e s. with_none (n + 1) cs k e s) h (keeps_cases n d cs k r)
    where
      by : (b : Bool) → d.preserve ≡ b → (inverted_with place js m (preserving (n + 1) cs) ≡ None → Keeps (n + 1) cs k → inversion_from place [] (entries_of js k) ≡ None)
          → inverted_with place js m (if b then n ∷ preserving (n + 1) cs else preserving (n + 1) cs) ≡ None → ((k ≡ n) × (d.preserve ≡ true)) ⊎ Keeps (n + 1) cs k
          → inversion_from place [] (entries_of js k) ≡ None
      by false is next e (inl at) = absurd (let f = sym is ∙ at.1 in cc)
      by false is next e (inr s) = next e s
      by true is next e (inl at) = ap (λ x. inversion_from place [] (entries_of js x)) at.0 ∙ no_inversion_by m n _ (no_pair _ _ e).0
      by true is next e (inr s) = next (no_pair (pair_from m n (inversion_from place [] (entries_of js n))) _ e).1 s

module _ (opened : Gtids) (js : List JournalValue) where
  -- two channels, and what was found
  record Both (n : ℕ) (cs : List BundleChannel) (c : InvertedPair) : Type 0 where
    ordered : c.first < c.second
    first : Keeps n cs c.first
    second : Keeps n cs c.second
    found : inversion_from (position_in opened (entries_of js c.first)) [] (entries_of js c.second) ≡ Some c.inversion

  both_more : (n : ℕ) (d : BundleChannel) (cs : List BundleChannel) (c : InvertedPair) → Both (n + 1) cs c → Both n (d ∷ cs) c
  both_more n d cs c r = record { ordered = r.ordered; first = keeps_more n d cs c.first r.first; second = keeps_more n d cs c.second r.second; found = r.found }

  both_by : (n : ℕ) (d : BundleChannel) (cs : List BundleChannel) (c : InvertedPair) (o rest : Option InvertedPair) → d.preserve ≡ true
      → inverted_with (position_in opened (entries_of js n)) js n (preserving (n + 1) cs) ≡ o → (rest ≡ Some c → Both n (d ∷ cs) c) → or_next o rest ≡ Some c → Both n (d ∷ cs) c
  both_by n d cs c None rest keeps is next h = next h
  both_by n d cs c (Some x) rest keeps is next h =
      let r = with_sound (position_in opened (entries_of js n)) js n (n + 1) cs c (is ∙ h) in
      record {
        ordered = omega (arith, r.same, keeps_above (n + 1) cs c.second r.keeps);
        first = subst (λ (k : ℕ). Keeps n (d ∷ cs) k) (sym r.same) (keeps_first n d cs keeps);
        second = keeps_more n d cs c.second r.keeps;
        found = ap (λ k. inversion_from (position_in opened (entries_of js k)) [] (entries_of js c.second)) r.same ∙ r.found;
      }

  all_sound : (n : ℕ) (cs : List BundleChannel) (c : InvertedPair) → first_inverted opened js (preserving n cs) ≡ Some c → Both n cs c
  all_sound n [] c h = absurd cc
  all_sound n (d ∷ cs) c h = by d.preserve refl (λ k. both_more n d cs c (all_sound (n + 1) cs c k)) h
    where
      by : (b : Bool) → d.preserve ≡ b → (first_inverted opened js (preserving (n + 1) cs) ≡ Some c → Both n (d ∷ cs) c)
          → first_inverted opened js (if b then n ∷ preserving (n + 1) cs else preserving (n + 1) cs) ≡ Some c → Both n (d ∷ cs) c
      by false is next k = next k
      by true is next k = both_by n d cs c (inverted_with (position_in opened (entries_of js n)) js n (preserving (n + 1) cs)) (first_inverted opened js (preserving (n + 1) cs)) is refl next k

  all_none : (n : ℕ) (cs : List BundleChannel) (m k : ℕ) → first_inverted opened js (preserving n cs) ≡ None → m < k → Keeps n cs m → Keeps n cs k
      → inversion_from (position_in opened (entries_of js m)) [] (entries_of js k) ≡ None
  all_none n [] m k h less r s = absurd (keeps_none n m r)
  all_none n (d ∷ cs) m k h less r s = by d.preserve refl (λ e x y. all_none (n + 1) cs m k e less x y) h (keeps_cases n d cs m r) (keeps_cases n d cs k s)
    where
      by : (b : Bool) → d.preserve ≡ b
          → (first_inverted opened js (preserving (n + 1) cs) ≡ None → Keeps (n + 1) cs m → Keeps (n + 1) cs k → inversion_from (position_in opened (entries_of js m)) [] (entries_of js k) ≡ None)
          → first_inverted opened js (if b then n ∷ preserving (n + 1) cs else preserving (n + 1) cs) ≡ None → ((m ≡ n) × (d.preserve ≡ true)) ⊎ Keeps (n + 1) cs m
          → ((k ≡ n) × (d.preserve ≡ true)) ⊎ Keeps (n + 1) cs k → inversion_from (position_in opened (entries_of js m)) [] (entries_of js k) ≡ None
      by false is next e (inl at) there = absurd (let f = sym is ∙ at.1 in cc)
      by false is next e (inr x) (inl at) = absurd (let f = sym is ∙ at.1 in cc)
      by false is next e (inr x) (inr y) = next e x y
      by true is next e (inl at) (inl too) = absurd (omega (arith, at.0, too.0, less))
      by true is next e (inl at) (inr y) =
          ap (λ x. inversion_from (position_in opened (entries_of js x)) [] (entries_of js k)) at.0
          ∙ with_none (position_in opened (entries_of js n)) js n (n + 1) cs k (no_pair _ (first_inverted opened js (preserving (n + 1) cs)) e).0 y
      by true is next e (inr x) (inl too) = absurd (omega (arith, too.0, less, keeps_above (n + 1) cs m x))
      by true is next e (inr x) (inr y) = next (no_pair (inverted_with (position_in opened (entries_of js n)) js n (preserving (n + 1) cs)) _ e).1 x y

-- ---- bundles

-- the GTIDs of a journal are new, one after another
entries_new : (js : List JournalValue) (n : ℕ) → AreJournals js → (seen : Gtids) × AreNew seen (entries_of js n)
entries_new [] n h = (set.empty, tt)
entries_new (j ∷ js) zero h = (j.previous, h.0.new)
entries_new (j ∷ js) (suc n) h = entries_new js n h.1

preserves_from : (cs : List BundleChannel) (m : ℕ) → Keeps 0 cs m → Preserves cs m
preserves_from cs m r =
    let same : r.k ≡ m = omega (arith, r.at) in
    subst (λ (k : ℕ). Preserves cs k) same r.keeps

keeps_from : (cs : List BundleChannel) (m : ℕ) → Preserves cs m → Keeps 0 cs m
keeps_from cs m h = record { k = m; at = omega arith; keeps = h }

finds_by : (b : BundleValue) (o : Option InvertedPair) → AreJournals b.journals → inverted_pair b ≡ o → FindsTwoOrders b o
finds_by b (Some c) journals is =
    let r = all_sound b.opened b.journals 0 b.channels c is in
    let place = position_in b.opened (entries_of b.journals c.first) in
    let x = inversion_sound place [] (entries_of b.journals c.second) c.inversion r.found in
    let g = position_facts b.opened (entries_of b.journals c.first) c.inversion.earlier x.q x.there in
    let h = position_facts b.opened (entries_of b.journals c.first) c.inversion.later x.p x.here in
    record {
      ordered = r.ordered;
      first = preserves_from b.channels c.first r.first;
      second = preserves_from b.channels c.second r.second;
      here = record { place = x.i; later = x.j; ordered = x.ordered; first = x.first; second = x.second; first_due = g.0; second_due = h.0 };
      there = record { place = x.p; later = x.q; ordered = x.behind; first = h.1; second = g.1; first_due = h.0; second_due = g.0 };
    }
finds_by b None journals is = λ m n g h two.
    let place = position_in b.opened (entries_of b.journals m) in
    let new = entries_new b.journals m journals in
    let none = all_none b.opened b.journals 0 b.channels m n is two.ordered (keeps_from b.channels m two.first) (keeps_from b.channels n two.second) in
    no_inversion place [] (entries_of b.journals n) g h none
    (record {
      i = two.here.place;
      j = two.here.later;
      p = two.there.place;
      q = two.there.later;
      ordered = two.here.ordered;
      first = two.here.first;
      second = two.here.second;
      here = position_there b.opened new.0 (entries_of b.journals m) h two.there.place new.1 two.there.first_due two.there.first;
      there = position_there b.opened new.0 (entries_of b.journals m) g two.there.later new.1 two.there.second_due two.there.second;
      behind = two.there.ordered;
    })
    (omega arith)

pub two_orders_are_found : TwoOrdersAreFound
two_orders_are_found b journals = finds_by b (inverted_pair b) journals refl
