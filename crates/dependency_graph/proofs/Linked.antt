-- The links of a chain while edges change elsewhere, at its end and at its head.
use Rattle.std.proofs.Common.{◌≡◌, ℕ, ◌+◌, ◌<◌, Bool, true, false, cond, List, [], ◌∷◌, ◌++◌, map, Option, Some, None, refl, sym, ap, subst, ◌∙◌, arith, nat_eq, eq-eqb, ne_eqb, is_some}
use Rattle.std.specs.Option.{option_map, option_map_or, option_and_then}
use Rattle.std.specs.List.{AllByRecursion}
use Rattle.std.proofs.lemmas.List.{map-append}
use Rattle.lemmas.proofs.Lists.{all_push}
use Rattle.rows.specs.declared.change.Key.{Key}
use Rattle.rows.specs.Order.{key_eq}
use Rattle.rows.specs.Total.{key_eq_same, key_eq_self}
use Rattle.dependency_graph.specs.Chains.{Link, number_of, head_of, last_of, ends_of, IsLinked, IsAscending, ends_at, edge_at, Holds, with_chain, first_number, first_of, first_or, IsSame, HasLast, Pushes, Pops, PopsFirst}
use Rattle.slab.specs.Slab as slots
use Rattle.dependency_graph.specs.declared.chains.Chains.{Chains}
use Rattle.dependency_graph.specs.declared.chains.Edge.{Edge}
use Rattle.dependency_graph.specs.declared.chains.Ends.{Ends}

-- edges changed elsewhere
linked_elsewhere : (es new : ℕ → Option Edge) (ls : List Link) → AllByRecursion (λ (l : Link). new l.at ≡ es l.at) ls → IsLinked es ls → IsLinked new ls
linked_elsewhere es new [] same h = tt
linked_elsewhere es new (l ∷ ls) same h = (same.0 ∙ h.0, linked_elsewhere es new ls same.1 h.1)

all_of : {X : Type 0} (P : X → Type 0) (xs : List X) → ((x : X) → P x) → AllByRecursion P xs
all_of P [] h = tt
all_of P (x ∷ xs) h = (h x, all_of P xs h)

pub all_both : {X : Type 0} (P Q R : X → Type 0) (xs : List X) → ((x : X) → P x → Q x → R x) → AllByRecursion P xs → AllByRecursion Q xs → AllByRecursion R xs
all_both P Q R [] f h g = tt
all_both P Q R (x ∷ xs) f h g = (f x h.0 g.0, all_both P Q R xs f h.1 g.1)

-- the edges of these links differ from that one
abbrev pub IsOff : ℕ → List Link → Type 0
IsOff j ls = AllByRecursion (λ (l : Link). l.at ≡ j → ⊥) ls

abbrev pub IsApart : List Link → Type 0
IsApart [] = Unit {0}
IsApart (l ∷ ls) = IsOff l.at ls × IsApart ls

node_in : Option Edge → ℕ
node_in o = option_map_or (λ (e : Edge). e.node) o 0

some_here : (e : Edge) → None ≡ Some e → ⊥
some_here e h = cc

off_later : (es : ℕ → Option Edge) (l : Link) (e : Edge) → e.node ≡ l.node → es l.at ≡ Some e → (ls : List Link) → AllByRecursion (λ n. l.node < n) (map number_of ls) → IsLinked es ls → IsOff l.at ls
off_later es l e n h [] less linked = tt
off_later es l e n h (m ∷ ms) less linked = (
  (λ same.
      let both : Some e ≡ Some (record { node = m.node; after = head_of ms }) = sym h ∙ ap es (sym same) ∙ linked.0 in
      let nodes : e.node ≡ m.node = ap (λ o. option_map_or (λ (x : Edge). x.node) o 0) both in
      omega (arith, less.0, nodes, n)),
  off_later es l e n h ms less.1 linked.1,
)

apart_is : (es : ℕ → Option Edge) (ls : List Link) → IsAscending (map number_of ls) → IsLinked es ls → IsApart ls
apart_is es [] rising linked = tt
apart_is es (l ∷ ls) rising linked = (off_later es l (record { node = l.node; after = head_of ls }) refl linked.0 ls rising.0 linked.1, apart_is es ls rising.1 linked.1)

last_off : (j : ℕ) (l : Link) (ls : List Link) → IsOff j (l ∷ ls) → last_of l ls ≡ j → ⊥
last_off j l [] off e = off.0 e
last_off j l (m ∷ ms) off e = last_off j m ms off.1 e

-- one more link at the end
linked_push : (es new : ℕ → Option Edge) (l : Link) (ls : List Link) (x : Link)
    → new x.at ≡ Some (record { node = x.node; after = None })
    → ((edge : Edge) → es (last_of l ls) ≡ Some edge → new (last_of l ls) ≡ Some (record edge { after = Some x.at }))
    → AllByRecursion (λ (m : Link). (last_of l ls ≡ m.at → ⊥) → new m.at ≡ es m.at) (l ∷ ls)
    → IsApart (l ∷ ls) → IsLinked es (l ∷ ls) → IsLinked new (l ∷ ls ++ x ∷ [])
linked_push es new l [] x here link same apart h = (link (record { node = l.node; after = None }) h.0, (here, tt))
linked_push es new l (m ∷ ms) x here link same apart h =
    (same.0 (last_off l.at m ms apart.0) ∙ h.0, linked_push es new m ms x here link same.1 apart.1 h.1)

last_push : (l : Link) (ls : List Link) (x : Link) → last_of l (ls ++ x ∷ []) ≡ x.at
last_push l [] x = refl
last_push l (m ∷ ms) x = last_push m ms x

pub rising_push : (ns : List ℕ) (n : ℕ) → AllByRecursion (λ m. m < n) ns → IsAscending ns → IsAscending (ns ++ n ∷ [])
rising_push [] n less h = (tt, tt)
rising_push (m ∷ ms) n less h = (all_push (λ k. m < k) ms n h.0 less.0, rising_push ms n less.1 h.1)

-- ---- one more node
pushed_ends : (ls : List Link) (o : Option Ends) (at node : ℕ) → o ≡ ends_of ls → Some (record { first = first_or at o; last = at }) ≡ ends_of (ls ++ (record { at = at; node = node }) ∷ [])
pushed_ends [] o at node h = ap (λ (p : Option Ends). Some (record { first = first_or at p; last = at })) h
pushed_ends (l ∷ ls) o at node h =
    ap (λ (p : Option Ends). Some (record { first = first_or at p; last = at })) h
    ∙ ap (λ last. Some (record { first = l.at; last = last })) (sym (last_push l ls (record { at = at; node = node })))

-- linked edges are none of the free ones
taken_off : (es : ℕ → Option Edge) (at : ℕ) (ls : List Link) → es at ≡ None → IsLinked es ls → IsOff at ls
taken_off es at [] free h = tt
taken_off es at (l ∷ ls) free h =
    ((λ e. some_here (record { node = l.node; after = head_of ls }) (sym free ∙ ap es (sym e) ∙ h.0)), taken_off es at ls free h.1)

last_owned : (owner : ℕ → Key) (key : Key) (l : Link) (ls : List Link) → AllByRecursion (λ (m : Link). owner m.at ≡ key) (l ∷ ls) → owner (last_of l ls) ≡ key
last_owned owner key l [] h = h.0
last_owned owner key l (m ∷ ms) h = last_owned owner key m ms h.1

end_owned : (owner : ℕ → Key) (key : Key) (ls : List Link) (e : Ends) → AllByRecursion (λ (m : Link). owner m.at ≡ key) ls → ends_of ls ≡ Some e → owner e.last ≡ key
end_owned owner key [] e h is = cc
end_owned owner key (l ∷ ls) e h is = ap owner (ap (λ (o : Option Ends). option_map_or (λ (x : Ends). x.last) o e.last) (sym is)) ∙ last_owned owner key l ls h

first_owned : (owner : ℕ → Key) (key : Key) (ls : List Link) (e : Ends) → AllByRecursion (λ (m : Link). owner m.at ≡ key) ls → ends_of ls ≡ Some e → owner e.first ≡ key
first_owned owner key [] e h is = cc
first_owned owner key (l ∷ ls) e h is = ap owner (ap (λ (o : Option Ends). option_map_or (λ (x : Ends). x.first) o e.first) (sym is)) ∙ h.0

other_key : (k key : Key) → key_eq k key ≡ false → k ≡ key → ⊥
other_key k key h same = let yes_it : key_eq k key ≡ true = ap (key_eq k) (sym same) ∙ key_eq_self k in cc

pushed_linked : (es new : ℕ → Option Edge) (ls : List Link) (x : Link)
    → new x.at ≡ Some (record { node = x.node; after = None })
    → ((e : Ends) (edge : Edge) → ends_of ls ≡ Some e → es e.last ≡ Some edge → new e.last ≡ Some (record edge { after = Some x.at }))
    → ((j : ℕ) → (j ≡ x.at → ⊥) → ((e : Ends) → ends_of ls ≡ Some e → e.last ≡ j → ⊥) → new j ≡ es j)
    → es x.at ≡ None → IsApart ls → IsLinked es ls → IsLinked new (ls ++ x ∷ [])
pushed_linked es new [] x here link same free apart h = (here, tt)
pushed_linked es new (l ∷ ls) x here link same free apart h =
    linked_push es new l ls x here (λ edge is. link (record { first = l.at; last = last_of l ls }) edge refl is)
    (all_both (λ (m : Link). m.at ≡ x.at → ⊥) (λ (m : Link). m.at ≡ x.at → ⊥) (λ (m : Link). (last_of l ls ≡ m.at → ⊥) → new m.at ≡ es m.at) (l ∷ ls)
    (λ m off again far. same m.at off (λ e is. λ at. far (ap (λ (o : Option Ends). option_map_or (λ (y : Ends). y.last) o e.last) is ∙ at)))
    (taken_off es x.at (l ∷ ls) free h) (taken_off es x.at (l ∷ ls) free h))
    apart h

module _ (old new : Chains) (key : Key) (node : ℕ) (nodes : Key → List ℕ) (p : Pushes old new key node) (h : Holds old nodes) (less : AllByRecursion (λ n. n < node) (nodes key)) where
  more : List Link
  more = h.lists key ++ (record { at = p.at; node = node }) ∷ []

  owner_now : ℕ → Key
  owner_now j = cond (nat_eq j p.at) key (h.owner j)

  kept_owner : (j : ℕ) → (j ≡ p.at → ⊥) → owner_now j ≡ h.owner j
  unfolding owner_now
  kept_owner j off = ap (λ b. cond b key (h.owner j)) (ne_eqb j p.at off)

  owned_still : (k : Key) → AllByRecursion (λ (l : Link). owner_now l.at ≡ k) (h.lists k)
  owned_still k =
      all_both (λ (l : Link). l.at ≡ p.at → ⊥) (λ (l : Link). h.owner l.at ≡ k) (λ (l : Link). owner_now l.at ≡ k) (h.lists k)
      (λ l off is. kept_owner l.at off ∙ is) (taken_off (edge_at old) p.at (h.lists k) p.fresh (h.whole.linked k)) (h.whole.owned k)

  ends_push : (k : Key) (b : Bool) → key_eq k key ≡ b → cond b (Some (record { first = first_or p.at (ends_at old key); last = p.at })) (ends_at old k) ≡ ends_of (cond b more (h.lists k))
  unfolding more
  ends_push k true e = pushed_ends (h.lists key) (ends_at old key) p.at node (h.whole.ends key)
  ends_push k false e = h.whole.ends k

  linked_now : (k : Key) (b : Bool) → key_eq k key ≡ b → IsLinked (edge_at new) (cond b more (h.lists k))
  unfolding more
  linked_now k true e =
      pushed_linked (edge_at old) (edge_at new) (h.lists key) (record { at = p.at; node = node }) p.here
      (λ x edge is. p.link x edge (h.whole.ends key ∙ is))
      (λ j off far. p.same j off (λ x is. far x (sym (h.whole.ends key) ∙ is)))
      p.fresh (apart_is (edge_at old) (h.lists key) (h.whole.rising key) (h.whole.linked key)) (h.whole.linked key)
  linked_now k false e =
      linked_elsewhere (edge_at old) (edge_at new) (h.lists k)
      (all_both (λ (l : Link). l.at ≡ p.at → ⊥) (λ (l : Link). h.owner l.at ≡ k) (λ (l : Link). edge_at new l.at ≡ edge_at old l.at) (h.lists k)
      (λ l off is. p.same l.at off (λ x ends at. other_key k key e (sym is ∙ ap h.owner (sym at) ∙ end_owned h.owner key (h.lists key) x (h.whole.owned key) (sym (h.whole.ends key) ∙ ends))))
      (taken_off (edge_at old) p.at (h.lists k) p.fresh (h.whole.linked k)) (h.whole.owned k))
      (h.whole.linked k)

  numbers_now : (k : Key) (b : Bool) → key_eq k key ≡ b → map number_of (cond b more (h.lists k)) ≡ cond b (nodes key ++ node ∷ []) (nodes k)
  unfolding more
  numbers_now k true e = map-append number_of (h.lists key) ((record { at = p.at; node = node }) ∷ []) ∙ ap (λ ns. ns ++ node ∷ []) (h.numbers key)
  numbers_now k false e = h.numbers k

  rising_now : (k : Key) (b : Bool) → key_eq k key ≡ b → IsAscending (map number_of (cond b more (h.lists k)))
  unfolding more
  rising_now k true e =
      subst IsAscending (sym (map-append number_of (h.lists key) ((record { at = p.at; node = node }) ∷ [])))
      (rising_push (map number_of (h.lists key)) node (subst (λ ns. AllByRecursion (λ n. n < node) ns) (sym (h.numbers key)) less) (h.whole.rising key))
  rising_now k false e = h.whole.rising k

  owned_now : (k : Key) (b : Bool) → key_eq k key ≡ b → AllByRecursion (λ (l : Link). owner_now l.at ≡ k) (cond b more (h.lists k))
  unfolding more owner_now
  owned_now k true e =
      let same : key ≡ k = sym (key_eq_same k key e) in
      all_push (λ (l : Link). owner_now l.at ≡ k) (h.lists key) (record { at = p.at; node = node })
      (all_both (λ (l : Link). owner_now l.at ≡ key) (λ (l : Link). owner_now l.at ≡ key) (λ (l : Link). owner_now l.at ≡ k) (h.lists key) (λ l is again. is ∙ same) (owned_still key) (owned_still key))
      (ap (λ b. cond b key (h.owner p.at)) (eq-eqb p.at p.at refl) ∙ same)
  owned_now k false e = owned_still k

  pub push_holds : Holds new (with_chain nodes key (nodes key ++ node ∷ []))
  push_holds = record {
    lists = with_chain h.lists key more;
    owner = owner_now;
    whole = record {
      ends = λ k. p.ends k ∙ ends_push k (key_eq k key) refl;
      linked = λ k. linked_now k (key_eq k key) refl;
      rising = λ k. rising_now k (key_eq k key) refl;
      owned = λ k. owned_now k (key_eq k key) refl;
    };
    numbers = λ k. numbers_now k (key_eq k key) refl;
  }

-- ---- one node less
module _ (old new : Chains) (key : Key) (nodes : Key → List ℕ) (h : Holds old nodes) (l : Link) (ls : List Link) (lists_is : h.lists key ≡ l ∷ ls)
    (p : Pops old new key (record { first = l.at; last = last_of l ls }) (record { node = l.node; after = head_of ls })) where
  whole_key : IsLinked (edge_at old) (l ∷ ls)
  whole_key = subst (IsLinked (edge_at old)) lists_is (h.whole.linked key)

  rising_key : IsAscending (map number_of (l ∷ ls))
  rising_key = subst (λ xs. IsAscending (map number_of xs)) lists_is (h.whole.rising key)

  owned_key : AllByRecursion (λ (m : Link). h.owner m.at ≡ key) (l ∷ ls)
  owned_key = subst (λ xs. AllByRecursion (λ (m : Link). h.owner m.at ≡ key) xs) lists_is (h.whole.owned key)

  popped_ends : (xs : List Link) → option_map (λ first. record { first = first; last = last_of l xs }) (head_of xs) ≡ ends_of xs
  popped_ends [] = refl
  popped_ends (x ∷ xs) = refl

  ends_pop : (k : Key) (b : Bool) → key_eq k key ≡ b → cond b (option_map (λ first. record { first = first; last = last_of l ls }) (head_of ls)) (ends_at old k) ≡ ends_of (cond b ls (h.lists k))
  ends_pop k true e = popped_ends ls
  ends_pop k false e = h.whole.ends k

  linked_pop : (k : Key) (b : Bool) → key_eq k key ≡ b → IsLinked (edge_at new) (cond b ls (h.lists k))
  linked_pop k true e =
      linked_elsewhere (edge_at old) (edge_at new) ls
      (all_both (λ (m : Link). m.at ≡ l.at → ⊥) (λ (m : Link). m.at ≡ l.at → ⊥) (λ (m : Link). edge_at new m.at ≡ edge_at old m.at) ls (λ m off again. p.same m.at off)
      (apart_is (edge_at old) (l ∷ ls) rising_key whole_key).0 (apart_is (edge_at old) (l ∷ ls) rising_key whole_key).0)
      whole_key.1
  linked_pop k false e =
      linked_elsewhere (edge_at old) (edge_at new) (h.lists k)
      (all_both (λ (m : Link). h.owner m.at ≡ k) (λ (m : Link). h.owner m.at ≡ k) (λ (m : Link). edge_at new m.at ≡ edge_at old m.at) (h.lists k)
      (λ m is again. p.same m.at (λ at. other_key k key e (sym is ∙ ap h.owner at ∙ owned_key.0)))
      (h.whole.owned k) (h.whole.owned k))
      (h.whole.linked k)

  rising_pop : (k : Key) (b : Bool) → IsAscending (map number_of (cond b ls (h.lists k)))
  rising_pop k true = rising_key.1
  rising_pop k false = h.whole.rising k

  owned_pop : (k : Key) (b : Bool) → key_eq k key ≡ b → AllByRecursion (λ (m : Link). h.owner m.at ≡ k) (cond b ls (h.lists k))
  owned_pop k true e = subst (λ q. AllByRecursion (λ (m : Link). h.owner m.at ≡ q) ls) (sym (key_eq_same k key e)) owned_key.1
  owned_pop k false e = h.whole.owned k

  numbers_pop : (ns : List ℕ) → map number_of ls ≡ ns → (k : Key) (b : Bool) → map number_of (cond b ls (h.lists k)) ≡ cond b ns (nodes k)
  numbers_pop ns is k true = is
  numbers_pop ns is k false = h.numbers k

  popped : (ns : List ℕ) → map number_of ls ≡ ns → Holds new (with_chain nodes key ns)
  popped ns is = record {
    lists = with_chain h.lists key ls;
    owner = h.owner;
    whole = record {
      ends = λ k. p.ends k ∙ ends_pop k (key_eq k key) refl;
      linked = λ k. linked_pop k (key_eq k key) refl;
      rising = λ k. rising_pop k (key_eq k key);
      owned = λ k. owned_pop k (key_eq k key) refl;
    };
    numbers = λ k. numbers_pop ns is k (key_eq k key);
  }

rest_of : List ℕ → List ℕ
rest_of [] = []
rest_of (n ∷ ns) = ns

by_links : (old new : Chains) (key : Key) (nodes : Key → List ℕ) (n : ℕ) (ns : List ℕ) (h : Holds old nodes) → nodes key ≡ n ∷ ns → (xs : List Link) → h.lists key ≡ xs
    → ((e : Ends) (edge : Edge) → ends_at old key ≡ Some e → edge_at old e.first ≡ Some edge → Pops old new key e edge) → Holds new (with_chain nodes key ns)
by_links old new key nodes n ns h is [] lists_is pops = let bad : [] ≡ n ∷ ns = ap (map number_of) (sym lists_is) ∙ h.numbers key ∙ is in absurd (cc)
by_links old new key nodes n ns h is (l ∷ ls) lists_is pops =
    let both : l.node ∷ map number_of ls ≡ n ∷ ns = ap (map number_of) (sym lists_is) ∙ h.numbers key ∙ is in
    let tail : map number_of ls ≡ ns = cc in
    popped old new key nodes h l ls lists_is
    (pops (record { first = l.at; last = last_of l ls }) (record { node = l.node; after = head_of ls }) (h.whole.ends key ∙ ap ends_of lists_is) (subst (IsLinked (edge_at old)) lists_is (h.whole.linked key)).0)
    ns tail

pub pop_holds : (old new : Chains) (key : Key) → ((e : Ends) (edge : Edge) → ends_at old key ≡ Some e → edge_at old e.first ≡ Some edge → Pops old new key e edge)
    → (nodes : Key → List ℕ) (n : ℕ) (ns : List ℕ) → Holds old nodes → nodes key ≡ n ∷ ns → Holds new (with_chain nodes key ns)
pop_holds old new key pops nodes n ns h is = by_links old new key nodes n ns h is (h.lists key) refl pops

-- ---- elsewhere
pub same_holds : (old new : Chains) → IsSame old new → (nodes : Key → List ℕ) → Holds old nodes → Holds new nodes
same_holds old new s nodes h = record {
  lists = h.lists;
  owner = h.owner;
  whole = record {
    ends = λ k. s.ends k ∙ h.whole.ends k;
    linked = λ k. linked_elsewhere (edge_at old) (edge_at new) (h.lists k) (all_of (λ (l : Link). edge_at new l.at ≡ edge_at old l.at) (h.lists k) (λ l. s.edges l.at)) (h.whole.linked k);
    rising = h.whole.rising;
    owned = h.whole.owned;
  };
  numbers = h.numbers;
}

pub holds_alike : (c : Chains) (f g : Key → List ℕ) → ((k : Key) → f k ≡ g k) → Holds c f → Holds c g
holds_alike c f g same h = record { lists = h.lists; owner = h.owner; whole = h.whole; numbers = λ k. h.numbers k ∙ same k }

pub holds_rising : (c : Chains) (f : Key → List ℕ) → Holds c f → (k : Key) → IsAscending (f k)
holds_rising c f h k = subst IsAscending (h.numbers k) (h.whole.rising k)

-- ---- the first node
front_is : (es : ℕ → Option Edge) (o : Option Ends) (ls : List Link) → o ≡ ends_of ls → IsLinked es ls
    → option_and_then (λ (ends : Ends). option_map (λ (e : Edge). e.node) (es ends.first)) o ≡ first_number (map number_of ls)
front_is es o [] is h = ap (option_and_then (λ (ends : Ends). option_map (λ (e : Edge). e.node) (es ends.first))) is
front_is es o (l ∷ ls) is h = ap (option_and_then (λ (ends : Ends). option_map (λ (e : Edge). e.node) (es ends.first))) is ∙ ap (option_map (λ (e : Edge). e.node)) h.0

pub first_is : (c : Chains) (f : Key → List ℕ) → Holds c f → (k : Key) → first_of c k ≡ first_number (f k)
first_is c f h k = front_is (edge_at c) (ends_at c k) (h.lists k) (h.whole.ends k) (h.whole.linked k) ∙ ap first_number (h.numbers k)

last_there : (es : ℕ → Option Edge) (l : Link) (ls : List Link) → IsLinked es (l ∷ ls) → is_some (es (last_of l ls)) ≡ true
last_there es l [] h = ap is_some h.0
last_there es l (m ∷ ms) h = last_there es m ms h.1

has_last_in : (es : ℕ → Option Edge) (ls : List Link) (e : Ends) → IsLinked es ls → ends_of ls ≡ Some e → is_some (es e.last) ≡ true
has_last_in es [] e h is = cc
has_last_in es (l ∷ ls) e h is = ap (λ j. is_some (es j)) (ap (λ (o : Option Ends). option_map_or (λ (x : Ends). x.last) o e.last) (sym is)) ∙ last_there es l ls h

pub has_last : (c : Chains) (f : Key → List ℕ) → Holds c f → (key : Key) → HasLast c key
has_last c f h key e is = has_last_in (edge_at c) (h.lists key) e (h.whole.linked key) (sym (h.whole.ends key) ∙ is)

some_number : (ls : List Link) → is_some (ends_of ls) ≡ is_some (first_number (map number_of ls))
some_number [] = refl
some_number (l ∷ ls) = refl

pub had_one_is : (c : Chains) (f : Key → List ℕ) → Holds c f → (key : Key) → is_some (ends_at c key) ≡ is_some (first_number (f key))
had_one_is c f h key = ap is_some (h.whole.ends key) ∙ some_number (h.lists key) ∙ ap (λ ns. is_some (first_number ns)) (h.numbers key)

fewer_by : (old new : Chains) (key : Key) (f : Key → List ℕ) (n : ℕ) (h : Holds old f) → first_number (f key) ≡ Some n → (xs : List Link) → h.lists key ≡ xs → PopsFirst old new key → slots.slab_len new.edges + 1 ≡ slots.slab_len old.edges
fewer_by old new key f n h is [] lists_is pops = let bad : None ≡ Some n = ap (λ xs. first_number (map number_of xs)) (sym lists_is) ∙ ap first_number (h.numbers key) ∙ is in cc
fewer_by old new key f n h is (l ∷ ls) lists_is pops =
    (pops (record { first = l.at; last = last_of l ls }) (record { node = l.node; after = head_of ls }) (h.whole.ends key ∙ ap ends_of lists_is) (subst (IsLinked (edge_at old)) lists_is (h.whole.linked key)).0).fewer

pub pop_fewer : (old new : Chains) (key : Key) (f : Key → List ℕ) (n : ℕ) → Holds old f → first_number (f key) ≡ Some n → PopsFirst old new key → slots.slab_len new.edges + 1 ≡ slots.slab_len old.edges
pop_fewer old new key f n h is pops = fewer_by old new key f n h is (h.lists key) refl pops
