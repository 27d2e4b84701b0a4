-- What links between cells leave of chains.
use Rattle.std.proofs.Common.{◌≡◌, ◌≢◌, ℕ, ◌<◌, ◌⊎◌, Bool, true, false, cond, List, [], ◌∷◌, ◌++◌, length, Option, Some, None, refl, sym, ap, subst, ◌∙◌, ⊎_elim, inl, inr, get_or-set_same, get_or-set_other, length-set}
use Rattle.std.specs.Prelude.{slice_set, ◌==◌}
use Rattle.std.proofs.lemmas.Bool.Decides.{eqb_tells}
use Rattle.std.specs.List.{AllByRecursion}
use Rattle.interval_pool.specs.declared.cells.Cell.{Cell}
use Rattle.interval_pool.specs.declared.cells.Head.{Head}
use Rattle.interval_pool.specs.Cells.{cell_at, head_at, with_next, first_with, with_head, with_owner}
use Rattle.interval_pool.specs.Chains.{first_or, last_or, IsCell, AreLinked, AreOnce, IsAmong, AreChains, with_chain}
use Rattle.interval_pool.proofs.Facts.{all_parts, all_joined}

-- ---- a cell is written

pub cell_other : (cells : List Cell) (i j : ℕ) (c : Cell) → j ≢ i → cell_at (slice_set cells i c) j ≡ cell_at cells j
cell_other cells i j c ne = rw get_or-set_other refl

pub cell_same : (cells : List Cell) (i : ℕ) (c : Cell) → i < length cells → cell_at (slice_set cells i c) i ≡ c
cell_same cells i c lt = rw get_or-set_same refl

pub kept_cell : (cells : List Cell) (i k j : ℕ) (c : Cell) (next : Option ℕ) → j ≢ i → IsCell cells k j next → IsCell (slice_set cells i c) k j next
kept_cell cells i k j c next ne is = record {
  below = let b = is.below in simp length-set b;
  owner = ap (λ (d : Cell). d.owner) (cell_other cells i j c ne) ∙ is.owner;
  next_is = ap (λ (d : Cell). d.next) (cell_other cells i j c ne) ∙ is.next_is;
}

-- cells among which the written one is not
pub kept_cells : (cells : List Cell) (i k : ℕ) (c : Cell) (is : List ℕ) (end : Option ℕ) → AllByRecursion (λ j. j ≢ i) is → AreLinked cells k is end → AreLinked (slice_set cells i c) k is end
kept_cells cells i k c [] end ne linked = tt
kept_cells cells i k c (j ∷ js) end ne linked = (kept_cell cells i k j c (first_or end js) ne.0 linked.0, kept_cells cells i k c js end ne.1 linked.1)

-- ---- cells of one chain in two parts

first_append : (end : Option ℕ) (is js : List ℕ) → first_or end (is ++ js) ≡ first_or (first_or end js) is
first_append end [] js = refl
first_append end (i ∷ is) js = refl

pub in_parts : (cells : List Cell) (k : ℕ) (is js : List ℕ) (end : Option ℕ) → AreLinked cells k (is ++ js) end → AreLinked cells k is (first_or end js) × AreLinked cells k js end
in_parts cells k [] js end linked = (tt, linked)
in_parts cells k (i ∷ is) js end linked =
    let more = in_parts cells k is js end linked.1 in
    ((subst (IsCell cells k i) (first_append end is js) linked.0, more.0), more.1)

pub joined : (cells : List Cell) (k : ℕ) (is js : List ℕ) (end : Option ℕ) → AreLinked cells k is (first_or end js) → AreLinked cells k js end → AreLinked cells k (is ++ js) end
joined cells k [] js end front back = back
joined cells k (i ∷ is) js end front back = (subst (IsCell cells k i) (sym (first_append end is js)) front.0, joined cells k is js end front.1 back)

-- ---- what comes after a cell is written

kept_next : (cells : List Cell) (k i : ℕ) (next before end : Option ℕ) → (before ≡ Some i → ⊥) → IsCell cells k i next → IsCell (with_next cells before end) k i next
kept_next cells k i next None end ne is = is
kept_next cells k i next (Some p) end ne is = kept_cell cells p k i (record (cell_at cells p) { next = end }) next (λ e. ne (ap Some (sym e))) is

kept_nexts : (cells : List Cell) (k : ℕ) (is : List ℕ) (before end e : Option ℕ) → AllByRecursion (λ j. before ≡ Some j → ⊥) is → AreLinked cells k is e → AreLinked (with_next cells before end) k is e
kept_nexts cells k [] before end e ne linked = tt
kept_nexts cells k (i ∷ is) before end e ne linked = (kept_next cells k i (first_or e is) before end ne.0 linked.0, kept_nexts cells k is before end e ne.1 linked.1)

pub is_among_all : (P : ℕ → Type 0) (i : ℕ) (is : List ℕ) → AllByRecursion P is → IsAmong i is → P i
is_among_all P i [] all among = absurd among
is_among_all P i (j ∷ js) all among = ⊎_elim (λ e. subst P (sym e) all.0) (is_among_all P i js all.1) among

pub last_among : (i p : ℕ) (is : List ℕ) → last_or (Some i) is ≡ Some p → IsAmong p (i ∷ is)
last_among i p [] e = inl (cc)
last_among i p (j ∷ js) e = inr (last_among j p js e)

last_is : (i : ℕ) (is : List ℕ) → (p : ℕ) × (last_or (Some i) is ≡ Some p)
last_is i [] = (i, refl)
last_is i (j ∷ js) = last_is j js

-- the last of cells goes on with another
pub relast : (cells : List Cell) (k : ℕ) (is : List ℕ) (e end : Option ℕ) → AreOnce is → AreLinked cells k is e → AreLinked (with_next cells (last_or None is) end) k is end
relast cells k [] e end once linked = tt
relast cells k (i ∷ []) e end once linked =
    let lt : i < length cells = linked.0.below in
    let same = cell_same cells i (record (cell_at cells i) { next = end }) lt in
    (record { below = simp length-set lt; owner = ap (λ (c : Cell). c.owner) same ∙ linked.0.owner; next_is = ap (λ (c : Cell). c.next) same }, tt)
relast cells k (i ∷ j ∷ js) e end once linked = (
  kept_next cells k i (Some j) (last_or (Some j) js) end (λ at. is_among_all (λ n. n ≢ i) i (j ∷ js) once.0 (last_among j i js at) refl) linked.0,
  relast cells k (j ∷ js) e end once.1 linked.1,
)

pub linked_owner : (cells : List Cell) (k i : ℕ) (is : List ℕ) (e : Option ℕ) → AreLinked cells k is e → IsAmong i is → (cell_at cells i).owner ≡ k
linked_owner cells k i [] e linked among = absurd among
linked_owner cells k i (j ∷ js) e linked among = ⊎_elim (λ (same : i ≡ j). ap (λ n. (cell_at cells n).owner) same ∙ linked.0.owner) (linked_owner cells k i js e linked.1) among

pub linked_below : (cells : List Cell) (k i : ℕ) (is : List ℕ) (e : Option ℕ) → AreLinked cells k is e → IsAmong i is → i < length cells
linked_below cells k i [] e linked among = absurd among
linked_below cells k i (j ∷ js) e linked among = ⊎_elim (λ (same : i ≡ j). let P : ℕ → Type 0 = λ n. n < length cells in subst P (sym same) linked.0.below) (linked_below cells k i js e linked.1) among

-- a cell of one chain is none of another
other_owner : (cells : List Cell) (k m p : ℕ) (is : List ℕ) (e : Option ℕ) → (cell_at cells p).owner ≡ k → m ≢ k → AreLinked cells m is e → AllByRecursion (λ j. j ≢ p) is
other_owner cells k m p [] e owner ne linked = tt
other_owner cells k m p (j ∷ js) e owner ne linked =
    ((λ (same : j ≡ p). ne (sym linked.0.owner ∙ ap (λ n. (cell_at cells n).owner) same ∙ owner)), other_owner cells k m p js e owner ne linked.1)

-- the last of some cells of one chain is none of another
other_last : (cells : List Cell) (k m : ℕ) (xs is : List ℕ) (d e : Option ℕ) → m ≢ k → AreLinked cells k xs d → AreLinked cells m is e → AllByRecursion (λ j. last_or None xs ≡ Some j → ⊥) is
other_last cells k m xs [] d e ne xs_linked linked = tt
other_last cells k m [] (j ∷ js) d e ne xs_linked linked = ((λ at. cc), other_last cells k m [] js d e ne xs_linked linked.1)
other_last cells k m (x ∷ xs) (j ∷ js) d e ne xs_linked linked = (
  (λ at. ne (sym linked.0.owner ∙ linked_owner cells k j (x ∷ xs) d xs_linked (last_among x j xs at))),
  other_last cells k m (x ∷ xs) js d e ne xs_linked linked.1,
)

-- ---- a chain at a place

pub at_chain : (P : ℕ → List ℕ → Type 0) (chain : ℕ → List ℕ) (k : ℕ) (is : List ℕ) → P k is → ((m : ℕ) → m ≢ k → P m (chain m)) → (m : ℕ) → P m (with_chain chain k is m)
at_chain P chain k is here there m = chosen (m == k) (eqb_tells m k)
  where
    chosen : (b : Bool) → ((b ≡ true) × (m ≡ k)) ⊎ ((b ≡ false) × (m ≢ k)) → P m (cond b is (chain m))
    chosen true (inl h) = subst (λ n. P n is) (sym h.1) here
    chosen true (inr h) = absurd (cc)
    chosen false (inl h) = absurd (cc)
    chosen false (inr h) = there m h.1

pub chain_here : (chain : ℕ → List ℕ) (k : ℕ) (is : List ℕ) → with_chain chain k is k ≡ is
chain_here chain k is = at_chain (λ m js. m ≡ k → js ≡ is) chain k is (λ e. refl) (λ m ne e. absurd (ne e)) k refl

-- ---- each cell once

pub once_parts : (is js : List ℕ) → AreOnce (is ++ js) → AreOnce is × AreOnce js
once_parts [] js once = (tt, once)
once_parts (i ∷ is) js once = let more = once_parts is js once.1 in (((all_parts (λ j. j ≢ i) is js once.0).0, more.0), more.1)

pub once_without : (xs ys : List ℕ) (i : ℕ) → AreOnce (xs ++ i ∷ ys) → AreOnce (xs ++ ys) × AllByRecursion (λ j. j ≢ i) (xs ++ ys)
once_without [] ys i once = (once.1, once.0)
once_without (x ∷ xs) ys i once =
    let more = once_without xs ys i once.1 in
    let parts = all_parts (λ j. j ≢ x) xs (i ∷ ys) once.0 in
    ((all_joined (λ j. j ≢ x) xs ys parts.0 parts.1.1, more.0), ((λ e. parts.1.0 (sym e)), more.1))

once_with : (xs ys : List ℕ) (i : ℕ) → AreOnce (xs ++ ys) → AllByRecursion (λ j. j ≢ i) (xs ++ ys) → AreOnce (xs ++ i ∷ ys)
once_with [] ys i once apart = (apart, once)
once_with (x ∷ xs) ys i once apart =
    let parts = all_parts (λ j. j ≢ x) xs ys once.0 in
    (all_joined (λ j. j ≢ x) xs (i ∷ ys) parts.0 ((λ e. apart.0 (sym e)), parts.1), once_with xs ys i once.1 apart.1)

-- the last of some cells is none of those after them
pub last_apart : (xs ys : List ℕ) → AreOnce (xs ++ ys) → AllByRecursion (λ j. last_or None xs ≡ Some j → ⊥) ys
last_apart [] ys once = none ys
  where
    none : (ys : List ℕ) → AllByRecursion (λ j. None ≡ Some j → ⊥) ys
    none [] = tt
    none (y ∷ ys) = ((λ e. cc), none ys)
last_apart (x ∷ []) ys once = each ys once.0
  where
    each : (ys : List ℕ) → AllByRecursion (λ j. j ≢ x) ys → AllByRecursion (λ j. Some x ≡ Some j → ⊥) ys
    each [] ne = tt
    each (y ∷ ys) ne = ((λ e. ne.0 (cc)), each ys ne.1)
last_apart (x ∷ w ∷ xs) ys once = last_apart (w ∷ xs) ys once.1

pub among_parts : (j i : ℕ) (xs ys : List ℕ) → IsAmong j (xs ++ i ∷ ys) → (i ≡ j) ⊎ IsAmong j (xs ++ ys)
among_parts j i [] ys among = ⊎_elim (λ e. inl (sym e)) inr among
among_parts j i (x ∷ xs) ys among = ⊎_elim (λ e. inr (inl e)) (λ more. ⊎_elim inl (λ h. inr (inr h)) (among_parts j i xs ys more)) among

among_with : (j i : ℕ) (xs ys : List ℕ) → IsAmong j (xs ++ ys) → IsAmong j (xs ++ i ∷ ys)
among_with j i [] ys among = inr among
among_with j i (x ∷ xs) ys among = ⊎_elim inl (λ more. inr (among_with j i xs ys more)) among

among_at : (i : ℕ) (xs ys : List ℕ) → IsAmong i (xs ++ i ∷ ys)
among_at i [] ys = inl refl
among_at i (x ∷ xs) ys = inr (among_at i xs ys)

-- ---- heads

pub head_other : (heads : List Head) (k m : ℕ) (h : Head) → m ≢ k → head_at (slice_set heads k h) m ≡ head_at heads m
head_other heads k m h ne = rw get_or-set_other refl

pub head_same : (heads : List Head) (k : ℕ) (h : Head) → k < length heads → head_at (slice_set heads k h) k ≡ h
head_same heads k h lt = rw get_or-set_same refl

first_without : (xs ys : List ℕ) (i : ℕ) (f : Option ℕ) → f ≡ first_or None (xs ++ i ∷ ys) → first_with (last_or None xs) (first_or None ys) f ≡ first_or None (xs ++ ys)
first_without [] ys i f e = refl
first_without (x ∷ xs) ys i f e = let last = last_is x xs in ap (λ b. first_with b (first_or None ys) f) last.1 ∙ e

first_also : (xs ys : List ℕ) (i : ℕ) (f : Option ℕ) → f ≡ first_or None (xs ++ ys) → first_with (last_or None xs) (Some i) f ≡ first_or None (xs ++ i ∷ ys)
first_also [] ys i f e = refl
first_also (x ∷ xs) ys i f e = let last = last_is x xs in ap (λ b. first_with b (Some i) f) last.1 ∙ e

pub owner_next : (cells : List Cell) (before e : Option ℕ) (j : ℕ) → j < length cells → (cell_at (with_next cells before e) j).owner ≡ (cell_at cells j).owner
owner_next cells None e j lt = refl
owner_next cells (Some p) e j lt = ⊎_elim
    (λ (h : ((j == p) ≡ true) × (j ≡ p)).
    let P : ℕ → Type 0 = λ n. (cell_at (with_next cells (Some p) e) n).owner ≡ (cell_at cells n).owner in
    let Q : ℕ → Type 0 = λ n. n < length cells in
    subst P (sym h.1) (ap (λ (c : Cell). c.owner) (cell_same cells p (record (cell_at cells p) { next = e }) (subst Q h.1 lt))))
    (λ (h : ((j == p) ≡ false) × (j ≢ p)). ap (λ (c : Cell). c.owner) (cell_other cells p j (record (cell_at cells p) { next = e }) h.1))
    (eqb_tells j p)

pub length_next : (cells : List Cell) (before e : Option ℕ) → length (with_next cells before e) ≡ length cells
length_next cells None e = refl
length_next cells (Some p) e = simp length-set

-- ---- a cell leaves its chain

pub unlinks : (cells : List Cell) (heads : List Head) (chain : ℕ → List ℕ) (k i : ℕ) (xs ys : List ℕ) → AreChains cells heads None chain → k < length heads → chain k ≡ xs ++ i ∷ ys
    → AreChains (with_next cells (last_or None xs) (first_or None ys)) (with_head heads k (last_or None xs) (first_or None ys) (length (xs ++ ys))) (Some i) (with_chain chain k (xs ++ ys))
unlinks cells heads chain k i xs ys h lt at =
    let before = last_or None xs in
    let next = first_or None ys in
    let cells' : List Cell = with_next cells before next in
    let new : Head = record (head_at heads k) { first = first_with before next (head_at heads k).first; len = length (xs ++ ys) } in
    let heads' : List Head = with_head heads k before next (length (xs ++ ys)) in
    let linked : AreLinked cells k (xs ++ i ∷ ys) None = subst (λ is. AreLinked cells k is None) at (h.linked k) in
    let once : AreOnce (xs ++ i ∷ ys) = subst AreOnce at (h.once k) in
    let parts = in_parts cells k xs (i ∷ ys) None linked in
    let both = once_without xs ys i once in
    record {
      first = at_chain (λ m is. (head_at heads' m).first ≡ first_or None is) chain k (xs ++ ys)
          (ap (λ (d : Head). d.first) (head_same heads k new lt) ∙ first_without xs ys i (head_at heads k).first (h.first k ∙ ap (first_or None) at))
          (λ m ne. ap (λ (d : Head). d.first) (head_other heads k m new ne) ∙ h.first m);
      count = at_chain (λ m is. (head_at heads' m).len ≡ length is) chain k (xs ++ ys)
          (ap (λ (d : Head). d.len) (head_same heads k new lt))
          (λ m ne. ap (λ (d : Head). d.len) (head_other heads k m new ne) ∙ h.count m);
      linked = at_chain (λ m is. AreLinked cells' m is None) chain k (xs ++ ys)
          (joined cells' k xs ys None
          (relast cells k xs (Some i) next (once_parts xs (i ∷ ys) once).0 parts.0)
          (kept_nexts cells k ys before next None (last_apart xs ys both.0) parts.1.1))
          (λ m ne. kept_nexts cells m (chain m) before next None (other_last cells k m xs (chain m) (Some i) None ne parts.0 (h.linked m)) (h.linked m));
      once = at_chain (λ m is. AreOnce is) chain k (xs ++ ys) both.0 (λ m ne. h.once m);
      whole = λ j below.
          let lt' : j < length cells = let P : ℕ → Type 0 = λ n. j < n in subst P (length_next cells before next) below in
          let P : ℕ → List ℕ → Type 0 = λ m is. IsAmong j (chain m) → (Some i ≡ Some j) ⊎ IsAmong j is in
          let there : IsAmong j (chain (cell_at cells j).owner) = ⊎_elim (λ e. absurd (cc)) (λ a. a) (h.whole j lt') in
          let moved = at_chain P chain k (xs ++ ys)
          (λ a. ⊎_elim (λ e. inl (ap Some e)) inr (among_parts j i xs ys (subst (IsAmong j) at a)))
          (λ m ne a. inr a) (cell_at cells j).owner there in
          let Q : ℕ → Type 0 = λ o. (Some i ≡ Some j) ⊎ IsAmong j (with_chain chain k (xs ++ ys) o) in
          subst Q (sym (owner_next cells before next j lt')) moved;
      apart = λ j m e.
          let P : ℕ → Type 0 = λ n. AllByRecursion (λ l. l ≢ n) (with_chain chain k (xs ++ ys) m) in
          let same : i ≡ j = cc in
          subst P same (at_chain (λ o is. AllByRecursion (λ l. l ≢ i) is) chain k (xs ++ ys) both.1
          (λ o ne. other_owner cells k o i (chain o) None parts.1.0.owner ne (h.linked o)) m);
    }

-- ---- a cell joins a chain

pub links : (cells : List Cell) (heads : List Head) (chain : ℕ → List ℕ) (k i : ℕ) (xs ys : List ℕ) → AreChains cells heads (Some i) chain → k < length heads → i < length cells → chain k ≡ xs ++ ys
    → AreChains (with_next (with_owner cells i k (first_or None ys)) (last_or None xs) (Some i)) (with_head heads k (last_or None xs) (Some i) (length (xs ++ i ∷ ys))) None (with_chain chain k (xs ++ i ∷ ys))
links cells heads chain k i xs ys h lt below at =
    let before = last_or None xs in
    let owned : Cell = record (cell_at cells i) { next = first_or None ys; owner = k } in
    let cells1 : List Cell = with_owner cells i k (first_or None ys) in
    let cells' : List Cell = with_next cells1 before (Some i) in
    let new : Head = record (head_at heads k) { first = first_with before (Some i) (head_at heads k).first; len = length (xs ++ i ∷ ys) } in
    let heads' : List Head = with_head heads k before (Some i) (length (xs ++ i ∷ ys)) in
    let ne_all : (m : ℕ) → AllByRecursion (λ j. j ≢ i) (chain m) = λ m. h.apart i m refl in
    let linked1 : (m : ℕ) → AreLinked cells1 m (chain m) None = λ m. kept_cells cells i m owned (chain m) None (ne_all m) (h.linked m) in
    let linked : AreLinked cells1 k (xs ++ ys) None = subst (λ is. AreLinked cells1 k is None) at (linked1 k) in
    let apart : AllByRecursion (λ j. j ≢ i) (xs ++ ys) = subst (AllByRecursion (λ j. j ≢ i)) at (ne_all k) in
    let once : AreOnce (xs ++ ys) = subst AreOnce at (h.once k) in
    let parts = in_parts cells1 k xs ys None linked in
    let front = (all_parts (λ j. j ≢ i) xs ys apart).0 in
    let once' : AreOnce (xs ++ i ∷ ys) = once_with xs ys i once apart in
    let not_last : AllByRecursion (λ j. before ≡ Some j → ⊥) (i ∷ ys) = last_apart xs (i ∷ ys) once' in
    let same = cell_same cells i owned below in
    let here : IsCell cells1 k i (first_or None ys) = record {
      below = simp length-set below;
      owner = ap (λ (c : Cell). c.owner) same;
      next_is = ap (λ (c : Cell). c.next) same;
    } in
    record {
      first = at_chain (λ m is. (head_at heads' m).first ≡ first_or None is) chain k (xs ++ i ∷ ys)
          (ap (λ (d : Head). d.first) (head_same heads k new lt) ∙ first_also xs ys i (head_at heads k).first (h.first k ∙ ap (first_or None) at))
          (λ m ne. ap (λ (d : Head). d.first) (head_other heads k m new ne) ∙ h.first m);
      count = at_chain (λ m is. (head_at heads' m).len ≡ length is) chain k (xs ++ i ∷ ys)
          (ap (λ (d : Head). d.len) (head_same heads k new lt))
          (λ m ne. ap (λ (d : Head). d.len) (head_other heads k m new ne) ∙ h.count m);
      linked = at_chain (λ m is. AreLinked cells' m is None) chain k (xs ++ i ∷ ys)
          (joined cells' k xs (i ∷ ys) None
          (relast cells1 k xs (first_or None ys) (Some i) (once_parts xs ys once).0 parts.0)
          (kept_next cells1 k i (first_or None ys) before (Some i) not_last.0 here, kept_nexts cells1 k ys before (Some i) None not_last.1 parts.1))
          (λ m ne. kept_nexts cells1 m (chain m) before (Some i) None (other_last cells1 k m xs (chain m) (first_or None ys) None ne parts.0 (linked1 m)) (linked1 m));
      once = at_chain (λ m is. AreOnce is) chain k (xs ++ i ∷ ys) once' (λ m ne. h.once m);
      whole = λ j within.
          let lt1 : j < length cells1 = let P : ℕ → Type 0 = λ n. j < n in subst P (length_next cells1 before (Some i)) within in
          let lt0 : j < length cells = simp length-set at lt1 in
          let Q : ℕ → Type 0 = λ o. (None ≡ Some j) ⊎ IsAmong j (with_chain chain k (xs ++ i ∷ ys) o) in
          let R : ℕ → Type 0 = λ n. IsAmong n (with_chain chain k (xs ++ i ∷ ys) (cell_at cells1 n).owner) in
          let is_here : IsAmong i (with_chain chain k (xs ++ i ∷ ys) (cell_at cells1 i).owner) =
          subst (λ o. IsAmong i (with_chain chain k (xs ++ i ∷ ys) o)) (sym here.owner)
          (subst (IsAmong i) (sym (chain_here chain k (xs ++ i ∷ ys))) (among_at i xs ys)) in
          let moved : IsAmong j (with_chain chain k (xs ++ i ∷ ys) (cell_at cells1 j).owner) = ⊎_elim
          (λ (e : ((j == i) ≡ true) × (j ≡ i)). subst R (sym e.1) is_here)
          (λ (e : ((j == i) ≡ false) × (j ≢ i)).
          let a : IsAmong j (chain (cell_at cells j).owner) = ⊎_elim (λ (s : Some i ≡ Some j). absurd (e.1 (cc))) (λ a. a) (h.whole j lt0) in
          subst (λ o. IsAmong j (with_chain chain k (xs ++ i ∷ ys) o)) (sym (ap (λ (c : Cell). c.owner) (cell_other cells i j owned e.1)))
          (at_chain (λ m is. IsAmong j (chain m) → IsAmong j is) chain k (xs ++ i ∷ ys) (λ b. among_with j i xs ys (subst (IsAmong j) at b)) (λ m ne b. b) (cell_at cells j).owner a))
          (eqb_tells j i) in
          subst Q (sym (owner_next cells1 before (Some i) j lt1)) (inr moved);
      apart = λ j m e. absurd (cc);
    }
