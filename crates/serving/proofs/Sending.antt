-- What a plan sends.
use Rattle.std.proofs.Common.{◌≡◌, ℕ, zero, suc, ◌+◌, ◌<◌, arith, Bool, true, false, cond, not, List, [], ◌∷◌, ◌++◌, drop, length, get_or, slice_index_or, append_assoc, Option, Some, None, Result, Ok, Err, refl, sym, ap, ◌∙◌, subst}
use Rattle.std.proofs.Math.Seq.{drop-cons}
use Rattle.std.proofs.lemmas.Option.{slice_get_read}
use Rattle.std.specs.Prelude.{slice_get, nat_lt}
use Rattle.std.specs.List.{list_all}
use Rattle.std.proofs.lemmas.Bool.{lt-ltb, ltb-true, and_parts}
use Rattle.std.specs.Option.{option_map_or}
use Rattle.std.specs.FinSet as set
use Rattle.gtid_set.specs.Sets.{Gtids}
use Rattle.journal.specs.declared.Entry.{Entry}
use Rattle.journal.specs.Journals.{JournalValue, whole}
use Rattle.auto_position.specs.Sending.{AreAt, IsPlan, IsRefusal, sent}
use Rattle.auto_position.specs.declared.PositionFault.{PositionFault}
use Rattle.serving.specs.Serving.{pick_entries}
use Rattle.auto_position.proofs.Asked.{none_own}

taken : (o : Option Entry) (e : Entry) (more : List Entry) → o ≡ Some e → option_map_or (λ x. x ∷ more) o more ≡ e ∷ more
taken o e more at = ap (λ (x : Option Entry). option_map_or (λ y. y ∷ more) x more) at

-- what is at places is what is picked
picked_is : (entries : List Entry) (ps : List ℕ) (es : List Entry) → AreAt entries ps es → pick_entries entries ps ≡ es
picked_is entries [] [] h = refl
picked_is entries [] (e ∷ es) h = absurd h
picked_is entries (p ∷ ps) [] h = absurd h
picked_is entries (p ∷ ps) (e ∷ es) h = taken (slice_get entries p) e (pick_entries entries ps) h.0 ∙ ap (λ (xs : List Entry). e ∷ xs) (picked_is entries ps es h.1)

-- one place more is picked
pub picked_more : (entries : List Entry) (places : List ℕ) (i : ℕ) (e : Entry) (found grown : List Entry) → i < length places → slice_index_or places i 0 < length entries
    → e ≡ get_or entries (slice_index_or places i 0) e → grown ≡ found ++ e ∷ [] → found ++ pick_entries entries (drop i places) ≡ pick_entries entries places
    → grown ++ pick_entries entries (drop (i + 1) places) ≡ pick_entries entries places
picked_more entries places i e found grown few inside at is all =
    let place = slice_index_or places i 0 in
    let rest = pick_entries entries (drop (suc i) places) in
    let next : i + 1 ≡ suc i = omega arith in
    let there = slice_get_read entries (length entries) place e refl inside at in
    (λ j. is j ++ pick_entries entries (drop (next j) places))
    ∙ append_assoc found (e ∷ []) rest
    ∙ ap (λ (xs : List Entry). found ++ xs) (sym (ap (pick_entries entries) (drop-cons places i 0 few) ∙ taken (slice_get entries place) e rest there))
    ∙ all

below : (entries : List Entry) (p : ℕ) (e : Entry) → slice_get entries p ≡ Some e → nat_lt p (length entries) ≡ true
below [] p e h = absurd cc
below (x ∷ xs) zero e h = lt-ltb _ _ (omega arith)
below (x ∷ xs) (suc p) e h =
    let lt = ltb-true _ _ (below xs p e h) in
    lt-ltb _ _ (omega (arith, lt))

-- places at which something is are in the list
pub places_below : (entries : List Entry) (ps : List ℕ) (es : List Entry) → AreAt entries ps es → list_all (λ p. nat_lt p (length entries)) ps ≡ true
places_below entries [] es h = refl
places_below entries (p ∷ ps) [] h = absurd h
places_below entries (p ∷ ps) (e ∷ es) h = rw (below entries p e h.0) (places_below entries ps es h.1)

pub below_at : (entries : List Entry) (ps : List ℕ) (i : ℕ) → list_all (λ p. nat_lt p (length entries)) ps ≡ true → i < length ps → slice_index_or ps i 0 < length entries
below_at entries [] i all lt = absurd (omega arith)
below_at entries (p ∷ ps) zero all lt = ltb-true _ _ (and_parts (nat_lt p (length entries)) (list_all (λ q. nat_lt q (length entries)) ps) all).0
below_at entries (p ∷ ps) (suc k) all lt = below_at entries ps k (and_parts (nat_lt p (length entries)) (list_all (λ q. nat_lt q (length entries)) ps) all).1 (omega (arith, lt))

there : (entries : List Entry) (p : ℕ) → p < length entries → (e : Entry) × (slice_get entries p ≡ Some e)
there [] p h = absurd (omega (arith, h))
there (e ∷ es) zero h = (e, refl)
there (e ∷ es) (suc p) h = there es p (omega (arith, h))

-- what is at the first of the places, and what is at the others
picked_first : (entries : List Entry) (p : ℕ) (ps : List ℕ) → p < length entries → (e : Entry) × (pick_entries entries (p ∷ ps) ≡ e ∷ pick_entries entries ps)
picked_first entries p ps h = let at = there entries p h in (at.0, taken (slice_get entries p) at.0 (pick_entries entries ps) at.1)

-- one entry for each place
pub picked_length : (entries : List Entry) (ps : List ℕ) → list_all (λ p. nat_lt p (length entries)) ps ≡ true → length (pick_entries entries ps) ≡ length ps
picked_length entries [] all = refl
picked_length entries (p ∷ ps) all =
    let both = and_parts (nat_lt p (length entries)) (list_all (λ q. nat_lt q (length entries)) ps) all in
    let first = picked_first entries p ps (ltb-true _ _ both.0) in
    ap (λ (xs : List Entry). length xs) first.1 ∙ ap suc (picked_length entries ps both.1)

-- the entry at a place is picked by it
picked_at : (entries : List Entry) (ps : List ℕ) (i : ℕ) (e : Entry) → list_all (λ p. nat_lt p (length entries)) ps ≡ true → i < length ps
    → slice_get entries (slice_index_or ps i 0) ≡ Some e → e ≡ get_or (pick_entries entries ps) i e
picked_at entries [] i e all few at = absurd (omega (arith, few))
picked_at entries (p ∷ ps) zero e all few at = sym (ap (λ (xs : List Entry). get_or xs 0 e) (taken (slice_get entries p) e (pick_entries entries ps) at))
picked_at entries (p ∷ ps) (suc k) e all few at =
    let both = and_parts (nat_lt p (length entries)) (list_all (λ q. nat_lt q (length entries)) ps) all in
    let first = picked_first entries p ps (ltb-true _ _ both.0) in
    picked_at entries ps k e both.1 (omega (arith, few)) at ∙ sym (ap (λ (xs : List Entry). get_or xs (suc k) e) first.1)

pub picked_is_at : (entries : List Entry) (ps : List ℕ) (i : ℕ) (e : Entry) → list_all (λ p. nat_lt p (length entries)) ps ≡ true → i < length ps
    → e ≡ get_or entries (slice_index_or ps i 0) e → e ≡ get_or (pick_entries entries ps) i e
picked_is_at entries ps i e all few is = picked_at entries ps i e all few (slice_get_read entries (length entries) (slice_index_or ps i 0) e refl (below_at entries ps i all few) is)

abbrev pub sent_ok : List Entry → Result (List Entry) PositionFault
sent_ok es = Ok es

-- the entries at the places of a plan are what is sent
pub plan_sent : (entries : List Entry) (places : List ℕ) (found : List Entry) (sending : Result (List Entry) PositionFault) → IsPlan entries places sending → found ≡ pick_entries entries places → sending ≡ sent_ok found
plan_sent entries places found sending plan is = plan.sent_is ∙ ap sent_ok (sym (is ∙ picked_is entries places plan.sends plan.at))

never_refused : (b c : Bool) (x y z : PositionFault) (all : List Entry) → c ≡ true → b ≡ true → ◌≡◌ {A = Result (List Entry) PositionFault} (cond (not b) (Err x) (cond (not c) (Err y) (Ok all))) (Err z) → ⊥
never_refused true true x y z all known kept e = cc
never_refused true false x y z all known kept e = cc
never_refused false c x y z all known kept e = cc

-- a source without a UUID refuses nothing that is asked for rightly
pub never_refuses : (j : JournalValue) (ask : Gtids) (p q : PositionFault) → q ≡ p → IsRefusal q j ask None → (IsRefusal p j ask None → sent j ask None ≡ Err p) → set.is_subset j.previous ask ≡ true → ⊥
never_refuses j ask p q is h says kept =
    let e : sent j ask None ≡ Err p = says (subst (λ (x : PositionFault). IsRefusal x j ask None) is h) in
    never_refused (set.is_subset j.previous ask) (set.is_subset set.empty (whole j)) _ _ p _ (none_own (whole j)) kept e
