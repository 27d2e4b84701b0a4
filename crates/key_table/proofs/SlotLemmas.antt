-- What slots note once one of them is written.
use Rattle.std.proofs.Common.{◌≡◌, ◌<◌, ◌≤◌, ◌+◌, ℕ, zero, suc, ◌⊎◌, inl, inr, Bool, true, false, not, ◌&&◌, ◌||◌, ◌==◌, List, length, set, ◌-◌, get_or, ltb, refl, sym, ap, ◌∙◌, subst, arith}
use Rattle.std.proofs.lemmas.Bool.{cases_eq, cases_lt, cases_Bool, ltb-true, or_left, or_right, or_from, and_parts, and_from, and_left, and_right, eqb-true, eq-eqb, ne_eqb}
use Rattle.std.proofs.lemmas.Option.{slice_get_past}
use Rattle.std.specs.Option.{option_map_or}
use Rattle.std.proofs.lemmas.List.{get_or-set_same, get_or-set_other, get_or_past, get_or_default}
use Rattle.key_table.specs.Slots.{Keeps, is_free, is_full, is_noted, is_taken, is_under, notes, past, slot_at}
use Rattle.key_table.specs.declared.slots.Looked.TheVariants.{Free}
use Rattle.key_table.specs.declared.slots.Slot.{Slot}

pub false_here : {X : Type 0} (b : Bool) → b ≡ true → b ≡ false → X
false_here b t f = cc

-- a test and what follows, where what follows can only become true
onward : (a b c d : Bool) → (c ≡ true → d ≡ true) → a || (b && c) ≡ true → a || (b && d) ≡ true
onward true b c d h e = refl
onward false true c d h e = h e
onward false false c d h e = cc

onward_and : (b c d : Bool) → (c ≡ true → d ≡ true) → b && c ≡ true → b && d ≡ true
onward_and true c d h e = h e
onward_and false c d h e = cc

-- the rest, where the test is false
rest_noted : (a b c : Bool) → a ≡ false → a || (b && c) ≡ true → c ≡ true
rest_noted true b c h e = cc
rest_noted false true c h e = e
rest_noted false false c h e = cc

pub taken_noted : (a b c : Bool) → a ≡ false → a || (b && c) ≡ true → b ≡ true
taken_noted true b c h e = cc
taken_noted false true c h e = refl
taken_noted false false c h e = cc

module _ (slots : List Slot) (p : ℕ) (v : Slot) (within : p < length slots) (taken : is_taken v ≡ true) where
  abbrev pub changed : List Slot
  changed = set slots p v

  here : (at : ℕ) → at ≡ p → slot_at changed at ≡ v
  here at e = ap (slot_at changed) e ∙ get_or-set_same slots p v past within

  there : (at : ℕ) → (at ≡ p → ⊥) → slot_at changed at ≡ slot_at slots at
  there at ne = get_or-set_other slots p at v past ne

  noted_kept : (at n hash place : ℕ) → notes hash place (slot_at slots p) ≡ false → is_noted slots at n hash place ≡ true → is_noted changed at n hash place ≡ true
  noted_kept at zero hash place h e = cc
  noted_kept at (suc n) hash place h e = by (noted_kept (at + 1) n hash place h) (cases_eq at p) where
    by : (is_noted slots (at + 1) n hash place ≡ true → is_noted changed (at + 1) n hash place ≡ true) → (at ≡ p) ⊎ (at ≡ p → ⊥) → is_noted changed at (suc n) hash place ≡ true
    by rest (inl same) = or_right _ _ (and_from _ _ (ap is_taken (here at same) ∙ taken) (rest (rest_noted _ _ _ (ap (λ q. notes hash place (slot_at slots q)) same ∙ h) e)))
    by rest (inr other) = subst (λ s. notes hash place s || (is_taken s && is_noted changed (at + 1) n hash place) ≡ true) (sym (there at other)) (onward _ _ _ _ rest e)

  full_kept : (at n : ℕ) → is_full slots at n ≡ true → is_full changed at n ≡ true
  full_kept at zero e = refl
  full_kept at (suc n) e = by (full_kept (at + 1) n) (cases_eq at p) where
    by : (is_full slots (at + 1) n ≡ true → is_full changed (at + 1) n ≡ true) → (at ≡ p) ⊎ (at ≡ p → ⊥) → is_full changed at (suc n) ≡ true
    by rest (inl same) = and_from _ _ (ap is_taken (here at same) ∙ taken) (rest (and_parts _ _ e).1)
    by rest (inr other) = subst (λ s. is_taken s && is_full changed (at + 1) n ≡ true) (sym (there at other)) (onward_and _ _ _ rest e)

  -- a slot that notes no place of these is written
  pub kept_set : (P : ℕ → Type 0) → ((hash place : ℕ) → P place → notes hash place (slot_at slots p) ≡ false) → Keeps P slots changed
  kept_set P h = record {
    noted = λ at n hash place i. noted_kept at n hash place (h hash place i);
    full = full_kept;
  }

-- Other slots that have the same before a place lead to it: what they note from there on they note from the start.
pub record Leads (slots : List Slot) (from n at left : ℕ) : Type 0 where
  pub led : (others : List Slot) → ((q : ℕ) → q < at → slot_at others q ≡ slot_at slots q) → (hash place : ℕ) → is_noted others at left hash place ≡ true → is_noted others from n hash place ≡ true

pub leads_none : (slots : List Slot) (from n : ℕ) → Leads slots from n from n
leads_none slots from n = record { led = λ others same hash place e. e }

pub leads_on : (slots : List Slot) (from n at left : ℕ) → Leads slots from n at (suc left) → is_taken (slot_at slots at) ≡ true → Leads slots from n (at + 1) left
leads_on slots from n at left l taken = record {
  led = λ others same hash place e. l.led others (λ q before. same q (omega (before, arith))) hash place (or_right (notes hash place (slot_at others at)) (is_taken (slot_at others at) && is_noted others (at + 1) left hash place) (and_from _ _ (ap is_taken (same at (omega arith)) ∙ taken) e));
}

-- A slot that notes a place is written where slots lead to.
pub led_set : (slots : List Slot) (from n at left : ℕ) (v : Slot) (hash place : ℕ) → Leads slots from n at (suc left) → at < length slots → notes hash place v ≡ true → is_noted (set slots at v) from n hash place ≡ true
led_set slots from n at left v hash place l within e =
    l.led (set slots at v) (λ q before. get_or-set_other slots at q v past (λ same. omega (before, same, arith))) hash place
    (or_left (notes hash place (slot_at (set slots at v) at)) (is_taken (slot_at (set slots at v) at) && is_noted (set slots at v) (at + 1) left hash place) (ap (notes hash place) (get_or-set_same slots at v past within) ∙ e))

-- Past the last slot nothing is noted.
not_past : (hash place : ℕ) → place < 4294967296 → notes hash place past ≡ false
not_past hash place small = and_right _ _ (ne_eqb 4294967296 place (λ e. omega (e, small, arith)))

pub past_noted : (slots : List Slot) (at n hash place : ℕ) → length slots ≤ at → place < 4294967296 → is_noted slots at n hash place ≡ false
past_noted slots at zero hash place beyond small = refl
past_noted slots at (suc n) hash place beyond small =
    or_from _ _ (ap (notes hash place) (get_or_past slots at past beyond) ∙ not_past hash place small)
    (and_right _ _ (past_noted slots (at + 1) n hash place (omega (beyond, arith)) small))

pub past_full : (slots : List Slot) (at n : ℕ) → length slots ≤ at → is_full slots at n ≡ true
past_full slots at zero beyond = refl
past_full slots at (suc n) beyond = and_from _ _ (ap is_taken (get_or_past slots at past beyond)) (past_full slots (at + 1) n (omega (beyond, arith)))

-- One slot on.
skipped : (a b c : Bool) → a ≡ false → b ≡ true → a || (b && c) ≡ c
skipped true b c e f = cc
skipped false true c e f = refl
skipped false false c e f = cc

skipped_and : (b c : Bool) → b ≡ true → b && c ≡ c
skipped_and true c e = refl
skipped_and false c e = cc

pub noted_on : (slots : List Slot) (at left hash place : ℕ) → 0 < left → is_taken (slot_at slots at) ≡ true → notes hash place (slot_at slots at) ≡ false → is_noted slots at left hash place ≡ is_noted slots (at + 1) (left - 1) hash place
noted_on slots at zero hash place some taken other = absurd (omega (some, arith))
noted_on slots at (suc n) hash place some taken other = subst (λ m. is_noted slots at (suc n) hash place ≡ is_noted slots (at + 1) m hash place) (omega arith) (skipped (notes hash place (slot_at slots at)) (is_taken (slot_at slots at)) (is_noted slots (at + 1) n hash place) other taken)

pub noted_open : (slots : List Slot) (at left hash place : ℕ) → is_taken (slot_at slots at) ≡ false → notes hash place (slot_at slots at) ≡ false → is_noted slots at left hash place ≡ false
noted_open slots at zero hash place vacant other = refl
noted_open slots at (suc n) hash place vacant other = or_from _ _ other (and_left _ _ vacant)

pub full_on : (slots : List Slot) (at left : ℕ) → 0 < left → is_taken (slot_at slots at) ≡ true → is_full slots at left ≡ is_full slots (at + 1) (left - 1)
full_on slots at zero some taken = absurd (omega (some, arith))
full_on slots at (suc n) some taken = subst (λ m. is_full slots at (suc n) ≡ is_full slots (at + 1) m) (omega arith) (skipped_and (is_taken (slot_at slots at)) (is_full slots (at + 1) n) taken)

pub full_open : (slots : List Slot) (at left : ℕ) → 0 < left → is_taken (slot_at slots at) ≡ false → is_full slots at left ≡ false
full_open slots at zero some vacant = absurd (omega (some, arith))
full_open slots at (suc n) some vacant = and_left _ _ vacant

pub leads_step : (slots : List Slot) (from n at left : ℕ) → 0 < left → Leads slots from n at left → is_taken (slot_at slots at) ≡ true → Leads slots from n (at + 1) (left - 1)
leads_step slots from n at zero some l taken = absurd (omega (some, arith))
leads_step slots from n at (suc left) some l taken = subst (Leads slots from n (at + 1)) (omega arith) (leads_on slots from n at left l taken)

pub led_here : (slots : List Slot) (from n at left : ℕ) (v : Slot) (hash place : ℕ) → 0 < left → Leads slots from n at left → at < length slots → notes hash place v ≡ true → is_noted (set slots at v) from n hash place ≡ true
led_here slots from n at zero v hash place some l within e = absurd (omega (some, arith))
led_here slots from n at (suc left) v hash place some l within e = led_set slots from n at left v hash place l within e

-- What a test of a slot says.
pub notes_both : (hash place : ℕ) (slot : Slot) → notes hash place slot ≡ true → (slot.hash ≡ hash) × (slot.place ≡ place)
notes_both hash place slot e = (eqb-true _ _ (and_parts _ _ e).0, eqb-true _ _ (and_parts _ _ e).1)

pub notes_self : (hash place : ℕ) → notes hash place (record { hash = hash; place = place }) ≡ true
notes_self hash place = and_from _ _ (eq-eqb hash hash refl) (eq-eqb place place refl)

pub notes_other : (hash place : ℕ) (slot : Slot) → (slot.hash ≡ hash → slot.place ≡ place → ⊥) → notes hash place slot ≡ false
notes_other hash place slot h = by (cases_Bool (notes hash place slot)) where
  by : (notes hash place slot ≡ true) ⊎ (notes hash place slot ≡ false) → notes hash place slot ≡ false
  by (inl t) = absurd (h (notes_both hash place slot t).0 (notes_both hash place slot t).1)
  by (inr f) = f

pub taken_by : (slot : Slot) → (slot.place ≡ 4294967295 → ⊥) → is_taken slot ≡ true
taken_by slot h = ap not (ne_eqb _ _ h)

pub open_by : (slot : Slot) → slot.place ≡ 4294967295 → is_taken slot ≡ false
open_by slot e = ap not (eq-eqb _ _ e)

pub under_within : {K V : Type 0} (eq : K → K → Bool) (entries : List (K × V)) (key : K) (place : ℕ) → is_under eq entries key place ≡ true → place < length entries
under_within eq entries key place e = by (cases_lt place (length entries)) where
  by : (place < length entries) ⊎ (length entries ≤ place) → place < length entries
  by (inl within) = within
  by (inr beyond) = false_here (is_under eq entries key place) e (ap (λ o. option_map_or (λ entry. eq key entry.0) o false) (slice_get_past entries place beyond))

pub other_under : {K V : Type 0} (eq : K → K → Bool) (entries : List (K × V)) (key : K) (here place : ℕ) → is_under eq entries key here ≡ false → is_under eq entries key place ≡ true → here ≡ place → ⊥
other_under eq entries key here place f t same = false_here (is_under eq entries key place) t (ap (is_under eq entries key) (sym same) ∙ f)

-- A slot that was found.
pub here_is : (slots : List Slot) (at : ℕ) (slot d : Slot) → true ≡ ltb at (length slots) → slot ≡ get_or slots at d → slot_at slots at ≡ slot
here_is slots at slot d within e = get_or_default slots at past d (ltb-true _ _ (sym within)) ∙ sym e

pub none_left : (left : ℕ) → left ≤ 0 → left ≡ 0
none_left left h = omega (h, arith)

pub taken_here : (slots : List Slot) (at left hash place : ℕ) → is_noted slots at left hash place ≡ true → notes hash place (slot_at slots at) ≡ false → is_taken (slot_at slots at) ≡ true
taken_here slots at zero hash place e other = cc
taken_here slots at (suc n) hash place e other = taken_noted (notes hash place (slot_at slots at)) (is_taken (slot_at slots at)) (is_noted slots (at + 1) n hash place) other e

pub under_past : {K V : Type 0} (eq : K → K → Bool) (entries : List (K × V)) (key : K) (place : ℕ) → length entries ≤ place → is_under eq entries key place ≡ false
under_past eq entries key place beyond = ap (λ o. option_map_or (λ entry. eq key entry.0) o false) (slice_get_past entries place beyond)

-- A slot that is free for a look.
pub free_same : (a b : ℕ) → Free a ≡ Free b → a ≡ b
free_same a b e = cc

either : (a b : Bool) → a || b ≡ true → (a ≡ true) ⊎ (b ≡ true)
either true b e = inl refl
either false b e = inr e

not_true : (b : Bool) → not b ≡ true → b ≡ false
not_true true e = cc
not_true false e = refl

pub free_on : (slots : List Slot) (at left slot : ℕ) → 0 < left → is_taken (slot_at slots at) ≡ true → is_free slots at left slot ≡ is_free slots (at + 1) (left - 1) slot
free_on slots at zero slot some taken = absurd (omega (some, arith))
free_on slots at (suc n) slot some taken =
    subst (λ m. is_free slots at (suc n) slot ≡ is_free slots (at + 1) m slot) (omega arith)
    (skipped (at == slot && not (is_taken (slot_at slots at))) (is_taken (slot_at slots at)) (is_free slots (at + 1) n slot) (and_right _ _ (ap not taken)) taken)

pub free_here : (slots : List Slot) (at left : ℕ) → 0 < left → is_taken (slot_at slots at) ≡ false → is_free slots at left at ≡ true
free_here slots at zero some vacant = absurd (omega (some, arith))
free_here slots at (suc n) some vacant = or_left _ _ (and_from _ _ (eq-eqb at at refl) (ap not vacant))

-- An empty slot that is looked at, and what is noted once it is written.
module _ (slots : List Slot) (p : ℕ) where
  pub free_vacant : (at n : ℕ) → is_free slots at n p ≡ true → is_taken (slot_at slots p) ≡ false
  free_vacant at zero e = cc
  free_vacant at (suc n) e = by (free_vacant (at + 1) n) (either _ _ e) where
    by : (is_free slots (at + 1) n p ≡ true → is_taken (slot_at slots p) ≡ false) → (at == p && not (is_taken (slot_at slots at)) ≡ true) ⊎ (is_taken (slot_at slots at) && is_free slots (at + 1) n p ≡ true) → is_taken (slot_at slots p) ≡ false
    by rest (inl here) = ap (λ q. is_taken (slot_at slots q)) (sym (eqb-true _ _ (and_parts _ _ here).0)) ∙ not_true _ (and_parts _ _ here).1
    by rest (inr on) = rest (and_parts _ _ on).1

  pub free_full : (at n : ℕ) → is_free slots at n p ≡ true → is_full slots at n ≡ false
  free_full at zero e = cc
  free_full at (suc n) e = by (free_full (at + 1) n) (either _ _ e) where
    by : (is_free slots (at + 1) n p ≡ true → is_full slots (at + 1) n ≡ false) → (at == p && not (is_taken (slot_at slots at)) ≡ true) ⊎ (is_taken (slot_at slots at) && is_free slots (at + 1) n p ≡ true) → is_full slots at (suc n) ≡ false
    by rest (inl here) = and_left _ _ (not_true _ (and_parts _ _ here).1)
    by rest (inr on) = and_right _ _ (rest (and_parts _ _ on).1)

  pub free_within : (at n : ℕ) → is_free slots at n p ≡ true → p < length slots
  free_within at n e = by (cases_lt p (length slots)) where
    by : (p < length slots) ⊎ (length slots ≤ p) → p < length slots
    by (inl within) = within
    by (inr beyond) = false_here (is_taken past) refl (ap is_taken (sym (get_or_past slots p past beyond)) ∙ free_vacant at n e)

  pub free_noted : (v : Slot) (hash place at n : ℕ) → p < length slots → is_taken v ≡ true → notes hash place v ≡ true → is_free slots at n p ≡ true → is_noted (set slots p v) at n hash place ≡ true
  free_noted v hash place at zero within taken noted e = cc
  free_noted v hash place at (suc n) within taken noted e = by (cases_eq at p) (either _ _ e) (free_noted v hash place (at + 1) n within taken noted) where
    by : (at ≡ p) ⊎ (at ≡ p → ⊥) → (at == p && not (is_taken (slot_at slots at)) ≡ true) ⊎ (is_taken (slot_at slots at) && is_free slots (at + 1) n p ≡ true) → (is_free slots (at + 1) n p ≡ true → is_noted (set slots p v) (at + 1) n hash place ≡ true)
        → is_noted (set slots p v) at (suc n) hash place ≡ true
    by (inl same) w rest = or_left _ _ (ap (λ q. notes hash place (slot_at (set slots p v) q)) same ∙ ap (notes hash place) (get_or-set_same slots p v past within) ∙ noted)
    by (inr other) (inl here) rest = absurd (other (eqb-true _ _ (and_parts _ _ here).0))
    by (inr other) (inr on) rest = or_right _ _ (and_from _ _ (ap is_taken (get_or-set_other slots p at v past other) ∙ (and_parts _ _ on).0) (rest (and_parts _ _ on).1))

pub vacant_notes : (hash place : ℕ) (slot : Slot) → is_taken slot ≡ false → place < 4294967295 → notes hash place slot ≡ false
vacant_notes hash place slot vacant small = notes_other hash place slot (λ _ same. false_here _ (taken_by slot (λ e. omega (e, same, small, arith))) vacant)
