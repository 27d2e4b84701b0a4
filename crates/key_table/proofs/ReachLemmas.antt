-- How entries are reached once slots and strays have changed.
use Rattle.std.proofs.Common.{◌≡◌, ◌<◌, ◌≤◌, ℕ, Bool, true, false, ◌⊎◌, inl, inr, List, length, Some, None, Option, slice_get, true≢false, refl, sym, subst, arith}
use Rattle.std.proofs.lemmas.Bool.{cases_Bool}
use Rattle.std.proofs.lemmas.Option.{slice_get_within}
use Rattle.std.specs.Option.{option_map_or}
use Rattle.std.specs.declared.cmp.Ordering.{Ordering}
use Rattle.key_table.specs.Reached.{AreReached, IsReached, KeepsReached}
use Rattle.key_table.specs.Slots.{Keeps, home, is_free, is_full, is_noted, is_under, steps}
use Rattle.key_table.specs.Strays.{IsStray, KeepsStrays}
use Rattle.key_table.specs.declared.slots.Slot.{Slot}
use Rattle.key_table.specs.declared.strays.Strays.{Strays}
use Rattle.key_table.proofs.SlotLemmas.{false_here, free_full}

pub record Under {K V : Type 0} (eq : K → K → Bool) (entries : List (K × V)) (key : K) (place : ℕ) : Type 0 where
  pub entry : K × V
  pub there : slice_get entries place ≡ Some entry
  pub same : eq key entry.0 ≡ true

pub under_entry : {K V : Type 0} (eq : K → K → Bool) (entries : List (K × V)) (key : K) (place : ℕ) → is_under eq entries key place ≡ true → Under eq entries key place
under_entry {K} {V} eq entries key place e = by (slice_get entries place) refl e where
  by : (o : Option (K × V)) → slice_get entries place ≡ o → option_map_or (λ entry. eq key entry.0) o false ≡ true → Under eq entries key place
  by None at t = absurd (true≢false (sym t))
  by (Some entry) at t = record { entry = entry; there = at; same = t }

module _ {K : Type 0} (eq : K → K → Bool) (cmp : K → K → Ordering) where
  pub reached_kept : (P : ℕ → Type 0) (key : K) (slots others : List Slot) (strays more : Strays K) → Keeps P slots others → length others ≡ length slots → KeepsStrays eq cmp key strays more → KeepsReached cmp eq P key slots strays others more
  reached_kept P key slots others strays more keeps len kept = λ other hash place p apart reached.
      elim reached [
        | inl noted ↦ inl (subst (λ n. is_noted others (home n hash) steps hash place ≡ true) (sym len) (keeps.noted (home (length slots) hash) steps hash place p noted))
        | inr stray ↦ inr (
          subst (λ n. is_full others (home n hash) steps ≡ true) (sym len) (keeps.full (home (length slots) hash) steps stray.0),
          kept other place apart stray.1,
        )
      ]

  pub strays_kept : (key : K) (strays : Strays K) → KeepsStrays eq cmp key strays strays
  strays_kept key strays = λ other place apart stray. stray

  -- No entry has a key that is neither noted nor a stray.
  pub none_under : {V : Type 0} (hash : K → ℕ) → ((x y : K) → eq x y ≡ true → hash x ≡ hash y) → (slots : List Slot) (strays : Strays K) (entries : List (K × V)) (key : K) → AreReached cmp hash entries slots strays
      → ((place : ℕ) → is_under eq entries key place ≡ true → is_noted slots (home (length slots) (hash key)) steps (hash key) place ≡ false)
      → ((place : ℕ) (own : K) → eq key own ≡ true → is_full slots (home (length slots) (hash key)) steps ≡ true → IsStray cmp strays own place → is_under eq entries key place ≡ false)
      → (place : ℕ) → is_under eq entries key place ≡ false
  none_under {V} hash respects slots strays entries key reached no_note no_stray place = by (cases_Bool (is_under eq entries key place)) where
    found : (u : Under eq entries key place) → is_under eq entries key place ≡ true → IsReached cmp slots strays u.entry.0 (hash key) place → is_under eq entries key place ≡ false
    found u t (inl noted) = false_here _ noted (no_note place t)
    found u t (inr stray) = no_stray place u.entry.0 u.same stray.0 stray.1

    here : (u : Under eq entries key place) → is_under eq entries key place ≡ true → is_under eq entries key place ≡ false
    here u t = found u t (subst (λ h. IsReached cmp slots strays u.entry.0 h place) (sym (respects key u.entry.0 u.same)) (reached place u.entry u.there))

    by : (is_under eq entries key place ≡ true) ⊎ (is_under eq entries key place ≡ false) → is_under eq entries key place ≡ false
    by (inl t) = here (under_entry eq entries key place t) t
    by (inr f) = f

  -- No entry has a key that is not noted where a slot is free for it.
  pub none_free : {V : Type 0} (hash : K → ℕ) → ((x y : K) → eq x y ≡ true → hash x ≡ hash y) → (slots : List Slot) (strays : Strays K) (entries : List (K × V)) (key : K) (h slot : ℕ) → AreReached cmp hash entries slots strays → h ≡ hash key
      → is_free slots (home (length slots) h) steps slot ≡ true
      → ((place : ℕ) → is_under eq entries key place ≡ true → is_noted slots (home (length slots) h) steps h place ≡ false)
      → (place : ℕ) → is_under eq entries key place ≡ false
  none_free hash respects slots strays entries key h slot reached hashed free no_note =
      none_under hash respects slots strays entries key reached (λ place under. subst (λ k. is_noted slots (home (length slots) k) steps k place ≡ false) hashed (no_note place under))
      (λ place own same full stray. false_here _ full (subst (λ k. is_full slots (home (length slots) k) steps ≡ false) hashed (free_full slots slot (home (length slots) h) steps free)))

  -- The places of entries are reached where slots keep what they note of them.
  pub all_kept : {V : Type 0} (hash : K → ℕ) (slots others : List Slot) (strays : Strays K) (entries : List (K × V)) (n : ℕ) → length entries < n → Keeps (λ i. i < n) slots others → length others ≡ length slots → AreReached cmp hash entries slots strays → AreReached cmp hash entries others strays
  all_kept hash slots others strays entries n small keeps len reached place entry at =
      elim (reached place entry at) [
        | inl noted ↦ inl (subst (λ m. is_noted others (home m (hash entry.0)) steps (hash entry.0) place ≡ true) (sym len) (keeps.noted (home (length slots) (hash entry.0)) steps (hash entry.0) place (omega (slice_get_within entries place entry at, small, arith)) noted))
        | inr stray ↦ inr (subst (λ m. is_full others (home m (hash entry.0)) steps ≡ true) (sym len) (keeps.full (home (length slots) (hash entry.0)) steps stray.0), stray.1)
      ]

-- What is kept of places is kept of fewer.
pub keeps_fewer : (n m : ℕ) (slots others : List Slot) → m ≤ n → Keeps (λ i. i < n) slots others → Keeps (λ i. i < m) slots others
keeps_fewer n m slots others less keeps = record { noted = λ at k hash place i. keeps.noted at k hash place (omega (i, less, arith)); full = keeps.full }
