-- The contents of a world of journals.
use Rattle.std.proofs.Common.{◌≡◌, ℕ, zero, suc, Bool, true, false, cond, ◌⊎◌, inl, inr, List, [], ◌∷◌, Option, Some, None, refl, sym, ap, ◌∙◌, subst}
use Rattle.std.specs.Prelude.{slice_get, IsSome}
use Rattle.std.specs.List.{list_any}
use Rattle.std.specs.FinMap as finmap
use Rattle.std.specs.FinMap.{get-empty, get-insert}
use Rattle.std.specs.FinSet as set
use Rattle.gtid_set.proofs.SetLemmas.{gtid_tied}
use Rattle.rows.specs.declared.change.Transaction.{Transaction}
use Rattle.gtid_text.specs.declared.Gtid.{Gtid}
use Rattle.gtid_text.specs.Gtids.{gtid_cmp, same_gtid}
use Rattle.gtid_set.specs.Sets.{Gtids}
use Rattle.journal.specs.declared.Entry.{Entry}
use Rattle.journal.specs.Journals.{JournalValue}
use Rattle.history.specs.Sources.{World, content}
use Rattle.history.specs.Sources as history
use Rattle.history.specs.World.{IsIn}
use Rattle.history.proofs.SourceEntries.{is_in, found}
use Rattle.history.proofs.Covering.{is_entry, entries_append, any_tied}
use Rattle.world.specs.Audit.{all_entries, first_contents}
use Rattle.std.proofs.lemmas.Bool.{or_cases, or_left, or_right}
use Rattle.std.proofs.lemmas.Option.{same_Some}
use Rattle.std.proofs.lemmas.Map.Keys.{any_passes_from_place}
use Rattle.lemmas.proofs.Options.{none_some}
use Rattle.lemmas.proofs.Tests.{not_both}
use Rattle.lemmas.proofs.SameGtid.{same_itself, same_is_equal, gtid_total}
use Rattle.lemmas.proofs.Lists.{all_at, any_at}

-- ---- entries and places

pub entry_at : (es : List Entry) (g : Gtid) → is_entry es g ≡ true → (i : ℕ) × (e : Entry) × (slice_get es i ≡ Some e) × (e.gtid ≡ g)
entry_at es g h = let r = any_at (λ (e : Entry). same_gtid g e.gtid) es h in (r.0, r.1, r.2, sym (same_is_equal g r.1.gtid r.3))

pub entry_from : (es : List Entry) (i : ℕ) (e : Entry) → slice_get es i ≡ Some e → is_entry es e.gtid ≡ true
entry_from es i e h = any_passes_from_place (λ (x : Entry). same_gtid e.gtid x.gtid) es i e h (same_itself e.gtid)

pub of_all : (js : List JournalValue) (i : ℕ) (j : JournalValue) (g : Gtid) → slice_get js i ≡ Some j → is_entry j.entries g ≡ true → is_entry (all_entries js) g ≡ true
of_all [] i j g h e = none_some j h
of_all (k ∷ js) zero j g h e = entries_append k.entries (all_entries js) g ∙ or_left (is_entry k.entries g) (is_entry (all_entries js) g) (ap (λ (x : JournalValue). is_entry x.entries g) (same_Some k j h) ∙ e)
of_all (k ∷ js) (suc i) j g h e = entries_append k.entries (all_entries js) g ∙ or_right (is_entry k.entries g) (is_entry (all_entries js) g) (of_all js i j g h e)

pub in_all : (js : List JournalValue) (g : Gtid) → is_entry (all_entries js) g ≡ true → (i : ℕ) × (j : JournalValue) × (slice_get js i ≡ Some j) × (is_entry j.entries g ≡ true)
in_all [] g e = cc
in_all (k ∷ js) g e = elim (or_cases (is_entry k.entries g) (is_entry (all_entries js) g) (sym (entries_append k.entries (all_entries js) g) ∙ e)) [
  | inl here ↦ (zero, k, refl, here)
  | inr later ↦ let r = in_all js g later in (suc r.0, r.1, r.2, r.3)
]

in_at : (c : history.Entry) (es : List history.Entry) → IsIn c es → (i : ℕ) × (slice_get es i ≡ Some c)
in_at c [] h = absurd h
in_at c (e ∷ es) (inl same) = (zero, ap Some same)
in_at c (e ∷ es) (inr later) = let r = in_at c es later in (suc r.0, r.1)

-- a content is among the world's entries
pub content_at : (world : World) (g : Gtid) (t : Transaction) → content world g ≡ Some t → (i : ℕ) × (slice_get (finmap.entries world.contents) i ≡ Some (g, t))
content_at world g t e = in_at (g, t) (finmap.entries world.contents) (is_in world g t e)

pub at_content : (world : World) (i : ℕ) (e : history.Entry) → slice_get (finmap.entries world.contents) i ≡ Some e → content world e.0 ≡ Some e.1
at_content world i e h = all_at (λ (x : history.Entry). content world x.0 ≡ Some x.1) (finmap.entries world.contents) i e (found world) h

pub in_items : (s : Gtids) (g : Gtid) → set.contains s g ≡ list_any (same_gtid g) (set.items s)
in_items s g = set.contains-items s g ∙ any_tied (set.items s) g

-- ---- first contents

pub some_of : {A : Type 0} (o : Option A) → IsSome o → (x : A) × (o ≡ Some x)
some_of (Some x) h = (x, refl)
some_of None h = cc

module _ (opened : Gtids) where
  get_more : (e : Entry) (es : List Entry) (g : Gtid) (b : Bool) → finmap.get (cond b (first_contents opened es) (finmap.insert (first_contents opened es) e.gtid e.txn)) g ≡ cond b (finmap.get (first_contents opened es) g) (cond (same_gtid g e.gtid) (Some e.txn) (finmap.get (first_contents opened es) g))
  get_more e es g true = refl
  get_more e es g false = get-insert gtid_total (first_contents opened es) e.gtid e.txn g ∙ ap (λ b. cond b (Some e.txn) (finmap.get (first_contents opened es) g)) (gtid_tied g e.gtid)

  -- what has a content was not executed from the start
  outside_by : (e : Entry) (o : Option Transaction) (g : Gtid) (t : Transaction) (b c : Bool) → set.contains opened e.gtid ≡ b → same_gtid g e.gtid ≡ c → (o ≡ Some t → set.contains opened g ≡ false) → cond b o (cond c (Some e.txn) o) ≡ Some t → set.contains opened g ≡ false
  outside_by e o g t true c p q h f = h f
  outside_by e o g t false true p q h f = ap (set.contains opened) (same_is_equal g e.gtid q) ∙ p
  outside_by e o g t false false p q h f = h f

  pub contents_outside : (es : List Entry) (g : Gtid) (t : Transaction) → finmap.get (first_contents opened es) g ≡ Some t → set.contains opened g ≡ false
  contents_outside [] g t f = none_some t (sym (get-empty gtid_cmp g) ∙ f)
  contents_outside (e ∷ es) g t f = outside_by e (finmap.get (first_contents opened es) g) g t (set.contains opened e.gtid) (same_gtid g e.gtid) refl refl (contents_outside es g t) (sym (get_more e es g (set.contains opened e.gtid)) ∙ f)

  -- what has a content is an entry
  entry_by : (e : Entry) (es : List Entry) (o : Option Transaction) (g : Gtid) (t : Transaction) (b c : Bool) → same_gtid g e.gtid ≡ c → (o ≡ Some t → is_entry es g ≡ true) → cond b o (cond c (Some e.txn) o) ≡ Some t → is_entry (e ∷ es) g ≡ true
  entry_by e es o g t true c q h f = or_right (same_gtid g e.gtid) (is_entry es g) (h f)
  entry_by e es o g t false true q h f = or_left (same_gtid g e.gtid) (is_entry es g) q
  entry_by e es o g t false false q h f = or_right (same_gtid g e.gtid) (is_entry es g) (h f)

  pub contents_entry : (es : List Entry) (g : Gtid) (t : Transaction) → finmap.get (first_contents opened es) g ≡ Some t → is_entry es g ≡ true
  contents_entry [] g t f = none_some t (sym (get-empty gtid_cmp g) ∙ f)
  contents_entry (e ∷ es) g t f = entry_by e es (finmap.get (first_contents opened es) g) g t (set.contains opened e.gtid) (same_gtid g e.gtid) refl (contents_entry es g t) (sym (get_more e es g (set.contains opened e.gtid)) ∙ f)

  -- an entry that was not executed from the start has a content
  has_by : (e : Entry) (o : Option Transaction) (g : Gtid) (b c : Bool) → set.contains opened e.gtid ≡ b → same_gtid g e.gtid ≡ c → set.contains opened g ≡ false → (c ≡ true) ⊎ IsSome o → IsSome (cond b o (cond c (Some e.txn) o))
  has_by e o g true true p q n h = not_both (set.contains opened g) (ap (set.contains opened) (same_is_equal g e.gtid q) ∙ p) n
  has_by e o g true false p q n (inl x) = absurd (never x)
    where
      never : false ≡ true → ⊥
      never y = cc
  has_by e o g true false p q n (inr x) = x
  has_by e o g false true p q n h = refl
  has_by e o g false false p q n (inl x) = absurd (never x)
    where
      never : false ≡ true → ⊥
      never y = cc
  has_by e o g false false p q n (inr x) = x

  pub entry_content : (es : List Entry) (g : Gtid) → is_entry es g ≡ true → set.contains opened g ≡ false → IsSome (finmap.get (first_contents opened es) g)
  entry_content [] g h n = cc
  entry_content (e ∷ es) g h n =
      subst (λ (o : Option Transaction). IsSome o) (sym (get_more e es g (set.contains opened e.gtid)))
      (has_by e (finmap.get (first_contents opened es) g) g (set.contains opened e.gtid) (same_gtid g e.gtid) refl refl n
      (elim (or_cases (same_gtid g e.gtid) (is_entry es g) h) [ inl here ↦ inl here | inr later ↦ inr (entry_content es g later n) ]))
