-- One pass finds what is missing.
use Rattle.std.proofs.Common.{◌≡◌, ℕ, zero, suc, ◌<◌, ◌≤◌, ◌+◌, ◌-◌, Bool, true, false, cond, not, ◌&&◌, ◌⊎◌, inl, inr, map, List, [], ◌∷◌, Option, Some, None, refl, sym, ap, ◌∙◌, subst, arith, eqb}
use Rattle.std.specs.Prelude.{slice_get, find, option_map}
use Rattle.std.specs.List.{range_with_len, AllByRecursion}
use Rattle.std.specs.FinMap as finmap
use Rattle.std.specs.FinSet as set
use Rattle.std.specs.declared.cmp.Ordering.TheVariants.{Less}
use Rattle.std.proofs.lemmas.Bool.{eqb-true, eq-eqb, false_from_ne_true}
use Rattle.gtid_text.specs.declared.Gtid.{Gtid}
use Rattle.gtid_text.specs.Gtids.{gtid_cmp}
use Rattle.gtid_set.specs.Sets.{Gtids, gtid}
use Rattle.rows.specs.declared.change.Transaction.{Transaction}
use Rattle.rows.specs.declared.schema.Table.{Table}
use Rattle.rows.specs.Apply.{Rows}
use Rattle.journal.specs.Journals.{JournalValue}
use Rattle.history.specs.Sources.{World, content, is_opened}
use Rattle.history.specs.Sources as history
use Rattle.history.proofs.SourceGtids.{number_less}
use Rattle.history.proofs.SourceEntries.{IsAscending, AreFound, rising, found}
use Rattle.world.specs.declared.verdict.Verdict.{Verdict}
use Rattle.world.specs.declared.verdict.Verdict.TheVariants.{Missing}
use Rattle.world.specs.Search.{or_next, when, first}
use Rattle.world.specs.Audit.{all_entries, first_contents, world_of, present, is_recorded_in, is_absent, below, missing}
use Rattle.world.proofs.Finding.{when_none, first_none}
use Rattle.world.proofs.Contents.{contents_entry, entry_content, content_at, some_of}
use Rattle.world.proofs.OnePass.{source_le}
use Rattle.journal.specs.declared.Entry.{Entry}
use Rattle.audit.specs.Contents.{Contents, as_pair, in_order}
use Rattle.audit.proofs.Made.{pairs_of}
use Rattle.audit.specs.Missing.{number_before, missing_between, missing_from}
use Rattle.std.proofs.lemmas.Option.{same_Some}
use Rattle.lemmas.proofs.Options.{none_some}
use Rattle.lemmas.proofs.Lists.{all_at, get_range}

-- ---- a search over numbers

module _ (source : ℕ) (q : Gtid → Bool) where
  abbrev named : Gtid → Option Verdict
  named h = when (q h) (Missing h)

  abbrev numbers : ℕ → ℕ → List Gtid
  numbers x k = map (gtid source) (range_with_len x k)

  -- what does not pass at the start changes nothing
  skipped : (k x l : ℕ) → ((m : ℕ) → x ≤ m → m < x + k → q (gtid source m) ≡ false) → first named (numbers x (k + l)) ≡ first named (numbers (x + k) l)
  skipped zero x l h =
      let a : zero + l ≡ l = omega arith in
      let b : x ≡ x + zero = omega arith in
      λ i. first named (numbers (b i) (a i))
  skipped (suc k) x l h =
      let a : suc k + l ≡ suc (k + l) = omega arith in
      let b : (x + 1) + k ≡ x + suc k = omega arith in
      let out : q (gtid source x) ≡ false = h x (omega arith) (omega arith) in
      ap (λ n. first named (numbers x n)) a
      ∙ ap (λ t. or_next (when t (Missing (gtid source x))) (first named (numbers (x + 1) (k + l)))) out
      ∙ skipped k (x + 1) l (λ m y z. h m (omega arith) (omega arith))
      ∙ ap (λ n. first named (numbers n l)) b

  one_number : (b : Bool) (x : ℕ) (o : Option ℕ) (r : Option Verdict) → r ≡ option_map (λ n. Missing (gtid source n)) o → or_next (when b (Missing (gtid source x))) r ≡ option_map (λ n. Missing (gtid source n)) (cond b (Some x) o)
  one_number true x o r e = refl
  one_number false x o r e = e

  -- the first that passes, as a number
  passing : (p : ℕ → Bool) (l x : ℕ) → ((m : ℕ) → x ≤ m → m < x + l → q (gtid source m) ≡ p m) → first named (numbers x l) ≡ option_map (λ n. Missing (gtid source n)) (find p (range_with_len x l))
  passing p zero x h = refl
  passing p (suc l) x h =
      ap (λ t. or_next (when t (Missing (gtid source x))) (first named (numbers (x + 1) l))) (h x (omega arith) (omega arith))
      ∙ one_number (p x) x (find p (range_with_len (x + 1) l)) (first named (numbers (x + 1) l)) (passing p l (x + 1) (λ m y z. h m (omega arith) (omega arith)))

-- ---- the order of GTIDs

-- comes before, or is the same
abbrev Reaches : Gtid → Gtid → Type 0
Reaches g p = (g.source < p.source) ⊎ ((g.source ≡ p.source) × (g.number ≤ p.number))

abbrev Lies : Gtid → Gtid → Type 0
Lies g p = (g.source < p.source) ⊎ ((g.source ≡ p.source) × (g.number < p.number))

lies : (g h : Gtid) → gtid_cmp g h ≡ Less → Lies g h
lies g h e = elim (source_le g h e) [ inl l ↦ inl l | inr s ↦ inr (s, number_less g h e s) ]

reaches_on : (g p e : Gtid) → Reaches g p → Lies p e → Reaches g e
reaches_on g p e (inl a) (inl b) = inl (omega arith)
reaches_on g p e (inl a) (inr b) = let s = b.0 in inl (omega arith)
reaches_on g p e (inr a) (inl b) = let s = a.0 in inl (omega arith)
reaches_on g p e (inr a) (inr b) =
    let s = a.0 in let t = b.0 in let n = a.1 in let m = b.1 in
    inr ((s ∙ t), omega arith)

-- what comes before a part of the list
abbrev Passed : Option Gtid → Gtid → Type 0
Passed None g = ⊥
Passed (Some p) g = Reaches g p

abbrev Precedes : Option Gtid → Gtid → Type 0
Precedes None g = Unit {0}
Precedes (Some p) g = Lies p g

passed_on : (last : Option Gtid) (g e : Gtid) → Precedes last e → Passed last g → Reaches g e
passed_on None g e l h = absurd h
passed_on (Some p) g e l h = reaches_on g p e h l

before_same : (p : Gtid) (s : ℕ) (b : Bool) → eqb p.source s ≡ b → (n : ℕ) → 0 < n → n ≤ cond b p.number 0 → (p.source ≡ s) × (n ≤ p.number)
before_same p s true e n z l = (eqb-true p.source s e, l)
before_same p s false e n z l = absurd (omega arith)

before_bound : (last : Option Gtid) (e : Gtid) → Precedes last e → number_before last e.source ≤ e.number - 1
before_bound None e l = omega arith
before_bound (Some p) e l = by (eqb p.source e.source) refl
  where
    by : (b : Bool) → eqb p.source e.source ≡ b → cond b p.number 0 ≤ e.number - 1
    by false t = omega arith
    by true t =
        let s : p.source ≡ e.source = eqb-true p.source e.source t in
        elim l [ inl a ↦ absurd (omega arith) | inr a ↦ let n = a.1 in omega arith ]

-- what was passed has no greater number than the last of its source
passed_number : (last : Option Gtid) (e : Gtid) (m : ℕ) → Precedes last e → Passed last (gtid e.source m) → m ≤ number_before last e.source
passed_number None e m l h = absurd h
passed_number (Some p) e m l h = by (eqb p.source e.source) refl l h
  where
    by : (b : Bool) → eqb p.source e.source ≡ b → Lies p e → Reaches (gtid e.source m) p → m ≤ cond b p.number 0
    by true t x (inl a) = let s : p.source ≡ e.source = eqb-true p.source e.source t in absurd (omega arith)
    by true t x (inr a) = a.1
    by false t (inl a) (inl b) = absurd (omega arith)
    by false t (inl a) (inr b) = let s = b.0 in absurd (omega arith)
    by false t (inr a) b = let never : true ≡ false = sym (eq-eqb p.source e.source a.0) ∙ t in cc

or_next_same : (o p : Option Verdict) (q r : Option Verdict) → o ≡ p → (o ≡ None → q ≡ r) → or_next o q ≡ or_next p r
or_next_same (Some v) p q r e h = ap (λ x. or_next x r) e
or_next_same None p q r e h = h refl ∙ ap (λ x. or_next x r) e

absent_if : (a b c : Bool) → (a ≡ false → b ≡ false) → (not a && not b) ≡ not a
absent_if true b c h = refl
absent_if false b c h = ap not (h refl)

not_absent : (a b : Bool) → b ≡ true → (not a && not b) ≡ false
not_absent true b e = refl
not_absent false b e = ap not e

module _ (schema : List Table) (opened : Gtids) (rows : Rows) (journals : List JournalValue) where
  abbrev w : World
  w = world_of schema opened rows journals

  abbrev es0 : List history.Entry
  es0 = finmap.entries w.contents

  -- what has a content is not absent
  there : (g : Gtid) (t : Transaction) → content w g ≡ Some t → is_absent w journals g ≡ false
  there g t h = not_absent (is_opened w g) (is_recorded_in (all_entries journals) g) (contents_entry opened (all_entries journals) g t h)

  -- what has none is absent where it was not executed from the start
  absent : (g : Gtid) → ((t : Transaction) → content w g ≡ Some t → ⊥) → is_absent w journals g ≡ not (is_opened w g)
  absent g h = absent_if (is_opened w g) (is_recorded_in (all_entries journals) g) true (λ out. false_from_ne_true (is_recorded_in (all_entries journals) g) (λ stands.
      let s = some_of (content w g) (entry_content opened (all_entries journals) g stands out) in h s.0 s.1))

  abbrev Covered : Option Gtid → List history.Entry → Type 0
  Covered last es = (i : ℕ) (h : history.Entry) → slice_get es0 i ≡ Some h → Passed last h.0 ⊎ ((k : ℕ) × (slice_get es k ≡ Some h))

  abbrev Clear : Option Gtid → Type 0
  Clear last = (s m : ℕ) → 0 < m → m ≤ number_before last s → is_absent w journals (gtid s m) ≡ false

  abbrev here : history.Entry → Option Verdict
  here g = first (λ h. when (is_absent w journals h) (Missing h)) (below g.0)

  module _ (last : Option Gtid) (e : history.Entry) (es : List history.Entry) (up : IsAscending (e ∷ es)) (before : Precedes last e.0) (covered : Covered last (e ∷ es)) (clear : Clear last) where
    -- nothing is between the last and this one
    between : (m : ℕ) → number_before last e.0.source < m → m < e.0.number → (t : Transaction) → content w (gtid e.0.source m) ≡ Some t → ⊥
    between m low high t h =
        let at = content_at w (gtid e.0.source m) t h in
        elim (covered at.0 (gtid e.0.source m, t) at.1) [
          | inl passed ↦ let l = passed_number last e.0 m before passed in omega arith
          | inr among ↦ of_place among.0 among.1
        ]
      where
        of_place : (k : ℕ) → slice_get (e ∷ es) k ≡ Some (gtid e.0.source m, t) → ⊥
        of_place zero s =
            let same : e.0.number ≡ m = ap (λ (x : history.Entry). x.0.number) (same_Some e (gtid e.0.source m, t) s) in
            omega arith
        of_place (suc k) s =
            let l = number_less e.0 (gtid e.0.source m) (all_at (λ f. gtid_cmp e.0 f.0 ≡ Less) es k (gtid e.0.source m, t) up.0 s) refl in
            omega arith

    one : here e ≡ missing_between opened last e.0
    one =
        let a = number_before last e.0.source in
        let n = e.0.number in
        let bound : a ≤ n - 1 = before_bound last e.0 before in
        let parts : n - 1 ≡ a + (n - (a + 1)) = omega arith in
        let start : 1 + a ≡ a + 1 = omega arith in
        ap (λ k. first (λ h. when (is_absent w journals h) (Missing h)) (map (gtid e.0.source) (range_with_len 1 k))) parts
        ∙ skipped e.0.source (is_absent w journals) a 1 (n - (a + 1)) (λ m x y. clear e.0.source m (omega arith) (omega arith))
        ∙ ap (λ k. first (λ h. when (is_absent w journals h) (Missing h)) (map (gtid e.0.source) (range_with_len k (n - (a + 1))))) start
        ∙ passing e.0.source (is_absent w journals) (λ k. not (set.contains opened (gtid e.0.source k))) (n - (a + 1)) (a + 1)
        (λ m x y. absent (gtid e.0.source m) (λ t h. between m (omega arith) (omega arith) t h))

    covered_on : Covered (Some e.0) es
    covered_on i h s = elim (covered i h s) [
      | inl passed ↦ inl (passed_on last h.0 e.0 before passed)
      | inr among ↦ of_place among.0 among.1
    ]
      where
        of_place : (k : ℕ) → slice_get (e ∷ es) k ≡ Some h → Passed (Some e.0) h.0 ⊎ ((j : ℕ) × (slice_get es j ≡ Some h))
        of_place zero x = inl (inr (ap (λ (y : history.Entry). y.0.source) (sym (same_Some e h x)), le_of (ap (λ (y : history.Entry). y.0.number) (sym (same_Some e h x)))))
          where
            le_of : h.0.number ≡ e.0.number → h.0.number ≤ e.0.number
            le_of p = omega arith
        of_place (suc k) x = inr (k, x)

    clear_on : content w e.0 ≡ Some e.1 → here e ≡ None → Clear (Some e.0)
    clear_on known none s m positive high =
        let b = before_same e.0 s (eqb e.0.source s) refl m positive high in
        subst (λ (x : ℕ). is_absent w journals (gtid x m) ≡ false) b.0 (by (order m e.0.number b.1))
      where
        order : (x y : ℕ) → x ≤ y → (x < y) ⊎ (x ≡ y)
        order x y l = grind arith

        by : (m < e.0.number) ⊎ (m ≡ e.0.number) → is_absent w journals (gtid e.0.source m) ≡ false
        by (inr same) = subst (λ (x : ℕ). is_absent w journals (gtid e.0.source x) ≡ false) (sym same) (there e.0 e.1 known)
        by (inl less) =
            let place : 1 + (m - 1) ≡ m = omega arith in
            let at : slice_get (range_with_len 1 (e.0.number - 1)) (m - 1) ≡ Some m = get_range 1 (e.0.number - 1) (m - 1) (omega arith) ∙ ap Some place in
            when_none (is_absent w journals (gtid e.0.source m)) (Missing (gtid e.0.source m))
            (first_none (λ i h. when (is_absent w journals h) (Missing h)) (below e.0) none (m - 1) (gtid e.0.source m) (in_map (gtid e.0.source) (range_with_len 1 (e.0.number - 1)) (m - 1) m at))
          where
            in_map : (f : ℕ → Gtid) (xs : List ℕ) (i x : ℕ) → slice_get xs i ≡ Some x → slice_get (map f xs) i ≡ Some (f x)
            in_map f [] i x p = none_some x p
            in_map f (y ∷ xs) zero x p = ap (λ z. Some (f z)) (same_Some y x p)
            in_map f (y ∷ xs) (suc i) x p = in_map f xs i x p

  all_after : (e : history.Entry) (es : List history.Entry) → AllByRecursion (λ f. gtid_cmp e.0 f.0 ≡ Less) es → AllByRecursion (λ (f : history.Entry). Precedes (Some e.0) f.0) es
  all_after e [] h = tt
  all_after e (f ∷ es) h = (lies e.0 f.0 h.0, all_after e es h.1)

  pass : (es : List history.Entry) (last : Option Gtid) → IsAscending es → AreFound w es → AllByRecursion (λ (f : history.Entry). Precedes last f.0) es → Covered last es → Clear last → missing_from opened last es ≡ first here es
  pass [] last up known before covered clear = refl
  pass (e ∷ es) last up known before covered clear =
      let o = one last e es up before.0 covered clear in
      or_next_same (missing_between opened last e.0) (here e) (missing_from opened (Some e.0) es) (first here es) (sym o)
      (λ none. pass es (Some e.0) up.1 known.1 (all_after e es up.0) (covered_on last e es up before.0 covered clear) (clear_on last e es up before.0 covered clear known.0 (o ∙ none)))

  none_before : (es : List history.Entry) → AllByRecursion (λ (f : history.Entry). Precedes None f.0) es
  none_before [] = tt
  none_before (e ∷ es) = (tt, none_before es)

  pub passed_all : missing_from opened None es0 ≡ missing w journals
  passed_all = pass es0 None (rising w) (found w) (none_before es0) (λ i h s. inr (i, s)) (λ s m positive high. absurd (omega arith))

pub missing_passes : (world : World) (journals : List JournalValue) → missing_from world.opening_set None (present world journals) ≡ missing world journals
missing_passes world journals = passed_all world.schema world.opening_set world.opening_rows journals

-- what journals bring, as a list in the order of GTIDs
pub brought_pass : (world : World) (journals : List JournalValue) (opened : Gtids) (entries : List Entry) (contents : Contents) → opened ≡ world.opening_set → entries ≡ in_order contents → contents ≡ first_contents world.opening_set (all_entries journals)
    → missing_from opened None (map as_pair entries) ≡ missing world journals
brought_pass world journals opened entries contents same listed brought =
    (λ i. missing_from (same i) None ((pairs_of entries contents listed ∙ ap finmap.entries brought) i)) ∙ missing_passes world journals
