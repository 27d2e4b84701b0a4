-- The numbers that entries in the order of GTIDs skip are those that are missing.
use Rattle.std.proofs.Common.{◌≡◌, ℕ, zero, suc, ◌<◌, ◌≤◌, ◌+◌, ◌-◌, Bool, true, false, cond, not, ◌&&◌, ◌||◌, ◌⊎◌, inl, inr, List, [], ◌∷◌, Option, Some, None, refl, sym, ap, ◌∙◌, subst, arith, eqb}
use Rattle.std.specs.Prelude.{slice_get, nat_lt, nat_le}
use Rattle.std.specs.List.{list_any, AllByRecursion}
use Rattle.std.specs.FinMap as finmap
use Rattle.std.specs.FinSet as set
use Rattle.std.specs.FinSet.{contains-union, contains-difference, contains-empty}
use Rattle.std.specs.declared.cmp.Ordering.TheVariants.{Less}
use Rattle.std.proofs.lemmas.Bool.{eqb-true, eq-eqb, and_parts, and_from, or_cases, or_left, or_right, cases_Bool, false_from_ne_true, not-true, not_from_false}
use Rattle.std.proofs.lemmas.Bool.Decides.{nat_tests}
use Rattle.std.proofs.lemmas.Option.{same_Some}
use Rattle.lemmas.proofs.Numbers.{below_test, lt_of_test}
use Rattle.lemmas.proofs.Lists.{all_at}
use Rattle.lemmas.proofs.Options.{none_some}
use Rattle.lemmas.proofs.SameGtid.{gtid_total}
use Rattle.lemmas.proofs.Tests.{or_flat as turn, or_false}
use Rattle.gtid_text.specs.declared.Gtid.{Gtid}
use Rattle.gtid_text.specs.Gtids.{gtid_cmp, same_gtid}
use Rattle.gtid_set.proofs.SetLemmas.{contains-interval}
use Rattle.history.proofs.Covering.{in_insert}
use Rattle.world.specs.declared.verdict.Verdict.{Verdict}
use Rattle.world.specs.declared.verdict.Verdict.TheVariants.{Purged, Missing}
use Rattle.gtid_set.specs.Sets.{Gtids, interval}
use Rattle.rows.specs.declared.change.Transaction.{Transaction}
use Rattle.journal.specs.Journals.{JournalValue}
use Rattle.history.specs.Sources.{World, content, is_opened}
use Rattle.history.specs.Sources as history
use Rattle.history.proofs.SourceGtids.{number_less}
use Rattle.history.proofs.SourceEntries.{IsAscending, rising}
use Rattle.world.specs.Search.{when}
use Rattle.world.specs.Audit.{all_entries, world_of, present, is_recorded_in}
use Rattle.world.specs.Cases.{IsMissing}
use Rattle.world.proofs.Finding.{when_some}
use Rattle.world.proofs.Contents.{contents_entry, contents_outside, entry_content, content_at, at_content, some_of}
use Rattle.world.proofs.OnePass.{source_le}
use Rattle.audit.specs.Missing.{number_before}
use Rattle.audit.specs.Others.{lies_between, is_skipped, skips_from, skipped_in, missing_in, but_missing, is_of_missing, AreOtherMissing, is_of_journal, IsJournalNamed, other_purged_at, other_purged, each_from, with_pair, AreOtherJournals}

abbrev Lies : Gtid → Gtid → Type 0
Lies g p = (g.source < p.source) ⊎ ((g.source ≡ p.source) × (g.number < p.number))

lies : (g h : Gtid) → gtid_cmp g h ≡ Less → Lies g h
lies g h e = elim (source_le g h e) [ inl l ↦ inl l | inr s ↦ inr (s, number_less g h e s) ]

-- what comes before a part of the list
abbrev Precedes : Option Gtid → Gtid → Type 0
Precedes None g = Unit {0}
Precedes (Some p) g = Lies p g

-- the last before has a smaller number, where it is of the same source
abbrev Behind : Option Gtid → Gtid → Type 0
Behind None g = Unit {0}
Behind (Some p) g = p.source ≡ g.source → p.number < g.number

record IsSkipped (last : Option Gtid) (es : List history.Entry) (g : Gtid) : Type 0 where
  pub place : ℕ
  pub greater : history.Entry
  pub there : slice_get es place ≡ Some greater
  pub same : greater.0.source ≡ g.source
  pub less : g.number < greater.0.number
  pub absent : (i : ℕ) (f : history.Entry) → slice_get es i ≡ Some f → f.0 ≡ g → ⊥
  pub behind : Behind last g
  pub positive : 0 < g.number

record IsInGap (last : Option Gtid) (e g : Gtid) : Type 0 where
  pub source : g.source ≡ e.source
  pub low : number_before last e.source < g.number
  pub high : g.number < e.number

in_gap : (last : Option Gtid) (e g : Gtid) → lies_between e.source (number_before last e.source) e.number g ≡ true → IsInGap last e g
in_gap last e g h =
    let p = and_parts (eqb g.source e.source) _ h in
    let q = and_parts (nat_lt (number_before last e.source) g.number) (nat_lt g.number e.number) p.1 in
    record { source = eqb-true g.source e.source p.0; low = lt_of_test (number_before last e.source) g.number q.0; high = lt_of_test g.number e.number q.1 }

gap_in : (last : Option Gtid) (e g : Gtid) → IsInGap last e g → lies_between e.source (number_before last e.source) e.number g ≡ true
gap_in last e g h =
    and_from (eqb g.source e.source) _ (eq-eqb g.source e.source h.source)
    (and_from (nat_lt (number_before last e.source) g.number) (nat_lt g.number e.number) (below_test (number_before last e.source) g.number h.low) (below_test g.number e.number h.high))

gap_positive : (n m : ℕ) → n < m → 0 < m
gap_positive n m l = omega arith

gap_behind : (last : Option Gtid) (e g : Gtid) → IsInGap last e g → Behind last g
gap_behind None e g h = tt
gap_behind (Some p) e g h = λ same. subst (λ (b : Bool). cond b p.number 0 < g.number) (eq-eqb p.source e.source (same ∙ h.source)) h.low

number_of : (a b : Gtid) → a ≡ b → a.number ≡ b.number
number_of a b e = ap (λ (x : Gtid). x.number) e

source_of : (a b : Gtid) → a ≡ b → a.source ≡ b.source
source_of a b e = ap (λ (x : Gtid). x.source) e

not_same : (m n : ℕ) → m < n → n ≡ m → ⊥
not_same m n l e = omega arith

not_twice : (g e f : ℕ) → g < e → e < f → f ≡ g → ⊥
not_twice g e f a b c = omega arith

skipped_here : (last : Option Gtid) (e : history.Entry) (es : List history.Entry) (g : Gtid) → IsAscending (e ∷ es) → IsInGap last e.0 g → IsSkipped last (e ∷ es) g
skipped_here last e es g up h = record {
  place = zero;
  greater = e;
  there = refl;
  same = sym h.source;
  less = h.high;
  absent = absent;
  behind = gap_behind last e.0 g h;
  positive = gap_positive (number_before last e.0.source) g.number h.low;
}
  where
    absent : (i : ℕ) (f : history.Entry) → slice_get (e ∷ es) i ≡ Some f → f.0 ≡ g → ⊥
    absent zero f s q = not_same g.number e.0.number h.high (ap (λ (x : history.Entry). x.0.number) (same_Some e f s) ∙ number_of f.0 g q)
    absent (suc i) f s q =
        not_twice g.number e.0.number f.0.number h.high
        (number_less e.0 f.0 (all_at (λ (x : history.Entry). gtid_cmp e.0 x.0 ≡ Less) es i f up.0 s) (sym h.source ∙ sym (source_of f.0 g q))) (number_of f.0 g q)

-- what comes before e, and is of the source of something after e, is of the source of e
behind_on : (last : Option Gtid) (e f g : Gtid) → Precedes last e → Lies e f → f.source ≡ g.source → (e.source ≡ g.source → e.number < g.number) → Behind last g
behind_on None e f g l m s h = tt
behind_on (Some p) e f g l m s h = λ same. by l m same
  where
    between : (a b c : ℕ) → a ≤ b → b ≤ c → a ≡ c → b ≡ c
    between a b c x y z = omega arith

    le_of : (a b : ℕ) → a < b → a ≤ b
    le_of a b x = omega arith

    le_same : (a b : ℕ) → a ≡ b → a ≤ b
    le_same a b x = omega arith

    le_lies : (a b : Gtid) → Lies a b → a.source ≤ b.source
    le_lies a b (inl x) = le_of a.source b.source x
    le_lies a b (inr x) = le_same a.source b.source x.0

    trans : (a b c : ℕ) → a < b → b < c → a < c
    trans a b c x y = omega arith

    strict : (a b c : ℕ) → a < b → a ≡ c → b ≡ c → ⊥
    strict a b c x y z = omega arith

    by : Lies p e → Lies e f → p.source ≡ g.source → p.number < g.number
    by l m same =
        let here : e.source ≡ g.source = between p.source e.source f.source (le_lies p e l) (le_lies e f m) (same ∙ sym s) ∙ s in
        elim l [ inl x ↦ absurd (strict p.source e.source g.source x same here) | inr x ↦ trans p.number e.number g.number x.1 (h here) ]

skipped_later : (last : Option Gtid) (e : history.Entry) (es : List history.Entry) (g : Gtid) → IsAscending (e ∷ es) → Precedes last e.0 → IsSkipped (Some e.0) es g → IsSkipped last (e ∷ es) g
skipped_later last e es g up before h = record {
  place = suc h.place;
  greater = h.greater;
  there = h.there;
  same = h.same;
  less = h.less;
  absent = absent;
  behind = behind_on last e.0 h.greater.0 g before (lies e.0 h.greater.0 (all_at (λ (x : history.Entry). gtid_cmp e.0 x.0 ≡ Less) es h.place h.greater up.0 h.there)) h.same h.behind;
  positive = h.positive;
}
  where
    absent : (i : ℕ) (f : history.Entry) → slice_get (e ∷ es) i ≡ Some f → f.0 ≡ g → ⊥
    absent zero f s q =
        let same : e.0 ≡ g = ap (λ (x : history.Entry). x.0) (same_Some e f s) ∙ q in
        not_same e.0.number g.number (h.behind (source_of e.0 g same)) (sym (number_of e.0 g same))
    absent (suc i) f s q = h.absent i f s q

all_after : (e : history.Entry) (es : List history.Entry) → AllByRecursion (λ f. gtid_cmp e.0 f.0 ≡ Less) es → AllByRecursion (λ (f : history.Entry). Precedes (Some e.0) f.0) es
all_after e [] h = tt
all_after e (f ∷ es) h = (lies e.0 f.0 h.0, all_after e es h.1)

skipped_is : (last : Option Gtid) (es : List history.Entry) (g : Gtid) → IsAscending es → AllByRecursion (λ (f : history.Entry). Precedes last f.0) es → is_skipped last es g ≡ true → IsSkipped last es g
skipped_is last [] g up before h = cc
skipped_is last (e ∷ es) g up before h = elim (or_cases (lies_between e.0.source (number_before last e.0.source) e.0.number g) (is_skipped (Some e.0) es g) h) [
  | inl here ↦ skipped_here last e es g up (in_gap last e.0 g here)
  | inr later ↦ skipped_later last e es g up before.0 (skipped_is (Some e.0) es g up.1 (all_after e es up.0) later)
]

-- ---- the other way

low_bound : (last : Option Gtid) (e g : Gtid) → g.source ≡ e.source → Behind last g → 0 < g.number → number_before last e.source < g.number
low_bound None e g s b z = z
low_bound (Some p) e g s b z = by (eqb p.source e.source) refl
  where
    by : (t : Bool) → eqb p.source e.source ≡ t → cond t p.number 0 < g.number
    by true t = b (eqb-true p.source e.source t ∙ sym s)
    by false t = z

order : (m n : ℕ) → (m < n) ⊎ ((n < m) ⊎ (m ≡ n))
order m n = grind arith

is_later : (last : Option Gtid) (e : history.Entry) (es : List history.Entry) (g : Gtid) → IsSkipped last (e ∷ es) g → (e.0.source ≡ g.source → e.0.number < g.number) → IsSkipped (Some e.0) es g
is_later last e es g h b = by h.place h.there
  where
    never : (m n : ℕ) → m < n → n < m → ⊥
    never m n x y = omega arith

    by : (k : ℕ) → slice_get (e ∷ es) k ≡ Some h.greater → IsSkipped (Some e.0) es g
    by zero s =
        let same : e ≡ h.greater = same_Some e h.greater s in
        absurd (never g.number e.0.number (subst (λ (x : history.Entry). g.number < x.0.number) (sym same) h.less) (b (ap (λ (x : history.Entry). x.0.source) same ∙ h.same)))
    by (suc k) s = record { place = k; greater = h.greater; there = s; same = h.same; less = h.less; absent = λ i f t. h.absent (suc i) f t; behind = b; positive = h.positive }

is_skipped_from : (last : Option Gtid) (es : List history.Entry) (g : Gtid) → IsSkipped last es g → is_skipped last es g ≡ true
is_skipped_from last [] g h = none_some h.greater h.there
is_skipped_from last (e ∷ es) g h =
    by
    (λ b. or_right (lies_between e.0.source (number_before last e.0.source) e.0.number g) (is_skipped (Some e.0) es g) (is_skipped_from (Some e.0) es g (is_later last e es g h b)))
    (eqb e.0.source g.source) refl
  where
    by : ((e.0.source ≡ g.source → e.0.number < g.number) → is_skipped last (e ∷ es) g ≡ true) → (t : Bool) → eqb e.0.source g.source ≡ t → is_skipped last (e ∷ es) g ≡ true
    by later false t = later (λ s. absurd (no (sym (eq-eqb e.0.source g.source s) ∙ t)))
      where
        no : true ≡ false → ⊥
        no x = cc
    by later true t =
        let s : e.0.source ≡ g.source = eqb-true e.0.source g.source t in
        elim (order g.number e.0.number) [
          | inl low ↦ or_left (lies_between e.0.source (number_before last e.0.source) e.0.number g) (is_skipped (Some e.0) es g) (gap_in last e.0 g (record { source = sym s; low = low_bound last e.0 g (sym s) h.behind h.positive; high = low }))
          | inr more ↦ elim more [
            | inl high ↦ later (λ x. high)
            | inr same ↦ absurd (h.absent zero e refl (λ i. record { source = s i; number = sym same i }))
          ]
        ]

-- ---- what is missing

none_before : (es : List history.Entry) → AllByRecursion (λ (f : history.Entry). Precedes None f.0) es
none_before [] = tt
none_before (e ∷ es) = (tt, none_before es)

two_ways : (b : Bool) → b ≡ true → b ≡ false → ⊥
two_ways true p q = cc
two_ways false p q = cc

module _ (world : World) (journals : List JournalValue) where
  -- the world of these journals
  abbrev w : World
  w = world_of world.schema world.opening_set world.opening_rows journals

  abbrev es0 : List history.Entry
  es0 = present world journals

  pub skipped_missing : (g : Gtid) → is_opened world g ≡ false → is_skipped None es0 g ≡ true → IsMissing world journals g
  skipped_missing g new skipped =
      let s = skipped_is None es0 g (rising w) (none_before es0) skipped in
      let known = at_content w s.place s.greater s.there in
      record {
        new = new;
        absent = false_from_ne_true (is_recorded_in (all_entries journals) g) (λ stands.
            let t = some_of (content w g) (entry_content world.opening_set (all_entries journals) g stands new) in
            let at = content_at w g t.0 t.1 in
            s.absent at.0 (g, t.0) at.1 refl);
        positive = s.positive;
        greater = s.greater.0;
        beyond = contents_outside world.opening_set (all_entries journals) s.greater.0 s.greater.1 known;
        there = contents_entry world.opening_set (all_entries journals) s.greater.0 s.greater.1 known;
        same = s.same;
        below = s.less;
      }

  pub missing_skipped : (g : Gtid) → IsMissing world journals g → is_skipped None es0 g ≡ true
  missing_skipped g m =
      let t = some_of (content w m.greater) (entry_content world.opening_set (all_entries journals) m.greater m.there m.beyond) in
      let at = content_at w m.greater t.0 t.1 in
      is_skipped_from None es0 g (record {
        place = at.0;
        greater = (m.greater, t.0);
        there = at.1;
        same = m.same;
        less = m.below;
        absent = λ i f s same. two_ways (is_recorded_in (all_entries journals) g)
            (subst (λ (x : Gtid). is_recorded_in (all_entries journals) x ≡ true) same (contents_entry world.opening_set (all_entries journals) f.0 f.1 (at_content w i f s))) m.absent;
        behind = tt;
        positive = m.positive;
      })

-- ---- the set of them

low_same : (m n : ℕ) → nat_le (m + 1) n ≡ nat_lt m n
low_same m n = grind (arith, nat_tests)

high_same : (z m n : ℕ) → nat_lt z m ≡ true → nat_le m (n - 1) ≡ nat_lt m n
high_same z m n l = grind (arith, nat_tests)

covers_same : (s : Bool) (a m n : ℕ) → (s && (nat_le (a + 1) m && nat_le m (n - 1))) ≡ (s && (nat_lt a m && nat_lt m n))
covers_same false a m n = refl
covers_same true a m n = ap (λ b. b && nat_le m (n - 1)) (low_same a m) ∙ by (nat_lt a m) refl
  where
    by : (t : Bool) → nat_lt a m ≡ t → (t && nat_le m (n - 1)) ≡ (t && nat_lt m n)
    by true e = high_same a m n e
    by false e = refl

pub in_skips : (skipped : Gtids) (last : Option Gtid) (es : List history.Entry) (g : Gtid) → set.contains (skips_from skipped last es) g ≡ (set.contains skipped g || is_skipped last es g)
in_skips skipped last [] g = or_false (set.contains skipped g)
in_skips skipped last (e ∷ es) g =
    let lo = number_before last e.0.source in
    in_skips (set.union skipped (interval e.0.source (lo + 1) (e.0.number - 1))) (Some e.0) es g
    ∙ ap (λ b. b || is_skipped (Some e.0) es g) (contains-union gtid_total skipped (interval e.0.source (lo + 1) (e.0.number - 1)) g ∙ ap (λ b. set.contains skipped g || b) (contains-interval e.0.source (lo + 1) (e.0.number - 1) g ∙ covers_same (eqb g.source e.0.source) lo g.number e.0.number))
    ∙ turn (set.contains skipped g) (lies_between e.0.source lo e.0.number g) (is_skipped (Some e.0) es g)

in_empty_or : (b : Bool) (g : Gtid) → (set.contains {R = gtid_cmp} set.empty g || b) ≡ b
in_empty_or b g = ap (λ c. c || b) (contains-empty gtid_cmp g)

in_missing : (world : World) (journals : List JournalValue) (g : Gtid) → set.contains (missing_in world journals) g ≡ (is_skipped None (present world journals) g && not (is_opened world g))
in_missing world journals g =
    contains-difference gtid_total (skipped_in world journals) world.opening_set g
    ∙ ap (λ b. b && not (is_opened world g)) (in_skips set.empty None (present world journals) g ∙ in_empty_or (is_skipped None (present world journals) g) g)

-- what is in the set is missing
pub in_set_missing : (world : World) (journals : List JournalValue) (g : Gtid) → set.contains (missing_in world journals) g ≡ true → IsMissing world journals g
in_set_missing world journals g h =
    let q = and_parts (is_skipped None (present world journals) g) (not (is_opened world g)) (sym (in_missing world journals g) ∙ h) in
    skipped_missing world journals g (not-true (is_opened world g) q.1) q.0

pub in_one : (g h : Gtid) → set.contains {R = gtid_cmp} (set.insert set.empty g) h ≡ same_gtid h g
in_one g h = in_insert (set.empty {R = gtid_cmp}) g h ∙ ap (λ b. same_gtid h g || b) (contains-empty gtid_cmp h) ∙ sym (or_false (same_gtid h g))

and_not : (a : Bool) → a ≡ (a && not false)
and_not true = refl
and_not false = refl

pub in_but : (v : Verdict) (gtids : Gtids) (g : Gtid) → set.contains (but_missing v gtids) g ≡ (set.contains gtids g && not (is_of_missing g v))
in_but (Missing h) gtids g = contains-difference gtid_total gtids (set.insert set.empty h) g ∙ ap (λ b. set.contains gtids g && not b) (in_one h g)
in_but _ gtids g = and_not (set.contains gtids g)

pub others_missing : (world : World) (journals : List JournalValue) (v : Verdict) → AreOtherMissing world journals v (but_missing v (missing_in world journals))
others_missing world journals v = record {
  named = λ g h.
      let p = and_parts (set.contains (missing_in world journals) g) (not (is_of_missing g v)) (sym (in_but v (missing_in world journals) g) ∙ h) in
      (in_set_missing world journals g p.0, not-true (is_of_missing g v) p.1);
  every = λ g m.
      let q : set.contains (missing_in world journals) g ≡ true = in_missing world journals g ∙ and_from (is_skipped None (present world journals) g) (not (is_opened world g)) (missing_skipped world journals g m) (not_from_false (is_opened world g) m.new) in
      ap (λ b. is_of_missing g v || b) (in_but v (missing_in world journals) g ∙ ap (λ b. b && not (is_of_missing g v)) q) ∙ either (is_of_missing g v);
}
  where
    either : (b : Bool) → (b || (true && not b)) ≡ true
    either true = refl
    either false = refl

-- ---- the numbers that a world's contents pass over

pub content_not_skipped : (world : World) (g : Gtid) (t : Transaction) → content world g ≡ Some t → set.contains (skips_from set.empty None (finmap.entries world.contents)) g ≡ false
content_not_skipped world g t h = false_from_ne_true (set.contains (skips_from set.empty None (finmap.entries world.contents)) g) (λ e.
    let es = finmap.entries world.contents in
    let at = content_at world g t h in
    let s = skipped_is None es g (rising world) (none_before es) (sym (in_skips set.empty None es g ∙ in_empty_or (is_skipped None es g) g) ∙ e) in
    s.absent at.0 (g, t) at.1 refl)

pub lower_skipped : (world : World) (g h : Gtid) (t : Transaction) → content world g ≡ Some t → h.source ≡ g.source → 0 < h.number → h.number < g.number → content world h ≡ None
    → set.contains (skips_from set.empty None (finmap.entries world.contents)) h ≡ true
lower_skipped world g h t there source positive less none =
    let es = finmap.entries world.contents in
    let at = content_at world g t there in
    in_skips set.empty None es h ∙ (in_empty_or (is_skipped None es h) h ∙ is_skipped_from None es h (record {
      place = at.0;
      greater = (g, t);
      there = at.1;
      same = sym source;
      less = less;
      absent = λ i f s same. none_some f.1 (sym none ∙ (ap (content world) (sym same) ∙ at_content world i f s));
      behind = tt;
      positive = positive;
    }))

-- ---- journals

said_of_journal : (world : World) (v : Verdict) (n : ℕ) (j : JournalValue) (w : Verdict) → other_purged_at world v n j ≡ Some w
    → (set.is_subset j.previous world.opening_set ≡ false) × (w ≡ Purged n (set.difference j.previous world.opening_set))
said_of_journal world v n j w e =
    let c = when_some (not (set.is_subset j.previous world.opening_set) && not (is_of_journal n v)) (Purged n (set.difference j.previous world.opening_set)) w e in
    (not-true (set.is_subset j.previous world.opening_set) (and_parts (not (set.is_subset j.previous world.opening_set)) (not (is_of_journal n v)) c.0).0, sym c.1)

module _ (world : World) (journals : List JournalValue) (v : Verdict) where
  abbrev Places : ℕ → List JournalValue → Type 0
  Places n js = (i : ℕ) (j : JournalValue) → slice_get js i ≡ Some j → slice_get journals (n + i) ≡ Some j

  places_on : (n : ℕ) (x : JournalValue) (js : List JournalValue) → Places n (x ∷ js) → Places (n + 1) js
  places_on n x js at i j s = ap (slice_get journals) (shift n i) ∙ at (suc i) j s
    where
      shift : (n i : ℕ) → (n + 1) + i ≡ n + suc i
      shift n i = omega arith

  put_named : (n : ℕ) (x : JournalValue) (js : List JournalValue) (o : Option Verdict) (vs : List Verdict) → Places n (x ∷ js) → other_purged_at world v n x ≡ o → AllByRecursion (IsJournalNamed world journals) vs → AllByRecursion (IsJournalNamed world journals) (with_pair o vs)
  put_named n x js None vs at e s = s
  put_named n x js (Some w) vs at e s =
      let c = said_of_journal world v n x w e in (
        subst (IsJournalNamed world journals) (sym c.1) (record { journal = x; there = ap (slice_get journals) (start n) ∙ at zero x refl; named = refl; more = c.0 }),
        s,
      )
    where
      start : (n : ℕ) → n ≡ n + zero
      start n = omega arith

  each_named : (n : ℕ) (js : List JournalValue) → Places n js → AllByRecursion (IsJournalNamed world journals) (each_from (other_purged_at world v) n js)
  each_named n [] at = tt
  each_named n (x ∷ js) at = put_named n x js (other_purged_at world v n x) (each_from (other_purged_at world v) (n + 1) js) at refl (each_named (n + 1) js (places_on n x js at))

  kept_by : (k : ℕ) (o : Option Verdict) (vs : List Verdict) → list_any (is_of_journal k) vs ≡ true → list_any (is_of_journal k) (with_pair o vs) ≡ true
  kept_by k None vs e = e
  kept_by k (Some w) vs e = or_right (is_of_journal k w) (list_any (is_of_journal k) vs) e

  each_listed : (n : ℕ) (js : List JournalValue) (i : ℕ) (j : JournalValue) → slice_get js i ≡ Some j → set.is_subset j.previous world.opening_set ≡ false → is_of_journal (n + i) v ≡ false
      → list_any (is_of_journal (n + i)) (each_from (other_purged_at world v) n js) ≡ true
  each_listed n [] i j s more new = none_some j s
  each_listed n (x ∷ js) zero j s more new =
      let same : x ≡ j = same_Some x j s in
      let start : n + zero ≡ n = omega arith in
      let here : other_purged_at world v n x ≡ Some (Purged n (set.difference x.previous world.opening_set)) =
      λ k. when (not ((ap (λ (y : JournalValue). set.is_subset y.previous world.opening_set) same ∙ more) k) && not ((ap (λ m. is_of_journal m v) (sym start) ∙ new) k)) (Purged n (set.difference x.previous world.opening_set)) in
      ap (λ o. list_any (is_of_journal (n + zero)) (with_pair o (each_from (other_purged_at world v) (n + 1) js))) here
      ∙ or_left (eqb n (n + zero)) (list_any (is_of_journal (n + zero)) (each_from (other_purged_at world v) (n + 1) js)) (eq-eqb n (n + zero) (sym start))
  each_listed n (x ∷ js) (suc i) j s more new =
      let shift : (n + 1) + i ≡ n + suc i = omega arith in
      kept_by (n + suc i) (other_purged_at world v n x) (each_from (other_purged_at world v) (n + 1) js)
      (subst (λ m. list_any (is_of_journal m) (each_from (other_purged_at world v) (n + 1) js) ≡ true) shift
      (each_listed (n + 1) js i j s more (subst (λ m. is_of_journal m v ≡ false) (sym shift) new)))

  pub others_purged : AreOtherJournals world journals v (other_purged world journals v)
  others_purged = record {
    named = each_named zero journals (λ i j s. ap (slice_get journals) (start i) ∙ s);
    every = λ i gtids p. elim (cases_Bool (is_of_journal i v)) [
      | inl same ↦ or_left (is_of_journal i v) (list_any (is_of_journal i) (other_purged world journals v)) same
      | inr new ↦ or_right (is_of_journal i v) (list_any (is_of_journal i) (other_purged world journals v)) (subst (λ m. list_any (is_of_journal m) (other_purged world journals v) ≡ true) (start i)
          (each_listed zero journals i p.journal p.there p.more (ap (λ m. is_of_journal m v) (start i) ∙ new)))
    ];
  }
    where
      start : (i : ℕ) → zero + i ≡ i
      start i = omega arith
