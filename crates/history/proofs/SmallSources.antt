-- The small world is sound.
use Rattle.std.proofs.Common.{◌≡◌, ℕ, ◌<◌, ◌≤◌, ◌⊎◌, Bool, true, false, inl, inr, List, [], ◌∷◌, Option, Some, None, refl, sym, ap, subst, ◌∙◌, arith}
use Rattle.std.specs.Prelude.{IsOk, IsSome}
use Rattle.std.specs.List.{AllByRecursion}
use Rattle.std.specs.FinMap as map
use Rattle.std.specs.FinMap.{entries, get-from_sorted, entries-from_sorted}
use Rattle.std.specs.FinSet.{contains-empty}
use Rattle.gtid_text.specs.declared.Gtid.{Gtid}
use Rattle.gtid_text.specs.Gtids.{gtid_cmp, same_gtid}
use Rattle.rows.specs.declared.change.Transaction.{Transaction}
use Rattle.rows.specs.declared.schema.Table.{Table}
use Rattle.rows.specs.Conflicts.{conflicts, conflict_is_sharing}
use Rattle.history.specs.Sources.{Entry, in_order, content, is_opened, apply_all, HasNumber, AreKeysSound, IsSound, IsClosed}
use Rattle.history.specs.Commits.{with_one, IsCommitOrder}
use Rattle.history.specs.SmallWorld.{accounts, nth_of, opens_first, changes_first, opens_second}
use Rattle.history.specs.SmallSources.{small_history, small_sources, first_of_each, SoundSourcesExist}
use Rattle.history.specs.World.{IsIn, Precedes}
use Rattle.history.proofs.Placing.{all_in}
use Rattle.history.proofs.SourceEntries.{is_in}
use Rattle.history.proofs.Same.{same_content, same_gtids, same_sound}
use Rattle.history.proofs.Ordering.{AllPairs, each_pair}
use Rattle.history.proofs.Small.{sound_worlds_exist as ordered_small}
use Rattle.std.proofs.lemmas.Bool.{or_cases}
use Rattle.lemmas.proofs.Tests.{not_both}
use Rattle.lemmas.proofs.SameGtid.{same_is_equal}

-- ---- what is in it

listed : entries small_sources.contents ≡ small_history
listed = entries-from_sorted gtid_cmp small_history tt

content_is : (g : Gtid) → content small_sources g ≡ map.find gtid_cmp g small_history
content_is g = get-from_sorted gtid_cmp small_history g tt

is_listed : (g : Gtid) (t : Transaction) → content small_sources g ≡ Some t → IsIn (g, t) small_history
is_listed g t f = subst (IsIn (g, t)) listed (is_in small_sources g t f)

three : (P : Entry → Type 0) → P (nth_of 1 1, opens_first) → P (nth_of 1 2, changes_first) → P (nth_of 2 1, opens_second) → AllByRecursion P small_history
three P a b c = (a, (b, (c, tt)))

-- what holds of the three holds of all that the sources committed
each : (P : Entry → Type 0) → AllByRecursion P small_history → (g : Gtid) (t : Transaction) → content small_sources g ≡ Some t → P (g, t)
each P all g t f = all_in P (g, t) small_history all (is_listed g t f)

each_two : (R : Entry → Entry → Type 0) → AllByRecursion (λ e. AllByRecursion (R e) small_history) small_history → (g h : Gtid) (t u : Transaction) → content small_sources g ≡ Some t → content small_sources h ≡ Some u → R (g, t) (h, u)
each_two R all g h t u f k = each (R (g, t)) (each (λ e. AllByRecursion (R e) small_history) all g t f) h u k

some_content : (g : Gtid) → IsSome (content small_sources g) → (t : Transaction) × (content small_sources g ≡ Some t)
some_content g h = of_option (content small_sources g) h
  where
    of_option : (o : Option Transaction) → IsSome o → (t : Transaction) × (o ≡ Some t)
    of_option (Some t) h = (t, refl)
    of_option None h = cc

is_some_of : (o : Option Transaction) (t : Transaction) → o ≡ Some t → IsSome o
is_some_of (Some u) t e = refl
is_some_of None t e = cc

not_opened : (g : Gtid) → is_opened small_sources g ≡ false
not_opened g = contains-empty gtid_cmp g

-- ---- its keys are sound

from_one : (g : Gtid) → IsSome (content small_sources g) → 0 < g.number
from_one g h = let t = some_content g h in each (λ e. 0 < e.0.number) (three (λ e. 0 < e.0.number) (omega arith) (omega arith) (omega arith)) g t.0 t.1

has : (s n : ℕ) (t : Transaction) → map.find gtid_cmp (nth_of s n) small_history ≡ Some t → HasNumber small_sources s n
has s n t e = inr (is_some_of (content small_sources (nth_of s n)) t (content_is (nth_of s n) ∙ e))

-- a number up to 1 is 1, and one up to 2 is 1 or 2
up_to_one : (s m : ℕ) → 0 < m → m ≤ 1 → HasNumber small_sources s 1 → HasNumber small_sources s m
up_to_one s m low high h = let one : 1 ≡ m = omega arith in subst (HasNumber small_sources s) one h

up_to_two : (s m : ℕ) → 0 < m → m ≤ 2 → HasNumber small_sources s 1 → HasNumber small_sources s 2 → HasNumber small_sources s m
up_to_two s m low high h k = elim (one_or_two m low high) [ inl e ↦ subst (HasNumber small_sources s) e h | inr e ↦ subst (HasNumber small_sources s) e k ]
  where
    one_or_two : (m : ℕ) → 0 < m → m ≤ 2 → (1 ≡ m) ⊎ (2 ≡ m)
    one_or_two m low high = grind arith

abbrev HasAllBefore : Entry → Type 0
HasAllBefore e = (m : ℕ) → 0 < m → m ≤ e.0.number → HasNumber small_sources e.0.source m

without_gap : (g : Gtid) (m : ℕ) → 0 < m → m ≤ g.number → IsSome (content small_sources g) → HasNumber small_sources g.source m
without_gap g m low high h =
    let t = some_content g h in
    each HasAllBefore (three HasAllBefore
    (λ m low high. up_to_one 1 m low high (has 1 1 opens_first refl))
    (λ m low high. up_to_two 1 m low high (has 1 1 opens_first refl) (has 1 2 changes_first refl))
    (λ m low high. up_to_one 2 m low high (has 2 1 opens_second refl))) g t.0 t.1 m low high

abbrev Apart : Entry → Entry → Type 0
Apart e f = (e.0.source ≡ f.0.source → ⊥) → conflicts small_sources.schema e.1 f.1 ≡ false

apart : AllByRecursion (λ e. AllByRecursion (Apart e) small_history) small_history
apart = three (λ e. AllByRecursion (Apart e) small_history)
    (three (Apart (nth_of 1 1, opens_first)) (λ n. absurd (n refl)) (λ n. absurd (n refl)) (λ n. conflict_is_sharing small_sources.schema opens_first opens_second))
    (three (Apart (nth_of 1 2, changes_first)) (λ n. absurd (n refl)) (λ n. absurd (n refl)) (λ n. conflict_is_sharing small_sources.schema changes_first opens_second))
    (three (Apart (nth_of 2 1, opens_second)) (λ n. conflict_is_sharing small_sources.schema opens_second opens_first) (λ n. conflict_is_sharing small_sources.schema opens_second changes_first) (λ n. absurd (n refl)))

keys_sound : AreKeysSound small_sources
keys_sound = record {
  outside = λ g h. not_opened g;
  from_one = from_one;
  without_gap = without_gap;
  apart = λ g h t u f k n. each_two Apart apart g h t u f k n;
}

-- ---- what the sources committed applies: the same transactions, in the same order, as in the small world of one order

abbrev schema : List Table
schema = accounts ∷ []

all_apply : IsOk (apply_all schema (entries small_sources.contents) map.empty)
all_apply = subst (λ es. IsOk (apply_all schema es map.empty)) (sym listed) ordered_small.sound.applies

small_sound : IsSound small_sources
small_sound = (same_sound small_sources keys_sound).1 (record { gtids = same_gtids small_sources keys_sound; applies = all_apply })

-- ---- its closed sets

abbrev Needs : (Gtid → Bool) → Entry → Entry → Type 0
Needs S e f = conflicts schema e.1 f.1 ≡ true → S f.0 ≡ true → S e.0 ≡ true

needs : (S : Gtid → Bool) → (S (nth_of 1 2) ≡ true → S (nth_of 1 1) ≡ true) → AllPairs (Needs S) small_history
needs S h = (
  (λ m y. h y, (λ m y. not_both (conflicts schema opens_first opens_second) m (conflict_is_sharing schema opens_first opens_second), tt)),
  ((λ m y. not_both (conflicts schema changes_first opens_second) m (conflict_is_sharing schema changes_first opens_second), tt), (tt, tt)),
)

-- A set of what the sources committed is closed where it has the first transaction of source 1 with the second.
closed_if : (S : Gtid → Bool) → ((g : Gtid) → S g ≡ true → IsSome (content small_sources g)) → (S (nth_of 1 2) ≡ true → S (nth_of 1 1) ≡ true) → IsClosed small_sources S
closed_if S known h = record {
  opened = λ g e. not_both (is_opened small_sources g) e (not_opened g);
  known = λ g e. inr (subst IsSome (sym (same_content small_sources g)) (known g e));
  earlier = λ e f p m y. each_pair (Needs S) small_history (needs S h) e f (subst (λ es. Precedes es e f) listed p) m y;
}

has_content : (s n : ℕ) (t : Transaction) (g : Gtid) → map.find gtid_cmp (nth_of s n) small_history ≡ Some t → same_gtid g (nth_of s n) ≡ true → IsSome (content small_sources g)
has_content s n t g e same = is_some_of (content small_sources g) t (ap (content small_sources) (same_is_equal g (nth_of s n) same) ∙ (content_is (nth_of s n) ∙ e))

first_content : (g : Gtid) → same_gtid g (nth_of 1 1) ≡ true → IsSome (content small_sources g)
first_content g e = has_content 1 1 opens_first g refl e

change_content : (g : Gtid) → same_gtid g (nth_of 1 2) ≡ true → IsSome (content small_sources g)
change_content g e = has_content 1 2 changes_first g refl e

second_content : (g : Gtid) → same_gtid g (nth_of 2 1) ≡ true → IsSome (content small_sources g)
second_content g e = has_content 2 1 opens_second g refl e

-- a set that grows by one GTID that has content
more : (S : Gtid → Bool) (g : Gtid) → ((h : Gtid) → same_gtid h g ≡ true → IsSome (content small_sources h)) → ((h : Gtid) → S h ≡ true → IsSome (content small_sources h)) → (h : Gtid) → with_one S g h ≡ true → IsSome (content small_sources h)
more S g one all h e = elim (or_cases (same_gtid h g) (S h) e) [ inl p ↦ one h p | inr q ↦ all h q ]

none_yet : (g : Gtid) → is_opened small_sources g ≡ true → IsSome (content small_sources g)
none_yet g e = not_both (is_opened small_sources g) e (not_opened g)

abbrev opening : Gtid → Bool
opening = is_opened small_sources

one_order : IsCommitOrder (in_order small_sources) opening (nth_of 1 1 ∷ nth_of 1 2 ∷ nth_of 2 1 ∷ [])
one_order =
    let S = with_one opening (nth_of 1 1) in
    let U = with_one S (nth_of 1 2) in
    let a = more opening (nth_of 1 1) first_content none_yet in
    let b = more S (nth_of 1 2) change_content a in
    let c = more U (nth_of 2 1) second_content b in (
      not_opened (nth_of 1 1),
      closed_if S a (λ y. refl),
      (not_opened (nth_of 1 2), closed_if U b (λ y. refl), (not_opened (nth_of 2 1), closed_if (with_one U (nth_of 2 1)) c (λ y. refl), tt)),
    )

other_order : IsCommitOrder (in_order small_sources) opening (nth_of 2 1 ∷ nth_of 1 1 ∷ nth_of 1 2 ∷ [])
other_order =
    let S = with_one opening (nth_of 2 1) in
    let U = with_one S (nth_of 1 1) in
    let a = more opening (nth_of 2 1) second_content none_yet in
    let b = more S (nth_of 1 1) first_content a in
    let c = more U (nth_of 1 2) change_content b in (
      not_opened (nth_of 2 1),
      closed_if S a (λ y. not_both (opening (nth_of 1 2)) y (not_opened (nth_of 1 2))),
      (not_opened (nth_of 1 1), closed_if U b (λ y. refl), (not_opened (nth_of 1 2), closed_if (with_one U (nth_of 1 2)) c (λ y. refl), tt)),
    )

not_closed : IsClosed small_sources (same_gtid (nth_of 1 2)) → ⊥
not_closed closed =
    let before = subst (λ es. Precedes es (nth_of 1 1, opens_first) (nth_of 1 2, changes_first)) (sym listed) (inl (refl, inl refl)) in
    let there : same_gtid (nth_of 1 2) (nth_of 1 1) ≡ true = closed.earlier (nth_of 1 1, opens_first) (nth_of 1 2, changes_first) before ordered_small.shared refl in
    cc

pub sound_sources_exist : SoundSourcesExist
sound_sources_exist = record {
  sound = small_sound;
  first = content_is (nth_of 1 1);
  changed = content_is (nth_of 1 2);
  second = content_is (nth_of 2 1);
  shared = ordered_small.shared;
  closed = closed_if first_of_each (λ g e. elim (or_cases (same_gtid g (nth_of 1 1)) (same_gtid g (nth_of 2 1)) e) [ inl p ↦ first_content g p | inr q ↦ second_content g q ]) (λ y. refl);
  not_closed = not_closed;
  one_order = one_order;
  other_order = other_order;
}
