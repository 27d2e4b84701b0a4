-- The small world is sound.
use Rattle.std.proofs.Common.{◌≡◌, ◌≢◌, ℕ, ◌⊎◌, pos, Bool, true, false, inl, inr, List, [], ◌∷◌, Some, None, Result, Ok, Err, refl, ap, ◌∙◌, arith}
use Rattle.std.specs.Prelude.{IsOk, IsSome}
use Rattle.std.specs.FinMap as map
use Rattle.std.specs.FinMap.{get-empty, get-insert, get-remove}
use Rattle.std.specs.FinSet.{contains-empty}
use Rattle.gtid_text.specs.declared.Gtid.{Gtid}
use Rattle.gtid_text.specs.Gtids.{gtid_cmp, same_gtid}
use Rattle.row_images.specs.declared.value.Value.TheVariants.{Int}
use Rattle.rows.specs.declared.change.RowFault.{RowFault}
use Rattle.rows.specs.declared.change.Key.{Key}
use Rattle.rows.specs.declared.change.Transaction.{Transaction}
use Rattle.rows.specs.declared.schema.Table.{Table}
use Rattle.rows.specs.Order.{key_cmp}
use Rattle.rows.specs.Total.{key_total}
use Rattle.rows.specs.Apply.{Rows, ◌>>=◌, apply, apply_from, insert_row, insert_if_free, delete_if_same, or_else}
use Rattle.rows.specs.Conflicts.{conflicts, sharing_is_conflict, conflict_is_sharing}
use Rattle.history.specs.World.{Entry, content, is_opened, apply_all, IsSound, IsClosed}
use Rattle.history.specs.Commits.{with_one, IsCommitOrder}
use Rattle.history.specs.SmallWorld.{accounts, account, nth_of, opens_first, changes_first, opens_second, small_order, small_world, openings, SoundWorldsExist}
use Rattle.history.proofs.Entries.{some_is}
use Rattle.history.proofs.Ordering.{AllPairs, each_pair}
use Rattle.std.proofs.lemmas.Bool.{or_cases}
use Rattle.lemmas.proofs.Tests.{not_both}
use Rattle.lemmas.proofs.SameGtid.{same_is_equal}

not_opened : (g : Gtid) → is_opened small_world g ≡ false
not_opened g = contains-empty gtid_cmp g

-- ---- what was committed applies

abbrev key_of : ℕ → Key
key_of id = record { table = accounts.name; index = 0; values = Int (pos id) ∷ [] }

abbrev schema : List Table
schema = accounts ∷ []

abbrev none : Rows
none = map.empty

abbrev opened_first : Rows
opened_first = map.insert none (key_of 1) (account 1 10)

abbrev taken_out : Rows
taken_out = map.remove opened_first (key_of 1)

abbrev changed_first : Rows
changed_first = map.insert taken_out (key_of 1) (account 1 20)

abbrev opened_second : Rows
opened_second = map.insert changed_first (key_of 2) (account 2 5)

first_applies : apply schema opens_first none ≡ Ok opened_first
first_applies = ap (λ o. insert_if_free (or_else None o 0) 0 (key_of 1 ∷ []) (account 1 10) none >>= apply_from schema 1 []) (get-empty key_cmp (key_of 1))

stands : map.get opened_first (key_of 1) ≡ Some (account 1 10)
stands = get-insert key_total none (key_of 1) (account 1 10) (key_of 1)

is_free : map.get taken_out (key_of 1) ≡ None
is_free = get-remove key_total opened_first (key_of 1) (key_of 1)

change_applies : apply schema changes_first opened_first ≡ Ok changed_first
change_applies =
    ap (λ o. delete_if_same o 0 (key_of 1 ∷ []) (account 1 10) opened_first >>= insert_row 0 (key_of 1 ∷ []) (account 1 20) >>= apply_from schema 1 []) stands
    ∙ ap (λ o. insert_if_free (or_else None o 0) 0 (key_of 1 ∷ []) (account 1 20) taken_out >>= apply_from schema 1 []) is_free

second_free : map.get changed_first (key_of 2) ≡ None
second_free =
    get-insert key_total taken_out (key_of 1) (account 1 20) (key_of 2)
    ∙ (get-remove key_total opened_first (key_of 1) (key_of 2)
    ∙ (get-insert key_total none (key_of 1) (account 1 10) (key_of 2) ∙ get-empty key_cmp (key_of 2)))

second_applies : apply schema opens_second changed_first ≡ Ok opened_second
second_applies = ap (λ o. insert_if_free (or_else None o 0) 0 (key_of 2 ∷ []) (account 2 5) changed_first >>= apply_from schema 1 []) second_free

all_apply : apply_all schema small_order none ≡ Ok opened_second
all_apply =
    ap (λ r. r >>= apply_all schema ((nth_of 2 1, changes_first) ∷ (nth_of 2 2, opens_second) ∷ [])) first_applies
    ∙ (ap (λ r. r >>= apply_all schema ((nth_of 2 2, opens_second) ∷ [])) change_applies
    ∙ ap (λ r. r >>= apply_all schema []) second_applies)

is_ok_of : (r : Result Rows RowFault) (rows : Rows) → r ≡ Ok rows → IsOk r
is_ok_of (Ok x) rows e = refl
is_ok_of (Err d) rows e = cc

apart_numbers : (s n t m : ℕ) → (s ≢ t) ⊎ (n ≢ m) → nth_of s n ≢ nth_of t m
apart_numbers s n t m (inl a) e = a (ap (λ (g : Gtid). g.source) e)
apart_numbers s n t m (inr b) e = b (ap (λ (g : Gtid). g.number) e)

small_sound : IsSound small_world
small_sound = record {
  gtids = record {
    outside = λ g h. not_opened g;
    distinct = (
      (apart_numbers 1 1 2 1 (inl (λ e. absurd (omega arith))), (apart_numbers 1 1 2 2 (inl (λ e. absurd (omega arith))), tt)),
      ((apart_numbers 2 1 2 2 (inr (λ e. absurd (omega arith))), tt), (tt, tt)),
    );
  };
  applies = is_ok_of (apply_all schema small_order none) opened_second all_apply;
}

-- ---- its closed sets

first_apart : conflicts schema opens_first opens_second ≡ false
first_apart = conflict_is_sharing schema opens_first opens_second

changed_apart : conflicts schema changes_first opens_second ≡ false
changed_apart = conflict_is_sharing schema changes_first opens_second

abbrev Needs : (Gtid → Bool) → Entry → Entry → Type 0
Needs S e f = conflicts schema e.1 f.1 ≡ true → S f.0 ≡ true → S e.0 ≡ true

needs : (S : Gtid → Bool) → (S (nth_of 2 1) ≡ true → S (nth_of 1 1) ≡ true) → AllPairs (Needs S) small_order
needs S h =
    ((λ s y. h y, (λ s y. not_both (conflicts schema opens_first opens_second) s first_apart, tt)), ((λ s y. not_both (conflicts schema changes_first opens_second) s changed_apart, tt), (tt, tt)))

-- A set of what was committed is closed where it has the first account's opening with its change.
closed_if : (S : Gtid → Bool) → ((g : Gtid) → S g ≡ true → IsSome (content small_world g)) → (S (nth_of 2 1) ≡ true → S (nth_of 1 1) ≡ true) → IsClosed small_world S
closed_if S known h = record {
  opened = λ g e. not_both (is_opened small_world g) e (not_opened g);
  known = λ g e. inr (known g e);
  earlier = λ e f p. each_pair (Needs S) small_order (needs S h) e f p;
}

has_content : (s n : ℕ) (t : Transaction) (g : Gtid) → content small_world (nth_of s n) ≡ Some t → same_gtid g (nth_of s n) ≡ true → IsSome (content small_world g)
has_content s n t g e same = some_is (content small_world g) t (ap (content small_world) (same_is_equal g (nth_of s n) same) ∙ e)

first_content : (g : Gtid) → same_gtid g (nth_of 1 1) ≡ true → IsSome (content small_world g)
first_content g e = has_content 1 1 opens_first g refl e

change_content : (g : Gtid) → same_gtid g (nth_of 2 1) ≡ true → IsSome (content small_world g)
change_content g e = has_content 2 1 changes_first g refl e

second_content : (g : Gtid) → same_gtid g (nth_of 2 2) ≡ true → IsSome (content small_world g)
second_content g e = has_content 2 2 opens_second g refl e

-- a set that grows by one GTID that has content
more : (S : Gtid → Bool) (g : Gtid) → ((h : Gtid) → same_gtid h g ≡ true → IsSome (content small_world h)) → ((h : Gtid) → S h ≡ true → IsSome (content small_world h)) → (h : Gtid) → with_one S g h ≡ true → IsSome (content small_world h)
more S g one all h e = elim (or_cases (same_gtid h g) (S h) e) [ inl p ↦ one h p | inr q ↦ all h q ]

none_yet : (g : Gtid) → is_opened small_world g ≡ true → IsSome (content small_world g)
none_yet g e = not_both (is_opened small_world g) e (not_opened g)

abbrev opening : Gtid → Bool
opening = is_opened small_world

one_order : IsCommitOrder small_world opening (nth_of 1 1 ∷ nth_of 2 1 ∷ nth_of 2 2 ∷ [])
one_order =
    let S = with_one opening (nth_of 1 1) in
    let U = with_one S (nth_of 2 1) in
    let a = more opening (nth_of 1 1) first_content none_yet in
    let b = more S (nth_of 2 1) change_content a in
    let c = more U (nth_of 2 2) second_content b in (
      not_opened (nth_of 1 1),
      closed_if S a (λ y. refl),
      (not_opened (nth_of 2 1), closed_if U b (λ y. refl), (not_opened (nth_of 2 2), closed_if (with_one U (nth_of 2 2)) c (λ y. refl), tt)),
    )

other_order : IsCommitOrder small_world opening (nth_of 2 2 ∷ nth_of 1 1 ∷ nth_of 2 1 ∷ [])
other_order =
    let S = with_one opening (nth_of 2 2) in
    let U = with_one S (nth_of 1 1) in
    let a = more opening (nth_of 2 2) second_content none_yet in
    let b = more S (nth_of 1 1) first_content a in
    let c = more U (nth_of 2 1) change_content b in (
      not_opened (nth_of 2 2),
      closed_if S a (λ y. not_both (opening (nth_of 2 1)) y (not_opened (nth_of 2 1))),
      (not_opened (nth_of 1 1), closed_if U b (λ y. refl), (not_opened (nth_of 2 1), closed_if (with_one U (nth_of 2 1)) c (λ y. refl), tt)),
    )

do_conflict : conflicts schema opens_first changes_first ≡ true
do_conflict = sharing_is_conflict schema opens_first changes_first refl

not_closed : IsClosed small_world (same_gtid (nth_of 2 1)) → ⊥
not_closed closed =
    let there : same_gtid (nth_of 2 1) (nth_of 1 1) ≡ true = closed.earlier (nth_of 1 1, opens_first) (nth_of 2 1, changes_first) (inl (refl, inl refl)) do_conflict refl in
    cc

pub sound_worlds_exist : SoundWorldsExist
sound_worlds_exist = record {
  sound = small_sound;
  first = refl;
  changed = refl;
  second = refl;
  shared = do_conflict;
  closed = closed_if openings (λ g e. elim (or_cases (same_gtid g (nth_of 1 1)) (same_gtid g (nth_of 2 2)) e) [ inl p ↦ first_content g p | inr q ↦ second_content g q ]) (λ y. refl);
  not_closed = not_closed;
  one_order = one_order;
  other_order = other_order;
}
