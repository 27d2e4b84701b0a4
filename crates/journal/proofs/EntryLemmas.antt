-- One entry more, and entries taken away: each GTID stays new.
use Rattle.std.proofs.Common.{◌≡◌, ℕ, Bool, true, false, ◌||◌, ◌&&◌, ◌≤◌, nat_le, List, [], ◌∷◌, ◌++◌, map, take, drop, refl, sym, ap, subst, ◌∙◌, zero, suc, arith}
use Rattle.std.specs.Ordering.{eq_by_cmp}
use Rattle.std.specs.List.{list_all, list_any}
use Rattle.std.specs.FinSet as set
use Rattle.gtid_text.specs.declared.Gtid.{Gtid}
use Rattle.gtid_text.specs.Gtids.{gtid_cmp, same_gtid}
use Rattle.gtid_text.specs.Written.{IsNumbered}
use Rattle.gtid_set.specs.Laws.{HaveNumbers}
use Rattle.gtid_set.specs.Sets.{Gtids, greatest}
use Rattle.gtid_set.proofs.SetLemmas.{set_push, union_empty, same_members, gtid_tied}
use Rattle.journal.specs.declared.Entry.{Entry}
use Rattle.rows.specs.declared.limits.Limits.TheVariants.{Wide}
use Rattle.journal.specs.Writing.{is_number, is_txn_writable, is_writable}
use Rattle.journal.specs.Journals.{gtids_of, AreNew, IsJournal}
use Rattle.std.proofs.lemmas.Bool.{and_parts}
use Rattle.std.proofs.lemmas.Bool.Decides.{nat_tests}
use Rattle.lemmas.proofs.SameGtid.{gtid_total, same_is_equal}
use Rattle.lemmas.proofs.Tests.{or_turn as swapped}
use Rattle.gtid_set.proofs.SpanLemmas.{all_push}

map_push : (es : List Entry) (e : Entry) → map (λ (e : Entry). e.gtid) (es ++ e ∷ []) ≡ map (λ (e : Entry). e.gtid) es ++ e.gtid ∷ []
map_push [] e = refl
map_push (x ∷ es) e = ap (λ gs. x.gtid ∷ gs) (map_push es e)

-- one entry more at the end
pub gtids_of-push : (es : List Entry) (e : Entry) → gtids_of (es ++ e ∷ []) ≡ set.insert (gtids_of es) e.gtid
gtids_of-push es e = ap set.from_list (map_push es e) ∙ set_push (map (λ (e : Entry). e.gtid) es) e.gtid

-- the first entry belongs to the set that was seen before the others
pub union-gtids_of-cons : (seen : Gtids) (e : Entry) (es : List Entry) → set.union (set.insert seen e.gtid) (gtids_of es) ≡ set.union seen (gtids_of (e ∷ es))
union-gtids_of-cons seen e es = same_members _ _ (λ q.
    set.contains-union gtid_total (set.insert seen e.gtid) (gtids_of es) q
    ∙ (λ i. set.contains-insert gtid_total seen e.gtid q i || set.contains-from_list gtid_total (map (λ (e : Entry). e.gtid) es) q i)
    ∙ swapped (eq_by_cmp gtid_cmp q e.gtid) (set.contains seen q) _
    ∙ sym (set.contains-union gtid_total seen (gtids_of (e ∷ es)) q ∙ ap (λ b. set.contains seen q || b) (set.contains-from_list gtid_total (map (λ (e : Entry). e.gtid) (e ∷ es)) q)))

-- new entries, and one more that is new to all of them
pub new_push : (seen : Gtids) (es : List Entry) (e : Entry) → AreNew seen es → set.contains (set.union seen (gtids_of es)) e.gtid ≡ false → AreNew seen (es ++ e ∷ [])
new_push seen [] e new h = (ap (λ s. set.contains s e.gtid) (union_empty seen) ∙ h, tt)
new_push seen (x ∷ es) e new h =
    (new.0, new_push (set.insert seen x.gtid) es e new.1 (ap (λ s. set.contains s e.gtid) (union-gtids_of-cons seen x es) ∙ h))

new_take : (n : ℕ) (seen : Gtids) (es : List Entry) → AreNew seen es → AreNew seen (take n es)
new_take zero seen es new = tt
new_take (suc n) seen [] new = tt
new_take (suc n) seen (x ∷ es) new = (new.0, new_take n (set.insert seen x.gtid) es new.1)

pub new_drop : (n : ℕ) (seen : Gtids) (es : List Entry) → AreNew seen es → AreNew (set.union seen (gtids_of (take n es))) (drop n es)
new_drop zero seen es new = subst (λ s. AreNew s es) (union_empty seen) new
new_drop (suc n) seen [] new = tt
new_drop (suc n) seen (x ∷ es) new =
    subst (λ s. AreNew s (drop n es)) (union-gtids_of-cons seen x (take n es)) (new_drop n (set.insert seen x.gtid) es new.1)

all_take : {X : Type 0} (p : X → Bool) (n : ℕ) (xs : List X) → list_all p xs ≡ true → list_all p (take n xs) ≡ true
all_take p zero xs all = refl
all_take p (suc n) [] all = refl
all_take p (suc n) (x ∷ xs) all =
    let now = and_parts (p x) (list_all p xs) all in
    ap (λ b. b && list_all p (take n xs)) now.0 ∙ all_take p n xs now.1

all_drop : {X : Type 0} (p : X → Bool) (n : ℕ) (xs : List X) → list_all p xs ≡ true → list_all p (drop n xs) ≡ true
all_drop p zero xs all = all
all_drop p (suc n) [] all = refl
all_drop p (suc n) (x ∷ xs) all = all_drop p n xs (and_parts (p x) (list_all p xs) all).1

-- ---- numbers

pub no_numbers : HaveNumbers set.empty
no_numbers g e = absurd (let there = sym (set.contains-empty gtid_cmp g) ∙ e in cc)

of_either : {P : Type 0} (a b : Bool) → (a ≡ true → P) → (b ≡ true → P) → (a || b) ≡ true → P
of_either true b f h e = f refl
of_either false b f h e = h e

pub union_numbers : (s t : Gtids) → HaveNumbers s → HaveNumbers t → HaveNumbers (set.union s t)
union_numbers s t a b g e = of_either (set.contains s g) (set.contains t g) (a g) (b g) (sym (set.contains-union gtid_total s t g) ∙ e)

entry_number : (n : ℕ) → is_number n ≡ true → IsNumbered n
unfolding greatest
entry_number n e = let p = and_parts (nat_le 1 n) (nat_le n greatest) e in (low p.0, high p.1)
  where
    low : nat_le 1 n ≡ true → 1 ≤ n
    low a = grind (arith, nat_tests)

    high : nat_le n 9223372036854775807 ≡ true → n ≤ 9223372036854775807
    high a = grind (arith, nat_tests)

any_same : (g : Gtid) (es : List Entry) → list_any (eq_by_cmp gtid_cmp g) (map (λ (e : Entry). e.gtid) es) ≡ list_any (λ (e : Entry). same_gtid g e.gtid) es
any_same g [] = refl
any_same g (e ∷ es) = λ i. gtid_tied g e.gtid i || any_same g es i

number_at : (g : Gtid) (es : List Entry) → list_all (is_writable Wide) es ≡ true → list_any (λ (e : Entry). same_gtid g e.gtid) es ≡ true → IsNumbered g.number
number_at g [] all there = absurd cc
number_at g (e ∷ es) all there =
    let p = and_parts (is_writable Wide e) (list_all (is_writable Wide) es) all in
    let number = entry_number e.gtid.number (and_parts (is_number e.gtid.number) (is_txn_writable Wide e.txn) p.0).0 in
    of_either (same_gtid g e.gtid) (list_any (λ (e : Entry). same_gtid g e.gtid) es)
    (λ same. subst (λ (q : Gtid). IsNumbered q.number) (sym (same_is_equal g e.gtid same)) number)
    (number_at g es p.1)
    there

-- an entry that can be written has a number in range
entries_numbers : (es : List Entry) → list_all (is_writable Wide) es ≡ true → HaveNumbers (gtids_of es)
entries_numbers es all g there =
    number_at g es all (sym (set.contains-from_list gtid_total (map (λ (e : Entry). e.gtid) es) g ∙ any_same g es) ∙ there)

-- a journal with one entry more
pub journal_push : (previous : Gtids) (es : List Entry) (e : Entry) → IsJournal previous es → set.contains (set.union previous (gtids_of es)) e.gtid ≡ false → is_writable Wide e ≡ true → IsJournal previous (es ++ e ∷ [])
journal_push previous es e kept new writable = record {
  numbers = kept.numbers;
  new = new_push previous es e kept.new new;
  writable = all_push (is_writable Wide) es e kept.writable writable;
}

-- ... with its first entries alone
pub journal_take : (n : ℕ) (previous : Gtids) (es : List Entry) → IsJournal previous es → IsJournal previous (take n es)
journal_take n previous es kept = record { numbers = kept.numbers; new = new_take n previous es kept.new; writable = all_take (is_writable Wide) n es kept.writable }

-- ... and with its first entries in the previous set
pub journal_drop : (n : ℕ) (previous : Gtids) (es : List Entry) → IsJournal previous es → IsJournal (set.union previous (gtids_of (take n es))) (drop n es)
journal_drop n previous es kept = record {
  numbers = union_numbers previous (gtids_of (take n es)) kept.numbers (entries_numbers (take n es) (all_take (is_writable Wide) n es kept.writable));
  new = new_drop n previous es kept.new;
  writable = all_drop (is_writable Wide) n es kept.writable;
}

-- a GTID is in a journal's whole set where it is in the previous set or that of an entry
pub contains-whole : (previous : Gtids) (es : List Entry) (g : Gtid) → set.contains (set.union previous (gtids_of es)) g ≡ (set.contains previous g || list_any (λ (e : Entry). same_gtid g e.gtid) es)
contains-whole previous es g =
    set.contains-union gtid_total previous (gtids_of es) g
    ∙ ap (λ b. set.contains previous g || b) (set.contains-from_list gtid_total (map (λ (e : Entry). e.gtid) es) g ∙ any_same g es)
