-- What follows for journals from their histories.
use Rattle.std.proofs.Common.{◌≡◌, ◌⊎◌, Bool, true, false, cond, inl, inr, List, [], ◌∷◌, ◌++◌, Some, take, drop, refl, sym, ap, ◌∙◌, subst}
use Rattle.std.specs.Prelude.{IsSome}
use Rattle.std.specs.List.{AllByRecursion}
use Rattle.std.specs.FinSet as set
use Rattle.std.specs.FinSet.{is_subset-contains}
use Rattle.std.proofs.lemmas.Bool.{or_cases, or_left, or_right, cases_Bool}
use Rattle.std.proofs.lemmas.List.{take-append-drop}
use Rattle.lemmas.proofs.Tests.{not_both}
use Rattle.lemmas.proofs.SameGtid.{gtid_total, same_itself, same_is_equal}
use Rattle.gtid_text.specs.declared.Gtid.{Gtid}
use Rattle.gtid_text.specs.Gtids.{same_gtid}
use Rattle.gtid_set.specs.Sets.{Gtids}
use Rattle.rows.specs.declared.change.Transaction.{Transaction}
use Rattle.rows.specs.Conflicts.{conflicts}
use Rattle.journal.specs.declared.Entry.{Entry}
use Rattle.journal.specs.Journals.{JournalValue}
use Rattle.history.specs.World as ordered
use Rattle.history.specs.World.{OrderedWorld, content, is_opened, IsIn, Precedes, AreGtidsSound, IsClosed}
use Rattle.history.proofs.Entries.{some_is, found_in}
use Rattle.history.proofs.Ordering.{first_in, second_in}
use Rattle.history.specs.Faithful.{IsFaithful}
use Rattle.history.proofs.Covering.{is_entry, covered, front, to_fronts}
use Rattle.history.specs.Extension.{IsLinearExtension}
use Rattle.history.specs.Histories.{world_of_histories}
use Rattle.history.proofs.Lists.{one_entry, in_front}
use Rattle.history.proofs.Extending.{not_opened}
use Rattle.history.proofs.Chains.{before_in_the_front, order_extends, order_gtids}
use Rattle.world.specs.Bundles.{beyond_opening, histories_of, IsOpen, JournalsAreFaithful, ChainsAreEnough}

-- ---- what a list of entries has beyond the opening set

one_more : (b : Bool) (x : ordered.Entry) (xs ys : List ordered.Entry) → cond b (xs ++ ys) (x ∷ (xs ++ ys)) ≡ cond b xs (x ∷ xs) ++ ys
one_more true x xs ys = refl
one_more false x xs ys = refl

beyond_both : (opened : Gtids) (xs ys : List Entry) → beyond_opening opened (xs ++ ys) ≡ beyond_opening opened xs ++ beyond_opening opened ys
beyond_both opened [] ys = refl
beyond_both opened (e ∷ xs) ys =
    (λ i. cond (set.contains opened e.gtid) (beyond_both opened xs ys i) ((e.gtid, e.txn) ∷ beyond_both opened xs ys i))
    ∙ one_more (set.contains opened e.gtid) (e.gtid, e.txn) (beyond_opening opened xs) (beyond_opening opened ys)

passed_in : (b : Bool) (x p : ordered.Entry) (xs : List ordered.Entry) → IsIn p xs → IsIn p (cond b xs (x ∷ xs))
passed_in true x p xs i = i
passed_in false x p xs i = inr i

here_in : (b : Bool) (x : ordered.Entry) (xs : List ordered.Entry) → b ≡ false → IsIn x (cond b xs (x ∷ xs))
here_in true x xs n = cc
here_in false x xs n = inl refl

pub listed : (opened : Gtids) (es : List Entry) (g : Gtid) → is_entry es g ≡ true → set.contains opened g ≡ false → (t : Transaction) × IsIn (g, t) (beyond_opening opened es)
listed opened [] g y n = cc
listed opened (e ∷ es) g y n = elim (or_cases (same_gtid g e.gtid) (is_entry es g) y) [
  | inl here ↦
      let same : g ≡ e.gtid = same_is_equal g e.gtid here in
      (e.txn, subst (λ (x : Gtid). IsIn (x, e.txn) (beyond_opening opened (e ∷ es))) (sym same) (here_in (set.contains opened e.gtid) (e.gtid, e.txn) (beyond_opening opened es) (ap (set.contains opened) (sym same) ∙ n)))
  | inr later ↦ let r = listed opened es g later n in (r.0, passed_in (set.contains opened e.gtid) (e.gtid, e.txn) (g, r.0) (beyond_opening opened es) r.1)
]

from_in : (b : Bool) (x p : ordered.Entry) (xs : List ordered.Entry) → IsIn p (cond b xs (x ∷ xs)) → (x ≡ p) ⊎ IsIn p xs
from_in true x p xs i = inr i
from_in false x p xs (inl same) = inl same
from_in false x p xs (inr later) = inr later

is_listed : (opened : Gtids) (es : List Entry) (p : ordered.Entry) → IsIn p (beyond_opening opened es) → is_entry es p.0 ≡ true
is_listed opened [] p i = absurd i
is_listed opened (e ∷ es) p i = elim (from_in (set.contains opened e.gtid) (e.gtid, e.txn) p (beyond_opening opened es) i) [
  | inl same ↦ or_left (same_gtid p.0 e.gtid) (is_entry es p.0) (ap (λ (z : ordered.Entry). same_gtid p.0 z.0) same ∙ same_itself p.0)
  | inr later ↦ or_right (same_gtid p.0 e.gtid) (is_entry es p.0) (is_listed opened es p later)
]

all_content : (world : OrderedWorld) (es : List Entry) → ((p : ordered.Entry) → IsIn p (beyond_opening world.opening_set es) → content world p.0 ≡ Some p.1)
    → AllByRecursion (λ (e : Entry). is_opened world e.gtid ≡ false → content world e.gtid ≡ Some e.txn) es
all_content world [] h = tt
all_content world (e ∷ es) h = (
  λ n. h (e.gtid, e.txn) (here_in (is_opened world e.gtid) (e.gtid, e.txn) (beyond_opening world.opening_set es) n),
  all_content world es (λ p i. h p (passed_in (is_opened world e.gtid) (e.gtid, e.txn) p (beyond_opening world.opening_set es) i)),
)

-- ---- prefixes

closed_front : (world : OrderedWorld) (previous : Gtids) (xs ys : List Entry) → AreGtidsSound world → set.is_subset previous world.opening_set ≡ true
    → IsLinearExtension world (beyond_opening world.opening_set xs ++ beyond_opening world.opening_set ys) → IsClosed world (front world previous xs)
closed_front world previous xs ys sound within ext = record {
  opened = λ g y. or_left (is_opened world g) (covered previous xs g) y;
  known = λ g y. known_by g (cases_Bool (is_opened world g)) y;
  earlier = λ e f p s y. or_right (is_opened world e.0) (covered previous xs e.0) (or_right (set.contains previous e.0) (is_entry xs e.0) (is_listed world.opening_set xs e (placed e f p s (entry_of f.0 (not_opened world f sound (second_in world.order e f p)) y))));
}
  where
    entry_of : (g : Gtid) → is_opened world g ≡ false → front world previous xs g ≡ true → is_entry xs g ≡ true
    entry_of g n y = elim (or_cases (is_opened world g) (covered previous xs g) y) [
      | inl o ↦ not_both (is_opened world g) o n
      | inr c ↦ elim (or_cases (set.contains previous g) (is_entry xs g) c) [
        | inl q ↦ not_both (is_opened world g) (is_subset-contains gtid_total previous world.opening_set within g q) n
        | inr r ↦ r
      ]
    ]

    known_by : (g : Gtid) → (is_opened world g ≡ true) ⊎ (is_opened world g ≡ false) → front world previous xs g ≡ true → (is_opened world g ≡ true) ⊎ IsSome (content world g)
    known_by g (inl o) y = inl o
    known_by g (inr n) y =
        let t = listed world.opening_set xs g (entry_of g n y) n in
        inr (some_is (content world g) t.0 (found_in world.order (g, t.0) sound.distinct (ext.known (g, t.0) (in_front (beyond_opening world.opening_set xs) (beyond_opening world.opening_set ys) (g, t.0) t.1))))

    placed : (e f : ordered.Entry) → Precedes world.order e f → conflicts world.schema e.1 f.1 ≡ true → is_entry xs f.0 ≡ true → IsIn e (beyond_opening world.opening_set xs)
    placed e f p s y =
        let X : List ordered.Entry = beyond_opening world.opening_set xs in
        let Y : List ordered.Entry = beyond_opening world.opening_set ys in
        let t = listed world.opening_set xs f.0 y (not_opened world f sound (second_in world.order e f p)) in
        let same = one_entry world.order (f.0, t.0) f sound.distinct (ext.known (f.0, t.0) (in_front X Y (f.0, t.0) t.1)) (second_in world.order e f p) refl in
        let there : IsIn f X = subst (λ (z : ordered.Entry). IsIn z X) same t.1 in
        first_in X e f (before_in_the_front X Y e f ext.distinct (ext.ordered e f p s (in_front X Y f there)) there)

pub journals_are_faithful : JournalsAreFaithful
journals_are_faithful world journal sound fits ext = record {
  fronts = to_fronts world journal (λ k below. closed_front world journal.previous (take k journal.entries) (drop k journal.entries) sound fits.within
      (subst (IsLinearExtension world) (ap (beyond_opening world.opening_set) (sym (take-append-drop k journal.entries)) ∙ beyond_both world.opening_set (take k journal.entries) (drop k journal.entries)) ext));
  contents = all_content world journal.entries (λ p i. found_in world.order p sound.distinct (ext.known p i));
  new = fits.new;
}

all_faithful : (world : OrderedWorld) (js : List JournalValue) → AreGtidsSound world → AllByRecursion (IsOpen world.opening_set) js → AllByRecursion (IsLinearExtension world) (histories_of world.opening_set js) → AllByRecursion (IsFaithful world) js
all_faithful world [] sound fits ext = tt
all_faithful world (j ∷ js) sound fits ext = (journals_are_faithful world j sound fits.0 ext.0, all_faithful world js sound fits.1 ext.1)

pub chains_are_enough : ChainsAreEnough
chains_are_enough schema opened rows js fits new one chains =
    let hs = histories_of opened js in
    all_faithful (world_of_histories schema opened rows hs) js (order_gtids schema opened rows hs new) fits (order_extends schema opened rows hs new one chains)
