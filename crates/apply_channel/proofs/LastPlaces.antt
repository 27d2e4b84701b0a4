-- The last places of GTIDs that are not executed.
use Rattle.std.proofs.Common.{◌≡◌, ◌≢◌, ℕ, ◌+◌, ◌<◌, ◌≤◌, suc, zero, Bool, true, false, true≢false, cond, ◌&&◌, ◌⊎◌, inl, inr, List, [], ◌∷◌, ◌++◌, map, length, refl, sym, ap, subst, ◌∙◌, arith}
use Rattle.std.specs.Prelude.{Option, Some, None, is_some, slice_get, slice_set}
use Rattle.std.specs.Option.{option_map_or}
use Rattle.std.proofs.lemmas.List.{length_push}
use Rattle.rows.specs.declared.change.Transaction.{Transaction}
use Rattle.gtid_text.specs.declared.Gtid.{Gtid}
use Rattle.gtid_text.specs.Gtids.{same_gtid}
use Rattle.apply_channel.specs.Slots.{Placed}
use Rattle.apply_channel.specs.Channels.{Received, settle, map_at, as_executed}
use Rattle.apply_channel.specs.Kept.{entries_of, received_of, is_open_of, is_open_at, IsLastOpen, AreLinked, AreLast}
use Rattle.std.proofs.lemmas.Bool.{and_parts, false_from_ne_true}
use Rattle.std.proofs.lemmas.Option.{same_Some, slice_get_within}
use Rattle.lemmas.proofs.Tests.{and_false}
use Rattle.lemmas.proofs.Options.{none_some}
use Rattle.lemmas.proofs.SameGtid.{same_itself, same_flip, same_is_equal}
use Rattle.lemmas.proofs.Numbers.{lt_eq_gt as three, lt_cases}

-- ---- the last place

last_alike : (g : Gtid) (es fs : List Received) (n : ℕ) (o : Option ℕ) → ((i : ℕ) → i < n → is_open_at g fs i ≡ is_open_at g es i) → IsLastOpen es g n o → IsLastOpen fs g n o
last_alike g es fs n None same h = λ i lt. same i lt ∙ h i lt
last_alike g es fs n (Some p) same h = (h.0, same p h.0 ∙ h.1, λ i far lt. same i lt ∙ h.2 i far lt)

last_more : (g : Gtid) (es : List Received) (n : ℕ) (o : Option ℕ) → IsLastOpen es g n o → is_open_at g es n ≡ false → IsLastOpen es g (n + 1) o
last_more g es n None h shut = λ i lt. elim (lt_cases i n lt) [ inl less ↦ h i less | inr same ↦ ap (is_open_at g es) same ∙ shut ]
last_more g es n (Some p) h shut = let below = h.0 in (omega (below, arith), h.1, λ i far lt. elim (lt_cases i n lt) [ inl less ↦ h.2 i far less | inr same ↦ ap (is_open_at g es) same ∙ shut ])

last_here : (g : Gtid) (es : List Received) (n : ℕ) → is_open_at g es n ≡ true → IsLastOpen es g (n + 1) (Some n)
last_here g es n holds = (omega arith, holds, λ i far lt. absurd (omega (far, lt, arith)))

-- the one before, once the last one is executed
last_before : (g : Gtid) (es fs : List Received) (n p : ℕ) (o : Option ℕ) → ((i : ℕ) → i ≢ p → is_open_at g fs i ≡ is_open_at g es i) → is_open_at g fs p ≡ false → IsLastOpen es g n (Some p) → IsLastOpen es g p o → IsLastOpen fs g n o
last_before g es fs n p None same gone last h = λ i lt. elim (three i p) [
  | inl less ↦ same i (λ e. absurd (omega (e, less, arith))) ∙ h i less
  | inr rest ↦ elim rest [
    | inl here ↦ ap (is_open_at g fs) here ∙ gone
    | inr more ↦ same i (λ e. absurd (omega (e, more, arith))) ∙ last.2 i more lt
  ]
]
last_before g es fs n p (Some q) same gone last h =
    let below = h.0 in
    let within = last.0 in (
      omega (below, within, arith),
      same q (λ e. absurd (omega (e, below, arith))) ∙ h.1,
      λ i far lt. elim (three i p) [
        | inl less ↦ same i (λ e. absurd (omega (e, less, arith))) ∙ h.2 i far less
        | inr rest ↦ elim rest [
          | inl here ↦ ap (is_open_at g fs) here ∙ gone
          | inr more ↦ same i (λ e. absurd (omega (e, more, arith))) ∙ last.2 i more lt
        ]
      ],
    )

pub below_of : (g : Gtid) (es : List Received) (n : ℕ) (o : Option ℕ) → IsLastOpen es g n o → option_map_or suc o 0 ≤ n
below_of g es n None h = omega arith
below_of g es n (Some p) h = let below = h.0 in omega (below, arith)

-- ---- an entry more

open_push : (g : Gtid) (slots : List Placed) (s : Placed) (i : ℕ) → i < length slots → is_open_at g (entries_of (slots ++ s ∷ [])) i ≡ is_open_at g (entries_of slots) i
open_push g [] s i lt = absurd (omega (lt, arith))
open_push g (x ∷ slots) s zero lt = refl
open_push g (x ∷ slots) s (suc i) lt = open_push g slots s i (omega (lt, arith))

open_end : (g : Gtid) (slots : List Placed) (s : Placed) → is_open_at g (entries_of (slots ++ s ∷ [])) (length slots) ≡ is_open_of g (received_of s)
open_end g [] s = refl
open_end g (x ∷ slots) s = open_end g slots s

push_cases : (slots : List Placed) (s : Placed) (i : ℕ) (t : Placed) → slice_get (slots ++ s ∷ []) i ≡ Some t → (slice_get slots i ≡ Some t) ⊎ ((i ≡ length slots) × (s ≡ t))
push_cases [] s zero t e = inr (refl, same_Some s t e)
push_cases [] s (suc i) t e = none_some t e
push_cases (x ∷ slots) s zero t e = inl e
push_cases (x ∷ slots) s (suc i) t e = elim (push_cases slots s i t e) [ inl p ↦ inl p | inr q ↦ inr (ap suc q.0, q.1) ]

pub linked_push : (slots : List Placed) (s : Placed) → AreLinked slots → (is_some s.txn ≡ true → IsLastOpen (entries_of slots) s.gtid (length slots) s.earlier) → AreLinked (slots ++ s ∷ [])
linked_push slots s linked last = λ i t is there. elim (push_cases slots s i t is) [
  | inl old ↦ (let below = slice_get_within slots i t old in last_alike t.gtid (entries_of slots) (entries_of (slots ++ s ∷ [])) i t.earlier (λ j lt. open_push t.gtid slots s j (omega (lt, below, arith))) (linked i t old there))
  | inr new ↦ subst (λ (x : Placed). IsLastOpen (entries_of (slots ++ s ∷ [])) x.gtid i x.earlier) new.1
      (subst (λ m. IsLastOpen (entries_of (slots ++ s ∷ [])) s.gtid m s.earlier) (sym new.0)
      (last_alike s.gtid (entries_of slots) (entries_of (slots ++ s ∷ [])) (length slots) s.earlier (λ j lt. open_push s.gtid slots s j lt) (last (ap (λ (x : Placed). is_some x.txn) new.1 ∙ there))))
]

more : (slots : List Placed) (s : Placed) (g : Gtid) (o : Option ℕ) → IsLastOpen (entries_of slots) g (length slots) o → is_open_of g (received_of s) ≡ false → IsLastOpen (entries_of (slots ++ s ∷ [])) g (length (slots ++ s ∷ [])) o
more slots s g o last shut =
    let longer : length (slots ++ s ∷ []) ≡ length slots + 1 = let more = length_push slots s in omega (more, arith) in
    subst (λ n. IsLastOpen (entries_of (slots ++ s ∷ [])) g n o) (sym longer)
    (last_more g (entries_of (slots ++ s ∷ [])) (length slots) o
    (last_alike g (entries_of slots) (entries_of (slots ++ s ∷ [])) (length slots) o (λ j lt. open_push g slots s j lt) last)
    (open_end g slots s ∙ shut))

pub last_push_done : (slots : List Placed) (s : Placed) (last : Gtid → Option ℕ) → is_some s.txn ≡ false → AreLast slots last → AreLast (slots ++ s ∷ []) last
last_push_done slots s last done h = λ g. more slots s g (last g) (h g) (ap (λ b. b && same_gtid s.gtid g) done)

module _ (slots : List Placed) (s : Placed) (last next : Gtid → Option ℕ) (there : is_some s.txn ≡ true) (h : AreLast slots last) where
  push_by : (g : Gtid) (b : Bool) → same_gtid g s.gtid ≡ b → IsLastOpen (entries_of (slots ++ s ∷ [])) g (length (slots ++ s ∷ [])) (cond b (Some (length slots)) (last g))
  push_by g true e =
      let longer : length (slots ++ s ∷ []) ≡ length slots + 1 = let more = length_push slots s in omega (more, arith) in
      let holds : is_open_of g (received_of s) ≡ true = ap (λ b. b && same_gtid s.gtid g) there ∙ same_flip s.gtid g ∙ e in
      subst (λ n. IsLastOpen (entries_of (slots ++ s ∷ [])) g n (Some (length slots))) (sym longer)
      (last_here g (entries_of (slots ++ s ∷ [])) (length slots) (open_end g slots s ∙ holds))
  push_by g false e = more slots s g (last g) (h g) (ap (λ b. is_some s.txn && b) (same_flip s.gtid g ∙ e) ∙ and_false (is_some s.txn))

  pub last_push_open : ((g : Gtid) → next g ≡ cond (same_gtid g s.gtid) (Some (length slots)) (last g)) → AreLast (slots ++ s ∷ []) next
  last_push_open new = λ g. subst (λ o. IsLastOpen (entries_of (slots ++ s ∷ [])) g (length (slots ++ s ∷ [])) o) (sym (new g)) (push_by g (same_gtid g s.gtid) refl)

-- ---- the last place of a GTID is executed

open_other : (g : Gtid) (slots : List Placed) (p : ℕ) (s : Placed) (i : ℕ) → i ≢ p → is_open_at g (entries_of (slice_set slots p s)) i ≡ is_open_at g (entries_of slots) i
open_other g [] p s i apart = refl
open_other g (x ∷ slots) zero s zero apart = absurd (apart refl)
open_other g (x ∷ slots) zero s (suc i) apart = refl
open_other g (x ∷ slots) (suc p) s zero apart = refl
open_other g (x ∷ slots) (suc p) s (suc i) apart = open_other g slots p s i (λ e. apart (ap suc e))

open_here : (g : Gtid) (slots : List Placed) (p : ℕ) (s : Placed) → is_some s.txn ≡ false → is_open_at g (entries_of (slice_set slots p s)) p ≡ false
open_here g [] p s done = refl
open_here g (x ∷ slots) zero s done = ap (λ b. b && same_gtid s.gtid g) done
open_here g (x ∷ slots) (suc p) s done = open_here g slots p s done

set_length : (slots : List Placed) (p : ℕ) (s : Placed) → length (slice_set slots p s) ≡ length slots
set_length [] p s = refl
set_length (x ∷ slots) zero s = refl
set_length (x ∷ slots) (suc p) s = ap suc (set_length slots p s)

set_cases : (slots : List Placed) (p : ℕ) (s : Placed) (i : ℕ) (t : Placed) → slice_get (slice_set slots p s) i ≡ Some t → (s ≡ t) ⊎ ((i ≢ p) × (slice_get slots i ≡ Some t))
set_cases [] p s i t e = none_some t e
set_cases (x ∷ slots) zero s zero t e = inl (same_Some s t e)
set_cases (x ∷ slots) zero s (suc i) t e = inr (λ same. absurd (omega (same, arith)), e)
set_cases (x ∷ slots) (suc p) s zero t e = inr (λ same. absurd (omega (same, arith)), e)
set_cases (x ∷ slots) (suc p) s (suc i) t e = elim (set_cases slots p s i t e) [ inl q ↦ inl q | inr q ↦ inr (λ same. q.0 (omega (same, arith)), q.1) ]

open_slot : (g : Gtid) (slots : List Placed) (i : ℕ) (t : Placed) → slice_get slots i ≡ Some t → is_open_at g (entries_of slots) i ≡ is_open_of g (received_of t)
open_slot g [] i t e = none_some t e
open_slot g (x ∷ slots) zero t e = ap (λ (y : Placed). is_open_of g (received_of y)) (same_Some x t e)
open_slot g (x ∷ slots) (suc i) t e = open_slot g slots i t e

open_gtid : (g h : Gtid) (o : Option Received) → option_map_or (is_open_of g) o false ≡ true → option_map_or (is_open_of h) o false ≡ true → g ≡ h
open_gtid g h None a b = absurd (true≢false (sym a))
open_gtid g h (Some e) a b = sym (same_is_equal e.gtid g (and_parts (is_some e.txn) (same_gtid e.gtid g) a).1) ∙ same_is_equal e.gtid h (and_parts (is_some e.txn) (same_gtid e.gtid h) b).1

module _ (g : Gtid) (slots : List Placed) (p : ℕ) (s : Placed) (done : is_some s.txn ≡ false) (linked : AreLinked slots) (is_last : IsLastOpen (entries_of slots) g (length slots) (Some p)) where
  pub linked_settle : AreLinked (slice_set slots p s)
  linked_settle = λ i t is there. elim (set_cases slots p s i t is) [
    | inl same ↦ absurd (true≢false (sym there ∙ sym (ap (λ (x : Placed). is_some x.txn) same) ∙ done))
    | inr old ↦ last_alike t.gtid (entries_of slots) (entries_of (slice_set slots p s)) i t.earlier
        (λ j lt. elim (three j p) [
          | inl less ↦ open_other t.gtid slots p s j (λ e. absurd (omega (e, less, arith)))
          | inr rest ↦ elim rest [
            | inl here ↦ ap (is_open_at t.gtid (entries_of (slice_set slots p s))) here ∙ open_here t.gtid slots p s done
                ∙ sym (ap (is_open_at t.gtid (entries_of slots)) here ∙ false_from_ne_true (is_open_at t.gtid (entries_of slots) p) (λ opens.
                let same : t.gtid ≡ g = open_gtid t.gtid g (slice_get (entries_of slots) p) opens is_last.1 in
                let holds : is_open_at g (entries_of slots) i ≡ true = open_slot g slots i t old.1 ∙ ap (λ b. b && same_gtid t.gtid g) there ∙ ap (λ k. same_gtid k g) same ∙ same_itself g in
                let shut : is_open_at g (entries_of slots) i ≡ false = is_last.2 i (omega (lt, here, arith)) (slice_get_within slots i t old.1) in
                true≢false (sym holds ∙ shut)))
            | inr more ↦ open_other t.gtid slots p s j (λ e. absurd (omega (e, more, arith)))
          ]
        ])
        (linked i t old.1 there)
  ]

  pub before_last : (x : Placed) → slice_get slots p ≡ Some x → IsLastOpen (entries_of slots) g p x.earlier
  before_last x is =
      let opens : is_open_of g (received_of x) ≡ true = sym (open_slot g slots p x is) ∙ is_last.1 in
      let parts = and_parts (is_some x.txn) (same_gtid x.gtid g) opens in
      subst (λ k. IsLastOpen (entries_of slots) k p x.earlier) (same_is_equal x.gtid g parts.1) (linked p x is parts.0)

  -- the place before is the last one now
  pub last_left : (x : Placed) → slice_get slots p ≡ Some x → IsLastOpen (entries_of (slice_set slots p s)) g (length (slice_set slots p s)) x.earlier
  last_left x is =
      subst (λ n. IsLastOpen (entries_of (slice_set slots p s)) g n x.earlier) (sym (set_length slots p s))
      (last_before g (entries_of slots) (entries_of (slice_set slots p s)) (length slots) p x.earlier (λ i apart. open_other g slots p s i apart) (open_here g slots p s done) is_last (before_last x is))

  left_by : (last : Gtid → Option ℕ) (x : Placed) → slice_get slots p ≡ Some x → AreLast slots last → (k : Gtid) (b : Bool) → same_gtid k g ≡ b → IsLastOpen (entries_of (slice_set slots p s)) k (length (slice_set slots p s)) (cond b x.earlier (last k))
  left_by last x is h k true e = subst (λ q. IsLastOpen (entries_of (slice_set slots p s)) q (length (slice_set slots p s)) x.earlier) (sym (same_is_equal k g e)) (last_left x is)
  left_by last x is h k false e =
      subst (λ n. IsLastOpen (entries_of (slice_set slots p s)) k n (last k)) (sym (set_length slots p s))
      (last_alike k (entries_of slots) (entries_of (slice_set slots p s)) (length slots) (last k)
      (λ j lt. elim (three j p) [
        | inl less ↦ open_other k slots p s j (λ e. absurd (omega (e, less, arith)))
        | inr rest ↦ elim rest [
          | inl here ↦ ap (is_open_at k (entries_of (slice_set slots p s))) here ∙ open_here k slots p s done
              ∙ sym (ap (is_open_at k (entries_of slots)) here ∙ false_from_ne_true (is_open_at k (entries_of slots) p) (λ opens.
              let same : k ≡ g = open_gtid k g (slice_get (entries_of slots) p) opens is_last.1 in
              true≢false (sym (ap (λ q. same_gtid q g) same ∙ same_itself g) ∙ e)))
          | inr more ↦ open_other k slots p s j (λ e. absurd (omega (e, more, arith)))
        ]
      ])
      (h k))

  pub last_settle : (last next : Gtid → Option ℕ) (x : Placed) → slice_get slots p ≡ Some x → ((k : Gtid) → next k ≡ cond (same_gtid k g) x.earlier (last k)) → AreLast slots last → AreLast (slice_set slots p s) next
  last_settle last next x is new h = λ k. subst (λ o. IsLastOpen (entries_of (slice_set slots p s)) k (length (slice_set slots p s)) o) (sym (new k)) (left_by last x is h k (same_gtid k g) refl)

-- the entries, once one is executed
pub entries_settled : (slots : List Placed) (p : ℕ) (x s : Placed) → slice_get slots p ≡ Some x → s.gtid ≡ x.gtid → s.txn ≡ None → entries_of (slice_set slots p s) ≡ map_at p as_executed (entries_of slots)
entries_settled [] p x s is gtid txn = none_some x is
entries_settled (y ∷ slots) zero x s is gtid txn =
    let same : s.gtid ≡ y.gtid = gtid ∙ sym (ap (λ (z : Placed). z.gtid) (same_Some y x is)) in
    λ i. (record { gtid = same i; txn = txn i }) ∷ entries_of slots
entries_settled (y ∷ slots) (suc p) x s is gtid txn = ap (λ es. received_of y ∷ es) (entries_settled slots p x s is gtid txn)

pub gtids_kept : (es : List Received) (p : ℕ) → map (λ (e : Received). e.gtid) (map_at p as_executed es) ≡ map (λ (e : Received). e.gtid) es
gtids_kept [] p = refl
gtids_kept (e ∷ es) zero = refl
gtids_kept (e ∷ es) (suc p) = ap (λ gs. e.gtid ∷ gs) (gtids_kept es p)

-- ---- all places of a GTID

settle_twice : (e : Received) (b : Bool) → b ≡ true → cond b (as_executed (as_executed e)) (as_executed e) ≡ cond b (as_executed e) e
settle_twice e true h = refl
settle_twice e false h = absurd (true≢false (sym h))

pub settle_again : (g : Gtid) (es : List Received) (p : ℕ) → is_open_at g es p ≡ true → map (settle g) (map_at p as_executed es) ≡ map (settle g) es
settle_again g [] p h = refl
settle_again g (e ∷ es) zero h = ap (λ x. x ∷ map (settle g) es) (settle_twice e (same_gtid e.gtid g) (and_parts (is_some e.txn) (same_gtid e.gtid g) h).1)
settle_again g (e ∷ es) (suc p) h = ap (λ xs. settle g e ∷ xs) (settle_again g es p h)

settle_no : (e : Received) (o : Option Transaction) (b : Bool) → e.txn ≡ o → (is_some o && b) ≡ false → cond b (as_executed e) e ≡ e
settle_no e o false is h = refl
settle_no e None true is h = λ i. record { gtid = e.gtid; txn = sym is i }
settle_no e (Some t) true is h = absurd (true≢false h)

pub settle_nothing : (g : Gtid) (es : List Received) → ((i : ℕ) → i < length es → is_open_at g es i ≡ false) → map (settle g) es ≡ es
settle_nothing g [] h = refl
settle_nothing g (e ∷ es) h = λ i. settle_no e e.txn (same_gtid e.gtid g) refl (h 0 (omega arith)) i ∷ settle_nothing g es (λ j lt. h (suc j) (omega (lt, arith))) i
