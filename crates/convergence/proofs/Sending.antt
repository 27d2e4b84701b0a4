-- What a faithful journal sends.
use Rattle.std.proofs.Common.{◌≡◌, ℕ, suc, ◌+◌, ◌<◌, ◌≤◌, Bool, true, false, cond, not, ◌||◌, ◌⊎◌, inl, inr, List, [], ◌∷◌, ◌++◌, length, take, Some, Result, Ok, Err, refl, sym, ap, ◌∙◌, subst, arith, append_assoc, zero}
use Rattle.std.specs.Prelude.{slice_get}
use Rattle.std.specs.List.{filter}
use Rattle.std.specs.FinSet as set
use Rattle.std.specs.FinSet.{is_subset-contains}
use Rattle.gtid_text.specs.declared.Gtid.{Gtid}
use Rattle.gtid_text.specs.Gtids.{same_gtid}
use Rattle.gtid_set.specs.Sets.{Gtids}
use Rattle.journal.specs.declared.Entry.{Entry}
use Rattle.journal.specs.Journals.{whole}
use Rattle.history.specs.World.{OrderedWorld, content, is_opened, AreGtidsSound}
use Rattle.auto_position.specs.Sending.{own_of}
use Rattle.auto_position.specs.declared.PositionFault.{PositionFault}
use Rattle.convergence.specs.Faithful.{WasSent}
use Rattle.convergence.proofs.Invariant.{Needs, IsIn}
use Rattle.history.proofs.Covering.{is_entry, covered, front, fronts_of}
use Rattle.std.proofs.lemmas.Bool.{cases_Bool, or_cases, or_left, or_right}
use Rattle.std.proofs.lemmas.Option.{same_Some, slice_get_within}
use Rattle.lemmas.proofs.Options.{none_some}
use Rattle.lemmas.proofs.SameGtid.{same_itself, same_is_equal, gtid_total}
use Rattle.lemmas.proofs.Lists.{all_at, located}
use Rattle.history.proofs.Entries.{some_is}
use Rattle.history.proofs.Ordering.{before_apart}

-- ---- what a faithful journal sends

same_ok : {A E : Type 0} (x y : A) → ◌≡◌ {A = Result A E} (Ok x) (Ok y) → x ≡ y
same_ok x y e = cc

pub sent_cases : (b c : Bool) (x y : PositionFault) (all : List Entry) (want : List Entry) → cond (not b) (Err x) (cond (not c) (Err y) (Ok all)) ≡ Ok want → (b ≡ true) × (all ≡ want)
sent_cases true true x y all want e = (refl, same_ok all want e)
sent_cases true false x y all want e = cc
sent_cases false c x y all want e = cc

pub in_first : (e : Entry) (F : List Entry) (b : Bool) → b ≡ true → IsIn e (cond b (e ∷ F) F)
in_first e F true t = inl refl
in_first e F false t = cc

in_later : (x e : Entry) (F : List Entry) (b : Bool) → IsIn x F → IsIn x (cond b (e ∷ F) F)
in_later x e F true i = inr i
in_later x e F false i = i

pub in_filter : (p : Entry → Bool) (es : List Entry) (h : Gtid) → is_entry es h ≡ true → ((e : Entry) → same_gtid h e.gtid ≡ true → p e ≡ true) → (x : Entry) × (same_gtid h x.gtid ≡ true) × IsIn x (filter p es)
in_filter p [] h i f = cc
in_filter p (e ∷ es) h i f =
    elim (or_cases (same_gtid h e.gtid) (is_entry es h) i) [
      | inl here ↦ (e, here, in_first e (filter p es) (p e) (f e here))
      | inr later ↦ let r = in_filter p es h later f in (r.0, r.1, in_later r.0 e (filter p es) (p e) r.2)
    ]

entry_there : (es : List Entry) (k : ℕ) (e : Entry) → slice_get es k ≡ Some e → is_entry (take (k + 1) es) e.gtid ≡ true
entry_there [] k e i = none_some e i
entry_there (x ∷ es) zero e i = or_left (same_gtid e.gtid x.gtid) _ (ap (λ (y : Entry). same_gtid e.gtid y.gtid) (same_Some x e i) ∙ same_itself e.gtid)
entry_there (x ∷ es) (suc k) e i =
    let n : suc k + 1 ≡ suc (k + 1) = omega arith in
    ap (λ m. is_entry (take m (x ∷ es)) e.gtid) n ∙ or_right (same_gtid e.gtid x.gtid) (is_entry (take (k + 1) es) e.gtid) (entry_there es k e i)

take_one_more : (es : List Entry) (k : ℕ) (e : Entry) (h : Gtid) → slice_get es k ≡ Some e → is_entry (take (k + 1) es) h ≡ true → (same_gtid h e.gtid ≡ true) ⊎ (is_entry (take k es) h ≡ true)
take_one_more [] k e h i f = none_some e i
take_one_more (x ∷ es) zero e h i f =
    elim (or_cases (same_gtid h x.gtid) _ f) [
      | inl here ↦ inl (ap (λ (y : Entry). same_gtid h y.gtid) (sym (same_Some x e i)) ∙ here)
      | inr later ↦ inr later
    ]
take_one_more (x ∷ es) (suc k) e h i f =
    let n : suc k + 1 ≡ suc (k + 1) = omega arith in
    let g : is_entry (take (suc (k + 1)) (x ∷ es)) h ≡ true = ap (λ m. is_entry (take m (x ∷ es)) h) (sym n) ∙ f in
    elim (or_cases (same_gtid h x.gtid) (is_entry (take (k + 1) es) h) g) [
      | inl here ↦ inr (or_left (same_gtid h x.gtid) (is_entry (take k es) h) here)
      | inr later ↦ elim (take_one_more es k e h i later) [ inl same ↦ inl same | inr before ↦ inr (or_right (same_gtid h x.gtid) (is_entry (take k es) h) before) ]
    ]

before_other : (world : OrderedWorld) → AreGtidsSound world → (g h : Gtid) → Needs world h g → same_gtid h g ≡ true → ⊥
before_other world sound g h n e = before_apart world.order (h, n.t) (g, n.u) sound.distinct n.before (same_is_equal h g e)

pub record Served (world : OrderedWorld) (A : Gtids) (before : List Entry) (e : Entry) : Type 0 where
  pub content_is : is_opened world e.gtid ≡ false → content world e.gtid ≡ Some e.txn
  -- what it needs was asked with, or sent before it
  pub needed : (h : Gtid) → Needs world h e.gtid → (set.contains A h ≡ true) ⊎ ((x : Entry) × (same_gtid h x.gtid ≡ true) × IsIn x before)

pub served : (world : OrderedWorld) → AreGtidsSound world → (A : Gtids) (before : List Entry) (e : Entry) → WasSent world A (before ++ e ∷ []) → Served world A before e
served world sound A before e w =
    let j = w.journal in
    let F : Entry → Bool = λ x. not (set.contains A x.gtid) in
    let s = sent_cases (set.is_subset j.previous A) (set.is_subset (own_of A w.own) (whole j)) _ _ (filter F j.entries) ((before ++ e ∷ []) ++ w.rest) w.front in
    let at = located F j.entries before w.rest e (s.1 ∙ append_assoc before (e ∷ []) w.rest) in
    record {
      content_is = all_at (λ (x : Entry). is_opened world x.gtid ≡ false → content world x.gtid ≡ Some x.txn) j.entries at.0 e w.faithful.contents at.1;
      needed = λ h n.
          let below : at.0 < length j.entries = slice_get_within j.entries at.0 e at.1 in
          let fits : at.0 + 1 ≤ length j.entries = omega arith in
          let closed = fronts_of world j w.faithful (at.0 + 1) fits in
          let before_and_it = take (at.0 + 1) j.entries in
          let there : front world j.previous before_and_it e.gtid ≡ true = or_right (is_opened world e.gtid) (covered j.previous before_and_it e.gtid) (or_right (set.contains j.previous e.gtid) (is_entry before_and_it e.gtid) (entry_there j.entries at.0 e at.1)) in
          let with_h = closed.earlier (h, n.t) (e.gtid, n.u) n.before n.shares there in
          let not_opened : is_opened world h ≡ false = sound.outside h (some_is (content world h) n.t n.content_h) in
          let covered_h : covered j.previous before_and_it h ≡ true = sym (ap (λ b. b || covered j.previous before_and_it h) not_opened) ∙ with_h in
          elim (or_cases (set.contains j.previous h) (is_entry before_and_it h) covered_h) [
            | inl purged ↦ inl (is_subset-contains gtid_total j.previous A s.0 h purged)
            | inr among ↦ elim (cases_Bool (set.contains A h)) [
              | inl asked ↦ inl asked
              | inr not_asked ↦ elim (take_one_more j.entries at.0 e h at.1 among) [
                | inl same ↦ absurd (before_other world sound e.gtid h n same)
                | inr before_it ↦
                    let r = in_filter F (take at.0 j.entries) h before_it (λ x same. ap (λ (y : Gtid). not (set.contains A y)) (sym (same_is_equal h x.gtid same)) ∙ ap not not_asked) in
                    inr (r.0, r.1, subst (IsIn r.0) at.2 r.2)
              ]
            ]
          ];
    }
