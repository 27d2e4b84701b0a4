-- One pass over the transactions in the order of GTIDs finds the first that does not apply.
use Rattle.std.proofs.Common.{◌≡◌, ℕ, ◌<◌, Bool, true, false, cond, ◌⊎◌, inl, inr, List, [], ◌∷◌, ◌++◌, Option, Some, None, Result, Ok, Err, refl, sym, ap, ◌∙◌, subst, arith, eqb}
use Rattle.std.specs.List.{filter, AllByRecursion}
use Rattle.std.specs.Option.{option_map, unwrap_or}
use Rattle.std.specs.FinMap as finmap
use Rattle.std.specs.declared.cmp.Ordering.{Ordering}
use Rattle.std.specs.declared.cmp.Ordering.TheVariants.{Less, Equal, Greater}
use Rattle.std.specs.Ordering.{nat_cmp, ordering_then, MatchOrdering}
use Rattle.std.proofs.lemmas.Cmp.{ranked}
use Rattle.std.proofs.lemmas.Bool.{eqb-true, eq-eqb, cases_Bool}
use Rattle.lemmas.proofs.Tests.{not_both}
use Rattle.gtid_text.specs.declared.Gtid.{Gtid}
use Rattle.gtid_text.specs.Gtids.{gtid_cmp}
use Rattle.rows.specs.declared.change.Key.{Key}
use Rattle.rows.specs.declared.change.Transaction.{Transaction}
use Rattle.rows.specs.declared.change.RowFault.{RowFault}
use Rattle.rows.specs.declared.schema.Table.{Table}
use Rattle.rows.specs.Apply.{Rows, apply}
use Rattle.rows.specs.WriteSet.{touches, left_by, AgreeOn, Alike}
use Rattle.rows.proofs.Local.{bind_ok, after_apply, apply_alike}
use Rattle.history.specs.Sources.{World, content, of_source, entries_in, apply_all, AreKeysSound}
use Rattle.history.specs.Sources as history
use Rattle.history.proofs.Commuting.{frame}
use Rattle.history.proofs.Placing.{all_map, chosen_applies}
use Rattle.history.proofs.SourceEntries.{IsAscending, AreFound, rising, found, apart_sources}
use Rattle.history.proofs.Alone.{source_closed, alone_or_together}
use Rattle.world.specs.declared.verdict.Verdict.{Verdict}
use Rattle.world.specs.declared.verdict.Verdict.TheVariants.{DoesNotApply}
use Rattle.world.specs.Search.{or_next, first}
use Rattle.world.specs.Audit.{fault_after, first_fault, does_not_apply}
use Rattle.world.specs.Folds.{OnePassApplies}
use Rattle.world.proofs.Meanings.{no_fault}
use Rattle.world.proofs.Standing.{fails_in}
use Rattle.world.proofs.Saying.{fault_free, applies_none}
use Rattle.history.proofs.Closing.{is_ok_of}
use Rattle.rows.proofs.Patching.{fits_err}

-- ---- rows after a part of a list

-- Where those that are left out touch none of these keys, the rows after the others agree with the rows after all.
pub agree_after : (schema : List Table) (w : Key → Bool) (p : history.Entry → Bool) (es : List history.Entry) (a b r q : Rows) → AgreeOn w a b
    → AllByRecursion (λ (e : history.Entry). p e ≡ false → (k : Key) → w k ≡ true → touches schema e.1 k ≡ false) es
    → apply_all schema es a ≡ Ok r → apply_all schema (filter p es) b ≡ Ok q → AgreeOn w r q
agree_after schema w p [] a b r q agree h e f = λ k t. ap (λ x. finmap.get x k) (sym (ok_same a r e)) ∙ (agree k t ∙ ap (λ x. finmap.get x k) (ok_same b q f))
  where
    ok_same : (x y : Rows) → ◌≡◌ {A = Result Rows RowFault} (Ok x) (Ok y) → x ≡ y
    ok_same x y e = cc
agree_after schema w p (e ∷ es) a b r q agree h f g =
    let first = bind_ok (apply schema e.1 a) (apply_all schema es) r f in
    by (p e) refl first.0 first.1 first.2 g (λ x y k. agree_after schema w p es x y r q k h.1)
  where
    by : (t : Bool) → p e ≡ t → (m : Rows) → apply schema e.1 a ≡ Ok m → apply_all schema es m ≡ Ok r → apply_all schema (cond (p e) (e ∷ filter p es) (filter p es)) b ≡ Ok q
        → ((x y : Rows) → AgreeOn w x y → apply_all schema es x ≡ Ok r → apply_all schema (filter p es) y ≡ Ok q → AgreeOn w r q) → AgreeOn w r q
    by true t m x y z rest =
        let whole : apply_all schema (e ∷ filter p es) b ≡ Ok q = sym (λ i. apply_all schema (cond (t i) (e ∷ filter p es) (filter p es)) b) ∙ z in
        let other = bind_ok (apply schema e.1 b) (apply_all schema (filter p es)) q whole in
        rest m other.0 (λ k u. after_apply schema e.1 a m x k ∙ (ap (unwrap_or (left_by schema e.1 k)) (agree k u) ∙ sym (after_apply schema e.1 b other.0 other.1 k))) y other.2
    by false t m x y z rest =
        let left : apply_all schema (filter p es) b ≡ Ok q = sym (λ i. apply_all schema (cond (t i) (e ∷ filter p es) (filter p es)) b) ∙ z in
        rest m b (λ k u. frame schema e.1 a m k x (h.0 t k u) ∙ agree k u) y left

-- ---- lists in two parts

all_parts : (P : history.Entry → Type 0) (xs ys : List history.Entry) → AllByRecursion P (xs ++ ys) → AllByRecursion P xs × AllByRecursion P ys
all_parts P [] ys h = (tt, h)
all_parts P (x ∷ xs) ys h = let r = all_parts P xs ys h.1 in ((h.0, r.0), r.1)

-- what comes before an entry is less, and what comes after it is greater
pub rising_parts : (xs : List history.Entry) (y : history.Entry) (ys : List history.Entry) → IsAscending (xs ++ y ∷ ys) → AllByRecursion (λ (x : history.Entry). gtid_cmp x.0 y.0 ≡ Less) xs × AllByRecursion (λ (z : history.Entry). gtid_cmp y.0 z.0 ≡ Less) ys
rising_parts [] y ys h = (tt, h.0)
rising_parts (x ∷ xs) y ys h =
    let r = rising_parts xs y ys h.1 in
    (((all_parts (λ (f : history.Entry). gtid_cmp x.0 f.0 ≡ Less) xs (y ∷ ys) h.0).1.0, r.0), r.1)

filter_by : (p : history.Entry → Bool) (x : history.Entry) (F G H : List history.Entry) (b : Bool) → F ≡ G ++ H → cond b (x ∷ F) F ≡ cond b (x ∷ G) G ++ H
filter_by p x F G H true e = ap (λ (zs : List history.Entry). x ∷ zs) e
filter_by p x F G H false e = e

filter_parts : (p : history.Entry → Bool) (xs ys : List history.Entry) → filter p (xs ++ ys) ≡ filter p xs ++ filter p ys
filter_parts p [] ys = refl
filter_parts p (x ∷ xs) ys = filter_by p x (filter p (xs ++ ys)) (filter p xs) (filter p ys) (p x) (filter_parts p xs ys)

none_passes : (p : history.Entry → Bool) (xs : List history.Entry) → AllByRecursion (λ (x : history.Entry). p x ≡ false) xs → filter p xs ≡ []
none_passes p [] h = refl
none_passes p (x ∷ xs) h = λ i. cond (h.0 i) (x ∷ none_passes p xs h.1 i) (none_passes p xs h.1 i)

nothing_more : (xs : List history.Entry) → xs ++ [] ≡ xs
nothing_more [] = refl
nothing_more (x ∷ xs) = ap (λ (zs : List history.Entry). x ∷ zs) (nothing_more xs)

-- where the first part applies, the fault is found in the second
fault_parts : (schema : List Table) (xs ys : List history.Entry) (rows mid : Rows) → apply_all schema xs rows ≡ Ok mid → first_fault schema (xs ++ ys) rows ≡ first_fault schema ys mid
fault_parts schema [] ys rows mid e = ap (first_fault schema ys) (ok_same rows mid e)
  where
    ok_same : (x y : Rows) → ◌≡◌ {A = Result Rows RowFault} (Ok x) (Ok y) → x ≡ y
    ok_same x y e = cc
fault_parts schema (x ∷ xs) ys rows mid e =
    let first = bind_ok (apply schema x.1 rows) (apply_all schema xs) mid e in
    ap (λ r. fault_after x r (first_fault schema (xs ++ ys))) first.1 ∙ fault_parts schema xs ys first.0 mid first.2

-- an entry that is found where all before it give nothing or the same
found_first : {B : Type 0} (f : history.Entry → Option B) (xs : List history.Entry) (y : history.Entry) (ys : List history.Entry) (v : B) → AllByRecursion (λ (x : history.Entry). (f x ≡ None) ⊎ (f x ≡ Some v)) xs → f y ≡ Some v → first f (xs ++ y ∷ ys) ≡ Some v
found_first f [] y ys v h e = ap (λ o. or_next o (first f ys)) e
found_first f (x ∷ xs) y ys v h e = elim h.0 [
  | inl none ↦ ap (λ o. or_next o (first f (xs ++ y ∷ ys))) none ∙ found_first f xs y ys v h.1 e
  | inr same ↦ ap (λ o. or_next o (first f (xs ++ y ∷ ys))) same
]

-- ---- sources

source_cases : (a b : ℕ) (r o : Ordering) → nat_cmp a b ≡ r → ordering_then r o ≡ Less → (a < b) ⊎ (a ≡ b)
source_cases a b Less o e l = inl (subst (λ (x : Ordering). MatchOrdering x (a < b) (a ≡ b) (b < a)) e (ranked a b (nat_cmp a b) refl))
source_cases a b Equal o e l = inr (subst (λ (x : Ordering). MatchOrdering x (a < b) (a ≡ b) (b < a)) e (ranked a b (nat_cmp a b) refl))
source_cases a b Greater o e l = cc

-- a lesser GTID has a smaller source, or the same
pub source_le : (g h : Gtid) → gtid_cmp g h ≡ Less → (g.source < h.source) ⊎ (g.source ≡ h.source)
source_le g h e = source_cases g.source h.source (nat_cmp g.source h.source) (nat_cmp g.number h.number) refl e

below_other : (s t u : ℕ) → s < t → (t < u) ⊎ (t ≡ u) → eqb s u ≡ false
below_other s t u l h = elim (cases_Bool (eqb s u)) [
  | inl same ↦ let e : s ≡ u = eqb-true s u same in absurd (elim h [ inl m ↦ no s t u l m e | inr m ↦ not_self s t u l m e ])
  | inr other ↦ other
]
  where
    no : (s t u : ℕ) → s < t → t < u → s ≡ u → ⊥
    no s t u a b c = omega arith

    not_self : (s t u : ℕ) → s < t → t ≡ u → s ≡ u → ⊥
    not_self s t u a b c = omega arith

fault_here : (e : history.Entry) (r : Result Rows RowFault) (more : Rows → Option (Gtid × RowFault)) (f : RowFault) → r ≡ Err f → fault_after e r more ≡ Some (e.0, f)
fault_here e r more f h = ap (λ x. fault_after e x more) h

module _ (world : World) (sound : AreKeysSound world) where
  abbrev es : List history.Entry
  es = finmap.entries world.contents

  abbrev verdict_at : history.Entry → Option Verdict
  verdict_at e = option_map (λ (fault : Gtid × RowFault). DoesNotApply fault.0 fault.1) (first_fault world.schema (entries_in world (of_source e.0.source)) world.opening_rows)

  module _ (before later : List history.Entry) (g : Gtid) (t : Transaction) (fault : RowFault) (r : Rows) (parts : es ≡ before ++ (g, t) ∷ later) (reached : apply_all world.schema before world.opening_rows ≡ Ok r) (refused : apply world.schema t r ≡ Err fault) where
    order : AllByRecursion (λ (x : history.Entry). gtid_cmp x.0 g ≡ Less) before × AllByRecursion (λ (z : history.Entry). gtid_cmp g z.0 ≡ Less) later
    order = rising_parts before (g, t) later (subst IsAscending parts (rising world))

    known : AreFound world before × AreFound world ((g, t) ∷ later)
    known = all_parts (λ e. content world e.0 ≡ Some e.1) before ((g, t) ∷ later) (subst (AreFound world) parts (found world))

    -- the list of a source, in two parts
    of_parts : (s : ℕ) → entries_in world (of_source s) ≡ filter (λ e. of_source s e.0) before ++ filter (λ e. of_source s e.0) ((g, t) ∷ later)
    of_parts s = ap (filter (λ e. of_source s e.0)) parts ∙ filter_parts (λ e. of_source s e.0) before ((g, t) ∷ later)

    -- what comes before applies, of each source alone
    before_applies : (s : ℕ) → (m : Rows) × (apply_all world.schema (filter (λ e. of_source s e.0) before) world.opening_rows ≡ Ok m)
    before_applies s = chosen_applies world.schema (of_source s) before world.opening_rows r (source_closed world sound s before known.0) reached

    -- a smaller source has nothing later, so nothing of it fails
    smaller_none : (s : ℕ) → s < g.source → first_fault world.schema (entries_in world (of_source s)) world.opening_rows ≡ None
    smaller_none s l =
        let behind : filter (λ e. of_source s e.0) ((g, t) ∷ later) ≡ [] = none_passes (λ e. of_source s e.0) ((g, t) ∷ later)
        (below_other s g.source g.source l (inr refl), all_map (λ z. gtid_cmp g z.0 ≡ Less) (λ z. of_source s z.0 ≡ false) later (λ z h. below_other s g.source z.0.source l (source_le g z.0 h)) order.1) in
        let whole : entries_in world (of_source s) ≡ filter (λ e. of_source s e.0) before = of_parts s ∙ (ap (λ zs. filter (λ e. of_source s e.0) before ++ zs) behind ∙ nothing_more (filter (λ e. of_source s e.0) before)) in
        let m = before_applies s in
        ap (λ zs. first_fault world.schema zs world.opening_rows) whole ∙ fault_free world.schema (filter (λ e. of_source s e.0) before) world.opening_rows (is_ok_of (apply_all world.schema (filter (λ e. of_source s e.0) before) world.opening_rows) m.0 m.1)

    -- what another source committed touches none of its keys
    others_apart : AllByRecursion (λ (e : history.Entry). of_source g.source e.0 ≡ false → (k : Key) → touches world.schema t k ≡ true → touches world.schema e.1 k ≡ false) before
    others_apart = all_map (λ e. content world e.0 ≡ Some e.1) (λ e. of_source g.source e.0 ≡ false → (k : Key) → touches world.schema t k ≡ true → touches world.schema e.1 k ≡ false) before
        (λ e f n. apart_sources world sound g e.0 t e.1 known.1.0 f (λ same. not_both (eqb g.source e.0.source) (eq-eqb g.source e.0.source same) n)) known.0

    own_fails : first_fault world.schema (entries_in world (of_source g.source)) world.opening_rows ≡ Some (g, fault)
    own_fails =
        let s = g.source in
        let m = before_applies s in
        let agree = agree_after world.schema (touches world.schema t) (λ e. of_source s e.0) before world.opening_rows world.opening_rows r m.0 (λ k u. refl) others_apart reached m.1 in
        let fails : apply world.schema t m.0 ≡ Err fault = fits_err (touches world.schema t) fault (apply world.schema t m.0) (subst (λ (x : Result Rows RowFault). Alike (touches world.schema t) x (apply world.schema t m.0)) refused (apply_alike world.schema t r m.0 agree)) in
        let F = filter (λ (e : history.Entry). of_source s e.0) later in
        let here : filter (λ e. of_source s e.0) ((g, t) ∷ later) ≡ (g, t) ∷ F = λ i. cond (eq-eqb s s refl i) ((g, t) ∷ F) F in
        ap (λ zs. first_fault world.schema zs world.opening_rows) (of_parts s ∙ ap (λ zs. filter (λ e. of_source s e.0) before ++ zs) here)
        ∙ (fault_parts world.schema (filter (λ e. of_source s e.0) before) ((g, t) ∷ F) world.opening_rows m.0 m.1
        ∙ fault_here (g, t) (apply world.schema t m.0) (first_fault world.schema F) fault fails)

    found_here : does_not_apply world ≡ Some (DoesNotApply g fault)
    found_here =
        let at : (s : ℕ) → s ≡ g.source → option_map (λ (f : Gtid × RowFault). DoesNotApply f.0 f.1) (first_fault world.schema (entries_in world (of_source s)) world.opening_rows) ≡ Some (DoesNotApply g fault) = λ s e.
        ap (λ x. option_map (λ (f : Gtid × RowFault). DoesNotApply f.0 f.1) (first_fault world.schema (entries_in world (of_source x)) world.opening_rows)) e ∙ ap (option_map (λ (f : Gtid × RowFault). DoesNotApply f.0 f.1)) own_fails in
        ap (first verdict_at) parts
        ∙ found_first verdict_at before (g, t) later (DoesNotApply g fault)
        (all_map (λ x. gtid_cmp x.0 g ≡ Less) (λ x. (verdict_at x ≡ None) ⊎ (verdict_at x ≡ Some (DoesNotApply g fault))) before
        (λ x l. elim (source_le x.0 g l) [
          | inl smaller ↦ inl (ap (option_map (λ (f : Gtid × RowFault). DoesNotApply f.0 f.1)) (smaller_none x.0.source smaller))
          | inr same ↦ inr (at x.0.source same)
        ]) order.0)
        (at g.source refl)

  one_pass_by : (o : Option (Gtid × RowFault)) → first_fault world.schema es world.opening_rows ≡ o → does_not_apply world ≡ option_map (λ fault. DoesNotApply fault.0 fault.1) o
  one_pass_by None e = applies_none world ((alone_or_together world sound).1 (no_fault world.schema es world.opening_rows e))
  one_pass_by (Some f) e =
      let x = fails_in world.schema es world.opening_rows f e in
      found_here x.before x.later f.0 x.t f.1 x.reached_rows x.parts x.reached x.refused

pub one_pass_applies : OnePassApplies
one_pass_applies world sound = one_pass_by world sound (first_fault world.schema (finmap.entries world.contents) world.opening_rows) refl
