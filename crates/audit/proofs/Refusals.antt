-- What is reported of transactions that do not apply is all there is.
use Rattle.std.proofs.Common.{◌≡◌, ℕ, ◌<◌, ◌≤◌, Bool, true, false, cond, ◌⊎◌, inl, inr, List, [], ◌∷◌, ◌++◌, Option, Some, None, Result, Ok, Err, refl, sym, ap, ◌∙◌, subst, append_assoc, arith, eqb}
use Rattle.std.specs.Prelude.{nat_lt}
use Rattle.std.specs.List.{list_any, filter, AllByRecursion}
use Rattle.std.specs.Option.{unwrap_or}
use Rattle.std.specs.FinMap as finmap
use Rattle.std.specs.FinSet as set
use Rattle.std.specs.declared.cmp.Ordering.TheVariants.{Less}
use Rattle.std.proofs.lemmas.Bool.{eqb-true, eq-eqb, false_from_ne_true, or_left, or_right}
use Rattle.lemmas.proofs.Tests.{not_both}
use Rattle.lemmas.proofs.Options.{none_some}
use Rattle.lemmas.proofs.Numbers.{lt_eq_gt as three, ge_of_test, self_le, less_le, below_test, lt_of_test}
use Rattle.gtid_text.specs.declared.Gtid.{Gtid}
use Rattle.gtid_text.specs.Gtids.{gtid_cmp}
use Rattle.rows.specs.declared.change.Key.{Key}
use Rattle.rows.specs.declared.change.RowFault.{RowFault}
use Rattle.rows.specs.declared.schema.Table.{Table}
use Rattle.rows.specs.Apply.{Rows, ◌>>=◌, apply}
use Rattle.rows.specs.WriteSet.{write_set, touches, Alike}
use Rattle.rows.proofs.Local.{bind_ok, apply_alike}
use Rattle.rows.proofs.Patching.{fits_err}
use Rattle.journal.specs.Journals.{JournalValue}
use Rattle.history.proofs.Closing.{is_ok_of}
use Rattle.history.proofs.Placing.{all_map, chosen_applies}
use Rattle.history.specs.Sources.{World, content, of_source, entries_in, apply_all, AreKeysSound}
use Rattle.history.specs.Sources as history
use Rattle.history.proofs.Alone.{source_closed}
use Rattle.history.proofs.SourceEntries.{IsAscending, AreFound, rising, found, apart_sources}
use Rattle.world.specs.declared.verdict.Verdict.{Verdict}
use Rattle.world.specs.declared.verdict.Verdict.TheVariants.{Unequal, Purged, Missing, Shared, NotClosed, DoesNotApply, Sound}
use Rattle.world.specs.Search.{or_next}
use Rattle.world.specs.Audit.{unequal, purged, present, below, missing, shared, not_closed, fault_after, first_fault, does_not_apply, found_in_keys, verdict}
use Rattle.world.proofs.Finding.{next_none}
use Rattle.world.proofs.Leasts.{first_source_fails}
use Rattle.world.proofs.OnePass.{agree_after, rising_parts, source_le}
use Rattle.world.proofs.Saying.{fault_free}
use Rattle.audit.specs.OtherRefusals.{refused_alone, IsRefusalNamed, is_of_refusal, is_refusal, is_greater_refusal, AreRefusalsAscending, AreOtherRefusals, refused_or, refused_from, other_refusals}
use Rattle.audit.specs.Worlds.{LieBeyond}
use Rattle.audit.proofs.FoundKinds.{IsNever, first_kind, when_kind, next_kind}
use Rattle.audit.proofs.Sounding.{filled, filled_sound}

-- ---- lists in two parts

all_parts : (P : history.Entry → Type 0) (xs ys : List history.Entry) → AllByRecursion P (xs ++ ys) → AllByRecursion P xs × AllByRecursion P ys
all_parts P [] ys h = (tt, h)
all_parts P (x ∷ xs) ys h = let r = all_parts P xs ys h.1 in ((h.0, r.0), r.1)

all_joined : (P : history.Entry → Type 0) (xs ys : List history.Entry) → AllByRecursion P xs → AllByRecursion P ys → AllByRecursion P (xs ++ ys)
all_joined P [] ys h g = g
all_joined P (x ∷ xs) ys h g = (h.0, all_joined P xs ys h.1 g)

filter_by : (x : history.Entry) (F G H : List history.Entry) (b : Bool) → F ≡ G ++ H → cond b (x ∷ F) F ≡ cond b (x ∷ G) G ++ H
filter_by x F G H true e = ap (λ (zs : List history.Entry). x ∷ zs) e
filter_by x F G H false e = e

filter_parts : (p : history.Entry → Bool) (xs ys : List history.Entry) → filter p (xs ++ ys) ≡ filter p xs ++ filter p ys
filter_parts p [] ys = refl
filter_parts p (x ∷ xs) ys = filter_by x (filter p (xs ++ ys)) (filter p xs) (filter p ys) (p x) (filter_parts p xs ys)

none_passes : (p : history.Entry → Bool) (xs : List history.Entry) → AllByRecursion (λ (x : history.Entry). p x ≡ false) xs → filter p xs ≡ []
none_passes p [] h = refl
none_passes p (x ∷ xs) h = λ i. cond (h.0 i) (x ∷ none_passes p xs h.1 i) (none_passes p xs h.1 i)

nothing_more : (xs : List history.Entry) → xs ++ [] ≡ xs
nothing_more [] = refl
nothing_more (x ∷ xs) = ap (λ (zs : List history.Entry). x ∷ zs) (nothing_more xs)

-- one that does not pass, after others
passed_over : (p : history.Entry → Bool) (xs : List history.Entry) (e : history.Entry) → p e ≡ false → filter p (xs ++ e ∷ []) ≡ filter p xs
passed_over p xs e fails = filter_parts p xs (e ∷ []) ∙ (ap (λ zs. filter p xs ++ zs) (none_passes p (e ∷ []) (fails, tt)) ∙ nothing_more (filter p xs))

-- ---- application

ok_same : (a b : Rows) → ◌≡◌ {A = Result Rows RowFault} (Ok a) (Ok b) → a ≡ b
ok_same a b e = cc

-- where the first part applies, the fault is found in the second
fault_parts : (schema : List Table) (xs ys : List history.Entry) (rows mid : Rows) → apply_all schema xs rows ≡ Ok mid → first_fault schema (xs ++ ys) rows ≡ first_fault schema ys mid
fault_parts schema [] ys rows mid e = ap (first_fault schema ys) (ok_same rows mid e)
fault_parts schema (x ∷ xs) ys rows mid e =
    let first = bind_ok (apply schema x.1 rows) (apply_all schema xs) mid e in
    ap (λ r. fault_after x r (first_fault schema (xs ++ ys))) first.1 ∙ fault_parts schema xs ys first.0 mid first.2

-- one more applies
one_more : (schema : List Table) (xs : List history.Entry) (e : history.Entry) (rows mid new : Rows) → apply_all schema xs rows ≡ Ok mid → apply schema e.1 mid ≡ Ok new → apply_all schema (xs ++ e ∷ []) rows ≡ Ok new
one_more schema [] e rows mid new h g = ap (λ (a : Rows). apply schema e.1 a >>= apply_all schema []) (ok_same rows mid h) ∙ ap (λ r. r >>= apply_all schema []) g
one_more schema (x ∷ xs) e rows mid new h g =
    let first = bind_ok (apply schema x.1 rows) (apply_all schema xs) mid h in
    ap (λ r. r >>= apply_all schema (xs ++ e ∷ [])) first.1 ∙ one_more schema xs e first.0 mid new first.2 g

-- ---- sources

other_source : (s t : ℕ) → (s ≡ t → ⊥) → eqb s t ≡ false
other_source s t n = false_from_ne_true (eqb s t) (λ e. n (eqb-true s t e))

less_not_same : (a b c : ℕ) → a ≤ b → b < c → c ≡ a → ⊥
less_not_same a b c x y z = omega arith

smaller_not_same : (s t u : ℕ) → s < t → (t < u) ⊎ (t ≡ u) → s ≡ u → ⊥
smaller_not_same s t u l (inl m) e = omega arith
smaller_not_same s t u l (inr m) e = omega arith

less_both : (a b c : ℕ) → a < b → b < c → a < c
less_both a b c x y = omega arith

greater_more : (v : Verdict) (a b : ℕ) → a < b → is_greater_refusal b v ≡ true → is_greater_refusal a v ≡ true
greater_more (DoesNotApply g fault) a b l h = below_test a g.source (less_both a b g.source l (lt_of_test b g.source h))
greater_more _ a b l h = cc

all_greater : (vs : List Verdict) (a b : ℕ) → a < b → AllByRecursion (λ v. is_greater_refusal b v ≡ true) vs → AllByRecursion (λ v. is_greater_refusal a v ≡ true) vs
all_greater [] a b l h = tt
all_greater (v ∷ vs) a b l h = (greater_more v a b l h.0, all_greater vs a b l h.1)

module _ (world : World) (sound : AreKeysSound world) where
  abbrev es0 : List history.Entry
  es0 = finmap.entries world.contents

  abbrev own : ℕ → history.Entry → Bool
  own s e = of_source s e.0

  -- Some of those before were applied, and of greater sources than one all of them.
  record Applied (before : List history.Entry) (passed : ℕ) (rows : Rows) : Type 0 where
    pub kept : List history.Entry
    pub known : AreFound world kept
    pub reached : apply_all world.schema kept world.opening_rows ≡ Ok rows
    pub whole : (s : ℕ) → passed < s → filter (own s) kept ≡ filter (own s) before

  -- what those of one source leave
  alone : (s : ℕ) (before : List history.Entry) (passed : ℕ) (rows : Rows) → Applied before passed rows → passed < s → (m : Rows) × (apply_all world.schema (filter (own s) before) world.opening_rows ≡ Ok m)
  alone s before passed rows a l =
      let m = chosen_applies world.schema (of_source s) a.kept world.opening_rows rows (source_closed world sound s a.kept a.known) a.reached in
      (m.0, ap (λ es. apply_all world.schema es world.opening_rows) (sym (a.whole s l)) ∙ m.1)

  -- a source whose transactions all come before is not refused
  none_refused : (s : ℕ) (before : List history.Entry) (passed : ℕ) (rows : Rows) → Applied before passed rows → passed < s → entries_in world (of_source s) ≡ filter (own s) before → refused_alone world s ≡ None
  none_refused s before passed rows a l all =
      let m = alone s before passed rows a l in
      ap (λ es. first_fault world.schema es world.opening_rows) all ∙ fault_free world.schema (filter (own s) before) world.opening_rows (is_ok_of (apply_all world.schema (filter (own s) before) world.opening_rows) m.0 m.1)

  module _ (before later : List history.Entry) (e : history.Entry) (passed : ℕ) (rows : Rows) (parts : es0 ≡ before ++ e ∷ later) (a : Applied before passed rows) where
    order : AllByRecursion (λ (z : history.Entry). gtid_cmp e.0 z.0 ≡ Less) later
    order = (rising_parts before e later (subst IsAscending parts (rising world))).1

    there : content world e.0 ≡ Some e.1
    there = (all_parts (λ x. content world x.0 ≡ Some x.1) before (e ∷ later) (subst (AreFound world) parts (found world))).1.0

    of_parts : (s : ℕ) → entries_in world (of_source s) ≡ filter (own s) before ++ filter (own s) (e ∷ later)
    of_parts s = ap (filter (own s)) parts ∙ filter_parts (own s) before (e ∷ later)

    -- a smaller source has nothing more
    smaller_whole : (s : ℕ) → s < e.0.source → entries_in world (of_source s) ≡ filter (own s) before
    smaller_whole s l =
        let none : filter (own s) (e ∷ later) ≡ [] = none_passes (own s) (e ∷ later) (
          other_source s e.0.source (smaller_not_same s e.0.source e.0.source l (inr refl)),
          all_map (λ z. gtid_cmp e.0 z.0 ≡ Less) (λ z. own s z ≡ false) later (λ z h. other_source s z.0.source (smaller_not_same s e.0.source z.0.source l (source_le e.0 z.0 h))) order,
        ) in
        of_parts s ∙ (ap (λ zs. filter (own s) before ++ zs) none ∙ nothing_more (filter (own s) before))

    -- what is refused here is refused in its source's list taken alone
    own_refused : (fault : RowFault) → passed < e.0.source → apply world.schema e.1 rows ≡ Err fault → refused_alone world e.0.source ≡ Some (e.0, fault)
    own_refused fault l refused =
        let s = e.0.source in
        let m = chosen_applies world.schema (of_source s) a.kept world.opening_rows rows (source_closed world sound s a.kept a.known) a.reached in
        let apart : AllByRecursion (λ (x : history.Entry). own s x ≡ false → (k : Key) → touches world.schema e.1 k ≡ true → touches world.schema x.1 k ≡ false) a.kept =
        all_map (λ x. content world x.0 ≡ Some x.1) (λ x. own s x ≡ false → (k : Key) → touches world.schema e.1 k ≡ true → touches world.schema x.1 k ≡ false) a.kept
        (λ x f n. apart_sources world sound e.0 x.0 e.1 x.1 there f (λ same. not_both (eqb s x.0.source) (eq-eqb s x.0.source same) n)) a.known in
        let agree = agree_after world.schema (touches world.schema e.1) (own s) a.kept world.opening_rows world.opening_rows rows m.0 (λ k u. refl) apart a.reached m.1 in
        let fails : apply world.schema e.1 m.0 ≡ Err fault = fits_err (touches world.schema e.1) fault (apply world.schema e.1 m.0) (subst (λ (x : Result Rows RowFault). Alike (touches world.schema e.1) x (apply world.schema e.1 m.0)) refused (apply_alike world.schema e.1 rows m.0 agree)) in
        let F = filter (own s) later in
        let here : filter (own s) (e ∷ later) ≡ e ∷ F = λ i. cond (eq-eqb s s refl i) (e ∷ F) F in
        let front : apply_all world.schema (filter (own s) before) world.opening_rows ≡ Ok m.0 = ap (λ es. apply_all world.schema es world.opening_rows) (sym (a.whole s l)) ∙ m.1 in
        ap (λ zs. first_fault world.schema zs world.opening_rows) (of_parts s ∙ ap (λ zs. filter (own s) before ++ zs) here)
        ∙ (fault_parts world.schema (filter (own s) before) (e ∷ F) world.opening_rows m.0 front
        ∙ ap (λ r. fault_after e r (first_fault world.schema F)) fails)

    -- one is passed over
    goes_over : (q : ℕ) → passed ≤ q → e.0.source ≤ q → Applied (before ++ e ∷ []) q rows
    goes_over q l m = record {
      kept = a.kept;
      known = a.known;
      reached = a.reached;
      whole = λ s k. a.whole s (still s k) ∙ sym (passed_over (own s) before e (other_source s e.0.source (less_not_same e.0.source q s m k)));
    }
      where
        still : (s : ℕ) → q < s → passed < s
        still s k = omega arith

    -- one is applied
    goes_on : (new : Rows) → apply world.schema e.1 rows ≡ Ok new → Applied (before ++ e ∷ []) passed new
    goes_on new h = record {
      kept = a.kept ++ e ∷ [];
      known = all_joined (λ x. content world x.0 ≡ Some x.1) a.kept (e ∷ []) a.known (there, tt);
      reached = one_more world.schema a.kept e world.opening_rows rows new a.reached h;
      whole = λ s l. filter_parts (own s) a.kept (e ∷ []) ∙ (ap (λ zs. zs ++ filter (own s) (e ∷ [])) (a.whole s l) ∙ sym (filter_parts (own s) before (e ∷ [])));
    }

  -- Each of these is reported of the first that is refused of its source, and of every greater source than one of which some transaction is refused.
  record AreRefused (passed : ℕ) (list : List Verdict) : Type 0 where
    pub named : AllByRecursion (IsRefusalNamed world) list
    pub every : (s : ℕ) (fault : Gtid × RowFault) → passed < s → refused_alone world s ≡ Some fault → list_any (is_of_refusal s) list ≡ true
    pub greater : AllByRecursion (λ v. is_greater_refusal passed v ≡ true) list
    pub rising : AreRefusalsAscending list

  module _ (before rest : List history.Entry) (e : history.Entry) (passed : ℕ) (rows : Rows) (parts : es0 ≡ before ++ e ∷ rest) (a : Applied before passed rows)
      (more : (q : ℕ) (new : Rows) → Applied (before ++ e ∷ []) q new → AreRefused q (refused_from world.schema q rest new)) where
    refused_here : (fault : RowFault) → passed < e.0.source → apply world.schema e.1 rows ≡ Err fault → AreRefused passed (DoesNotApply e.0 fault ∷ refused_from world.schema e.0.source rest rows)
    refused_here fault l refused =
        let s = e.0.source in
        let list = refused_from world.schema s rest rows in
        let r = more s rows (goes_over before rest e passed rows parts a s (less_le passed s l) (self_le s)) in
        record {
          named = (own_refused before rest e passed rows parts a fault l refused, r.named);
          every = λ t f k h. elim (three t s) [
            | inl smaller ↦ none_some f (sym (none_refused t before passed rows a k (smaller_whole before rest e passed rows parts a t smaller)) ∙ h)
            | inr others ↦ elim others [
              | inl same ↦ or_left (eqb s t) (list_any (is_of_refusal t) list) (eq-eqb s t (sym same))
              | inr greater ↦ or_right (eqb s t) (list_any (is_of_refusal t) list) (r.every t f greater h)
            ]
          ];
          greater = (below_test passed s l, all_greater list passed s l r.greater);
          rising = (r.greater, r.rising);
        }

    tried : (r : Result Rows RowFault) → passed < e.0.source → apply world.schema e.1 rows ≡ r
        → AreRefused passed (refused_or e r (refused_from world.schema passed rest) (refused_from world.schema e.0.source rest rows))
    tried (Ok new) l h = more passed new (goes_on before rest e passed rows parts a new h)
    tried (Err fault) l h = refused_here fault l h

    step : (b : Bool) → nat_lt passed e.0.source ≡ b
        → AreRefused passed (cond b (refused_or e (apply world.schema e.1 rows) (refused_from world.schema passed rest) (refused_from world.schema e.0.source rest rows)) (refused_from world.schema passed rest rows))
    step true t = tried (apply world.schema e.1 rows) (lt_of_test passed e.0.source t) refl
    step false t = more passed rows (goes_over before rest e passed rows parts a passed (self_le passed) (ge_of_test passed e.0.source t))

  all_refused : (rest before : List history.Entry) (passed : ℕ) (rows : Rows) → es0 ≡ before ++ rest → Applied before passed rows → AreRefused passed (refused_from world.schema passed rest rows)
  all_refused [] before passed rows parts a = record {
    named = tt;
    every = λ s f l h. none_some f (sym (none_refused s before passed rows a l (ap (filter (own s)) (parts ∙ nothing_more before))) ∙ h);
    greater = tt;
    rising = tt;
  }
  all_refused (e ∷ rest) before passed rows parts a =
      step before rest e passed rows parts a
      (λ q new b. all_refused rest (before ++ e ∷ []) q new (parts ∙ sym (append_assoc before (e ∷ []) rest)) b)
      (nat_lt passed e.0.source) refl

  behind : (g : Gtid) (fault : RowFault) → does_not_apply world ≡ Some (DoesNotApply g fault) → AreOtherRefusals world (DoesNotApply g fault) (other_refusals world (DoesNotApply g fault))
  behind g fault found_it =
      let list = other_refusals world (DoesNotApply g fault) in
      let r = all_refused es0 [] g.source world.opening_rows refl (record { kept = []; known = tt; reached = refl; whole = λ s l. refl }) in
      record {
        named = r.named;
        every = λ _ s f h. elim (three s g.source) [
          | inl smaller ↦ none_some f (sym (fault_free world.schema (entries_in world (of_source s)) world.opening_rows (first_source_fails world g fault found_it s smaller)) ∙ h)
          | inr others ↦ elim others [
            | inl same ↦ or_left (eqb g.source s) (list_any (is_of_refusal s) list) (eq-eqb g.source s (sym same))
            | inr greater ↦ or_right (eqb g.source s) (list_any (is_of_refusal s) list) (r.every s f greater h)
          ]
        ];
        rising = (r.greater, r.rising);
        none = λ e. cc;
      }

-- ---- the verdict

keys_kind : (world : World) (journals : List JournalValue) → IsNever is_refusal (found_in_keys world journals)
keys_kind world journals =
    next_kind is_refusal (unequal world journals) _ (first_kind is_refusal _ journals (λ i j. first_kind is_refusal _ j.entries (λ k e. when_kind is_refusal _ (Unequal e.gtid) refl)))
    (next_kind is_refusal (purged world journals) _ (first_kind is_refusal _ journals (λ i j. when_kind is_refusal _ (Purged i (set.difference j.previous world.opening_set)) refl))
    (next_kind is_refusal (missing world journals) _ (first_kind is_refusal _ (present world journals) (λ i g. first_kind is_refusal _ (below g.0) (λ k h. when_kind is_refusal _ (Missing h) refl)))
    (next_kind is_refusal (shared world) (not_closed world journals)
    (first_kind is_refusal _ (finmap.entries world.contents) (λ i h. first_kind is_refusal _ (write_set world.schema h.1) (λ k key. first_kind is_refusal _ (finmap.entries world.contents) (λ l g. when_kind is_refusal _ (Shared g.0 h.0 key) refl))))
    (first_kind is_refusal _ journals (λ i j. first_kind is_refusal _ j.entries (λ k e. first_kind is_refusal _ (finmap.entries world.contents) (λ l h. when_kind is_refusal _ (NotClosed e.gtid h.0) refl)))))))

from_application : (world : World) (journals : List JournalValue) (g : Gtid) (fault : RowFault) → DoesNotApply g fault ≡ verdict world journals
    → (found_in_keys world journals ≡ None) × (does_not_apply world ≡ Some (DoesNotApply g fault))
from_application world journals g fault = by (found_in_keys world journals) (does_not_apply world) refl refl
  where
    by : (o p : Option Verdict) → found_in_keys world journals ≡ o → does_not_apply world ≡ p → DoesNotApply g fault ≡ unwrap_or (or_next o p) Sound
        → (found_in_keys world journals ≡ None) × (does_not_apply world ≡ Some (DoesNotApply g fault))
    by (Some u) p a b e = not_both (is_refusal u) (sym (ap is_refusal e)) (keys_kind world journals u a)
    by None (Some w) a b e = (a, b ∙ ap Some (sym e))
    by None None a b e = not_both (is_refusal Sound) (sym (ap is_refusal e)) refl

pub shared_none : (world : World) (journals : List JournalValue) → found_in_keys world journals ≡ None → shared world ≡ None
shared_none world journals e =
    let a = next_none (unequal world journals) _ e in
    let b = next_none (purged world journals) _ a.1 in
    let c = next_none (missing world journals) _ b.1 in
    (next_none (shared world) (not_closed world journals) c.1).0

by_verdict : (world : World) (journals : List JournalValue) → LieBeyond world.opening_set world.contents → (v : Verdict) → v ≡ verdict world journals → AreOtherRefusals world v (other_refusals world v)
by_verdict world journals beyond (DoesNotApply g fault) is =
    let f = from_application world journals g fault is in
    let r = behind (filled world) (filled_sound world beyond (shared_none world journals f.0)) g fault f.1 in
    record { named = r.named; every = r.every; rising = r.rising; none = r.none }
by_verdict world journals beyond _ is = record { named = tt; every = λ t s f h. cc; rising = (tt, tt); none = λ t. refl }

-- the other sources of which a transaction is refused are listed, and nothing else
pub others_refused : (world : World) (journals : List JournalValue) → LieBeyond world.opening_set world.contents → AreOtherRefusals world (verdict world journals) (other_refusals world (verdict world journals))
others_refused world journals beyond = by_verdict world journals beyond (verdict world journals) refl
