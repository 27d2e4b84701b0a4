-- The row under a key by the last writer: the transaction with the greatest number is the last one in the order of sources.
use Rattle.std.proofs.Common.{◌≡◌, ◌<◌, Bool, true, false, cond, inl, inr, List, [], ◌∷◌, Option, Some, None, refl, sym, ap, ◌∙◌, subst, arith, eqb, ltb}
use Rattle.std.specs.List.{filter, AllByRecursion}
use Rattle.std.specs.FinMap.{entries}
use Rattle.std.proofs.lemmas.Bool.{eqb-true, eq-eqb, le-ltb, cases_Bool}
use Rattle.std.specs.declared.cmp.Ordering.TheVariants.{Less}
use Rattle.lemmas.proofs.Tests.{not_both}
use Rattle.gtid_text.specs.declared.Gtid.{Gtid}
use Rattle.gtid_text.specs.Gtids.{gtid_cmp}
use Rattle.rows.specs.declared.change.Key.{Key}
use Rattle.rows.specs.declared.schema.Table.{Table}
use Rattle.rows.specs.WriteSet.{touches}
use Rattle.history.specs.LastWriter.{or_this, last}
use Rattle.history.specs.LastWriter as ordered
use Rattle.history.proofs.Placing.{kept, all_map}
use Rattle.history.proofs.Entries.{all_two}
use Rattle.history.specs.Sources.{World, in_order, Entry, content, entries_in, AreKeysSound}
use Rattle.history.specs.LatestWriter.{later_of, latest, left_or_opening, last_writer}
use Rattle.history.proofs.SourceGtids.{number_less}
use Rattle.history.proofs.SourceEntries.{IsAscending, AreFound, rising, found, apart_sources}

-- Those that touch the key are of one source, so their numbers are ascending.
abbrev NumbersRise : List Table → Key → List Entry → Type 0
NumbersRise schema k [] = Unit {0}
NumbersRise schema k (e ∷ es) = (touches schema e.1 k ≡ true → AllByRecursion (λ f. touches schema f.1 k ≡ true → e.0.number < f.0.number) es) × NumbersRise schema k es

test_has : {A : Type 0} (P : A → Type 0) (x g f : A) (b : Bool) → P x → P g → cond b (Some x) (Some g) ≡ Some f → P f
test_has P x g f true p q e = let same : x ≡ f = cc in subst P same p
test_has P x g f false p q e = let same : g ≡ f = cc in subst P same q

newer_has : (P : Entry → Type 0) (x f : Entry) (o : Option Entry) → ((g : Entry) → o ≡ Some g → P g) → P x → later_of x o ≡ Some f → P f
newer_has P x f None h p e = let same : x ≡ f = cc in subst P same p
newer_has P x f (Some g) h p e = test_has P x g f (ltb g.0.number x.0.number) p (h g refl) e

newest_has : (P : Entry → Type 0) (es : List Entry) → AllByRecursion P es → (f : Entry) → latest es ≡ Some f → P f
newest_has P [] h f e = cc
newest_has P (x ∷ es) h f e = newer_has P x f (latest es) (newest_has P es h.1) h.0 e

-- the later one wins, and it has the greater number
later_is_last : (e : Entry) (o : Option Entry) → ((f : Entry) → o ≡ Some f → e.0.number < f.0.number) → Some (or_this o e) ≡ later_of e o
later_is_last e None h = refl
later_is_last e (Some f) h =
    let below : e.0.number < f.0.number = h f refl in
    let test : ltb f.0.number e.0.number ≡ false = le-ltb f.0.number e.0.number (omega arith) in
    ap (λ b. cond b (Some e) (Some f)) (sym test)

last_by : (schema : List Table) (k : Key) (e : Entry) (es : List Entry) (b : Bool)
    → (b ≡ true → AllByRecursion (λ f. touches schema f.1 k ≡ true → e.0.number < f.0.number) es)
    → last (filter (λ f. touches schema f.1 k) es) ≡ latest (filter (λ f. touches schema f.1 k) es)
    → last (cond b (e ∷ filter (λ f. touches schema f.1 k) es) (filter (λ f. touches schema f.1 k) es)) ≡ latest (cond b (e ∷ filter (λ f. touches schema f.1 k) es) (filter (λ f. touches schema f.1 k) es))
last_by schema k e es true rise same =
    ap (λ o. Some (or_this o e)) same
    ∙ later_is_last e (latest (filter (λ f. touches schema f.1 k) es)) (newest_has (λ f. e.0.number < f.0.number) (filter (λ f. touches schema f.1 k) es) (kept (λ f. touches schema f.1 k) (λ f. e.0.number < f.0.number) es (rise refl)))
last_by schema k e es false rise same = same

last_is_latest : (schema : List Table) (k : Key) (es : List Entry) → NumbersRise schema k es → last (filter (λ f. touches schema f.1 k) es) ≡ latest (filter (λ f. touches schema f.1 k) es)
last_is_latest schema k [] h = refl
last_is_latest schema k (e ∷ es) h = last_by schema k e es (touches schema e.1 k) h.0 (last_is_latest schema k es h.1)

-- two that touch one key are of one source
number_rises : (world : World) (k : Key) → AreKeysSound world → (e f : Entry) → content world e.0 ≡ Some e.1 → content world f.0 ≡ Some f.1 → gtid_cmp e.0 f.0 ≡ Less → touches world.schema e.1 k ≡ true → touches world.schema f.1 k ≡ true → e.0.number < f.0.number
number_rises world k sound e f p q l t u =
    elim (cases_Bool (eqb e.0.source f.0.source)) [
      | inl same ↦ number_less e.0 f.0 l (eqb-true e.0.source f.0.source same)
      | inr other ↦ not_both (touches world.schema f.1 k) u (apart_sources world sound e.0 f.0 e.1 f.1 p q (λ s. not_both (eqb e.0.source f.0.source) (eq-eqb e.0.source f.0.source s) other) k t)
    ]

numbers_rise : (world : World) (k : Key) → AreKeysSound world → (es : List Entry) → IsAscending es → AreFound world es → NumbersRise world.schema k es
numbers_rise world k sound [] r h = tt
numbers_rise world k sound (e ∷ es) r h = (
  λ t. all_two (λ f. gtid_cmp e.0 f.0 ≡ Less) (λ f. content world f.0 ≡ Some f.1) (λ f. touches world.schema f.1 k ≡ true → e.0.number < f.0.number) es (λ f l q u. number_rises world k sound e f h.0 q l t u) r.0 h.1,
  numbers_rise world k sound es r.1 h.1,
)

all_kept : (P : Entry → Type 0) (p : Entry → Bool) (es : List Entry) → AllByRecursion P es → AllByRecursion P (filter p es)
all_kept P p es h = kept p P es (all_map P (λ e. p e ≡ true → P e) es (λ e x y. x) h)

rise_by : (e : Entry) (es : List Entry) (b : Bool) → AllByRecursion (λ f. gtid_cmp e.0 f.0 ≡ Less) es → IsAscending es → IsAscending (cond b (e ∷ es) es)
rise_by e es true h r = (h, r)
rise_by e es false h r = r

rise_kept : (p : Entry → Bool) (es : List Entry) → IsAscending es → IsAscending (filter p es)
rise_kept p [] h = tt
rise_kept p (e ∷ es) h = rise_by e (filter p es) (p e) (all_kept (λ f. gtid_cmp e.0 f.0 ≡ Less) p es h.0) (rise_kept p es h.1)

left_same : (world : World) (k : Key) (o : Option Entry) → ordered.left_or_opening (in_order world) k o ≡ left_or_opening world k o
left_same world k None = refl
left_same world k (Some e) = refl

-- the last writer in the order of sources is the one with the greatest number
pub same_writer : (world : World) (S : Gtid → Bool) (k : Key) → AreKeysSound world → ordered.last_writer (in_order world) S k ≡ last_writer world S k
same_writer world S k sound =
    let es : List Entry = entries_in world S in
    left_same world k (last (filter (λ f. touches world.schema f.1 k) es))
    ∙ ap (left_or_opening world k) (last_is_latest world.schema k es (numbers_rise world k sound es (rise_kept (λ x. S x.0) (entries world.contents) (rising world)) (all_kept (λ x. content world x.0 ≡ Some x.1) (λ x. S x.0) (entries world.contents) (found world))))
