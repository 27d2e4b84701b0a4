-- One pass over the journals finds what the definition finds, and the order applies as it does by the definition.
use Rattle.std.proofs.Common.{◌≡◌, ℕ, inl, inr, List, [], ◌∷◌, Option, Some, None, refl, sym, ap, ◌∙◌, subst}
use Rattle.std.specs.Prelude.{slice_get}
use Rattle.std.specs.FinMap as finmap
use Rattle.std.specs.Option.{option_map}
use Rattle.std.proofs.lemmas.List.Elements.{All-nil, All-cons, All-get_or}
use Rattle.std.proofs.lemmas.Option.{get_or_from_slice_get, slice_get_within}
use Rattle.lemmas.proofs.Lists.{get_map}
use Rattle.gtid_set.specs.Sets.{Gtids}
use Rattle.rows.specs.declared.schema.Table.{Table}
use Rattle.rows.specs.Apply.{Rows}
use Rattle.rows.specs.Fits.{Fits}
use Rattle.journal.specs.declared.Entry.{Entry}
use Rattle.journal.specs.Journals.{JournalValue}
use Rattle.history.specs.Sources.{World, content}
use Rattle.world.proofs.Contents.{content_at}
use Rattle.audit.specs.Contents.{as_entry}
use Rattle.audit.specs.Worlds.{AllFit, IsKept}
use Rattle.world.specs.declared.verdict.Verdict.{Verdict}
use Rattle.world.specs.declared.verdict.Verdict.TheVariants.{DoesNotApply}
use Rattle.world.specs.Audit.{unequal, first_fault}
use Rattle.world.specs.Meaning.{AreJournals}
use Rattle.history.specs.World as history
use Rattle.history.specs.World.{IsIn, AreDistinct}
use Rattle.history.specs.Histories.{History, IsAmong, order_of}
use Rattle.history.specs.HistoryLaws as laws
use Rattle.history.proofs.Joining.{among_all}
use Rattle.history.proofs.Chains.{order_distinct, order_from}
use Rattle.world.specs.Bundles.{histories_of}
use Rattle.world.specs.AuditInOrder.{conflict, fails_in_order}
use Rattle.world.proofs.Histories.{all_new, has_content, one_content}
use Rattle.audit.specs.Applying.{AllTaken}
use Rattle.audit.specs.Chains.{no_chain, conflict_from}
use Rattle.audit.specs.Joined.{append_all_new}
use Rattle.audit.proofs.Passes.{all_grown_is, conflict_found}

each_distinct : (opened : Gtids) (js : List JournalValue) → AreJournals js → (h : History) → IsAmong h (histories_of opened js) → AreDistinct h
each_distinct opened js are h k = (among_all (laws.AreNew opened) (histories_of opened js) (all_new opened js are) h k).0

pub conflict_passes : (world : World) (js : List JournalValue) → AreJournals js → unequal world js ≡ None
    → conflict_from world.schema (histories_of world.opening_set js) 0 (histories_of world.opening_set js) (λ k. no_chain) ≡ conflict world.schema (histories_of world.opening_set js)
conflict_passes world js are equal =
    conflict_found world.schema (histories_of world.opening_set js) (order_distinct world.opening_set (histories_of world.opening_set js) (all_new world.opening_set js are)) (one_content world js equal) (each_distinct world.opening_set js are)

pub order_joined : (opened : Gtids) (js : List JournalValue) → AreJournals js → append_all_new [] (histories_of opened js) ≡ order_of (histories_of opened js)
order_joined opened js are = all_grown_is [] (histories_of opened js) (each_distinct opened js are)

-- ---- the schema takes each transaction of the order

taken_all : (schema : List Table) (es : List history.Entry) → ((e : history.Entry) → IsIn e es → Fits schema e.1) → AllTaken schema es
taken_all schema [] h = All-nil (λ (e : history.Entry). Fits schema e.1)
taken_all schema (e ∷ es) h = All-cons (λ (e : history.Entry). Fits schema e.1) e es (h e (inl refl)) (taken_all schema es (λ f i. h f (inr i)))

fits_at : (schema : List Table) (es : List Entry) → AllFit schema es → (i : ℕ) (e : Entry) → slice_get es i ≡ Some e → Fits schema e.txn
fits_at schema es all i e at =
    subst (λ (x : Entry). Fits schema x.txn) (get_or_from_slice_get es i e e at) (All-get_or (λ (x : Entry). Fits schema x.txn) es i e (slice_get_within es i e at) all)

pub order_taken : (world : World) (js : List JournalValue) (es : List Entry) → AreJournals js → unequal world js ≡ None → IsKept world.schema world.contents es → AllTaken world.schema (append_all_new [] (histories_of world.opening_set js))
order_taken world js es are equal kept =
    subst (AllTaken world.schema) (sym (order_joined world.opening_set js are))
    (taken_all world.schema (order_of (histories_of world.opening_set js)) (λ e i.
    let from = order_from (histories_of world.opening_set js) e i in
    let found : content world e.0 ≡ Some e.1 = has_content world js equal from.0 from.1 e from.2 in
    let place = content_at world e.0 e.1 found in
    let listed : slice_get es place.0 ≡ Some (as_entry e) = ap (λ (xs : List Entry). slice_get xs place.0) kept.listed ∙ get_map as_entry (finmap.entries world.contents) place.0 e place.1 in
    fits_at world.schema es kept.fitting place.0 (as_entry e) listed))

-- the same, of what the code knows of a world
pub conflict_is : (world : World) (js : List JournalValue) (schema : List Table) (opened : Gtids) (found : Option Verdict) → AreJournals js → unequal world js ≡ None → schema ≡ world.schema → opened ≡ world.opening_set
    → found ≡ conflict_from schema (histories_of opened js) 0 (histories_of opened js) (λ k. no_chain) → found ≡ conflict world.schema (histories_of world.opening_set js)
conflict_is world js schema opened found are equal same_schema same_set is =
    is ∙ (λ i. conflict_from (same_schema i) (histories_of (same_set i) js) 0 (histories_of (same_set i) js) (λ k. no_chain)) ∙ conflict_passes world js are equal

-- what the code knows of the order and the rows
pub taken_is : (world : World) (js : List JournalValue) (es : List Entry) (schema : List Table) (opened : Gtids) (order : List history.Entry) → AreJournals js → unequal world js ≡ None → IsKept world.schema world.contents es
    → schema ≡ world.schema → opened ≡ world.opening_set → order ≡ append_all_new [] (histories_of opened js) → AllTaken schema order
taken_is world js es schema opened order are equal kept same_schema same_set is =
    subst (λ (s : List Table). AllTaken s order) (sym same_schema)
    (subst (AllTaken world.schema) (sym (is ∙ ap (λ (o : Gtids). append_all_new [] (histories_of o js)) same_set)) (order_taken world js es are equal kept))

pub applies_is : (world : World) (js : List JournalValue) (schema : List Table) (opened : Gtids) (rows : Rows) (order : List history.Entry) (found : Option Verdict) → AreJournals js
    → schema ≡ world.schema → opened ≡ world.opening_set → rows ≡ world.opening_rows → order ≡ append_all_new [] (histories_of opened js)
    → found ≡ option_map (λ fault. DoesNotApply fault.0 fault.1) (first_fault schema order rows) → found ≡ fails_in_order world js
applies_is world js schema opened rows order found are same_schema same_set same_rows joined is =
    let same_order : order ≡ order_of (histories_of world.opening_set js) = joined ∙ ap (λ (o : Gtids). append_all_new [] (histories_of o js)) same_set ∙ order_joined world.opening_set js are in
    is ∙ (λ i. option_map (λ fault. DoesNotApply fault.0 fault.1) (first_fault (same_schema i) (same_order i) (same_rows i)))
