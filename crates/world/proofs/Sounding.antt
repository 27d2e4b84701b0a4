-- What Sound means of journals in one order.
use Rattle.std.proofs.Common.{◌≡◌, ℕ, Bool, true, false, cond, List, [], ◌∷◌, take, Option, Some, None, Result, Ok, Err, refl, sym, subst}
use Rattle.std.specs.Prelude.{IsOk}
use Rattle.std.specs.List.{AllByRecursion}
use Rattle.std.specs.Option.{option_map}
use Rattle.std.specs.FinSet as set
use Rattle.lemmas.proofs.Options.{none_mapped, map_some}
use Rattle.gtid_text.specs.declared.Gtid.{Gtid}
use Rattle.gtid_text.specs.Gtids.{same_gtid}
use Rattle.gtid_set.specs.Sets.{Gtids}
use Rattle.rows.specs.declared.change.Key.{Key}
use Rattle.rows.specs.declared.change.RowFault.{RowFault}
use Rattle.rows.specs.declared.schema.Table.{Table}
use Rattle.rows.specs.Apply.{Rows, apply, ◌>>=◌}
use Rattle.rows.specs.WriteSet.{write_set}
use Rattle.journal.specs.declared.Entry as journal
use Rattle.journal.specs.Journals.{JournalValue}
use Rattle.history.specs.Sources as source
use Rattle.world.specs.declared.verdict.Verdict.{Verdict}
use Rattle.world.specs.declared.verdict.Verdict.TheVariants.{Unequal, Purged, Missing, Reordered, NotClosed, Concurrent, DoesNotApply, Sound}
use Rattle.world.specs.Search.{or_next, when, first_at}
use Rattle.world.specs.Audit.{unequal, purged, missing, present, below, fault_after, first_fault}
use Rattle.world.specs.Audit as sources
use Rattle.world.specs.Meaning.{AreJournals}
use Rattle.world.proofs.Finding.{next_none, when_some, first_some}
use Rattle.world.proofs.Meanings.{next_not, none_of_sound}
use Rattle.history.specs.World.{Entry, AreGtidsSound, apply_all}
use Rattle.history.specs.Faithful.{IsFaithful}
use Rattle.history.specs.Histories.{History, has, order_of, world_of_histories}
use Rattle.history.specs.HistoryLaws as laws
use Rattle.history.specs.Chains.{HaveOneContent}
use Rattle.history.proofs.Joining.{among_all}
use Rattle.history.proofs.Chains.{order_gtids, order_distinct}
use Rattle.world.specs.Bundles.{histories_of, HaveChains}
use Rattle.world.specs.AuditInOrder.{next_of, bringer, pair_fault, fault_with, conflict, fails_in_order, found_in_keys_in_order}
use Rattle.world.specs.MeaningInOrder.{joined_world, SoundInOrderMeans, KeysInOrderMean}
use Rattle.world.proofs.Opening.{chains_are_enough}
use Rattle.world.proofs.Histories.{all_new, one_content, are_open}
use Rattle.world.proofs.Turns.{chains_hold}

-- ---- nothing that is found is called Sound

first_not : {A : Type 0} (f : ℕ → A → Option Verdict) (xs : List A) → ((i : ℕ) (x : A) → f i x ≡ Some Sound → ⊥) → first_at f xs ≡ Some Sound → ⊥
first_not f xs h e = let r = first_some f xs Sound e in h r.place r.element r.gives

when_not : (b : Bool) (y : Verdict) → (y ≡ Sound → ⊥) → when b y ≡ Some Sound → ⊥
when_not b y h e = h (when_some b y Sound e).1

pair_not : (b c : Bool) (g e : Gtid) (key : Key) → cond b (cond c (Reordered g e key) (NotClosed e g)) (cond c (NotClosed g e) (Concurrent g e key)) ≡ Sound → ⊥
pair_not true true g e key h = cc
pair_not true false g e key h = cc
pair_not false true g e key h = cc
pair_not false false g e key h = cc

fault_not : (hs : List History) (h : History) (e : Gtid) (key : Key) (next : Option Entry) → fault_with hs h e key next ≡ Some Sound → ⊥
fault_not hs h e key None f = cc
fault_not hs h e key (Some g) f = by_test (same_gtid g.0 e) f
  where
    by_test : (b : Bool) → cond b None (option_map (λ a. pair_fault a h g.0 e key) (bringer hs g.0)) ≡ Some Sound → ⊥
    by_test true f = cc
    by_test false f = let r = map_some (λ a. pair_fault a h g.0 e key) (bringer hs g.0) Sound f in pair_not (has r.0 e) (has h g.0) g.0 e key r.2

pub conflict_not : (schema : List Table) (hs : List History) → conflict schema hs ≡ Some Sound → ⊥
conflict_not schema hs = first_not _ hs (λ i h. first_not _ h (λ k e. first_not _ (write_set schema e.1) (λ l key. fault_not hs h e.0 key (next_of schema (order_of hs) e.1 key (take k h)))))

pub keys_not : (world : source.World) (journals : List JournalValue) → found_in_keys_in_order world journals ≡ Some Sound → ⊥
keys_not world journals =
    next_not (unequal world journals) _ (first_not _ journals (λ i j. first_not _ j.entries (λ k e. when_not _ (Unequal e.gtid) (λ p. cc))))
    (next_not (purged world journals) _ (first_not _ journals (λ i j. when_not _ (Purged i (set.difference j.previous world.opening_set)) (λ p. cc)))
    (next_not (missing world journals) _ (first_not _ (present world journals) (λ i g. first_not _ (below g.0) (λ k h. when_not _ (Missing h) (λ p. cc))))
    (conflict_not world.schema (histories_of world.opening_set journals))))

applies_not : (world : source.World) (journals : List JournalValue) → fails_in_order world journals ≡ Some Sound → ⊥
applies_not world journals p =
    let r = map_some (λ (fault : Gtid × RowFault). DoesNotApply fault.0 fault.1) (first_fault world.schema (order_of (histories_of world.opening_set journals)) world.opening_rows) Sound p in
    cc

-- ---- the order applies

fault_none : (e : Entry) (r : Result Rows RowFault) (more : Rows → Option (Gtid × RowFault)) → fault_after e r more ≡ None → (rows : Rows) × (r ≡ Ok rows) × (more rows ≡ None)
fault_none e (Ok rows) more h = (rows, refl, h)
fault_none e (Err fault) more h = cc

no_fault : (schema : List Table) (es : List Entry) (rows : Rows) → first_fault schema es rows ≡ None → IsOk (apply_all schema es rows)
no_fault schema [] rows h = refl
no_fault schema (e ∷ es) rows h =
    let r = fault_none e (apply schema e.1 rows) (first_fault schema es) h in
    subst (λ (x : Result Rows RowFault). IsOk (x >>= apply_all schema es)) (sym r.1) (no_fault schema es r.0 r.2)

-- ---- what Sound means

module _ (schema : List Table) (opened : Gtids) (rows : Rows) (journals : List JournalValue) (are : AreJournals journals) where
  abbrev w : source.World
  w = sources.world_of schema opened rows journals

  keys_mean : found_in_keys_in_order w journals ≡ None → AreGtidsSound (joined_world schema opened rows journals) × AllByRecursion (IsFaithful (joined_world schema opened rows journals)) journals
  keys_mean e =
      let a = next_none (unequal w journals) _ e in
      let b = next_none (purged w journals) _ a.1 in
      let c = next_none (missing w journals) _ b.1 in
      let hs = histories_of opened journals in
      let new : AllByRecursion (laws.AreNew opened) hs = all_new opened journals are in
      let one : HaveOneContent hs = one_content w journals a.0 in
      let chains : HaveChains schema hs = chains_hold schema hs (order_distinct opened hs new) one (λ h k. (among_all (laws.AreNew opened) hs new h k).0) c.1 in
      (order_gtids schema opened rows hs new, chains_are_enough schema opened rows journals (are_open w journals are b.0) new one chains)

pub keys_in_order_mean : KeysInOrderMean
keys_in_order_mean schema opened rows journals are e =
    let w = sources.world_of schema opened rows journals in
    keys_mean schema opened rows journals are (none_of_sound (found_in_keys_in_order w journals) (keys_not w journals) e)

pub sound_in_order_means : SoundInOrderMeans
sound_in_order_means schema opened rows journals are e =
    let w = sources.world_of schema opened rows journals in
    let none = next_none (found_in_keys_in_order w journals) (fails_in_order w journals) (none_of_sound (or_next (found_in_keys_in_order w journals) (fails_in_order w journals)) (next_not (found_in_keys_in_order w journals) (fails_in_order w journals) (keys_not w journals) (applies_not w journals)) e) in
    let keys = keys_mean schema opened rows journals are none.0 in
    let fault = none_mapped (λ (fault : Gtid × RowFault). DoesNotApply fault.0 fault.1) (first_fault schema (order_of (histories_of opened journals)) rows) none.1 in
    (record { gtids = keys.0; applies = no_fault schema (order_of (histories_of opened journals)) rows fault }, keys.1)
