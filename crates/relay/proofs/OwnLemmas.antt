-- The executed set, as entries are put, taken away and purged.
use Rattle.std.proofs.Common.{◌≡◌, ◌≤◌, ℕ, ◌-◌, true, List, [], ◌∷◌, ◌++◌, take, length, refl, sym, ap, subst, ◌∙◌, suc, arith, length-append, true≢false}
use Rattle.std.specs.FinSet as set
use Rattle.gtid_set.specs.Sets.{Gtids, source_count, most_sources}
use Rattle.gtid_set.specs.Full.{interval_count, most_intervals}
use Rattle.gtid_set.proofs.SetLemmas.{union_empty, union_insert}
use Rattle.journal.specs.declared.Entry.{Entry}
use Rattle.journal.specs.Journals.{JournalValue, gtids_of, previous_after_purge, whole}
use Rattle.journal.proofs.EntryLemmas.{gtids_of-push}
use Rattle.relay.specs.declared.Behind.{Behind}
use Rattle.relay.specs.declared.Behind.TheVariants.{Equal, ByLast, By, Ahead}
use Rattle.relay.specs.Known.{IsNear, IsNearBy, is_undoable, equal_to, ahead_by, step_back_by, step_back, settle_by, keep_step}
use Rattle.relay.specs.declared.Known.{Known}
use Rattle.relay.specs.Own.{IsOwn, IsBefore, with_last, without_last, purge_to}
use Rattle.journal.proofs.FaultLemmas.{joined, fewer}

-- one entry more
pub whole-with_last : (e : Entry) (j : JournalValue) → whole (with_last e j) ≡ set.insert (whole j) e.gtid
whole-with_last e j = ap (λ s. set.union j.previous s) (gtids_of-push j.entries e) ∙ sym (union_insert j.previous (gtids_of j.entries) e.gtid)

one_more : {X : Type 0} (ys : List X) (x : X) → suc (length (ys ++ x ∷ [])) - 1 ≡ suc (length (ys ++ x ∷ []) - 1)
one_more ys x = omega (arith, length-append ys (x ∷ []))

take_before : {X : Type 0} (xs : List X) (x : X) → take (length (xs ++ x ∷ []) - 1) (xs ++ x ∷ []) ≡ xs
take_before [] x = refl
take_before (y ∷ ys) x = ap (λ n. take n (y ∷ (ys ++ x ∷ []))) (one_more ys x) ∙ ap (λ zs. y ∷ zs) (take_before ys x)

-- ... and taken away again
pub without_last-with_last : (e : Entry) (j : JournalValue) → without_last (with_last e j) ≡ j
without_last-with_last e j = λ i. let r : JournalValue = record j { entries = take_before j.entries e i } in r

-- a purge leaves the executed set
pub whole-purged_to : (n : ℕ) (j : JournalValue) → whole (purge_to n j) ≡ whole j
whole-purged_to n j = joined n j.previous j.entries

-- the purged set is a part of the executed set
pub purged_fits : (n : ℕ) (j : JournalValue) (known : Known) → IsOwn j known → source_count known.executed ≤ most_sources → source_count (previous_after_purge n j) ≤ most_sources
purged_fits n j known own fits =
    let same = ap source_count own.whole_set in
    let part = fewer n j.previous j.entries in
    omega (arith, same, part, fits)

near_lasting : (b : Behind) (spare executed : Gtids) → IsNearBy b spare executed → IsNear (settle_by b (record { executed = executed; spare = spare; behind = b }))
near_lasting Equal spare executed near = near
near_lasting (ByLast gtid) spare executed near = near
near_lasting (By gtid) spare executed near = near
near_lasting (Ahead gtid) spare executed near = near

before_lasting : (b : Behind) (known : Known) (j : JournalValue) → known.behind ≡ b → IsBefore (settle_by b known).behind (settle_by b known).spare j
before_lasting Equal known j is = subst (λ (b : Behind). IsBefore b known.spare j) (sym is) tt
before_lasting (ByLast gtid) known j is = tt
before_lasting (By gtid) known j is = subst (λ (b : Behind). IsBefore b known.spare j) (sym is) tt
before_lasting (Ahead gtid) known j is = subst (λ (b : Behind). IsBefore b known.spare j) (sym is) tt

executed_lasting : (b : Behind) (known : Known) → (settle_by b known).executed ≡ known.executed
executed_lasting Equal known = refl
executed_lasting (ByLast gtid) known = refl
executed_lasting (By gtid) known = refl
executed_lasting (Ahead gtid) known = refl

-- what is kept, after a purge
pub own_purged : (n : ℕ) (j : JournalValue) (known : Known) → IsOwn j known → IsOwn (purge_to n j) (keep_step known)
own_purged n j known own = record {
  whole_set = executed_lasting known.behind known ∙ own.whole_set ∙ sym (whole-purged_to n j);
  near = near_lasting known.behind known.spare known.executed own.near;
  before = before_lasting known.behind known (purge_to n j) refl;
}

-- what is kept at the start
pub own_start : (s : Gtids) (j : JournalValue) → j ≡ record { previous = s; entries = [] } → IsOwn j (equal_to s)
own_start s j is = record { whole_set = union_empty s ∙ sym (ap whole is); near = refl; before = tt }

-- ... with one entry more
pub own_appended : (e : Entry) (j : JournalValue) (known : Known) → source_count (set.insert known.executed e.gtid) ≤ most_sources → interval_count (set.insert known.executed e.gtid) ≤ most_intervals → IsOwn j known → IsOwn (with_last e j) (ahead_by e.gtid known.executed)
own_appended e j known fits small own = record {
  whole_set = ap (λ s. set.insert s e.gtid) own.whole_set ∙ sym (whole-with_last e j);
  near = record { made = refl; fits = fits; small = small };
  before = own.whole_set ∙ sym (ap whole (without_last-with_last e j));
}

-- ... and with that entry taken back
back_by : (b : Behind) (j : JournalValue) (known : Known) → is_undoable b ≡ true → IsBefore b known.spare j → IsOwn (without_last j) (step_back_by b known)
back_by Equal j known may before = absurd (true≢false (sym may))
back_by (ByLast gtid) j known may before = record { whole_set = before; near = tt; before = tt }
back_by (By gtid) j known may before = absurd (true≢false (sym may))
back_by (Ahead gtid) j known may before = absurd (true≢false (sym may))

pub own_back : (j : JournalValue) (known : Known) → is_undoable known.behind ≡ true → IsOwn j known → IsOwn (without_last j) (step_back known)
own_back j known may own = back_by known.behind j known may own.before

-- caught up, the journal is the same
pub own_equal : (j : JournalValue) (known : Known) → IsOwn j known → IsOwn j (equal_to known.executed)
own_equal j known own = record { whole_set = own.whole_set; near = refl; before = tt }
