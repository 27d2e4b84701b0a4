-- What channels lack of what their servers had executed.
use Rattle.std.proofs.Common.{◌≡◌, ℕ, zero, suc, ◌<◌, ◌≤◌, Bool, true, false, not, List, [], ◌∷◌, length, take_all, Option, Some, None, Result, Ok, Err, IfOk, IfErr, is_some, slice_get, refl, sym, ap, ◌∙◌, subst, arith}
use Rattle.std.specs.Prelude.{◌&&◌, ◌||◌}
use Rattle.std.specs.FinSet as set
use Rattle.std.proofs.lemmas.Option.{slice_get_within}
use Rattle.lemmas.proofs.SameGtid.{gtid_total}
use Rattle.gtid_set.specs.Sets.{Gtids}
use Rattle.gtid_set.specs.declared.fault.SetFault.{SetFault}
use Rattle.gtid_set.specs.declared.fault.SetFault.TheVariants.{Memory, PoolFull, SourcesFull}
use Rattle.rows.specs.declared.limits.Limits.{Limits}
use Rattle.rows.specs.declared.schema.Table.{Table}
use Rattle.journal.specs.Journals.{JournalValue, gtids_of, whole, previous_after_purge}
use Rattle.txn_journal.specs.BundleStates.{BundleValue}
use Rattle.txn_journal.specs.BundleText.{AreBrought}
use Rattle.txn_journal.specs.declared.bundle.BundleChannel.{BundleChannel}
use Rattle.binlog_bundle.specs.Executed.{IsWithin, IsWithinAt, AreWithin, IsLack, IsLackAt, IsLackFault, IsFullAt, HasFullLack}

-- ---- sets

or_there : (e o w : Bool) → e ≡ true → ((e && not o) ≡ true → w ≡ true) → (o || w) ≡ true
or_there e true w h k = refl
or_there e false w h k = k (λ i. h i && true)

there : (e o w : Bool) → (e && not o) ≡ true → (e ≡ true → (o || w) ≡ true) → w ≡ true
there true true w h k = absurd cc
there true false w h k = k refl
there false o w h k = absurd cc

within_of : (executed opened w : Gtids) → set.is_subset (set.difference executed opened) w ≡ true → set.is_subset executed (set.union opened w) ≡ true
within_of executed opened w h = set.contains-is_subset gtid_total executed (set.union opened w) (λ q e.
    set.contains-union gtid_total opened w q
    ∙ or_there (set.contains executed q) (set.contains opened q) (set.contains w q) e (λ d. set.is_subset-contains gtid_total (set.difference executed opened) w h q (set.contains-difference gtid_total executed opened q ∙ d)))

of_within : (executed opened w : Gtids) → set.is_subset executed (set.union opened w) ≡ true → set.is_subset (set.difference executed opened) w ≡ true
of_within executed opened w h = set.contains-is_subset gtid_total (set.difference executed opened) w (λ q e.
    there (set.contains executed q) (set.contains opened q) (set.contains w q) (sym (set.contains-difference gtid_total executed opened q) ∙ e)
    (λ d. sym (set.contains-union gtid_total opened w q) ∙ set.is_subset-contains gtid_total executed (set.union opened w) h q d))

-- ---- a channel

all_purged : (journal : JournalValue) → previous_after_purge (length journal.entries) journal ≡ whole journal
all_purged journal = ap (λ (es : List _). set.union journal.previous (gtids_of es)) (take_all (length journal.entries) journal.entries (omega arith))

-- what is left without the opening set, and what the journal has
abbrev IsLeft : Gtids → Gtids → JournalValue → Gtids → Gtids → Type 0
IsLeft opened executed journal left all = (left ≡ set.difference executed opened) × (all ≡ previous_after_purge (length journal.entries) journal)

pub lacks_nothing : (opened executed left all : Gtids) (journal : JournalValue) → left ≡ set.difference executed opened → all ≡ previous_after_purge (length journal.entries) journal → set.is_subset left all ≡ true → IsWithin opened executed journal
lacks_nothing opened executed left all journal e f h =
    within_of executed opened (whole journal) (sym (λ i. set.is_subset (e i) ((f ∙ all_purged journal) i)) ∙ h)

pub lacks_this : (opened executed left all lack : Gtids) (journal : JournalValue) → left ≡ set.difference executed opened → all ≡ previous_after_purge (length journal.entries) journal → set.is_subset left all ≡ false → lack ≡ set.difference left all → IsLack opened executed journal (Some lack)
lacks_this opened executed left all lack journal e f h g = (
  (λ within. let bad : true ≡ false = sym (of_within executed opened (whole journal) within) ∙ sym (λ i. set.is_subset (e i) ((f ∙ all_purged journal) i)) ∙ h in cc),
  g ∙ (λ i. set.difference (e i) ((f ∙ all_purged journal) i)),
)

-- ---- channels

same_some : {X : Type 0} (x y : X) → Some x ≡ Some y → x ≡ y
same_some x y e = cc

module _ (b : BundleValue) (said : List (Option Gtids)) (place : ℕ) (executed opened : Gtids) (shown : List JournalValue) (journal : JournalValue) where
  found_at : (found : Option Gtids) → slice_get said place ≡ Some (Some executed) → opened ≡ b.opened → slice_get b.journals place ≡ Some journal → IsLack opened executed journal found → IsLackAt b said place found
  found_at None says e brings within = λ other j says_other brings_other.
      let same : executed ≡ other = same_some executed other (same_some (Some executed) (Some other) (sym says ∙ says_other)) in
      let journals : journal ≡ j = same_some journal j (sym brings ∙ brings_other) in
      subst (λ (s : Gtids). IsWithin b.opened s j) same (subst (λ (k : JournalValue). IsWithin b.opened executed k) journals (subst (λ (o : Gtids). IsWithin o executed journal) e within))
  found_at (Some missing) says e brings lack =
      record { executed = executed; journal = journal; says = says; brings = brings; lack = subst (λ (o : Gtids). IsLack o executed journal (Some missing)) e lack }

  brings_it : shown ≡ b.journals → Some journal ≡ slice_get shown place → slice_get b.journals place ≡ Some journal
  brings_it e is = sym (is ∙ ap (λ (js : List JournalValue). slice_get js place) e)

  pub lack_found : (r : Result (Option Gtids) SetFault) → slice_get said place ≡ Some (Some executed) → opened ≡ b.opened → shown ≡ b.journals → Some journal ≡ slice_get shown place → IfOk r (IsLack opened executed journal) → IfOk r (IsLackAt b said place)
  lack_found (Err fault) says e f is h = tt
  lack_found (Ok found) says e f is h = found_at found says e (brings_it f is) h

  full_at : (fault : SetFault) → slice_get said place ≡ Some (Some executed) → opened ≡ b.opened → slice_get b.journals place ≡ Some journal → IsLackFault fault opened executed journal → IsFullAt fault b said
  full_at fault says e brings full = record { place = place; executed = executed; journal = journal; says = says; brings = brings; full = subst (λ (o : Gtids). IsLackFault fault o executed journal) e full }

  pub lack_not_made : (r : Result (Option Gtids) SetFault) → slice_get said place ≡ Some (Some executed) → opened ≡ b.opened → shown ≡ b.journals → Some journal ≡ slice_get shown place → IfErr r (λ fault. IsLackFault fault opened executed journal) → IfErr r (λ fault. HasFullLack fault b said)
  lack_not_made (Ok found) says e f is h = tt
  lack_not_made (Err Memory) says e f is h = tt
  lack_not_made (Err PoolFull) says e f is h = full_at PoolFull says e (brings_it f is) h
  lack_not_made (Err SourcesFull) says e f is h = full_at SourcesFull says e (brings_it f is) h

pub within_all : (b : BundleValue) (said : List (Option Gtids)) (n : ℕ) → length said ≤ n → ((k : ℕ) → k < n → IsWithinAt b said k) → AreWithin b said
within_all b said n le each k executed journal says brings = each k (omega (arith, slice_get_within said k (Some executed) says)) executed journal says brings

channel_there : (limits : Limits) (tables : List Table) (cs : List BundleChannel) (js : List JournalValue) (n : ℕ) → AreBrought limits tables cs js → is_some (slice_get js n) ≡ true → None ≡ slice_get cs n → ⊥
channel_there limits tables [] [] n h is none = cc
channel_there limits tables (c ∷ cs) (k ∷ js) zero h is none = cc
channel_there limits tables (c ∷ cs) (k ∷ js) (suc n) h is none = channel_there limits tables cs js n h.1 is none
channel_there limits tables [] (k ∷ js) n h is none = absurd h
channel_there limits tables (c ∷ cs) [] n h is none = absurd h

pub not_there : (limits : Limits) (tables : List Table) (cs shown : List BundleChannel) (js : List JournalValue) (n : ℕ) → AreBrought limits tables cs js → shown ≡ cs → is_some (slice_get js n) ≡ true → None ≡ slice_get shown n → ⊥
not_there limits tables cs shown js n h e is none = channel_there limits tables cs js n h is (none ∙ ap (λ (xs : List BundleChannel). slice_get xs n) e)
