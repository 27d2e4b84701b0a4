-- What an audit lists after its verdict.
use Rattle.std.specs.Prelude.{◌≡◌, ◌≢◌, ℕ, ◌+◌, ◌-◌, Bool, true, false, not, ◌&&◌, ◌||◌, ◌==◌, nat_lt, List, [], ◌∷◌, ◌++◌, Option, Some, None, if◌then◌else◌}
use Rattle.std.specs.List.{list_any, AllByRecursion}
use Rattle.std.specs.FinMap as finmap
use Rattle.std.specs.FinSet as set
use Rattle.std.specs.declared.cmp.Ordering.TheVariants.{Less}
use Rattle.gtid_text.specs.declared.Gtid.{Gtid}
use Rattle.gtid_text.specs.Gtids.{gtid_cmp, same_gtid}
use Rattle.gtid_set.specs.Sets.{Gtids, interval}
use Rattle.gtid_set.specs.declared.fault.SetFault.{SetFault}
use Rattle.rows.specs.declared.change.Key.{Key}
use Rattle.rows.specs.declared.schema.Table.{Table}
use Rattle.rows.specs.Order.{key_eq}
use Rattle.rows.specs.WriteSet.{write_set}
use Rattle.journal.specs.Journals.{JournalValue}
use Rattle.history.specs.Sources.{World}
use Rattle.history.specs.Sources as history
use Rattle.world.specs.declared.verdict.Verdict.{Verdict}
use Rattle.world.specs.declared.verdict.Verdict.TheVariants.{Purged, Missing, Shared}
use Rattle.world.specs.Search.{when}
use Rattle.world.specs.Audit.{present, verdict}
use Rattle.world.specs.Cases.{IsPurged, IsMissing, IsShared}
use Rattle.world.specs.Folds.{FirstTouch, touched_by, shares_with}
use Rattle.audit.specs.declared.listing.AllFaults.{AllFaults}
use Rattle.audit.specs.Faults.{intervals_of, IsFaultWithin}
use Rattle.audit.specs.Missing.{number_before}
use Rattle.audit.specs.OtherGaps.{AreOtherGaps, other_gaps}
use Rattle.audit.specs.OtherRefusals.{AreOtherRefusals, other_refusals}
use Rattle.audit.specs.OtherUnequal.{AreOtherUnequal, other_unequal}
use Rattle.audit.specs.Worlds.{LieBeyond}

-- ---- shared keys

-- Transactions of two sources touch a key, and of the pairs that do this one has the least second, and then the least first.
pub record IsLeastPair (world : World) (g h : Gtid) (key : Key) : Type 0 where
  pub pair : IsShared world g h key
  pub second : (a b : Gtid) → IsShared world a b key → gtid_cmp b h ≢ Less
  pub first : (a b : Gtid) → IsShared world a b key → gtid_cmp a g ≢ Less

-- the verdict reports the least pair that touches its key
abbrev pub IsPairNamed : World → Verdict → Type 0
IsPairNamed world (Shared g h key) = IsLeastPair world g h key
IsPairNamed world _ = ⊥

-- the verdict reports this key
abbrev pub is_of_key : Key → Verdict → Bool
is_of_key k (Shared g h key) = key_eq k key
is_of_key k _ = false

-- one of these reports the same key
abbrev pub is_again : Verdict → List Verdict → Bool
is_again (Shared g h key) vs = list_any (is_of_key key) vs
is_again _ vs = false

-- no two of these report one key
abbrev pub AreOnce : List Verdict → Type 0
AreOnce [] = Unit {0}
AreOnce (v ∷ vs) = (is_again v vs ≡ false) × AreOnce vs

-- Each names the least pair of its key; every key that transactions of two sources touch is that of the verdict or of one of these, and of one alone.
pub record AreOtherKeys (world : World) (v : Verdict) (list : List Verdict) : Type 0 where
  pub named : AllByRecursion (IsPairNamed world) list
  pub every : (a b : Gtid) (key : Key) → IsShared world a b key → (is_of_key key v || list_any (is_of_key key) list) ≡ true
  pub once : AreOnce (v ∷ list)

-- ---- the pass over the transactions

-- the pair with which a key is reported, if it is shared and was not reported already
abbrev pub pair_of_key : Gtid → FirstTouch → FirstTouch → Key → Option Verdict
pair_of_key h seen named key = if finmap.contains_key named key then None else shares_with h key (finmap.get seen key)

abbrev pub with_pair : Option Verdict → List Verdict → List Verdict
with_pair None vs = vs
with_pair (Some v) vs = v ∷ vs

abbrev pub with_name : Option Verdict → Gtid → Key → FirstTouch → FirstTouch
with_name None h key named = named
with_name (Some v) h key named = finmap.insert named key h

-- what is reported for the keys of one transaction, and the keys that are reported then
abbrev pub pairs_of_keys : Gtid → FirstTouch → FirstTouch → List Key → List Verdict
pairs_of_keys h seen named [] = []
pairs_of_keys h seen named (key ∷ keys) =
    with_pair (pair_of_key h seen named key) (pairs_of_keys h seen (with_name (pair_of_key h seen named key) h key named) keys)

abbrev pub named_by_keys : Gtid → FirstTouch → FirstTouch → List Key → FirstTouch
named_by_keys h seen named [] = named
named_by_keys h seen named (key ∷ keys) = named_by_keys h seen (with_name (pair_of_key h seen named key) h key named) keys

-- what is reported for the keys of these, after others that touched keys first
abbrev pub pairs_from : List Table → FirstTouch → FirstTouch → List history.Entry → List Verdict
pairs_from schema seen named [] = []
pairs_from schema seen named (h ∷ es) =
    pairs_of_keys h.0 seen named (write_set schema h.1)
    ++ pairs_from schema (touched_by h.0 (write_set schema h.1) seen) (named_by_keys h.0 seen named (write_set schema h.1)) es

-- the key of the verdict
abbrev pub key_of_verdict : Verdict → FirstTouch
key_of_verdict (Shared g h key) = finmap.insert finmap.empty key h
key_of_verdict _ = finmap.empty

-- what is reported for every other key
abbrev pub other_pairs : World → Verdict → List Verdict
other_pairs world v = pairs_from world.schema finmap.empty (key_of_verdict v) (finmap.entries world.contents)

-- ---- missing GTIDs

-- a number of a source between two others
abbrev pub lies_between : ℕ → ℕ → ℕ → Gtid → Bool
lies_between source after below g = (g.source == source) && (nat_lt after g.number && nat_lt g.number below)

-- a number that is passed over before one of these, the last GTID before them being this
abbrev pub is_skipped : Option Gtid → List history.Entry → Gtid → Bool
is_skipped last [] g = false
is_skipped last (e ∷ es) g = lies_between e.0.source (number_before last e.0.source) e.0.number g || is_skipped (Some e.0) es g

-- the verdict reports this GTID as missing
abbrev pub is_of_missing : Gtid → Verdict → Bool
is_of_missing g (Missing h) = same_gtid g h
is_of_missing g _ = false

-- These are the missing GTIDs but that of the verdict.
pub record AreOtherMissing (world : World) (journals : List JournalValue) (v : Verdict) (gtids : Gtids) : Type 0 where
  pub named : (g : Gtid) → set.contains gtids g ≡ true → IsMissing world journals g × (is_of_missing g v ≡ false)
  pub every : (g : Gtid) → IsMissing world journals g → (is_of_missing g v || set.contains gtids g) ≡ true

-- the numbers that are passed over before these, and these GTIDs
abbrev pub skips_from : Gtids → Option Gtid → List history.Entry → Gtids
skips_from skipped last [] = skipped
skips_from skipped last (e ∷ es) =
    skips_from (set.union skipped (interval e.0.source (number_before last e.0.source + 1) (e.0.number - 1))) (Some e.0) es

-- the numbers that are passed over before what is in the journals
abbrev pub skipped_in : World → List JournalValue → Gtids
skipped_in world journals = skips_from set.empty None (present world journals)

-- what is missing
abbrev pub missing_in : World → List JournalValue → Gtids
missing_in world journals = set.difference (skipped_in world journals) world.opening_set

-- but for the one of the verdict
abbrev pub but_missing : Verdict → Gtids → Gtids
but_missing (Missing g) gtids = set.difference gtids (set.insert set.empty g)
but_missing _ gtids = gtids

-- ---- journals

-- the verdict reports a journal that begins after the opening set, with what is missing
abbrev pub IsJournalNamed : World → List JournalValue → Verdict → Type 0
IsJournalNamed world journals (Purged i gtids) = IsPurged world journals i gtids
IsJournalNamed world journals _ = ⊥

-- the verdict reports this journal
abbrev pub is_of_journal : ℕ → Verdict → Bool
is_of_journal i (Purged k gtids) = k == i
is_of_journal i _ = false

abbrev pub other_purged_at : World → Verdict → ℕ → JournalValue → Option Verdict
other_purged_at world v i j = when (not (set.is_subset j.previous world.opening_set) && not (is_of_journal i v)) (Purged i (set.difference j.previous world.opening_set))

-- what f gives for each element for which it gives something; f takes the element's place, the first of which is n, and the element
abbrev pub each_from : (ℕ → JournalValue → Option Verdict) → ℕ → List JournalValue → List Verdict
each_from f n [] = []
each_from f n (x ∷ xs) = with_pair (f n x) (each_from f (n + 1) xs)

-- each journal whose previous set is not within the opening set, with what is missing, but that of the verdict
abbrev pub other_purged : World → List JournalValue → Verdict → List Verdict
other_purged world journals v = each_from (other_purged_at world v) 0 journals

-- Each reports a journal that begins after the opening set; every such journal is that of the verdict or of one of these.
pub record AreOtherJournals (world : World) (journals : List JournalValue) (v : Verdict) (list : List Verdict) : Type 0 where
  pub named : AllByRecursion (IsJournalNamed world journals) list
  pub every : (i : ℕ) (gtids : Gtids) → IsPurged world journals i gtids → (is_of_journal i v || list_any (is_of_journal i) list) ≡ true

-- ---- all of it

-- the verdict, and all other faults: GTIDs under which journals differ from the world, journals that begin after the opening set, missing
-- GTIDs, shared keys, GTIDs that are present without what they need and sources whose transactions do not apply
pub record Faults : Type 0 where
  pub verdict : Verdict
  pub unequal : List Verdict
  pub purged : List Verdict
  pub missing : Gtids
  pub shared : List Verdict
  pub not_closed : List Verdict
  pub does_not_apply : List Verdict

abbrev pub faults_of : World → List JournalValue → Faults
faults_of world journals =
    let v = verdict world journals in
    record {
      verdict = v;
      unequal = other_unequal world journals v;
      purged = other_purged world journals v;
      missing = but_missing v (missing_in world journals);
      shared = other_pairs world v;
      not_closed = other_gaps world journals v;
      does_not_apply = other_refusals world v;
    }

-- the faults that the code's record denotes
pub record HoldsFaults (held : AllFaults) (all : Faults) : Type 0 where
  pub verdict : held.verdict ≡ all.verdict
  pub unequal : held.unequal.items ≡ all.unequal
  pub purged : held.purged.items ≡ all.purged
  pub missing : held.missing ≡ all.missing
  pub shared : held.shared.items ≡ all.shared
  pub not_closed : held.not_closed.items ≡ all.not_closed
  pub does_not_apply : held.does_not_apply.items ≡ all.does_not_apply

-- After the verdict there is each other GTID under which journals differ from the world, journal that begins after the opening set, missing
-- GTID, shared key and GTID that is present without what it needs, and each other source whose transactions do not apply; and nothing else.
-- The journals may be others than those that the world was made of.
pub record AreAll (world : World) (journals : List JournalValue) (all : Faults) : Type 0 where
  pub verdict : all.verdict ≡ verdict world journals
  pub unequal : AreOtherUnequal world journals all.verdict all.unequal
  pub purged : AreOtherJournals world journals all.verdict all.purged
  pub missing : AreOtherMissing world journals all.verdict all.missing
  pub shared : AreOtherKeys world all.verdict all.shared
  pub not_closed : AreOtherGaps world journals all.verdict all.not_closed
  pub does_not_apply : AreOtherRefusals world all.verdict all.does_not_apply

abbrev pub FaultsAreAll : Type 0
FaultsAreAll = (world : World) (journals : List JournalValue) → LieBeyond world.opening_set world.contents → AreAll world journals (faults_of world journals)

-- Memory was refused; or the numbers that are passed over are of too many sources; or the intervals of the opening set and of the previous sets
-- and the entries together are too many.
abbrev pub IsListFault : World → List JournalValue → SetFault → Type 0
IsListFault world journals f = IsFaultWithin (skipped_in world journals) (intervals_of world.opening_set journals) f
