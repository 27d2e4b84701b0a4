-- The greatest place among the last writers of an entry's keys is its last_committed.
use Rattle.std.proofs.Common.{◌≡◌, ◌<◌, ◌+◌, ◌==◌, ℕ, Bool, true, false, cond, List, [], ◌∷◌, ◌++◌, Option, Some, None, length, max, refl, sym, ap, ◌∙◌, arith}
use Rattle.std.proofs.lemmas.Bool.Decides.{nat_tests}
use Rattle.std.specs.FinMap.{get, empty, get-empty}
use Rattle.std.specs.List.{list_any}
use Rattle.rows.specs.declared.change.Key.{Key}
use Rattle.rows.specs.declared.schema.Table.{Table}
use Rattle.rows.specs.declared.change.Transaction.{Transaction}
use Rattle.rows.specs.Order.{key_cmp}
use Rattle.rows.specs.WriteSet.{write_set, touches, shares_key}
use Rattle.rows.specs.Conflicts.{shares_both_ways}
use Rattle.journal.specs.declared.Entry.{Entry}
use Rattle.logical_timestamps.specs.Timestamps.{last_place, last_committed}
use Rattle.logical_timestamps.specs.Writers.{Writers, IsNext, record_writes, writers_after, earlier_place, latest_in_turn}
use Rattle.logical_timestamps.proofs.Places.{last_place_below, latest, any_place}
use Rattle.logical_timestamps.proofs.Writing.{place_or_0, writers_at, writers_more, in_turn, agree}

-- ---- the next entry

earlier_is : (place : ℕ) (o : Option ℕ) → place_or_0 o < place → earlier_place place o ≡ place_or_0 o
earlier_is place None h = refl
earlier_is place (Some n) h = other (n == place) (grind (arith, nat_tests, h))
  where
    other : (b : Bool) → b ≡ false → cond b 0 n ≡ n
    other true e = cc
    other false e = refl

-- the last writer of a key before the entry that is next
before : (schema : List Table) (earlier : List Entry) (k : Key) → earlier_place (length earlier + 1) (get (writers_after schema earlier) k) ≡ last_place (λ (f : Entry). touches schema f.txn k) 1 0 earlier
before schema earlier k =
    let p : Entry → Bool = λ f. touches schema f.txn k in
    let at : place_or_0 (get (writers_after schema earlier) k) ≡ last_place p 1 0 earlier =
    writers_at schema 1 empty earlier k ∙ ap (λ o. last_place p 1 (place_or_0 o) earlier) (get-empty key_cmp k) in
    let under = last_place_below p 1 0 earlier (omega arith) in
    earlier_is (length earlier + 1) (get (writers_after schema earlier) k) (omega (arith, at, under)) ∙ at

latest_is : (schema : List Table) (earlier : List Entry) (e : Entry) → latest_in_turn (length earlier + 1) (write_set schema e.txn) (writers_after schema earlier) 0 ≡ last_committed schema earlier e
latest_is schema earlier e =
    let keys = write_set schema e.txn in
    in_turn (length earlier + 1) keys (writers_after schema earlier) 0
    ∙ from_0 (latest (λ k. earlier_place (length earlier + 1) (get (writers_after schema earlier) k)) keys)
    ∙ agree (λ k. earlier_place (length earlier + 1) (get (writers_after schema earlier) k)) (λ k. last_place (λ (f : Entry). touches schema f.txn k) 1 0 earlier) (before schema earlier) keys
    ∙ any_place (λ (f : Entry) (k : Key). touches schema f.txn k) 1 earlier keys (omega arith)
    ∙ (λ i. last_place (λ (f : Entry). sharing_there f.txn i) 1 0 earlier)
  where
    from_0 : (n : ℕ) → max 0 n ≡ n
    from_0 n = omega arith

    -- an entry whose keys are touched shares one
    sharing_there : (t : Transaction) → list_any (touches schema t) (write_set schema e.txn) ≡ shares_key schema t e.txn
    sharing_there t = shares_both_ways schema e.txn t

-- what the table gives for the next entry
pub next_last_committed : (schema : List Table) (writers : Writers) (place : ℕ) (earlier : List Entry) (e : Entry) → IsNext writers schema place earlier
    → latest_in_turn place (write_set schema e.txn) writers 0 ≡ last_committed schema earlier e
next_last_committed schema writers place earlier e h = (λ i. latest_in_turn (h.1 i) (write_set schema e.txn) (h.0 i) 0) ∙ latest_is schema earlier e

-- what the table is after it
pub next_writers : (schema : List Table) (writers : Writers) (place : ℕ) (earlier : List Entry) (e : Entry) → IsNext writers schema place earlier
    → record_writes place (write_set schema e.txn) writers ≡ writers_after schema (earlier ++ e ∷ [])
next_writers schema writers place earlier e h =
    let at : length earlier + 1 ≡ 1 + length earlier = omega arith in
    (λ i. record_writes ((h.1 ∙ at) i) (write_set schema e.txn) (h.0 i)) ∙ sym (writers_more schema 1 empty earlier e)
