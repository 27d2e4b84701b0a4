-- Which entry touched each key last.
use Rattle.std.specs.Prelude.{◌≡◌, ℕ, length, ◌+◌, ◌==◌, max, if◌then◌else◌, List, [], ◌∷◌, ◌++◌, Option, Some, None}
use Rattle.std.specs.Coded.{Coded, coded_ℕ}
use Rattle.std.specs.FinMap as finmap
use Rattle.rows.specs.declared.change.Key.{Key}
use Rattle.rows.specs.declared.schema.Table.{Table}
use Rattle.rows.specs.Coding.{key_code}
use Rattle.rows.specs.Order.{key_cmp}
use Rattle.rows.specs.WriteSet.{write_set}
use Rattle.journal.specs.declared.Entry.{Entry}
use Rattle.logical_timestamps.specs.Timestamps.{last_committed}

-- from each key to the place, from 1, of the entry that touched it last
abbrev pub Writers : Type 0
Writers = finmap.FinMap key_cmp ℕ

abbrev pub writers_code : Coded Writers
writers_code = finmap.code key_code coded_ℕ

-- the entry at this place touches these keys
abbrev pub record_writes : ℕ → List Key → Writers → Writers
record_writes place [] writers = writers
record_writes place (key ∷ keys) writers = record_writes place keys (finmap.insert writers key place)

-- after these entries, the first of which is at this place
abbrev pub writers_from : List Table → ℕ → Writers → List Entry → Writers
writers_from schema place writers [] = writers
writers_from schema place writers (e ∷ es) = writers_from schema (place + 1) (record_writes place (write_set schema e.txn) writers) es

-- after these entries, from the first of a journal on
abbrev pub writers_after : List Table → List Entry → Writers
writers_after schema es = writers_from schema 1 finmap.empty es

-- the table denotes these entries, and the next one is at this place
abbrev pub IsNext : Writers → List Table → ℕ → List Entry → Type 0
IsNext writers schema place es = (writers ≡ writers_after schema es) × (place ≡ length es + 1)

-- the last_committed of the next entry, whichever entries the table denotes
abbrev pub IsNextLastCommitted : Writers → List Table → ℕ → Entry → ℕ → Type 0
IsNextLastCommitted writers schema place e n = (earlier : List Entry) → IsNext writers schema place earlier → n ≡ last_committed schema earlier e

-- the table after these entries and the next one
abbrev pub AreNextWriters : Writers → List Table → ℕ → Entry → Writers → Type 0
AreNextWriters writers schema place e after = (earlier : List Entry) → IsNext writers schema place earlier → after ≡ writers_after schema (earlier ++ e ∷ [])

-- ---- by one look-up a key

-- the place of an earlier writer than the entry at this place; 0 if there is none
abbrev pub earlier_place : ℕ → Option ℕ → ℕ
earlier_place place None = 0
earlier_place place (Some before) = if before == place then 0 else before

-- the greatest such place of these keys, which the entry touches in turn, or what was found before
abbrev pub latest_in_turn : ℕ → List Key → Writers → ℕ → ℕ
latest_in_turn place [] writers found = found
latest_in_turn place (key ∷ keys) writers found =
    latest_in_turn place keys (finmap.insert writers key place) (max found (earlier_place place (finmap.get writers key)))
