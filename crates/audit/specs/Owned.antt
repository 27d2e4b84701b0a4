-- Marks with the sources that touch them, in parts.
use Rattle.std.specs.Prelude.{◌≡◌, ◌<◌, ◌/◌, ◌%◌, ◌^◌, ℕ, List, Option, Some, None, map, flat_map}
use Rattle.std.specs.Global.{Vec}
use Rattle.std.specs.List.{AllByRecursion}
use Rattle.std.specs.FinMap as finmap
use Rattle.rows.specs.declared.schema.Table.{Table}
use Rattle.rows.specs.WriteSet.{write_set}
use Rattle.journal.specs.declared.Entry.{Entry}
use Rattle.world.specs.Folds.{shared_from}
use Rattle.audit.specs.Contents.{as_pair}
use Rattle.audit.specs.Marks.{key_mark}
use Rattle.audit.specs.declared.parted.MarkTouch.{MarkTouch}

-- what a source touches by these marks
abbrev pub touched_by_one : ℕ → List ℕ → List MarkTouch
touched_by_one source marks = map (λ mark. record { mark = mark; source = source }) marks

-- what a transaction touches
abbrev pub touches_of : List Table → Entry → List MarkTouch
touches_of schema entry = touched_by_one entry.gtid.source (map key_mark (write_set schema entry.txn))

abbrev pub touches_of_all : List Table → List Entry → List MarkTouch
touches_of_all schema entries = flat_map (touches_of schema) entries

abbrev pub touches_in_lists : List (Vec MarkTouch) → List MarkTouch
touches_in_lists lists = flat_map (λ list. list.items) lists

-- the part of a mark, by its high bits: there are four
abbrev pub part_of : ℕ → ℕ
part_of mark = mark / 2 ^ 48 % 4

-- if its mark is in the part, a touch is that of the mark's owner
abbrev pub IsOwnIn : ℕ → (ℕ → Option ℕ) → MarkTouch → Type 0
IsOwnIn part owner touch = part_of touch.mark ≡ part → owner touch.mark ≡ Some touch.source

-- These touches came to what had owners: marks of the part have theirs now, and those that had one kept it.
pub record OwnsMore (part : ℕ) (old : ℕ → Option ℕ) (touches : List MarkTouch) (new : ℕ → Option ℕ) : Type 0 where
  pub now : AllByRecursion (IsOwnIn part new) touches
  pub kept : (mark owner : ℕ) → old mark ≡ Some owner → new mark ≡ Some owner

-- each mark that is in the part is touched by one source
pub record AreOwn (part : ℕ) (touches : List MarkTouch) : Type 0 where
  pub owner : ℕ → Option ℕ
  pub own : AllByRecursion (IsOwnIn part owner) touches

-- if in each part each mark is touched by one source, no two sources touch a key
abbrev pub PartsAreApart : Type 0
PartsAreApart = (schema : List Table) (entries : List Entry) → ((part : ℕ) → part < 4 → AreOwn part (touches_of_all schema entries)) → shared_from schema finmap.empty (map as_pair entries) ≡ None
