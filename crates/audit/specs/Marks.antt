-- Marks of keys: numbers that equal keys share.
use Rattle.std.specs.Prelude.{◌≡◌, ◌==◌, ℕ, Bool, true, nat_eq, bit_and, slice_get, List, [], ◌∷◌, map, Option, Some, None, if◌then◌else◌}
use Rattle.std.specs.List.{fold, list_any}
use Rattle.std.specs.Hash.FoldHasher as folding
use Rattle.std.specs.FinMap as finmap
use Rattle.gtid_text.specs.declared.Gtid.{Gtid}
use Rattle.indexmap.specs.IndexMap.{get}
use Rattle.row_images.specs.Values.{value_text}
use Rattle.rows.specs.declared.change.Key.{Key}
use Rattle.world.specs.Folds.{FirstTouch}
use Rattle.audit.specs.declared.owners.MarkOwners.{MarkOwners}
use Rattle.audit.specs.declared.owners.MarkSlot.{MarkSlot}

-- the table's name, the index and the words of the values are hashed
abbrev pub key_mark : Key → ℕ
key_mark key = folding.finish (fold folding.write folding.initial (key.table ∷ (key.index ∷ []) ∷ map value_text key.values))

abbrev pub is_marked : List ℕ → ℕ → Bool
is_marked marks mark = list_any (λ other. nat_eq other mark) marks

-- A source touches marks that no other source touched: they are its own from then on, and what was touched before stays so.
pub record TouchesMarks (old : ℕ → Option ℕ) (marks : List ℕ) (source : ℕ) (new : ℕ → Option ℕ) : Type 0 where
  pub now : (mark : ℕ) → is_marked marks mark ≡ true → new mark ≡ Some source
  pub kept : (mark owner : ℕ) → old mark ≡ Some owner → new mark ≡ Some owner

-- what touched a mark, by the slot of its lowest bits: a free one has source 0, and if another mark is there, the rest is looked up
abbrev pub owner_by : Option MarkSlot → ℕ → Option ℕ → Option ℕ
owner_by None mark rest = rest
owner_by (Some slot) mark rest = if slot.owner == 0 then None else (if slot.mark == mark then Some slot.owner else rest)

abbrev pub owner_in : ℕ → List MarkSlot → (ℕ → Option ℕ) → ℕ → Option ℕ
owner_in mask slots rest mark = owner_by (slice_get slots (bit_and mark mask)) mark (rest mark)

abbrev pub owner_of : MarkOwners → ℕ → Option ℕ
owner_of owners = owner_in owners.mask owners.slots.items (get nat_eq owners.rest)

-- each key that was touched has the mark of its source
abbrev pub AreMarked : FirstTouch → (ℕ → Option ℕ) → Type 0
AreMarked last owner = (key : Key) (g : Gtid) → finmap.get last key ≡ Some g → owner (key_mark key) ≡ Some g.source
