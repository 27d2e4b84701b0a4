-- Journals that bring the numbers of each source one after another.
use Rattle.std.specs.Prelude.{◌≡◌, ◌<◌, ◌≤◌, ◌⊎◌, ℕ, ◌+◌, Bool, true, ◌||◌, ◌==◌, List, Option, Some, take, slice_get}
use Rattle.std.specs.List.{AllByRecursion}
use Rattle.std.specs.Map.{lookup}
use Rattle.std.specs.FinSet as set
use Rattle.gtid_text.specs.declared.Gtid.{Gtid}
use Rattle.gtid_set.specs.Sets.{Gtids, gtid}
use Rattle.journal.specs.declared.Entry.{Entry}
use Rattle.journal.specs.Journals.{JournalValue}
use Rattle.world.specs.Audit.{is_recorded_in}

-- in the opening set, or among these entries
abbrev pub is_there : Gtids → List Entry → Gtid → Bool
is_there opened es g = set.contains opened g || is_recorded_in es g

-- all lower numbers of the source are there
abbrev pub AreBelow : Gtids → List Entry → ℕ → ℕ → Type 0
AreBelow opened es source number = (n : ℕ) → 0 < n → n < number → is_there opened es (gtid source n) ≡ true

-- before each entry of a journal all lower numbers of its source are there
abbrev pub IsInOrder : Gtids → List Entry → Type 0
IsInOrder opened es = (place : ℕ) (e : Entry) → slice_get es place ≡ Some e → AreBelow opened (take place es) e.gtid.source e.gtid.number

abbrev pub AreInOrder : Gtids → List JournalValue → Type 0
AreInOrder opened journals = AllByRecursion (λ (j : JournalValue). IsInOrder opened j.entries) journals

-- ---- the last number of each source up to which all are there

-- that of a source in a table
abbrev pub top_of : List (ℕ × ℕ) → ℕ → Option ℕ
top_of tops source = lookup (λ s. source == s) tops

-- all numbers up to each of a table are there
abbrev pub AreTops : Gtids → List Entry → List (ℕ × ℕ) → Type 0
AreTops opened es tops = (source top : ℕ) → top_of tops source ≡ Some top → AreBelow opened es source (top + 1)

-- g has the source of top, and its number, or the next one that came
pub record IsTopOrNext (top : Gtid) (number : ℕ) (g : Gtid) : Type 0 where
  pub source : g.source ≡ top.source
  pub near : number ≤ top.number + 1
  pub raised : (g.number ≡ top.number) ⊎ ((g.number ≡ top.number + 1) × (number ≡ top.number + 1))
