-- The lines that were read where a GTID comes twice.
use Rattle.std.specs.Prelude.{ℕ, ◌+◌, ◌&&◌, ◌||◌, Bool, false, List, [], ◌∷◌, take, Option, Some, None, if◌then◌else◌}
use Rattle.std.specs.FinSet as set
use Rattle.gtid_text.specs.declared.Gtid.{Gtid}
use Rattle.gtid_text.specs.Canonical.{gtid_text}
use Rattle.gtid_set.specs.Sets.{Gtids}
use Rattle.journal_words.specs.Gtids.{set_of_word}
use Rattle.fault_places.specs.Lines.{second_word, is_previous}
use Rattle.fault_places.specs.Places.{is_named}

-- a set, if there is one, has the GTID
abbrev pub set_has : Gtid → Option Gtids → Bool
set_has g None = false
set_has g (Some gtids) = set.contains gtids g

-- After a line: a journal has the GTID, in its previous set or by an entry.
abbrev pub has_after : Gtid → Bool → List ℕ → Bool
has_after g has line = if is_previous line then set_has g (set_of_word (second_word line)) else has || is_named (gtid_text g) line

-- how many lines there are up to the first that begins an entry with the GTID in a journal that has it
abbrev pub count_read : Gtid → Bool → List (List ℕ) → ℕ
count_read g has [] = 0
count_read g has (line ∷ lines) = if has && is_named (gtid_text g) line then 1 else 1 + count_read g (has_after g has line) lines

-- these lines
abbrev pub read_until_twice : Gtid → List (List ℕ) → List (List ℕ)
read_until_twice g lines = take (count_read g false lines) lines
