-- What is noted of a bundle of logs: what its verdict doesn't see, and no line of a bundle says.
use Rattle.std.specs.Prelude.{ℕ, List, [], ◌∷◌, ◌++◌, codes, Option, Some, None, slice_get}
use Rattle.std.specs.List.{flat_map}
use Rattle.row_images.specs.Words.{first_word, others}
use Rattle.rows.specs.declared.schema.Table.{Table}
use Rattle.txn_journal.specs.BundleStates.{BundleValue}

-- the name of a channel in its line
abbrev pub name_behind : Option (List ℕ) → List ℕ
name_behind None = []
name_behind (Some text) = first_word text

abbrev pub name_in : List ℕ → List ℕ
name_in line = name_behind (others line)

-- a table with a key that the server doesn't compare by its bytes
abbrev pub bytes_note : List ℕ → Option Table → List ℕ
bytes_note channel None = []
bytes_note channel (Some table) = codes "assume bytes " ++ (channel ++ (32 ∷ (table.name ++ codes ": two values that the server calls equal may be two keys here\n")))

abbrev pub bytes_notes : List ℕ → List Table → List ℕ → List ℕ
bytes_notes channel tables places = flat_map (λ place. bytes_note channel (slice_get tables place)) places

-- The notes on a channel that has this line in its bundle: its tables whose keys aren't compared by their bytes. The bundle is the one that
-- the head begins.
abbrev pub notes_for : BundleValue → List ℕ → List ℕ → List ℕ
notes_for start line varied = bytes_notes (name_in line) start.start.schema varied
