-- What a line declares. The words are our own.
use Rattle.std.specs.Prelude.{◌≡◌, ℕ, false, List, [], ◌∷◌, Option, Some, None, option_map, option_and_then}
use Rattle.std.specs.FinSet as set
use Rattle.gtid_set.specs.Sets.{Gtids}
use Rattle.journal_words.specs.Gtids.{source_of_word, set_of_word}
use Rattle.row_images.specs.Images.{words_of}
use Rattle.rows.specs.Database.{Database}
use Rattle.network.specs.Nodes.{Node, new_nodes, ids_distinct}
use Rattle.replica_script.specs.declared.answer.Stop.{Stop}
use Rattle.replica_script.specs.declared.answer.Stop.TheVariants as stop

-- the UUIDs that words are, if each word is one
abbrev pub sources_of : List (List ℕ) → Option (List ℕ)
sources_of [] = Some []
sources_of (word ∷ words) = option_and_then (λ own. option_map (λ ids. own ∷ ids) (sources_of words)) (source_of_word word)

-- the set that a replica is declared to have executed: empty if there is no word for it
abbrev pub executed_of : Option (List ℕ) → Option Gtids
executed_of None = Some set.empty
executed_of (Some word) = set_of_word word

-- why no network is opened: out of memory, or a UUID occurs twice
abbrev pub IsStopOfIds : List ℕ → Stop → Type 0
IsStopOfIds ids stop.Memory = Unit {0}
IsStopOfIds ids stop.Changed = ⊥
IsStopOfIds ids stop.BadLine = ids_distinct ids ≡ false

-- a network is opened: a node for each UUID of the line, all on these rows
pub record IsOpenedAs (text : List ℕ) (start : Database) (nodes : List Node) : Type 0 where
  pub ids : List ℕ
  pub words : sources_of (words_of text) ≡ Some ids
  pub nodes_are : nodes ≡ new_nodes ids start.schema start.rows
