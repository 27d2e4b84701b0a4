-- The text of what was parsed.
use Rattle.std.specs.Prelude.{ℕ, List, [], ◌∷◌, ◌++◌}
use Rattle.txn_journal.specs.declared.parsed_lines.ParsedItem.{ParsedItem}
use Rattle.txn_journal.specs.declared.parsed_lines.ParsedItem.TheVariants.{Line, Entry}

-- a line with its line feed, or the lines of an entry
abbrev pub item_text : ParsedItem → List ℕ
item_text (Line l) = l.line.now ++ 10 ∷ []
item_text (Entry e) = e.text

abbrev pub text_in : List ParsedItem → List ℕ
text_in [] = []
text_in (x ∷ xs) = item_text x ++ text_in xs
