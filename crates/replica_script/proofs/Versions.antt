-- The texts of journals by versions 2 and 3.
use Rattle.std.proofs.Common.{◌≡◌, ℕ, ◌+◌, ◌<◌, List, [], ◌∷◌, ◌++◌, length, set, refl, ap, ◌∙◌, arith}
use Rattle.std.specs.Prelude.{codes}
use Rattle.journal.specs.declared.Entry.{Entry}
use Rattle.journal.specs.Journals.{JournalValue}
use Rattle.txn_journal.specs.Spelling.{Line, Previous, Close, lines_text, entry_lines, entries_lines, numbers_of, spelling_as}
use Rattle.txn_journal.specs.declared.lines.Version.TheVariants.{Two, Three}

-- entries have the same lines
same_entries : (place : ℕ) (stamps : List ℕ) (es : List Entry) → entries_lines Two place stamps es ≡ entries_lines Three place stamps es
same_entries place [] es = refl
same_entries place (stamp ∷ stamps) [] = refl
same_entries place (stamp ∷ stamps) (e ∷ es) = ap (λ (ls : List Line). entry_lines (numbers_of Two place stamp) e ++ ls) (same_entries (place + 1) stamps es)

-- what follows the first line
abbrev behind : JournalValue → List Line → List ℕ
behind j ls = lines_text (Previous j.previous ∷ ls ++ Close ∷ [])

third_text : (stamps : List ℕ) (j : JournalValue) → codes "journal 3\n" ++ behind j (entries_lines Two 1 stamps j.entries) ≡ spelling_as Three stamps j
third_text stamps j = ap (λ (ls : List Line). codes "journal 3\n" ++ behind j ls) (same_entries 1 stamps j.entries)

-- the text by version 2 has a ninth byte, the digit of its version
pub has_digit : (text stamps : List ℕ) (j : JournalValue) → text ≡ spelling_as Two stamps j → 8 < length text
has_digit text stamps j e = rw e (omega arith)

-- with the other digit it is that by version 3
pub third_from_second : (text stamps : List ℕ) (j : JournalValue) → text ≡ spelling_as Two stamps j → set text 8 51 ≡ spelling_as Three stamps j
third_from_second text stamps j e = ap (λ (t : List ℕ). set t 8 51) e ∙ third_text stamps j
