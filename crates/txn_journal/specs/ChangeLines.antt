-- The changes that lines write.
use Rattle.std.specs.Prelude.{◌≡◌, ℕ, List, Option, Result, Ok, Err}
use Rattle.std.specs.Option.{ForSome}
use Rattle.rows.specs.declared.change.Change.{Change}
use Rattle.rows.specs.declared.change.Change.TheVariants.{Insert, Delete, Update}
use Rattle.rows.specs.declared.limits.Limits.{Limits}
use Rattle.row_images.specs.Words.{first_word, others}
use Rattle.txn_journal.specs.Due.{is_due}
use Rattle.txn_journal.specs.Lines.{◌>>=◌, keyword_of, due, table_in, image_in, images_in}
use Rattle.txn_journal.specs.declared.fault.Cause.{Cause}
use Rattle.txn_journal.specs.declared.fault.Cause.TheVariants as causes
use Rattle.txn_journal.specs.declared.lines.LinePlace.TheVariants as places
use Rattle.txn_journal.specs.declared.lines.Keyword.{Keyword}
use Rattle.txn_journal.specs.declared.lines.Keyword.TheVariants as keywords

-- the change that the rest of a line writes
unfoldable pub change_at : Limits → Keyword → Option (List ℕ) → Result Change Cause
change_at limits keywords.Ins rest = do
  table ← table_in limits rest
  after ← image_in table.1
  Ok (Insert table.0 after)
change_at limits keywords.Del rest = do
  table ← table_in limits rest
  before ← image_in table.1
  Ok (Delete table.0 before)
change_at limits keywords.Upd rest = do
  table ← table_in limits rest
  images ← images_in table.1
  Ok (Update table.0 images.0 images.1)
change_at limits _ rest = Err causes.Keyword

-- the change that a line writes, if an entry is open
unfoldable pub change_in : Limits → List ℕ → Result Change Cause
change_in limits line = do
  word ← due (is_due places.Within) (keyword_of (first_word line))
  change_at limits word (others line)

-- a change that was read beforehand is the one that the line writes
abbrev pub HasChange : Limits → List ℕ → Option Change → Type 0
HasChange limits line found = ForSome found (λ change. change_in limits line ≡ Ok change)
