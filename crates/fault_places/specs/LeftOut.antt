-- What is left of the line of a change, by the change.
use Rattle.std.specs.Prelude.{◌≡◌, ℕ, ◌==◌, ◌&&◌, not, Bool, true, List, Option, None}
use Rattle.std.specs.List.{list_all}
use Rattle.row_images.specs.Images.{AreValues}
use Rattle.rows.specs.declared.change.Change.{Change}
use Rattle.rows.specs.declared.change.Change.TheVariants.{Insert, Delete, Update}
use Rattle.rows.specs.declared.schema.Table.{Table}
use Rattle.rows.specs.Keys.{find_table}
use Rattle.rows.specs.Tables.{AreTables}
use Rattle.rows.specs.Fits.{table_of, misfit_in}
use Rattle.txn_journal.specs.Spelling.{change_text}
use Rattle.gtid_report.specs.State.{shown_values}
use Rattle.fault_places.specs.HiddenValues.{without_hidden}

-- a change whose images have the values alone that are shown of the table's rows
abbrev pub shown_change : Option Table → Change → Change
shown_change table (Insert name after) = Insert name (shown_values table after)
shown_change table (Delete name before) = Delete name (shown_values table before)
shown_change table (Update name before after) = Update name (shown_values table before) (shown_values table after)

-- neither a blank nor a bar is in a name
abbrev pub is_word : List ℕ → Bool
is_word name = list_all (λ b. not (b == 32) && not (b == 124)) name

-- the images of a change have numbers of 64 bits, and bytes
abbrev pub HasValues : Change → Type 0
HasValues (Insert name after) = AreValues after
HasValues (Delete name before) = AreValues before
HasValues (Update name before after) = AreValues before × AreValues after

-- What is left of the line of a change that these tables take is the line of the change without the values that its table hides.
abbrev pub HiddenValuesAreLeftOut : Type 0
HiddenValuesAreLeftOut =
    (tables : List Table) (c : Change) → AreTables tables → is_word (table_of c) ≡ true → HasValues c → misfit_in (find_table (table_of c) tables) c ≡ None
    → without_hidden tables (change_text c) ≡ change_text (shown_change (find_table (table_of c) tables) c)
