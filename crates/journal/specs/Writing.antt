-- Which entries can be written as text: the limits of the versions of its format (our own rule).
use Rattle.std.specs.Prelude.{ℕ, Bool, true, ◌&&◌, nat_le, List, length}
use Rattle.std.specs.List.{list_all}
use Rattle.gtid_set.specs.Sets.{greatest}
use Rattle.row_images.specs.declared.value.Value.{Value}
use Rattle.row_images.specs.declared.value.Value.TheVariants.{Null, Int, Bytes}
use Rattle.rows.specs.declared.change.Change.{Change}
use Rattle.rows.specs.declared.change.Change.TheVariants.{Insert, Delete, Update}
use Rattle.rows.specs.declared.change.Transaction.{Transaction}
use Rattle.rows.specs.declared.limits.Limits.{Limits}
use Rattle.rows.specs.Limits.{most_columns, most_changes, most_bytes}
use Rattle.journal.specs.declared.Entry.{Entry}

-- a value has no more bytes than the limits say
abbrev pub is_value_writable : Limits → Value → Bool
is_value_writable limits Null = true
is_value_writable limits (Int n) = true
is_value_writable limits (Bytes bytes) = nat_le (length bytes) (most_bytes limits)

-- an image has at least one value, and no more than the limits say
abbrev pub is_image_writable : Limits → List Value → Bool
is_image_writable limits image = nat_le 1 (length image) && (nat_le (length image) (most_columns limits) && list_all (is_value_writable limits) image)

-- each image of a change can be written
abbrev pub is_change_writable : Limits → Change → Bool
is_change_writable limits (Insert table after) = is_image_writable limits after
is_change_writable limits (Delete table before) = is_image_writable limits before
is_change_writable limits (Update table before after) = is_image_writable limits before && is_image_writable limits after

-- a transaction has no more changes than the limits say
abbrev pub is_txn_writable : Limits → Transaction → Bool
is_txn_writable limits txn = nat_le (length txn.changes) (most_changes limits) && list_all (is_change_writable limits) txn.changes

-- a transaction number is 1 to 9223372036854775807
abbrev pub is_number : ℕ → Bool
is_number n = nat_le 1 n && nat_le n greatest

-- an entry can be written
abbrev pub is_writable : Limits → Entry → Bool
is_writable limits entry = is_number entry.gtid.number && is_txn_writable limits entry.txn
