-- What a slot denotes.
use Rattle.std.specs.Prelude.{ℕ, zero, suc, cond, Option, Some, None, is_some}
use Rattle.rows.specs.declared.change.Transaction.{Transaction}
use Rattle.gtid_text.specs.declared.Gtid.{Gtid}
use Rattle.apply_channel.specs.declared.slot.State.{State}
use Rattle.apply_channel.specs.declared.slot.State.TheVariants.{Executed, Open}

-- A received entry with the last place before it with the same GTID that is not executed. An executed one has neither this nor a transaction.
pub record Placed : Type 0 where
  pub gtid : Gtid
  pub txn : Option Transaction
  pub earlier : Option ℕ

-- the last of this many places
abbrev pub last_of : ℕ → Option ℕ
last_of zero = None
last_of (suc n) = Some n

abbrev pub placed_in : Gtid → State → Placed
placed_in gtid Executed = record { gtid = gtid; txn = None; earlier = None }
placed_in gtid (Open places txn) = record { gtid = gtid; txn = Some txn; earlier = last_of places }

-- an entry with the place before it, if it is not executed
abbrev pub placed : Gtid → Option Transaction → Option ℕ → Placed
placed gtid txn earlier = record { gtid = gtid; txn = txn; earlier = cond (is_some txn) earlier None }
