-- What the audit of keys says where the opening rows aren't known.
use Rattle.std.specs.Prelude.{◌≡◌}
use Rattle.rows.specs.Apply.{Rows}
use Rattle.world.specs.declared.verdict.Verdict.{Verdict}
use Rattle.world.specs.declared.verdict.Verdict.TheVariants.{DoesNotApply, Sound}
use Rattle.txn_journal.specs.BundleStates.{BundleValue}
use Rattle.serving.specs.declared.order.Order.{Order}
use Rattle.serving.specs.Verdicts.{keys_over, verdict_over}

-- the bundle over other opening rows
abbrev pub over_rows : BundleValue → Rows → BundleValue
over_rows b rows = record b { start = record b.start { rows = rows } }

-- the journals are sound, or a transaction doesn't apply
abbrev pub IsSoundOrUnapplied : Verdict → Type 0
IsSoundOrUnapplied Sound = Unit {0}
IsSoundOrUnapplied (DoesNotApply g fault) = Unit {0}
IsSoundOrUnapplied _ = ⊥

-- Where the audit of keys reports Sound, the audit over any opening rows reports Sound, or that a transaction doesn't apply.
abbrev pub KeysSettle : Type 0
KeysSettle = (order : Order) (b : BundleValue) (rows : Rows) → keys_over order b ≡ Sound → IsSoundOrUnapplied (verdict_over order (over_rows b rows))
