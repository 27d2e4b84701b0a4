-- A bundle with the limits of version 3.
use Rattle.std.specs.Prelude.{◌≡◌, ℕ, List, map, Some}
use Rattle.rows.specs.declared.schema.Table.{Table}
use Rattle.rows.specs.declared.limits.Limits.TheVariants.{Narrow, Wide}
use Rattle.rows.specs.Database.{Database}
use Rattle.txn_journal.specs.Versions.{limits_of}
use Rattle.txn_journal.specs.BundleStates.{BundleValue}
use Rattle.txn_journal.specs.BundleReading.{IsReadAs}
use Rattle.txn_journal.specs.BundleText.{spelling_by, WritesBundleBy}
use Rattle.txn_journal.specs.declared.lines.Version.{Version}
use Rattle.txn_journal.specs.declared.lines.Version.TheVariants.{Three}
use Rattle.txn_journal.specs.declared.lines.Due.TheVariants.{Only}

-- a table with the widest limits
abbrev pub widened_table : Table → Table
widened_table t = record t { limits = Wide }

abbrev pub widened_start : Database → Database
widened_start d = record d { schema = map widened_table d.schema }

-- the same bundle, whose tables have the widest limits
abbrev pub widened : BundleValue → BundleValue
widened b = record b { start = widened_start b.start }

-- What version 3 writes of a bundle of version 1 or 2 is a text of that bundle, but for its limits.
abbrev pub WidensByThree : Type 0
WidensByThree = (version : Version) (bytes : List ℕ) (b : BundleValue) → limits_of version ≡ Narrow → WritesBundleBy (Only version) bytes b → WritesBundleBy (Only Three) (spelling_by Three b) (widened b)

-- That text is read as it, by the fold over its bytes.
abbrev pub IsReadWidened : Type 0
IsReadWidened = (version : Version) (bytes : List ℕ) (b : BundleValue) → limits_of version ≡ Narrow → WritesBundleBy (Only version) bytes b → IsReadAs (spelling_by Three b) (widened b)
