-- A bundle with the number of its text's lines.
use Rattle.std.specs.Prelude.{◌≡◌, ℕ, ◌-◌, ◌^◌, ◌==◌, min, List, Result, Ok, Err}
use Rattle.std.specs.List.{count_by}
use Rattle.txn_journal.specs.BundleStates.{BundleValue}
use Rattle.txn_journal.specs.BundleText.{WritesBundle}
use Rattle.txn_journal.specs.BundleRefused.{RefusesBundle}
use Rattle.txn_journal.specs.declared.fault.JournalFault.{JournalFault}
use Rattle.commands.specs.Parsing.{bundle_in}
use Rattle.commands.specs.declared.text.CountedBundle.{CountedBundle}

-- how many line feeds are in the bytes; lines count up to the largest number
abbrev pub line_count : List ℕ → ℕ
line_count bytes = min (count_by (λ b. b == 10) bytes) (2 ^ 64 - 1)

abbrev pub counted : List ℕ → Result BundleValue JournalFault → Result CountedBundle JournalFault
counted bytes (Ok b) = Ok (record { bundle = b; lines = line_count bytes })
counted bytes (Err fault) = Err fault

-- the bundle that the bytes parse as, with the number of their lines, or the first fault
abbrev pub counted_in : List ℕ → Result CountedBundle JournalFault
counted_in bytes = counted bytes (bundle_in bytes)

-- by the grammar of bundles the bytes are the text of this bundle and have so many lines, or have this first fault
abbrev pub ParsesAsCounted : List ℕ → Result CountedBundle JournalFault → Type 0
ParsesAsCounted bytes (Ok it) = WritesBundle bytes it.bundle × (it.lines ≡ line_count bytes)
ParsesAsCounted bytes (Err fault) = RefusesBundle fault bytes
