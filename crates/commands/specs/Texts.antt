-- What bytes that come in pieces parse as.
use Rattle.std.specs.Prelude.{ℕ, List, ◌++◌, Option, Result}
use Rattle.txn_journal.specs.Stream.{IsWhole}
use Rattle.txn_journal.specs.declared.fault.JournalFault.{JournalFault}
use Rattle.txn_journal.specs.declared.bundle_reader.BundleReader.{BundleReader}
use Rattle.parallel_reading.specs.Coming.{HasCome}
use Rattle.commands.specs.Edge.{HasRead}

-- the bytes parse as this: by their grammar, and by the fold over them, unless a set was not made
pub record IsTextOf {V : Type 0} (Parses : List ℕ → Result V JournalFault → Type 0) (decoded : List ℕ → Result V JournalFault) (bytes : List ℕ) (found : Result V JournalFault) : Type 0 where
  pub parsed : Parses bytes found
  pub exact : IsWhole found (decoded bytes)

-- some bytes were read, they were all, and they parse as this
pub record HasFound {V : Type 0} (Parses : List ℕ → Result V JournalFault → Type 0) (decoded : List ℕ → Result V JournalFault) (old new : Option (List ℕ)) (found : Result V JournalFault) : Type 0 where
  pub bytes : List ℕ
  pub all : HasRead old new bytes
  pub text : IsTextOf Parses decoded bytes found

-- some bytes were read, they were all, and they have come to a reader of bundles
pub record HasAllCome (old new : Option (List ℕ)) (reader : BundleReader) : Type 0 where
  pub bytes : List ℕ
  pub all : HasRead old new bytes
  pub come : HasCome reader bytes

-- a block more has come to a reader of bundles
pub record IsFed (old new : BundleReader) (block : List ℕ) : Type 0 where
  pub come : (bytes : List ℕ) → HasCome old bytes → HasCome new (bytes ++ block)
