-- What readers and writers promise.
use Rattle.std.specs.Prelude.{◌≡◌, ℕ, ◌+◌, ◌-◌, ◌^◌, ◌<◌, ◌≤◌, ◌⊎◌, Bool, true, false, min, List, take, length, Option}
use Rattle.std.specs.Io.KnownBytes.{Appends, Consumes, IsAtEnd}
use Rattle.commands.specs.declared.edge.RunFault.{RunFault}
use Rattle.commands.specs.declared.edge.RunFault.TheVariants.{Memory, Read, Write}

-- a reader, the bytes that it has left, if these are known, and its failed calls
pub record Input (S : Type 0) : Type 0 where
  pub reader : S
  pub left : Option (List ℕ)
  pub failed : ℕ

-- a writer, the bytes that it holds, if these are known, and its failed calls
pub record Output (W : Type 0) : Type 0 where
  pub writer : W
  pub written : Option (List ℕ)
  pub failed : ℕ

-- a reader and a writer
pub record StreamsValue (S W : Type 0) : Type 0 where
  pub input : Input S
  pub output : Output W

abbrev pub input_of : {S : Type 0} → (S → Option (List ℕ)) → (S → ℕ) → S → Input S
input_of left failed reader = record { reader = reader; left = left reader; failed = failed reader }

abbrev pub output_of : {W : Type 0} → (W → Option (List ℕ)) → (W → ℕ) → W → Output W
output_of written failed writer = record { writer = writer; written = written writer; failed = failed writer }

-- one failed call more, counted up to the counter's end
abbrev pub one_more : ℕ → ℕ
one_more failed = min (failed + 1) (2 ^ 64 - 1)

-- a prefix of a text was written
abbrev pub Begins : Option (List ℕ) → Option (List ℕ) → List ℕ → Type 0
Begins old new text = (n : ℕ) × Appends old new (take n text)

-- these bytes were read, and they were all
abbrev pub HasRead : Option (List ℕ) → Option (List ℕ) → List ℕ → Type 0
HasRead old new bytes = Consumes old new bytes × IsAtEnd new

-- these bytes were read, and whether they were the last; there are some if not
pub record HasReadBlock (old new : Option (List ℕ)) (bytes : List ℕ) (is_last : Bool) : Type 0 where
  pub taken : Consumes old new bytes
  pub last : is_last ≡ true → IsAtEnd new
  pub some : is_last ≡ false → 0 < length bytes

-- so much was read that the bound of reads was met
abbrev pub HasReadTooMuch : Option (List ℕ) → Option (List ℕ) → Type 0
HasReadTooMuch old new = (bytes : List ℕ) × Consumes old new bytes × (1099511627776 ≤ length bytes)

-- the reader failed once more, or gave too much
abbrev pub IsReadFault : {S : Type 0} → Input S → Input S → Type 0
IsReadFault old new = (new.failed ≡ one_more old.failed) ⊎ HasReadTooMuch old.left new.left

-- why reading ended
abbrev pub ReadFault : {S : Type 0} → Input S → Input S → RunFault → Type 0
ReadFault old new Read = IsReadFault old new
ReadFault old new Memory = Unit {0}
ReadFault old new Write = ⊥

-- why reading a block ended
abbrev pub BlockFault : {S : Type 0} → Input S → Input S → RunFault → Type 0
BlockFault old new Read = new.failed ≡ one_more old.failed
BlockFault old new Memory = Unit {0}
BlockFault old new Write = ⊥
