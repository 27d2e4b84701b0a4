-- The lines of an entry of version 1, as a text.
use Rattle.std.specs.Prelude.{◌≡◌, ℕ, List, [], ◌∷◌, ◌++◌, Some, Ok, codes}
use Rattle.gtid_text.specs.declared.Gtid.{Gtid}
use Rattle.rows.specs.declared.change.Change.{Change}
use Rattle.rows.specs.declared.limits.Limits.{Limits}
use Rattle.rows.specs.declared.limits.Limits.TheVariants.{Narrow}
use Rattle.journal_words.specs.Gtids.{gtid_of_word}
use Rattle.txn_journal.specs.Words.{IsOneLine}
use Rattle.txn_journal.specs.ChangeLines.{change_in}
use Rattle.txn_journal.specs.Kept.{AreWritable}

-- lines, each ended by a line feed
abbrev pub ended : List (List ℕ) → List ℕ
ended [] = []
ended (l ∷ ls) = l ++ 10 ∷ ended ls

-- lines within an entry that write these changes
abbrev pub AreChangeLines : Limits → List (List ℕ) → List Change → Type 0
AreChangeLines limits [] [] = Unit {0}
AreChangeLines limits (l ∷ ls) (c ∷ cs) = IsOneLine l × (change_in limits l ≡ Ok c) × AreChangeLines limits ls cs
AreChangeLines limits _ _ = ⊥

-- a text begins with the line that begins an entry of this GTID
pub record BeginsWithGtid (text : List ℕ) (gtid : Gtid) (after : List ℕ) : Type 0 where
  pub word : List ℕ
  pub parts : text ≡ (codes "txn " ++ word) ++ 10 ∷ after
  pub whole : IsOneLine word
  pub gtid_is : gtid_of_word word ≡ Some gtid

-- a text begins with lines that write these changes, all that an entry may have, and with the line that ends their entry
pub record BeginsWithChanges (text : List ℕ) (changes : List Change) (after : List ℕ) : Type 0 where
  pub within : List (List ℕ)
  pub parts : text ≡ ended within ++ (codes "end" ++ 10 ∷ after)
  pub lines : AreChangeLines Narrow within changes
  pub writable : AreWritable Narrow changes

-- a text is the lines of an entry of this GTID, with these changes, all that an entry may have
pub record IsEntryText (text : List ℕ) (gtid : Gtid) (changes : List Change) : Type 0 where
  pub word : List ℕ
  pub within : List (List ℕ)
  pub parts : text ≡ ended ((codes "txn " ++ word) ∷ (within ++ codes "end" ∷ []))
  pub whole : IsOneLine word
  pub gtid_is : gtid_of_word word ≡ Some gtid
  pub lines : AreChangeLines Narrow within changes
  pub writable : AreWritable Narrow changes

-- the lines of an entry, and what they write
pub record EntryText : Type 0 where
  pub text : List ℕ
  pub gtid : Gtid
  pub changes : List Change
