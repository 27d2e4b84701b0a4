-- Intervals at the start of a text, and what a word parses as once the text after them is read.
use Rattle.std.specs.Prelude.{◌≡◌, ℕ, ◌≤◌, true, List, ◌∷◌, ◌++◌, Option, Some, decimal}
use Rattle.gtid_text.specs.declared.Span.{Span}
use Rattle.gtid_text.specs.Canonical.{numbers_text, next_text, text_behind}
use Rattle.gtid_text.specs.Counting.{may_follow, are_tidy_behind, source_before}
use Rattle.gtid_text.specs.Written.{IsNumbered, IsUsableSpan, AreUsable}
use Rattle.gtid_set.specs.Sets.{Gtids}
use Rattle.journal_words.specs.Gtids.{set_with, set_of_word}

-- a number that a transaction may have, and what follows it
pub record IsNumberAt (text : List ℕ) (n : ℕ) (rest : List ℕ) : Type 0 where
  pub text_is : text ≡ decimal n ++ rest
  pub numbered : IsNumbered n

-- the numbers of an interval, and what follows them
pub record AreNumbersAt (text : List ℕ) (lo hi : ℕ) (rest : List ℕ) : Type 0 where
  pub text_is : text ≡ numbers_text lo hi ++ rest
  pub low : IsNumbered lo
  pub high : IsNumbered hi
  pub ordered : lo ≤ hi

-- an interval that may come after the one before it, and what follows it
pub record IsSpanAt (before : Option Span) (text : List ℕ) (s : Span) (rest : List ℕ) : Type 0 where
  pub text_is : text ≡ next_text (source_before before) s ++ rest
  pub follows : may_follow before s ≡ true
  pub usable : IsUsableSpan s

-- the text is that of these intervals, which come after another one, in order
pub record AreSpansOf (last : Span) (ss : List Span) (text : List ℕ) : Type 0 where
  pub text_is : text ≡ text_behind (Some last.source) ss
  pub tidy : are_tidy_behind (Some last) ss ≡ true
  pub usable : AreUsable ss

-- the word parses as this set, one interval more, and those in the text after it
abbrev pub Promises : List ℕ → Gtids → Span → List ℕ → Type 0
Promises word s last text = (ss : List Span) → AreSpansOf last ss text → set_of_word word ≡ Some (set_with s (last ∷ ss))
