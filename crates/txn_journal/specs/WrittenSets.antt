-- The one word of a set.
use Rattle.std.specs.Prelude.{◌≡◌, ℕ, true, List, [], ◌∷◌, codes}
use Rattle.gtid_text.specs.declared.Span.{Span}
use Rattle.gtid_text.specs.Canonical.{spans_text}
use Rattle.gtid_text.specs.Written.{AreUsable}
use Rattle.gtid_set.specs.Sets.{Gtids}
use Rattle.gtid_set.specs.Spans.{set_of, is_merged}
use Rattle.gtid_set.specs.Runs.{runs}

-- the word of intervals: `-` for none
abbrev pub spans_word : List Span → List ℕ
spans_word [] = codes "-"
spans_word (s ∷ ss) = spans_text (s ∷ ss)

-- the canonical text of a set, or `-` for the empty set
abbrev pub set_text : Gtids → List ℕ
set_text s = spans_word (runs s)

-- each span is after the one before it, and has GTIDs that transactions may have, and no others
pub record AreWrittenSpans (spans : List Span) : Type 0 where
  pub merged : is_merged spans ≡ true
  pub usable : AreUsable spans

-- the set has GTIDs that transactions may have, and no others
pub record IsWrittenSet (s : Gtids) : Type 0 where
  pub merged : is_merged (runs s) ≡ true
  pub usable : AreUsable (runs s)
  pub whole : set_of (runs s) ≡ s
