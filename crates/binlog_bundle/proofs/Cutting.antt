-- Lines before a bundle's own.
use Rattle.std.proofs.Common.{◌≡◌, ◌||◌, ℕ, eqb, not, Bool, true, false, List, [], ◌∷◌, ◌++◌, length, codes, refl, sym, ap, ◌∙◌, subst, append_assoc, append-nil}
use Rattle.std.specs.List.{flat_map, list_all, AllByRecursion}
use Rattle.std.specs.Str.{bytes_eq}
use Rattle.std.proofs.lemmas.Bool.{and_parts}
use Rattle.lemmas.proofs.Lists.{all_push, same_parts}
use Rattle.rows.specs.declared.schema.Table.{Table}
use Rattle.txn_journal.specs.Words.{IsOneLine, BeginsWithLine}
use Rattle.binlog_text.proofs.LinesFound.{same_text}
use Rattle.binlog_entries.proofs.TransactionLaws.{flat_map_more}
use Rattle.binlog_bundle.specs.Lines.{with_line_feed, is_channel, is_own, IsOther, HasNoOwn, BeginsOwn, Nothing, Begins, IsCut}
use Rattle.binlog_bundle.specs.Bundles.{done_line, BeginsLast, Nowhere, Last}
use Rattle.binlog_bundle.specs.Tables.{IsPlain, HasNoOther}

-- lines of which this holds have come, and this is left
pub record HasPassed (P : List ℕ → Type 0) (text left : List ℕ) : Type 0 where
  pub lines : List (List ℕ)
  pub parts : text ≡ flat_map with_line_feed lines ++ left
  pub all : AllByRecursion P lines

pub line_ends : (line after : List ℕ) → line ++ 10 ∷ after ≡ with_line_feed line ++ after
line_ends line after = sym (append_assoc line (10 ∷ []) after)

pub passed_more : (P : List ℕ → Type 0) (text left line after : List ℕ) → HasPassed P text left → BeginsWithLine left line after → P line → HasPassed P text after
passed_more P text left line after h begins holds = record {
  lines = h.lines ++ line ∷ [];
  parts =
      h.parts
      ∙ ap (λ (xs : List ℕ). flat_map with_line_feed h.lines ++ xs) (begins.parts ∙ line_ends line after)
      ∙ sym (append_assoc (flat_map with_line_feed h.lines) (with_line_feed line) after)
      ∙ ap (λ (xs : List ℕ). xs ++ after) (sym (flat_map_more with_line_feed h.lines line));
  all = all_push P h.lines line h.all holds;
}

-- a text is split where so much is left
abbrev pub SplitsAt : List ℕ → ℕ → List ℕ → List ℕ → Type 0
SplitsAt text left a b = (front rest : List ℕ) → text ≡ front ++ rest → left ≡ length rest → (a ≡ front) × (b ≡ rest)

abbrev passed_no_own : (lines : List (List ℕ)) (a : List ℕ) → AllByRecursion IsOther lines → a ≡ flat_map with_line_feed lines → HasNoOwn a
passed_no_own lines a others e = record {
  lines = lines;
  rest = [];
  parts = e ∙ sym (append-nil (flat_map with_line_feed lines));
  others = others;
  part = refl;
}

pub cut_here : (text left line after a b : List ℕ) (n : ℕ) → HasPassed IsOther text left → BeginsWithLine left line after → is_own line ≡ true → n ≡ length left → SplitsAt text n a b → IsCut text a b
cut_here text left line after a b n h begins own is split =
    let s = split (flat_map with_line_feed h.lines) left h.parts is in
    record {
      parts = h.parts ∙ (λ i. sym s.0 i ++ sym s.1 i);
      none = passed_no_own h.lines a h.all s.0;
      begins = subst BeginsOwn (sym s.1) (Begins line after begins own);
      whole = λ more. refl;
    }

pub cut_nowhere : (text left a b : List ℕ) (n : ℕ) → HasPassed IsOther text left → IsOneLine left → n ≡ 0 → SplitsAt text n a b → IsCut text a b
cut_nowhere text left a b n h one is split =
    let s = split text [] (sym (append-nil text)) is in
    record {
      parts = sym (append-nil text) ∙ (λ i. sym s.0 i ++ sym s.1 i);
      none = record { lines = h.lines; rest = left; parts = s.0 ∙ h.parts; others = h.all; part = one };
      begins = Nothing s.1;
      whole = λ more. absurd (more s.1);
    }

-- the line with its line feed
pub line_split : (left line after a b : List ℕ) (n : ℕ) → BeginsWithLine left line after → n ≡ length after → SplitsAt left n a b → (a ≡ with_line_feed line) × (b ≡ after)
line_split left line after a b n begins is split = split (with_line_feed line) after (begins.parts ∙ line_ends line after) is

pub split_parts : (text front rest a b : List ℕ) (n : ℕ) → text ≡ front ++ rest → n ≡ length rest → SplitsAt text n a b → text ≡ a ++ b
split_parts text front rest a b n e is split = let s = split front rest e is in e ∙ (λ i. sym s.0 i ++ sym s.1 i)

-- ---- the first line

not_feed : (bs : List ℕ) → IsOneLine (10 ∷ bs) → ⊥
not_feed bs one = cc

line_rest : (c : ℕ) (line : List ℕ) → IsOneLine (c ∷ line) → IsOneLine line
line_rest c line one = (and_parts (not (eqb c 10)) (list_all (λ b. not (eqb b 10)) line) one).1

pub first_same : (a b x y : List ℕ) → IsOneLine a → IsOneLine b → a ++ 10 ∷ x ≡ b ++ 10 ∷ y → (a ≡ b) × (x ≡ y)
first_same [] [] x y one two e = (refl, (same_parts 10 10 x y e).1)
first_same [] (d ∷ b) x y one two e = absurd (not_feed b (subst (λ (c : ℕ). IsOneLine (c ∷ b)) (sym (same_parts 10 d x (b ++ 10 ∷ y) e).0) two))
first_same (c ∷ a) [] x y one two e = absurd (not_feed a (subst (λ (d : ℕ). IsOneLine (d ∷ a)) (same_parts c 10 (a ++ 10 ∷ x) y e).0 one))
first_same (c ∷ a) (d ∷ b) x y one two e =
    let s = same_parts c d (a ++ 10 ∷ x) (b ++ 10 ∷ y) e in
    let r = first_same a b x y (line_rest c a one) (line_rest d b two) s.1 in
    ((λ i. s.0 i ∷ r.0 i), r.1)

has_feed : (line after : List ℕ) → IsOneLine (line ++ 10 ∷ after) → ⊥
has_feed [] after one = not_feed after one
has_feed (c ∷ line) after one = has_feed line after (line_rest c (line ++ 10 ∷ after) one)

pub begins_same : (text a x b y : List ℕ) → BeginsWithLine text a x → BeginsWithLine text b y → (a ≡ b) × (x ≡ y)
begins_same text a x b y one two = first_same a b x y one.whole two.whole (sym one.parts ∙ two.parts)

-- a text is split behind its first line
pub first_split : (text line after a b : List ℕ) → BeginsWithLine text line after → (a ≡ with_line_feed line) × (b ≡ after)
    → (l r : List ℕ) → BeginsWithLine text l r → (a ≡ with_line_feed l) × (b ≡ r)
first_split text line after a b begins is l r other =
    let s = begins_same text line after l r begins other in
    (is.0 ∙ ap with_line_feed s.0, is.1 ∙ s.1)

pub no_first : {P : Type 0} (text l r : List ℕ) → IsOneLine text → BeginsWithLine text l r → P
no_first text l r one begins = absurd (has_feed l r (subst IsOneLine begins.parts one))

-- ---- the last line

done_is : (b : Bool) (line : List ℕ) → b ≡ false → b || bytes_eq line (codes "done") ≡ true → line ≡ codes "done"
done_is true line e own = absurd cc
done_is false line e own = same_text line (codes "done") own

not_nil : (text line after : List ℕ) → text ≡ [] → text ≡ line ++ 10 ∷ after → ⊥
not_nil text [] after e f = let bad : [] ≡ 10 ∷ after = sym e ∙ f in cc
not_nil text (c ∷ line) after e f = let bad : [] ≡ c ∷ (line ++ 10 ∷ after) = sym e ∙ f in cc

pub begins_last : (left line after : List ℕ) → BeginsOwn left → BeginsWithLine left line after → is_channel line ≡ false → BeginsLast left
begins_last left line after (Nothing e) begins other = absurd (not_nil left line after e begins.parts)
begins_last left line after (Begins l r first own) begins other =
    let s = begins_same left l r line after first begins in
    let is = done_is (is_channel line) line other (subst (λ (x : List ℕ). is_own x ≡ true) s.0 own) in
    Last after (begins.parts ∙ line_ends line after ∙ ap (λ (x : List ℕ). with_line_feed x ++ after) is)

pub ends_last : (left : List ℕ) → BeginsOwn left → IsOneLine left → BeginsLast left
ends_last left (Nothing e) one = Nowhere e
ends_last left (Begins l r first own) one = no_first left l r one first

pub done_begins : (left after : List ℕ) → left ≡ done_line ++ after → BeginsWithLine left (codes "done") after
done_begins left after e = record { parts = e; whole = refl }

-- ---- tables

pub none_other : (tables : List Table) (log left : List ℕ) → HasPassed (IsPlain tables) log left → IsOneLine left → HasNoOther tables log
none_other tables log left h one = record { lines = h.lines; rest = left; parts = h.parts; plain = h.all; part = one }
