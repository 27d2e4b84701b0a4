-- Lines of logs are none of a bundle's own.
use Rattle.std.proofs.Common.{◌≡◌, ◌⊎◌, ℕ, eqb, Bool, true, false, cond, List, [], ◌∷◌, Option, Some, None, refl, sym, ap, ◌∙◌, append-nil, inl, inr}
use Rattle.std.specs.Prelude.{◌&&◌, ◌||◌, option_map}
use Rattle.std.specs.List.{AllByRecursion, list_all}
use Rattle.std.proofs.lemmas.Bool.{eqb-true}
use Rattle.txn_journal.specs.Words.{IsOneLine}
use Rattle.binlog_text.specs.Lines.{Content, OfMark, IsLine, is_of_names, analyzes_or_optimizes}
use Rattle.binlog_text.specs.Tokens.{before, behind, cut_at}
use Rattle.binlog_text.specs.declared.lines.Mark.TheVariants.{Maintenance}
use Rattle.binlog_text.specs.Reading.{line_of}
use Rattle.binlog_text.proofs.LinesAgain.{line_again}
use Rattle.binlog_entries.specs.Stream.{HaveContents}
use Rattle.binlog_bundle.specs.Lines.{is_own, IsOther, HasNoOwn, IsSomeLog}

one_of : (x y p q : Bool) → (x && p) || (y && q) ≡ true → (x ≡ true) ⊎ (y ≡ true)
one_of true y p q e = inl refl
one_of false true p q e = inr refl
one_of false false p q e = absurd cc

-- a line that begins with the letter c or d is no statement of maintenance
no_word_99 : (bs : List ℕ) (o : Option (List ℕ)) → analyzes_or_optimizes (option_map (λ rest. (before 32 (99 ∷ bs), rest)) o) ≡ false
no_word_99 bs None = refl
no_word_99 bs (Some rest) = refl

no_word_100 : (bs : List ℕ) (o : Option (List ℕ)) → analyzes_or_optimizes (option_map (λ rest. (before 32 (100 ∷ bs), rest)) o) ≡ false
no_word_100 bs None = refl
no_word_100 bs (Some rest) = refl

no_line : (text : List ℕ) (b : Bool) → b ≡ false → cond (b && list_all is_of_names text) (Some (OfMark Maintenance)) None ≡ None
no_line text b e = ap (λ (x : Bool). cond (x && list_all is_of_names text) (Some (OfMark Maintenance)) None) e

line_99 : (bs : List ℕ) → line_of (99 ∷ bs) ≡ None
line_99 bs = no_line (99 ∷ bs) (analyzes_or_optimizes (cut_at 32 (99 ∷ bs))) (no_word_99 bs (behind 32 bs))

line_100 : (bs : List ℕ) → line_of (100 ∷ bs) ≡ None
line_100 bs = no_line (100 ∷ bs) (analyzes_or_optimizes (cut_at 32 (100 ∷ bs))) (no_word_100 bs (behind 32 bs))

-- a line of a bundle's own begins with the letter c or d, and no line of a log does
own_says : (line : List ℕ) → is_own line ≡ true → line_of line ≡ None
own_says [] e = absurd cc
own_says (b ∷ bs) e = begins (one_of (eqb 99 b) (eqb b 100) _ _ e)
  where
    begins : (eqb 99 b ≡ true) ⊎ (eqb b 100 ≡ true) → line_of (b ∷ bs) ≡ None
    begins (inl h) = ap (λ (c : ℕ). line_of (c ∷ bs)) (sym (eqb-true 99 b h)) ∙ line_99 bs
    begins (inr h) = ap (λ (c : ℕ). line_of (c ∷ bs)) (eqb-true b 100 h) ∙ line_100 bs

pub line_other : (l : Content) (line : List ℕ) → IsLine l line → is_own line ≡ false
line_other l line is = other (is_own line) refl
  where
    other : (b : Bool) → is_own line ≡ b → b ≡ false
    other false e = refl
    other true e = absurd (let bad : None ≡ Some l = sym (own_says line e) ∙ line_again l line is in cc)

said_others : (lines : List (List ℕ)) (contents : List Content) → HaveContents lines contents → AllByRecursion IsOneLine lines → AllByRecursion IsOther lines
said_others [] [] content whole = tt
said_others (line ∷ lines) (l ∷ ls) content whole = ((whole.0, line_other l line content.0), said_others lines ls content.1 whole.1)
said_others [] (l ∷ ls) content whole = absurd content
said_others (line ∷ lines) [] content whole = absurd content

pub log_others : (text : List ℕ) → IsSomeLog text → HasNoOwn text
log_others text (opening, previous, entries, varied, log) = record {
  lines = log.lines;
  rest = [];
  parts = log.parts ∙ sym (append-nil _);
  others = said_others log.lines log.contents log.content log.whole;
  part = refl;
}
