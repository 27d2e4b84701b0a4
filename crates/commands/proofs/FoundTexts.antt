-- The first place of a text, from one place of a line to the next.
use Rattle.std.proofs.Common.{◌≡◌, ℕ, ◌+◌, ◌<◌, true, false, List, [], ◌∷◌, ◌++◌, append_assoc, append-nil, length, get_or, take, drop, drop-cons, add-one, Option, Some, None, sym, ap, ◌∙◌}
use Rattle.std.specs.Prelude.{if◌then◌else◌}
use Rattle.std.proofs.lemmas.List.{take_more}
use Rattle.std.specs.Option.{option_or}
use Rattle.binlog_text.specs.Lines.{begins}
use Rattle.binlog_text.specs.Tokens.{after_prefix}
use Rattle.commands.specs.LogPlaces.{before_text, after_text}

rest_of : (line : List ℕ) (i : ℕ) → i < length line → drop i line ≡ get_or line i 0 ∷ drop (i + 1) line
rest_of line i h = drop-cons line i 0 h ∙ ap (λ k. get_or line i 0 ∷ drop k line) (sym (add-one i))

after_one : (text : List ℕ) (b : ℕ) (bs all : List ℕ) (found : Option (List ℕ)) → all ≡ b ∷ bs → after_prefix text all ≡ found → after_text text all ≡ option_or found (after_text text bs)
after_one text b bs all found e f = ap (after_text text) e ∙ ap (λ o. option_or o (after_text text bs)) (sym (ap (after_prefix text) e) ∙ f)

pub after_found : (text line rest : List ℕ) (i : ℕ) → i < length line → after_prefix text (drop i line) ≡ Some rest → after_text text (drop i line) ≡ Some rest
after_found text line rest i h f = after_one text (get_or line i 0) (drop (i + 1) line) (drop i line) (Some rest) (rest_of line i h) f

pub after_next : (text line : List ℕ) (i : ℕ) → i < length line → after_prefix text (drop i line) ≡ None → after_text text (drop i line) ≡ after_text text (drop (i + 1) line)
after_next text line i h f = after_one text (get_or line i 0) (drop (i + 1) line) (drop i line) None (rest_of line i h) f

before_one : (text : List ℕ) (b : ℕ) (bs all : List ℕ) → all ≡ b ∷ bs → begins text all ≡ false → before_text text all ≡ b ∷ before_text text bs
before_one text b bs all e f = ap (before_text text) e ∙ ap (λ t. if t then [] else b ∷ before_text text bs) (sym (ap (begins text) e) ∙ f)

pub before_next : (text line : List ℕ) (i : ℕ) → i < length line → begins text (drop i line) ≡ false
    → take (i + 1) line ++ before_text text (drop (i + 1) line) ≡ take i line ++ before_text text (drop i line)
before_next text line i h f =
    let left : List ℕ = before_text text (drop (i + 1) line) in
    ap (λ x. x ++ left) (take_more line i 0 h) ∙ append_assoc (take i line) (get_or line i 0 ∷ []) left
    ∙ sym (ap (λ x. take i line ++ x) (before_one text (get_or line i 0) (drop (i + 1) line) (drop i line) (rest_of line i h) f))

before_none : (text : List ℕ) (b : ℕ) (bs all : List ℕ) → all ≡ b ∷ bs → begins text all ≡ true → before_text text all ≡ []
before_none text b bs all e f = ap (before_text text) e ∙ ap (λ t. if t then [] else b ∷ before_text text bs) (sym (ap (begins text) e) ∙ f)

pub before_found : (text line : List ℕ) (i : ℕ) → i < length line → begins text (drop i line) ≡ true → take i line ≡ take i line ++ before_text text (drop i line)
before_found text line i h f =
    sym (ap (λ x. take i line ++ x) (before_none text (get_or line i 0) (drop (i + 1) line) (drop i line) (rest_of line i h) f) ∙ append-nil (take i line))
