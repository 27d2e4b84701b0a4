-- The text of what was parsed.
use Rattle.std.proofs.Common.{◌≡◌, ℕ, List, [], ◌∷◌, ◌++◌, refl, sym, ap, ◌∙◌, append_assoc}
use Rattle.std.proofs.lemmas.List.{append-nil}
use Rattle.txn_journal.specs.declared.parsed_lines.ParsedItem.{ParsedItem}
use Rattle.txn_journal.specs.ParsedTexts.{item_text, text_in}

text_append : (xs ys : List ParsedItem) → text_in (xs ++ ys) ≡ text_in xs ++ text_in ys
text_append [] ys = refl
text_append (x ∷ xs) ys = ap (λ (t : List ℕ). item_text x ++ t) (text_append xs ys) ∙ sym (append_assoc (item_text x) (text_in xs) (text_in ys))

-- one item more was cut off
pub item_cut : (xs : List ParsedItem) (x : ParsedItem) (text rest after : List ℕ) → text ≡ text_in xs ++ rest → rest ≡ item_text x ++ after → text ≡ text_in (xs ++ x ∷ []) ++ after
item_cut xs x text rest after so_far parts =
    so_far
    ∙ ap (λ (t : List ℕ). text_in xs ++ t) parts
    ∙ sym (append_assoc (text_in xs) (item_text x) after)
    ∙ ap (λ (t : List ℕ). (text_in xs ++ t) ++ after) (sym (append-nil (item_text x)))
    ∙ ap (λ (t : List ℕ). t ++ after) (sym (text_append xs (x ∷ [])))

-- the first item of those that are left
pub item_left : (left more : List ParsedItem) (x : ParsedItem) (rest : List ℕ) → left ≡ x ∷ more → text_in left ++ rest ≡ item_text x ++ (text_in more ++ rest)
item_left left more x rest e = ap (λ (xs : List ParsedItem). text_in xs ++ rest) e ∙ append_assoc (item_text x) (text_in more) rest
