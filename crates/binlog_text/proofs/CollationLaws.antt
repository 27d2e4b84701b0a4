-- Where the name of a collation is.
use Rattle.std.proofs.Common.{◌≡◌, ℕ, ◌+◌, ◌-◌, ◌<◌, List, ◌∷◌, length, length-drop, get_or, take, drop, arith, Option, None, sym, ap, ◌∙◌}
use Rattle.std.specs.Prelude.{codes}
use Rattle.std.specs.Option.{option_or}
use Rattle.std.proofs.lemmas.List.{drop_more, take_all}
use Rattle.binlog_text.specs.Tokens.{after_prefix}
use Rattle.binlog_text.specs.Types.{collation_name}

behind : (b : ℕ) (bs text : List ℕ) → text ≡ b ∷ bs → None ≡ after_prefix (codes " COLLATE ") text → collation_name bs ≡ collation_name text
behind b bs text is none = ap (λ (o : Option (List ℕ)). option_or o (collation_name bs)) (none ∙ ap (after_prefix (codes " COLLATE ")) is) ∙ ap collation_name (sym is)

-- it is not at this place
pub not_here : (text : List ℕ) (i : ℕ) → i < length text → None ≡ after_prefix (codes " COLLATE ") (take (length text - i) (drop i text))
    → collation_name (drop (i + 1) text) ≡ collation_name (drop i text)
not_here text i lt none =
    let whole = take_all (length text - i) (drop i text) (omega (arith, length-drop i text)) in
    behind (get_or text i 0) (drop (i + 1) text) (drop i text) (drop_more text i 0 lt) (none ∙ ap (after_prefix (codes " COLLATE ")) whole)
