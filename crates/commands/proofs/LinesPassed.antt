-- What is known at a line, from one line of a text to the next.
use Rattle.std.proofs.Common.{◌≡◌, ℕ, zero, suc, ◌-◌, ◌<◌, List, Option, Some, None, refl, sym, ap, ◌∙◌, arith}
use Rattle.std.specs.Option.{option_map_or}
use Rattle.binlog_text.specs.Tokens.{cut_at}
use Rattle.commands.specs.LogPlaces.{Place, at_line, after_line, first_line, place_from}

pub at_next : (place : Place) (n : ℕ) (text line rest : List ℕ) → 0 < n → cut_at 10 text ≡ Some (line, rest)
    → place_from (after_line (at_line place line)) (n - 1) rest ≡ place_from place n text
at_next place zero text line rest h e = absurd (omega (arith, h))
at_next place (suc n) text line rest h e =
    let same : suc n - 1 ≡ n = omega arith in
    ap (λ k. place_from (after_line (at_line place line)) k rest) same
    ∙ sym (ap (λ (o : Option (List ℕ × List ℕ)). option_map_or (λ parts. place_from (after_line (at_line place parts.0)) n parts.1) o (at_line place text)) e)

pub at_none : (place : Place) (n : ℕ) (text : List ℕ) → 0 < n → cut_at 10 text ≡ None → at_line place text ≡ place_from place n text
at_none place zero text h e = absurd (omega (arith, h))
at_none place (suc n) text h e = sym (ap (λ (o : Option (List ℕ × List ℕ)). option_map_or (λ parts. place_from (after_line (at_line place parts.0)) n parts.1) o (at_line place text)) e)

pub at_last : (place : Place) (n : ℕ) (text : List ℕ) → n ≡ 0 → at_line place (first_line text) ≡ place_from place n text
at_last place zero text e = refl
at_last place (suc n) text e = absurd cc
