-- DECIMAL, by its bytes, as a text. None: the bytes are no number, or not in its one form.
use Rattle.std.specs.Prelude.{◌≡◌, ℕ, zero, suc, ◌+◌, ◌-◌, ◌/◌, ◌%◌, ◌&&◌, nat_lt, Bool, false, List, [], ◌∷◌, ◌++◌, map, take, drop, Option, Some, None, option_map, if◌then◌else◌}
use Rattle.std.specs.List.{list_all}
use Rattle.gtid_text.specs.Scan.{skip_while}
use Rattle.binlog_rows.specs.Numbers.{and_then, split, high_number}
use Rattle.binlog_rows.specs.Images.{digits_width}
use Rattle.binlog_rows.specs.Digits.{nine_digits, is_zero}

-- ---- groups of digits

-- a number below a thousand millions in so many digits, up to nine
unfoldable pub group_digits : ℕ → ℕ → Option (List ℕ)
group_digits count n =
    if nat_lt n 1000000000 && list_all is_zero (take (9 - count) (nine_digits n)) then Some (drop (9 - count) (nine_digits n))
    else None

-- so many digits at the front, up to nine, and what is behind them: a number, highest byte first
unfoldable pub group_at : ℕ → List ℕ → Option (List ℕ × List ℕ)
group_at count bytes =
    and_then (split (digits_width count) bytes) (λ p. option_map (λ digits. (digits, p.1)) (group_digits count (high_number p.0)))

-- digits, and those of what is behind them
abbrev pub then_digits : (List ℕ → Option (List ℕ × List ℕ)) → Option (List ℕ × List ℕ) → Option (List ℕ × List ℕ)
then_digits more found = and_then found (λ p. option_map (λ q. (p.0 ++ q.0, q.1)) (more p.1))

-- so many groups of nine digits
unfoldable pub nines_at : ℕ → List ℕ → Option (List ℕ × List ℕ)
nines_at zero bytes = Some ([], bytes)
nines_at (suc n) bytes = then_digits (nines_at n) (group_at 9 bytes)

-- so many digits before the point and behind it: in groups of nine from the point on, with what is left over at either end
unfoldable pub digits_at : ℕ → ℕ → List ℕ → Option (List ℕ × List ℕ)
digits_at before behind bytes =
    then_digits (λ rest. then_digits (group_at (behind % 9)) (nines_at (before / 9 + behind / 9) rest)) (group_at (before % 9) bytes)

-- ---- the sign

-- the first bit is set but for a number below 0, all of whose bits are turned round
abbrev pub is_below : List ℕ → Bool
is_below [] = false
is_below (b ∷ bytes) = nat_lt b 128

abbrev pub magnitude : List ℕ → List ℕ
magnitude [] = []
magnitude (b ∷ bytes) = if nat_lt b 128 then (127 - b) ∷ map (λ x. 255 - x) bytes else (b - 128) ∷ bytes

-- ---- the text

-- the digits before the point, without zeros in front, but 0 where there are no others
abbrev pub or_zero : List ℕ → List ℕ
or_zero [] = 48 ∷ []
or_zero (d ∷ digits) = d ∷ digits

abbrev pub whole_text : List ℕ → List ℕ
whole_text digits = or_zero (skip_while is_zero digits)

abbrev pub point_text : List ℕ → List ℕ
point_text [] = []
point_text (d ∷ digits) = 46 ∷ d ∷ digits

abbrev pub sign_text : Bool → List ℕ
sign_text below = if below then 45 ∷ [] else []

-- digits of which so many are before the point; there is no 0 below 0
unfoldable pub decimal_text : Bool → ℕ → List ℕ → Option (List ℕ)
decimal_text below before digits =
    if below && list_all is_zero digits then None
    else Some (sign_text below ++ (whole_text (take before digits) ++ point_text (drop before digits)))

-- so many digits, and so many of these behind the point
unfoldable pub decimal_of : ℕ → ℕ → List ℕ → Option (List ℕ)
decimal_of precision scale bytes =
    and_then (digits_at (precision - scale) scale (magnitude bytes)) (λ p. decimal_text (is_below bytes) (precision - scale) p.0)

-- ---- what the code gives

-- digits behind others, and what is behind them in the bytes
abbrev pub behind_others : List ℕ → List ℕ × List ℕ → List ℕ × List ℕ
behind_others old p = (old ++ p.0, p.1)

-- digits were put behind others, and these bytes are left
abbrev pub Puts : List ℕ → List ℕ → Option (List ℕ) → Option (List ℕ × List ℕ) → Type 0
Puts old new left found = option_map (λ rest. (new, rest)) left ≡ option_map (behind_others old) found

-- a group's digits were put behind others
abbrev pub PutsGroup : List ℕ → List ℕ → Bool → Option (List ℕ) → Type 0
PutsGroup old new done found = (if done then Some new else None) ≡ option_map (λ digits. old ++ digits) found
