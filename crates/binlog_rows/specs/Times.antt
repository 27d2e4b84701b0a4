-- Dates and times, by their bytes, as texts. None: a part is more than it can be.
use Rattle.std.specs.Prelude.{ℕ, ◌-◌, ◌*◌, ◌/◌, ◌%◌, ◌^◌, ◌==◌, ◌&&◌, nat_lt, nat_le, Bool, List, [], ◌∷◌, ◌++◌, take, Option, Some, None, decimal, option_map, if◌then◌else◌}
use Rattle.binlog_rows.specs.Numbers.{and_then, split, low_number, high_number}
use Rattle.binlog_rows.specs.Digits.{digit, two_digits, four_digits, six_digits}

-- ---- a second's fraction

-- how many millionths a fraction of so many digits has. Hundredths are kept for up to two digits, ten-thousandths for up to four, and else
-- millionths; of these an odd number of digits leaves the last one 0.
unfoldable pub microseconds : ℕ → ℕ → Option ℕ
microseconds digits n =
    if (digits % 2 == 1) && nat_lt 0 (n % 10) then None
    else if nat_le digits 2 then (if nat_lt n 100 then Some (n * 10000) else None)
    else if nat_le digits 4 then (if nat_lt n 10000 then Some (n * 100) else None)
    else if nat_lt n 1000000 then Some n
    else None

-- a point and so many digits of them, if there are any
abbrev pub fraction_text : ℕ → ℕ → List ℕ
fraction_text digits millionths = if digits == 0 then [] else 46 ∷ take digits (six_digits millionths)

-- one more than the greatest number in the bytes of a fraction
abbrev pub fraction_unit : ℕ → ℕ
fraction_unit digits = if digits == 0 then 1 else if nat_le digits 2 then 256 else if nat_le digits 4 then 65536 else 16777216

-- ---- dates and clocks

-- a year, a month and a day, with this mark between them
abbrev pub date_text : ℕ → ℕ → ℕ → ℕ → List ℕ
date_text mark year month day = four_digits year ++ mark ∷ (two_digits month ++ mark ∷ two_digits day)

-- hours, 6 bits of minutes and 6 bits of seconds, with hours up to the most
abbrev pub is_clock : ℕ → ℕ → Bool
is_clock most n = nat_le (n / 4096) most && (nat_lt (n / 64 % 64) 60 && nat_lt (n % 64) 60)

-- two digits of hours at least
abbrev pub hours_text : ℕ → List ℕ
hours_text n = if nat_lt n 100 then two_digits n else digit (n / 100) ∷ two_digits n

abbrev pub clock_text : ℕ → List ℕ
clock_text n = hours_text (n / 4096) ++ 58 ∷ (two_digits (n / 64 % 64) ++ 58 ∷ two_digits (n % 64))

-- ---- DATE

-- a year, 4 bits of a month and 5 bits of a day
abbrev pub is_date : ℕ → Bool
is_date n = nat_le (n / 512) 9999 && nat_le (n / 32 % 16) 12

abbrev pub date_of : List ℕ → Option (List ℕ)
date_of bytes =
    let n = low_number bytes in
    if is_date n then Some (date_text 58 (n / 512) (n / 32 % 16) (n % 32)) else None

-- ---- TIME

-- hours, minutes and seconds, and behind them the fraction, as one number, and whether it is below 0
abbrev pub time_text : ℕ → ℕ → ℕ → List ℕ
time_text digits n millionths = clock_text (n / fraction_unit digits) ++ fraction_text digits millionths

abbrev pub time_by : ℕ → ℕ → Option (List ℕ)
time_by digits n =
    and_then (microseconds digits (n % fraction_unit digits)) (λ millionths.
    if is_clock 838 (n / fraction_unit digits) then Some (time_text digits n millionths) else None)

-- 0 is in the middle of what its bytes can be, highest first
unfoldable pub time_of : ℕ → List ℕ → Option (List ℕ)
time_of digits bytes =
    let n = high_number bytes in
    let zero_at = 8388608 * fraction_unit digits in
    if nat_lt n zero_at then option_map (λ text. 45 ∷ text) (time_by digits (zero_at - n)) else time_by digits (n - zero_at)

-- ---- DATETIME

-- a year times 13 and a month, 5 bits of a day, and 17 bits of a clock
abbrev pub is_datetime : ℕ → Bool
is_datetime n = nat_le (n / 4194304 / 13) 9999 && is_clock 23 (n % 131072)

abbrev pub datetime_text : ℕ → ℕ → ℕ → List ℕ
datetime_text digits n millionths =
    date_text 45 (n / 4194304 / 13) (n / 4194304 % 13) (n / 131072 % 32) ++ 32 ∷ (clock_text (n % 131072) ++ fraction_text digits millionths)

abbrev pub datetime_by : ℕ → ℕ → Option ℕ → Option (List ℕ)
datetime_by digits n None = None
datetime_by digits n (Some millionths) = if is_datetime n then Some (datetime_text digits n millionths) else None

-- 0 is in the middle of what 5 bytes can be, highest first; behind them is the fraction
unfoldable pub datetime_of : ℕ → List ℕ → Option (List ℕ)
datetime_of digits bytes =
    and_then (split 5 bytes) (λ p.
    if nat_lt (high_number p.0) (2 ^ 39) then None
    else datetime_by digits (high_number p.0 - 2 ^ 39) (microseconds digits (high_number p.1)))

-- ---- TIMESTAMP with a fraction

-- 4 bytes of seconds, highest first, and the fraction
unfoldable pub timestamp_of : ℕ → List ℕ → Option (List ℕ)
timestamp_of digits bytes =
    and_then (split 4 bytes) (λ p.
    option_map (λ millionths. decimal (high_number p.0) ++ fraction_text digits millionths) (microseconds digits (high_number p.1)))
