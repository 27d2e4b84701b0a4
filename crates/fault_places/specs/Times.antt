-- The text of an instant: its date and its time of day in UTC, by the calendar of jiff.
use Rattle.std.specs.Prelude.{◌≡◌, ℕ, zero, suc, ◌+◌, ◌≤◌, ◌/◌, ◌%◌, nat_lt, List, [], ◌∷◌, ◌++◌, codes, pos, if◌then◌else◌}
use Rattle.jiff_core.specs.Calendar.{days_in_month, days_from_civil, IsCivilDate}
use Rattle.fault_places.specs.declared.times.CivilDay.{CivilDay}

-- ---- days

-- the day after one
abbrev pub next_day : CivilDay → CivilDay
next_day d =
    if nat_lt d.day (days_in_month (pos d.year) d.month) then record { year = d.year; month = d.month; day = d.day + 1 }
    else if nat_lt d.month 12 then record { year = d.year; month = d.month + 1; day = 1 }
    else record { year = d.year + 1; month = 1; day = 1 }

-- the date of a day, by its number: day 0 is 1 January 1970
unfoldable pub civil_day : ℕ → CivilDay
civil_day zero = record { year = 1970; month = 1; day = 1 }
civil_day (suc n) = next_day (civil_day n)

-- the calendar has the date, and day n is the one that has it
abbrev pub IsDateOf : ℕ → CivilDay → Type 0
IsDateOf n d = IsCivilDate (pos d.year) d.month d.day × (days_from_civil (pos d.year) d.month d.day ≡ pos n)

-- Up to 31 December 9999 each day has its date.
abbrev pub DaysHaveTheirDates : Type 0
DaysHaveTheirDates = (n : ℕ) → n ≤ 2_932_896 → IsDateOf n (civil_day n)

-- ---- digits

-- the last two decimal digits of a number
abbrev pub two_digits : ℕ → List ℕ
two_digits n = (48 + n / 10 % 10) ∷ (48 + n % 10) ∷ []

-- the last four
abbrev pub four_digits : ℕ → List ℕ
four_digits n = two_digits (n / 100) ++ two_digits n

-- the last six
abbrev pub six_digits : ℕ → List ℕ
six_digits n = two_digits (n / 10000) ++ four_digits n

-- ---- texts

-- a date, as 2026-11-27
abbrev pub date_text : CivilDay → List ℕ
date_text d = four_digits d.year ++ codes "-" ++ two_digits d.month ++ codes "-" ++ two_digits d.day

-- a time of day in seconds since midnight, as 12:00:00
abbrev pub clock_text : ℕ → List ℕ
clock_text s = two_digits (s / 3600) ++ codes ":" ++ two_digits (s / 60 % 60) ++ codes ":" ++ two_digits (s % 60)

-- the time of day of an instant, as 12:00:00.000000Z
abbrev pub time_text : ℕ → List ℕ
time_text micros = clock_text (micros / 1000000 % 86400) ++ codes "." ++ six_digits micros ++ codes "Z"

-- an instant in microseconds since 1970, as 2026-11-27T12:00:00.000000Z
abbrev pub instant_text : ℕ → List ℕ
instant_text micros = date_text (civil_day (micros / 86400000000)) ++ codes "T" ++ time_text micros
