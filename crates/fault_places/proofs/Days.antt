-- The dates that follow one another from 1 January 1970 are those that have the numbers of jiff's calendar.
use Rattle.std.proofs.Common.{◌≡◌, ℕ, zero, suc, ◌+◌, ◌<◌, ◌≤◌, true, false, cond, nat_lt, refl, sym, ap, ◌∙◌, rules, add-one, arith, pos}
use Rattle.std.proofs.lemmas.Bool.Decides.{nat_tests}
use Rattle.jiff_core.specs.declared.civil.date.Date.{Date}
use Rattle.jiff_core.specs.Calendar.{days_in_month, days_from_civil, IsCivilDate}
use Rattle.jiff_core.specs.Date.{epoch_day}
use Rattle.jiff_core.proofs.SignedLemmas.{signed_arith}
use Rattle.jiff_core.proofs.CalendarLemmas.{days_from_civil-day_count, day_count-epoch, days_in_month_bounds}
use Rattle.jiff_core.proofs.DateLemmas.{epoch_day_injective, days_from_civil-day, days_from_civil-next_month, days_from_civil-next_year, days_from_civil-max}
use Rattle.fault_places.specs.declared.times.CivilDay.{CivilDay}
use Rattle.fault_places.specs.Times.{next_day, civil_day}

-- a date of the calendar, whose number is n
pub record HasNumber (d : CivilDay) (n : ℕ) : Type 0 where
  pub is_date : IsCivilDate (pos d.year) d.month d.day
  pub number : days_from_civil (pos d.year) d.month d.day ≡ pos n

first : HasNumber (record { year = 1970; month = 1; day = 1 }) 0
first = record {
  is_date = search rules;
  number = omega (arith, signed_arith, days_from_civil-day_count (pos 1970) 1 1, day_count-epoch);
}

-- ---- the next day

later_in_month : (y m d n : ℕ) → d < days_in_month (pos y) m → HasNumber (record { year = y; month = m; day = d }) n → HasNumber (record { year = y; month = m; day = d + 1 }) (n + 1)
later_in_month y m d n more has = record {
  is_date = (has.is_date.0, has.is_date.1, (omega arith, omega (arith, more)));
  number = omega (arith, signed_arith, has.number, days_from_civil-day (pos y) m d (d + 1) has.is_date.2.0 (omega arith));
}

next_month : (y m d n : ℕ) → d ≡ days_in_month (pos y) m → m < 12 → HasNumber (record { year = y; month = m; day = d }) n → HasNumber (record { year = y; month = m + 1; day = 1 }) (n + 1)
next_month y m d n last more has =
    let long = days_in_month_bounds (pos y) (m + 1) in
    record {
      is_date = (has.is_date.0, (omega arith, omega (arith, more)), (omega arith, omega (arith, long)));
      number = days_from_civil-next_month (pos y) m d has.is_date.1.0 last ∙ omega (arith, signed_arith, has.number);
    }

next_year : (y d n : ℕ) → n < 2_932_896 → d ≡ 31 → HasNumber (record { year = y; month = 12; day = d }) n → HasNumber (record { year = y + 1; month = 1; day = 1 }) (n + 1)
next_year y d n few last has =
    let here : days_from_civil (pos y) 12 31 ≡ pos n = rw last at has.number in
    let apart : ¬ (y ≡ 9999) = λ e. omega (arith, signed_arith, few, sym here ∙ ap (λ k. days_from_civil (pos k) 12 31) e ∙ days_from_civil-max) in
    record {
      is_date = (omega (arith, signed_arith, has.is_date.0, apart), search rules, search rules);
      number = days_from_civil-next_year (pos y) (pos (y + 1)) (omega (arith, signed_arith)) (omega (arith, signed_arith)) ∙ omega (arith, signed_arith, here);
    }

at_last : (d : CivilDay) (n : ℕ) → n < 2_932_896 → HasNumber d n → days_in_month (pos d.year) d.month ≤ d.day → HasNumber (cond (nat_lt d.month 12) (record { year = d.year; month = d.month + 1; day = 1 }) (record { year = d.year + 1; month = 1; day = 1 })) (n + 1)
at_last d n few has past =
    let last : d.day ≡ days_in_month (pos d.year) d.month = omega (arith, past, has.is_date.2.1) in
    elim (nat_lt d.month 12) as (λ b. nat_lt d.month 12 ≡ b → HasNumber (cond b (record { year = d.year; month = d.month + 1; day = 1 }) (record { year = d.year + 1; month = 1; day = 1 })) (n + 1)) [
      | true ↦ λ is. next_month d.year d.month d.day n last (grind (arith, nat_tests, is)) has
      | false ↦ λ is.
          let month : d.month ≡ 12 = grind (arith, nat_tests, is, has.is_date.1.1) in
          next_year d.year d.day n few (last ∙ ap (days_in_month (pos d.year)) month) (rw month at has)
    ] refl

next : (d : CivilDay) (n : ℕ) → n < 2_932_896 → HasNumber d n → HasNumber (next_day d) (n + 1)
next d n few has =
    elim (nat_lt d.day (days_in_month (pos d.year) d.month)) as (λ b. nat_lt d.day (days_in_month (pos d.year) d.month) ≡ b → HasNumber (cond b (record { year = d.year; month = d.month; day = d.day + 1 }) (cond (nat_lt d.month 12) (record { year = d.year; month = d.month + 1; day = 1 }) (record { year = d.year + 1; month = 1; day = 1 }))) (n + 1)) [
      | true ↦ λ is. later_in_month d.year d.month d.day n (grind (arith, nat_tests, is)) has
      | false ↦ λ is. at_last d n few has (grind (arith, nat_tests, is))
    ] refl

pub has_number : (n : ℕ) → n ≤ 2_932_896 → HasNumber (civil_day n) n
unfolding civil_day
has_number zero few = first
has_number (suc n) few = rw (← add-one n) (next (civil_day n) n (omega (arith, few)) (has_number n (omega (arith, few))))

-- the date of jiff that has this number is that one
pub is_civil_day : (date : Date) (n : ℕ) → n ≤ 2_932_896 → epoch_day date ≡ pos n
    → (date.year ≡ pos (civil_day n).year) × (date.month ≡ (civil_day n).month) × (date.day ≡ (civil_day n).day)
is_civil_day date n few is =
    let has = has_number n few in
    let same : Date = record { year = pos (civil_day n).year; month = (civil_day n).month; day = (civil_day n).day; year_in = has.is_date.0; month_in = has.is_date.1; day_in = has.is_date.2 } in
    epoch_day_injective date same (is ∙ sym has.number)
