use Rattle.std.proofs.Common.{◌≡◌, ap, ◌∙◌, arith, pos, unsigned_abs, FitsSigned, w16}
use Rattle.std.proofs.lemmas.Int.{to_z-of_z}
use Rattle.jiff_core.specs.Date.{epoch_day}
use Rattle.jiff_core.proofs.SignedLemmas.{signed_arith}
use Rattle.fault_places.proofs.Days.{is_civil_day}
use Rattle.fault_places.proofs.times.civil_day.Goals as goal

pub returns : goal.returns
returns c =
    let date = c.from_days_since_min-date.result in
    let number : epoch_day date ≡ pos c.args.number = omega (arith, signed_arith, c.from_days_since_min-date.ensures) in
    let is = is_civil_day date c.args.number c.requires number in
    let fits : FitsSigned w16 date.year = omega (arith, signed_arith, date.year_in) in
    let year : c.unsigned_abs.result ≡ unsigned_abs date.year = simp to_z-of_z at c.unsigned_abs.ensures.value in
    λ i. record { year = (year ∙ ap unsigned_abs is.0) i; month = is.1 i; day = is.2 i }
