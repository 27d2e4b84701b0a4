use Rattle.fault_places.proofs.Days.{has_number}
use Rattle.fault_places.proofs.laws.days_have_their_dates.Goals as goal

pub returns : goal.returns
returns c = λ n few. let has = has_number n few in (has.is_date, has.number)
