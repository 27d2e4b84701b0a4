use Rattle.gtid_set.proofs.RoundTrip.{answers_spelled, spelled_answered, spelled_full, spelled_crowded}
use Rattle.gtid_set.proofs.laws.text_parses_exactly.Goals as goal

pub returns : goal.returns
returns c = record { found = answers_spelled; only = spelled_answered; full = spelled_full; crowded = spelled_crowded }
