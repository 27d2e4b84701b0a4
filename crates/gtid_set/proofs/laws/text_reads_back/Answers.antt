use Rattle.gtid_set.proofs.RoundTrip.{spells_one, canonical_spells, spelled_again, spelled_in_range, canonical_tells}
use Rattle.gtid_set.proofs.laws.text_reads_back.Goals as goal

pub returns : goal.returns
returns c = record { one = spells_one; parses = canonical_spells; again = spelled_again; numbers = spelled_in_range; injective = canonical_tells }
