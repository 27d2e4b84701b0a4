-- The number of a GTID that was read is a transaction's.
use Rattle.std.proofs.Common.{◌≡◌, ℕ, Bool, true, false, cond, List, length, Some, None, refl, ap, ◌∙◌, arith}
use Rattle.std.specs.Prelude.{nat_lt}
use Rattle.std.proofs.lemmas.Bool.Decides.{nat_tests}
use Rattle.std.specs.Int.{w128, from_be_bytes}
use Rattle.gtid_text.specs.declared.Gtid.{Gtid}
use Rattle.gtid_set.specs.Sets.{greatest}
use Rattle.journal.specs.Writing.{is_number}
use Rattle.binlog_events.specs.Gtids as events
use Rattle.binlog_events.specs.Gtids.{numbered, gtid_of}
use Rattle.binlog_events.specs.Numbers.{part, low_number}

same_number : (n : ℕ) → events.is_number n ≡ true → is_number n ≡ true
unfolding greatest
same_number n e = grind (arith, nat_tests, e)

in_numbered : (source n : ℕ) (g : Gtid) (b : Bool) → events.is_number n ≡ b → Some g ≡ cond b (Some (record { source = source; number = n })) None → is_number g.number ≡ true
in_numbered source n g true e f = ap (λ x. is_number x) (cc) ∙ same_number n e
in_numbered source n g false e f = absurd cc

in_body : (long : Bool) (body : List ℕ) (g : Gtid) → Some g ≡ cond long None (numbered (from_be_bytes w128 (part 1 16 body)) (low_number (part 17 8 body))) → is_number g.number ≡ true
in_body true body g e = absurd cc
in_body false body g e = in_numbered (from_be_bytes w128 (part 1 16 body)) (low_number (part 17 8 body)) g (events.is_number (low_number (part 17 8 body))) refl e

pub read_number : (body : List ℕ) (g : Gtid) → Some g ≡ gtid_of body → is_number g.number ≡ true
unfolding gtid_of
read_number body g e = in_body (nat_lt (length body) 25) body g e
