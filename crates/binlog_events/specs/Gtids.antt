-- The GTIDs of events. None: the body is not in the form of its kind.
use Rattle.std.specs.Prelude.{ℕ, zero, suc, ◌+◌, ◌*◌, ◌/◌, ◌%◌, ◌^◌, ◌==◌, ◌&&◌, nat_lt, nat_le, Bool, List, length, take, Option, Some, None, if◌then◌else◌}
use Rattle.std.specs.Int.{w128, from_be_bytes}
use Rattle.gtid_text.specs.declared.Gtid.{Gtid}
use Rattle.binlog_events.specs.Numbers.{part, low_number, varied}
use Rattle.binlog_events.specs.declared.gtids.TaggedGtid.{TaggedGtid}

-- a transaction's number
abbrev pub is_number : ℕ → Bool
is_number n = nat_le 1 n && nat_lt n (2 ^ 63)

abbrev pub numbered : ℕ → ℕ → Option Gtid
numbered source number = if is_number number then Some (record { source = source; number = number }) else None

-- GTID: a byte of flags, the UUID's 16 bytes, 8 bytes of the number, and more that depends on the server's version
unfoldable pub gtid_of : List ℕ → Option Gtid
gtid_of body =
    if nat_lt (length body) 25 then None
    else numbered (from_be_bytes w128 (part 1 16 body)) (low_number (part 17 8 body))

-- ---- GTID_TAGGED: a message, which is numbers of varying length: the message's version, its size, and the last field that may not be
-- ---- passed over; then fields, each with its number before it: 0 flags; 1 the UUID, each byte a number; 2 the number, doubled, for it has a
-- ---- sign; 3 the tag, with its length before it; and others

abbrev pub and_then : {A B : Type 0} → Option A → (A → Option B) → Option B
and_then None f = None
and_then (Some x) f = f x

-- what is behind the number at the front
unfoldable pub behind_number : List ℕ → Option (List ℕ)
behind_number bytes = and_then (varied bytes) (λ p. Some p.1)

-- what is behind a field's number
unfoldable pub in_field : ℕ → List ℕ → Option (List ℕ)
in_field field bytes = and_then (varied bytes) (λ p. if p.0 == field then Some p.1 else None)

-- a UUID of which so many bytes are left, as one number, high byte first, and what is behind it
unfoldable pub source_from : ℕ → ℕ → List ℕ → Option (ℕ × List ℕ)
source_from zero source bytes = Some (source, bytes)
source_from (suc n) source bytes =
    and_then (varied bytes) (λ p. if nat_lt p.0 256 then source_from n ((source * 256 + p.0) % 2 ^ 128) p.1 else None)

-- a GTID with a tag
pub record Tagged : Type 0 where
  pub source : ℕ
  pub tag : List ℕ
  pub number : ℕ

-- the tag's length is 1 to 32, and the number has no sign
unfoldable pub tagged_by : ℕ → ℕ → ℕ → List ℕ → Option Tagged
tagged_by source doubled len rest =
    if (nat_le 1 len && nat_le len 32) && (nat_le len (length rest) && ((doubled % 2 == 0) && is_number (doubled / 2)))
    then Some (record { source = source; tag = take len rest; number = doubled / 2 })
    else None

-- from the field of the number on
unfoldable pub tagged_behind : ℕ → List ℕ → Option Tagged
tagged_behind source bytes =
    and_then (in_field 2 bytes) (λ a. and_then (varied a) (λ number. and_then (in_field 3 number.1) (λ b. and_then (varied b) (λ len. tagged_by source number.0 len.0 len.1))))

-- from the fields on
unfoldable pub tagged_fields : List ℕ → Option Tagged
tagged_fields bytes =
    and_then (in_field 0 bytes) (λ a. and_then (behind_number a) (λ b. and_then (in_field 1 b) (λ c. and_then (source_from 16 0 c) (λ p. tagged_behind p.0 p.1))))

unfoldable pub tagged_of : List ℕ → Option Tagged
tagged_of body = and_then (behind_number body) (λ a. and_then (behind_number a) (λ b. and_then (behind_number b) (λ c. tagged_fields c)))

-- what the code gives
abbrev pub tagged_gtid : TaggedGtid → Tagged
tagged_gtid g = record { source = g.source; tag = g.tag.now; number = g.number }
