-- A CRC is a number of four bytes.
use Rattle.std.proofs.Common.{ℕ, ◌*◌, ◌/◌, ◌%◌, ◌^◌, ◌<◌, List, [], ◌∷◌, bit_xor, arith}
use Rattle.std.proofs.lemmas.Nat.{xor_lt}
use Rattle.crc32.specs.Crc.{after, after_bytes, all_ones, bits_of, crc32, generator, shift}

bit_fits : (word bit : ℕ) → word < 2 ^ 32 → bit < 2 → shift (bit_xor word bit) < 2 ^ 32
bit_fits word bit h one =
    let w : bit_xor word bit < 2 ^ 32 = xor_lt 32 word bit h (omega arith) in
    xor_lt 32 (bit_xor word bit / 2) (bit_xor word bit % 2 * generator) (omega arith) (omega arith)

bytes_fit : (bytes : List ℕ) (word : ℕ) → word < 2 ^ 32 → after_bytes word bytes < 2 ^ 32
unfolding after bits_of
bytes_fit [] word h = h
bytes_fit (b ∷ bs) word h =
    let one = bit_fits word (b % 2) h (omega arith) in
    let two = bit_fits _ (b / 2 % 2) one (omega arith) in
    let three = bit_fits _ (b / 4 % 2) two (omega arith) in
    let four = bit_fits _ (b / 8 % 2) three (omega arith) in
    let five = bit_fits _ (b / 16 % 2) four (omega arith) in
    let six = bit_fits _ (b / 32 % 2) five (omega arith) in
    let seven = bit_fits _ (b / 64 % 2) six (omega arith) in
    bytes_fit bs _ (bit_fits _ (b / 128 % 2) seven (omega arith))

pub sum_fits : (bytes : List ℕ) → crc32 bytes < 2 ^ 32
sum_fits bytes = xor_lt 32 (after_bytes all_ones bytes) all_ones (bytes_fit bytes all_ones (omega arith)) (omega arith)
