-- The low bytes of a number of four.
use Rattle.std.proofs.Common.{◌≡◌, refl, ℕ, zero, suc, ◌-◌, ◌≤◌, drop, arith}
use Rattle.std.specs.Int.{w32, to_be_bytes, bytes_high_first}

pub low_bytes : (k n : ℕ) → k ≤ 4 → drop (4 - k) (to_be_bytes w32 n) ≡ bytes_high_first k n
low_bytes zero n le = refl
low_bytes (suc zero) n le = refl
low_bytes (suc (suc zero)) n le = refl
low_bytes (suc (suc (suc zero))) n le = refl
low_bytes (suc (suc (suc (suc zero)))) n le = refl
low_bytes (suc (suc (suc (suc (suc k))))) n le = absurd (omega (arith, le))
