-- No more has come than there are lines.
use Rattle.std.proofs.Common.{◌≡◌, ℕ, ◌+◌, ◌≤◌, Bool, true, false, List, arith, sym, subst}
use Rattle.std.specs.Prelude.{if◌then◌else◌}
use Rattle.fault_places.specs.declared.standing.Standing.{Standing}
use Rattle.fault_places.specs.Lines.{is_channel, is_transaction, is_change}
use Rattle.fault_places.specs.Places.{after}

pub record IsWithin (s : Standing) (n : ℕ) : Type 0 where
  pub channels : s.channels ≤ n
  pub entries : s.entries ≤ n
  pub changes : s.changes ≤ n

either : (b : Bool) (s t : Standing) (n : ℕ) → IsWithin s n → IsWithin t n → IsWithin (if b then s else t) n
either true s t n p q = p
either false s t n p q = q

within_after : (g : List ℕ) (s : Standing) (line : List ℕ) (n : ℕ) → IsWithin s n → IsWithin (after g s line) (n + 1)
unfolding after
within_after g s line n h =
    either (is_channel line) _ _ (n + 1) (record { channels = omega (arith, h.channels); entries = omega arith; changes = omega arith })
    (either (is_transaction line) _ _ (n + 1) (record { channels = omega (arith, h.channels); entries = omega (arith, h.entries); changes = omega arith })
    (either (is_change line) _ _ (n + 1)
    (record { channels = omega (arith, h.channels); entries = omega (arith, h.entries); changes = omega (arith, h.changes) })
    (record { channels = omega (arith, h.channels); entries = omega (arith, h.entries); changes = omega (arith, h.changes) })))

-- the same of what a call gives
pub within_next : (g : List ℕ) (s t : Standing) (line : List ℕ) (n : ℕ) → t ≡ after g s line → IsWithin s n → IsWithin t (n + 1)
within_next g s t line n e h = let P : Standing → Type 0 = λ x. IsWithin x (n + 1) in subst P (sym e) (within_after g s line n h)
