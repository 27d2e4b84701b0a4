-- Boolean tests.
use Rattle.std.proofs.Common.{◌≡◌, Bool, true, false, ◌||◌, refl}

pub or_itself : (a : Bool) → (a || a) ≡ a
or_itself true = refl
or_itself false = refl
