-- Texts that were appended one after another.
use Rattle.std.proofs.Common.{◌≡◌, ℕ, List, ◌++◌, append_assoc, ap, ◌∙◌}

pub after_one : (o o1 a x : List ℕ) → o1 ≡ o ++ a → o1 ++ x ≡ o ++ (a ++ x)
after_one o o1 a x e = ap (λ (k : List ℕ). k ++ x) e ∙ append_assoc o a x

pub after_three : (o o1 o2 o3 a b c x : List ℕ) → o1 ≡ o ++ a → o2 ≡ o1 ++ b → o3 ≡ o2 ++ c → o3 ++ x ≡ o ++ (a ++ (b ++ (c ++ x)))
after_three o o1 o2 o3 a b c x e f g = after_one o2 o3 c x g ∙ after_one o1 o2 b (c ++ x) f ∙ after_one o o1 a (b ++ (c ++ x)) e
