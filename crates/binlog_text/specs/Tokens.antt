-- Parts of a line, each at the start of what is left.
use Rattle.std.specs.Prelude.{ℕ, Bool, not, ◌==◌, List, [], ◌∷◌, Option, Some, None, option_map, if◌then◌else◌}
use Rattle.std.specs.List.{list_all}

infixl 10 ◌>>=◌
abbrev pub ◌>>=◌ : {A B : Type 0} → Option A → (A → Option B) → Option B
(Some x) >>= f = f x
None >>= f = None

-- what follows this prefix
abbrev pub after_prefix : List ℕ → List ℕ → Option (List ℕ)
after_prefix [] text = Some text
after_prefix (b ∷ bs) [] = None
after_prefix (b ∷ bs) (c ∷ cs) = if b == c then after_prefix bs cs else None

-- the bytes before the first of these bytes, and those after it
abbrev pub before : ℕ → List ℕ → List ℕ
before c [] = []
before c (b ∷ bs) = if b == c then [] else b ∷ before c bs

abbrev pub behind : ℕ → List ℕ → Option (List ℕ)
behind c [] = None
behind c (b ∷ bs) = if b == c then Some bs else behind c bs

abbrev pub cut_at : ℕ → List ℕ → Option (List ℕ × List ℕ)
cut_at c text = option_map (λ rest. (before c text, rest)) (behind c text)

-- no such byte is among them
abbrev pub lacks : ℕ → List ℕ → Bool
lacks c bs = list_all (λ b. not (b == c)) bs

-- there is nothing more
abbrev pub nothing_in : List ℕ → Option (Unit {0})
nothing_in [] = Some tt
nothing_in (b ∷ bs) = None

abbrev pub last_behind : ℕ → List ℕ → List ℕ × ℕ
last_behind b [] = ([], b)
last_behind b (c ∷ cs) = (b ∷ (last_behind c cs).0, (last_behind c cs).1)

-- the last byte, and what comes before it
abbrev pub last_cut : List ℕ → Option (List ℕ × ℕ)
last_cut [] = None
last_cut (b ∷ bs) = Some (last_behind b bs)
