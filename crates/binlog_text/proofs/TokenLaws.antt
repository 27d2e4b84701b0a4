-- A line is put together again of its parts.
use Rattle.std.proofs.Common.{◌≡◌, ℕ, Bool, true, false, cond, eqb, not, List, [], ◌∷◌, ◌++◌, Option, Some, None, refl, sym, ap, ◌∙◌, subst, inl, inr, eq-eqb}
use Rattle.std.specs.Prelude.{option_map, ◌&&◌, MatchOption, ◌≢◌}
use Rattle.std.proofs.lemmas.Bool.{eqb-true}
use Rattle.std.proofs.lemmas.Option.{same_Some}
use Rattle.lemmas.proofs.Tests.{not_and_parts}
use Rattle.gtid_text.proofs.Turns.{chosen}
use Rattle.binlog_text.specs.Tokens.{after_prefix, before, behind, cut_at, lacks, nothing_in, last_behind, last_cut, ◌>>=◌}

pub bind_some : {A B : Type 0} (o : Option A) (f : A → Option B) (y : B) → (o >>= f) ≡ Some y → (x : A) × (o ≡ Some x) × (f x ≡ Some y)
bind_some None f y e = absurd cc
bind_some (Some x) f y e = (x, refl, e)

pub after_found : (front text rest : List ℕ) → after_prefix front text ≡ Some rest → text ≡ front ++ rest
after_found [] text rest e = same_Some _ _ e
after_found (b ∷ bs) [] rest e = absurd cc
after_found (b ∷ bs) (c ∷ cs) rest e = elim (chosen (eqb b c) (after_prefix bs cs) None (Some rest) e) [
  | inl p ↦ ap (λ (x : ℕ). x ∷ cs) (sym (eqb-true b c p.0)) ∙ ap (λ (xs : List ℕ). b ∷ xs) (after_found bs cs rest p.1)
  | inr p ↦ absurd cc
]

pub after_again : (front rest : List ℕ) → after_prefix front (front ++ rest) ≡ Some rest
after_again [] rest = refl
after_again (b ∷ bs) rest = ap (λ (t : Bool). cond t (after_prefix bs (bs ++ rest)) None) (eq-eqb b b refl) ∙ after_again bs rest

pub record Cuts (c : ℕ) (text front rest : List ℕ) : Type 0 where
  pub parts : text ≡ front ++ c ∷ rest
  pub free : lacks c front ≡ true

pub nothing_found : (text : List ℕ) (u : Unit {0}) → nothing_in text ≡ Some u → text ≡ []
nothing_found [] u e = refl
nothing_found (b ∷ bs) u e = absurd cc

-- what comes after the first such byte
behind_at : (c b : ℕ) (bs rest : List ℕ) (t : Bool) → eqb b c ≡ t → (behind c bs ≡ Some rest → Cuts c bs (before c bs) rest) → cond t (Some bs) (behind c bs) ≡ Some rest → Cuts c (b ∷ bs) (cond t [] (b ∷ before c bs)) rest
behind_at c b bs rest true h k f = record {
  parts = ap (λ (x : ℕ). x ∷ bs) (eqb-true b c h) ∙ ap (λ (xs : List ℕ). c ∷ xs) (same_Some _ _ f);
  free = refl;
}
behind_at c b bs rest false h k f = let cuts = k f in record {
  parts = ap (λ (xs : List ℕ). b ∷ xs) cuts.parts;
  free = ap (λ (t : Bool). not t && lacks c (before c bs)) h ∙ cuts.free;
}

behind_found : (c : ℕ) (text rest : List ℕ) → behind c text ≡ Some rest → Cuts c text (before c text) rest
behind_found c [] rest e = absurd cc
behind_found c (b ∷ bs) rest e = behind_at c b bs rest (eqb b c) refl (behind_found c bs rest) e

paired : (front : List ℕ) (o : Option (List ℕ)) (x : List ℕ × List ℕ) → option_map (λ rest. (front, rest)) o ≡ Some x → (rest : List ℕ) × (o ≡ Some rest) × ((front, rest) ≡ x)
paired front None x e = absurd cc
paired front (Some rest) x e = (rest, refl, same_Some _ _ e)

pub cut_found : (c : ℕ) (text : List ℕ) (x : List ℕ × List ℕ) → cut_at c text ≡ Some x → Cuts c text x.0 x.1
cut_found c text x e = let pair = paired (before c text) (behind c text) x e in
    subst (λ (y : List ℕ × List ℕ). Cuts c text y.0 y.1) pair.2 (behind_found c text pair.0 pair.1)

before_again : (c : ℕ) (front rest : List ℕ) → lacks c front ≡ true → before c (front ++ c ∷ rest) ≡ front
before_again c [] rest free = rw (eq-eqb c c refl) refl
before_again c (b ∷ bs) rest free = let first = not_and_parts (eqb b c) (lacks c bs) free in
    rw first.0 (ap (λ (xs : List ℕ). b ∷ xs) (before_again c bs rest first.1))

behind_again : (c : ℕ) (front rest : List ℕ) → lacks c front ≡ true → behind c (front ++ c ∷ rest) ≡ Some rest
behind_again c [] rest free = rw (eq-eqb c c refl) refl
behind_again c (b ∷ bs) rest free = let first = not_and_parts (eqb b c) (lacks c bs) free in
    rw first.0 (behind_again c bs rest first.1)

pub cut_again : (c : ℕ) (front rest : List ℕ) → lacks c front ≡ true → cut_at c (front ++ c ∷ rest) ≡ Some (front, rest)
cut_again c front rest free = rw (behind_again c front rest free, before_again c front rest free) refl

-- ---- what `strip_prefix` finds

pub stripped : {V : Type 0} (view : V → List ℕ) (front text : List ℕ) (r : Option V) → MatchOption r ((rest : List ℕ) → text ≢ front ++ rest) (λ x. text ≡ front ++ view x) → option_map view r ≡ after_prefix front text
stripped view front text (Some x) h = sym (ap (after_prefix front) h ∙ after_again front (view x))
stripped view front text None h = none (after_prefix front text) refl
  where
    none : (o : Option (List ℕ)) → after_prefix front text ≡ o → None ≡ o
    none None e = refl
    none (Some rest) e = absurd (h rest (after_found front text rest e))

-- ---- the last byte

last_behind_again : (b : ℕ) (front : List ℕ) (last : ℕ) → last_cut (b ∷ (front ++ last ∷ [])) ≡ Some (b ∷ front, last)
last_behind_again b [] last = refl
last_behind_again b (c ∷ cs) last =
    let rest : last_behind c (cs ++ last ∷ []) ≡ (c ∷ cs, last) = same_Some _ _ (last_behind_again c cs last) in
    ap (λ (p : List ℕ × ℕ). Some (b ∷ p.0, p.1)) rest

pub last_again : (front : List ℕ) (last : ℕ) → last_cut (front ++ last ∷ []) ≡ Some (front, last)
last_again [] last = refl
last_again (b ∷ front) last = last_behind_again b front last

last_behind_found : (b : ℕ) (bs : List ℕ) → b ∷ bs ≡ (last_behind b bs).0 ++ (last_behind b bs).1 ∷ []
last_behind_found b [] = refl
last_behind_found b (c ∷ cs) = ap (λ (xs : List ℕ). b ∷ xs) (last_behind_found c cs)

pub last_found : (text : List ℕ) (x : List ℕ × ℕ) → last_cut text ≡ Some x → text ≡ x.0 ++ x.1 ∷ []
last_found [] x e = absurd cc
last_found (b ∷ bs) x e = last_behind_found b bs ∙ ap (λ (y : List ℕ × ℕ). y.0 ++ y.1 ∷ []) (same_Some _ _ e)
