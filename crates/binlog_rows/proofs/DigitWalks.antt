-- Digits of a DECIMAL that are put behind others, group by group.
use Rattle.std.proofs.Common.{◌≡◌, ℕ, suc, List, ◌++◌, Option, Some, None, option_map, refl, sym, ap, ◌∙◌, append_assoc}
use Rattle.std.proofs.lemmas.List.{append-nil}
use Rattle.binlog_rows.specs.Decimals.{then_digits, group_at, nines_at, behind_others, Puts}

joined : (old digits : List ℕ) (o : Option (List ℕ × List ℕ))
    → option_map (behind_others (old ++ digits)) o ≡ option_map (behind_others old) (option_map (λ q. (digits ++ q.0, q.1)) o)
joined old digits None = refl
joined old digits (Some q) = ap (λ (ds : List ℕ). Some (ds, q.1)) (append_assoc old digits q.0)

same_some : (x y : List ℕ × List ℕ) → Some x ≡ Some y → x ≡ y
same_some x y e = cc

pub puts_none : (old new : List ℕ) (more : List ℕ → Option (List ℕ × List ℕ)) (o : Option (List ℕ × List ℕ)) → Puts old new None o
    → None ≡ option_map (behind_others old) (then_digits more o)
puts_none old new more None e = refl
puts_none old new more (Some p) e = absurd (cc)

pub puts_on : (old mid rest : List ℕ) (more : List ℕ → Option (List ℕ × List ℕ)) (o : Option (List ℕ × List ℕ)) → Puts old mid (Some rest) o
    → option_map (behind_others mid) (more rest) ≡ option_map (behind_others old) (then_digits more o)
puts_on old mid rest more None e = absurd (cc)
puts_on old mid rest more (Some p) e =
    let pair = same_some (mid, rest) (behind_others old p) e in
    let front : mid ≡ old ++ p.0 = ap (λ q. q.0) pair in
    let behind : rest ≡ p.1 = ap (λ q. q.1) pair in
    (λ i. option_map (behind_others (front i)) (more (behind i)))
    ∙ joined old p.0 (more p.1)

pub nines_none : (m n : ℕ) (old new bytes : List ℕ) → suc n ≡ m → Puts old new None (group_at 9 bytes)
    → None ≡ option_map (behind_others old) (nines_at m bytes)
unfolding nines_at
nines_none m n old new bytes is e =
    puts_none old new (nines_at n) (group_at 9 bytes) e ∙ ap (λ (count : ℕ). option_map (behind_others old) (nines_at count bytes)) is

pub nines_on : (m n : ℕ) (old mid bytes rest : List ℕ) → suc n ≡ m → Puts old mid (Some rest) (group_at 9 bytes)
    → option_map (behind_others mid) (nines_at n rest) ≡ option_map (behind_others old) (nines_at m bytes)
unfolding nines_at
nines_on m n old mid bytes rest is e =
    puts_on old mid rest (nines_at n) (group_at 9 bytes) e ∙ ap (λ (count : ℕ). option_map (behind_others old) (nines_at count bytes)) is

pub nines_end : (m : ℕ) (old bytes : List ℕ) → 0 ≡ m → Some (old, bytes) ≡ option_map (behind_others old) (nines_at m bytes)
unfolding nines_at
nines_end m old bytes is =
    ap (λ (ds : List ℕ). Some (ds, bytes)) (sym (append-nil old)) ∙ ap (λ (count : ℕ). option_map (behind_others old) (nines_at count bytes)) is
