-- The laws of union, difference and intersection.
use Rattle.std.proofs.Common.{◌≡◌, Bool, true, false, not, ◌&&◌, ◌||◌, refl, sym, ap, ◌∙◌}
use Rattle.std.specs.FinSet as set
use Rattle.lemmas.proofs.SameGtid.{gtid_total}
use Rattle.gtid_text.specs.declared.Gtid.{Gtid}
use Rattle.gtid_set.specs.Sets.{Gtids}
use Rattle.gtid_set.proofs.SetLemmas.{same_members}

-- what is in each
in_union : (a b : Gtids) (q : Gtid) → set.contains (set.union a b) q ≡ (set.contains a q || set.contains b q)
in_union a b q = set.contains-union gtid_total a b q

in_both : (a b : Gtids) (q : Gtid) → set.contains (set.intersection a b) q ≡ (set.contains a q && set.contains b q)
in_both a b q = set.contains-intersection gtid_total a b q

in_less : (a b : Gtids) (q : Gtid) → set.contains (set.difference a b) q ≡ (set.contains a q && not (set.contains b q))
in_less a b q = set.contains-difference gtid_total a b q

pub union_swap : (a b : Gtids) → set.union a b ≡ set.union b a
union_swap a b = same_members (set.union a b) (set.union b a) (λ q. in_union a b q ∙ law (set.contains a q) (set.contains b q) ∙ sym (in_union b a q))
  where
    law : (a b : Bool) → (a || b) ≡ (b || a)
    law true true = refl
    law true false = refl
    law false true = refl
    law false false = refl

pub union_group : (a b c : Gtids) → set.union (set.union a b) c ≡ set.union a (set.union b c)
union_group a b c = same_members (set.union (set.union a b) c) (set.union a (set.union b c)) (λ q.
    in_union (set.union a b) c q ∙ ap (λ x. x || set.contains c q) (in_union a b q)
    ∙ law (set.contains a q) (set.contains b q) (set.contains c q)
    ∙ ap (λ x. set.contains a q || x) (sym (in_union b c q)) ∙ sym (in_union a (set.union b c) q))
  where
    law : (a b c : Bool) → ((a || b) || c) ≡ (a || (b || c))
    law true b c = refl
    law false b c = refl

pub union_itself : (a : Gtids) → set.union a a ≡ a
union_itself a = same_members (set.union a a) a (λ q. in_union a a q ∙ law (set.contains a q))
  where
    law : (a : Bool) → (a || a) ≡ a
    law true = refl
    law false = refl

pub union_upper : (a b : Gtids) → (set.is_subset a (set.union a b) ≡ true) × (set.is_subset b (set.union a b) ≡ true)
union_upper a b = (
  set.contains-is_subset gtid_total a (set.union a b) (λ q e. in_union a b q ∙ left (set.contains a q) (set.contains b q) e),
  set.contains-is_subset gtid_total b (set.union a b) (λ q e. in_union a b q ∙ right (set.contains a q) (set.contains b q) e),
)
  where
    left : (a b : Bool) → a ≡ true → (a || b) ≡ true
    left true b e = refl
    left false b e = absurd cc

    right : (a b : Bool) → b ≡ true → (a || b) ≡ true
    right true b e = refl
    right false b e = e

pub union_least : (a b c : Gtids) → set.is_subset a c ≡ true → set.is_subset b c ≡ true → set.is_subset (set.union a b) c ≡ true
union_least a b c e f = set.contains-is_subset gtid_total (set.union a b) c (λ q there.
    law (set.contains a q) (set.contains b q) (set.contains c q) (set.is_subset-contains gtid_total a c e q) (set.is_subset-contains gtid_total b c f q) (sym (in_union a b q) ∙ there))
  where
    law : (a b c : Bool) → (a ≡ true → c ≡ true) → (b ≡ true → c ≡ true) → (a || b) ≡ true → c ≡ true
    law true b c f g h = f refl
    law false b c f g h = g h

pub union_less : (a b c : Gtids) → set.difference (set.union a b) c ≡ set.union (set.difference a c) (set.difference b c)
union_less a b c = same_members (set.difference (set.union a b) c) (set.union (set.difference a c) (set.difference b c)) (λ q.
    in_less (set.union a b) c q ∙ ap (λ x. x && not (set.contains c q)) (in_union a b q)
    ∙ law (set.contains a q) (set.contains b q) (not (set.contains c q))
    ∙ (λ i. sym (in_less a c q) i || sym (in_less b c q) i) ∙ sym (in_union (set.difference a c) (set.difference b c) q))
  where
    law : (a b c : Bool) → ((a || b) && c) ≡ ((a && c) || (b && c))
    law true b true = refl
    law true true false = refl
    law true false false = refl
    law false b c = refl

pub less_union : (a b c : Gtids) → set.difference a (set.union b c) ≡ set.difference (set.difference a b) c
less_union a b c = same_members (set.difference a (set.union b c)) (set.difference (set.difference a b) c) (λ q.
    in_less a (set.union b c) q ∙ ap (λ x. set.contains a q && not x) (in_union b c q)
    ∙ law (set.contains a q) (set.contains b q) (set.contains c q)
    ∙ ap (λ x. x && not (set.contains c q)) (sym (in_less a b q)) ∙ sym (in_less (set.difference a b) c q))
  where
    law : (a b c : Bool) → (a && not (b || c)) ≡ ((a && not b) && not c)
    law true true c = refl
    law true false c = refl
    law false b c = refl

pub less_both : (a b c : Gtids) → set.difference a (set.intersection b c) ≡ set.union (set.difference a b) (set.difference a c)
less_both a b c = same_members (set.difference a (set.intersection b c)) (set.union (set.difference a b) (set.difference a c)) (λ q.
    in_less a (set.intersection b c) q ∙ ap (λ x. set.contains a q && not x) (in_both b c q)
    ∙ law (set.contains a q) (set.contains b q) (set.contains c q)
    ∙ (λ i. sym (in_less a b q) i || sym (in_less a c q) i) ∙ sym (in_union (set.difference a b) (set.difference a c) q))
  where
    law : (a b c : Bool) → (a && not (b && c)) ≡ ((a && not b) || (a && not c))
    law true true c = refl
    law true false c = refl
    law false b c = refl

pub both_union : (a b c : Gtids) → set.intersection (set.union a b) c ≡ set.union (set.intersection a c) (set.intersection b c)
both_union a b c = same_members (set.intersection (set.union a b) c) (set.union (set.intersection a c) (set.intersection b c)) (λ q.
    in_both (set.union a b) c q ∙ ap (λ x. x && set.contains c q) (in_union a b q)
    ∙ law (set.contains a q) (set.contains b q) (set.contains c q)
    ∙ (λ i. sym (in_both a c q) i || sym (in_both b c q) i) ∙ sym (in_union (set.intersection a c) (set.intersection b c) q))
  where
    law : (a b c : Bool) → ((a || b) && c) ≡ ((a && c) || (b && c))
    law true b true = refl
    law true true false = refl
    law true false false = refl
    law false b c = refl

pub both_less : (a b c : Gtids) → set.intersection (set.difference a b) c ≡ set.difference (set.intersection a c) b
both_less a b c = same_members (set.intersection (set.difference a b) c) (set.difference (set.intersection a c) b) (λ q.
    in_both (set.difference a b) c q ∙ ap (λ x. x && set.contains c q) (in_less a b q)
    ∙ law (set.contains a q) (set.contains b q) (set.contains c q)
    ∙ ap (λ x. x && not (set.contains b q)) (sym (in_both a c q)) ∙ sym (in_less (set.intersection a c) b q))
  where
    law : (a b c : Bool) → ((a && not b) && c) ≡ ((a && c) && not b)
    law true true true = refl
    law true true false = refl
    law true false true = refl
    law true false false = refl
    law false b c = refl
