-- The GTIDs of several journals together.
use Rattle.std.proofs.Common.{◌≡◌, Bool, true, false, ◌||◌, List, [], ◌∷◌, refl, sym, ap, ◌∙◌}
use Rattle.std.specs.FinSet as set
use Rattle.lemmas.proofs.SameGtid.{gtid_total}
use Rattle.gtid_set.specs.Sets.{Gtids}
use Rattle.gtid_set.proofs.LawLemmas.{union_swap, union_group}
use Rattle.gtid_set.proofs.SetLemmas.{same_members}
use Rattle.journal.specs.Journals.{JournalValue, whole}
use Rattle.convergence.specs.Deciding.{all_of}

-- a set that is joined first
pub all_more : (s a : Gtids) (js : List JournalValue) → all_of (set.union s a) js ≡ set.union a (all_of s js)
all_more s a [] = union_swap s a
all_more s a (j ∷ js) =
    ap (set.union (whole j)) (all_more s a js)
    ∙ sym (union_group (whole j) a (all_of s js))
    ∙ ap (λ t. set.union t (all_of s js)) (union_swap (whole j) a)
    ∙ union_group a (whole j) (all_of s js)

-- a set that is within it adds nothing
pub union_within : (s p : Gtids) → set.is_subset p s ≡ true → set.union s p ≡ s
union_within s p within = same_members (set.union s p) s (λ q. set.contains-union gtid_total s p q ∙ law (set.contains s q) (set.contains p q) (set.is_subset-contains gtid_total p s within q))
  where
    law : (a b : Bool) → (b ≡ true → a ≡ true) → (a || b) ≡ a
    law true b h = refl
    law false true h = sym (h refl)
    law false false h = refl
