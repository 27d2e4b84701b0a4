-- The gaps of a set, by its runs.
use Rattle.std.proofs.Common.{◌≡◌, ℕ, ◌<◌, ◌≤◌, Bool, true, false, not, ◌&&◌, ◌||◌, List, [], ◌∷◌, refl, sym, ap, subst, ◌∙◌, arith}
use Rattle.std.specs.Prelude.{nat_le, Ok}
use Rattle.std.specs.List.{list_any, list_all}
use Rattle.std.specs.FinSet as set
use Rattle.std.proofs.lemmas.Bool.Decides.{nat_tests}
use Rattle.std.proofs.lemmas.Bool.{or_left, or_right}
use Rattle.lemmas.proofs.SameGtid.{gtid_total}
use Rattle.lemmas.proofs.Tests.{or_flat, or_false}
use Rattle.gtid_text.specs.Gtids.{gtid_cmp}
use Rattle.gtid_text.specs.declared.Gtid.{Gtid}
use Rattle.gtid_text.specs.declared.Span.{Span}
use Rattle.gtid_set.specs.Sets.{Gtids, gtid, interval, covers}
use Rattle.gtid_set.specs.Spans.{has, is_merged, is_before}
use Rattle.gtid_set.specs.Runs.{runs}
use Rattle.gtid_set.proofs.SetLemmas.{contains-interval, contains-set_of}
use Rattle.gtid_set.proofs.RunLemmas.{runs_are_merged, set_of_runs}
use Rattle.gtid_report.specs.SetAnswers.{small}
use Rattle.server_states.specs.States.{whole, fill_intervals, gaps, IsGap}
use Rattle.server_states.proofs.Kept.{made, same_ok, small_kept, whole_kept}

-- one of the spans ends there or later
abbrev reaches : List Span → Gtid → Bool
reaches rs g = list_any (λ r. covers r.source 1 r.hi g) rs

filled_has : (rs : List Span) (before all : Gtids) (g : Gtid) → fill_intervals before rs ≡ Ok all → set.contains all g ≡ (set.contains before g || reaches rs g)
filled_has [] before all g e = ap (λ s. set.contains s g) (sym (same_ok (Ok before) before all refl e)) ∙ or_false (set.contains before g)
filled_has (r ∷ rs) before all g e =
    let first = made (whole (set.union before (interval r.source 1 r.hi))) (λ more. fill_intervals more rs) all e in
    filled_has rs first.from all g first.then_rest
    ∙ ap (λ s. set.contains s g || reaches rs g) (sym (whole_kept _ first.from first.first))
    ∙ ap (λ x. x || reaches rs g) (set.contains-union gtid_total before (interval r.source 1 r.hi) g ∙ ap (λ x. set.contains before g || x) (contains-interval r.source 1 r.hi g))
    ∙ or_flat (set.contains before g) (covers r.source 1 r.hi g) (reaches rs g)

-- a span that ends there or after has its end
record Reached (rs : List Span) (g : Gtid) : Type 0 where
  last : ℕ
  above : 1 ≤ g.number
  below : g.number ≤ last
  there : has rs (gtid g.source last) ≡ true

covered : (r : Span) (g : Gtid) → covers r.source 1 r.hi g ≡ true → (g.source ≡ r.source) × ((1 ≤ g.number) × (g.number ≤ r.hi))
covered r g e = grind (arith, nat_tests)

end_there : (r : Span) (source : ℕ) → source ≡ r.source → r.lo ≤ r.hi → covers r.source r.lo r.hi (gtid source r.hi) ≡ true
end_there r source e f = grind (arith, nat_tests)

first_filled : (r : Span) (rs : List Span) → is_merged (r ∷ rs) ≡ true → (r.lo ≤ r.hi) × (is_merged rs ≡ true)
first_filled r rs e = parts (nat_le r.lo r.hi) (list_all (is_before r) rs) (is_merged rs) refl e
  where
    parts : (a b c : Bool) → nat_le r.lo r.hi ≡ a → (a && (b && c)) ≡ true → (r.lo ≤ r.hi) × (c ≡ true)
    parts true true true f e = (grind (arith, nat_tests), refl)
    parts true true false f e = absurd cc
    parts true false c f e = absurd cc
    parts false b c f e = absurd cc

reached_first : (r : Span) (rs : List Span) (g : Gtid) → is_merged (r ∷ rs) ≡ true → (b : Bool) → covers r.source 1 r.hi g ≡ b → (b || reaches rs g) ≡ true → (reaches rs g ≡ true → Reached rs g) → Reached (r ∷ rs) g
reached_first r rs g m true f e more =
    let c = covered r g f in
    record { last = r.hi; above = c.1.0; below = c.1.1; there = or_left _ _ (end_there r g.source c.0 (first_filled r rs m).0) }
reached_first r rs g m false f e more =
    let rest = more e in
    record { last = rest.last; above = rest.above; below = rest.below; there = or_right _ _ rest.there }

reached : (rs : List Span) (g : Gtid) → is_merged rs ≡ true → reaches rs g ≡ true → Reached rs g
reached [] g m e = absurd cc
reached (r ∷ rs) g m e = reached_first r rs g m (covers r.source 1 r.hi g) refl e (λ more. reached rs g (first_filled r rs m).1 more)

covers_too : (r : Span) (g : Gtid) (last : ℕ) → 1 ≤ g.number → g.number ≤ last → covers r.source r.lo r.hi (gtid g.source last) ≡ true → covers r.source 1 r.hi g ≡ true
covers_too r g last a b e = grind (arith, nat_tests)

reaches_first : (r : Span) (rs : List Span) (g : Gtid) (last : ℕ) → 1 ≤ g.number → g.number ≤ last → (x : Bool) → covers r.source r.lo r.hi (gtid g.source last) ≡ x → (x || has rs (gtid g.source last)) ≡ true → (has rs (gtid g.source last) ≡ true → reaches rs g ≡ true) → reaches (r ∷ rs) g ≡ true
reaches_first r rs g last a b true f e more = or_left _ _ (covers_too r g last a b f)
reaches_first r rs g last a b false f e more = or_right _ _ (more e)

reaches_too : (rs : List Span) (g : Gtid) (last : ℕ) → 1 ≤ g.number → g.number ≤ last → has rs (gtid g.source last) ≡ true → reaches rs g ≡ true
reaches_too [] g last a b e = absurd cc
reaches_too (r ∷ rs) g last a b e = reaches_first r rs g last a b (covers r.source r.lo r.hi (gtid g.source last)) refl e (λ more. reaches_too rs g last a b more)

in_runs : (s : Gtids) (g : Gtid) → set.contains s g ≡ has (runs s) g
in_runs s g = ap (λ t. set.contains t g) (sym (set_of_runs s)) ∙ contains-set_of (runs s) g

gap_is : (s r : Gtids) (g : Gtid) → gaps s ≡ Ok r → set.contains r g ≡ (reaches (runs s) g && not (set.contains s g))
gap_is s r g e =
    let all = made (fill_intervals set.empty (runs s)) (λ t. small (set.difference t s)) r e in
    ap (λ t. set.contains t g) (sym (small_kept _ r all.then_rest))
    ∙ set.contains-difference gtid_total all.from s g
    ∙ ap (λ x. x && not (set.contains s g)) (filled_has (runs s) set.empty all.from g all.first ∙ ap (λ x. x || reaches (runs s) g) (set.contains-empty gtid_cmp g))

both : (a b : Bool) → (a && not b) ≡ true → (a ≡ true) × (b ≡ false)
both true false e = (refl, refl)
both true true e = absurd cc
both false b e = absurd cc

-- a number that is not there is not the last one that is
not_last : (s : Gtids) (g : Gtid) (last : ℕ) → g.number ≤ last → set.contains s g ≡ false → set.contains s (gtid g.source last) ≡ true → g.number < last
not_last s g last a e f = by_test (nat_le last g.number) refl
  where
    by_test : (b : Bool) → nat_le last g.number ≡ b → g.number < last
    by_test false h = grind (arith, nat_tests)
    by_test true h =
        let same : last ≡ g.number = grind (arith, nat_tests) in
        let there : set.contains s g ≡ true = subst (λ n. set.contains s (gtid g.source n) ≡ true) same f in
        absurd cc

pub gap_only : (s r : Gtids) (g : Gtid) → gaps s ≡ Ok r → set.contains r g ≡ true → IsGap s g
gap_only s r g e h =
    let parts = both (reaches (runs s) g) (set.contains s g) (sym (gap_is s r g e) ∙ h) in
    let at = reached (runs s) g (runs_are_merged s) parts.0 in
    let there = in_runs s (gtid g.source at.last) ∙ at.there in
    record { missing = parts.1; above = at.above; last = at.last; below = not_last s g at.last at.below parts.1 there; there = there }

pub gap_all : (s r : Gtids) (g : Gtid) → gaps s ≡ Ok r → IsGap s g → set.contains r g ≡ true
gap_all s r g e h =
    let reaches_it = reaches_too (runs s) g h.last h.above (omega (h.below, arith)) (sym (in_runs s (gtid g.source h.last)) ∙ h.there) in
    gap_is s r g e ∙ (λ i. reaches_it i && not (h.missing i))
