-- Whether spans are in a set, one after another.
use Rattle.std.proofs.Common.{◌≡◌, ℕ, ◌+◌, ◌≤◌, eqb-true, Bool, true, false, List, [], ◌∷◌, refl, sym, ap, subst, ◌∙◌, arith}
use Rattle.std.specs.Prelude.{◌||◌, ◌&&◌, ◌==◌, nat_le, nat_lt}
use Rattle.std.specs.FinSet as set
use Rattle.std.specs.List.{list_all}
use Rattle.gtid_text.specs.declared.Gtid.{Gtid}
use Rattle.gtid_text.specs.declared.Span.{Span}
use Rattle.gtid_text.specs.Gtids.{gtid_cmp}
use Rattle.gtid_set.specs.Sets.{Gtids, IsRunEnd, covers, gtid, interval}
use Rattle.gtid_set.specs.Spans.{set_of}
use Rattle.gtid_set.proofs.SetLemmas.{contains-interval}
use Rattle.std.proofs.lemmas.Bool.{and_parts, false_from_ne_true, and_from, or_left, or_right}
use Rattle.std.proofs.lemmas.Bool.Decides.{nat_tests}
use Rattle.lemmas.proofs.Tests.{same_bool}
use Rattle.lemmas.proofs.SameGtid.{gtid_total}
use Rattle.lemmas.proofs.Numbers.{le_of_test, lt_of_test, ge_of_test}

within_first : (a b c : Gtids) → set.is_subset (set.union a b) c ≡ true → set.is_subset a c ≡ true
within_first a b c e = set.contains-is_subset gtid_total a c (λ q here. set.is_subset-contains gtid_total (set.union a b) c e q (set.contains-union gtid_total a b q ∙ or_left (set.contains a q) (set.contains b q) here))

within_second : (a b c : Gtids) → set.is_subset (set.union a b) c ≡ true → set.is_subset b c ≡ true
within_second a b c e = set.contains-is_subset gtid_total b c (λ q here. set.is_subset-contains gtid_total (set.union a b) c e q (set.contains-union gtid_total a b q ∙ or_right (set.contains a q) (set.contains b q) here))

one_or_other : (a b c : Bool) → (a ≡ true → c ≡ true) → (b ≡ true → c ≡ true) → (a || b) ≡ true → c ≡ true
one_or_other true b c f g h = f refl
one_or_other false b c f g h = g h

within_both : (a b c : Gtids) → set.is_subset a c ≡ true → set.is_subset b c ≡ true → set.is_subset (set.union a b) c ≡ true
within_both a b c e f = set.contains-is_subset gtid_total (set.union a b) c (λ q there.
    one_or_other (set.contains a q) (set.contains b q) (set.contains c q) (set.is_subset-contains gtid_total a c e q) (set.is_subset-contains gtid_total b c f q) (sym (set.contains-union gtid_total a b q) ∙ there))

within_union : (a b c : Gtids) → set.is_subset (set.union a b) c ≡ (set.is_subset a c && set.is_subset b c)
within_union a b c =
    same_bool (set.is_subset (set.union a b) c) (set.is_subset a c && set.is_subset b c)
    (λ e. and_from _ _ (within_first a b c e) (within_second a b c e))
    (λ e. let parts = and_parts (set.is_subset a c) (set.is_subset b c) e in within_both a b c parts.0 parts.1)

none_left : (whole : Gtids) → set.is_subset set.empty whole ≡ true
none_left whole = set.contains-is_subset gtid_total set.empty whole (λ q here. let none = set.contains-empty gtid_cmp q in absurd cc)

turn : (a b : Bool) → (a && b) ≡ (b && a)
turn a b = grind arith

-- a set has all numbers of an interval
abbrev has_span : Gtids → Span → Bool
has_span whole s = set.is_subset (interval s.source s.lo s.hi) whole

-- intervals are there if each of them is
pub each_within : (whole : Gtids) (ss : List Span) → list_all (has_span whole) ss ≡ set.is_subset (set_of ss) whole
each_within whole [] = sym (none_left whole)
each_within whole (s ∷ ss) =
    ap (λ (b : Bool). has_span whole s && b) (each_within whole ss)
    ∙ turn (has_span whole s) (set.is_subset (set_of ss) whole)
    ∙ sym (within_union (set_of ss) (interval s.source s.lo s.hi) whole)

above : (a b : ℕ) → nat_le a b ≡ false → b + 1 ≤ a
above a b e = grind (arith, nat_tests)

covered : (source lo hi n : ℕ) → lo ≤ n → n ≤ hi → covers source lo hi (gtid source n) ≡ true
covered source lo hi n a b = grind (arith, nat_tests)

-- an interval is there if all its numbers are
pub all_within : (whole : Gtids) (source lo hi : ℕ) → ((n : ℕ) → lo ≤ n → n ≤ hi → set.contains whole (gtid source n) ≡ true) → set.is_subset (interval source lo hi) whole ≡ true
all_within whole source lo hi all = set.contains-is_subset gtid_total (interval source lo hi) whole (λ q here. by q (sym (contains-interval source lo hi q) ∙ here))
  where
    by : (q : Gtid) → covers source lo hi q ≡ true → set.contains whole q ≡ true
    by q e =
        let parts = and_parts (q.source == source) (nat_le lo q.number && nat_le q.number hi) e in
        let bounds = and_parts (nat_le lo q.number) (nat_le q.number hi) parts.1 in
        subst (λ (n : ℕ). set.contains whole (gtid n q.number) ≡ true) (sym (eqb-true q.source source parts.0)) (all q.number (le_of_test lo q.number bounds.0) (le_of_test q.number hi bounds.1))

-- one of which a number is missing is not
pub missing : (whole : Gtids) (source lo hi n : ℕ) → lo ≤ n → n ≤ hi → set.contains whole (gtid source n) ≡ false → set.is_subset (interval source lo hi) whole ≡ false
missing whole source lo hi n a b none =
    false_from_ne_true _ (λ e.
    let there = set.is_subset-contains gtid_total (interval source lo hi) whole e (gtid source n) (contains-interval source lo hi (gtid source n) ∙ covered source lo hi n a b) in
    cc)

-- as a run of numbers says
pub run_within : (whole : Gtids) (source lo hi last : ℕ) (b : Bool) → IsRunEnd whole source lo last → b ≡ nat_le hi last → b ≡ set.is_subset (interval source lo hi) whole
run_within whole source lo hi last true run e =
    let reach = le_of_test hi last (sym e) in
    sym (all_within whole source lo hi (λ n from near. run.all n from (omega (arith, near, reach))))
run_within whole source lo hi last false run e =
    let reaches = run.reaches in
    let past : last + 1 ≤ hi = above hi last (sym e) in
    sym (missing whole source lo hi (last + 1) (omega (arith, reaches)) past run.ended)

-- or that the first number is missing
pub none_within : (whole : Gtids) (source lo hi : ℕ) (b : Bool) → set.contains whole (gtid source lo) ≡ false → b ≡ nat_lt hi lo → b ≡ set.is_subset (interval source lo hi) whole
none_within whole source lo hi true none e =
    let turned = lt_of_test hi lo (sym e) in
    sym (all_within whole source lo hi (λ n from near. absurd (omega (arith, turned, from, near))))
none_within whole source lo hi false none e = sym (missing whole source lo hi lo (omega arith) (ge_of_test hi lo (sym e)) none)
