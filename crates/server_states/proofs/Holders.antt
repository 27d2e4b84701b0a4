-- How many servers have a GTID, counted along the sets.
use Rattle.std.proofs.Common.{◌≡◌, ℕ, ◌+◌, Bool, true, false, ◌&&◌, ◌||◌, List, [], ◌∷◌, refl, sym, ap, subst, ◌∙◌, arith}
use Rattle.std.specs.Prelude.{nat_le, Ok, if◌then◌else◌}
use Rattle.std.specs.FinSet as set
use Rattle.std.proofs.lemmas.Bool.Decides.{nat_tests}
use Rattle.lemmas.proofs.SameGtid.{gtid_total}
use Rattle.lemmas.proofs.Tests.{or_none}
use Rattle.gtid_text.specs.Gtids.{gtid_cmp}
use Rattle.gtid_text.specs.declared.Gtid.{Gtid}
use Rattle.gtid_set.specs.Sets.{Gtids}
use Rattle.gtid_report.specs.SetAnswers.{◌>>=◌, small}
use Rattle.server_states.specs.Servers.{ServerValue}
use Rattle.server_states.specs.States.{TogetherValue, none, whole, with_set, with_servers, holders}
use Rattle.server_states.proofs.Kept.{made, same_ok, small_kept, whole_kept}

-- so many have it of those that were gone through
pub record Counts (t : TogetherValue) (g : Gtid) (n : ℕ) : Type 0 where
  pub all : set.contains t.all g ≡ nat_le 1 n
  pub shared : set.contains t.shared g ≡ nat_le 2 n

-- what one set more makes
record Joins (t : TogetherValue) (s : Gtids) (u : TogetherValue) : Type 0 where
  all : u.all ≡ set.union t.all s
  shared : u.shared ≡ set.union t.shared (set.intersection t.all s)

joins : (t : TogetherValue) (s : Gtids) (u : TogetherValue) → with_set t s ≡ Ok u → Joins t s u
joins t s u e =
    let again = made (small (set.intersection t.all s)) (λ x. whole (set.union t.shared x) >>= λ shared. whole (set.union t.all s) >>= λ all. Ok (record { all = all; shared = shared })) u e in
    let shared = made (whole (set.union t.shared again.from)) (λ x. whole (set.union t.all s) >>= λ all. Ok (record { all = all; shared = x })) u again.then_rest in
    let all = made (whole (set.union t.all s)) (λ x. Ok (record { all = x; shared = shared.from })) u shared.then_rest in
    let same = same_ok (Ok (record { all = all.from; shared = shared.from })) (record { all = all.from; shared = shared.from }) u refl all.then_rest in
    record {
      all = sym (ap (λ (t : TogetherValue). t.all) same) ∙ sym (whole_kept _ all.from all.first);
      shared = sym (ap (λ (t : TogetherValue). t.shared) same) ∙ sym (whole_kept _ shared.from shared.first) ∙ ap (set.union t.shared) (sym (small_kept _ again.from again.first));
    }

-- one holder more, or not
one_more : (a h s : Bool) (n : ℕ) → a ≡ nat_le 1 n → (a || true) ≡ nat_le 1 (n + 1)
one_more a h s n e = grind (arith, nat_tests)

two_more : (n : ℕ) → (nat_le 2 n || (nat_le 1 n && true)) ≡ nat_le 2 (n + 1)
two_more n = grind (arith, nat_tests)

and_false : (a b : Bool) → (a || (b && false)) ≡ a
and_false true b = refl
and_false false true = refl
and_false false false = refl

stepped : (t : TogetherValue) (s : Gtids) (u : TogetherValue) (g : Gtid) (n : ℕ) (b : Bool) → Counts t g n → Joins t s u → set.contains s g ≡ b → Counts u g (if b then n + 1 else n)
stepped t s u g n true c j e =
    record {
      all = ap (λ x. set.contains x g) j.all ∙ set.contains-union gtid_total t.all s g ∙ (λ i. c.all i || e i) ∙ one_more (nat_le 1 n) true true n refl;
      shared = ap (λ x. set.contains x g) j.shared ∙ set.contains-union gtid_total t.shared (set.intersection t.all s) g ∙ ap (λ x. set.contains t.shared g || x) (set.contains-intersection gtid_total t.all s g) ∙ (λ i. c.shared i || (c.all i && e i)) ∙ two_more n;
    }
stepped t s u g n false c j e =
    record {
      all = ap (λ x. set.contains x g) j.all ∙ set.contains-union gtid_total t.all s g ∙ (λ i. c.all i || e i) ∙ or_none (nat_le 1 n);
      shared = ap (λ x. set.contains x g) j.shared ∙ set.contains-union gtid_total t.shared (set.intersection t.all s) g ∙ ap (λ x. set.contains t.shared g || x) (set.contains-intersection gtid_total t.all s g) ∙ (λ i. c.shared i || (c.all i && e i)) ∙ and_false (nat_le 2 n) (nat_le 1 n);
    }

total : (b : Bool) (n h : ℕ) → ((if b then n + 1 else n) + h) ≡ (n + (if b then h + 1 else h))
total true n h = omega arith
total false n h = refl

counted : (ss : List ServerValue) (t u : TogetherValue) (g : Gtid) (n : ℕ) → Counts t g n → with_servers t ss ≡ Ok u → Counts u g (n + holders g ss)
counted [] t u g n c e = subst (λ x. Counts x g (n + 0)) (same_ok (Ok t) t u refl e) (subst (λ k. Counts t g k) (omega arith) c)
counted (s ∷ ss) t u g n c e =
    let first = made (with_set t s.executed) (λ more. with_servers more ss) u e in
    let b = set.contains s.executed g in
    let here = stepped t s.executed first.from g n b c (joins t s.executed first.from first.first) refl in
    subst (λ k. Counts u g k) (total b n (holders g ss)) (counted ss first.from u g (if b then n + 1 else n) here first.then_rest)

pub counted_all : (ss : List ServerValue) (t : TogetherValue) (g : Gtid) → with_servers none ss ≡ Ok t → Counts t g (holders g ss)
counted_all ss t g e = subst (λ n. Counts t g n) (omega arith) (counted ss none t g 0 (record { all = set.contains-empty gtid_cmp g; shared = set.contains-empty gtid_cmp g }) e)
