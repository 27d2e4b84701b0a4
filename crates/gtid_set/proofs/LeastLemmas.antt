-- The least number that passes a test, after a run of numbers that fail.
use Rattle.std.proofs.Common.{◌≡◌, ◌≤◌, ◌<◌, ◌+◌, ◌-◌, ℕ, zero, suc, Bool, true, false, not, cond, sym, ap, ◌∙◌, arith, List}
use Rattle.std.specs.Prelude.{Some, None}
use Rattle.std.specs.FinSet as set
use Rattle.gtid_text.specs.declared.Span.{Span}
use Rattle.gtid_set.specs.Sets.{Gtids, gtid, least_number, least_unused}
use Rattle.gtid_set.specs.Spans.{set_of, has}
use Rattle.gtid_set.specs.Sweep.{HasSpan}
use Rattle.gtid_set.proofs.SetLemmas.{least_from, least_first, least_next, least_none, greatest_is, is_unused, contains-set_of}

least_skip : (test : ℕ → Bool) (a k n : ℕ) → ((m : ℕ) → a ≤ m → m < a + k → test m ≡ false) → least_from test a (k + n) ≡ least_from test (a + k) n
least_skip test a zero n h = (λ i. least_from test (same a i) (none n i))
  where
    same : (a : ℕ) → a ≡ a + 0
    same a = omega arith

    none : (n : ℕ) → 0 + n ≡ n
    none n = omega arith
least_skip test a (suc k) n h =
    least_next test a (k + n) (suc k + n) (omega arith)
    ∙ ap (λ b. cond b (Some a) (least_from test (a + 1) (k + n))) (h a (omega arith) (omega arith))
    ∙ least_skip test (a + 1) k n (λ m lo hi. h m (omega arith) (omega arith))
    ∙ ap (λ m. least_from test m n) (next a k)
  where
    next : (a k : ℕ) → a + 1 + k ≡ a + suc k
    next a k = omega arith

pub least_behind : (test : ℕ → Bool) (h : ℕ) → h < 9223372036854775807 → ((m : ℕ) → 1 ≤ m → m ≤ h → test m ≡ false) → test (h + 1) ≡ true → least_number test ≡ Some (h + 1)
least_behind test h below fails passes =
    least_first test ∙ ap (least_from test 1) (greatest_is ∙ split)
    ∙ least_skip test 1 h (9223372036854775807 - h) (λ m lo hi. fails m lo (omega arith))
    ∙ least_next test (1 + h) (9223372036854775806 - h) (9223372036854775807 - h) (omega arith)
    ∙ ap (λ n. cond (test n) (Some n) (least_from test (1 + h + 1) (9223372036854775806 - h))) next
    ∙ ap (λ b. cond b (Some (h + 1)) (least_from test (1 + h + 1) (9223372036854775806 - h))) passes
  where
    split : 9223372036854775807 ≡ h + (9223372036854775807 - h)
    split = omega arith

    next : 1 + h ≡ h + 1
    next = omega arith

pub least_nowhere : (test : ℕ → Bool) → ((m : ℕ) → 1 ≤ m → m ≤ 9223372036854775807 → test m ≡ false) → least_number test ≡ None
least_nowhere test fails =
    least_first test ∙ ap (least_from test 1) (greatest_is ∙ split)
    ∙ least_skip test 1 9223372036854775807 0 (λ m lo hi. fails m lo (omega arith))
    ∙ least_none test (1 + 9223372036854775807)
  where
    split : 9223372036854775807 ≡ 9223372036854775807 + 0
    split = omega arith

-- the test of a kept list's set
unused_held : (items spans : List Span) (s : Gtids) (source n : ℕ) (b : Bool) → spans ≡ items → set_of items ≡ s → has spans (gtid source n) ≡ b → is_unused s source n ≡ not b
unused_held items spans s source n b e view h =
    ap not (ap (λ s. set.contains s (gtid source n)) (sym view) ∙ contains-set_of items (gtid source n) ∙ ap (λ ss. has ss (gtid source n)) (sym e) ∙ h)

pub unused_first : (items spans : List Span) (s : Gtids) (source : ℕ) → spans ≡ items → set_of items ≡ s → has spans (gtid source 1) ≡ false → Some 1 ≡ least_unused s source
unused_first items spans s source e view none =
    sym (least_behind (is_unused s source) 0 (omega arith) (λ m lo hi. absurd (omega arith)) (unused_held items spans s source 1 false e view none))

pub unused_behind : (items spans : List Span) (s : Gtids) (source : ℕ) (t : Span) → spans ≡ items → set_of items ≡ s → HasSpan spans (gtid source 1) t → t.hi < 9223372036854775807 → Some (t.hi + 1) ≡ least_unused s source
unused_behind items spans s source t e view held below =
    sym (least_behind (is_unused s source) t.hi below
    (λ m lo hi. unused_held items spans s source m true e view (held.all m lo hi)) (unused_held items spans s source (t.hi + 1) false e view held.ended))

pub unused_nowhere : (items spans : List Span) (s : Gtids) (source : ℕ) (t : Span) → spans ≡ items → set_of items ≡ s → HasSpan spans (gtid source 1) t → 9223372036854775807 ≤ t.hi → None ≡ least_unused s source
unused_nowhere items spans s source t e view held over =
    sym (least_nowhere (is_unused s source) (λ m lo hi. unused_held items spans s source m true e view (held.all m lo (omega arith))))
