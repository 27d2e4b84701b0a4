-- Nothing is left out of journals that bring the numbers of each source one after another.
use Rattle.std.proofs.Common.{◌≡◌, ℕ, zero, suc, ◌+◌, ◌-◌, ◌&&◌, ◌||◌, Bool, [], ◌∷◌, length, get_or, ◌<◌, ◌≤◌, true, false, not, inl, inr, List, take, Option, Some, None, refl, sym, ap, ◌∙◌, subst, arith}
use Rattle.std.specs.Prelude.{slice_get, nat_lt, ◌==◌}
use Rattle.std.specs.List.{range_with_len}
use Rattle.std.specs.FinMap as finmap
use Rattle.std.specs.FinSet as set
use Rattle.std.proofs.lemmas.Bool.{eqb-true, or_cases, or_left, or_right, and_parts, not-true, false_from_ne_true}
use Rattle.gtid_text.specs.declared.Gtid.{Gtid}
use Rattle.gtid_set.specs.Sets.{Gtids, gtid}
use Rattle.rows.specs.declared.change.Transaction.{Transaction}
use Rattle.rows.specs.Conflicts.{conflicts}
use Rattle.journal.specs.declared.Entry.{Entry}
use Rattle.journal.specs.Journals.{JournalValue}
use Rattle.history.specs.Sources.{World, content, is_opened}
use Rattle.history.specs.Sources as history
use Rattle.world.specs.declared.verdict.Verdict.TheVariants.{Missing, NotClosed}
use Rattle.world.specs.Search.{or_next}
use Rattle.world.specs.Audit.{all_entries, world_of, is_recorded_in, is_recorded_before, is_absent, below, present, unequal, purged, missing, found_in_gtids, is_left_out, shared, not_closed}
use Rattle.world.specs.Cases.{IsMissing}
use Rattle.world.proofs.Finding.{none_next, none_when, none_first}
use Rattle.world.proofs.Contents.{entry_at, entry_from, in_all, of_all, at_content, contents_entry}
use Rattle.audit.specs.Ordered.{is_there, AreBelow, IsInOrder, AreInOrder, AreTops, IsTopOrNext}
use Rattle.audit.specs.Worlds.{LieBeyond}
use Rattle.std.proofs.lemmas.Option.{same_Some}
use Rattle.lemmas.proofs.Numbers.{lt_cases, lt_of_test}
use Rattle.lemmas.proofs.Tests.{not_both}
use Rattle.lemmas.proofs.Lists.{get_take, all_at, taken, range_above, get_map_cases}

-- ---- one entry more

pub get_here : {A : Type 0} (xs : List A) (k : ℕ) (x : A) → k < length xs → x ≡ get_or xs k x → slice_get xs k ≡ Some x
get_here [] k x l e = absurd (omega arith)
get_here (y ∷ xs) zero x l e = ap Some (sym e)
get_here (y ∷ xs) (suc k) x l e = get_here xs k x (omega arith) e

lt_more : (a b : ℕ) → a < b → a < b + 1
lt_more a b l = omega arith

module _ (opened : Gtids) (es : List Entry) (i : ℕ) where
  stays : (g : Gtid) → is_there opened (take i es) g ≡ true → is_there opened (take (i + 1) es) g ≡ true
  stays g h = elim (or_cases (set.contains opened g) (is_recorded_in (take i es) g) h) [
    | inl p ↦ or_left (set.contains opened g) (is_recorded_in (take (i + 1) es) g) p
    | inr e ↦
        let a = entry_at (take i es) g e in
        let b = taken es i a.0 a.1 a.2 in
        or_right (set.contains opened g) (is_recorded_in (take (i + 1) es) g)
        (subst (λ (x : Gtid). is_recorded_in (take (i + 1) es) x ≡ true) a.3 (entry_from (take (i + 1) es) a.0 a.1 (get_take es (i + 1) a.0 a.1 b.0 (lt_more a.0 i b.1))))
  ]

  itself : i < i + 1
  itself = omega arith

  module _ (e : Entry) (here : slice_get es i ≡ Some e) where
    arrives : is_there opened (take (i + 1) es) e.gtid ≡ true
    arrives = or_right (set.contains opened e.gtid) (is_recorded_in (take (i + 1) es) e.gtid) (entry_from (take (i + 1) es) i e (get_take es (i + 1) i e here itself))

    below_stays : (source number : ℕ) → AreBelow opened (take i es) source number → AreBelow opened (take (i + 1) es) source number
    below_stays source number below n p l = stays (gtid source n) (below n p l)

    pub tops_stay : (tops : List (ℕ × ℕ)) → AreTops opened (take i es) tops → AreTops opened (take (i + 1) es) tops
    tops_stay tops are source top at = below_stays source (top + 1) (are source top at)

    module _ (before next : Gtid) (source : before.source ≡ e.gtid.source) (up : IsTopOrNext before e.gtid.number next) (below : AreBelow opened (take i es) before.source (before.number + 1)) where
      -- what the entry needs is there
      pub entry_below : AreBelow opened (take i es) e.gtid.source e.gtid.number
      entry_below n p l = subst (λ s. is_there opened (take i es) (gtid s n) ≡ true) source (below n p (less n e.gtid.number (before.number + 1) l up.near))
        where
          less : (a b c : ℕ) → a < b → b ≤ c → a < c
          less a b c l m = omega arith

      earlier : (n : ℕ) → 0 < n → n < before.number + 1 → is_there opened (take (i + 1) es) (gtid next.source n) ≡ true
      earlier n p l = subst (λ s. is_there opened (take (i + 1) es) (gtid s n) ≡ true) (sym up.source) (below_stays before.source (before.number + 1) below n p l)

      arrived : (n : ℕ) → n ≡ e.gtid.number → is_there opened (take (i + 1) es) (gtid next.source n) ≡ true
      arrived n same =
          let is : e.gtid ≡ gtid next.source n = λ k. record { source = (sym source ∙ sym up.source) k; number = sym same k } in
          subst (λ (g : Gtid). is_there opened (take (i + 1) es) g ≡ true) is arrives

      pub next_below : AreBelow opened (take (i + 1) es) next.source (next.number + 1)
      next_below n p l = elim up.raised [
        | inl same ↦ earlier n p (subst (λ m. n < m + 1) same l)
        | inr more ↦ elim (lt_cases n (before.number + 1) (subst (λ m. n < m + 1) more.0 l)) [
          | inl low ↦ earlier n p low
          | inr top ↦ arrived n (top ∙ sym more.1)
        ]
      ]

    pub so_far_more : ((place : ℕ) (x : Entry) → place < i → slice_get es place ≡ Some x → AreBelow opened (take place es) x.gtid.source x.gtid.number)
        → AreBelow opened (take i es) e.gtid.source e.gtid.number
        → (place : ℕ) (x : Entry) → place < i + 1 → slice_get es place ≡ Some x → AreBelow opened (take place es) x.gtid.source x.gtid.number
    so_far_more before now place x l at = elim (lt_cases place i l) [
      | inl low ↦ before place x low at
      | inr same ↦
          let is : e ≡ x = same_Some e x (sym here ∙ (ap (slice_get es) (sym same) ∙ at)) in
          subst (λ (y : Entry). AreBelow opened (take place es) y.gtid.source y.gtid.number) is (subst (λ k. AreBelow opened (take k es) e.gtid.source e.gtid.number) (sym same) now)
    ]

-- ---- nothing is left out

module _ (world : World) (beyond : LieBeyond world.opening_set world.contents) (journals : List JournalValue) where
  none_left : (j : JournalValue) → IsInOrder world.opening_set j.entries → (place : ℕ) (e : Entry) → slice_get j.entries place ≡ Some e
      → (l : ℕ) (h : history.Entry) → slice_get (finmap.entries world.contents) l ≡ Some h → is_left_out world j place e h ≡ false
  none_left j ordered place e he l h hl = false_from_ne_true (is_left_out world j place e h) (λ t.
      let a = and_parts (not (is_opened world e.gtid)) _ t in
      let b = and_parts (h.0.source == e.gtid.source) _ a.1 in
      let c = and_parts (nat_lt h.0.number e.gtid.number) _ b.1 in
      let d = and_parts (conflicts world.schema h.1 e.txn) (not (is_recorded_before j place h.0)) c.1 in
      let at = at_content world l h hl in
      let there = ordered place e he h.0.number (beyond.from_one h.0 h.1 at) (lt_of_test h.0.number e.gtid.number c.0) in
      let is : gtid e.gtid.source h.0.number ≡ h.0 = λ k. record { source = sym (eqb-true h.0.source e.gtid.source b.0) k; number = h.0.number } in
      stands h.0 h.1 at (subst (λ (g : Gtid). is_there world.opening_set (take place j.entries) g ≡ true) is there) (not-true (is_recorded_before j place h.0) d.1))
    where
      stands : (g : Gtid) (t : Transaction) → content world g ≡ Some t → is_there world.opening_set (take place j.entries) g ≡ true → is_recorded_before j place g ≡ false → ⊥
      stands g t at there not_before = elim (or_cases (is_opened world g) (is_recorded_in (take place j.entries) g) there) [
        | inl p ↦ not_both (is_opened world g) p (beyond.outside g t at)
        | inr q ↦ not_both (is_recorded_before j place g) (or_right (set.contains j.previous g) (is_recorded_in (take place j.entries) g) q) not_before
      ]

  -- where journals are in order nothing is left out of them
  pub order_closes : AreInOrder world.opening_set journals → not_closed world journals ≡ None
  order_closes ordered = none_first _ journals (λ i j hj. none_first _ j.entries (λ place e he. none_first _ (finmap.entries world.contents) (λ l h hl.
      none_when (is_left_out world j place e h) (NotClosed e.gtid h.0) (none_left j (all_at (λ (x : JournalValue). IsInOrder world.opening_set x.entries) journals i j ordered hj) place e he l h hl))))

first_alone : {B : Type 0} (o p : Option B) → p ≡ None → o ≡ or_next o p
first_alone (Some x) p e = refl
first_alone None p e = sym e

pub only_shared : (world : World) (journals : List JournalValue) → LieBeyond world.opening_set world.contents → AreInOrder world.opening_set journals
    → shared world ≡ or_next (shared world) (not_closed world journals)
only_shared world journals beyond ordered = first_alone (shared world) (not_closed world journals) (order_closes world beyond journals ordered)

-- ---- nothing is missing

module _ (world : World) (journals : List JournalValue) (ordered : AreInOrder world.opening_set journals) where
  -- a lower number than that of an entry is there
  pub none_absent : (g h : Gtid) → is_recorded_in (all_entries journals) g ≡ true → h.source ≡ g.source → 0 < h.number → h.number < g.number → (is_opened world h || is_recorded_in (all_entries journals) h) ≡ true
  none_absent g h stands source positive less =
      let a = in_all journals g stands in
      let b = entry_at a.1.entries g a.3 in
      let in_order = all_at (λ (x : JournalValue). IsInOrder world.opening_set x.entries) journals a.0 a.1 ordered a.2 in
      let is : gtid b.1.gtid.source h.number ≡ h = λ k. record { source = (ap (λ (x : Gtid). x.source) b.3 ∙ sym source) k; number = h.number } in
      let there = in_order b.0 b.1 b.2 h.number positive (subst (λ (x : Gtid). h.number < x.number) (sym b.3) less) in
      elim (or_cases (is_opened world h) (is_recorded_in (take b.0 a.1.entries) h) (subst (λ (x : Gtid). is_there world.opening_set (take b.0 a.1.entries) x ≡ true) is there)) [
        | inl p ↦ or_left (is_opened world h) (is_recorded_in (all_entries journals) h) p
        | inr q ↦
            let c = entry_at (take b.0 a.1.entries) h q in
            let d = taken a.1.entries b.0 c.0 c.1 c.2 in
            or_right (is_opened world h) (is_recorded_in (all_entries journals) h)
            (of_all journals a.0 a.1 h a.2 (subst (λ (x : Gtid). is_recorded_in a.1.entries x ≡ true) c.3 (entry_from a.1.entries c.0 c.1 d.0)))
      ]

  not_absent : (a b : Bool) → (a || b) ≡ true → (not a && not b) ≡ false
  not_absent true b e = refl
  not_absent false b e = ap not e

  -- where journals are in order nothing is missing
  pub order_misses_none : missing world journals ≡ None
  order_misses_none = none_first _ (present world journals) (λ i g hi. none_first _ (below g.0) (λ k h hk.
      let r = get_map_cases (gtid g.0.source) (range_with_len 1 (g.0.number - 1)) k h hk in
      let q = range_above 1 (g.0.number - 1) k r.0 r.1 in
      let n : r.0 ≡ h.number = ap (λ (x : Gtid). x.number) r.2 in
      let there = at_content (world_of world.schema world.opening_set world.opening_rows journals) i g hi in
      none_when (is_absent world journals h) (Missing h) (not_absent (is_opened world h) (is_recorded_in (all_entries journals) h)
      (none_absent g.0 h (contents_entry world.opening_set (all_entries journals) g.0 g.1 there) (ap (λ (x : Gtid). x.source) (sym r.2)) (positive r.0 h.number n q.0) (less r.0 h.number g.0.number n q.1 q.0)))))
    where
      positive : (a b : ℕ) → a ≡ b → 1 ≤ a → 0 < b
      positive a b e l = omega arith

      less : (a b n : ℕ) → a ≡ b → a < 1 + (n - 1) → 1 ≤ a → b < n
      less a b n e l m = omega arith

  -- no GTID is missing
  pub none_missing : (g : Gtid) → IsMissing world journals g → ⊥
  none_missing g m =
      not_both (is_opened world g || is_recorded_in (all_entries journals) g) (none_absent m.greater g m.there (sym m.same) m.positive m.below)
      (ap (λ b. b || is_recorded_in (all_entries journals) g) m.new ∙ m.absent)

-- ---- where nothing is unequal or purged either

pub none_in_gtids : (world : World) (journals : List JournalValue) → AreInOrder world.opening_set journals → unequal world journals ≡ None → purged world journals ≡ None → None ≡ found_in_gtids world journals
none_in_gtids world journals ordered equal within =
    sym (none_next (unequal world journals) (or_next (purged world journals) (missing world journals)) equal (none_next (purged world journals) (missing world journals) within (order_misses_none world journals ordered)))
