-- What the verdicts name is the least, or the first, of its kind.
use Rattle.std.proofs.Common.{◌≡◌, ℕ, zero, suc, ◌+◌, ◌-◌, ◌<◌, true, not, ◌&&◌, inl, inr, List, [], ◌∷◌, ◌++◌, length, Some, None, refl, sym, ap, ◌∙◌, subst, arith}
use Rattle.std.specs.Prelude.{slice_get, nat_lt}
use Rattle.std.specs.List.{range_with_len}
use Rattle.std.specs.FinMap as finmap
use Rattle.std.specs.declared.cmp.Ordering.{Ordering}
use Rattle.std.specs.declared.cmp.Ordering.TheVariants.{Less, Equal, Greater}
use Rattle.std.specs.Ordering.{nat_cmp, ordering_then, ordering_reverse, MatchOrdering}
use Rattle.std.proofs.lemmas.Cmp.{ranked}
use Rattle.std.proofs.lemmas.Bool.{eqb-true, and_from, not_from_false}
use Rattle.gtid_text.specs.declared.Gtid.{Gtid}
use Rattle.gtid_text.specs.Gtids.{gtid_cmp}
use Rattle.gtid_set.specs.Sets.{gtid}
use Rattle.rows.specs.declared.change.Key.{Key}
use Rattle.rows.specs.declared.change.RowFault.{RowFault}
use Rattle.rows.specs.Order.{key_eq}
use Rattle.rows.specs.Total.{key_eq_same}
use Rattle.rows.specs.WriteSet.{write_set}
use Rattle.history.specs.Sources.{content, of_source, entries_in, is_opened}
use Rattle.history.specs.Sources as history
use Rattle.history.proofs.SourceGtids.{number_less}
use Rattle.history.proofs.SourceEntries.{IsAscending, rising}
use Rattle.world.specs.declared.verdict.Verdict.TheVariants.{Missing, Shared, DoesNotApply}
use Rattle.world.specs.Search.{first, when}
use Rattle.world.specs.Audit.{all_entries, world_of, is_recorded_in, present, is_absent, below, first_fault}
use Rattle.world.specs.Cases.{IsShared}
use Rattle.world.specs.Least.{MissingIsLeast, SharedIsLeast, FirstSourceFails}
use Rattle.world.proofs.Finding.{when_none, when_some, first_none, first_some}
use Rattle.world.proofs.Contents.{content_at, at_content, some_of, entry_content}
use Rattle.world.proofs.Meanings.{alone_from_none, one_and}
use Rattle.world.proofs.Standing.{fails_in}
use Rattle.world.proofs.OnePass.{source_le}
use Rattle.std.proofs.lemmas.Option.{same_Some}
use Rattle.lemmas.proofs.Options.{none_some, map_some}
use Rattle.lemmas.proofs.Tests.{not_both}
use Rattle.lemmas.proofs.SameGtid.{gtid_total}
use Rattle.lemmas.proofs.Numbers.{below_test}
use Rattle.lemmas.proofs.Lists.{get_map, all_at, get_range, filtered, get_map_cases, any_at}
use Rattle.rows.specs.Conflicts.{conflicts_at, conflict_at_both}
use Rattle.rows.specs.declared.change.Transaction.{Transaction}

-- ---- places of an ascending list

never_before : (a b : Gtid) → gtid_cmp a b ≡ Less → gtid_cmp b a ≡ Less → ⊥
never_before a b p q = by (gtid_cmp a b) (gtid_cmp b a) (gtid_total.antisymm a b) p q
  where
    by : (r s : Ordering) → r ≡ ordering_reverse s → r ≡ Less → s ≡ Less → ⊥
    by Less Less e p q = cc
    by Less Equal e p q = cc
    by Less Greater e p q = cc
    by Equal s e p q = cc
    by Greater s e p q = cc

pub index_less : (es : List history.Entry) → IsAscending es → (i j : ℕ) (a b : history.Entry) → slice_get es i ≡ Some a → slice_get es j ≡ Some b → gtid_cmp a.0 b.0 ≡ Less → i < j
index_less [] r i j a b p q l = none_some a p
index_less (x ∷ es) r zero zero a b p q l =
    let same : a ≡ b = same_Some a b (sym p ∙ q) in
    absurd (never_before a.0 b.0 l (ap (λ (y : history.Entry). gtid_cmp b.0 y.0) same ∙ (ap (λ (y : history.Entry). gtid_cmp y.0 b.0) (sym same) ∙ l)))
index_less (x ∷ es) r zero (suc j) a b p q l = omega arith
index_less (x ∷ es) r (suc i) zero a b p q l =
    let is_b : x ≡ b = same_Some x b q in
    absurd (never_before a.0 b.0 l (ap (λ (y : history.Entry). gtid_cmp y.0 a.0) (sym is_b) ∙ all_at (λ (f : history.Entry). gtid_cmp x.0 f.0 ≡ Less) es i a r.0 p))
index_less (x ∷ es) r (suc i) (suc j) a b p q l = let h = index_less es r.1 i j a b p q l in omega arith

less_source : (a b : Gtid) → a.source < b.source → gtid_cmp a b ≡ Less
less_source a b l = ap (λ r. ordering_then r (nat_cmp a.number b.number)) (is_less a.source b.source (nat_cmp a.source b.source) (ranked a.source b.source (nat_cmp a.source b.source) refl) l)
  where
    is_less : (m n : ℕ) (r : Ordering) → MatchOrdering r (m < n) (m ≡ n) (n < m) → m < n → r ≡ Less
    is_less m n Less h l = refl
    is_less m n Equal h l = absurd (omega arith)
    is_less m n Greater h l = absurd (omega arith)

-- ---- the lower numbers of a source

below_at : (G h : Gtid) → h.source ≡ G.source → 0 < h.number → h.number < G.number → slice_get (below G) (h.number - 1) ≡ Some h
below_at G h s low less =
    get_map (gtid G.source) (range_with_len 1 (G.number - 1)) (h.number - 1) (1 + (h.number - 1)) (get_range 1 (G.number - 1) (h.number - 1) (omega arith))
    ∙ λ i. Some (record { source = (sym s) i; number = one_and h.number low i })

range_exact : (a n i m : ℕ) → slice_get (range_with_len a n) i ≡ Some m → m ≡ a + i
range_exact a zero i m e = none_some m e
range_exact a (suc n) zero m e = let h : a ≡ m = same_Some a m e in omega arith
range_exact a (suc n) (suc i) m e = let h = range_exact (a + 1) n i m e in omega arith

below_number : (G g : Gtid) (i : ℕ) → slice_get (below G) i ≡ Some g → (g.number ≡ 1 + i) × (g.source ≡ G.source)
below_number G g i e =
    let r = get_map_cases (gtid G.source) (range_with_len 1 (G.number - 1)) i g e in
    (ap (λ (x : Gtid). x.number) (sym r.2) ∙ range_exact 1 (G.number - 1) i r.0 r.1, ap (λ (x : Gtid). x.source) (sym r.2))

-- ---- Missing

pub missing_is_least : MissingIsLeast
missing_is_least world journals g found h m less =
    let w = world_of world.schema world.opening_set world.opening_rows journals in
    let a = first_some _ (present world journals) (Missing g) found in
    let b = first_some _ (below a.element.0) (Missing g) a.gives in
    let c = when_some (is_absent world journals b.element) (Missing b.element) (Missing g) b.gives in
    let is_g : b.element ≡ g = same_missing b.element g c.1 in
    let of_g = below_number a.element.0 b.element b.place b.there in
    let g_source : g.source ≡ a.element.0.source = ap (λ (x : Gtid). x.source) (sym is_g) ∙ of_g.1 in
    let g_number : g.number ≡ 1 + b.place = ap (λ (x : Gtid). x.number) (sym is_g) ∙ of_g.0 in
    let absent : is_absent world journals h ≡ true = and_from (not (is_opened world h)) (not (is_recorded_in (all_entries journals) h)) (not_from_false (is_opened world h) m.new) (not_from_false (is_recorded_in (all_entries journals) h) m.absent) in
    elim (source_le h g less) [
      | inl smaller ↦
          let t = some_of (content w m.greater) (entry_content world.opening_set (all_entries journals) m.greater m.there m.beyond) in
          let q = content_at w m.greater t.0 t.1 in
          let before : gtid_cmp m.greater a.element.0 ≡ Less = less_source m.greater a.element.0 (subst (λ n. n < a.element.0.source) (sym m.same) (subst (λ n. h.source < n) g_source smaller)) in
          let none = a.earlier q.0 (m.greater, t.0) (index_less (present world journals) (rising w) q.0 a.place (m.greater, t.0) a.element q.1 a.there before) q.1 in
          not_both (is_absent world journals h) absent (when_none (is_absent world journals h) (Missing h) (first_none _ (below m.greater) none (h.number - 1) h (below_at m.greater h (sym m.same) m.positive m.below)))
      | inr same ↦
          let lower : h.number < g.number = number_less h g less same in
          let at : slice_get (below a.element.0) (h.number - 1) ≡ Some h = below_at a.element.0 h (same ∙ g_source) m.positive (lower_still h.number g.number b.place a.element.0.number lower g_number (below_top a.element.0 b.element b.place b.there)) in
          not_both (is_absent world journals h) absent (when_none (is_absent world journals h) (Missing h) (b.earlier (h.number - 1) h (before_place h.number g.number b.place m.positive lower g_number) at))
    ]
  where
    same_missing : (x y : Gtid) → Missing x ≡ Missing y → x ≡ y
    same_missing x y e = cc

    before_place : (m n p : ℕ) → 0 < m → m < n → n ≡ 1 + p → m - 1 < p
    before_place m n p a b c = omega arith

    lower_still : (m n p k : ℕ) → m < n → n ≡ 1 + p → 1 + p < k → m < k
    lower_still m n p k a b c = omega arith

    range_top : (a n i m : ℕ) → slice_get (range_with_len a n) i ≡ Some m → i < n
    range_top a zero i m e = none_some m e
    range_top a (suc n) zero m e = omega arith
    range_top a (suc n) (suc i) m e = let h = range_top (a + 1) n i m e in omega arith

    below_top : (G g : Gtid) (i : ℕ) → slice_get (below G) i ≡ Some g → 1 + i < G.number
    below_top G g i e =
        let r = get_map_cases (gtid G.source) (range_with_len 1 (G.number - 1)) i g e in
        let t = range_top 1 (G.number - 1) i r.0 r.1 in
        omega arith

-- ---- Shared

same_shared : (a b c d : Gtid) (k q : Key) → Shared a b k ≡ Shared c d q → (a ≡ c) × (b ≡ d) × (k ≡ q)
same_shared a b c d k q e = (cc, cc, cc)

pub shared_is_least : SharedIsLeast
shared_is_least world g h key found =
    let es = finmap.entries world.contents in
    let a = first_some _ es (Shared g h key) found in
    let b = first_some _ (write_set world.schema a.element.1) (Shared g h key) a.gives in
    let c = first_some _ es (Shared g h key) b.gives in
    let d = when_some (nat_lt c.element.0.source a.element.0.source && conflicts_at world.schema c.element.1 a.element.1 b.element) (Shared c.element.0 a.element.0 b.element) (Shared g h key) c.gives in
    let same = same_shared c.element.0 a.element.0 g h b.element key d.1 in
    let u_there : content world h ≡ Some a.element.1 = ap (content world) (sym same.1) ∙ at_content world a.place a.element a.there in
    record {
      second = λ x y k s less.
          let q = content_at world y s.u s.second in
          let p = index_less es (rising world) q.0 a.place (y, s.u) a.element q.1 a.there (ap (gtid_cmp y) same.1 ∙ less) in
          refute x y k s (a.earlier q.0 (y, s.u) p q.1);
      u = a.element.1;
      there = u_there;
      place = b.place;
      stands = b.there ∙ ap Some same.2;
      earlier = λ i k x l at s.
          let is_u : s.u ≡ a.element.1 = same_Some s.u a.element.1 (sym s.second ∙ u_there) in
          let p = content_at world x s.t s.first in
          let none = first_none _ es (b.earlier i k l at) p.0 (x, s.t) p.1 in
          not_both (nat_lt x.source a.element.0.source && conflicts_at world.schema s.t a.element.1 k)
          (and_from (nat_lt x.source a.element.0.source) (conflicts_at world.schema s.t a.element.1 k) (below_test x.source a.element.0.source (subst (λ (y : Gtid). x.source < y.source) (sym same.1) s.smaller)) (ap (λ (y : Transaction). conflicts_at world.schema s.t y k) (sym is_u) ∙ s.conflict))
          (when_none (nat_lt x.source a.element.0.source && conflicts_at world.schema s.t a.element.1 k) (Shared x a.element.0 k) none);
      first = λ x s less.
          let is_u : s.u ≡ a.element.1 = same_Some s.u a.element.1 (sym s.second ∙ u_there) in
          let p = content_at world x s.t s.first in
          let l = index_less es (rising world) p.0 c.place (x, s.t) c.element p.1 c.there (ap (gtid_cmp x) same.0 ∙ less) in
          not_both (nat_lt x.source a.element.0.source && conflicts_at world.schema s.t a.element.1 b.element)
          (and_from (nat_lt x.source a.element.0.source) (conflicts_at world.schema s.t a.element.1 b.element) (below_test x.source a.element.0.source (subst (λ (y : Gtid). x.source < y.source) (sym same.1) s.smaller)) ((λ i. conflicts_at world.schema s.t (sym is_u i) (same.2 i)) ∙ s.conflict))
          (when_none (nat_lt x.source a.element.0.source && conflicts_at world.schema s.t a.element.1 b.element) (Shared x a.element.0 b.element) (c.earlier p.0 (x, s.t) l p.1));
    }
  where
    -- what gives nothing shares nothing
    refute : (x y : Gtid) (k : Key) (s : IsShared world x y k) → first (λ q. first (λ (e : history.Entry). when (nat_lt e.0.source y.source && conflicts_at world.schema e.1 s.u q) (Shared e.0 y q)) (finmap.entries world.contents)) (write_set world.schema s.u) ≡ None → ⊥
    refute x y k s none =
        let r = any_at (key_eq k) (write_set world.schema s.u) (conflict_at_both world.schema s.t s.u k s.conflict).1 in
        let is_k : k ≡ r.1 = key_eq_same k r.1 r.3 in
        let p = content_at world x s.t s.first in
        let one = first_none _ (finmap.entries world.contents) (first_none _ (write_set world.schema s.u) none r.0 r.1 r.2) p.0 (x, s.t) p.1 in
        not_both (nat_lt x.source y.source && conflicts_at world.schema s.t s.u r.1)
        (and_from (nat_lt x.source y.source) (conflicts_at world.schema s.t s.u r.1) (below_test x.source y.source s.smaller) (ap (conflicts_at world.schema s.t s.u) (sym is_k) ∙ s.conflict))
        (when_none (nat_lt x.source y.source && conflicts_at world.schema s.t s.u r.1) (Shared x y r.1) one)

-- ---- DoesNotApply

get_middle : (xs : List history.Entry) (y : history.Entry) (ys : List history.Entry) → slice_get (xs ++ y ∷ ys) (length xs) ≡ Some y
get_middle [] y ys = refl
get_middle (x ∷ xs) y ys = get_middle xs y ys

same_fault : (a b : Gtid) (f h : RowFault) → DoesNotApply a f ≡ DoesNotApply b h → a ≡ b
same_fault a b f h e = cc

pub first_source_fails : FirstSourceFails
first_source_fails world g fault found s less =
    let es = finmap.entries world.contents in
    let a = first_some _ es (DoesNotApply g fault) found in
    let r = map_some (λ (f : Gtid × RowFault). DoesNotApply f.0 f.1) (first_fault world.schema (entries_in world (of_source a.element.0.source)) world.opening_rows) (DoesNotApply g fault) a.gives in
    let is_g : r.0.0 ≡ g = same_fault r.0.0 g r.0.1 fault r.2 in
    let x = fails_in world.schema (entries_in world (of_source a.element.0.source)) world.opening_rows r.0 r.1 in
    let at : slice_get (entries_in world (of_source a.element.0.source)) (length x.before) ≡ Some (r.0.0, x.t) = ap (λ zs. slice_get zs (length x.before)) x.parts ∙ get_middle x.before (r.0.0, x.t) x.later in
    let passes = filtered (λ (e : history.Entry). of_source a.element.0.source e.0) es (length x.before) (r.0.0, x.t) at in
    let source : a.element.0.source ≡ g.source = eqb-true a.element.0.source r.0.0.source passes.0 ∙ ap (λ (y : Gtid). y.source) is_g in
    alone_from_none world s (λ i e here is_s.
    let before : gtid_cmp e.0 a.element.0 ≡ Less = less_source e.0 a.element.0 (subst (λ n. n < a.element.0.source) (sym is_s) (subst (λ n. s < n) (sym source) less)) in
    a.earlier i e (index_less es (rising world) i a.place e a.element here a.there before) here)
