-- What the beginning and the end of a list leave.
use Rattle.std.proofs.Common.{◌≡◌, ◌≢◌, ◌↔◌, ℕ, ◌<◌, ◌≤◌, Bool, true, false, List, [], length, Option, None, sym, ap, subst, ◌∙◌, ⊎_elim, arith, length-append, length-set}
use Rattle.std.specs.Prelude.{◌==◌}
use Rattle.std.proofs.lemmas.Bool.Decides.{eqb_tells}
use Rattle.std.proofs.lemmas.List.{append-nil, length-map, get_or_past}
use Rattle.interval_pool.specs.declared.cells.Cell.{Cell}
use Rattle.interval_pool.specs.declared.cells.Head.{Head}
use Rattle.interval_pool.specs.declared.fault.PoolFault.{PoolFault}
use Rattle.interval_pool.specs.declared.fault.PoolFault.TheVariants.{Full, Memory}
use Rattle.interval_pool.specs.Links.{most_cells}
use Rattle.interval_pool.specs.Cells.{no_head, head_at, with_list}
use Rattle.interval_pool.specs.Chains.{AreChains}
use Rattle.interval_pool.specs.Pools.{walk, chain_of, interval_at, AreWhole, FreedSome, FreesSome}
use Rattle.interval_pool.specs.Changes.{Relisted, Claimed, IsUnused, Drops}
use Rattle.interval_pool.proofs.Linking.{head_other, head_same}
use Rattle.interval_pool.proofs.Walking.{rewalked}

pub relisted : (heads : List Head) (k : ℕ) (b : Bool) → k < length heads → Relisted heads k b (with_list heads k b)
relisted heads k b lt = record {
  now = head_same heads k (record (head_at heads k) { is_list = b }) lt;
  others = λ m ne. head_other heads k m (record (head_at heads k) { is_list = b }) ne;
}

pub claimed : (heads : List Head) (k : ℕ) → IsUnused heads k → Claimed heads k (with_list heads k true)
claimed heads k unused = record {
  not_free = λ e. let some = unused.0 in omega (e, some, arith);
  was = unused.2;
  list = relisted heads k true unused.1;
}

-- the number of a chain beyond the last is free to be a list's
pub not_all : (heads : List Head) → length heads ≤ most_cells → ((k : ℕ) → 1 ≤ k → k ≤ most_cells → (head_at heads k).is_list ≡ true) → ⊥
not_all heads few all = let past : head_at heads most_cells ≡ no_head = get_or_past heads most_cells no_head few in let is = all most_cells (omega arith) (omega arith) in cc

pub never_full : {P : Type 0} → (fault : PoolFault) → fault ≡ Memory → (P → ⊥) → fault ≡ Full ↔ P
never_full fault is never = (λ e. absurd (cc), λ p. absurd (never p))

-- ---- chains stay

pub firsts : (heads heads' : List Head) (k : ℕ) (b : Bool) → Relisted heads k b heads' → (m : ℕ) → ((head_at heads' m).first ≡ (head_at heads m).first) × ((head_at heads' m).len ≡ (head_at heads m).len)
firsts heads heads' k b r m = ⊎_elim
    (λ (e : ((m == k) ≡ true) × (m ≡ k)).
    let P : ℕ → Type 0 = λ n. ((head_at heads' n).first ≡ (head_at heads n).first) × ((head_at heads' n).len ≡ (head_at heads n).len) in
    subst P (sym e.1) (ap (λ (h : Head). h.first) r.now, ap (λ (h : Head). h.len) r.now))
    (λ (e : ((m == k) ≡ false) × (m ≢ k)). (ap (λ (h : Head). h.first) (r.others m e.1), ap (λ (h : Head). h.len) (r.others m e.1)))
    (eqb_tells m k)

pub chains_stay : (cells : List Cell) (heads heads' : List Head) (k : ℕ) (b : Bool) → Relisted heads k b heads' → (m : ℕ) → chain_of cells heads' m ≡ chain_of cells heads m
chains_stay cells heads heads' k b r m = let both = firsts heads heads' k b r m in (λ i. walk cells (both.1 i) (both.0 i))

pub whole_stays : (cells : List Cell) (heads heads' : List Head) (k : ℕ) (b : Bool) → Relisted heads k b heads' → AreWhole cells heads → AreWhole cells heads'
whole_stays cells heads heads' k b r h =
    let kept : AreChains cells heads' None (chain_of cells heads) = record {
      first = λ m. (firsts heads heads' k b r m).0 ∙ h.first m;
      count = λ m. (firsts heads heads' k b r m).1 ∙ h.count m;
      linked = h.linked;
      once = h.once;
      whole = h.whole;
      apart = h.apart;
    } in
    rewalked cells heads' None (chain_of cells heads) kept

-- ---- a list ends

pub dropped : (cells cells1 : List Cell) (heads heads1 : List Head) (k n : ℕ) (before : Option ℕ) → before ≡ None → n ≡ (head_at heads k).len → FreesSome cells heads k before n cells1 heads1 → Drops cells heads k cells1 (with_list heads1 k false)
dropped cells cells1 heads heads1 k n before none is frees h small not_free lt =
    let chain = chain_of cells heads k in
    let count = h.count k in
    let f : FreedSome cells heads k [] chain [] cells1 heads1 = frees [] chain [] h small not_free lt (sym (append-nil chain)) none (omega (is, count, arith)) in
    let many = f.keeps.as_many_chains in
    let r = relisted heads1 k false (omega (many, lt, arith)) in
    record {
      whole = whole_stays cells1 heads1 (with_list heads1 k false) k false r f.keeps.whole;
      as_many = f.as_many;
      as_many_chains = let size : length (with_list heads1 k false) ≡ length heads1 = simp length-set in size ∙ many;
      none = ap (λ (g : Head). g.is_list) r.now;
      empty = chains_stay cells1 heads1 (with_list heads1 k false) k false r k ∙ f.list;
      lists = λ m ne. ap (λ (g : Head). g.is_list) (r.others m ne) ∙ f.keeps.lists m;
      chains = λ m free other. chains_stay cells1 heads1 (with_list heads1 k false) k false r m ∙ f.keeps.chains m free other;
      intervals = f.all_intervals;
      free =
          let a = ap length (chains_stay cells1 heads1 (with_list heads1 k false) k false r 0 ∙ f.free) in
          let b = length-append f.more (chain_of cells heads 0) in
          let c = f.as_many_free in
          let d = length-map chain (interval_at cells) in
          omega (a, b, c, d, arith);
    }
