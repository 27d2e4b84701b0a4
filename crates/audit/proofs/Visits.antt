-- One chain, visited by the transactions that touch its key; and all chains, by one transaction.
use Rattle.std.proofs.Common.{◌≡◌, ℕ, ◌+◌, ◌-◌, ◌<◌, Bool, true, false, cond, ◌||◌, inl, inr, true≢false, List, [], ◌∷◌, ◌++◌, length, Option, Some, None, refl, sym, ap, ◌∙◌, subst, arith}
use Rattle.std.specs.Prelude.{slice_get, nat_lt, ◌==◌}
use Rattle.std.specs.Option.{option_map, option_map_or, unwrap_or}
use Rattle.std.proofs.lemmas.Bool.{eq-eqb, and_from, or_cases}
use Rattle.gtid_text.specs.declared.Gtid.{Gtid}
use Rattle.gtid_text.specs.Gtids.{same_gtid}
use Rattle.rows.specs.declared.change.Key.{Key}
use Rattle.rows.specs.Order.{key_eq}
use Rattle.rows.specs.Total.{key_eq_same, key_eq_self}
use Rattle.rows.specs.WriteSet.{is_among}
use Rattle.world.specs.Search.{or_next, first}
use Rattle.world.proofs.Finding.{next_none}
use Rattle.audit.specs.declared.chain.Turn.{Turn}
use Rattle.audit.specs.declared.chain.Turn.TheVariants.{Again, AtEnd, Next, Behind}
use Rattle.audit.specs.declared.turns.OutOfTurn.{OutOfTurn}
use Rattle.rows.proofs.Hashed.{same_tests}
use Rattle.std.specs.Map.{lookup}
use Rattle.lemmas.proofs.SameGtid.{same_itself}
use Rattle.lemmas.proofs.Numbers.{eqb_below, below_test}
use Rattle.audit.specs.Chains.{KeyChain, no_chain, same_key, chains_of, IsVisitedAt, read_by, was_read, turn_at, turn_of, after_turn, visit, next_in, expected, visit_key, visit_keys, out_at, out_of_keys}

-- ---- one chain

-- Those that touched the key are these, the first n of them are in journal r, and none in a later journal.
pub record IsRead (r : ℕ) (c : KeyChain) (gs : List Gtid) (n : ℕ) : Type 0 where
  pub members : c.members ≡ gs
  pub read : read_by r c ≡ n
  pub later : (s : ℕ) → r < s → read_by s c ≡ 0

own : (r n : ℕ) → cond (r == r) n 0 ≡ n
own r n = ap (λ b. cond b n 0) (eq-eqb r r refl)

read_now : (r : ℕ) (gs hs : List Gtid) (n : ℕ) → gs ≡ hs → IsRead r (record { members = gs; read = n; reader = r }) hs n
read_now r gs hs n same = record { members = same; read = own r n; later = λ s less. ap (λ b. cond b n 0) (eqb_below r s less) }

-- the turn, where g was not the last that was read
pub turn_is : (r : ℕ) (g : Gtid) (c : KeyChain) (gs : List Gtid) (n : ℕ) → IsRead r c gs n → was_read n gs g ≡ false → turn_of r g c ≡ turn_at g (slice_get gs n)
turn_is r g c gs n is fresh =
    (λ i. cond (was_read (is.read i) (is.members i) g) Again (turn_at g (slice_get (is.members i) (is.read i))))
    ∙ ap (λ b. cond b Again (turn_at g (slice_get gs n))) fresh

pub visited_at_end : (r : ℕ) (g : Gtid) (c : KeyChain) (gs : List Gtid) (n : ℕ) → IsRead r c gs n → was_read n gs g ≡ false → slice_get gs n ≡ None → n ≡ length gs
    → IsRead r (visit r g c) (gs ++ g ∷ []) (n + 1)
visited_at_end r g c gs n is fresh none all =
    let turn : turn_of r g c ≡ AtEnd = turn_is r g c gs n is fresh ∙ ap (turn_at g) none in
    let count : length c.members + 1 ≡ n + 1 = ap (λ (xs : List Gtid). length xs + 1) is.members ∙ ap (λ m. m + 1) (sym all) in
    subst (λ (t : Turn). IsRead r (after_turn r g c t) (gs ++ g ∷ []) (n + 1)) (sym turn)
    (subst (λ m. IsRead r (after_turn r g c AtEnd) (gs ++ g ∷ []) m) count (read_now r (c.members ++ g ∷ []) (gs ++ g ∷ []) (length c.members + 1) (ap (λ xs. xs ++ g ∷ []) is.members)))

pub visited_next : (r : ℕ) (g : Gtid) (c : KeyChain) (gs : List Gtid) (n : ℕ) (x : Gtid) → IsRead r c gs n → was_read n gs g ≡ false → slice_get gs n ≡ Some x → same_gtid x g ≡ true
    → IsRead r (visit r g c) gs (n + 1)
visited_next r g c gs n x is fresh some same =
    let turn : turn_of r g c ≡ Next = turn_is r g c gs n is fresh ∙ ap (turn_at g) some ∙ ap (λ b. cond b Next (Behind x)) same in
    let count : read_by r c + 1 ≡ n + 1 = ap (λ m. m + 1) is.read in
    subst (λ (t : Turn). IsRead r (after_turn r g c t) gs (n + 1)) (sym turn)
    (subst (λ m. IsRead r (after_turn r g c Next) gs m) count (read_now r c.members gs (read_by r c + 1) is.members))

-- a transaction that touches the key again
last_is : (gs : List Gtid) (g : Gtid) → slice_get (gs ++ g ∷ []) (length gs) ≡ Some g
last_is [] g = refl
last_is (x ∷ gs) g = last_is gs g

read_last : (gs : List Gtid) (g x : Gtid) (m n : ℕ) → m ≡ n + 1 → slice_get gs n ≡ Some x → same_gtid x g ≡ true → was_read m gs g ≡ true
read_last gs g x m n count at same =
    let before : m - 1 ≡ n = omega arith in
    and_from (nat_lt 0 m) (option_map_or (λ y. same_gtid y g) (slice_get gs (m - 1)) false) (below_test 0 m (omega arith))
    (ap (λ k. option_map_or (λ y. same_gtid y g) (slice_get gs k) false) before ∙ ap (λ o. option_map_or (λ y. same_gtid y g) o false) at ∙ same)

again_by : (r : ℕ) (g : Gtid) (c : KeyChain) (b : Bool) (o : Option Gtid) → was_read (read_by r c) c.members g ≡ b → slice_get c.members (read_by r c) ≡ o
    → next_in (cond b Again (turn_at g o)) ≡ None → turn_of r g (after_turn r g c (cond b Again (turn_at g o))) ≡ Again
again_by r g c true o was at none = ap (λ b. cond b Again (turn_at g (slice_get c.members (read_by r c)))) was
again_by r g c false None was at none =
    let after : KeyChain = after_turn r g c AtEnd in
    ap (λ b. cond b Again (turn_at g (slice_get after.members (read_by r after)))) (read_last (c.members ++ g ∷ []) g g (read_by r after) (length c.members) (own r (length c.members + 1)) (last_is c.members g) (same_itself g))
again_by r g c false (Some x) was at none = by_same (same_gtid x g) refl none
  where
    by_same : (t : Bool) → same_gtid x g ≡ t → next_in (cond t Next (Behind x)) ≡ None → turn_of r g (after_turn r g c (cond t Next (Behind x))) ≡ Again
    by_same true same none =
        let after : KeyChain = after_turn r g c Next in
        ap (λ b. cond b Again (turn_at g (slice_get after.members (read_by r after)))) (read_last c.members g x (read_by r after) (read_by r c) (own r (read_by r c + 1)) at same)
    by_same false same none = cc

pub again : (r : ℕ) (g : Gtid) (c : KeyChain) → expected r g c ≡ None → turn_of r g (visit r g c) ≡ Again
again r g c none = again_by r g c (was_read (read_by r c) c.members g) (slice_get c.members (read_by r c)) refl refl none

-- ---- all chains

flip : (a b : Key) → key_eq a b ≡ key_eq b a
flip a b = flip_at (key_eq a b) (key_eq b a) refl refl
  where
    flip_at : (x y : Bool) → key_eq a b ≡ x → key_eq b a ≡ y → x ≡ y
    flip_at true true p q = refl
    flip_at false false p q = refl
    flip_at true false p q = let same : key_eq b a ≡ true = ap (key_eq b) (key_eq_same a b p) ∙ key_eq_self b in cc
    flip_at false true p q = let same : key_eq a b ≡ true = ap (key_eq a) (key_eq_same b a q) ∙ key_eq_self a in cc

unwrap_cond : (b : Bool) (c : KeyChain) (o : Option KeyChain) → unwrap_or (cond b (Some c) o) no_chain ≡ cond b c (unwrap_or o no_chain)
unwrap_cond true c o = refl
unwrap_cond false c o = refl

pub all_visited : (r : ℕ) (g : Gtid) (key : Key) (old new : List (Key × KeyChain)) → IsVisitedAt r g key old new → chains_of new ≡ visit_key r g key (chains_of old)
all_visited r g key old new visits = λ i k. at k i
  where
    at : (k : Key) → chains_of new k ≡ visit_key r g key (chains_of old) k
    at k =
        ap (λ o. unwrap_or o no_chain) (visits k) ∙ unwrap_cond (same_key key k) (visit r g (chains_of old key)) (lookup (same_key k) old)
        ∙ ap (λ b. cond b (visit r g (chains_of old key)) (chains_of old k)) (same_tests key k ∙ flip key k)

module _ (r : ℕ) (g : Gtid) (start : Key → KeyChain) where
  -- these keys were visited
  abbrev pub IsVisited : (Key → Bool) → (Key → KeyChain) → Type 0
  IsVisited done chains = (k : Key) → chains k ≡ cond (done k) (visit r g (start k)) (start k)

  -- what is out of turn at a key, at the start
  abbrev pub out_first : Key → Option OutOfTurn
  out_first key = option_map (λ x. record { next = x; entry = g; key = key }) (expected r g (start key))

  pub none_out : (key : Key) (o : Option Gtid) → ◌≡◌ {A = Option OutOfTurn} (option_map (λ x. record { next = x; entry = g; key = key }) o) None → o ≡ None
  none_out key None e = refl
  none_out key (Some x) e = cc

  same_out : (key : Key) (c : KeyChain) (b : Bool) → c ≡ cond b (visit r g (start key)) (start key) → (b ≡ true → expected r g (start key) ≡ None)
      → option_map (λ x. record { next = x; entry = g; key = key }) (expected r g c) ≡ out_first key
  same_out key c true is quiet =
      ap (λ (c : KeyChain). option_map (λ x. record { next = x; entry = g; key = key }) (expected r g c)) is
      ∙ ap (λ (t : Turn). option_map (λ x. record { next = x; entry = g; key = key }) (next_in t)) (again r g (start key) (quiet refl))
      ∙ ap (option_map (λ x. record { next = x; entry = g; key = key })) (sym (quiet refl))
  same_out key c false is quiet = ap (λ (c : KeyChain). option_map (λ x. record { next = x; entry = g; key = key }) (expected r g c)) is

  one_visit : (key : Key) (c : KeyChain) (b : Bool) → c ≡ cond b (visit r g (start key)) (start key) → expected r g (start key) ≡ None → visit r g c ≡ visit r g (start key)
  one_visit key c true is quiet = ap (visit r g) is ∙ ap (after_turn r g (visit r g (start key))) (again r g (start key) quiet)
  one_visit key c false is quiet = ap (visit r g) is

  more_done : (done : Key → Bool) (chains : Key → KeyChain) (key : Key) → IsVisited done chains → expected r g (start key) ≡ None → IsVisited (λ k. done k || key_eq k key) (visit_key r g key chains)
  more_done done chains key is quiet k = by_key (key_eq k key) refl (done k) refl
    where
      by_key : (b : Bool) → key_eq k key ≡ b → (d : Bool) → done k ≡ d → cond b (visit r g (chains key)) (chains k) ≡ cond (d || b) (visit r g (start k)) (start k)
      by_key true e true f = one_visit key (chains key) (done key) (is key) quiet ∙ ap (λ q. visit r g (start q)) (sym (key_eq_same k key e))
      by_key true e false f = one_visit key (chains key) (done key) (is key) quiet ∙ ap (λ q. visit r g (start q)) (sym (key_eq_same k key e))
      by_key false e true f = is k ∙ ap (λ b. cond b (visit r g (start k)) (start k)) f
      by_key false e false f = is k ∙ ap (λ b. cond b (visit r g (start k)) (start k)) f

  or_both : (a b c : Bool) → ((a || b) || c) ≡ (a || (b || c))
  or_both true b c = refl
  or_both false b c = refl

  record Visits (done : Key → Bool) (chains : Key → KeyChain) (keys : List Key) : Type 0 where
    pub out : out_of_keys r g keys chains ≡ first out_first keys
    pub after : out_of_keys r g keys chains ≡ None → IsVisited (λ k. done k || is_among keys k) (visit_keys r g keys chains)

  or_none : (b : Bool) → (b || false) ≡ b
  or_none true = refl
  or_none false = refl

  quiet_more : (done : Key → Bool) (key : Key) → ((k : Key) → done k ≡ true → expected r g (start k) ≡ None) → expected r g (start key) ≡ None → (k : Key) → (done k || key_eq k key) ≡ true → expected r g (start k) ≡ None
  quiet_more done key quiet none k e = elim (or_cases (done k) (key_eq k key) e) [
    | inl d ↦ quiet k d
    | inr same ↦ ap (λ q. expected r g (start q)) (key_eq_same k key same) ∙ none
  ]

  with_key : (done : Key → Bool) (chains : Key → KeyChain) (key : Key) (keys : List Key) → IsVisited done chains → ((k : Key) → done k ≡ true → expected r g (start k) ≡ None)
      → (expected r g (start key) ≡ None → Visits (λ k. done k || key_eq k key) (visit_key r g key chains) keys) → Visits done chains (key ∷ keys)
  with_key done chains key keys is quiet rest = by_out (expected r g (start key)) refl
    where
      more : Option OutOfTurn
      more = out_of_keys r g keys (visit_key r g key chains)

      same : out_at r g key chains ≡ out_first key
      same = same_out key (chains key) (done key) (is key) (quiet key)

      by_out : (o : Option Gtid) → expected r g (start key) ≡ o → Visits done chains (key ∷ keys)
      by_out None e = let v = rest e in record {
        out = ap (λ o. or_next o more) same ∙ ap (or_next (out_first key)) v.out;
        after = λ none k. v.after (next_none (out_at r g key chains) more none).1 k ∙ ap (λ b. cond b (visit r g (start k)) (start k)) (or_both (done k) (key_eq k key) (is_among keys k));
      }
      by_out (Some x) e =
          let first_is : ◌≡◌ {A = Option OutOfTurn} (out_first key) (Some (record { next = x; entry = g; key = key })) = ap (option_map (λ x. record { next = x; entry = g; key = key })) e in
          record {
            out = ap (λ o. or_next o more) (same ∙ first_is) ∙ sym (ap (λ o. or_next o (first out_first keys)) first_is);
            after = λ none. absurd (not_none first_is (sym same ∙ (next_none (out_at r g key chains) more none).0));
          }
        where
          not_none : {o : Option OutOfTurn} {y : OutOfTurn} → o ≡ Some y → o ≡ None → ⊥
          not_none {o} {y} e f = by_equation (sym e ∙ f)
            where
              by_equation : ◌≡◌ {A = Option OutOfTurn} (Some y) None → ⊥
              by_equation e = cc

  visits : (done : Key → Bool) (chains : Key → KeyChain) (keys : List Key) → IsVisited done chains → ((k : Key) → done k ≡ true → expected r g (start k) ≡ None) → Visits done chains keys
  visits done chains [] is quiet = record { out = refl; after = λ none k. is k ∙ ap (λ b. cond b (visit r g (start k)) (start k)) (sym (or_none (done k))) }
  visits done chains (key ∷ keys) is quiet = with_key done chains key keys is quiet (λ none. visits (λ k. done k || key_eq k key) (visit_key r g key chains) keys (more_done done chains key is none) (quiet_more done key quiet none))

  -- From the start: what is out of turn first, and the chains where nothing is.
  pub keys_visited : (keys : List Key) → (out_of_keys r g keys start ≡ first out_first keys)
      × (out_of_keys r g keys start ≡ None → (k : Key) → visit_keys r g keys start k ≡ cond (is_among keys k) (visit r g (start k)) (start k))
  keys_visited keys = let v = visits (λ k. false) start keys (λ k. refl) (λ k e. absurd (true≢false (sym e))) in (v.out, v.after)
