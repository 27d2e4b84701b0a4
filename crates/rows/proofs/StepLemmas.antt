-- Steps that were made in place, and the way back.
use Rattle.std.proofs.Common.{◌≡◌, ◌≤◌, ◌<◌, ◌+◌, ◌-◌, ℕ, zero, suc, Bool, true, false, not, cond, ◌⊎◌, inl, inr, nat_lt, List, [], ◌∷◌, ◌++◌, length, take, set, get_or, Option, Some, None, refl, sym, ap, subst, ◌∙◌, arith}
use Rattle.std.specs.List.{swap, swap_remove, position_or_len, position}
use Rattle.std.specs.Map.{lookup, lookup_key, keys_of}
use Rattle.std.proofs.Math.Seq.{take-length, take-append_seam, set-append_seam, get_or-append_seam}
use Rattle.std.proofs.lemmas.Bool.Decides.{nat_tests}
use Rattle.std.proofs.lemmas.List.{length-append, length-set, set-append_left, set-get_or, get_or_append_left, get_or-set_same, get_or_default, take_more}
use Rattle.std.proofs.lemmas.Option.{same_Some}
use Rattle.indexmap.proofs.MapLemmas.{swap_remove_entry-found}
use Rattle.indexmap.specs.IndexMap.{insert_entry, set_value_at, swap_remove_entry}
use Rattle.row_images.specs.declared.value.Value.{Value}
use Rattle.rows.specs.declared.change.Key.{Key}
use Rattle.rows.specs.declared.steps.EntryStep.{EntryStep}
use Rattle.rows.specs.declared.steps.EntryStep.TheVariants.{Removed}
use Rattle.rows.specs.Steps.{Entries, moved_last, undone, all_undone, step_of}
use Rattle.rows.proofs.Equal.{key_test}
use Rattle.rows.proofs.Placed.{set_back}

-- past the last there is nothing to write
pub set_past : (es : Entries) (i : ℕ) (row : List Value) → length es ≤ i → es ≡ set_value_at es i row
set_past [] i row le = refl
set_past (e ∷ es) zero row le = absurd (omega (arith, le))
set_past (e ∷ es) (suc i) row le = ap (λ (l : Entries). e ∷ l) (set_past es i row (omega (arith, le)))

pub all_undone_last : (log : List EntryStep) (step : EntryStep) (es : Entries) → all_undone (log ++ step ∷ []) es ≡ all_undone log (undone step es)
all_undone_last [] step es = refl
all_undone_last (s ∷ log) step es = ap (undone s) (all_undone_last log step es)

pub one_fewer : (log rest : List EntryStep) (s : EntryStep) → log ≡ rest ++ s ∷ [] → length log ≡ length rest + 1
one_fewer log rest s e = ap length e ∙ length-append rest (s ∷ [])

-- ---- what was put

without_last : (es : Entries) (e : Key × List Value) → take (length (es ++ e ∷ []) - 1) (es ++ e ∷ []) ≡ es
without_last es e =
    let n : length (es ++ e ∷ []) - 1 ≡ length es = (let k = length-append es (e ∷ []) in omega (arith, k)) in
    ap (λ n. take n (es ++ e ∷ [])) n ∙ take-append_seam es (e ∷ [])

added_new : (es : Entries) (k : Key) (row : List Value) → lookup (key_test k) es ≡ None → insert_entry key_test es k row ≡ es ++ (k, row) ∷ []
added_new [] k row none = refl
added_new (e ∷ es) k row none = by_test (key_test k e.0) none (added_new es k row)
  where
    by_test : (b : Bool) → cond b (Some e.1) (lookup (key_test k) es) ≡ None → (lookup (key_test k) es ≡ None → insert_entry key_test es k row ≡ es ++ (k, row) ∷ []) → cond b ((e.0, row) ∷ es) (e ∷ insert_entry key_test es k row) ≡ e ∷ es ++ (k, row) ∷ []
    by_test true none later = absurd cc
    by_test false none later = ap (λ (l : Entries). e ∷ l) (later none)

pub undone_put : (es : Entries) (k : Key) (row : List Value) (over : Option (List Value)) → over ≡ lookup (key_test k) es → undone (step_of (position_or_len (key_test k) (keys_of es)) over) (insert_entry key_test es k row) ≡ es
undone_put es k row None was = ap (λ (l : Entries). take (length l - 1) l) (added_new es k row (sym was)) ∙ without_last es (k, row)
undone_put es k row (Some o) was = set_back es k row o (sym was)

-- ---- what was removed

-- the entry of a key that passes a test, at its place
record IsFound (t : Key → Bool) (es : Entries) (n : ℕ) (k : Key) (row : List Value) : Type 0 where
  within : n < length es
  got : (d : Key × List Value) → get_or es n d ≡ (k, row)
  passes : t k ≡ true

found_first : (t : Key → Bool) (e : Key × List Value) (es : Entries) (k : Key) (row : List Value) → t e.0 ≡ true → e.0 ≡ k → e.1 ≡ row → IsFound t (e ∷ es) 0 k row
found_first t e es k row is key value = record {
  within = omega arith;
  got = λ d i. (key i, value i);
  passes = ap t (sym key) ∙ is;
}

found_later : (t : Key → Bool) (e : Key × List Value) (es : Entries) (n : ℕ) (k : Key) (row : List Value) → IsFound t es n k row → IsFound t (e ∷ es) (1 + n) k row
found_later t e es n k row found =
    let one : 1 + n ≡ suc n = omega arith in
    let lt = found.within in
    record {
      within = omega (arith, lt);
      got = λ d. ap (λ j. get_or (e ∷ es) j d) one ∙ found.got d;
      passes = found.passes;
    }

found_at : (t : Key → Bool) (es : Entries) (k : Key) (row : List Value) → lookup_key t es ≡ Some k → lookup t es ≡ Some row → IsFound t es (position_or_len t (keys_of es)) k row
found_at t [] k row key value = absurd cc
found_at t (e ∷ es) k row key value = by_test (t e.0) refl key value (found_at t es k row)
  where
    by_test : (b : Bool) → t e.0 ≡ b → cond b (Some e.0) (lookup_key t es) ≡ Some k → cond b (Some e.1) (lookup t es) ≡ Some row → (lookup_key t es ≡ Some k → lookup t es ≡ Some row → IsFound t es (position_or_len t (keys_of es)) k row)
        → IsFound t (e ∷ es) (cond (not b) (1 + position_or_len t (keys_of es)) 0) k row
    by_test true is key value later = found_first t e es k row is (same_Some e.0 k key) (same_Some e.1 row value)
    by_test false is key value later = found_later t e es (position_or_len t (keys_of es)) k row (later key value)

-- ---- an entry that was taken out goes back to its place

set_set : (xs : Entries) (i : ℕ) (a b : Key × List Value) → set (set xs i a) i b ≡ set xs i b
set_set [] i a b = refl
set_set (x ∷ xs) zero a b = refl
set_set (x ∷ xs) (suc i) a b = ap (λ (l : Entries). x ∷ l) (set_set xs i a b)

swap_is : (xs : Entries) (i j : ℕ) (d : Key × List Value) → i < length xs → j < length xs → swap xs i j ≡ set (set xs i (get_or xs j d)) j (get_or xs i d)
swap_is [] i j d lt le = absurd (omega (arith, lt))
swap_is (x ∷ xs) i j d lt le = λ k. set (set (x ∷ xs) i (get_or_default (x ∷ xs) j x d le k)) j (get_or_default (x ∷ xs) i x d lt k)

-- the last and the one at a place, where the last comes after f
swapped : (f : Entries) (e : Key × List Value) (n : ℕ) → n < length (f ++ e ∷ []) → moved_last n (f ++ e ∷ []) ≡ set (set (f ++ e ∷ []) n e) (length f) (get_or (f ++ e ∷ []) n e)
swapped f e n lt =
    let more = length-append f (e ∷ []) in
    let len : length (f ++ e ∷ []) - 1 ≡ length f = omega (arith, more) in
    let below : nat_lt n (length (f ++ e ∷ [])) ≡ true = grind (arith, nat_tests) in
    chosen (nat_lt n (length (f ++ e ∷ []))) below ∙ ap (swap (f ++ e ∷ []) n) len ∙ swap_is (f ++ e ∷ []) n (length f) e lt (omega (arith, more))
    ∙ ap (λ (x : Key × List Value). set (set (f ++ e ∷ []) n x) (length f) (get_or (f ++ e ∷ []) n e)) (get_or-append_seam f e [] e)
  where
    chosen : (b : Bool) → b ≡ true → cond b (swap (f ++ e ∷ []) n (length (f ++ e ∷ []) - 1)) (f ++ e ∷ []) ≡ swap (f ++ e ∷ []) n (length (f ++ e ∷ []) - 1)
    chosen true is = refl
    chosen false is = absurd cc

module _ (f : Entries) (l e : Key × List Value) (n : ℕ) where
  last_out : swap_remove (f ++ l ∷ []) n e ≡ take (length f) (set (f ++ l ∷ []) n l)
  last_out =
      let more = length-append f (l ∷ []) in
      let len : length (f ++ l ∷ []) - 1 ≡ length f = omega (arith, more) in
      (λ i. take (len i) (set (f ++ l ∷ []) n (get_or (f ++ l ∷ []) (len i) e))) ∙ ap (λ (x : Key × List Value). take (length f) (set (f ++ l ∷ []) n x)) (get_or-append_seam f l [] e)

  -- it came before the last
  before_last : n < length f → ((d : Key × List Value) → get_or (f ++ l ∷ []) n d ≡ e) → moved_last n (swap_remove (f ++ l ∷ []) n e ++ e ∷ []) ≡ f ++ l ∷ []
  before_last lt got =
      let g = set f n l in
      let len : length g ≡ length f = length-set f n l in
      let out : swap_remove (f ++ l ∷ []) n e ≡ g = last_out ∙ ap (take (length f)) (set-append_left f (l ∷ []) n l lt) ∙ ap (λ k. take k (g ++ l ∷ [])) (sym len) ∙ take-append_seam g (l ∷ []) in
      let more = length-append g (e ∷ []) in
      let back : set g n e ≡ f = set_set f n l e ∙ ap (set f n) (sym (got e) ∙ get_or_append_left f (l ∷ []) e n lt) ∙ set-get_or f n e in
      ap (λ (h : Entries). moved_last n (h ++ e ∷ [])) out
      ∙ swapped g e n (omega (arith, more, len, lt))
      ∙ ap (λ (x : Key × List Value). set (set (g ++ e ∷ []) n e) (length g) x) (get_or_append_left g (e ∷ []) e n (omega (arith, len, lt)) ∙ get_or-set_same f n l e lt)
      ∙ ap (λ (h : Entries). set h (length g) l) (set-append_left g (e ∷ []) n e (omega (arith, len, lt)) ∙ ap (λ (h : Entries). h ++ e ∷ []) back)
      ∙ ap (λ k. set (f ++ e ∷ []) k l) len
      ∙ set-append_seam f e [] l

  -- it was the last
  at_last : n ≡ length f → ((d : Key × List Value) → get_or (f ++ l ∷ []) n d ≡ e) → moved_last n (swap_remove (f ++ l ∷ []) n e ++ e ∷ []) ≡ f ++ l ∷ []
  at_last is got =
      let same : l ≡ e = sym (get_or-append_seam f l [] e) ∙ ap (λ k. get_or (f ++ l ∷ []) k e) (sym is) ∙ got e in
      let out : swap_remove (f ++ l ∷ []) n e ≡ f = last_out ∙ ap (λ k. take (length f) (set (f ++ l ∷ []) k l)) is ∙ ap (take (length f)) (set-append_seam f l [] l) ∙ take-append_seam f (l ∷ []) in
      let more = length-append f (e ∷ []) in
      ap (λ (h : Entries). moved_last n (h ++ e ∷ [])) out
      ∙ swapped f e n (omega (arith, more, is))
      ∙ (λ i. set (set (f ++ e ∷ []) (is i) e) (length f) (get_or (f ++ e ∷ []) (is i) e))
      ∙ ap (λ (x : Key × List Value). set (set (f ++ e ∷ []) (length f) e) (length f) x) (get_or-append_seam f e [] e)
      ∙ ap (λ (h : Entries). set h (length f) e) (set-append_seam f e [] e)
      ∙ set-append_seam f e [] e
      ∙ ap (λ (x : Key × List Value). f ++ x ∷ []) (sym same)

  put_back_by : n < length f ⊎ n ≡ length f → ((d : Key × List Value) → get_or (f ++ l ∷ []) n d ≡ e) → moved_last n (swap_remove (f ++ l ∷ []) n e ++ e ∷ []) ≡ f ++ l ∷ []
  put_back_by (inl lt) got = before_last lt got
  put_back_by (inr is) got = at_last is got

-- a list with something in it, as its front and its last
front_last : (es : Entries) (d : Key × List Value) → 0 < length es → es ≡ take (length es - 1) es ++ get_or es (length es - 1) d ∷ []
front_last es d lt =
    let last : length es - 1 + 1 ≡ length es = omega (arith, lt) in
    sym (take-length es) ∙ ap (λ n. take n es) (sym last) ∙ take_more es (length es - 1) d (omega (arith, lt))

pub put_back_out : (es : Entries) (n : ℕ) (e : Key × List Value) → n < length es → ((d : Key × List Value) → get_or es n d ≡ e) → moved_last n (swap_remove es n e ++ e ∷ []) ≡ es
put_back_out es n e lt got =
    let f = take (length es - 1) es in
    let l = get_or es (length es - 1) e in
    let parts : es ≡ f ++ l ∷ [] = front_last es e (omega (arith, lt)) in
    let len : length es ≡ length f + 1 = ap length parts ∙ length-append f (l ∷ []) in
    let where_ : n < length f ⊎ n ≡ length f = grind arith in
    ap (λ (h : Entries). moved_last n (swap_remove h n e ++ e ∷ [])) parts
    ∙ put_back_by f l e n where_ (λ d. ap (λ (h : Entries). get_or h n d) (sym parts) ∙ got d)
    ∙ sym parts

pub undone_removed : (es fs : Entries) (q k : Key) (row : List Value) (place : ℕ) → Some place ≡ position (key_test q) (keys_of es) → Some k ≡ lookup_key (key_test q) es → Some row ≡ lookup (key_test q) es
    → fs ≡ swap_remove_entry (key_test q) es → ((p : Key) → lookup (key_test p) fs ≡ cond (key_test q p) None (lookup (key_test p) es)) → undone (Removed place k row) fs ≡ es
undone_removed es fs q k row place at key value is gone =
    let found = found_at (key_test q) es k row (sym key) (sym value) in
    let n : position_or_len (key_test q) (keys_of es) ≡ place = placed (nat_lt (position_or_len (key_test q) (keys_of es)) (length (keys_of es))) (sym at) in
    let out : fs ≡ swap_remove es place (k, row) = is ∙ swap_remove_entry-found (key_test q) es place (k, row) (sym at) in
    let free : lookup (key_test k) fs ≡ None = gone k ∙ ap (λ b. cond b None (lookup (key_test k) es)) found.passes in
    ap (moved_last place) (added_new fs k row free ∙ ap (λ (h : Entries). h ++ (k, row) ∷ []) out)
    ∙ put_back_out es place (k, row) (subst (λ i. i < length es) n found.within) (λ d. ap (λ i. get_or es i d) (sym n) ∙ found.got d)
  where
    placed : (b : Bool) → cond b (Some (position_or_len (key_test q) (keys_of es))) None ≡ Some place → position_or_len (key_test q) (keys_of es) ≡ place
    placed true e = same_Some (position_or_len (key_test q) (keys_of es)) place e
    placed false e = absurd cc
