-- What entries write into the table of last writers.
use Rattle.std.proofs.Common.{◌≡◌, ◌+◌, ◌==◌, ◌||◌, ℕ, Bool, true, false, cond, List, [], ◌∷◌, ◌++◌, Option, Some, length, max, refl, ap, ◌∙◌, arith}
use Rattle.std.proofs.lemmas.Bool.Decides.{nat_tests}
use Rattle.std.specs.FinMap.{get, insert, get-insert}
use Rattle.std.specs.Option.{option_map_or}
use Rattle.rows.specs.declared.change.Key.{Key}
use Rattle.rows.specs.declared.schema.Table.{Table}
use Rattle.rows.specs.Order.{key_eq}
use Rattle.rows.specs.Total.{key_total, key_eq_same}
use Rattle.rows.specs.WriteSet.{write_set, touches, is_among}
use Rattle.journal.specs.declared.Entry.{Entry}
use Rattle.logical_timestamps.specs.Timestamps.{last_place}
use Rattle.logical_timestamps.specs.Writers.{Writers, record_writes, writers_from, earlier_place, latest_in_turn}
use Rattle.logical_timestamps.proofs.Places.{latest}

-- the place of a writer; 0 where there is none
abbrev pub place_or_0 : Option ℕ → ℕ
place_or_0 o = option_map_or (λ n. n) o 0

over : (a b : Bool) (place : ℕ) (o : Option ℕ) → place_or_0 (cond b (Some place) o) ≡ cond b place (place_or_0 o)
over a true place o = refl
over a false place o = refl

either_key : (a b : Bool) (place n : ℕ) → cond a place (cond b place n) ≡ cond (b || a) place n
either_key true true place n = refl
either_key true false place n = refl
either_key false true place n = refl
either_key false false place n = refl

-- a key among those that were written has this place, any other the old one
pub written_at : (place : ℕ) (keys : List Key) (writers : Writers) (k : Key) → place_or_0 (get (record_writes place keys writers) k) ≡ cond (is_among keys k) place (place_or_0 (get writers k))
written_at place [] writers k = refl
written_at place (x ∷ keys) writers k =
    written_at place keys (insert writers x place) k
    ∙ ap (λ o. cond (is_among keys k) place (place_or_0 o)) (get-insert key_total writers x place k)
    ∙ ap (cond (is_among keys k) place) (over true (key_eq k x) place (get writers k))
    ∙ either_key (is_among keys k) (key_eq k x) place (place_or_0 (get writers k))

-- a key has the place of the last entry that touches it
pub writers_at : (schema : List Table) (place : ℕ) (writers : Writers) (es : List Entry) (k : Key)
    → place_or_0 (get (writers_from schema place writers es) k) ≡ last_place (λ (f : Entry). touches schema f.txn k) place (place_or_0 (get writers k)) es
writers_at schema place writers [] k = refl
writers_at schema place writers (e ∷ es) k =
    writers_at schema (place + 1) (record_writes place (write_set schema e.txn) writers) es k
    ∙ ap (λ n. last_place (λ (f : Entry). touches schema f.txn k) (place + 1) n es) (written_at place (write_set schema e.txn) writers k)

-- one more entry
pub writers_more : (schema : List Table) (place : ℕ) (writers : Writers) (es : List Entry) (e : Entry)
    → writers_from schema place writers (es ++ e ∷ []) ≡ record_writes (place + length es) (write_set schema e.txn) (writers_from schema place writers es)
writers_more schema place writers [] e =
    let at : place ≡ place + 0 = omega arith in
    ap (λ n. record_writes n (write_set schema e.txn) writers) at
writers_more schema place writers (x ∷ es) e =
    let at : (place + 1) + length es ≡ place + length (x ∷ es) = omega arith in
    writers_more schema (place + 1) (record_writes place (write_set schema x.txn) writers) es e
    ∙ ap (λ n. record_writes n (write_set schema e.txn) (writers_from schema place writers (x ∷ es))) at

-- ---- in turn

own_place : (b : Bool) (place : ℕ) (o : Option ℕ) → earlier_place place (cond b (Some place) o) ≡ cond b 0 (earlier_place place o)
own_place true place o = itself (place == place) (grind (arith, nat_tests))
  where
    itself : (b : Bool) → b ≡ true → cond b 0 place ≡ 0
    itself true e = refl
    itself false e = cc
own_place false place o = refl

pub agree : {K : Type 0} (f g : K → ℕ) → ((k : K) → f k ≡ g k) → (keys : List K) → latest f keys ≡ latest g keys
agree f g h [] = refl
agree f g h (k ∷ keys) = λ i. max (h k i) (agree f g h keys i)

once_more : (b : Bool) (x y r s : ℕ) → (b ≡ true → y ≡ x) → max x r ≡ max x s → max x (max (cond b 0 y) r) ≡ max x (max y s)
once_more true x y r s e h = let same = e refl in omega (arith, h, same)
once_more false x y r s e h = omega (arith, h)

-- a key that counts already may count as 0
counted : (f : Key → ℕ) (x : Key) (keys : List Key) → max (f x) (latest (λ k. cond (key_eq k x) 0 (f k)) keys) ≡ max (f x) (latest f keys)
counted f x [] = refl
counted f x (k ∷ keys) =
    once_more (key_eq k x) (f x) (f k) (latest (λ q. cond (key_eq q x) 0 (f q)) keys) (latest f keys) (λ e. ap f (key_eq_same k x e)) (counted f x keys)

-- in turn each key counts as it was before all of them
pub in_turn : (place : ℕ) (keys : List Key) (writers : Writers) (found : ℕ)
    → latest_in_turn place keys writers found ≡ max found (latest (λ k. earlier_place place (get writers k)) keys)
in_turn place [] writers found = omega arith
in_turn place (x ∷ keys) writers found =
    let earlier : Key → ℕ = λ k. earlier_place place (get writers k) in
    let rest = latest (λ k. cond (key_eq k x) 0 (earlier k)) keys in
    let same = counted earlier x keys in
    in_turn place keys (insert writers x place) (max found (earlier x))
    ∙ ap (max (max found (earlier x)))
    (agree (λ k. earlier_place place (get (insert writers x place) k)) (λ k. cond (key_eq k x) 0 (earlier k))
    (λ k. ap (earlier_place place) (get-insert key_total writers x place k) ∙ own_place (key_eq k x) place (get writers k)) keys)
    ∙ grouped found (earlier x) rest (latest earlier keys) same
  where
    grouped : (a b c d : ℕ) → max b c ≡ max b d → max (max a b) c ≡ max a (max b d)
    grouped a b c d h = omega (arith, h)
