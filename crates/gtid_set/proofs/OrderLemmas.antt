-- Places in blocks, and in their order.
use Rattle.std.proofs.Common.{◌≡◌, ◌≤◌, ◌<◌, ◌+◌, ◌-◌, ℕ, zero, suc, List, [], ◌∷◌, ◌++◌, length, take, Some, None, refl, sym, ap, ◌∙◌, arith}
use Rattle.std.specs.Prelude.{insert, slice_set}
use Rattle.std.specs.List.{concat, slice_get}
use Rattle.std.proofs.Math.Seq.{take-length, drop-length}
use Rattle.std.proofs.lemmas.List.{append-nil, append_assoc, length-append}
use Rattle.std.proofs.lemmas.List.Edits.{insert-append_left, insert-append_right}
use Rattle.std.proofs.lemmas.List.Folds.{concat-append}
use Rattle.std.proofs.lemmas.Option.{slice_get_within, slice_get_past}
use Rattle.gtid_set.specs.declared.order.Seat.{Seat}
use Rattle.gtid_set.specs.Order.{index_of, block_at}

-- ---- what is at a seat

got_right : (xs ys : List ℕ) (n : ℕ) → slice_get (xs ++ ys) (length xs + n) ≡ slice_get ys n
got_right [] ys n = ap (slice_get ys) (let e : 0 + n ≡ n = omega arith in e)
got_right (x ∷ xs) ys n = ap (slice_get (x ∷ (xs ++ ys))) (let e : length (x ∷ xs) + n ≡ suc (length xs + n) = omega arith in e) ∙ got_right xs ys n

got_left : (xs ys : List ℕ) (n place : ℕ) → slice_get xs n ≡ Some place → slice_get (xs ++ ys) n ≡ Some place
got_left [] ys zero place e = absurd cc
got_left [] ys (suc n) place e = absurd cc
got_left (x ∷ xs) ys zero place e = e
got_left (x ∷ xs) ys (suc n) place e = got_left xs ys n place e

pub got_within : (blocks : List (List ℕ)) (b o place : ℕ) → slice_get (block_at blocks b) o ≡ Some place → slice_get (concat blocks) (length (concat (take b blocks)) + o) ≡ Some place
got_within [] zero zero place e = absurd cc
got_within [] zero (suc o) place e = absurd cc
got_within [] (suc b) zero place e = absurd cc
got_within [] (suc b) (suc o) place e = absurd cc
got_within (x ∷ xs) zero o place e = ap (slice_get (x ++ concat xs)) (let k : 0 + o ≡ o = omega arith in k) ∙ got_left x (concat xs) o place e
got_within (x ∷ xs) (suc b) o place e =
    let long = length-append x (concat (take b xs)) in
    ap (slice_get (x ++ concat xs)) (let k : length (x ++ concat (take b xs)) + o ≡ length x + (length (concat (take b xs)) + o) = omega (arith, long) in k)
    ∙ got_right x (concat xs) (length (concat (take b xs)) + o) ∙ got_within xs b o place e

pub take_all : (blocks : List (List ℕ)) (b : ℕ) → length blocks ≤ b → take b blocks ≡ blocks
take_all [] zero le = refl
take_all [] (suc b) le = refl
take_all (x ∷ xs) zero le = absurd (omega (arith, le))
take_all (x ∷ xs) (suc b) le = ap (λ ys. x ∷ ys) (take_all xs b (omega (arith, le)))

pub got_behind : (blocks : List (List ℕ)) (b o : ℕ) → length blocks ≤ b → slice_get (concat blocks) (length (concat (take b blocks)) + o) ≡ None
got_behind blocks b o le = slice_get_past (concat blocks) (length (concat (take b blocks)) + o) (let all = ap (λ xs. length (concat xs)) (take_all blocks b le) in omega (arith, all))

-- after all blocks all places come before a seat
pub index_behind : (blocks : List (List ℕ)) (seat : Seat) → length blocks ≤ seat.block → index_of blocks seat ≤ length (concat blocks) → index_of blocks seat ≡ length (concat blocks)
index_behind blocks seat le bound = let all = ap (λ xs. length (concat xs)) (take_all blocks seat.block le) in omega (arith, all, bound)

-- ---- the last place

last_joined : (xs ys : List ℕ) (place : ℕ) → slice_get ys (length ys - 1) ≡ Some place → slice_get (xs ++ ys) (length (xs ++ ys) - 1) ≡ Some place
last_joined [] ys place e = e
last_joined (x ∷ xs) ys place e =
    let more = last_joined xs ys place e in
    let long = slice_get_within ys (length ys - 1) place e in
    let both = length-append xs ys in
    ap (slice_get (x ∷ (xs ++ ys))) (let k : length (x ∷ (xs ++ ys)) - 1 ≡ suc (length (xs ++ ys) - 1) = omega (arith, long, both) in k) ∙ more

pub last_got : (blocks before : List (List ℕ)) (block : List ℕ) (place : ℕ) → blocks ≡ before ++ block ∷ [] → slice_get block (length block - 1) ≡ Some place → slice_get (concat blocks) (length (concat blocks) - 1) ≡ Some place
last_got blocks before block place e got =
    let parts : concat blocks ≡ concat before ++ block = ap concat e ∙ concat-append before (block ∷ []) ∙ ap (λ ys. concat before ++ ys) (append-nil block) in
    ap (λ xs. slice_get xs (length xs - 1)) parts ∙ last_joined (concat before) block place got

pub none_got : (blocks before : List (List ℕ)) (block : List ℕ) → blocks ≡ before ++ block ∷ [] → length block ≤ 0 → concat before ≡ concat blocks
none_got blocks before [] e none = sym (ap concat e ∙ concat-append before ([] ∷ []) ∙ append-nil (concat before))
none_got blocks before (x ∷ xs) e none = absurd (omega (arith, none))

-- ---- one place more

pub put_within : (blocks : List (List ℕ)) (b o place : ℕ) → b < length blocks → o ≤ length (block_at blocks b) → concat (slice_set blocks b (insert (block_at blocks b) o place)) ≡ insert (concat blocks) (length (concat (take b blocks)) + o) place
put_within [] b o place lt le = absurd (omega (arith, lt))
put_within (x ∷ xs) zero o place lt le = sym (ap (λ n. insert (x ++ concat xs) n place) (let k : 0 + o ≡ o = omega arith in k) ∙ insert-append_left x (concat xs) o place le)
put_within (x ∷ xs) (suc b) o place lt le =
    let long = length-append x (concat (take b xs)) in
    ap (λ ys. x ++ ys) (put_within xs b o place (omega (arith, lt)) le)
    ∙ sym (insert-append_right x (concat xs) (length x) (length (x ++ concat (take b xs)) + o) place refl (omega (arith, long))
    ∙ ap (λ n. x ++ insert (concat xs) n place) (let k : length (x ++ concat (take b xs)) + o - length x ≡ length (concat (take b xs)) + o = omega (arith, long) in k))

insert_end : (xs : List ℕ) (place : ℕ) → insert xs (length xs) place ≡ xs ++ place ∷ []
insert_end xs place = (λ i. take-length xs i ++ place ∷ drop-length xs i)

pub put_end : (blocks : List (List ℕ)) (n place : ℕ) → n + 1 ≡ length blocks → concat (slice_set blocks n (insert (block_at blocks n) (length (block_at blocks n)) place)) ≡ concat blocks ++ place ∷ []
put_end [] n place e = absurd (omega (arith, e))
put_end (x ∷ []) zero place e = append-nil (insert x (length x) place) ∙ insert_end x place ∙ ap (λ ys. ys ++ place ∷ []) (sym (append-nil x))
put_end (x ∷ y ∷ ys) zero place e = absurd (omega (arith, e))
put_end (x ∷ xs) (suc n) place e = ap (λ ys. x ++ ys) (put_end xs n place (omega (arith, e))) ∙ sym (append_assoc x (concat xs) (place ∷ []))

pub put_behind : (order : List ℕ) (n place : ℕ) → n ≡ length order → order ++ place ∷ [] ≡ insert order n place
put_behind order n place e = sym (ap (λ k. insert order k place) e ∙ insert_end order place)

-- ---- a block is cut in halves

pub split_within : (blocks : List (List ℕ)) (at : ℕ) (lower upper : List ℕ) → at < length blocks → block_at blocks at ≡ lower ++ upper → concat (insert (slice_set blocks at lower) (at + 1) upper) ≡ concat blocks
split_within [] at lower upper lt e = absurd (omega (arith, lt))
split_within (x ∷ xs) zero lower upper lt e = sym (append_assoc lower upper (concat xs)) ∙ ap (λ ys. ys ++ concat xs) (sym e)
split_within (x ∷ xs) (suc at) lower upper lt e =
    ap (λ n. concat (insert (x ∷ slice_set xs at lower) n upper)) (let k : suc at + 1 ≡ suc (at + 1) = omega arith in k)
    ∙ ap (λ ys. x ++ ys) (split_within xs at lower upper (omega (arith, lt)) e)

pub same_within : (blocks : List (List ℕ)) (at : ℕ) (block : List ℕ) → at < length blocks → block ≡ block_at blocks at → slice_set blocks at block ≡ blocks
same_within [] at block lt e = absurd (omega (arith, lt))
same_within (x ∷ xs) zero block lt e = ap (λ y. y ∷ xs) e
same_within (x ∷ xs) (suc at) block lt e = ap (λ ys. x ∷ ys) (same_within xs at block (omega (arith, lt)) e)
