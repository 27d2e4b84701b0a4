-- Words that are new, one after another.
use Rattle.std.proofs.Common.{◌≡◌, ℕ, suc, ◌+◌, ◌-◌, ◌<◌, ◌≤◌, Bool, true, false, not, cond, List, [], ◌∷◌, ◌++◌, length, map, get_or, take, drop, Result, refl, sym, ap, subst, ◌∙◌, Bor, arith}
use Rattle.std.specs.Prelude.{◌&&◌, ◌||◌, codes}
use Rattle.std.specs.List.{list_any}
use Rattle.std.specs.Str.{bytes_eq}
use Rattle.std.specs.Ordering.{nat_cmp, is_eq, match_ordering}
use Rattle.std.specs.declared.cmp.Ordering.{Ordering}
use Rattle.std.specs.declared.cmp.Ordering.TheVariants.{Less, Equal, Greater}
use Rattle.std.specs.Cmp.Lexicographic.{slice_cmp}
use Rattle.std.specs.BTreeSet.{insert_key}
use Rattle.std.proofs.Math.Seq.{drop-cons}
use Rattle.std.proofs.lemmas.List.{take_rest}
use Rattle.std.proofs.lemmas.Map.Text.{is_eq-slice_cmp}
use Rattle.std.proofs.lemmas.Slice.Eq.{bytes_eq-Decides}
use Rattle.lemmas.proofs.Tests.{or_twice}
use Rattle.txn_journal.specs.Splits.{are_new_to, is_columns_text}
use Rattle.rows.specs.declared.limits.Limits.{Limits}
use Rattle.txn_journal.specs.Shapes.{Behind, is_last_pair, hidden_behind, behind_from}
use Rattle.txn_journal.specs.declared.fault.Cause.{Cause}

abbrev pub Word : Type 0
Word = Bor (List ℕ)

abbrev pub texts : List Word → List (List ℕ)
texts ws = map (λ w. w.now) ws

-- a text is among the keys
abbrev pub seen_in : List Word → List ℕ → Bool
seen_in keys v = list_any (λ k. bytes_eq v k.now) keys

abbrev pub by_bytes : Word → Word → Ordering
by_bytes a b = slice_cmp nat_cmp a.now b.now

pub found_seen : (keys : List Word) (w : Word) → list_any (λ k. is_eq (by_bytes w k)) keys ≡ seen_in keys w.now
found_seen [] w = refl
found_seen (k ∷ ks) w = rw (is_eq-slice_cmp w.now k.now, found_seen ks w) refl

or_swap : (a b r : Bool) → (b || (a || r)) ≡ (a || (b || r))
or_swap a b r = grind arith

insert_on : (o : Ordering) (v : List ℕ) (w x : Word) (xs ys : List Word) → is_eq o ≡ bytes_eq w.now x.now → seen_in ys v ≡ (bytes_eq v w.now || seen_in xs v) → seen_in (match_ordering o (w ∷ x ∷ xs) (x ∷ xs) (x ∷ ys)) v ≡ (bytes_eq v w.now || (bytes_eq v x.now || seen_in xs v))
insert_on Less v w x xs ys e more = refl
insert_on Equal v w x xs ys e more =
    let same : w.now ≡ x.now = (bytes_eq-Decides w.now x.now).0 (sym e) in
    subst (λ (t : List ℕ). (bytes_eq v t || seen_in xs v) ≡ (bytes_eq v w.now || (bytes_eq v t || seen_in xs v))) same (or_twice (bytes_eq v w.now) (seen_in xs v))
insert_on Greater v w x xs ys e more = ap (λ (b : Bool). bytes_eq v x.now || b) more ∙ or_swap (bytes_eq v w.now) (bytes_eq v x.now) (seen_in xs v)

pub seen_insert : (keys : List Word) (w : Word) (v : List ℕ) → seen_in (insert_key by_bytes keys w) v ≡ (bytes_eq v w.now || seen_in keys v)
seen_insert [] w v = refl
seen_insert (x ∷ xs) w v = insert_on (by_bytes w x) v w x xs (insert_key by_bytes xs w) (is_eq-slice_cmp w.now x.now) (seen_insert xs w v)

pub new_refused : (keys words : List Word) (i : ℕ) (d : Word) (all : Bool) → i < length words → are_new_to (seen_in keys) (texts (drop i words)) ≡ all → list_any (λ k. is_eq (by_bytes (get_or words i d) k)) keys ≡ true → false ≡ all
unfolding are_new_to
new_refused keys words i d all lt so_far found =
    let w = get_or words i d in
    let known : seen_in keys w.now ≡ true = sym (found_seen keys w) ∙ found in
    let step : are_new_to (seen_in keys) (texts (drop i words)) ≡ false = ap (λ (t : List Word). are_new_to (seen_in keys) (texts t)) (drop-cons words i d lt) ∙ ap (λ (b : Bool). not b && are_new_to (λ v. bytes_eq v w.now || seen_in keys v) (texts (drop (suc i) words))) known in
    sym step ∙ so_far

pub new_next : (keys words new : List Word) (i : ℕ) (d : Word) (all : Bool) → i < length words → are_new_to (seen_in keys) (texts (drop i words)) ≡ all → list_any (λ k. is_eq (by_bytes (get_or words i d) k)) keys ≡ false → new ≡ insert_key by_bytes keys (get_or words i d) → are_new_to (seen_in new) (texts (drop (i + 1) words)) ≡ all
unfolding are_new_to
new_next keys words new i d all lt so_far found inserted =
    let w = get_or words i d in
    let apart : seen_in keys w.now ≡ false = sym (found_seen keys w) ∙ found in
    let next : i + 1 ≡ suc i = omega arith in
    let seen : (v : List ℕ) → seen_in new v ≡ (bytes_eq v w.now || seen_in keys v) = λ v. ap (λ (t : List Word). seen_in t v) inserted ∙ seen_insert keys w v in
    let after : are_new_to (seen_in new) (texts (drop (i + 1) words)) ≡ are_new_to (λ v. bytes_eq v w.now || seen_in keys v) (texts (drop (suc i) words)) = λ j. are_new_to (λ v. seen v j) (texts (drop (next j) words)) in
    let step : are_new_to (seen_in keys) (texts (drop i words)) ≡ are_new_to (λ v. bytes_eq v w.now || seen_in keys v) (texts (drop (suc i) words)) = ap (λ (t : List Word). are_new_to (seen_in keys) (texts t)) (drop-cons words i d lt) ∙ ap (λ (b : Bool). not b && are_new_to (λ v. bytes_eq v w.now || seen_in keys v) (texts (drop (suc i) words))) apart in
    after ∙ sym step ∙ so_far

-- ---- unique keys

pub pair_step : (limits : Limits) (before pushed : List (List ℕ)) (left : List Word) (d e : Word) (all : Result Behind Cause) → pushed ≡ before ++ (get_or left 1 e).now ∷ [] → 2 ≤ length left → behind_from limits before (texts left) ≡ all → (bytes_eq (get_or left 0 d).now (codes "uk") && is_columns_text (get_or left 1 e).now) ≡ true → behind_from limits pushed (texts (take (length left - 2) (drop 2 left))) ≡ all
unfolding behind_from
pair_step limits before pushed [] d e all is_pushed two so_far is = absurd (omega arith)
pair_step limits before pushed (x ∷ []) d e all is_pushed two so_far is = absurd (omega arith)
pair_step limits before pushed (x ∷ y ∷ zs) d e all is_pushed two so_far is =
    ap (λ (us : List (List ℕ)). behind_from limits us (texts (take (length (x ∷ y ∷ zs) - 2) zs))) is_pushed
    ∙ ap (λ (t : List Word). behind_from limits (before ++ y.now ∷ []) (texts t)) (take_rest (x ∷ y ∷ zs) 2)
    ∙ sym (ap (λ (b : Bool). cond b (behind_from limits (before ++ y.now ∷ []) (texts zs)) (hidden_behind (is_last_pair limits x.now y.now (texts zs)) before y.now)) is)
    ∙ so_far
