-- The seat of a source among blocks.
use Rattle.std.proofs.Common.{◌≡◌, ◌≢◌, ◌≤◌, ◌<◌, ◌+◌, ◌-◌, ℕ, zero, suc, Bool, true, false, not, ◌&&◌, nat_lt, List, [], ◌∷◌, ◌++◌, length, take, drop, Some, None, refl, sym, ap, subst, ◌∙◌, arith}
use Rattle.std.specs.List.{concat, list_all, slice_get}
use Rattle.std.proofs.Math.Seq.{take-append-add, drop-append-add}
use Rattle.std.proofs.lemmas.Bool.{and_parts, and_from}
use Rattle.std.proofs.lemmas.Bool.Decides.{nat_tests}
use Rattle.std.proofs.lemmas.List.{length-append, map-append, take-append-le, drop-append-le, append_assoc, append-nil}
use Rattle.gtid_set.specs.declared.sources.SourceList.{SourceList}
use Rattle.gtid_set.specs.Kept.{source_at, sources_at, are_places, are_ascending, comes_before, IsSourceAt, IsNoSourceAt, IsSourcePlace}
use Rattle.gtid_set.specs.Order.{are_below, block_at, HasFrom, BeginsBelow, IsBlockOf}
use Rattle.gtid_set.proofs.SpanLemmas.{all_weaker, all_parts, all_joined}
use Rattle.gtid_set.proofs.KeptLemmas.{got_all}
use Rattle.gtid_set.proofs.OrderLemmas.{take_all}

-- ---- sources at places

pub place_got : (test : ℕ → Bool) (is : List ℕ) (n i : ℕ) → list_all test is ≡ true → slice_get is n ≡ Some i → test i ≡ true
place_got test [] zero i all e = absurd cc
place_got test [] (suc n) i all e = absurd cc
place_got test (j ∷ js) zero i all e = ap test (same_one j i e) ∙ (and_parts (test j) (list_all test js) all).0
  where
    same_one : (j i : ℕ) → Some j ≡ Some i → i ≡ j
    same_one j i e = cc
place_got test (j ∷ js) (suc n) i all e = place_got test js n i (and_parts (test j) (list_all test js) all).1 e

pub inside_got : (sources : List SourceList) (is : List ℕ) (n i : ℕ) → are_places sources is ≡ true → slice_get is n ≡ Some i → i < length sources
inside_got sources is n i all e = let lt = place_got (λ i. nat_lt i (length sources)) is n i all e in less lt
  where
    less : nat_lt i (length sources) ≡ true → i < length sources
    less lt = grind (arith, nat_tests)

pub listed_got : (sources : List SourceList) (is : List ℕ) (n i : ℕ) → slice_get is n ≡ Some i → slice_get (sources_at sources is) n ≡ Some (source_at sources i)
listed_got sources [] zero i e = absurd cc
listed_got sources [] (suc n) i e = absurd cc
listed_got sources (j ∷ js) zero i e = ap (λ k. Some (source_at sources k)) (same_one j i e)
  where
    same_one : (j i : ℕ) → Some j ≡ Some i → j ≡ i
    same_one j i e = cc
listed_got sources (j ∷ js) (suc n) i e = listed_got sources js n i e

pub listed_none : (sources : List SourceList) (is : List ℕ) (n : ℕ) → slice_get is n ≡ None → slice_get (sources_at sources is) n ≡ None
listed_none sources [] zero e = refl
listed_none sources [] (suc n) e = refl
listed_none sources (j ∷ js) zero e = absurd cc
listed_none sources (j ∷ js) (suc n) e = listed_none sources js n e

pub found_at : (sources : List SourceList) (is : List ℕ) (n i id : ℕ) → slice_get is n ≡ Some i → (source_at sources i).id ≡ id → IsSourceAt (sources_at sources is) n id (source_at sources i)
found_at sources is n i id e same = record { got = listed_got sources is n i e; same = same }

pub other_at : (sources : List SourceList) (is : List ℕ) (n i id : ℕ) → slice_get is n ≡ Some i → (source_at sources i).id ≢ id → IsNoSourceAt (sources_at sources is) n id
other_at sources is n i id e other s got same = other (ap (λ (t : SourceList). t.id) (one (sym (listed_got sources is n i e) ∙ got)) ∙ same)
  where
    one : {t u : SourceList} → Some t ≡ Some u → t ≡ u
    one e = cc

pub none_at : (sources : List SourceList) (is : List ℕ) (n id : ℕ) → slice_get is n ≡ None → IsNoSourceAt (sources_at sources is) n id
none_at sources is n id e s got same = absurd (never (sym (listed_none sources is n e) ∙ got))
  where
    never : None ≡ Some s → ⊥
    never e = cc

-- ---- a block among others

pub split_concat : (blocks : List (List ℕ)) (b : ℕ) → b < length blocks → concat blocks ≡ concat (take b blocks) ++ (block_at blocks b ++ concat (drop (b + 1) blocks))
split_concat [] b lt = absurd (omega (arith, lt))
split_concat (x ∷ xs) zero lt = refl
split_concat (x ∷ xs) (suc b) lt =
    ap (λ ys. x ++ ys) (split_concat xs b (omega (arith, lt)))
    ∙ sym (append_assoc x (concat (take b xs)) (block_at xs b ++ concat (drop (b + 1) xs)))
    ∙ ap (λ n. x ++ concat (take b xs) ++ (block_at xs b ++ concat (drop n (x ∷ xs)))) (let k : suc (b + 1) ≡ suc b + 1 = omega arith in k)

next_concat : (blocks : List (List ℕ)) (b : ℕ) → b < length blocks → concat (take (b + 1) blocks) ≡ concat (take b blocks) ++ block_at blocks b
next_concat [] b lt = absurd (omega (arith, lt))
next_concat (x ∷ xs) zero lt = append-nil x
next_concat (x ∷ xs) (suc b) lt =
    ap (λ n. concat (take n (x ∷ xs))) (let k : suc b + 1 ≡ suc (b + 1) = omega arith in k)
    ∙ ap (λ ys. x ++ ys) (next_concat xs b (omega (arith, lt))) ∙ sym (append_assoc x (concat (take b xs)) (block_at xs b))

pub all_block : (test : ℕ → Bool) (blocks : List (List ℕ)) (b : ℕ) → b < length blocks → list_all test (concat blocks) ≡ true → list_all test (block_at blocks b) ≡ true
all_block test blocks b lt all =
    (all_parts test (block_at blocks b) (concat (drop (b + 1) blocks)) (all_parts test (concat (take b blocks)) (block_at blocks b ++ concat (drop (b + 1) blocks)) (ap (list_all test) (sym (split_concat blocks b lt)) ∙ all)).1).0

rising_parts : (xs ys : List SourceList) → are_ascending (xs ++ ys) ≡ true → (are_ascending xs ≡ true) × (are_ascending ys ≡ true)
rising_parts [] ys r = (refl, r)
rising_parts (x ∷ xs) ys r =
    let w = and_parts (list_all (λ t. nat_lt x.id t.id) (xs ++ ys)) (are_ascending (xs ++ ys)) r in
    let more = rising_parts xs ys w.1 in
    (and_from (list_all (λ t. nat_lt x.id t.id) xs) (are_ascending xs) (all_parts (λ t. nat_lt x.id t.id) xs ys w.0).0 more.0, more.1)

-- the sources in order, as those of the blocks before one, of its own, and of those behind
listed_split : (sources : List SourceList) (blocks : List (List ℕ)) (b : ℕ) → b < length blocks
    → sources_at sources (concat blocks) ≡ sources_at sources (concat (take b blocks)) ++ (sources_at sources (block_at blocks b) ++ sources_at sources (concat (drop (b + 1) blocks)))
listed_split sources blocks b lt =
    ap (sources_at sources) (split_concat blocks b lt) ∙ map-append (source_at sources) (concat (take b blocks)) (block_at blocks b ++ concat (drop (b + 1) blocks))
    ∙ ap (λ ys. sources_at sources (concat (take b blocks)) ++ ys) (map-append (source_at sources) (block_at blocks b) (concat (drop (b + 1) blocks)))

pub rising_block : (sources : List SourceList) (blocks : List (List ℕ)) (b : ℕ) → b < length blocks → are_ascending (sources_at sources (concat blocks)) ≡ true → are_ascending (sources_at sources (block_at blocks b)) ≡ true
rising_block sources blocks b lt r =
    let before = sources_at sources (concat (take b blocks)) in
    let here = sources_at sources (block_at blocks b) in
    let behind = sources_at sources (concat (drop (b + 1) blocks)) in
    (rising_parts here behind (rising_parts before (here ++ behind) (ap are_ascending (sym (listed_split sources blocks b lt)) ∙ r)).1).0

-- ---- less, and not less

less_through : (a b c : ℕ) → nat_lt a b ≡ true → nat_lt b c ≡ true → nat_lt a c ≡ true
less_through a b c h k = grind (arith, nat_tests)

-- all are less where the last is
less_by_last : (ss : List SourceList) (s : SourceList) (id : ℕ) → are_ascending ss ≡ true → slice_get ss (length ss - 1) ≡ Some s → nat_lt s.id id ≡ true → list_all (λ t. nat_lt t.id id) ss ≡ true
less_by_last [] s id r got lt = refl
less_by_last (t ∷ []) s id r got lt = and_from (nat_lt t.id id) true (ap (λ (u : SourceList). nat_lt u.id id) (one got) ∙ lt) refl
  where
    one : Some t ≡ Some s → t ≡ s
    one e = cc
less_by_last (t ∷ u ∷ us) s id r got lt =
    let w = and_parts (list_all (λ v. nat_lt t.id v.id) (u ∷ us)) (are_ascending (u ∷ us)) r in
    let more = less_by_last (u ∷ us) s id w.1 (ap (slice_get (t ∷ u ∷ us)) (let k : suc (length (u ∷ us) - 1) ≡ length (t ∷ u ∷ us) - 1 = omega arith in k) ∙ got) lt in
    and_from (nat_lt t.id id) (list_all (λ v. nat_lt v.id id) (u ∷ us))
    (less_through t.id u.id id (and_parts (nat_lt t.id u.id) (list_all (λ v. nat_lt t.id v.id) us) w.0).0 (and_parts (nat_lt u.id id) (list_all (λ v. nat_lt v.id id) us) more).0) more

-- those before one that is less are less
less_before : (xs ys : List SourceList) (n : ℕ) (s : SourceList) (id : ℕ) → are_ascending (xs ++ ys) ≡ true → slice_get ys n ≡ Some s → nat_lt s.id id ≡ true → list_all (λ t. nat_lt t.id id) xs ≡ true
less_before [] ys n s id r got lt = refl
less_before (x ∷ xs) ys n s id r got lt =
    let w = and_parts (list_all (λ t. nat_lt x.id t.id) (xs ++ ys)) (are_ascending (xs ++ ys)) r in
    and_from (nat_lt x.id id) (list_all (λ t. nat_lt t.id id) xs)
    (less_through x.id s.id id (got_all (λ t. nat_lt x.id t.id) ys n s (all_parts (λ t. nat_lt x.id t.id) xs ys w.0).1 got) lt) (less_before xs ys n s id w.1 got lt)

not_less_through : (a b c : ℕ) → nat_lt a c ≡ false → nat_lt a b ≡ true → not (nat_lt b c) ≡ true
not_less_through a b c h k = grind (arith, nat_tests)

-- those after one that is not less are not less
not_less_behind : (xs ys : List SourceList) (n : ℕ) (s : SourceList) (id : ℕ) → are_ascending (xs ++ ys) ≡ true → slice_get xs n ≡ Some s → nat_lt s.id id ≡ false → list_all (λ t. not (nat_lt t.id id)) ys ≡ true
not_less_behind [] ys zero s id r got ge = absurd cc
not_less_behind [] ys (suc n) s id r got ge = absurd cc
not_less_behind (x ∷ xs) ys zero s id r got ge =
    let w = and_parts (list_all (λ t. nat_lt x.id t.id) (xs ++ ys)) (are_ascending (xs ++ ys)) r in
    all_weaker (λ t. nat_lt x.id t.id) (λ t. not (nat_lt t.id id)) ys (λ t lt. not_less_through x.id t.id id (ap (λ (u : SourceList). nat_lt u.id id) (one got) ∙ ge) lt) (all_parts (λ t. nat_lt x.id t.id) xs ys w.0).1
  where
    one : Some x ≡ Some s → x ≡ s
    one e = cc
not_less_behind (x ∷ xs) ys (suc n) s id r got ge = not_less_behind xs ys n s id (and_parts (list_all (λ t. nat_lt x.id t.id) (xs ++ ys)) (are_ascending (xs ++ ys)) r).1 got ge

-- ---- the block of a source

pub ends_below : (sources : List SourceList) (block : List ℕ) (place id : ℕ) → are_ascending (sources_at sources block) ≡ true → slice_get block (length block - 1) ≡ Some place → comes_before sources id place ≡ true → are_below sources id block ≡ true
ends_below sources block place id r got before =
    less_by_last (sources_at sources block) (source_at sources place) id r (ap (λ n. slice_get (sources_at sources block) (n - 1)) (sym (long block)) ∙ listed_got sources block (length block - 1) place got)
    (and_parts (nat_lt place (length sources)) (nat_lt (source_at sources place).id id) before).1
  where
    long : (is : List ℕ) → length is ≡ length (sources_at sources is)
    long [] = refl
    long (i ∷ is) = ap suc (long is)

pub ends_from : (sources : List SourceList) (block : List ℕ) (place id n : ℕ) → are_places sources block ≡ true → slice_get block n ≡ Some place → comes_before sources id place ≡ false → HasFrom sources block id
ends_from sources block place id n places got before = record {
  at = n;
  source = source_at sources place;
  got = listed_got sources block n place got;
  from = not_before (nat_lt place (length sources)) (nat_lt (source_at sources place).id id) (place_got (λ i. nat_lt i (length sources)) block n place places got) before;
}
  where
    not_before : (a b : Bool) → a ≡ true → (a && b) ≡ false → b ≡ false
    not_before true b e h = h
    not_before false b e h = absurd cc

pub begins_below : (sources : List SourceList) (block : List ℕ) (place id : ℕ) → slice_get block 0 ≡ Some place → comes_before sources id place ≡ true → BeginsBelow sources block id
begins_below sources block place id got before = record {
  source = source_at sources place;
  got = listed_got sources block 0 place got;
  below = (and_parts (nat_lt place (length sources)) (nat_lt (source_at sources place).id id) before).1;
}

pub start_below : (sources : List SourceList) (blocks : List (List ℕ)) (id b : ℕ) → are_ascending (sources_at sources (concat blocks)) ≡ true → b < length blocks → BeginsBelow sources (block_at blocks b) id → are_below sources id (concat (take b blocks)) ≡ true
start_below sources blocks id b r lt begins =
    let here = sources_at sources (block_at blocks b) in
    let behind = sources_at sources (concat (drop (b + 1) blocks)) in
    less_before (sources_at sources (concat (take b blocks))) (here ++ behind) 0 begins.source id (ap are_ascending (sym (listed_split sources blocks b lt)) ∙ r) (first here behind begins.source begins.got) begins.below
  where
    first : (xs ys : List SourceList) (s : SourceList) → slice_get xs 0 ≡ Some s → slice_get (xs ++ ys) 0 ≡ Some s
    first [] ys s e = absurd cc
    first (x ∷ xs) ys s e = e

pub below_next : (sources : List SourceList) (blocks : List (List ℕ)) (id b : ℕ) → b < length blocks → are_below sources id (concat (take b blocks)) ≡ true → are_below sources id (block_at blocks b) ≡ true → are_below sources id (concat (take (b + 1) blocks)) ≡ true
below_next sources blocks id b lt before here =
    ap (λ is. list_all (λ s. nat_lt s.id id) (sources_at sources is)) (next_concat blocks b lt)
    ∙ ap (list_all (λ s. nat_lt s.id id)) (map-append (source_at sources) (concat (take b blocks)) (block_at blocks b))
    ∙ all_joined (λ s. nat_lt s.id id) (sources_at sources (concat (take b blocks))) (sources_at sources (block_at blocks b)) before here

-- ---- the seat of a source

length_listed : (sources : List SourceList) (is : List ℕ) → length is ≡ length (sources_at sources is)
length_listed sources [] = refl
length_listed sources (i ∷ is) = ap suc (length_listed sources is)

place_joined : (xs ys zs : List SourceList) (id o : ℕ) → list_all (λ s. nat_lt s.id id) xs ≡ true → IsSourcePlace ys id o → list_all (λ s. not (nat_lt s.id id)) zs ≡ true → IsSourcePlace (xs ++ (ys ++ zs)) id (length xs + o)
place_joined xs ys zs id o before place behind =
    let bound = place.bound in
    let long = length-append xs (ys ++ zs) in
    let more = length-append ys zs in
    record {
      bound = omega (arith, bound, long, more);
      before = ap (list_all (λ s. nat_lt s.id id)) (take-append-add xs (ys ++ zs) o ∙ ap (λ us. xs ++ us) (take-append-le o ys zs bound))
          ∙ all_joined (λ s. nat_lt s.id id) xs (take o ys) before place.before;
      behind = ap (list_all (λ s. not (nat_lt s.id id))) (drop-append-add xs (ys ++ zs) o ∙ drop-append-le o ys zs bound)
          ∙ all_joined (λ s. not (nat_lt s.id id)) (drop o ys) zs place.behind behind;
    }

-- a seat within a block
pub seated : (sources : List SourceList) (blocks : List (List ℕ)) (id b o : ℕ) → are_ascending (sources_at sources (concat blocks)) ≡ true → b < length blocks → IsBlockOf sources blocks id b → IsSourcePlace (sources_at sources (block_at blocks b)) id o
    → IsSourcePlace (sources_at sources (concat blocks)) id (length (concat (take b blocks)) + o)
seated sources blocks id b o r lt of place =
    let xs = sources_at sources (concat (take b blocks)) in
    let here = sources_at sources (block_at blocks b) in
    let zs = sources_at sources (concat (drop (b + 1) blocks)) in
    let from = of.ends lt in
    let r2 = (rising_parts xs (here ++ zs) (ap are_ascending (sym (listed_split sources blocks b lt)) ∙ r)).1 in
    subst (λ ss. IsSourcePlace ss id (length (concat (take b blocks)) + o)) (sym (listed_split sources blocks b lt))
    (subst (λ n. IsSourcePlace (xs ++ (here ++ zs)) id (n + o)) (sym (length_listed sources (concat (take b blocks))))
    (place_joined xs here zs id o of.before place (not_less_behind here zs from.at from.source id r2 from.got from.from)))

-- it is one of the block's
pub seat_within : (sources : List SourceList) (block : List ℕ) (id o : ℕ) → HasFrom sources block id → IsSourcePlace (sources_at sources block) id o → o < length block
seat_within sources block id o from place = let long = length_listed sources block in let lt = short (sources_at sources block) o from.at from.source from.got from.from place.bound place.before in omega (arith, long, lt)
  where
    short : (ss : List SourceList) (o n : ℕ) (s : SourceList) → slice_get ss n ≡ Some s → nat_lt s.id id ≡ false → o ≤ length ss → list_all (λ t. nat_lt t.id id) (take o ss) ≡ true → o < length ss
    short [] o zero s got ge le all = absurd cc
    short [] o (suc n) s got ge le all = absurd cc
    short (t ∷ ts) zero n s got ge le all = omega arith
    short (t ∷ ts) (suc o) zero s got ge le all = absurd (clash (nat_lt t.id id) (and_parts (nat_lt t.id id) (list_all (λ t. nat_lt t.id id) (take o ts)) all).0 (ap (λ (u : SourceList). nat_lt u.id id) (one t s got) ∙ ge))
      where
        one : (t s : SourceList) → Some t ≡ Some s → t ≡ s
        one t s e = cc

        clash : (b : Bool) → b ≡ true → b ≡ false → ⊥
        clash b e f = cc
    short (t ∷ ts) (suc o) (suc n) s got ge le all =
        let lt = short ts o n s got ge (omega (arith, le)) (and_parts (nat_lt t.id id) (list_all (λ t. nat_lt t.id id) (take o ts)) all).1 in
        omega (arith, lt)

-- after all blocks
pub seated_behind : (sources : List SourceList) (blocks : List (List ℕ)) (id b : ℕ) → length blocks ≤ b → IsBlockOf sources blocks id b → IsSourcePlace (sources_at sources (concat blocks)) id (length (concat (take b blocks)) + 0)
seated_behind sources blocks id b le of =
    let all = take_all blocks b le in
    let long = length_listed sources (concat blocks) in
    let less : are_below sources id (concat blocks) ≡ true = ap (λ xs. are_below sources id (concat xs)) (sym all) ∙ of.before in
    let end : length (concat (take b blocks)) + 0 ≡ length (sources_at sources (concat blocks)) = (let k = ap (λ xs. length (concat xs)) all in omega (arith, k, long)) in
    subst (IsSourcePlace (sources_at sources (concat blocks)) id) (sym end) (last (sources_at sources (concat blocks)) less)
  where
    last : (ss : List SourceList) → list_all (λ s. nat_lt s.id id) ss ≡ true → IsSourcePlace ss id (length ss)
    last [] h = record { bound = omega arith; before = refl; behind = refl }
    last (s ∷ ss) h =
        let w = and_parts (nat_lt s.id id) (list_all (λ s. nat_lt s.id id) ss) h in
        let more = last ss w.1 in
        record { bound = omega arith; before = and_from (nat_lt s.id id) (list_all (λ s. nat_lt s.id id) (take (length ss) ss)) w.0 more.before; behind = more.behind }
