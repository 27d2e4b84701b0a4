-- The first line of a piece, where it makes too many sources.
use Rattle.std.proofs.Common.{◌≡◌, ℕ, eqb, not, List, [], ◌∷◌, ◌++◌, Option, None, Result, Err, refl, sym, ap, subst, ◌∙◌}
use Rattle.std.specs.List.{list_all}
use Rattle.std.proofs.lemmas.Bool.{and_parts}
use Rattle.gtid_set.specs.declared.fault.SetFault.{SetFault}
use Rattle.gtid_set.specs.declared.fault.SetFault.TheVariants.{SourcesFull}
use Rattle.txn_journal.specs.declared.fault.JournalFault.{JournalFault}
use Rattle.txn_journal.specs.declared.fault.JournalFault.TheVariants as faults
use Rattle.txn_journal.specs.Words.{IsOneLine, BeginsWithLine}
use Rattle.txn_journal.specs.Stream.{Judge, Progress, Reading, Stopped, unless_stopped, GivesFull}

abbrev head_of : List ℕ → ℕ
head_of [] = 0
head_of (x ∷ xs) = x

abbrev tail_of : List ℕ → List ℕ
tail_of [] = []
tail_of (x ∷ xs) = xs

no_feed_first : (x : ℕ) (xs : List ℕ) → x ≡ 10 → IsOneLine (x ∷ xs) → ⊥
no_feed_first x xs e one = let p = (and_parts (not (eqb x 10)) (list_all (λ c. not (eqb c 10)) xs) one).0 in absurd (let q = sym (ap (λ c. not (eqb c 10)) e) ∙ p in cc)

rest_one : (x : ℕ) (xs : List ℕ) → IsOneLine (x ∷ xs) → IsOneLine xs
rest_one x xs one = (and_parts (not (eqb x 10)) (list_all (λ c. not (eqb c 10)) xs) one).1

-- a text has one first line
same_line : (l m a b : List ℕ) → IsOneLine l → IsOneLine m → l ++ 10 ∷ a ≡ m ++ 10 ∷ b → l ≡ m
same_line [] [] a b p q e = refl
same_line [] (y ∷ m) a b p q e = absurd (no_feed_first y m (sym (ap head_of e)) q)
same_line (x ∷ l) [] a b p q e = absurd (no_feed_first x l (ap head_of e) p)
same_line (x ∷ l) (y ∷ m) a b p q e = λ i. ap head_of e i ∷ same_line l m a b (rest_one x l p) (rest_one y m q) (ap tail_of e) i

feed_within : (line after : List ℕ) → IsOneLine (line ++ 10 ∷ after) → ⊥
feed_within [] after one = no_feed_first 10 after refl one
feed_within (x ∷ line) after one = feed_within line after (rest_one x (line ++ 10 ∷ after) one)

-- where the first line makes too many sources, no line has been taken
abbrev pub IsAtFirst : {S : Type 0} → (S → Type 0) → (SetFault → S → Type 0) → Judge S → Progress S → List ℕ → Progress S → List ℕ → Type 0
IsAtFirst {S} Counts full judge old piece now left =
    (s : S) → (n : ℕ) → (line after : List ℕ) → old ≡ Reading s n [] → Counts s → BeginsWithLine piece line after → GivesFull (full SourcesFull) (judge s line) → (left ≡ piece) × (now ≡ old)

abbrev made_in : {S : Type 0} → S → Progress S → S
made_in d (Reading s n rest) = s
made_in d (Stopped f) = d

abbrev rest_in : {S : Type 0} → Progress S → List ℕ
rest_in (Reading s n rest) = rest
rest_in (Stopped f) = []

-- how a line is taken there
pub first_taken : {S : Type 0} (Counts : S → Type 0) (full : SetFault → S → Type 0) (judge : Judge S) (o : Option JournalFault) (made : S) (lines : ℕ) (rest : List ℕ) (old : Progress S) (piece left l a : List ℕ) (result : Result (Unit {0}) JournalFault)
    → o ≡ None → IsAtFirst Counts full judge old piece (unless_stopped o (Reading made lines rest)) left → BeginsWithLine left l a
    → (Counts made → GivesFull (full SourcesFull) (judge made l) → rest ≡ [] → result ≡ Err (faults.Set SourcesFull))
    → (s : S) → (n : ℕ) → (line after : List ℕ) → old ≡ Reading s n [] → Counts s → BeginsWithLine piece line after → GivesFull (full SourcesFull) (judge s line) → result ≡ Err (faults.Set SourcesFull)
first_taken {S} Counts full judge o made lines rest old piece left l a result goes first begins taken s n line after start counts at many =
    let stands = first s n line after start counts at many in
    let here : Reading made lines rest ≡ Reading s n [] = sym (ap (λ (k : Option JournalFault). unless_stopped k (Reading made lines rest)) goes) ∙ stands.1 ∙ start in
    let same_made : made ≡ s = ap (made_in made) here in
    let same : l ≡ line = same_line l line a after begins.whole at.whole (sym begins.parts ∙ stands.0 ∙ at.parts) in
    taken (subst Counts (sym same_made) counts) (subst (λ (t : S). GivesFull (full SourcesFull) (judge t l)) (sym same_made) (subst (λ (x : List ℕ). GivesFull (full SourcesFull) (judge s x)) (sym same) many)) (ap rest_in here)

-- there is one
pub first_there : {S : Type 0} (Counts : S → Type 0) (full : SetFault → S → Type 0) (judge : Judge S) (old now : Progress S) (piece left : List ℕ)
    → IsAtFirst Counts full judge old piece now left → IsOneLine left → (s : S) → (n : ℕ) → (line after : List ℕ) → old ≡ Reading s n [] → Counts s → BeginsWithLine piece line after → GivesFull (full SourcesFull) (judge s line) → ⊥
first_there Counts full judge old now piece left first one s n line after start counts at many =
    feed_within line after (subst IsOneLine ((first s n line after start counts at many).0 ∙ at.parts) one)
