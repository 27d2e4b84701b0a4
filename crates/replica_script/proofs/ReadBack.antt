-- What is written of an event of a seat is read back.
use Rattle.std.proofs.Common.{◌≡◌, ℕ, ◌^◌, ◌<◌, List, ◌∷◌, ◌++◌, Some, refl, ap, ◌∙◌, append_assoc, arith}
use Rattle.std.specs.Prelude.{codes, option_and_then, decimal}
use Rattle.row_images.specs.Words.{first_word, count_of}
use Rattle.row_images.proofs.Counts.{first_word-front, others-front, first_word-whole, others-whole, decimal_lacks, count_again}
use Rattle.replica_core.specs.declared.event.Event.TheVariants.{Take, Commit, Rollback}
use Rattle.replica_lines.specs.Events.{event_line}
use Rattle.txn_journal.specs.declared.lines.Version.{Version}
use Rattle.replica_script.specs.declared.question.Question.TheVariants.{Event}
use Rattle.replica_script.specs.Questions.{question_of, seat, with_one, with_three, behind_one, behind_two, with_numbers}

-- a number before others
first_number : (n : ℕ) (r : List ℕ) → n < 2 ^ 64 → count_of (first_word (decimal n ++ 32 ∷ r)) ≡ Some n
first_number n r fits = ap count_of (first_word-front (decimal n) r (decimal_lacks 32 n refl fits)) ∙ count_again n fits

-- the last number
last_number : (n : ℕ) → n < 2 ^ 64 → count_of (first_word (decimal n)) ≡ Some n
last_number n fits = ap count_of (first_word-whole (decimal n) (decimal_lacks 32 n refl fits)) ∙ count_again n fits

numbers_alone : (word : List ℕ) (n : ℕ) → n < 2 ^ 64 → with_numbers word (decimal n) ≡ with_one word n
numbers_alone word n fits = λ i. option_and_then (behind_one word (others-whole (decimal n) (decimal_lacks 32 n refl fits) i)) (last_number n fits i)

numbers_before : (word : List ℕ) (n : ℕ) (r : List ℕ) → n < 2 ^ 64 → with_numbers word (decimal n ++ 32 ∷ r) ≡ behind_one word (Some r) n
numbers_before word n r fits = λ i. option_and_then (behind_one word (others-front (decimal n) r (decimal_lacks 32 n refl fits) i)) (first_number n r fits i)

second_before : (word : List ℕ) (first n : ℕ) (r : List ℕ) → n < 2 ^ 64 → behind_one word (Some (decimal n ++ 32 ∷ r)) first ≡ behind_two word first (Some r) n
second_before word first n r fits = λ i. option_and_then (behind_two word first (others-front (decimal n) r (decimal_lacks 32 n refl fits) i)) (first_number n r fits i)

third_alone : (word : List ℕ) (first second n : ℕ) → n < 2 ^ 64 → behind_two word first (Some (decimal n)) second ≡ with_three word first second n
third_alone word first second n fits = ap (option_and_then (with_three word first second)) (count_again n fits)

same_seat : (n : ℕ) → n < 2 ^ 8 → seat n ≡ n
same_seat n fits = grind arith

pub take_again : (n channel place : ℕ) → n < 2 ^ 8 → channel < 2 ^ 64 → place < 2 ^ 64 → (version : Version) → question_of version (event_line (Take n channel place)) ≡ Some (Event (Take n channel place))
take_again n channel place few c p version =
    ap (with_numbers (codes "take")) (append_assoc (decimal n) (32 ∷ decimal channel) (32 ∷ decimal place))
    ∙ numbers_before (codes "take") n (decimal channel ++ 32 ∷ decimal place) (omega arith)
    ∙ second_before (codes "take") n channel (decimal place) c
    ∙ third_alone (codes "take") n channel place p
    ∙ ap (λ (s : ℕ). Some (Event (Take s channel place))) (same_seat n few)

pub commit_again : (n : ℕ) → n < 2 ^ 8 → (version : Version) → question_of version (event_line (Commit n)) ≡ Some (Event (Commit n))
commit_again n few version = numbers_alone (codes "commit") n (omega arith) ∙ ap (λ (s : ℕ). Some (Event (Commit s))) (same_seat n few)

pub rollback_again : (n : ℕ) → n < 2 ^ 8 → (version : Version) → question_of version (event_line (Rollback n)) ≡ Some (Event (Rollback n))
rollback_again n few version = numbers_alone (codes "rollback") n (omega arith) ∙ ap (λ (s : ℕ). Some (Event (Rollback s))) (same_seat n few)
