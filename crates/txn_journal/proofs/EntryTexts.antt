-- Entries that were read beforehand: their text, and what it makes of a reading.
use Rattle.std.proofs.Common.{◌≡◌, ℕ, ◌+◌, ◌-◌, ◌^◌, ◌≤◌, suc, ◌<◌, true, List, [], ◌∷◌, ◌++◌, length, Option, None, Result, Ok, refl, sym, ap, subst, ◌∙◌, append_assoc, arith}
use Rattle.std.specs.Prelude.{◌&&◌, codes, nat_le}
use Rattle.std.proofs.lemmas.List.{length_push}
use Rattle.std.specs.List.{list_all, AllByRecursion}
use Rattle.std.proofs.lemmas.Bool.{and_parts, le-leb}
use Rattle.gtid_set.proofs.SpanLemmas.{all_push}
use Rattle.gtid_text.specs.declared.Gtid.{Gtid}
use Rattle.rows.specs.declared.change.Change.{Change}
use Rattle.rows.specs.declared.limits.Limits.{Limits}
use Rattle.rows.specs.declared.limits.Limits.TheVariants.{Narrow}
use Rattle.rows.specs.Limits.{most_changes}
use Rattle.txn_journal.specs.Words.{IsOneLine}
use Rattle.txn_journal.specs.ChangeLines.{change_in}
use Rattle.journal.specs.Writing.{is_change_writable}
use Rattle.txn_journal.specs.Kept.{AreWritable}
use Rattle.txn_journal.specs.EntryLines.{ended, AreChangeLines, BeginsWithGtid, BeginsWithChanges, IsEntryText}
use Rattle.txn_journal.specs.TakenEntries.{judge_all, Makes}
use Rattle.txn_journal.specs.Stream.{Judge, Progress, Reading, unless_stopped, next_number, progress_after, feed_bytes}
use Rattle.txn_journal.specs.declared.fault.Cause.{Cause}
use Rattle.txn_journal.specs.declared.fault.JournalFault.{JournalFault}
use Rattle.txn_journal.proofs.Judged.{bind_ok, ok_is}
use Rattle.txn_journal.proofs.Pieces.{eats_append, eats_line}

-- ---- texts

pub ended_append : (xs ys : List (List ℕ)) → ended (xs ++ ys) ≡ ended xs ++ ended ys
ended_append [] ys = refl
ended_append (x ∷ xs) ys = ap (λ (t : List ℕ). x ++ 10 ∷ t) (ended_append xs ys) ∙ sym (append_assoc x (10 ∷ ended xs) (ended ys))

-- one line more was cut off
pub ended_more : (ls : List (List ℕ)) (l text left after : List ℕ) → text ≡ ended ls ++ left → left ≡ l ++ 10 ∷ after → text ≡ ended (ls ++ l ∷ []) ++ after
ended_more ls l text left after so_far parts =
    so_far
    ∙ ap (λ (t : List ℕ). ended ls ++ t) (parts ∙ sym (append_assoc l (10 ∷ []) after))
    ∙ sym (append_assoc (ended ls) (l ++ 10 ∷ []) after)
    ∙ ap (λ (t : List ℕ). t ++ after) (sym (ended_append ls (l ∷ [])))

pub one_change_more : (ls : List (List ℕ)) (cs : List Change) (l : List ℕ) (c : Change) → AreChangeLines Narrow ls cs → IsOneLine l → change_in Narrow l ≡ Ok c → AreChangeLines Narrow (ls ++ l ∷ []) (cs ++ c ∷ [])
one_change_more [] [] l c h one e = (one, e, tt)
one_change_more [] (d ∷ ds) l c h one e = absurd h
one_change_more (x ∷ xs) [] l c h one e = absurd h
one_change_more (x ∷ xs) (d ∷ ds) l c h one e = (h.0, h.1, one_change_more xs ds l c h.2 one e)

pub writable_more : (limits : Limits) (cs : List Change) (c : Change) → AreWritable limits cs → length cs < most_changes limits → is_change_writable limits c ≡ true → AreWritable limits (cs ++ c ∷ [])
writable_more limits cs c h few writes =
    let p = and_parts (nat_le (length cs) (most_changes limits)) (list_all (is_change_writable limits) cs) h in
    let le = le-leb (length (cs ++ c ∷ [])) (most_changes limits) (omega (arith, few, length_push cs c)) in
    (λ i. le i && all_push (is_change_writable limits) cs c p.1 writes i)

pub as_many : (ls : List (List ℕ)) (cs : List Change) → AreChangeLines Narrow ls cs → length ls ≡ length cs
as_many [] [] h = refl
as_many [] (c ∷ cs) h = absurd h
as_many (l ∷ ls) [] h = absurd h
as_many (l ∷ ls) (c ∷ cs) h = ap suc (as_many ls cs h.2)

pub all_whole : (ls : List (List ℕ)) (cs : List Change) (l : List ℕ) → AreChangeLines Narrow ls cs → IsOneLine l → AllByRecursion IsOneLine (ls ++ l ∷ [])
all_whole [] [] l h one = (one, tt)
all_whole [] (c ∷ cs) l h one = absurd h
all_whole (x ∷ xs) [] l h one = absurd h
all_whole (x ∷ xs) (c ∷ cs) l h one = (h.0, all_whole xs cs l h.2 one)

abbrev entry_lines : List ℕ → List (List ℕ) → List (List ℕ)
entry_lines word within = (codes "txn " ++ word) ∷ (within ++ codes "end" ∷ [])

-- an entry's lines, where they are the first of a text
pub entry_in : (text lines after : List ℕ) (g : Gtid) (cs : List Change) (b : BeginsWithGtid text g lines) (h : BeginsWithChanges lines cs after) → text ≡ ended (entry_lines b.word h.within) ++ after
entry_in text lines after g cs b h =
    let begin = codes "txn " ++ b.word in
    let end = codes "end" in
    b.parts
    ∙ ap (λ (t : List ℕ). begin ++ 10 ∷ t)
    (h.parts
    ∙ sym (append_assoc (ended h.within) (end ++ 10 ∷ []) after)
    ∙ ap (λ (t : List ℕ). t ++ after) (sym (ended_append h.within (end ∷ []))))
    ∙ sym (append_assoc begin (10 ∷ ended (h.within ++ end ∷ [])) after)

pub is_entry : (text lines after front : List ℕ) (g : Gtid) (cs : List Change) → BeginsWithGtid text g lines → BeginsWithChanges lines cs after → ((t : List ℕ) → text ≡ t ++ after → front ≡ t) → IsEntryText front g cs × (text ≡ front ++ after)
is_entry text lines after front g cs b h is =
    let parts = entry_in text lines after g cs b h in
    let same = is (ended (entry_lines b.word h.within)) parts in
    (record { word = b.word; within = h.within; parts = same; whole = b.whole; gtid_is = b.gtid_is; lines = h.lines; writable = h.writable }, parts ∙ ap (λ (t : List ℕ). t ++ after) (sym same))

-- ---- readings

next_is : (n : ℕ) → n + 1 ≤ 2 ^ 64 - 1 → next_number n ≡ n + 1
next_is n h = omega (arith, h)

pub eats_lines : {S : Type 0} (judge : Judge S) (s t : S) (n : ℕ) (lines : List (List ℕ)) → AllByRecursion IsOneLine lines → n + length lines ≤ 2 ^ 64 - 1 → judge_all judge s lines ≡ Ok t
    → feed_bytes judge (Reading s n []) (ended lines) ≡ Reading t (n + length lines) []
eats_lines judge s t n [] whole fits made = λ i. Reading (ok_is s t made i) (same i) []
  where
    same : n ≡ n + 0
    same = omega arith
eats_lines {S} judge s t n (l ∷ ls) whole fits made =
    let a = bind_ok (judge s l) (λ x. judge_all judge x ls) t made in
    ap (feed_bytes judge (Reading s n [])) (sym (append_assoc l (10 ∷ []) (ended ls)))
    ∙ eats_append judge (Reading s n []) (l ++ 10 ∷ []) (ended ls)
    ∙ ap (λ (p : Progress S). feed_bytes judge p (ended ls))
    (eats_line judge s n [] l whole.0
    ∙ ap (λ (r : Result S Cause). progress_after r (next_number n)) a.1
    ∙ ap (λ (m : ℕ). Reading a.0 m []) (next_is n (omega (arith, fits))))
    ∙ eats_lines judge a.0 t (n + 1) ls whole.1 (omega (arith, fits)) a.2
    ∙ ap (λ (m : ℕ). Reading t m []) (omega arith)

-- lines that were taken together
pub whole_taken : {S : Type 0} (judge : Judge S) (o : Option JournalFault) (s t : S) (n m count : ℕ) (rest text : List ℕ)
    → o ≡ None → rest ≡ [] → Makes judge text count s t → m ≡ n + count → m ≤ 2 ^ 64 - 1 → feed_bytes judge (unless_stopped o (Reading s n rest)) text ≡ unless_stopped o (Reading t m rest)
whole_taken {S} judge o s t n m count rest text goes first h number fits =
    let is : m ≡ n + length h.lines = number ∙ ap (λ k. n + k) h.number in
    (λ i. feed_bytes judge (unless_stopped (goes i) (Reading s n (first i))) (h.parts i))
    ∙ eats_lines judge s t n h.lines h.whole (subst (λ k. k ≤ 2 ^ 64 - 1) is fits) h.made
    ∙ sym (λ i. unless_stopped (goes i) (Reading t (is i) (first i)))
