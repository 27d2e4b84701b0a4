-- What a reader of bundles gives for the bytes that have come, and how many lines they have.
use Rattle.std.proofs.Common.{◌≡◌, ℕ, zero, ◌+◌, ◌-◌, ◌^◌, ◌≤◌, Bool, true, false, cond, eqb, List, [], ◌∷◌, ◌++◌, inl, inr, refl, sym, ap, subst, ◌∙◌, arith}
use Rattle.std.specs.Prelude.{Result, Ok, Err, min, ◌==◌}
use Rattle.std.specs.List.{count_by, fold}
use Rattle.txn_journal.specs.BundleStates.{BundleValue}
use Rattle.txn_journal.specs.Stream.{Judge, Progress, Reading, Stopped, CountsLines, IsWhole, IsWholeOr, next_number, progress_after, feed_byte, feed_bytes}
use Rattle.txn_journal.specs.Formats.{closing_by}
use Rattle.txn_journal.specs.BundleReading.{BundleProgress, bundles, bundle_start, closing_bundle, IsFaultOfBundle}
use Rattle.txn_journal.specs.BundleReaders.{bundle_reading}
use Rattle.txn_journal.specs.declared.bundle_reader.BundleReader.{BundleReader}
use Rattle.txn_journal.specs.declared.fault.Cause.{Cause}
use Rattle.txn_journal.specs.declared.fault.JournalFault.{JournalFault}
use Rattle.txn_journal.specs.declared.lines.Due.TheVariants.{Any}
use Rattle.txn_journal.proofs.FormatLaws.{closed_after, is_found, is_refused, whole_of}
use Rattle.txn_journal.proofs.BundlePlaces.{IsSoundBundle, bundle_laws}
use Rattle.parallel_reading.specs.Coming.{HasCome}
use Rattle.commands.specs.Parsing.{ParsesAsBundle, bundle_in}
use Rattle.commands.specs.Counted.{line_count, counted, counted_in, ParsesAsCounted}
use Rattle.commands.specs.Texts.{IsTextOf}
use Rattle.commands.specs.declared.text.CountedBundle.{CountedBundle}
use Rattle.commands.proofs.Written.{bundle_spelled}

pub bundle_read : (reader : BundleReader) (bytes : List ℕ) (r : Result BundleValue JournalFault) → r ≡ closing_bundle (bundle_reading reader) → HasCome reader bytes → IsTextOf ParsesAsBundle bundle_in bytes r
bundle_read reader bytes r is come =
    let read = subst (λ (x : Result BundleValue JournalFault). IsWholeOr (IsFaultOfBundle (bundle_start Any) bytes) x (bundle_in bytes)) (sym is) (closed_after (bundles Any) bytes (bundle_reading reader) come) in
    let found = is_found (bundles Any) (IsSoundBundle Any) (bundle_laws Any) r bytes read in
    record {
      parsed = bundle_spelled bytes r found (is_refused (bundles Any) (IsSoundBundle Any) (bundle_laws Any) r bytes read);
      exact = whole_of _ _ _ read;
    }

-- ---- lines

abbrev counts_from : ℕ → List ℕ → ℕ
counts_from a bytes = fold (λ (n x : ℕ). n + cond (x == 10) 1 0) a bytes

counts_shift : (a : ℕ) (bytes : List ℕ) → counts_from a bytes ≡ a + counts_from 0 bytes
counts_shift a [] = omega arith
counts_shift a (x ∷ xs) =
    let d = cond (x == 10) 1 0 in
    let here = counts_shift (a + d) xs in
    let there = counts_shift (0 + d) xs in
    omega (arith, here, there)

counts_more : (b : ℕ) (bs : List ℕ) → count_by (λ x. x == 10) (b ∷ bs) ≡ cond (b == 10) 1 0 + count_by (λ x. x == 10) bs
counts_more b bs = counts_shift (0 + cond (b == 10) 1 0) bs ∙ ap (λ (n : ℕ). n + counts_from 0 bs) (omega arith)

module _ {S : Type 0} (judge : Judge S) where
  abbrev Stands : Progress S → ℕ → Type 0
  Stands (Reading s n rest) count = n ≡ min count (2 ^ 64 - 1)
  Stands (Stopped fault) count = Unit {0}

  stopped_fed : (fault : JournalFault) (bytes : List ℕ) (count : ℕ) → Stands (feed_bytes judge (Stopped fault) bytes) count
  unfolding feed_byte
  stopped_fed fault [] count = tt
  stopped_fed fault (b ∷ bs) count = stopped_fed fault bs count

  -- what is known of the bytes that are left
  abbrev Counts : List ℕ → Type 0
  Counts bytes = (s : S) (n k : ℕ) (rest : List ℕ) → n ≡ min k (2 ^ 64 - 1) → Stands (feed_bytes judge (Reading s n rest) bytes) (k + count_by (λ b. b == 10) bytes)

  counts_after : (bs : List ℕ) (r : Result S Cause) (n k : ℕ) → n ≡ min k (2 ^ 64 - 1) → Counts bs → Stands (feed_bytes judge (progress_after r (next_number n)) bs) ((k + 1) + count_by (λ b. b == 10) bs)
  counts_after bs (Ok s) n k e more = more s (next_number n) (k + 1) [] (omega (arith, e))
  counts_after bs (Err cause) n k e more = stopped_fed _ bs _

  counts_byte : (b : ℕ) (bs : List ℕ) (s : S) (n k : ℕ) (rest : List ℕ) (v : Bool) → (b == 10) ≡ v → n ≡ min k (2 ^ 64 - 1) → Counts bs
      → Stands (feed_bytes judge (cond v (progress_after (judge s rest) (next_number n)) (Reading s n (rest ++ b ∷ []))) bs) (k + count_by (λ x. x == 10) (b ∷ bs))
  counts_byte b bs s n k rest true is e more =
      let counted : count_by (λ x. x == 10) (b ∷ bs) ≡ 1 + count_by (λ x. x == 10) bs = counts_more b bs ∙ ap (λ (v : Bool). cond v 1 0 + count_by (λ x. x == 10) bs) is in
      subst (Stands (feed_bytes judge (progress_after (judge s rest) (next_number n)) bs)) (omega (arith, counted)) (counts_after bs (judge s rest) n k e more)
  counts_byte b bs s n k rest false is e more =
      let counted : count_by (λ x. x == 10) (b ∷ bs) ≡ 0 + count_by (λ x. x == 10) bs = counts_more b bs ∙ ap (λ (v : Bool). cond v 1 0 + count_by (λ x. x == 10) bs) is in
      subst (Stands (feed_bytes judge (Reading s n (rest ++ b ∷ [])) bs)) (omega (arith, counted)) (more s n k (rest ++ b ∷ []) e)

  counts_fed : (bytes : List ℕ) → Counts bytes
  unfolding feed_byte
  counts_fed [] s n k rest e = omega (arith, e)
  counts_fed (b ∷ bs) s n k rest e = counts_byte b bs s n k rest (b == 10) refl e (counts_fed bs)

stands_counted : (bytes : List ℕ) (p : BundleProgress) (lines : ℕ) (b : BundleValue) → Ok b ≡ closing_bundle p → Stands (bundles Any).judge p (count_by (λ x. x == 10) bytes) → CountsLines p lines → lines ≡ line_count bytes
unfolding closing_by
stands_counted bytes (Reading s n rest) lines b e stands counts = counts ∙ stands
stands_counted bytes (Stopped fault) lines b e stands counts = absurd cc

pub lines_counted : (reader : BundleReader) (bytes : List ℕ) (b : BundleValue) (lines : ℕ) → Ok b ≡ closing_bundle (bundle_reading reader) → HasCome reader bytes → CountsLines (bundle_reading reader) lines → lines ≡ line_count bytes
unfolding closing_by
lines_counted reader bytes b lines e (inl x) counts = absurd (let k = e ∙ ap closing_bundle x.1 in cc)
lines_counted reader bytes b lines e (inr same) counts =
    let judge = (bundles Any).judge in
    let all = count_by (λ x. x == 10) bytes in
    let none : 0 + all ≡ all = omega arith in
    let fed = subst (Stands judge (feed_bytes judge (bundle_start Any) bytes)) none (counts_fed judge bytes (bundles Any).start 0 0 [] (omega arith)) in
    stands_counted bytes (bundle_reading reader) lines b e (subst (λ (p : BundleProgress). Stands judge p all) (sym same) fed) counts

-- a bundle with the number of lines of its text
pub counted_read : (bytes : List ℕ) (b : BundleValue) (lines : ℕ) → (let r : Result BundleValue JournalFault = Ok b in IsTextOf ParsesAsBundle bundle_in bytes r) → lines ≡ line_count bytes
    → (let r : Result CountedBundle JournalFault = Ok (record { bundle = b; lines = lines }) in IsTextOf ParsesAsCounted counted_in bytes r)
counted_read bytes b lines text is = record {
  parsed = (text.parsed, is);
  exact = exact text.exact;
}
  where
    exact : (let r : Result BundleValue JournalFault = Ok b in IsWhole r (bundle_in bytes)) → (let r : Result CountedBundle JournalFault = Ok (record { bundle = b; lines = lines }) in IsWhole r (counted_in bytes))
    exact (inl (fault, e)) = cc
    exact (inr e) = inr ((λ i. Ok (record { bundle = b; lines = is i })) ∙ ap (counted bytes) e)
