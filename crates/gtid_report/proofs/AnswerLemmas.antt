-- What the words of a function name, and its tests.
use Rattle.std.proofs.Common.{◌≡◌, ◌⊎◌, ℕ, Bool, true, false, ◌&&◌, List, length, refl, sym, ap, ◌∙◌, arith, inl, inr}
use Rattle.std.specs.Prelude.{◌==◌, ◌↔◌, IsTrue, Option, Result, Ok, Err}
use Rattle.std.specs.FinSet as set
use Rattle.std.proofs.lemmas.Bool.Decides.{nat_tests}
use Rattle.lemmas.proofs.SameGtid.{gtid_total, gtid_exact}
use Rattle.lemmas.proofs.Tests.{same_bool}
use Rattle.gtid_text.specs.Reading.{answer, source_in}
use Rattle.gtid_text.specs.Gtids.{gtid_cmp}
use Rattle.gtid_text.specs.declared.SourceId.{SourceId}
use Rattle.gtid_text.specs.declared.fault.TextFault.{TextFault}
use Rattle.gtid_text.specs.declared.fault.TextFault.TheVariants as texts
use Rattle.gtid_set.specs.declared.fault.SetFault.{SetFault}
use Rattle.gtid_set.specs.declared.fault.SetFault.TheVariants as sets
use Rattle.gtid_set.specs.declared.fault.SetTextFault.TheVariants.{Text, Set}
use Rattle.gtid_set.specs.Sets.{Gtids}
use Rattle.gtid_set.specs.Texts.{set_in}
use Rattle.gtid_report.specs.Faults.{text_fault, set_fault}
use Rattle.gtid_report.specs.SetAnswers.{named_set, named_source, set_word, source_word, test_line, of_two, line_of, function_line}
use Rattle.gtid_report.specs.declared.fault.Fault.{Fault}
use Rattle.gtid_report.specs.declared.fault.Fault.TheVariants.{Memory}
use Rattle.gtid_report.specs.SetFunctions.{function_named}
use Rattle.gtid_report.specs.declared.functions.Function.{Function}
use Rattle.gtid_report.specs.declared.functions.TwoSets.{TwoSets}
use Rattle.gtid_report.specs.declared.functions.TwoSets.TheVariants.{Equal, Disjoint}

pub word_set : (text : List ℕ) (s : Gtids) → set_in text ≡ Ok s → set_word text ≡ Ok s
unfolding set_word
word_set text s e = ap named_set e

pub word_text : (text : List ℕ) (f : TextFault) → (f ≡ texts.Memory) ⊎ (set_in text ≡ Err (Text f)) → (text_fault f ≡ Memory) ⊎ (set_word text ≡ Err (text_fault f))
unfolding set_word
word_text text f (inl e) = inl (ap text_fault e)
word_text text f (inr e) = inr (ap named_set e)

pub word_full : (text : List ℕ) (f : SetFault) → (f ≡ sets.Memory) ⊎ (set_in text ≡ Err (Set f)) → (set_fault f ≡ Memory) ⊎ (set_word text ≡ Err (set_fault f))
unfolding set_word
word_full text f (inl e) = inl (ap set_fault e)
word_full text f (inr e) = inr (ap named_set e)

pub word_source : (text : List ℕ) (r : Result SourceId TextFault) → r ≡ answer (length text) (source_in text) → named_source r ≡ source_word text
unfolding source_word
word_source text r e = ap named_source e

-- equal sets are parts of one another
subset_itself : (s : Gtids) → set.is_subset s s ≡ true
subset_itself s = set.contains-is_subset gtid_total s s (λ q e. e)

same_parts : (s t : Gtids) → set.is_subset s t ≡ true → set.is_subset t s ≡ true → s ≡ t
same_parts s t e f = set.same_set gtid_total gtid_exact s t (λ q. same_bool (set.contains s q) (set.contains t q) (set.is_subset-contains gtid_total s t e q) (set.is_subset-contains gtid_total t s f q))

pub equal_test : (r : Bool) (s t : Gtids) → IsTrue r ↔ (s ≡ t) → r ≡ (set.is_subset s t && set.is_subset t s)
equal_test true s t h =
    let e = h.0 refl in
    sym (ap (λ u. set.is_subset s u && set.is_subset u s) (sym e) ∙ (λ i. subset_itself s i && subset_itself s i))
equal_test false s t h = sym (split (set.is_subset s t) (set.is_subset t s) refl refl)
  where
    split : (a b : Bool) → set.is_subset s t ≡ a → set.is_subset t s ≡ b → (set.is_subset s t && set.is_subset t s) ≡ false
    split true true e f = let there = h.1 (same_parts s t e f) in absurd cc
    split true false e f = (λ i. e i && f i)
    split false b e f = ap (λ x. x && set.is_subset t s) e

-- an empty intersection has no members
pub apart_test : (r : Bool) (s : Gtids) → IsTrue r ↔ (s ≡ set.empty) → r ≡ (set.len s == 0)
apart_test true s h = sym (ap (λ t. set.len t == 0) (h.0 refl) ∙ ap (λ n. n == 0) (set.len-empty gtid_cmp))
apart_test false s h = sym (split (set.len s == 0) refl)
  where
    none : (n : ℕ) → (n == 0) ≡ true → n ≡ 0
    none n e = grind (arith, nat_tests)

    split : (b : Bool) → (set.len s == 0) ≡ b → (set.len s == 0) ≡ false
    split true e = let there = h.1 (set.empty_of_len s (none (set.len s) e)) in absurd cc
    split false e = e

abbrev pub tested : Bool → Result (List ℕ) Fault
tested r = Ok (test_line r)

pub equal_line : (f : TwoSets) (r : Bool) (s t : Gtids) → f ≡ Equal → IsTrue r ↔ (s ≡ t) → tested r ≡ of_two f s t
equal_line f r s t e h = ap tested (equal_test r s t h) ∙ ap (λ f. of_two f s t) (sym e)

pub disjoint_line : (f : TwoSets) (r : Bool) (s t : Gtids) → f ≡ Disjoint → IsTrue r ↔ (set.intersection s t ≡ set.empty) → tested r ≡ of_two f s t
disjoint_line f r s t e h = ap tested (apart_test r (set.intersection s t) h) ∙ ap (λ f. of_two f s t) (sym e)

-- the function of a name
pub line_named : (name a : List ℕ) (b : Option (List ℕ)) (f : Option Function) → f ≡ function_named name → line_of f a b ≡ function_line name a b
unfolding function_line
line_named name a b f e = ap (λ f. line_of f a b) e
