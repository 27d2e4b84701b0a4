-- Heads, their lines `unsupported ..`, and their lines `collate ..`.
use Rattle.std.proofs.Common.{◌≡◌, ◌≢◌, ℕ, ◌+◌, ◌-◌, ◌<◌, ◌≤◌, Bool, true, false, not, is_some, List, [], ◌∷◌, ◌++◌, length, drop, codes, refl, sym, ap, ◌∙◌, subst, append_assoc, append-nil, length-append, zero-add, add-zero, arith}
use Rattle.std.specs.Prelude.{◌||◌, nat_eq, nat_le, Result, Ok, Err, OnOk, if◌then◌else◌}
use Rattle.std.specs.List.{starts_with, list_any, flat_map, AllByRecursion}
use Rattle.std.proofs.lemmas.List.Folds.{list_any-append}
use Rattle.std.proofs.lemmas.Slice.Eq.{starts_is}
use Rattle.std.proofs.lemmas.Bool.Decides.{Decides-eqb, nat_tests}
use Rattle.lemmas.proofs.Lists.{all_push}
use Rattle.lemmas.proofs.Numbers.{le_false}
use Rattle.txn_journal.specs.Words.{IsOneLine, BeginsWithLine}
use Rattle.binlog_entries.proofs.TransactionLaws.{flat_map_more}
use Rattle.binlog_bundle.specs.Lines.{with_line_feed, AreLines}
use Rattle.derived_columns.specs.declared.column.DerivedColumn.{DerivedColumn}
use Rattle.binlog_bundle.specs.Collated.{column_list, columns_of}
use Rattle.binlog_bundle.specs.Heads.{is_unsupported, is_passed, is_granted, plain_text, IsGranted, IsPlainHead, IsNotGranted, IsNoPlainHead, skipped}
use Rattle.binlog_bundle.specs.declared.head.HeadFault.{HeadFault}
use Rattle.binlog_bundle.specs.declared.head.HeadFault.TheVariants as heads
use Rattle.binlog_bundle.specs.declared.grants.Grants.{Grants}
use Rattle.binlog_bundle.proofs.Cutting.{line_ends, begins_same, no_first}

-- ---- lines

not_begun : (text front : List ℕ) → ((rest : List ℕ) → text ≢ front ++ rest) → starts_with nat_eq text front ≡ false
not_begun text front denied = known (starts_with nat_eq text front) refl
  where
    known : (b : Bool) → starts_with nat_eq text front ≡ b → b ≡ false
    known false e = refl
    known true e = absurd (denied _ ((starts_is Decides-eqb text front (starts_with nat_eq text front) refl).0 e))

pub or_false : (b v : Bool) → v ≡ false → b ≡ (b || v)
or_false true v e = refl
or_false false v e = sym e

pub plain_line : (line : List ℕ) → ((rest : List ℕ) → line ≢ codes "unsupported " ++ rest) → is_unsupported line ≡ false
plain_line line denied = not_begun line (codes "unsupported ") denied

-- it holds, so it does after a call that succeeds
pub when_ok : {A E P : Type 0} (r : Result A E) → P → OnOk r P
when_ok (Ok a) p = p
when_ok (Err e) p = tt

-- ---- heads

-- some lines of a head have come, and this is the plain text of them, and whether some were passed over
pub record HasHeadCome (grants : Grants) (columns : List DerivedColumn) (head left text : List ℕ) (passed_over : Bool) : Type 0 where
  pub lines : List (List ℕ)
  pub parts : head ≡ flat_map with_line_feed lines ++ left
  pub granted : AllByRecursion (IsGranted grants) lines
  pub text_is : text ≡ flat_map (plain_text columns) lines
  pub passed : passed_over ≡ list_any is_unsupported lines

all_of : (f : List ℕ → List ℕ) (xs ys : List ℕ) (ls : List (List ℕ)) (line : List ℕ) → xs ≡ flat_map f ls → ys ≡ xs ++ f line → ys ≡ flat_map f (ls ++ line ∷ [])
all_of f xs ys ls line e g = g ∙ ap (λ (zs : List ℕ). zs ++ f line) e ∙ sym (flat_map_more f ls line)

or_last : (lines : List (List ℕ)) (line : List ℕ) → (list_any is_unsupported lines || is_unsupported line) ≡ list_any is_unsupported (lines ++ line ∷ [])
or_last lines line = ap (λ (b : Bool). list_any is_unsupported lines || b) (or_false (is_unsupported line) false refl) ∙ sym (list_any-append is_unsupported lines (line ∷ []))

pub head_more : (grants : Grants) (columns : List DerivedColumn) (head left line after text text_new : List ℕ) (passed passed_new : Bool) → HasHeadCome grants columns head left text passed → BeginsWithLine left line after → is_granted grants line ≡ true → text_new ≡ text ++ plain_text columns line → passed_new ≡ (passed || is_unsupported line) → HasHeadCome grants columns head after text_new passed_new
head_more grants columns head left line after text text_new passed passed_new h begins granted t n = record {
  lines = h.lines ++ line ∷ [];
  parts =
      h.parts
      ∙ ap (λ (xs : List ℕ). flat_map with_line_feed h.lines ++ xs) (begins.parts ∙ line_ends line after)
      ∙ sym (append_assoc (flat_map with_line_feed h.lines) (with_line_feed line) after)
      ∙ ap (λ (xs : List ℕ). xs ++ after) (sym (flat_map_more with_line_feed h.lines line));
  granted = all_push (IsGranted grants) h.lines line h.granted (begins.whole, granted);
  text_is = all_of (plain_text columns) text text_new h.lines line h.text_is t;
  passed = n ∙ ap (λ (b : Bool). b || is_unsupported line) h.passed ∙ or_last h.lines line;
}

pub head_refused : (grants : Grants) (columns : List DerivedColumn) (head left line after text : List ℕ) (passed : Bool) (fault : HeadFault) → HasHeadCome grants columns head left text passed → BeginsWithLine left line after → IsNotGranted grants line fault → IsNoPlainHead grants head fault
head_refused grants columns head left line after text passed heads.Memory h begins denied = tt
head_refused grants columns head left line after text passed (heads.Unsupported what) h begins denied = record {
  before = h.lines;
  line = line;
  rest = after;
  parts = h.parts ∙ ap (λ (xs : List ℕ). flat_map with_line_feed h.lines ++ xs) (begins.parts ∙ line_ends line after);
  granted = h.granted;
  whole = begins.whole;
  refused = denied.0;
  says = denied.1;
}

whole_of : (grants : Grants) (ls : List (List ℕ)) → AllByRecursion (IsGranted grants) ls → AllByRecursion IsOneLine ls
whole_of grants [] all = tt
whole_of grants (l ∷ ls) all = (all.0.0, whole_of grants ls all.1)

pub head_lines : (grants : Grants) (columns : List DerivedColumn) (head plain : List ℕ) (passed : Bool) (h : IsPlainHead grants columns head plain passed) → AreLines h.lines head
head_lines grants columns head plain passed h = record { rest = h.rest; parts = h.parts; whole = whole_of grants h.lines h.granted; part = h.part }

-- all lines have come
pub head_whole : (grants : Grants) (columns : List DerivedColumn) (head left text plain : List ℕ) (passed : Bool) → ((lines : List (List ℕ)) → AreLines lines head → columns ≡ columns_of lines)
    → HasHeadCome grants columns head left text passed → IsOneLine left → plain ≡ text ++ left → IsPlainHead grants columns head plain passed
head_whole grants columns head left text plain passed named h one e = record {
  lines = h.lines;
  rest = left;
  parts = h.parts;
  granted = h.granted;
  part = one;
  columns_are = named h.lines (record { rest = left; parts = h.parts; whole = whole_of grants h.lines h.granted; part = one });
  plain_is = e ∙ ap (λ (xs : List ℕ). xs ++ left) h.text_is;
  passed = h.passed;
}

-- ---- numbers of lines

-- so many lines were skipped, and this many of the others are still due
pub record IsSkipping (lines : List (List ℕ)) (n : ℕ) (left : List ℕ) (count due : ℕ) : Type 0 where
  pub more : List (List ℕ)
  pub are : AreLines more left
  pub counts : skipped lines n ≡ count + skipped more due

pub no_skips : (lines : List (List ℕ)) (n count due : ℕ) (head left : List ℕ) → head ≡ left → count ≡ 0 → due ≡ n → AreLines lines head → IsSkipping lines n left count due
no_skips lines n count due head left e f g are = record {
  more = lines;
  are = subst (AreLines lines) e are;
  counts = ap (λ (k : ℕ). skipped lines k) (sym g) ∙ sym (zero-add _) ∙ ap (λ (k : ℕ). k + skipped lines due) (sym f);
}

-- the first of the lines that are left
pub record HasFirst (more : List (List ℕ)) (line after : List ℕ) : Type 0 where
  pub rest : List (List ℕ)
  pub is : more ≡ line ∷ rest
  pub are : AreLines rest after

first_of : (more : List (List ℕ)) (left line after : List ℕ) → AreLines more left → BeginsWithLine left line after → HasFirst more line after
first_of [] left line after are begins = no_first left line after (subst IsOneLine (sym are.parts) are.part) begins
first_of (l ∷ ls) left line after are begins =
    let parts = are.parts ∙ append_assoc (with_line_feed l) (flat_map with_line_feed ls) are.rest in
    let s = begins_same left l (flat_map with_line_feed ls ++ are.rest) line after (record { parts = parts ∙ append_assoc l (10 ∷ []) (flat_map with_line_feed ls ++ are.rest); whole = are.whole.0 }) begins in
    record {
      rest = ls;
      is = ap (λ (x : List ℕ). x ∷ ls) s.0;
      are = record { rest = are.rest; parts = sym s.1; whole = are.whole.1; part = are.part };
    }

skip_first : (line : List ℕ) (ls : List (List ℕ)) (due : ℕ) → is_passed line ≡ true → skipped (line ∷ ls) due ≡ skipped ls due + 1
skip_first line ls due e = λ i. if e i then skipped ls due + 1 else (if nat_le due 1 then 0 else skipped ls (due - 1))

skip_last : (line : List ℕ) (ls : List (List ℕ)) (due : ℕ) → is_passed line ≡ false → nat_le due 1 ≡ true → skipped (line ∷ ls) due ≡ 0
skip_last line ls due e f = λ i. if e i then skipped ls due + 1 else (if f i then 0 else skipped ls (due - 1))

skip_other : (line : List ℕ) (ls : List (List ℕ)) (due : ℕ) → is_passed line ≡ false → nat_le due 1 ≡ false → skipped (line ∷ ls) due ≡ skipped ls (due - 1)
skip_other line ls due e f = λ i. if e i then skipped ls due + 1 else (if f i then 0 else skipped ls (due - 1))

le_true : (a b : ℕ) → a ≤ b → nat_le a b ≡ true
le_true a b h = grind (arith, nat_tests)

-- a line and its line feed are gone
pub shorter : (count : ℕ) (head left line after : List ℕ) → count + length left ≤ length head → BeginsWithLine left line after → (count + 1) + length after ≤ length head
shorter count head left line after h begins = omega (arith, ap length begins.parts, length-append line (10 ∷ after))

module _ {lines : List (List ℕ)} {n : ℕ} {left line after : List ℕ} {count due : ℕ} (h : IsSkipping lines n left count due) (begins : BeginsWithLine left line after) where
  first : HasFirst h.more line after
  first = first_of h.more left line after h.are begins

  at_first : skipped lines n ≡ count + skipped (line ∷ first.rest) due
  at_first = h.counts ∙ ap (λ (ls : List (List ℕ)). count + skipped ls due) first.is

  pub skips_one : (next : ℕ) → is_passed line ≡ true → next ≡ count + 1 → IsSkipping lines n after next due
  skips_one next e f = record {
    more = first.rest;
    are = first.are;
    counts = at_first ∙ ap (λ (k : ℕ). count + k) (skip_first line first.rest due e) ∙ one_more count (skipped first.rest due) ∙ ap (λ (k : ℕ). k + skipped first.rest due) (sym f);
  }
    where
      one_more : (a b : ℕ) → a + (b + 1) ≡ (a + 1) + b
      one_more a b = omega arith

  pub skips_none : (next : ℕ) → is_passed line ≡ false → 1 < due → next ≡ due - 1 → IsSkipping lines n after count next
  skips_none next e f g = record {
    more = first.rest;
    are = first.are;
    counts = at_first ∙ ap (λ (k : ℕ). count + k) (skip_other line first.rest due e (le_false due 1 f) ∙ ap (λ (k : ℕ). skipped first.rest k) (sym g));
  }

  pub skips_all : is_passed line ≡ false → due ≤ 1 → skipped lines n ≡ count
  skips_all e f = at_first ∙ ap (λ (k : ℕ). count + k) (skip_last line first.rest due e (le_true due 1 f)) ∙ add-zero count

no_lines : (more : List (List ℕ)) (left : List ℕ) → AreLines more left → IsOneLine left → more ≡ []
no_lines [] left are one = refl
no_lines (l ∷ ls) left are one =
    let parts = are.parts ∙ append_assoc (with_line_feed l) (flat_map with_line_feed ls) are.rest ∙ append_assoc l (10 ∷ []) (flat_map with_line_feed ls ++ are.rest) in
    no_first left l (flat_map with_line_feed ls ++ are.rest) one (record { parts = parts; whole = are.whole.0 })

pub skips_end : (lines : List (List ℕ)) (n : ℕ) (left : List ℕ) (count due : ℕ) → IsSkipping lines n left count due → IsOneLine left → skipped lines n ≡ count
skips_end lines n left count due h one = h.counts ∙ ap (λ (ls : List (List ℕ)). count + skipped ls due) (no_lines h.more left h.are one) ∙ add-zero count

-- ---- columns that are named

-- these were named by the lines before, and more lines are left
pub record IsNaming (lines : List (List ℕ)) (left : List ℕ) (columns : List DerivedColumn) : Type 0 where
  pub more : List (List ℕ)
  pub are : AreLines more left
  pub all : columns ++ columns_of more ≡ columns_of lines

pub names_none : (lines : List (List ℕ)) (head left : List ℕ) (columns : List DerivedColumn) → head ≡ left → columns ≡ [] → AreLines lines head → IsNaming lines left columns
names_none lines head left columns e f are = record {
  more = lines;
  are = subst (AreLines lines) e are;
  all = ap (λ (cs : List DerivedColumn). cs ++ columns_of lines) f;
}

pub names_more : (lines : List (List ℕ)) (left line after : List ℕ) (columns columns_new : List DerivedColumn) → IsNaming lines left columns → BeginsWithLine left line after → columns_new ≡ columns ++ column_list line → IsNaming lines after columns_new
names_more lines left line after columns columns_new h begins e =
    let first = first_of h.more left line after h.are begins in
    record {
      more = first.rest;
      are = first.are;
      all =
          ap (λ (cs : List DerivedColumn). cs ++ columns_of first.rest) e
          ∙ append_assoc columns (column_list line) (columns_of first.rest)
          ∙ ap (λ (ls : List (List ℕ)). columns ++ columns_of ls) (sym first.is)
          ∙ h.all;
    }

pub names_all : (lines : List (List ℕ)) (left : List ℕ) (columns : List DerivedColumn) → IsNaming lines left columns → IsOneLine left → columns ≡ columns_of lines
names_all lines left columns h one =
    sym (append-nil columns) ∙ ap (λ (ls : List (List ℕ)). columns ++ columns_of ls) (sym (no_lines h.more left h.are one)) ∙ h.all
