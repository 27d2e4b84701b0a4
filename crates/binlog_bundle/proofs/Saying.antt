-- Lines of channels that say what was executed.
use Rattle.std.proofs.Common.{◌≡◌, ◌≢◌, ℕ, zero, suc, ◌<◌, ◌≤◌, Bool, true, false, eqb, not, List, [], ◌∷◌, ◌++◌, length, get_or, take, drop, codes, None, refl, sym, ap, ◌∙◌, subst, append_assoc, take-append-drop, arith}
use Rattle.std.specs.Prelude.{◌&&◌}
use Rattle.std.specs.List.{list_all}
use Rattle.std.proofs.lemmas.Bool.{eqb-true, and_parts}
use Rattle.lemmas.proofs.Lists.{same_behind, same_parts}
use Rattle.txn_journal.specs.BundleText.{preserve_text}
use Rattle.binlog_bundle.specs.Executed.{IsWord, channel_text, SaysExecuted, IsCutLine, IsBehindName, NoName, IsExecuted, NoExecuted}
use Rattle.binlog_bundle.proofs.Cutting.{SplitsAt}

-- ---- words

differs : (b c : ℕ) → (eqb b c ≡ true → ⊥) → not (eqb b c) ≡ true
differs b c h = elim (eqb b c) as (λ v. (v ≡ true → ⊥) → not v ≡ true) [ true ↦ λ k. absurd (k refl) | false ↦ λ k. refl ] h

-- no blank comes before the first
word_before : (n : ℕ) (text : List ℕ) → n ≤ length text → ((k : ℕ) → k < n → eqb (get_or text k 0) 32 ≡ true → ⊥) → IsWord (take n text)
word_before zero text le none = refl
word_before (suc n) [] le none = refl
word_before (suc n) (b ∷ bs) le none =
    (λ i. differs b 32 (none 0 (omega arith)) i && list_all (λ c. not (eqb c 32)) (take n bs))
    ∙ word_before n bs (omega arith) (λ k lt. none (suc k) (omega arith))

at_blank : (n : ℕ) (text : List ℕ) → n < length text → eqb (get_or text n 0) 32 ≡ true → drop n text ≡ 32 ∷ drop (suc n) text
at_blank n [] lt e = absurd (omega arith)
at_blank zero (b ∷ bs) lt e = ap (λ (c : ℕ). c ∷ bs) (eqb-true b 32 e)
at_blank (suc n) (b ∷ bs) lt e = at_blank n bs (omega arith) e

-- ---- the name

-- so much of what follows `channel ` is the name
pub name_found : (line rest behind : List ℕ) (at : ℕ) → line ≡ codes "channel " ++ rest → at < length rest → ((k : ℕ) → k < at → eqb (get_or rest k 0) 32 ≡ true → ⊥) → eqb (get_or rest at 0) 32 ≡ true → behind ≡ drop at rest → IsBehindName line behind
name_found line rest behind at e lt before here b = record {
  name = take at rest;
  named = word_before at rest (omega arith) before;
  more = drop (suc at) rest;
  blank = b ∙ at_blank at rest lt here;
  parts = e ∙ ap (λ (xs : List ℕ). codes "channel " ++ xs) (sym (take-append-drop at rest) ∙ ap (λ (xs : List ℕ). take at rest ++ xs) (sym b));
}

pub no_channel : (line : List ℕ) → ((rest : List ℕ) → line ≢ codes "channel " ++ rest) → NoName line
no_channel line denied behind h = denied (h.name ++ behind) h.parts

blank_at : (name more : List ℕ) → ((k : ℕ) → k < length (name ++ 32 ∷ more) → eqb (get_or (name ++ 32 ∷ more) k 0) 32 ≡ true → ⊥) → ⊥
blank_at [] more none = none 0 (omega arith) refl
blank_at (b ∷ name) more none = blank_at name more (λ k lt. none (suc k) (omega arith))

pub no_blank : (line rest : List ℕ) → line ≡ codes "channel " ++ rest → ((k : ℕ) → k < length rest → eqb (get_or rest k 0) 32 ≡ true → ⊥) → NoName line
no_blank line rest e none behind h =
    let is : rest ≡ h.name ++ 32 ∷ h.more = same_behind (codes "channel ") rest (h.name ++ 32 ∷ h.more) (sym e ∙ h.parts ∙ ap (λ (xs : List ℕ). codes "channel " ++ (h.name ++ xs)) h.blank) in
    blank_at h.name h.more (subst (λ (xs : List ℕ). (k : ℕ) → k < length xs → eqb (get_or xs k 0) 32 ≡ true → ⊥) is none)

-- ---- what follows the name

pub no_executed : (behind : List ℕ) → ((rest : List ℕ) → behind ≢ codes " executed " ++ rest) → ((rest : List ℕ) → behind ≢ codes " preserve" ++ rest) → NoExecuted behind
no_executed behind denied other part word (false, e, f) = denied word (e ∙ f)
no_executed behind denied other part word (true, e, f) = other part e

pub no_executed_behind : (behind rest : List ℕ) → ((more : List ℕ) → behind ≢ codes " executed " ++ more) → behind ≡ codes " preserve" ++ rest → ((more : List ℕ) → rest ≢ codes " executed " ++ more) → NoExecuted behind
no_executed_behind behind rest denied e none part word (false, g, f) = denied word (g ∙ f)
no_executed_behind behind rest denied e none part word (true, g, f) = none word (same_behind (codes " preserve") rest part (sym e ∙ g) ∙ f)

-- ---- the line

-- two texts that end alike at a blank, behind a word each, are alike
word_rest : (c : ℕ) (word : List ℕ) → IsWord (c ∷ word) → IsWord word
word_rest c word h = (and_parts (not (eqb c 32)) (list_all (λ b. not (eqb b 32)) word) h).1

no_word : (bs : List ℕ) → IsWord (32 ∷ bs) → ⊥
no_word bs h = cc

same_words : (a b x y : List ℕ) → IsWord a → IsWord b → a ++ 32 ∷ x ≡ b ++ 32 ∷ y → x ≡ y
same_words [] [] x y one two e = (same_parts 32 32 x y e).1
same_words [] (d ∷ b) x y one two e = absurd (no_word b (subst (λ (c : ℕ). IsWord (c ∷ b)) (sym (same_parts 32 d x (b ++ 32 ∷ y) e).0) two))
same_words (c ∷ a) [] x y one two e = absurd (no_word a (subst (λ (d : ℕ). IsWord (d ∷ a)) (same_parts c 32 (a ++ 32 ∷ x) y e).0 one))
same_words (c ∷ a) (d ∷ b) x y one two e = same_words a b x y (word_rest c a one) (word_rest d b two) (same_parts c d (a ++ 32 ∷ x) (b ++ 32 ∷ y) e).1

-- what follows the name in a line that says what was executed
abbrev said_behind : Bool → List ℕ → List ℕ
said_behind preserve word = preserve_text preserve ++ (codes " executed " ++ word)

said_more : (preserve : Bool) (word : List ℕ) → (more : List ℕ) × (said_behind preserve word ≡ 32 ∷ more)
said_more false word = (codes "executed " ++ word, refl)
said_more true word = (codes "preserve" ++ (codes " executed " ++ word), refl)

says_parts : (name : List ℕ) (preserve : Bool) (word : List ℕ) → channel_text name preserve ++ (codes " executed " ++ word) ≡ codes "channel " ++ (name ++ said_behind preserve word)
says_parts name preserve word =
    append_assoc (codes "channel ") (name ++ preserve_text preserve) (codes " executed " ++ word)
    ∙ ap (λ (xs : List ℕ). codes "channel " ++ xs) (append_assoc name (preserve_text preserve) (codes " executed " ++ word))

-- a line that says it has a name, and says it behind
says_behind : (line own word : List ℕ) (h : SaysExecuted line own word) → IsBehindName line (said_behind h.preserve word)
says_behind line own word h = record {
  name = h.name;
  named = h.named;
  more = (said_more h.preserve word).0;
  blank = (said_more h.preserve word).1;
  parts = h.parts ∙ ap (λ (xs : List ℕ). xs ++ (codes " executed " ++ word)) h.own_is ∙ says_parts h.name h.preserve word;
}

same_behind_name : (line a b : List ℕ) → IsBehindName line a → IsBehindName line b → a ≡ b
same_behind_name line a b h k =
    let is = same_behind (codes "channel ") (h.name ++ 32 ∷ h.more) (k.name ++ 32 ∷ k.more)
    (ap (λ (xs : List ℕ). codes "channel " ++ (h.name ++ xs)) (sym h.blank) ∙ sym h.parts ∙ k.parts ∙ ap (λ (xs : List ℕ). codes "channel " ++ (k.name ++ xs)) k.blank) in
    h.blank ∙ ap (λ (xs : List ℕ). 32 ∷ xs) (same_words h.name k.name h.more k.more h.named k.named is) ∙ sym k.blank

pub silent_name : (line own : List ℕ) → own ≡ line → NoName line → IsCutLine line own None
silent_name line own e denied = (e, λ front word h. denied (said_behind h.preserve word) (says_behind line front word h))

pub silent_behind : (line own behind : List ℕ) → own ≡ line → IsBehindName line behind → NoExecuted behind → IsCutLine line own None
silent_behind line own behind e has denied =
    (e, λ front word h. denied (codes " executed " ++ word) word (h.preserve, same_behind_name line behind (said_behind h.preserve word) has (says_behind line front word h), refl))

pub says_it : (line behind part word a b : List ℕ) (n : ℕ) → IsBehindName line behind → IsExecuted behind part word → n ≡ length part → SplitsAt line n a b → SaysExecuted line a word
says_it line behind part word a b n has (preserve, e, f) is split =
    let own = channel_text has.name preserve in
    let parts : line ≡ own ++ part =
    has.parts
    ∙ ap (λ (xs : List ℕ). codes "channel " ++ (has.name ++ xs)) e
    ∙ sym (append_assoc (codes "channel ") (has.name ++ preserve_text preserve) part ∙ ap (λ (xs : List ℕ). codes "channel " ++ xs) (append_assoc has.name (preserve_text preserve) part)) in
    let s = split own part parts is in
    record {
      name = has.name;
      preserve = preserve;
      named = has.named;
      own_is = s.0;
      parts = parts ∙ (λ i. sym s.0 i ++ f i);
    }
