-- The front of a text grows by a character.
use Rattle.std.proofs.Common.{◌≡◌, sym, ap, ◌∙◌, ℕ, zero, suc, ◌+◌, ◌-◌, ◌<◌, ◌≤◌, List, [], ◌∷◌, ◌++◌, length, take, drop, append_assoc, arith}
use Rattle.std.specs.Prelude.{chars, encode_utf8, encode_utf8_all}
use Rattle.std.specs.Char.{len_utf8}
use Rattle.std.specs.Str.{IsUtf8}
use Rattle.std.proofs.Math.Seq.{take-append_seam, take-append-add}
use Rattle.std.proofs.lemmas.List.{append-nil, length-append, take-append-drop, length-take-le}
use Rattle.std.proofs.lemmas.Str.{chars-nil, chars_past_char, length-encode}

-- a front and what stands behind it
grown : (text e rest : List ℕ) (len : ℕ) → len ≤ length text → drop len text ≡ e ++ rest → take (len + length e) text ≡ take len text ++ e
grown text e rest len le parts =
    ap (take (len + length e)) (sym (ap (λ d. take len text ++ d) (sym parts) ∙ take-append-drop len text))
    ∙ ap (λ n. take (n + length e) (take len text ++ (e ++ rest))) (sym (length-take-le len text le))
    ∙ take-append-add (take len text) (e ++ rest) (length e)
    ∙ ap (λ d. take len text ++ d) (take-append_seam e rest)

first_one : (n c : ℕ) (cs : List ℕ) → 0 < n → take n (c ∷ cs) ≡ c ∷ take (n - 1) cs
first_one zero c cs pos = absurd (omega (arith, pos))
first_one (suc n) c cs pos = ap (λ m. c ∷ take m cs) (omega arith)

pub one_more : (text rest behind whole : List ℕ) (len left c : ℕ) → IsUtf8 rest → drop len text ≡ rest → len ≤ length text
    → rest ≡ encode_utf8 c ++ behind → 0 < left
    → take len text ++ encode_utf8_all (take left (chars rest)) ≡ whole
    → take (len + len_utf8 c) text ++ encode_utf8_all (take (left - 1) (chars behind)) ≡ whole
one_more text rest behind whole len left c utf8 there le parts pos so_far =
    let front : take (len + len_utf8 c) text ≡ take len text ++ encode_utf8 c =
    ap (λ n. take (len + n) text) (sym (length-encode c)) ∙ grown text (encode_utf8 c) behind len le (there ∙ parts) in
    let next : take left (chars rest) ≡ c ∷ take (left - 1) (chars behind) =
    ap (take left) (chars_past_char rest behind c utf8 parts) ∙ first_one left c (chars behind) pos in
    ap (λ t. t ++ encode_utf8_all (take (left - 1) (chars behind))) front
    ∙ append_assoc (take len text) (encode_utf8 c) (encode_utf8_all (take (left - 1) (chars behind)))
    ∙ ap (λ cs. take len text ++ encode_utf8_all cs) (sym next)
    ∙ so_far

-- nothing more is taken, or nothing is left
pub no_more : (text whole cs : List ℕ) (len n : ℕ) → take n cs ≡ [] → take len text ++ encode_utf8_all (take n cs) ≡ whole → take len text ≡ whole
no_more text whole cs len n none so_far =
    sym (ap (λ ds. take len text ++ encode_utf8_all ds) none ∙ append-nil (take len text)) ∙ so_far

pub of_empty : (n : ℕ) (rest : List ℕ) → length rest ≡ 0 → take n (chars rest) ≡ []
of_empty zero [] none = ap (take 0) chars-nil
of_empty (suc n) [] none = ap (take (suc n)) chars-nil
of_empty n (b ∷ rest) none = absurd (omega (arith, none))

pub within : (text e rest : List ℕ) (len : ℕ) → len ≤ length text → drop len text ≡ e ++ rest → len + length e ≤ length text
within text e rest len le parts =
    let whole : length text ≡ length (take len text ++ (e ++ rest)) = ap length (sym (ap (λ d. take len text ++ d) (sym parts) ∙ take-append-drop len text)) in
    let outer = length-append (take len text) (e ++ rest) in
    let inner = length-append e rest in
    let front = length-take-le len text le in
    omega (arith, whole, outer, inner, front)
