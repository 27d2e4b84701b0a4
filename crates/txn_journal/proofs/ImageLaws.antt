-- Images: reading is sound and complete.
use Rattle.std.proofs.Common.{◌≡◌, ℕ, ◌<◌, inl, inr, true, false, List, [], ◌∷◌, ◌++◌, length, map, Option, Some, None, Ok, refl, sym, ap, subst, ◌∙◌, append_assoc, arith}
use Rattle.std.specs.Prelude.{codes, MatchResult}
use Rattle.std.proofs.lemmas.Bool.{false_from_ne_true}
use Rattle.std.proofs.lemmas.List.{append-nil, length-append}
use Rattle.std.proofs.lemmas.Slice.Eq.{bytes_eq-Decides}
use Rattle.row_images.specs.declared.value.Value.{Value}
use Rattle.row_images.specs.Values.{value_text, value_of, FitsValue}
use Rattle.row_images.proofs.ValueLaws.{value_of-text, value_of-found, no_bar}
use Rattle.row_images.specs.Images.{words_of, values_text, AreValues}
use Rattle.txn_journal.specs.Lines.{Image, stop_at, and_value, is_bar, values_from, one_image, with_after, both_images, image_in, images_in}
use Rattle.txn_journal.proofs.Judged.{IsBody, found_weaker}
use Rattle.row_images.specs.Parts.{joined_by}
use Rattle.row_images.proofs.ImageLaws.{texts, no_blank, words_texts}
use Rattle.row_images.proofs.PartLaws.{parts_joined, parts_more}
use Rattle.std.proofs.lemmas.Option.{same_Some}
use Rattle.gtid_text.proofs.Turns.{chosen}

-- ---- the words of values

-- values, a bar, and words after it
joined_bar : (v : Value) (vs : List Value) (x : List ℕ) (ws : List (List ℕ)) → joined_by 32 (texts (v ∷ vs) ++ (codes "|") ∷ x ∷ ws) ≡ values_text (v ∷ vs) ++ 32 ∷ (124 ∷ 32 ∷ joined_by 32 (x ∷ ws))
joined_bar v [] x ws = refl
joined_bar v (w ∷ vs) x ws =
    ap (λ (t : List ℕ). value_text v ++ 32 ∷ t) (joined_bar w vs x ws)
    ∙ sym (append_assoc (value_text v) (32 ∷ values_text (w ∷ vs)) (32 ∷ (124 ∷ 32 ∷ joined_by 32 (x ∷ ws))))

words_bar : (v : Value) (vs : List Value) (r : List ℕ) → AreValues (v ∷ vs) → words_of (values_text (v ∷ vs) ++ 32 ∷ (124 ∷ 32 ∷ r)) ≡ texts (v ∷ vs) ++ (codes "|") ∷ words_of r
words_bar v [] r fits = parts_more 32 (value_text v) (124 ∷ 32 ∷ r) (no_blank v fits.0) ∙ ap (λ (t : List (List ℕ)). value_text v ∷ t) (parts_more 32 (codes "|") r refl)
words_bar v (w ∷ vs) r fits =
    ap words_of (append_assoc (value_text v) (32 ∷ values_text (w ∷ vs)) (32 ∷ (124 ∷ 32 ∷ r)))
    ∙ parts_more 32 (value_text v) (values_text (w ∷ vs) ++ 32 ∷ (124 ∷ 32 ∷ r)) (no_blank v fits.0)
    ∙ ap (λ (t : List (List ℕ)). value_text v ∷ t) (words_bar w vs r fits.1)

-- ---- what is read

abbrev some_image : Image → Option Image
some_image x = Some x

and_found : (before : List Value) (o : Option Value) (more : List Value → Option Image) (y : Image) → and_value before o more ≡ Some y → (v : Value) × (o ≡ Some v) × (more (before ++ v ∷ []) ≡ Some y)
and_found before (Some v) more y e = (v, refl, e)
and_found before None more y e = absurd cc

-- what follows the values: nothing, or a bar and one word at least
abbrev tail_words : Option (List (List ℕ)) → List (List ℕ)
tail_words None = []
tail_words (Some words) = (codes "|") ∷ words

abbrev Stands : List Value → Option (List (List ℕ)) → Type 0
Stands vs None = 0 < length vs
Stands vs (Some words) = (0 < length vs) × (0 < length words)

record ValuesFound (before : List Value) (ws : List (List ℕ)) (vs : List Value) (rest : Option (List (List ℕ))) : Type 0 where
  read : List Value
  whole : before ++ read ≡ vs
  fits : AreValues read
  words : ws ≡ map value_text read ++ tail_words rest
  stands : Stands vs rest

image_is : (a b : List Value) (o p : Option (List (List ℕ))) → some_image (a, o) ≡ Some (b, p) → (a ≡ b) × (o ≡ p)
image_is a b o p e = let k = same_Some (a, o) (b, p) e in (ap (λ (x : Image). x.0) k, ap (λ (x : Image). x.1) k)

pub bar_word : (w : List ℕ) → is_bar w ≡ true → w ≡ codes "|"
bar_word w e = (bytes_eq-Decides w (codes "|")).0 e

stop_found : (before : List Value) (words : List (List ℕ)) (vs : List Value) (rest : Option (List (List ℕ))) → 0 < length words → stop_at before words ≡ Some (vs, rest) → (before ≡ vs) × (rest ≡ Some words) × Stands vs rest
stop_found [] words vs rest some e = absurd cc
stop_found (v ∷ before) words vs rest some e =
    let k = image_is (v ∷ before) vs (Some words) rest e in
    (k.0, sym k.1, subst (Stands vs) k.1 (subst (λ (us : List Value). 0 < length us) k.0 (omega arith), some))

values_found : (before : List Value) (ws : List (List ℕ)) (vs : List Value) (rest : Option (List (List ℕ))) → values_from before ws ≡ Some (vs, rest) → ValuesFound before ws vs rest
unfolding values_from
values_found before [] vs rest e = absurd cc
values_found before (w ∷ []) vs rest e =
    elim (chosen (is_bar w) None (and_value before (value_of w) (λ us. Some (us, None))) (Some (vs, rest)) e) [
      | inl p ↦ absurd cc
      | inr p ↦
          let a = and_found before (value_of w) (λ us. Some (us, None)) (vs, rest) p.1 in
          let k = image_is (before ++ a.0 ∷ []) vs None rest a.2 in
          let f = value_of-found w a.0 a.1 in
          record {
            read = a.0 ∷ [];
            whole = k.0;
            fits = (f.1, tt);
            words = (λ i. f.0 i ∷ tail_words (k.1 i));
            stands = subst (Stands vs) k.1 (subst (λ (us : List Value). 0 < length us) k.0 (omega (arith, length-append before (a.0 ∷ []))));
          }
    ]
values_found before (w ∷ x ∷ ws) vs rest e =
    elim (chosen (is_bar w) (stop_at before (x ∷ ws)) (and_value before (value_of w) (λ us. values_from us (x ∷ ws))) (Some (vs, rest)) e) [
      | inl p ↦
          let s = stop_found before (x ∷ ws) vs rest (omega arith) p.1 in
          record {
            read = [];
            whole = append-nil before ∙ s.0;
            fits = tt;
            words = (λ i. bar_word w p.0 i ∷ x ∷ ws) ∙ ap tail_words (sym s.1);
            stands = s.2;
          }
      | inr p ↦
          let a = and_found before (value_of w) (λ us. values_from us (x ∷ ws)) (vs, rest) p.1 in
          let f = value_of-found w a.0 a.1 in
          let r = values_found (before ++ a.0 ∷ []) (x ∷ ws) vs rest a.2 in
          record {
            read = a.0 ∷ r.read;
            whole = sym (append_assoc before (a.0 ∷ []) r.read) ∙ r.whole;
            fits = (f.1, r.fits);
            words = (λ i. f.0 i ∷ r.words i);
            stands = r.stands;
          }
    ]

-- ---- one image, and two

one_both : (o : Option Image) → MatchResult (one_image o) (λ vs. o ≡ Some (vs, None)) IsBody
one_both None = tt
one_both (Some (vs, None)) = refl
one_both (Some (vs, Some words)) = tt

pub image_both : (text : List ℕ) → MatchResult (image_in text) (λ vs. (text ≡ values_text vs) × AreValues vs × (0 < length vs)) IsBody
image_both text = found_weaker (image_in text) _ _ _ (λ vs e.
    let f = values_found [] (words_of text) vs None e in
    (sym (parts_joined 32 text) ∙ ap (joined_by 32) (f.words ∙ append-nil (map value_text f.read)) ∙ ap values_text f.whole, subst AreValues f.whole f.fits, f.stands)) (one_both (values_from [] (words_of text)))

record BothFound (o : Option Image) (p : List Value × List Value) : Type 0 where
  words : List (List ℕ)
  front : o ≡ Some (p.0, Some words)
  back : values_from [] words ≡ Some (p.1, None)

after_both : (before : List Value) (words : List (List ℕ)) (o : Option Image) → values_from [] words ≡ o → MatchResult (with_after before (one_image o)) (BothFound (Some (before, Some words))) IsBody
after_both before words None e = tt
after_both before words (Some (vs, None)) e = record { words = words; front = refl; back = e }
after_both before words (Some (vs, Some more)) e = tt

both_both : (o : Option Image) → MatchResult (both_images o) (BothFound o) IsBody
both_both None = tt
both_both (Some (vs, None)) = tt
both_both (Some (vs, Some words)) = after_both vs words (values_from [] words) refl

bar_text : (vs : List Value) (words : List (List ℕ)) → 0 < length vs → 0 < length words → joined_by 32 (map value_text vs ++ (codes "|") ∷ words) ≡ values_text vs ++ 32 ∷ (124 ∷ 32 ∷ joined_by 32 words)
bar_text [] words some more = absurd (omega arith)
bar_text (v ∷ vs) [] some more = absurd (omega arith)
bar_text (v ∷ vs) (x ∷ ws) some more = joined_bar v vs x ws

pub record ImagesFound (text : List ℕ) (before after : List Value) : Type 0 where
  pub spelt : text ≡ values_text before ++ 32 ∷ (124 ∷ 32 ∷ values_text after)
  pub before_fits : AreValues before
  pub after_fits : AreValues after
  pub before_some : 0 < length before
  pub after_some : 0 < length after

pub images_both : (text : List ℕ) → MatchResult (images_in text) (λ p. ImagesFound text p.0 p.1) IsBody
images_both text = found_weaker (images_in text) _ _ _ (λ p b.
    let f = values_found [] (words_of text) p.0 (Some b.words) b.front in
    let g = values_found [] b.words p.1 None b.back in
    let front : words_of text ≡ map value_text p.0 ++ (codes "|") ∷ b.words = f.words ∙ ap (λ (us : List Value). map value_text us ++ (codes "|") ∷ b.words) f.whole in
    let back : joined_by 32 b.words ≡ values_text p.1 = ap (joined_by 32) (g.words ∙ append-nil (map value_text g.read)) ∙ ap values_text g.whole in
    record {
      spelt = sym (parts_joined 32 text) ∙ ap (joined_by 32) front ∙ bar_text p.0 b.words f.stands.0 f.stands.1 ∙ ap (λ (t : List ℕ). values_text p.0 ++ 32 ∷ (124 ∷ 32 ∷ t)) back;
      before_fits = subst AreValues f.whole f.fits;
      after_fits = subst AreValues g.whole g.fits;
      before_some = f.stands.0;
      after_some = g.stands;
    }) (both_both (values_from [] (words_of text)))

-- ---- texts

not_bar : (v : Value) → FitsValue v → is_bar (value_text v) ≡ false
not_bar v fits = false_from_ne_true (is_bar (value_text v)) (λ e. let k = ap value_of (sym (bar_word (value_text v) e)) ∙ value_of-text v fits in let n = no_bar in absurd cc)

values_again : (before vs : List Value) → 0 < length vs → AreValues vs → values_from before (map value_text vs) ≡ Some (before ++ vs, None)
unfolding values_from
values_again before [] some fits = absurd (omega arith)
values_again before (v ∷ []) some fits = rw (not_bar v fits.0, value_of-text v fits.0) refl
values_again before (v ∷ w ∷ vs) some fits =
    rw (not_bar v fits.0, value_of-text v fits.0) (values_again (before ++ v ∷ []) (w ∷ vs) (omega arith) fits.1 ∙ ap (λ (us : List Value). some_image (us, None)) (append_assoc before (v ∷ []) (w ∷ vs)))

stop_again : (vs : List Value) (words : List (List ℕ)) → 0 < length vs → stop_at vs words ≡ Some (vs, Some words)
stop_again [] words some = absurd (omega arith)
stop_again (v ∷ vs) words some = refl

bar_again : (before vs : List Value) (x : List ℕ) (ws : List (List ℕ)) → 0 < length (before ++ vs) → AreValues vs → values_from before (map value_text vs ++ (codes "|") ∷ x ∷ ws) ≡ Some (before ++ vs, Some (x ∷ ws))
unfolding values_from
bar_again before [] x ws some fits = stop_again before (x ∷ ws) (subst (λ (us : List Value). 0 < length us) (append-nil before) some) ∙ ap (λ (us : List Value). some_image (us, Some (x ∷ ws))) (sym (append-nil before))
bar_again before (v ∷ []) x ws some fits =
    rw (not_bar v fits.0, value_of-text v fits.0) (bar_again (before ++ v ∷ []) [] x ws (subst (λ (us : List Value). 0 < length us) (sym (append-nil (before ++ v ∷ []))) some) tt ∙ ap (λ (us : List Value). some_image (us, Some (x ∷ ws))) (append-nil (before ++ v ∷ [])))
bar_again before (v ∷ w ∷ vs) x ws some fits =
    rw (not_bar v fits.0, value_of-text v fits.0) (bar_again (before ++ v ∷ []) (w ∷ vs) x ws (subst (λ (us : List Value). 0 < length us) (sym (append_assoc before (v ∷ []) (w ∷ vs))) some) fits.1 ∙ ap (λ (us : List Value). some_image (us, Some (x ∷ ws))) (append_assoc before (v ∷ []) (w ∷ vs)))

pub image_again : (vs : List Value) → 0 < length vs → AreValues vs → image_in (values_text vs) ≡ Ok vs
image_again [] some fits = absurd (omega arith)
image_again (v ∷ vs) some fits = ap one_image (ap (values_from []) (words_texts v vs fits) ∙ values_again [] (v ∷ vs) some fits)

two_again : (v : Value) (vs after : List Value) (ws : List (List ℕ)) → AreValues (v ∷ vs) → words_of (values_text after) ≡ ws → one_image (values_from [] ws) ≡ Ok after → 0 < length ws → images_in (values_text (v ∷ vs) ++ 32 ∷ (124 ∷ 32 ∷ values_text after)) ≡ Ok (v ∷ vs, after)
two_again v vs after [] fits is read some = absurd (omega arith)
two_again v vs after (x ∷ ws) fits is read some =
    ap both_images (ap (values_from []) (words_bar v vs (values_text after) fits ∙ ap (λ (t : List (List ℕ)). map value_text (v ∷ vs) ++ (codes "|") ∷ t) is) ∙ bar_again [] (v ∷ vs) x ws (omega arith) fits)
    ∙ ap (with_after (v ∷ vs)) read

pub images_again : (before after : List Value) → 0 < length before → AreValues before → 0 < length after → AreValues after → images_in (values_text before ++ 32 ∷ (124 ∷ 32 ∷ values_text after)) ≡ Ok (before, after)
images_again [] after some fits more also = absurd (omega arith)
images_again (v ∷ vs) [] some fits more also = absurd (omega arith)
images_again (v ∷ vs) (w ∷ us) some fits more also = two_again v vs (w ∷ us) (map value_text (w ∷ us)) fits (words_texts w us also) (ap one_image (values_again [] (w ∷ us) (omega arith) also)) (omega arith)
