-- The values of an image, one behind the other.
use Rattle.std.proofs.Common.{◌≡◌, ℕ, ◌+◌, ◌<◌, ◌≤◌, Bool, true, false, List, ◌∷◌, ◌++◌, length, get_or, drop, map, codes, Option, sym, ap, ◌∙◌, append_assoc}
use Rattle.std.specs.List.{flat_map}
use Rattle.std.proofs.lemmas.List.{drop_more, append-nil, drop_all}
use Rattle.row_images.specs.declared.value.Value.{Value}
use Rattle.binlog_rows.specs.Reading.{Image}
use Rattle.binlog_events.specs.RowLines.{value_said, image_text}

-- the texts of what is left, at these places
abbrev left : List Bool → ℕ → Image → ℕ → List ℕ
left flags i values at = image_text (drop i flags) (drop at values)

pub image_absent : (flags : List Bool) (i : ℕ) (values : Image) (at : ℕ) (text : List ℕ) → i < length flags → get_or flags i false ≡ false
    → (text ++ codes " -") ++ left flags (i + 1) values at ≡ text ++ left flags i values at
unfolding image_text
image_absent flags i values at text lt absent =
    append_assoc text (codes " -") (left flags (i + 1) values at)
    ∙ ap (λ (f : Bool). text ++ image_text (f ∷ drop (i + 1) flags) (drop at values)) (sym absent)
    ∙ ap (λ fs. text ++ image_text fs (drop at values)) (sym (drop_more flags i false lt))

pub image_short : (flags : List Bool) (i : ℕ) (values : Image) (at : ℕ) (text : List ℕ) → i < length flags → get_or flags i false ≡ true
    → length values ≤ at
    → text ≡ text ++ left flags i values at
unfolding image_text
image_short flags i values at text lt there le =
    sym (append-nil text)
    ∙ ap (λ vs. text ++ image_text (true ∷ drop (i + 1) flags) vs) (sym (drop_all at values le))
    ∙ ap (λ (f : Bool). text ++ image_text (f ∷ drop (i + 1) flags) (drop at values)) (sym there)
    ∙ ap (λ fs. text ++ image_text fs (drop at values)) (sym (drop_more flags i false lt))

pub image_next : (flags : List Bool) (i : ℕ) (values : Image) (at : ℕ) (text : List ℕ) (v : Option Value) → i < length flags
    → get_or flags i false ≡ true → at < length values → v ≡ get_or values at v
    → (text ++ (32 ∷ value_said v)) ++ left flags (i + 1) values (at + 1) ≡ text ++ left flags i values at
unfolding image_text
image_next flags i values at text v lt there more is =
    append_assoc text (32 ∷ value_said v) (left flags (i + 1) values (at + 1))
    ∙ ap (λ x. text ++ image_text (true ∷ drop (i + 1) flags) (x ∷ drop (at + 1) values)) is
    ∙ ap (λ vs. text ++ image_text (true ∷ drop (i + 1) flags) vs) (sym (drop_more values at v more))
    ∙ ap (λ (f : Bool). text ++ image_text (f ∷ drop (i + 1) flags) (drop at values)) (sym there)
    ∙ ap (λ fs. text ++ image_text fs (drop at values)) (sym (drop_more flags i false lt))

pub image_end : (flags : List Bool) (i : ℕ) (values : Image) (at : ℕ) (text : List ℕ) → length flags ≤ i
    → text ≡ text ++ left flags i values at
unfolding image_text
image_end flags i values at text le =
    sym (append-nil text) ∙ ap (λ fs. text ++ image_text fs (drop at values)) (sym (drop_all i flags le))

-- ---- rows

-- a text for each item, behind others
pub texts_next : {A B : Type 0} (f : B → List ℕ) (view : A → B) (all : List A) (i : ℕ) (x : A) (text new : List ℕ) → i < length all
    → x ≡ get_or all i x → new ≡ text ++ f (view x)
    → new ++ flat_map f (map view (drop (i + 1) all)) ≡ text ++ flat_map f (map view (drop i all))
texts_next f view all i x text new lt is put =
    ap (λ t. t ++ flat_map f (map view (drop (i + 1) all))) put
    ∙ append_assoc text (f (view x)) (flat_map f (map view (drop (i + 1) all)))
    ∙ ap (λ y. text ++ (f (view y) ++ flat_map f (map view (drop (i + 1) all)))) is
    ∙ ap (λ xs. text ++ flat_map f (map view xs)) (sym (drop_more all i x lt))

pub texts_end : {A B : Type 0} (f : B → List ℕ) (view : A → B) (all : List A) (i : ℕ) (text : List ℕ) → length all ≤ i
    → text ≡ text ++ flat_map f (map view (drop i all))
texts_end f view all i text le = sym (append-nil text) ∙ ap (λ xs. text ++ flat_map f (map view xs)) (sym (drop_all i all le))
