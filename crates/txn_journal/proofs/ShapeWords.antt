-- The words of the lines of tables and references: reading is sound and complete.
use Rattle.std.proofs.Common.{◌≡◌, ℕ, Bool, true, false, List, [], ◌∷◌, ◌++◌, Option, Some, None, Result, Ok, refl, sym, ap, ◌∙◌, append_assoc, ◌<◌, Bor, length, map, Err, arith}
use Rattle.std.specs.Prelude.{◌&&◌, codes, MatchResult}
use Rattle.std.specs.List.{list_all}
use Rattle.std.specs.Str.{bytes_eq}
use Rattle.std.proofs.lemmas.Bool.{and_parts}
use Rattle.std.proofs.lemmas.List.{append-nil, length-map}
use Rattle.std.proofs.lemmas.Slice.Eq.{bytes_eq-Decides}
use Rattle.rows.specs.declared.limits.Limits.{Limits}
use Rattle.rows.specs.declared.limits.Limits.TheVariants.{Narrow, Wide}
use Rattle.row_images.specs.Words.{is_count}
use Rattle.row_images.proofs.Counts.{lacks}
use Rattle.txn_journal.specs.Words.{name_of}
use Rattle.txn_journal.specs.Lines.{some_or_body}
use Rattle.row_images.specs.Parts.{parts_of, joined_by}
use Rattle.txn_journal.specs.Splits.{is_columns_text}
use Rattle.txn_journal.specs.Shapes.{Shape, Behind, unique_words, hidden_words, shape_words, shape_text, hides, may_hide, FitsShape, is_last_pair, hidden_behind, behind_from, is_head, shape_of, shape_in}
use Rattle.txn_journal.specs.declared.fault.Cause.{Cause}
use Rattle.txn_journal.proofs.NameLemmas.{name_no_blank, name_no_feed}
use Rattle.txn_journal.proofs.Judged.{then_both, if_both, found_weaker, IsBody}
use Rattle.txn_journal.proofs.LineReads.{name_both}
use Rattle.row_images.proofs.PartLaws.{parts_joined, AllLack, parts_again}
use Rattle.txn_journal.proofs.SplitLaws.{joined_lacks, count_no_blank, count_no_feed, columns_no_blank, columns_no_feed}
use Rattle.txn_journal.specs.References.{ReferenceShape, cascade_words, reference_words, reference_text, FitsReference, name_in, cascade_in, reference_of, reference_in, reference_behind}
use Rattle.txn_journal.specs.declared.fault.Cause.TheVariants as causes

-- ---- reading is sound

record BehindFound (limits : Limits) (before words : List (List ℕ)) (b : Behind) : Type 0 where
  read : List (List ℕ)
  whole : before ++ read ≡ b.uniques
  spelt : words ≡ unique_words read ++ hidden_words b.hidden
  fits : list_all is_columns_text read ≡ true
  hidden : may_hide limits b.hidden ≡ true

pair_both : (limits : Limits) (before : List (List ℕ)) (key count : List ℕ) (words : List (List ℕ)) (b : Bool) → is_last_pair limits key count words ≡ b → MatchResult (hidden_behind b before count) (BehindFound limits before (key ∷ count ∷ words)) IsBody
pair_both limits before key count words false e = tt
pair_both limits before key count [] true e =
    let p = and_parts (bytes_eq key (codes "hidden")) (hides limits count) e in
    record { read = []; whole = append-nil before; spelt = (λ i. (bytes_eq-Decides key (codes "hidden")).0 p.0 i ∷ count ∷ []); fits = refl; hidden = p.1 }
pair_both limits before key count (w ∷ ws) true e = absurd cc

behind_both : (limits : Limits) (before words : List (List ℕ)) → MatchResult (behind_from limits before words) (BehindFound limits before words) IsBody
unfolding behind_from
behind_both limits before [] = record { read = []; whole = append-nil before; spelt = refl; fits = refl; hidden = refl }
behind_both limits before (key ∷ []) = tt
behind_both limits before (key ∷ word ∷ words) = if_both _ _ (bytes_eq key (codes "uk") && is_columns_text word) _ _ (λ is.
    let q = and_parts (bytes_eq key (codes "uk")) (is_columns_text word) is in
    found_weaker (behind_from limits (before ++ word ∷ []) words) _ _ _ (λ b more. record {
      read = word ∷ more.read;
      whole = sym (append_assoc before (word ∷ []) more.read) ∙ more.whole;
      spelt = (λ i. (bytes_eq-Decides key (codes "uk")).0 q.0 i ∷ word ∷ more.spelt i);
      fits = rw q.1 more.fits;
      hidden = more.hidden;
    }) (behind_both limits (before ++ word ∷ []) words)) (λ no. pair_both limits before key word words (is_last_pair limits key word words) refl)

pub record ShapeFound (limits : Limits) (words : List (List ℕ)) (s : Shape) : Type 0 where
  pub spelt : words ≡ shape_words s
  pub fits : FitsShape limits s

words_both : (limits : Limits) (words : List (List ℕ)) → MatchResult (shape_of limits words) (ShapeFound limits words) IsBody
unfolding shape_of
words_both limits [] = tt
words_both limits (n ∷ []) = tt
words_both limits (n ∷ c ∷ []) = tt
words_both limits (n ∷ c ∷ k ∷ []) = tt
words_both limits (n ∷ c ∷ k ∷ p ∷ words) = then_both _ _ (some_or_body (name_of limits n)) _ (name_both limits n) (λ name h. if_both _ _ (is_head c k p) _ _ (λ head.
    let q = and_parts (is_count c) (bytes_eq k (codes "pk") && is_columns_text p) head in
    let r = and_parts (bytes_eq k (codes "pk")) (is_columns_text p) q.1 in
    then_both _ _ (behind_from limits [] words) _ (behind_both limits [] words) (λ b u. record {
      spelt = (λ i. h.0 i ∷ c ∷ (bytes_eq-Decides k (codes "pk")).0 r.0 i ∷ p ∷ (u.spelt ∙ ap (λ (us : List (List ℕ)). unique_words us ++ hidden_words b.hidden) u.whole) i);
      fits = record { name = h.1; columns = q.0; primary = r.1; uniques = ap (list_all is_columns_text) (sym u.whole) ∙ u.fits; hidden = u.hidden };
    })) (λ no. tt))

pub shape_both : (limits : Limits) (text : List ℕ) → MatchResult (shape_in limits text) (λ s. (text ≡ shape_text s) × FitsShape limits s) IsBody
unfolding shape_in
shape_both limits text = found_weaker (shape_of limits (parts_of 32 text)) _ _ _ (λ s f. (sym (parts_joined 32 text) ∙ ap (joined_by 32) f.spelt, f.fits)) (words_both limits (parts_of 32 text))

-- ---- reading is complete

abbrev ok_list : List (List ℕ) → Result (List (List ℕ)) Cause
ok_list x = Ok x

abbrev behind_of : Option (List ℕ) → List (List ℕ) → Result Behind Cause
behind_of hidden uniques = Ok (record { uniques = uniques; hidden = hidden })

behind_again : (limits : Limits) (before us : List (List ℕ)) (hidden : Option (List ℕ)) → list_all is_columns_text us ≡ true → may_hide limits hidden ≡ true → behind_from limits before (unique_words us ++ hidden_words hidden) ≡ behind_of hidden (before ++ us)
unfolding behind_from
behind_again limits before [] None e h = ap (behind_of None) (sym (append-nil before))
behind_again limits before [] (Some count) e h = rw h (ap (behind_of (Some count)) (sym (append-nil before)))
behind_again limits before (u ∷ us) hidden e h =
    let p = and_parts (is_columns_text u) (list_all is_columns_text us) e in
    rw p.0 (behind_again limits (before ++ u ∷ []) us hidden p.1 h) ∙ ap (behind_of hidden) (append_assoc before (u ∷ []) us)

hidden_is_count : (limits : Limits) (count : List ℕ) → hides limits count ≡ true → is_count count ≡ true
hidden_is_count Narrow count e = absurd cc
hidden_is_count Wide count e = e

-- a byte that neither words nor columns nor counts have
record IsApart (c : ℕ) : Type 0 where
  unique : lacks c (codes "uk") ≡ true
  hidden : lacks c (codes "hidden") ≡ true
  columns : (t : List ℕ) → is_columns_text t ≡ true → lacks c t ≡ true
  counts : (t : List ℕ) → is_count t ≡ true → lacks c t ≡ true

behind_words_lack : (c : ℕ) (limits : Limits) (us : List (List ℕ)) (hidden : Option (List ℕ)) → IsApart c → list_all is_columns_text us ≡ true → may_hide limits hidden ≡ true → AllLack c (unique_words us ++ hidden_words hidden)
behind_words_lack c limits [] None apart e h = tt
behind_words_lack c limits [] (Some count) apart e h = (apart.hidden, (apart.counts count (hidden_is_count limits count h), tt))
behind_words_lack c limits (u ∷ us) hidden apart e h =
    let p = and_parts (is_columns_text u) (list_all is_columns_text us) e in
    (apart.unique, (apart.columns u p.0, behind_words_lack c limits us hidden apart p.1 h))

shape_words_no_blank : (limits : Limits) (s : Shape) → FitsShape limits s → AllLack 32 (shape_words s)
shape_words_no_blank limits s f =
    let apart : IsApart 32 = record { unique = refl; hidden = refl; columns = columns_no_blank; counts = count_no_blank } in
    (name_no_blank limits s.name f.name, (count_no_blank s.columns f.columns, (refl, (columns_no_blank s.primary f.primary, behind_words_lack 32 limits s.uniques s.hidden apart f.uniques f.hidden))))

shape_words_no_feed : (limits : Limits) (s : Shape) → FitsShape limits s → AllLack 10 (shape_words s)
shape_words_no_feed limits s f =
    let apart : IsApart 10 = record { unique = refl; hidden = refl; columns = columns_no_feed; counts = count_no_feed } in
    (name_no_feed limits s.name f.name, (count_no_feed s.columns f.columns, (refl, (columns_no_feed s.primary f.primary, behind_words_lack 10 limits s.uniques s.hidden apart f.uniques f.hidden))))

pub shape_one : (limits : Limits) (s : Shape) → FitsShape limits s → lacks 10 (shape_text s) ≡ true
shape_one limits s f = joined_lacks 32 10 (shape_words s) refl (shape_words_no_feed limits s f)

pub shape_again : (limits : Limits) (s : Shape) → FitsShape limits s → shape_in limits (shape_text s) ≡ Ok s
unfolding shape_in shape_of
shape_again limits s f =
    ap (shape_of limits) (parts_again 32 s.name (s.columns ∷ (codes "pk") ∷ s.primary ∷ (unique_words s.uniques ++ hidden_words s.hidden)) (shape_words_no_blank limits s f))
    ∙ rw (f.name, f.columns, f.primary, behind_again limits [] s.uniques s.hidden f.uniques f.hidden) refl

-- ---- the words of a reference

cascade_both : (words : List (List ℕ)) → MatchResult (cascade_in words) (λ c. words ≡ cascade_words c) IsBody
cascade_both [] = refl
cascade_both (w ∷ []) = if_both _ _ (bytes_eq w (codes "cascade")) _ _ (λ is. ap (λ (x : List ℕ). x ∷ []) ((bytes_eq-Decides w (codes "cascade")).0 is)) (λ no. tt)
cascade_both (v ∷ w ∷ ws) = tt

record ReferenceFound (limits : Limits) (words : List (List ℕ)) (s : ReferenceShape) : Type 0 where
  spelt : words ≡ reference_words s
  fits : FitsReference limits s

reference_words_both : (limits : Limits) (words : List (List ℕ)) → MatchResult (reference_of limits words) (ReferenceFound limits words) IsBody
unfolding reference_of
reference_words_both limits [] = tt
reference_words_both limits (c ∷ []) = tt
reference_words_both limits (c ∷ cs ∷ []) = tt
reference_words_both limits (c ∷ cs ∷ p ∷ []) = tt
reference_words_both limits (c ∷ cs ∷ p ∷ k ∷ words) = then_both _ _ (name_in limits c) _ (name_both limits c) (λ child h. then_both _ _ (name_in limits p) _ (name_both limits p) (λ parent g. if_both _ _ (is_columns_text cs && is_count k) _ _ (λ is.
    let q = and_parts (is_columns_text cs) (is_count k) is in
    then_both _ _ (cascade_in words) _ (cascade_both words) (λ cascade e. record {
      spelt = (λ i. h.0 i ∷ cs ∷ g.0 i ∷ k ∷ e i);
      fits = record { child = h.1; columns = q.0; parent = g.1; key = q.1 };
    })) (λ no. tt)))

pub reference_both : (limits : Limits) (rest : Option (List ℕ)) → MatchResult (reference_behind limits rest) (λ s. (rest ≡ Some (reference_text s)) × FitsReference limits s) IsBody
unfolding reference_in
reference_both limits None = tt
reference_both limits (Some text) = found_weaker (reference_of limits (parts_of 32 text)) _ _ _ (λ s f. (ap Some (sym (parts_joined 32 text) ∙ ap (joined_by 32) f.spelt), f.fits)) (reference_words_both limits (parts_of 32 text))

-- fewer words than four are no reference
few_reference_words : (limits : Limits) (words : List (List ℕ)) → length words < 4 → reference_of limits words ≡ Err causes.Body
unfolding reference_of
few_reference_words limits [] few = refl
few_reference_words limits (a ∷ []) few = refl
few_reference_words limits (a ∷ b ∷ []) few = refl
few_reference_words limits (a ∷ b ∷ c ∷ []) few = refl
few_reference_words limits (a ∷ b ∷ c ∷ d ∷ words) few = absurd (omega (arith, few))

pub too_few : (limits : Limits) (text : List ℕ) (words : List (Bor (List ℕ))) → map (λ w. w.now) words ≡ parts_of 32 text → length words < 4 → reference_in limits text ≡ Err causes.Body
unfolding reference_in
too_few limits text words is few =
    let count = length-map words (λ (w : Bor (List ℕ)). w.now) in
    ap (reference_of limits) (sym is) ∙ few_reference_words limits (map (λ w. w.now) words) (omega (arith, few, count))

-- they are read again

cascade_again : (c : Bool) → cascade_in (cascade_words c) ≡ Ok c
cascade_again true = refl
cascade_again false = refl

cascade_no_blank : (c : Bool) → AllLack 32 (cascade_words c)
cascade_no_blank true = (refl, tt)
cascade_no_blank false = tt

cascade_no_feed : (c : Bool) → AllLack 10 (cascade_words c)
cascade_no_feed true = (refl, tt)
cascade_no_feed false = tt

reference_no_blank : (limits : Limits) (s : ReferenceShape) → FitsReference limits s → AllLack 32 (reference_words s)
reference_no_blank limits s f = (name_no_blank limits s.child f.child, (columns_no_blank s.columns f.columns, (name_no_blank limits s.parent f.parent, (count_no_blank s.key f.key, cascade_no_blank s.cascade))))

reference_no_feed : (limits : Limits) (s : ReferenceShape) → FitsReference limits s → AllLack 10 (reference_words s)
reference_no_feed limits s f = (name_no_feed limits s.child f.child, (columns_no_feed s.columns f.columns, (name_no_feed limits s.parent f.parent, (count_no_feed s.key f.key, cascade_no_feed s.cascade))))

pub reference_one : (limits : Limits) (s : ReferenceShape) → FitsReference limits s → lacks 10 (reference_text s) ≡ true
reference_one limits s f = joined_lacks 32 10 (reference_words s) refl (reference_no_feed limits s f)

pub reference_again : (limits : Limits) (s : ReferenceShape) → FitsReference limits s → reference_behind limits (Some (reference_text s)) ≡ Ok s
unfolding reference_in reference_of
reference_again limits s f =
    ap (reference_of limits) (parts_again 32 s.child (s.columns ∷ s.parent ∷ s.key ∷ cascade_words s.cascade) (reference_no_blank limits s f))
    ∙ rw (f.child, f.parent, f.columns, f.key, cascade_again s.cascade) refl
