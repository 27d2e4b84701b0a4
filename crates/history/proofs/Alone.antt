-- What each source committed, taken alone, and all of it together.
use Rattle.std.proofs.Common.{◌≡◌, ◌≢◌, ℕ, Bool, true, false, cond, List, [], ◌∷◌, Some, Ok, refl, sym, ap, ◌∙◌, eqb}
use Rattle.std.specs.Option.{unwrap_or}
use Rattle.std.specs.List.{filter, AllByRecursion}
use Rattle.std.specs.FinMap.{entries}
use Rattle.std.proofs.lemmas.Bool.{eqb-true, eq-eqb}
use Rattle.lemmas.proofs.Tests.{not_both}
use Rattle.rows.specs.declared.schema.Table.{Table}
use Rattle.rows.specs.Apply.{Rows, ◌>>=◌, apply}
use Rattle.rows.specs.WriteSet.{touches, left_by, AgreeOn}
use Rattle.rows.proofs.Local.{bind_ok, after_apply}
use Rattle.history.proofs.Commuting.{AreApart, frame, applies_too, apart_back}
use Rattle.history.proofs.Placing.{IsClosedIn, chosen_applies, all_map}
use Rattle.history.proofs.Entries.{all_two}
use Rattle.history.proofs.Merging.{got}
use Rattle.history.proofs.Closing.{is_ok_of}
use Rattle.history.specs.Sources.{World, Entry, content, apply_all, rows_of, of_source, AreKeysSound, IsSound}
use Rattle.history.specs.SourceLaws.{AloneOrTogether}
use Rattle.history.specs.Shares.{of_sources}
use Rattle.history.proofs.SourceEntries.{AreFound, found, apart_sources}

-- Each source's transactions share no key with another's.
abbrev AreSourcesApart : List Table → List Entry → Type 0
AreSourcesApart schema [] = Unit {0}
AreSourcesApart schema (e ∷ es) = AllByRecursion (λ f. of_source f.0.source e.0 ≡ false → AreApart schema e.1 f.1) es × AreSourcesApart schema es

-- rows on which the transactions of source s, taken alone, apply, and which agree with these under all keys that they touch
record IsAlone (schema : List Table) (es : List Entry) (rows : Rows) (s : ℕ) (solo end : Rows) : Type 0 where
  applies : apply_all schema (filter (λ e. of_source s e.0) es) solo ≡ Ok end
  agrees : AllByRecursion (λ e. of_source s e.0 ≡ true → AgreeOn (touches schema e.1) rows solo) es

after_own : (schema : List Table) (e : Entry) (es : List Entry) (rows rows' solo end : Rows) (s : ℕ) → apply schema e.1 rows ≡ Ok rows' → of_source s e.0 ≡ true → IsAlone schema (e ∷ es) rows s solo end → (solo' : Rows) × (end' : Rows) × IsAlone schema es rows' s solo' end'
after_own schema e es rows rows' solo end s f own h =
    let F = filter (λ x. of_source s x.0) es in
    let whole : apply_all schema (e ∷ F) solo ≡ Ok end = sym (λ i. apply_all schema (cond (own i) (e ∷ F) F) solo) ∙ h.applies in
    let first = bind_ok (apply schema e.1 solo) (apply_all schema F) end whole in (
      first.0,
      end,
      record {
        applies = first.2;
        agrees = all_map (λ x. of_source s x.0 ≡ true → AgreeOn (touches schema x.1) rows solo) (λ x. of_source s x.0 ≡ true → AgreeOn (touches schema x.1) rows' first.0) es
            (λ x g t k p. after_apply schema e.1 rows rows' f k ∙ ap (unwrap_or (left_by schema e.1 k)) (g t k p) ∙ sym (after_apply schema e.1 solo first.0 first.1 k)) h.agrees.1;
      },
    )

other_source : (s a b : ℕ) → eqb s b ≡ true → eqb s a ≡ false → eqb b a ≡ false
other_source s a b e n = ap (λ (x : ℕ). eqb x a) (sym (eqb-true s b e)) ∙ n

after_other : (schema : List Table) (e : Entry) (es : List Entry) (rows rows' solo end : Rows) (s : ℕ) → apply schema e.1 rows ≡ Ok rows' → of_source s e.0 ≡ false → AllByRecursion (λ x. of_source x.0.source e.0 ≡ false → AreApart schema e.1 x.1) es → IsAlone schema (e ∷ es) rows s solo end → IsAlone schema es rows' s solo end
after_other schema e es rows rows' solo end s f other apart h =
    let F = filter (λ x. of_source s x.0) es in
    record {
      applies = sym (λ i. apply_all schema (cond (other i) (e ∷ F) F) solo) ∙ h.applies;
      agrees = all_two (λ x. of_source s x.0 ≡ true → AgreeOn (touches schema x.1) rows solo) (λ x. of_source x.0.source e.0 ≡ false → AreApart schema e.1 x.1) (λ x. of_source s x.0 ≡ true → AgreeOn (touches schema x.1) rows' solo) es
          (λ x g a t k p. frame schema e.1 rows rows' k f (apart_back schema e.1 x.1 (a (other_source s e.0.source x.0.source t other)) k p) ∙ g t k p) h.agrees.1 apart;
    }

after_any : (schema : List Table) (e : Entry) (es : List Entry) (rows rows' solo end : Rows) (s : ℕ) (own : Bool) → of_source s e.0 ≡ own → apply schema e.1 rows ≡ Ok rows' → AllByRecursion (λ x. of_source x.0.source e.0 ≡ false → AreApart schema e.1 x.1) es → IsAlone schema (e ∷ es) rows s solo end → (solo' : Rows) × (end' : Rows) × IsAlone schema es rows' s solo' end'
after_any schema e es rows rows' solo end s true is f apart h = after_own schema e es rows rows' solo end s f is h
after_any schema e es rows rows' solo end s false is f apart h = (solo, end, after_other schema e es rows rows' solo end s f is apart h)

first_applies : (schema : List Table) (e : Entry) (es : List Entry) (rows solo end : Rows) → IsAlone schema (e ∷ es) rows e.0.source solo end → (rows' : Rows) × (apply schema e.1 rows ≡ Ok rows')
first_applies schema e es rows solo end h =
    let F = filter (λ x. of_source e.0.source x.0) es in
    let own : of_source e.0.source e.0 ≡ true = eq-eqb e.0.source e.0.source refl in
    let whole : apply_all schema (e ∷ F) solo ≡ Ok end = sym (λ i. apply_all schema (cond (own i) (e ∷ F) F) solo) ∙ h.applies in
    let first = bind_ok (apply schema e.1 solo) (apply_all schema F) end whole in
    applies_too schema e.1 solo first.0 rows first.1 (λ k p. sym (h.agrees.0 own k p))

-- Where each source's transactions apply alone, and no two sources share a key, all of them apply together.
all_apply : (schema : List Table) (es : List Entry) (rows : Rows) → AreSourcesApart schema es → ((s : ℕ) → (solo : Rows) × (end : Rows) × IsAlone schema es rows s solo end) → (end : Rows) × (apply_all schema es rows ≡ Ok end)
all_apply schema [] rows apart alone = (rows, refl)
all_apply schema (e ∷ es) rows apart alone =
    let own = alone e.0.source in
    let first = first_applies schema e es rows own.0 own.1 own.2 in
    let rest = all_apply schema es first.0 apart.1 (λ s. let h = alone s in after_any schema e es rows first.0 h.0 h.1 s (of_source s e.0) refl first.1 apart.0 h.2) in
    (rest.0, ap (λ r. r >>= apply_all schema es) first.1 ∙ rest.1)

-- ---- of a world

source_differs : (s t : ℕ) → eqb s t ≡ false → t ≢ s
source_differs s t n e = not_both (eqb s t) (eq-eqb s t (sym e)) n

pub sources_apart : (world : World) → AreKeysSound world → (es : List Entry) → AreFound world es → AreSourcesApart world.schema es
sources_apart world sound [] h = tt
sources_apart world sound (e ∷ es) h = (
  all_map (λ f. content world f.0 ≡ Some f.1) (λ f. of_source f.0.source e.0 ≡ false → AreApart world.schema e.1 f.1) es
      (λ f k n. apart_sources world sound e.0 f.0 e.1 f.1 h.0 k (source_differs f.0.source e.0.source n)) h.1,
  sources_apart world sound es h.1,
)

-- the transactions of some sources, of a list: those that are left out are other sources'
pub sources_closed : (world : World) → AreKeysSound world → (p : ℕ → Bool) (es : List Entry) → AreFound world es → IsClosedIn world.schema (of_sources p) es
sources_closed world sound p [] h = tt
sources_closed world sound p (e ∷ es) h = (
  λ n. all_map (λ f. content world f.0 ≡ Some f.1) (λ f. of_sources p f.0 ≡ true → AreApart world.schema e.1 f.1) es
      (λ f k y. apart_sources world sound e.0 f.0 e.1 f.1 h.0 k (λ same. not_both (of_sources p e.0) (ap p same ∙ y) n)) h.1,
  sources_closed world sound p es h.1,
)

-- the same of one source
pub source_closed : (world : World) → AreKeysSound world → (s : ℕ) (es : List Entry) → AreFound world es → IsClosedIn world.schema (of_source s) es
source_closed world sound s es h = sources_closed world sound (eqb s) es h

agrees_itself : (schema : List Table) (rows : Rows) (s : ℕ) (es : List Entry) → AllByRecursion (λ e. of_source s e.0 ≡ true → AgreeOn (touches schema e.1) rows rows) es
agrees_itself schema rows s [] = tt
agrees_itself schema rows s (e ∷ es) = (λ t k p. refl, agrees_itself schema rows s es)

-- all histories together apply
pub all_histories : (world : World) → IsSound world → (end : Rows) × (apply_all world.schema (entries world.contents) world.opening_rows ≡ Ok end)
all_histories world sound =
    all_apply world.schema (entries world.contents) world.opening_rows (sources_apart world sound.keys (entries world.contents) (found world))
    (λ s. let end = got (rows_of world (of_source s)) (sound.alone s) in (world.opening_rows, end.0, record { applies = end.1; agrees = agrees_itself world.schema world.opening_rows s (entries world.contents) }))

-- Where all transactions together apply, each source's applies alone.
pub alone_from_all : (world : World) (rows : Rows) (s : ℕ) → AreKeysSound world → apply_all world.schema (entries world.contents) world.opening_rows ≡ Ok rows → (m : Rows) × (rows_of world (of_source s) ≡ Ok m)
alone_from_all world rows s sound e = chosen_applies world.schema (of_source s) (entries world.contents) world.opening_rows rows (source_closed world sound s (entries world.contents) (found world)) e

pub alone_or_together : AloneOrTogether
alone_or_together world keys = (
  λ alone. let h = all_histories world (record { keys = keys; alone = alone }) in is_ok_of (apply_all world.schema (entries world.contents) world.opening_rows) h.0 h.1,
  λ all s. let end = got (apply_all world.schema (entries world.contents) world.opening_rows) all in
      let h = alone_from_all world end.0 s keys end.1 in is_ok_of (rows_of world (of_source s)) h.0 h.1,
)
