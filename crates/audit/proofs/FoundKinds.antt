-- Of which kind the verdict is that a search finds.
use Rattle.std.proofs.Common.{◌≡◌, ℕ, Bool, true, false, inl, inr, List, Option, Some, None, refl, sym, ap, ◌∙◌}
use Rattle.std.specs.Option.{option_map, unwrap_or}
use Rattle.std.specs.FinMap as finmap
use Rattle.std.specs.FinSet as set
use Rattle.std.proofs.lemmas.Option.{same_Some}
use Rattle.lemmas.proofs.Tests.{not_both}
use Rattle.lemmas.proofs.Options.{none_some}
use Rattle.gtid_text.specs.declared.Gtid.{Gtid}
use Rattle.rows.specs.WriteSet.{write_set}
use Rattle.journal.specs.Journals.{JournalValue}
use Rattle.history.specs.Sources.{World, of_source, entries_in}
use Rattle.world.specs.declared.verdict.Verdict.{Verdict}
use Rattle.world.specs.declared.verdict.Verdict.TheVariants.{Unequal, Purged, Missing, Shared, NotClosed, DoesNotApply, Sound}
use Rattle.world.specs.Search.{or_next, when, first_at}
use Rattle.world.specs.Audit.{unequal, purged, missing, shared, not_closed, first_fault, does_not_apply, verdict}
use Rattle.world.proofs.Finding.{next_some, when_some, first_some}

-- what is found is not of this kind
abbrev pub IsNever : (Verdict → Bool) → Option Verdict → Type 0
IsNever kind o = (v : Verdict) → o ≡ Some v → kind v ≡ false

pub first_kind : {A : Type 0} (kind : Verdict → Bool) (f : ℕ → A → Option Verdict) (xs : List A) → ((i : ℕ) (x : A) → IsNever kind (f i x)) → IsNever kind (first_at f xs)
first_kind kind f xs h v e = let r = first_some f xs v e in h r.place r.element v r.gives

pub when_kind : (kind : Verdict → Bool) (b : Bool) (y : Verdict) → kind y ≡ false → IsNever kind (when b y)
when_kind kind b y h v e = ap kind (sym (when_some b y v e).1) ∙ h

pub next_kind : (kind : Verdict → Bool) (o p : Option Verdict) → IsNever kind o → IsNever kind p → IsNever kind (or_next o p)
next_kind kind o p h g v e = elim (next_some o p v e) [ inl x ↦ h v x | inr y ↦ g v y.1 ]

map_kind : {A : Type 0} (kind : Verdict → Bool) (f : A → Verdict) (o : Option A) → ((x : A) → kind (f x) ≡ false) → IsNever kind (option_map f o)
map_kind kind f None h v e = none_some v e
map_kind kind f (Some x) h v e = ap kind (sym (same_Some (f x) v e)) ∙ h x

-- ---- the verdict that reports a missing GTID

abbrev is_missing : Verdict → Bool
is_missing (Missing g) = true
is_missing _ = false

-- the verdict is of a kind that only the third search finds
found_third : (kind : Verdict → Bool) (x : Verdict) (a b c d e : Option Verdict) → IsNever kind a → IsNever kind b → IsNever kind d → IsNever kind e → kind x ≡ true → kind Sound ≡ false
    → x ≡ unwrap_or (or_next (or_next a (or_next b (or_next c d))) e) Sound → c ≡ Some x
found_third kind x (Some v) b c d e na nb nd ne said unsaid is = not_both (kind v) (ap kind (sym is) ∙ said) (na v refl)
found_third kind x None (Some v) c d e na nb nd ne said unsaid is = not_both (kind v) (ap kind (sym is) ∙ said) (nb v refl)
found_third kind x None None (Some v) d e na nb nd ne said unsaid is = ap Some (sym is)
found_third kind x None None None (Some v) e na nb nd ne said unsaid is = not_both (kind v) (ap kind (sym is) ∙ said) (nd v refl)
found_third kind x None None None None (Some v) na nb nd ne said unsaid is = not_both (kind v) (ap kind (sym is) ∙ said) (ne v refl)
found_third kind x None None None None None na nb nd ne said unsaid is = not_both (kind Sound) (ap kind (sym is) ∙ said) unsaid

pub found_missing : (world : World) (journals : List JournalValue) (g : Gtid) → Missing g ≡ verdict world journals → missing world journals ≡ Some (Missing g)
found_missing world journals g is =
    found_third is_missing (Missing g) (unequal world journals) (purged world journals) (missing world journals) (or_next (shared world) (not_closed world journals)) (does_not_apply world)
    (first_kind is_missing _ journals (λ i j. first_kind is_missing _ j.entries (λ k e. when_kind is_missing _ (Unequal e.gtid) refl)))
    (first_kind is_missing _ journals (λ i j. when_kind is_missing _ (Purged i (set.difference j.previous world.opening_set)) refl))
    (next_kind is_missing (shared world) (not_closed world journals)
    (first_kind is_missing _ (finmap.entries world.contents) (λ i h. first_kind is_missing _ (write_set world.schema h.1) (λ k key. first_kind is_missing _ (finmap.entries world.contents) (λ l f. when_kind is_missing _ (Shared f.0 h.0 key) refl))))
    (first_kind is_missing _ journals (λ i j. first_kind is_missing _ j.entries (λ k e. first_kind is_missing _ (finmap.entries world.contents) (λ l h. when_kind is_missing _ (NotClosed e.gtid h.0) refl)))))
    (first_kind is_missing _ (finmap.entries world.contents) (λ i e. map_kind is_missing (λ fault. DoesNotApply fault.0 fault.1) (first_fault world.schema (entries_in world (of_source e.0.source)) world.opening_rows) (λ fault. refl)))
    refl refl is
