-- A world of sources means the same as a world in one order.
use Rattle.std.proofs.Common.{◌≡◌, ◌<◌, ◌⊎◌, Bool, true, inl, inr, List, [], ◌∷◌, Option, Some, None, refl, sym, ap, ◌∙◌, subst, arith, eqb}
use Rattle.std.specs.Prelude.{◌↔◌, IsSome}
use Rattle.std.specs.FinMap.{entries}
use Rattle.std.specs.declared.cmp.Ordering.TheVariants.{Less}
use Rattle.std.proofs.lemmas.Bool.{eqb-true, eq-eqb, cases_Bool}
use Rattle.gtid_text.specs.declared.Gtid.{Gtid}
use Rattle.gtid_text.specs.Gtids.{gtid_cmp}
use Rattle.rows.specs.declared.change.Transaction.{Transaction}
use Rattle.rows.specs.Conflicts.{conflicts}
use Rattle.history.specs.Sources as sources
use Rattle.history.specs.Sources.{World, Entry, in_order}
use Rattle.history.proofs.Placing.{all_in}
use Rattle.history.proofs.SourceEntries as found
use Rattle.history.proofs.SourceGtids.{number_less}
use Rattle.history.proofs.Alone.{alone_or_together}
use Rattle.history.specs.World as ordered
use Rattle.history.specs.World.{IsIn, Precedes}
use Rattle.history.proofs.Entries.{is_in_of, found_in}
use Rattle.history.proofs.Ordering.{each_pair, either_first, first_in, second_in}
use Rattle.lemmas.proofs.Tests.{not_both}
use Rattle.std.specs.List.{AllByRecursion}
use Rattle.journal.specs.Journals.{JournalValue}
use Rattle.journal.specs.declared.Entry as journal
use Rattle.history.specs.SourceJournals.{IsFaithful, IsFaithfulBySource}

pub rises : (world : World) (e f : Entry) → Precedes (entries world.contents) e f → gtid_cmp e.0 f.0 ≡ Less
rises world e f p = each_pair (λ (x y : Entry). gtid_cmp x.0 y.0 ≡ Less) (entries world.contents) (found.rising world) e f p

-- what is in the order is the world's content
pub stands : (world : World) (e : Entry) → IsIn e (entries world.contents) → sources.content world e.0 ≡ Some e.1
stands world e i = all_in (λ (x : Entry). sources.content world x.0 ≡ Some x.1) e (entries world.contents) (found.found world) i

-- ---- contents

same_option : (o p : Option Transaction) → ((t : Transaction) → o ≡ Some t → p ≡ Some t) → ((t : Transaction) → p ≡ Some t → o ≡ Some t) → o ≡ p
same_option (Some t) p there back = sym (there t refl)
same_option None (Some t) there back = back t refl
same_option None None there back = refl

distinct : (world : World) → ordered.AreDistinct (entries world.contents)
distinct world = found.distinct (entries world.contents) (found.rising world)

pub same_content : (world : World) (g : Gtid) → ordered.content (in_order world) g ≡ sources.content world g
same_content world g = same_option (ordered.content (in_order world) g) (sources.content world g)
    (λ t e. stands world (g, t) (is_in_of g t (entries world.contents) e))
    (λ t e. found_in (entries world.contents) (g, t) (distinct world) (found.is_in world g t e))

-- ---- soundness

pub same_gtids : (world : World) → sources.AreKeysSound world → ordered.AreGtidsSound (in_order world)
same_gtids world sound = record {
  outside = λ g h. sound.outside g (subst IsSome (same_content world g) h);
  distinct = distinct world;
}

pub same_sound : (world : World) → sources.AreKeysSound world → sources.IsSound world ↔ ordered.IsSound (in_order world)
same_sound world keys = (
  λ s. record { gtids = same_gtids world keys; applies = (alone_or_together world keys).0 s.alone },
  λ s. record { keys = keys; alone = (alone_or_together world keys).1 s.applies },
)

-- ---- closed sets

earlier_there : (world : World) (S : Gtid → Bool) → sources.AreKeysSound world → sources.IsClosedBySource world S
    → (e f : Entry) → Precedes (entries world.contents) e f → conflicts world.schema e.1 f.1 ≡ true → S f.0 ≡ true → S e.0 ≡ true
earlier_there world S sound closed e f p s y =
    let c = stands world e (first_in (entries world.contents) e f p) in
    let d = stands world f (second_in (entries world.contents) e f p) in
    elim (cases_Bool (eqb e.0.source f.0.source)) [
      | inl same ↦
          let at = eqb-true e.0.source f.0.source same in
          closed.earlier e.0 f.0 e.1 f.1 c d at (number_less e.0 f.0 (rises world e f p) at) s y
      | inr other ↦ not_both (conflicts world.schema e.1 f.1) s (sound.apart e.0 f.0 e.1 f.1 c d (λ at. not_both (eqb e.0.source f.0.source) (eq-eqb e.0.source f.0.source at) other))
    ]

earlier_back : (world : World) (S : Gtid → Bool) → ordered.IsClosed (in_order world) S → (e f : Entry)
    → e.0.source ≡ f.0.source → e.0.number < f.0.number → conflicts world.schema e.1 f.1 ≡ true
    → (e ≡ f) ⊎ (Precedes (entries world.contents) e f ⊎ Precedes (entries world.contents) f e) → S f.0 ≡ true → S e.0 ≡ true
earlier_back world S closed e f at l s (inl same) y = ap (λ (x : Entry). S x.0) same ∙ y
earlier_back world S closed e f at l s (inr (inl p)) y = closed.earlier e f p s y
earlier_back world S closed e f at l s (inr (inr p)) y = let k = number_less f.0 e.0 (rises world f e p) (sym at) in absurd (omega arith)

pub same_closed : (world : World) (S : Gtid → Bool) → sources.AreKeysSound world → sources.IsClosedBySource world S ↔ sources.IsClosed world S
same_closed world S sound = (
  λ c. record {
    opened = c.opened;
    known = λ g y. to_order g (c.known g y);
    earlier = earlier_there world S sound c;
  },
  λ c. record {
    opened = c.opened;
    known = λ g y. from_order g (c.known g y);
    earlier = λ g h t u f k at l s y. earlier_back world S c (g, t) (h, u) at l s (either_first (entries world.contents) (g, t) (h, u) (found.is_in world g t f) (found.is_in world h u k)) y;
  },
)
  where
    to_order : (g : Gtid) → (sources.is_opened world g ≡ true) ⊎ IsSome (sources.content world g) → (sources.is_opened world g ≡ true) ⊎ IsSome (ordered.content (in_order world) g)
    to_order g (inl o) = inl o
    to_order g (inr i) = inr (subst IsSome (sym (same_content world g)) i)

    from_order : (g : Gtid) → (sources.is_opened world g ≡ true) ⊎ IsSome (ordered.content (in_order world) g) → (sources.is_opened world g ≡ true) ⊎ IsSome (sources.content world g)
    from_order g (inl o) = inl o
    from_order g (inr i) = inr (subst IsSome (same_content world g) i)

-- ---- journals

contents_map : (es : List journal.Entry) (P Q : journal.Entry → Type 0) → ((e : journal.Entry) → P e → Q e) → AllByRecursion P es → AllByRecursion Q es
contents_map [] P Q f h = tt
contents_map (e ∷ es) P Q f h = (f e h.0, contents_map es P Q f h.1)

pub same_faithful : (world : World) (j : JournalValue) → sources.AreKeysSound world → IsFaithfulBySource world j ↔ IsFaithful world j
same_faithful world j sound = (
  λ f. record { fronts = λ k below. (same_closed world _ sound).0 (f.fronts k below); contents = contents_map j.entries _ _ (λ e h n. same_content world e.gtid ∙ h n) f.contents; new = f.new },
  λ f. record { fronts = λ k below. (same_closed world _ sound).1 (f.fronts k below); contents = contents_map j.entries _ _ (λ e h n. sym (same_content world e.gtid) ∙ h n) f.contents; new = f.new },
)
