-- Which linear extension of the conflict order a world has does not matter to the rows of a closed set.
use Rattle.std.proofs.Common.{◌≡◌, ◌⊎◌, Bool, true, inl, inr, List, [], ◌∷◌, Option, Some, None, Ok, refl, sym, ap, ◌∙◌}
use Rattle.std.specs.Prelude.{IsSome}
use Rattle.std.proofs.lemmas.Bool.{or_left, or_right, or_cases}
use Rattle.lemmas.proofs.SameGtid.{same_itself, same_is_equal}
use Rattle.lemmas.proofs.Tests.{same_bool}
use Rattle.gtid_text.specs.declared.Gtid.{Gtid}
use Rattle.gtid_text.specs.Gtids.{same_gtid}
use Rattle.rows.specs.declared.change.Transaction.{Transaction}
use Rattle.history.specs.World.{OrderedWorld, Entry, content, is_opened, entries_in, apply_all, rows_of, IsIn, AreDistinct, IsClosed}
use Rattle.history.specs.Commits.{with_one, with_each}
use Rattle.history.proofs.Entries.{is_in}
use Rattle.history.proofs.Closing.{is_ok_of}
use Rattle.history.specs.Extension.{gtids_of, IsLinearExtension}
use Rattle.history.specs.HistoryLaws.{AgreeOnConflicts, OrdersAgree}
use Rattle.history.proofs.Lists.{in_part, into_part, before_in_part, part_distinct}
use Rattle.history.proofs.Extending.{extensions_merge}

-- what a closed set has, in the other world's order, is an extension
part_extends : (v w : OrderedWorld) (S : Gtid → Bool) → AreDistinct w.order → AgreeOnConflicts v w → IsClosed v S → IsLinearExtension v (entries_in w S)
part_extends v w S d agree closed = record {
  distinct = part_distinct (λ e. S e.0) w.order d;
  known = λ e i. agree.back e (in_part (λ x. S x.0) w.order e i).0;
  ordered = λ e f p s i.
      let y = (in_part (λ x. S x.0) w.order f i).1 in
      before_in_part (λ x. S x.0) w.order e f (agree.ordered e f p s) (closed.earlier e f p s y) y;
}

-- ---- the set of the GTIDs that are listed

old_stays : (S : Gtid → Bool) (gs : List Gtid) (g : Gtid) → S g ≡ true → with_each S gs g ≡ true
old_stays S [] g y = y
old_stays S (x ∷ gs) g y = old_stays (with_one S x) gs g (or_right (same_gtid g x) (S g) y)

pub listed_in : (S : Gtid → Bool) (es : List Entry) (e : Entry) → IsIn e es → with_each S (gtids_of es) e.0 ≡ true
listed_in S [] e i = absurd i
listed_in S (x ∷ es) e (inl same) = old_stays (with_one S x.0) (gtids_of es) e.0 (or_left (same_gtid e.0 x.0) (S e.0) (ap (λ (z : Entry). same_gtid e.0 z.0) same ∙ same_itself e.0))
listed_in S (x ∷ es) e (inr later) = listed_in (with_one S x.0) es e later

listed_from : (S U : Gtid → Bool) (es : List Entry) → ((g : Gtid) → S g ≡ true → U g ≡ true) → ((e : Entry) → IsIn e es → U e.0 ≡ true) → (g : Gtid) → with_each S (gtids_of es) g ≡ true → U g ≡ true
listed_from S U [] old each g y = old g y
listed_from S U (x ∷ es) old each g y = listed_from (with_one S x.0) U es
    (λ h z. elim (or_cases (same_gtid h x.0) (S h) z) [ inl here ↦ ap U (same_is_equal h x.0 here) ∙ each x (inl refl) | inr q ↦ old h q ])
    (λ e i. each e (inr i)) g y

some_content : (o : Option Transaction) → IsSome o → (t : Transaction) × (o ≡ Some t)
some_content (Some t) h = (t, refl)
some_content None h = cc

-- what the set has, taken from the other world's order, with what was executed from the start is the set
whole_set : (v w : OrderedWorld) (S : Gtid → Bool) → AgreeOnConflicts v w → IsClosed v S → (g : Gtid) → with_each (is_opened v) (gtids_of (entries_in w S)) g ≡ S g
whole_set v w S agree closed g = same_bool (with_each (is_opened v) (gtids_of (entries_in w S)) g) (S g)
    (λ y. listed_from (is_opened v) S (entries_in w S) closed.opened (λ e i. (in_part (λ x. S x.0) w.order e i).1) g y)
    (λ y. has_each y (closed.known g y))
  where
    has_each : S g ≡ true → (is_opened v g ≡ true) ⊎ IsSome (content v g) → with_each (is_opened v) (gtids_of (entries_in w S)) g ≡ true
    has_each y (inl o) = old_stays (is_opened v) (gtids_of (entries_in w S)) g o
    has_each y (inr h) =
        let t = some_content (content v g) h in
        listed_in (is_opened v) (entries_in w S) (g, t.0) (into_part (λ x. S x.0) w.order (g, t.0) (agree.there (g, t.0) (is_in v g t.0 t.1)) y)

pub orders_agree : OrdersAgree
orders_agree v w S sound d agree closed =
    let h = extensions_merge v (entries_in w S) sound (part_extends v w S d agree closed) in
    let here : rows_of v S ≡ Ok h.0 = sym (λ i. rows_of v (λ g. whole_set v w S agree closed g i)) ∙ h.2 in
    let there : rows_of w S ≡ Ok h.0 = sym (λ i. apply_all (agree.schema i) (entries_in w S) (agree.opening_rows i)) ∙ h.1 in
    (is_ok_of (rows_of v S) h.0 here, there ∙ sym here)
