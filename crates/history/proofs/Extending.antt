-- A commit order is a linear extension of the conflict order.
use Rattle.std.proofs.Common.{◌≡◌, ◌≢◌, ◌⊎◌, Bool, true, false, ◌||◌, inl, inr, List, [], ◌∷◌, Some, refl, sym, ap, ◌∙◌, subst}
use Rattle.std.specs.List.{AllByRecursion}
use Rattle.std.proofs.lemmas.Bool.{or_cases, or_right}
use Rattle.lemmas.proofs.Tests.{not_both}
use Rattle.lemmas.proofs.SameGtid.{same_itself, same_is_equal}
use Rattle.gtid_text.specs.declared.Gtid.{Gtid}
use Rattle.gtid_text.specs.Gtids.{same_gtid}
use Rattle.rows.specs.Apply.{Rows, ◌>>=◌, apply}
use Rattle.rows.specs.Conflicts.{conflicts}
use Rattle.history.specs.World.{OrderedWorld, Entry, content, is_opened, IsIn, Precedes, AreDistinct, apply_all, AreGtidsSound, IsClosed}
use Rattle.history.specs.Commits.{with_one, apply_known, rows_after, IsCommitOrder}
use Rattle.history.proofs.Gtids.{same_gtid_other}
use Rattle.history.proofs.Placing.{all_in}
use Rattle.history.proofs.Entries.{some_is, is_in, found_in, all_of}
use Rattle.history.proofs.Ordering.{first_in, second_in, either_first, not_both_ways}
use Rattle.history.proofs.Committing.{commit_order_is_free, opening_is_closed}
use Rattle.history.specs.Extension.{gtids_of, IsLinearExtension}
use Rattle.history.specs.HistoryLaws.{ExtensionsAreCommitOrders, ExtensionsMerge}
use Rattle.history.proofs.Sharing.{conflicts_back}
use Rattle.history.proofs.Lists.{no_loop, one_entry}

-- ---- from an extension to a commit order

-- what is left of an extension, where this set is committed
record IsRest (world : OrderedWorld) (S : Gtid → Bool) (es : List Entry) : Type 0 where
  distinct : AreDistinct es
  known : (e : Entry) → IsIn e es → IsIn e world.order
  new : (e : Entry) → IsIn e es → S e.0 ≡ false
  ordered : (e f : Entry) → Precedes world.order e f → conflicts world.schema e.1 f.1 ≡ true → IsIn f es → (S e.0 ≡ true) ⊎ Precedes es e f

with_self : (S : Gtid → Bool) (g h : Gtid) → g ≡ h → with_one S g h ≡ true
with_self S g h e = ap (λ b. b || S h) (ap (λ x. same_gtid x g) (sym e) ∙ same_itself g)

with_old : (S : Gtid → Bool) (g h : Gtid) → S h ≡ true → with_one S g h ≡ true
with_old S g h y = or_right (same_gtid h g) (S h) y

-- the next may be committed
next_closed : (world : OrderedWorld) (S : Gtid → Bool) (x : Entry) (es : List Entry) → AreGtidsSound world → IsClosed world S → IsRest world S (x ∷ es) → IsClosed world (with_one S x.0)
next_closed world S x es sound closed rest = record {
  opened = λ g e. with_old S x.0 g (closed.opened g e);
  known = λ g y. elim (or_cases (same_gtid g x.0) (S g) y) [
    | inl here ↦ inr (some_is (content world g) x.1 (ap (content world) (same_is_equal g x.0 here) ∙ found_in world.order x sound.distinct (rest.known x (inl refl))))
    | inr old ↦ closed.known g old
  ];
  earlier = λ e f p s y. elim (or_cases (same_gtid f.0 x.0) (S f.0) y) [
    | inl here ↦
        let same : f ≡ x = one_entry world.order f x sound.distinct (second_in world.order e f p) (rest.known x (inl refl)) (same_is_equal f.0 x.0 here) in
        before_next e (rest.ordered e x (subst (Precedes world.order e) same p) (subst (λ (z : Entry). conflicts world.schema e.1 z.1 ≡ true) same s) (inl refl))
    | inr old ↦ with_old S x.0 e.0 (closed.earlier e f p s old)
  ];
}
  where
    before_next : (e : Entry) → (S e.0 ≡ true) ⊎ Precedes (x ∷ es) e x → with_one S x.0 e.0 ≡ true
    before_next e (inl y) = with_old S x.0 e.0 y
    before_next e (inr (inl here)) = absurd (all_in (λ (z : Entry). x.0 ≢ z.0) x es rest.distinct.0 here.1 refl)
    before_next e (inr (inr later)) = absurd (all_in (λ (z : Entry). x.0 ≢ z.0) x es rest.distinct.0 (second_in es e x later) refl)

next_rest : (world : OrderedWorld) (S : Gtid → Bool) (x : Entry) (es : List Entry) → IsRest world S (x ∷ es) → IsRest world (with_one S x.0) es
next_rest world S x es rest = record {
  distinct = rest.distinct.1;
  known = λ e i. rest.known e (inr i);
  new = λ e i. ap (λ b. b || S e.0) (same_gtid_other e.0 x.0 (λ s. all_in (λ (z : Entry). x.0 ≢ z.0) e es rest.distinct.0 i (sym s))) ∙ rest.new e (inr i);
  ordered = λ e f p s i. later_rest e f (rest.ordered e f p s (inr i));
}
  where
    later_rest : (e f : Entry) → (S e.0 ≡ true) ⊎ Precedes (x ∷ es) e f → (with_one S x.0 e.0 ≡ true) ⊎ Precedes es e f
    later_rest e f (inl y) = inl (with_old S x.0 e.0 y)
    later_rest e f (inr (inl here)) = inl (with_self S x.0 e.0 (ap (λ (z : Entry). z.0) here.0))
    later_rest e f (inr (inr later)) = inr later

rest_commits : (world : OrderedWorld) (S : Gtid → Bool) (es : List Entry) → AreGtidsSound world → IsClosed world S → IsRest world S es → IsCommitOrder world S (gtids_of es)
rest_commits world S [] sound closed rest = tt
rest_commits world S (x ∷ es) sound closed rest =
    let c = next_closed world S x es sound closed rest in
    (rest.new x (inl refl), c, rest_commits world (with_one S x.0) es sound c (next_rest world S x es rest))

pub not_opened : (world : OrderedWorld) (e : Entry) → AreGtidsSound world → IsIn e world.order → is_opened world e.0 ≡ false
not_opened world e sound i = sound.outside e.0 (some_is (content world e.0) e.1 (found_in world.order e sound.distinct i))

pub extension_commits : (world : OrderedWorld) (es : List Entry) → AreGtidsSound world → IsLinearExtension world es → IsCommitOrder world (is_opened world) (gtids_of es)
extension_commits world es sound ext = rest_commits world (is_opened world) es sound (opening_is_closed world sound).0 (record {
  distinct = ext.distinct;
  known = ext.known;
  new = λ e i. not_opened world e sound (ext.known e i);
  ordered = λ e f p s i. inr (ext.ordered e f p s i);
})

pub extension_found : (world : OrderedWorld) (es : List Entry) → AreGtidsSound world → IsLinearExtension world es → AllByRecursion (λ (e : Entry). content world e.0 ≡ Some e.1) es
extension_found world es sound ext = all_of (λ (e : Entry). content world e.0 ≡ Some e.1) es (λ e i. found_in world.order e sound.distinct (ext.known e i))

-- ---- from a commit order to an extension

abbrev AreFound : OrderedWorld → List Entry → Type 0
AreFound world es = AllByRecursion (λ (e : Entry). content world e.0 ≡ Some e.1) es

all_new : (world : OrderedWorld) (S : Gtid → Bool) (es : List Entry) → IsCommitOrder world S (gtids_of es) → (e : Entry) → IsIn e es → S e.0 ≡ false
all_new world S [] o e i = absurd i
all_new world S (x ∷ es) o e (inl same) = ap (λ (z : Entry). S z.0) (sym same) ∙ o.0
all_new world S (x ∷ es) o e (inr later) = old_new (S e.0) refl (all_new world (with_one S x.0) es o.2 e later)
  where
    old_new : (b : Bool) → S e.0 ≡ b → with_one S x.0 e.0 ≡ false → S e.0 ≡ false
    old_new true y n = not_both (with_one S x.0 e.0) (with_old S x.0 e.0 y) n
    old_new false y n = y

commits_distinct : (world : OrderedWorld) (S : Gtid → Bool) (es : List Entry) → IsCommitOrder world S (gtids_of es) → AreDistinct es
commits_distinct world S [] o = tt
commits_distinct world S (x ∷ es) o = (
  all_of (λ (f : Entry). x.0 ≢ f.0) es (λ f i s. not_both (with_one S x.0 f.0) (with_self S x.0 f.0 s) (all_new world (with_one S x.0) es o.2 f i)),
  commits_distinct world (with_one S x.0) es o.2,
)

commits_ordered : (world : OrderedWorld) (S : Gtid → Bool) (es : List Entry) → AreGtidsSound world → AreFound world es → IsCommitOrder world S (gtids_of es)
    → (e f : Entry) → Precedes world.order e f → conflicts world.schema e.1 f.1 ≡ true → IsIn f es → (S e.0 ≡ true) ⊎ Precedes es e f
commits_ordered world S [] sound h o e f p s i = absurd i
commits_ordered world S (x ∷ es) sound h o e f p s (inl same) =
    elim (or_cases (same_gtid e.0 x.0) (S e.0) (o.1.earlier e f p s (with_self S x.0 f.0 (ap (λ (z : Entry). z.0) same)))) [
      | inl here ↦
          let one : e ≡ f = one_entry world.order e f sound.distinct (first_in world.order e f p) (second_in world.order e f p) (same_is_equal e.0 x.0 here ∙ ap (λ (z : Entry). z.0) same) in
          absurd (no_loop world.order f sound.distinct (subst (λ (z : Entry). Precedes world.order z f) one p))
      | inr old ↦ inl old
    ]
commits_ordered world S (x ∷ es) sound h o e f p s (inr later) =
    by_rest (commits_ordered world (with_one S x.0) es sound h.1 o.2 e f p s later)
  where
    by_rest : (with_one S x.0 e.0 ≡ true) ⊎ Precedes es e f → (S e.0 ≡ true) ⊎ Precedes (x ∷ es) e f
    by_rest (inr q) = inr (inr q)
    by_rest (inl y) = elim (or_cases (same_gtid e.0 x.0) (S e.0) y) [
      | inl here ↦ inr (inl (one_entry world.order x e sound.distinct (is_in world x.0 x.1 h.0) (first_in world.order e f p) (sym (same_is_equal e.0 x.0 here)), later))
      | inr old ↦ inl old
    ]

pub commits_extend : (world : OrderedWorld) (es : List Entry) → AreGtidsSound world → IsCommitOrder world (is_opened world) (gtids_of es) → AreFound world es → IsLinearExtension world es
commits_extend world es sound o h = record {
  distinct = commits_distinct world (is_opened world) es o;
  known = λ e i. is_in world e.0 e.1 (all_in (λ (z : Entry). content world z.0 ≡ Some z.1) e es h i);
  ordered = λ e f p s i. not_old e f p (commits_ordered world (is_opened world) es sound h o e f p s i);
}
  where
    not_old : (e f : Entry) → Precedes world.order e f → (is_opened world e.0 ≡ true) ⊎ Precedes es e f → Precedes es e f
    not_old e f p (inl y) = not_both (is_opened world e.0) y (not_opened world e sound (first_in world.order e f p))
    not_old e f p (inr q) = q

pub extensions_are_commit_orders : ExtensionsAreCommitOrders
extensions_are_commit_orders world es sound = (
  λ ext. (extension_commits world es sound ext, extension_found world es sound ext),
  λ o. commits_extend world es sound o.0 o.1,
)

-- ---- what an extension results in

-- the rows after these GTIDs are those after their transactions
pub same_application : (world : OrderedWorld) (es : List Entry) (rows : Rows) → AreFound world es → rows_after world (gtids_of es) rows ≡ apply_all world.schema es rows
same_application world [] rows h = refl
same_application world (x ∷ es) rows h =
    ap (λ o. apply_known world.schema o rows >>= rows_after world (gtids_of es)) h.0
    ∙ (λ i. apply world.schema x.1 rows >>= (λ r. same_application world es r h.1 i))

pub extensions_merge : ExtensionsMerge
extensions_merge world es sound ext =
    let h = commit_order_is_free world (gtids_of es) sound (extension_commits world es sound.gtids ext) in
    (h.0, sym (same_application world es world.opening_rows (extension_found world es sound.gtids ext)) ∙ h.1, h.2)

-- what conflicts is in the world's order as in the extension
pub kept_order : (world : OrderedWorld) (es : List Entry) → IsLinearExtension world es → (e f : Entry) → Precedes es e f → conflicts world.schema e.1 f.1 ≡ true → Precedes world.order e f
kept_order world es ext e f p s = by_order (either_first world.order e f (ext.known e (first_in es e f p)) (ext.known f (second_in es e f p)))
  where
    by_order : (e ≡ f) ⊎ (Precedes world.order e f ⊎ Precedes world.order f e) → Precedes world.order e f
    by_order (inl same) = absurd (no_loop es f ext.distinct (subst (λ (z : Entry). Precedes es z f) same p))
    by_order (inr (inl q)) = q
    by_order (inr (inr q)) = absurd (not_both_ways es e f ext.distinct p (ext.ordered f e q (conflicts_back world.schema e.1 f.1 s) (first_in es e f p)))
