-- Transactions that are committed one after another.
use Rattle.std.proofs.Common.{cond, ◌≡◌, Bool, true, false, ◌||◌, ◌⊎◌, inl, inr, List, [], ◌∷◌, Option, Some, None, Ok, refl, sym, ap, ◌∙◌}
use Rattle.std.specs.Prelude.{IsSome}
use Rattle.std.specs.List.{filter, AllByRecursion}
use Rattle.lemmas.proofs.Tests.{not_both}
use Rattle.lemmas.proofs.SameGtid.{same_itself}
use Rattle.rows.specs.declared.change.Transaction.{Transaction}
use Rattle.rows.specs.Apply.{Rows, ◌>>=◌}
use Rattle.gtid_text.specs.declared.Gtid.{Gtid}
use Rattle.history.specs.World.{OrderedWorld, Entry, apply_all, content, is_opened, rows_of, AreGtidsSound, IsSound, IsClosed}
use Rattle.history.specs.Commits.{with_one, with_each, apply_known, rows_after, IsCommitOrder}
use Rattle.history.specs.Laws.{CommitOrderIsFree, CommitOrdersAgree, LateCommit, EarlyCommit, OpeningIsClosed}
use Rattle.history.proofs.Gtids.{same_gtid_other}
use Rattle.history.proofs.Placing.{AddsOne, all_map}
use Rattle.history.proofs.Entries.{some_is, all_found, found_in}
use Rattle.history.proofs.Ordering.{second_in}
use Rattle.history.proofs.Merging.{ok_same, late_commit, early_commit}

pub adds_one : (S : Gtid → Bool) (g : Gtid) → S g ≡ false → AddsOne S (with_one S g) g
adds_one S g n = record {
  absent = n;
  present = ap (λ b. b || S g) (same_itself g);
  others = λ h other. ap (λ b. b || S h) (same_gtid_other h g other);
}

pub late_law : LateCommit
late_law world S g t rows sound closed closed' new f e = late_commit world S (with_one S g) g t rows sound closed closed' (adds_one S g new) f e

pub early_law : EarlyCommit
early_law world S g t rows rows' sound closed new f e a = early_commit world S (with_one S g) g t rows rows' sound closed (adds_one S g new) f e a

known_content : (o : Option Transaction) → IsSome o → (t : Transaction) × (o ≡ Some t)
known_content (Some t) h = (t, refl)
known_content None h = cc

-- what is new is not of the start
has_content : (world : OrderedWorld) (S : Gtid → Bool) (g : Gtid) → IsClosed world S → S g ≡ false → (is_opened world g ≡ true) ⊎ IsSome (content world g) → IsSome (content world g)
has_content world S g closed new (inl e) = not_both (S g) (closed.opened g e) new
has_content world S g closed new (inr h) = h

-- one commit after another
commits : (world : OrderedWorld) (S : Gtid → Bool) (gs : List Gtid) (rows : Rows) → IsSound world → IsClosed world S → IsCommitOrder world S gs → rows_of world S ≡ Ok rows → (rows' : Rows) × (rows_after world gs rows ≡ Ok rows') × (rows_of world (with_each S gs) ≡ Ok rows')
commits world S [] rows sound closed order e = (rows, refl, e)
commits world S (g ∷ gs) rows sound closed order e =
    let one = adds_one S g order.0 in
    let t = known_content (content world g) (has_content world S g closed order.0 (order.1.known g one.present)) in
    let step = late_commit world S (with_one S g) g t.0 rows sound closed order.1 one t.1 e in
    let rest = commits world (with_one S g) gs step.0 sound order.1 order.2 step.2 in
    (rest.0, ap (λ o. apply_known world.schema o rows >>= rows_after world gs) t.1 ∙ ap (λ r. r >>= rows_after world gs) step.1 ∙ rest.1, rest.2)

opened_closed : (world : OrderedWorld) → AreGtidsSound world → IsClosed world (is_opened world)
opened_closed world sound = record {
  opened = λ g e. e;
  known = λ g e. inl e;
  earlier = λ e f p s y. not_both (is_opened world f.0) y (sound.outside f.0 (some_is (content world f.0) f.1 (found_in world.order f sound.distinct (second_in world.order e f p))));
}

none_chosen : (S : Gtid → Bool) (es : List Entry) → AllByRecursion (λ e. S e.0 ≡ false) es → filter (λ e. S e.0) es ≡ []
none_chosen S [] h = refl
none_chosen S (e ∷ es) h = λ i. cond (h.0 i) (e ∷ none_chosen S es h.1 i) (none_chosen S es h.1 i)

opened_rows : (world : OrderedWorld) → AreGtidsSound world → rows_of world (is_opened world) ≡ Ok world.opening_rows
opened_rows world sound = ap (λ es. apply_all world.schema es world.opening_rows) (none_chosen (is_opened world) world.order
    (all_map (λ e. content world e.0 ≡ Some e.1) (λ e. is_opened world e.0 ≡ false) world.order (λ e f. sound.outside e.0 (some_is (content world e.0) e.1 f)) (all_found world.order sound.distinct)))

pub opening_is_closed : OpeningIsClosed
opening_is_closed world sound = (opened_closed world sound, opened_rows world sound)

pub commit_order_is_free : CommitOrderIsFree
commit_order_is_free world gs sound order = commits world (is_opened world) gs world.opening_rows sound (opened_closed world sound.gtids) order (opened_rows world sound.gtids)

-- equal sets denote the same rows
pub same_rows_of : (world : OrderedWorld) (S U : Gtid → Bool) → ((g : Gtid) → S g ≡ U g) → rows_of world S ≡ rows_of world U
same_rows_of world S U h = λ i. rows_of world (λ g. h g i)

pub commit_orders_agree : CommitOrdersAgree
commit_orders_agree world gs hs sound order other same =
    let a = commit_order_is_free world gs sound order in
    let b = commit_order_is_free world hs sound other in
    let rows : b.0 ≡ a.0 = ok_same (Ok b.0) b.0 a.0 refl (sym b.2 ∙ (sym (same_rows_of world (with_each (is_opened world) gs) (with_each (is_opened world) hs) same) ∙ a.2)) in
    (a.0, a.1, b.1 ∙ ap Ok rows)
