-- A transaction is executed.
use Rattle.std.proofs.Common.{◌≡◌, ◌≢◌, Bool, true, false, ◌||◌, inl, inr, Some, Ok, refl, sym, ap, ◌∙◌, subst}
use Rattle.std.specs.Prelude.{IsSome}
use Rattle.std.specs.FinSet as set
use Rattle.rows.specs.declared.change.Transaction.{Transaction}
use Rattle.rows.specs.Apply.{Rows, apply}
use Rattle.gtid_text.specs.declared.Gtid.{Gtid}
use Rattle.gtid_text.specs.Gtids.{same_gtid}
use Rattle.replica_core.specs.State.{State, Seats}
use Rattle.replica_core.specs.Machine.{execute}
use Rattle.history.specs.World.{OrderedWorld, content, is_opened, rows_of, AreGtidsSound, IsClosed}
use Rattle.history.specs.Commits.{with_one}
use Rattle.history.proofs.Gtids.{same_gtid_other}
use Rattle.history.proofs.Closing.{closed_same}
use Rattle.history.proofs.Committing.{adds_one}
use Rattle.history.proofs.Entries.{some_is, found_in}
use Rattle.history.proofs.Ordering.{first_in, second_in}
use Rattle.history.proofs.Merging.{late_commit, early_commit}
use Rattle.convergence.specs.Faithful.{Since}
use Rattle.history.proofs.Covering.{has, in_insert}
use Rattle.history.proofs.Keeping.{covered_push, journal_push}
use Rattle.convergence.proofs.Receiving.{all_settled, put_settled}
use Rattle.convergence.proofs.Seats.{IsFree, seats_over, seats_after}
use Rattle.convergence.proofs.Invariant.{AllApply, Needs, AreSeated, Invariant}
use Rattle.std.proofs.lemmas.Bool.{or_cases, or_left, or_right}
use Rattle.lemmas.proofs.SameGtid.{same_itself, same_is_equal}

-- sets with the same members denote the same rows
rows_of_same : (world : OrderedWorld) (S U : Gtid → Bool) → ((g : Gtid) → U g ≡ S g) → rows_of world U ≡ rows_of world S
rows_of_same world S U same = λ i. rows_of world (λ g. same g i)

-- a closed set with one more, of which all that it needs is there
pub closed_more : (world : OrderedWorld) (S : Gtid → Bool) (g : Gtid) (t : Transaction) → AreGtidsSound world → content world g ≡ Some t → ((h : Gtid) → Needs world h g → S h ≡ true) → IsClosed world S → IsClosed world (with_one S g)
closed_more world S g t sound there needs c = record {
  opened = λ h e. or_right (same_gtid h g) (S h) (c.opened h e);
  known = λ h e. elim (or_cases (same_gtid h g) (S h) e) [
    | inl same ↦ inr (subst (λ (x : Gtid). IsSome (content world x)) (sym (same_is_equal h g same)) (some_is (content world g) t there))
    | inr old ↦ c.known h old
  ];
  earlier = λ a b p s e. elim (or_cases (same_gtid b.0 g) (S b.0) e) [
    | inl same ↦
        let is_g : b.0 ≡ g = same_is_equal b.0 g same in
        let one : Needs world a.0 b.0 = record {
          t = a.1;
          u = b.1;
          content_h = found_in world.order a sound.distinct (first_in world.order a b p);
          content_g = found_in world.order b sound.distinct (second_in world.order a b p);
          before = p;
          shares = s;
        } in
        or_right (same_gtid a.0 g) (S a.0) (needs a.0 (subst (Needs world a.0) is_g one))
    | inr old ↦ or_right (same_gtid a.0 g) (S a.0) (c.earlier a b p s old)
  ];
}

pub absorb : (p q : Bool) → (p ≡ true → q ≡ true) → (p || q) ≡ q
absorb true q h = sym (h refl)
absorb false q h = refl

pub executed_more : (s : State) (g h : Gtid) → set.contains (set.insert s.executed g) h ≡ with_one (set.contains s.executed) g h
executed_more s g h = in_insert s.executed g h

-- Where no history fails, a transaction whose needs are executed applies.
pub must_apply : (world : OrderedWorld) (s : State) (since : Since) (g : Gtid) (t : Transaction) → AreGtidsSound world → AllApply world → Invariant world s since
    → content world g ≡ Some t → set.contains s.executed g ≡ false → ((h : Gtid) → Needs world h g → set.contains s.executed h ≡ true)
    → (rows : Rows) × (apply world.schema t s.rows ≡ Ok rows)
must_apply world s since g t sound all inv there new needs =
    let S : Gtid → Bool = set.contains s.executed in
    let step = late_commit world S (with_one S g) g t s.rows (record { gtids = sound; applies = all }) inv.closed (closed_more world S g t sound there needs inv.closed) (adds_one S g new) there inv.rows in
    (step.0, step.1)

-- Where a transaction whose needs are executed applies, the state after it has the invariant.
pub executing_keeps : (world : OrderedWorld) (s : State) (since : Since) (seats : Seats) (g : Gtid) (t : Transaction) → AreGtidsSound world → Invariant world s since → AreSeated world (set.contains s.executed) s.channels seats → IsFree s.channels seats g
    → content world g ≡ Some t → set.contains s.executed g ≡ false → ((h : Gtid) → Needs world h g → set.contains s.executed h ≡ true)
    → (rows : Rows) → apply world.schema t s.rows ≡ Ok rows → Invariant world (execute (record { executed = s.executed; rows = s.rows; seats = seats; channels = s.channels; journal = s.journal }) g t rows) since
executing_keeps world s since seats g t sound inv seated free there new needs rows applied =
    let S : Gtid → Bool = set.contains s.executed in
    let closed : IsClosed world (with_one S g) = closed_more world S g t sound there needs inv.closed in
    let step = early_commit world S (with_one S g) g t s.rows rows sound inv.closed (adds_one S g new) there inv.rows applied in
    let S' : Gtid → Bool = set.contains (set.insert s.executed g) in
    let same : (h : Gtid) → S' h ≡ with_one S g h = executed_more s g in
    let more : (h : Gtid) → S h ≡ true → S' h ≡ true = λ h e. same h ∙ or_right (same_gtid h g) (S h) e in
    let others : (h : Gtid) → h ≢ g → S' h ≡ S h = λ h n. same h ∙ ap (λ b. b || S h) (same_gtid_other h g n) in
    let now : S' g ≡ true = same g ∙ or_left (same_gtid g g) (S g) (same_itself g) in
    record {
      closed = closed_same world (with_one S g) S' same closed;
      rows = rows_of_same world (with_one S g) S' same ∙ step;
      channels = all_settled world S S' since s.channels g more now inv.channels;
      seats = seats_over world S' s.channels _ seats (put_settled s.channels g) (seats_after world S S' s.channels seats g more others free seated);
      journal = journal_push world s.journal g t inv.journal there (inv.recorded g ∙ new) (closed_same world (with_one S g) (λ h. same_gtid h g || (is_opened world h || has s.journal h)) (λ h. ap (λ b. same_gtid h g || b) (ap (λ b. is_opened world h || b) (inv.recorded h) ∙ absorb (is_opened world h) (S h) (inv.closed.opened h))) closed);
      recorded = λ h. covered_push s.journal.previous s.journal.entries g t h ∙ (ap (λ b. same_gtid h g || b) (inv.recorded h) ∙ sym (same h));
    }
