-- One step more.
use Rattle.std.proofs.Common.{◌≡◌, ◌+◌, List, [], ◌∷◌, ◌++◌, refl, ap, sym, ◌∙◌, arith, length-append}
use Rattle.std.proofs.lemmas.List.Sums.{sum_by-append}
use Rattle.commit_ledger.specs.Tallies.{Tally, one_if, one_more}
use Rattle.replica_core.specs.declared.event.Event.{Event}
use Rattle.replica_core.specs.declared.event.Reply.{Reply}
use Rattle.replica_core.specs.State.{State, Replica}
use Rattle.replica_core.specs.Machine.{step, replies, after}
use Rattle.replica_core.specs.Kept.{AreKept}
use Rattle.shared_replica.specs.declared.step.Step.{Step}
use Rattle.shared_replica.specs.History.{line, events_of, replies_of, is_commit, commits_in, tally_in, IsStep, IsReplay, IsBook}
use Rattle.shared_replica.proofs.Growths.{step_grows}
use Rattle.replica_core.proofs.RunLemmas.{replies_more, after_more}

events_more : (steps : List Step) (e : Event) (r : Reply) → events_of (steps ++ line e r ∷ []) ≡ events_of steps ++ e ∷ []
events_more [] e r = refl
events_more (s ∷ ss) e r = ap (λ l. s.event ∷ l) (events_more ss e r)

replies_of_more : (steps : List Step) (e : Event) (r : Reply) → replies_of (steps ++ line e r ∷ []) ≡ replies_of steps ++ r ∷ []
replies_of_more [] e r = refl
replies_of_more (s ∷ ss) e r = ap (λ l. s.reply ∷ l) (replies_of_more ss e r)

-- the step was made of the replica to which the steps lead
made_after : (opening : Replica) (steps : List Step) (old : Replica) (e : Event) (r : Reply) (new : Replica)
    → IsReplay opening steps old → IsStep old e r new → (r, new.state) ≡ step opening.site (after opening.site opening.state (events_of steps)) e
made_after opening steps old e r new h s = s.makes ∙ (λ i. step (h.site i) (h.state i) e)

pub replay_more : (opening : Replica) (steps : List Step) (old : Replica) (e : Event) (r : Reply) (new : Replica)
    → IsReplay opening steps old → IsStep old e r new → IsReplay opening (steps ++ line e r ∷ []) new
replay_more opening steps old e r new h s =
    let made = made_after opening steps old e r new h s in
    let site = opening.site in
    let start = opening.state in record {
      site = s.site ∙ h.site;
      replies =
          replies_of_more steps e r
          ∙ (λ i. h.replies i ++ (made i).0 ∷ [])
          ∙ sym (replies_more site start (events_of steps) e)
          ∙ ap (replies site start) (sym (events_more steps e r));
      state = ap (λ (x : Reply × State). x.1) made ∙ sym (after_more site start (events_of steps) e) ∙ ap (after site start) (sym (events_more steps e r));
    }

tally_more : (steps : List Step) (e : Event) (r : Reply) → one_more (is_commit r) (tally_in steps) ≡ tally_in (steps ++ line e r ∷ [])
tally_more steps e r =
    let commits : commits_in steps + one_if (is_commit r) ≡ commits_in (steps ++ line e r ∷ []) = omega (arith, sum_by-append (λ (s : Step). one_if (is_commit s.reply)) steps (line e r ∷ [])) in
    λ i. record { steps = sym (length-append steps (line e r ∷ [])) i; commits = commits i }

-- what a book keeps, with one step more
pub book_more : (opening : Replica) (steps : List Step) (old : Replica) (total : Tally) (e : Event) (r : Reply) (new : Replica) (new_total : Tally)
    → IsBook opening steps old total → AreKept old.site.schema old.state.executed old.state.channels → IsStep old e r new → new_total ≡ one_more (is_commit r) total
    → IsBook opening (steps ++ line e r ∷ []) new new_total
book_more opening steps old total e r new new_total h kept s count = record {
  legal = replay_more opening steps old e r new h.legal s;
  counted = count ∙ ap (one_more (is_commit r)) h.counted ∙ tally_more steps e r;
  grown = (let more = step_grows old e r new kept s in let so_far = h.grown in omega (arith, more, so_far, sum_by-append (λ (s : Step). one_if (is_commit s.reply)) steps (line e r ∷ [])));
}
