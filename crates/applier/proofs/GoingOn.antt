use Rattle.std.proofs.Common.{◌≡◌, ℕ, ◌<◌, length, map, get_or, arith, subst, Result, Ok, Err, List, [], ◌∷◌, ◌++◌, refl, sym, ap, ◌∙◌, append_assoc}
use Rattle.std.proofs.lemmas.List.{append-nil, get_or-map, length-map}
use Rattle.replica_core.specs.declared.event.Event.{Event}
use Rattle.replica_core.specs.declared.event.Reply.{Reply}
use Rattle.gtid_set.specs.declared.fault.SetFault.{SetFault}
use Rattle.shared_replica.specs.declared.step.Receipt.{Receipt}
use Rattle.replica_core.specs.declared.event.Event.TheVariants.{Take}
use Rattle.shared_replica.specs.declared.taking.Taking.{Taking}
use Rattle.shared_replica.specs.Passes.{PassValue, HasReceipt, Makes, MakesTaking, receipt}
use Rattle.applier.specs.Applies.{IsApply, AreApply, GoesOn}

pub goes_self : (p : PassValue) → GoesOn p p
goes_self p = record { seat = refl; more = []; receipts = sym (append-nil p.receipts); apply = tt }

are_both : (xs ys : List Receipt) → AreApply xs → AreApply ys → AreApply (xs ++ ys)
are_both [] ys p q = q
are_both (x ∷ xs) ys p q = (p.0, are_both xs ys p.1 q)

pub goes_further : (a b c : PassValue) → GoesOn a b → GoesOn b c → GoesOn a c
goes_further a b c p q = record {
  seat = q.seat ∙ p.seat;
  more = p.more ++ q.more;
  receipts = q.receipts ∙ (ap (λ (l : List Receipt). l ++ q.more) p.receipts ∙ append_assoc a.receipts p.more q.more);
  apply = are_both p.more q.more p.apply q.apply;
}

pub goes_one : (a b : PassValue) (e : Event) (r : Reply) → IsApply e → HasReceipt a e r b → GoesOn a b
goes_one a b e r ok told = record {
  seat = ap (λ (h : PassValue). h.seat) told.1;
  more = receipt told.0 e r ∷ [];
  receipts = ap (λ (h : PassValue). h.receipts) told.1;
  apply = (ok, tt);
}

-- what a call of the replica leaves of the pass, whatever its result
pub makes_on : (a b : PassValue) (e : Event) (o : Result Reply SetFault) → IsApply e → Makes e a o b → GoesOn a b
makes_on a b e (Ok r) ok told = goes_one a b e r ok told
makes_on a b e (Err f) ok same = subst (λ (h : PassValue). GoesOn a h) (sym same.0) (goes_self a)

-- what a take leaves of the pass, whatever its result
pub takes_on : (channel place : ℕ) (a b : PassValue) (o : Result Taking SetFault) → MakesTaking channel place a o b → GoesOn a b
takes_on channel place a b (Ok taking) told = goes_one a b (Take a.seat channel place) taking.reply tt told
takes_on channel place a b (Err f) same = subst (λ (h : PassValue). GoesOn a h) (sym same.0) (goes_self a)

-- what goes on of each worker goes on of each pass
pub each_pass : {W : Type 0} (pass : W → PassValue) (old new : List W) (ps qs : List PassValue) (w : W) → map pass old ≡ ps → qs ≡ map pass new → length new ≡ length old
    → ((i : ℕ) (d : W) → i < length old → GoesOn (pass (get_or old i d)) (pass (get_or new i d)))
    → (i : ℕ) (d : PassValue) → i < length ps → GoesOn (get_or ps i d) (get_or qs i d)
each_pass pass old new ps qs w before after same each i d less =
    let within : i < length old = omega (arith, less, ap length before, length-map old pass) in
    let within' : i < length new = omega (arith, within, same) in
    let p : get_or ps i d ≡ pass (get_or old i w) = ap (λ (l : List PassValue). get_or l i d) (sym before) ∙ get_or-map pass old i w d within in
    let q : get_or qs i d ≡ pass (get_or new i w) = ap (λ (l : List PassValue). get_or l i d) after ∙ get_or-map pass new i w d within' in
    rw (p, q) (each i w within)
