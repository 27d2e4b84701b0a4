-- What is kept is what was made, where it is kept at all.
use Rattle.std.proofs.Common.{◌≡◌, Bool, true, false, refl, sym, ap, ◌∙◌}
use Rattle.std.specs.Prelude.{nat_lt, Result, Ok, Err, if◌then◌else◌}
use Rattle.gtid_set.specs.Sets.{Gtids, source_count, most_sources}
use Rattle.gtid_set.specs.Full.{interval_count, most_intervals}
use Rattle.gtid_report.specs.SetAnswers.{◌>>=◌, small}
use Rattle.gtid_report.specs.declared.fault.Fault.{Fault}
use Rattle.gtid_report.specs.declared.fault.Fault.TheVariants.{Refused}
use Rattle.gtid_report.specs.declared.refusal.Refusal.TheVariants.{PoolFull, SourcesFull}
use Rattle.server_states.specs.States.{whole}

-- an answer that was made from another
pub record Made {A B : Type 0} (r : Result A Fault) (rest : A → Result B Fault) (y : B) : Type 0 where
  pub from : A
  pub first : r ≡ Ok from
  pub then_rest : rest from ≡ Ok y

pub made : {A B : Type 0} (r : Result A Fault) (rest : A → Result B Fault) (y : B) → (r >>= rest) ≡ Ok y → Made r rest y
made (Ok x) rest y e = record { from = x; first = refl; then_rest = e }
made (Err f) rest y e = absurd cc

abbrev held : {A : Type 0} → A → Result A Fault → A
held d (Ok x) = x
held d (Err f) = d

pub same_ok : {A : Type 0} (r : Result A Fault) (x y : A) → r ≡ Ok x → r ≡ Ok y → x ≡ y
same_ok r x y e f = ap (held x) (sym e ∙ f)

unless : {A : Type 0} (b : Bool) (f : Fault) (r : Result A Fault) (y : A) → (if b then Err f else r) ≡ Ok y → r ≡ Ok y
unless true f r y e = absurd cc
unless false f r y e = e

pub small_kept : (s t : Gtids) → small s ≡ Ok t → s ≡ t
small_kept s t e = same_ok (Ok s) s t refl (unless (nat_lt most_intervals (interval_count s)) (Refused PoolFull) (Ok s) t e)

pub whole_kept : (s t : Gtids) → whole s ≡ Ok t → s ≡ t
whole_kept s t e = small_kept s t (unless (nat_lt most_sources (source_count s)) (Refused SourcesFull) (small s) t e)
