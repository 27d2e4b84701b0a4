-- A transaction reads and changes what is stored under the keys that it touches; so two without a common key commute.
use Rattle.std.proofs.Common.{◌≡◌, List, Result, Ok, Err, refl, ap, ◌∙◌}
use Rattle.rows.specs.declared.change.Transaction.{Transaction}
use Rattle.rows.specs.declared.change.RowFault.{RowFault}
use Rattle.rows.specs.declared.schema.Table.{Table}
use Rattle.rows.specs.Apply.{Rows, ◌>>=◌, apply}
use Rattle.rows.proofs.Local.{bind_ok, apply_alike}
use Rattle.history.specs.SourceLaws.{UntouchedStays, TouchedDecides, SameOutcome, ApartCommute}
use Rattle.history.proofs.Commuting.{AreApart, apart_from_test, apart_back, frame, swap}

pub untouched_stays : UntouchedStays
untouched_stays schema t rows new k e n = frame schema t rows new k e n

pub touched_decides : TouchedDecides
touched_decides schema t a b agree = apply_alike schema t a b agree

-- what two make in one order they make in the other
other_order : (schema : List Table) (t u : Transaction) (rows c : Rows) → AreApart schema t u → (apply schema t rows >>= apply schema u) ≡ Ok c → (apply schema u rows >>= apply schema t) ≡ Ok c
other_order schema t u rows c apart e =
    let first = bind_ok (apply schema t rows) (apply schema u) c e in
    let s = swap schema t u rows first.0 c apart first.1 first.2 in
    ap (λ r. r >>= apply schema t) s.1 ∙ s.2

same_outcome : (a b : Result Rows RowFault) → ((c : Rows) → a ≡ Ok c → b ≡ Ok c) → ((c : Rows) → b ≡ Ok c → a ≡ Ok c) → SameOutcome a b
same_outcome (Ok a) (Ok b) there back = let e = there a refl in cc
same_outcome (Ok a) (Err f) there back = let e = there a refl in cc
same_outcome (Err e) (Ok b) there back = let e = back b refl in cc
same_outcome (Err e) (Err f) there back = tt

pub apart_commute : ApartCommute
apart_commute schema t u rows none =
    let apart = apart_from_test schema t u none in
    same_outcome (apply schema t rows >>= apply schema u) (apply schema u rows >>= apply schema t)
    (λ c e. other_order schema t u rows c apart e) (λ c e. other_order schema u t rows c (apart_back schema t u apart) e)
