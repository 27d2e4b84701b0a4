use Rattle.std.proofs.Common.{rules, ◌≡◌, ◌++◌, [], ◌∷◌, None, Bor, List, ℕ}
use Rattle.std.specs.Prelude.{decimal, option_map}
use Rattle.gtid_text.specs.Counting.{Strips}
use Rattle.gtid_text.proofs.Stripped.{stripped_both, stripped_none, stripped_numbers}
use Rattle.gtid_text.proofs.counting.strip_numbers.Goals as goal

pub returns-in_err-digits : goal.returns-in_err-digits
returns-in_err-digits c =
    let front : c.args.text.now ≡ decimal c.args.lo ++ c.in_ok-after.after.now = search rules in
    let none : Strips c.in_ok-after.after.now (45 ∷ []) None = search rules in
    let is : c.from_residual-in_err-digits.result ≡ None = search rules in
    rw is (stripped_numbers c.args.text.now c.in_ok-after.after.now c.args.lo c.args.hi None c.if-lo-hi.false front (stripped_none c.in_ok-after.after.now (45 ∷ []) (decimal c.args.hi) none))

pub returns : goal.returns
returns c =
    let front : c.args.text.now ≡ decimal c.args.lo ++ c.in_ok-after.after.now = search rules in
    let dash : c.in_ok-after.after.now ≡ (45 ∷ []) ++ c.in_ok-digits.digits.now = search rules in
    let found = option_map (λ (r : Bor (List ℕ)). r.now) c.strip_number-2.result in
    stripped_numbers c.args.text.now c.in_ok-after.after.now c.args.lo c.args.hi found c.if-lo-hi.false front (stripped_both c.in_ok-after.after.now (45 ∷ []) (decimal c.args.hi) c.in_ok-digits.digits.now found dash c.strip_number-2.ensures)
