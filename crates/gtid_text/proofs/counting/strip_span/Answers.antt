use Rattle.std.proofs.Common.{rules, ◌≡◌, ◌++◌, [], ◌∷◌, None, Bor, List, ℕ}
use Rattle.std.specs.Prelude.{option_map}
use Rattle.gtid_text.specs.Canonical.{source_text, numbers_text}
use Rattle.gtid_text.specs.Counting.{Strips}
use Rattle.gtid_text.proofs.Stripped.{stripped_both, stripped_none}
use Rattle.gtid_text.proofs.counting.strip_span.Goals as goal

pub returns-in_err-numbers : goal.returns-in_err-numbers
returns-in_err-numbers c =
    let s = c.args.span in
    let front : c.args.text.now ≡ source_text s.source ++ c.in_ok-after.after.now = search rules in
    let none : Strips c.in_ok-after.after.now (58 ∷ []) None = search rules in
    let is : c.from_residual-in_err-numbers.result ≡ None = search rules in
    rw is (stripped_both c.args.text.now (source_text s.source) (58 ∷ numbers_text s.lo s.hi) c.in_ok-after.after.now None front (stripped_none c.in_ok-after.after.now (58 ∷ []) (numbers_text s.lo s.hi) none))

pub returns : goal.returns
returns c =
    let s = c.args.span in
    let front : c.args.text.now ≡ source_text s.source ++ c.in_ok-after.after.now = search rules in
    let colon : c.in_ok-after.after.now ≡ (58 ∷ []) ++ c.in_ok-numbers.numbers.now = search rules in
    let found = option_map (λ (r : Bor (List ℕ)). r.now) c.strip_numbers.result in
    stripped_both c.args.text.now (source_text s.source) (58 ∷ numbers_text s.lo s.hi) c.in_ok-after.after.now found front (stripped_both c.in_ok-after.after.now (58 ∷ []) (numbers_text s.lo s.hi) c.in_ok-numbers.numbers.now found colon c.strip_numbers.ensures)
