-- What a total and a share have counted.
use Rattle.std.specs.Prelude.{◌+◌, ℕ, Bool, true, false, List}
use Rattle.std.specs.List.{sum_by}

-- how many steps were made, and how many of them were commits
pub record Tally : Type 0 where
  pub steps : ℕ
  pub commits : ℕ

-- what was counted for some of the seats
pub record Portion : Type 0 where
  pub seats : ℕ
  pub steps : ℕ
  pub commits : ℕ

abbrev pub one_if : Bool → ℕ
one_if true = 1
one_if false = 0

-- nothing was counted
abbrev pub no_tally : Tally
no_tally = record { steps = 0; commits = 0 }

-- this many seats, which have counted nothing
abbrev pub empty_portion : ℕ → Portion
empty_portion seats = record { seats = seats; steps = 0; commits = 0 }

-- one step more, and one commit more if it was one
abbrev pub one_more : Bool → Tally → Tally
one_more committed t = record { steps = t.steps + 1; commits = t.commits + one_if committed }

-- the same of a portion
abbrev pub count_step : Bool → Portion → Portion
count_step committed p = record { seats = p.seats; steps = p.steps + 1; commits = p.commits + one_if committed }

-- two portions together
abbrev pub add_portions : Portion → Portion → Portion
add_portions p q = record { seats = p.seats + q.seats; steps = p.steps + q.steps; commits = p.commits + q.commits }

-- several portions together
abbrev pub total_portion : List Portion → Portion
total_portion ps = record { seats = sum_by (λ p. p.seats) ps; steps = sum_by (λ p. p.steps) ps; commits = sum_by (λ p. p.commits) ps }

abbrev pub tally_of : Portion → Tally
tally_of p = record { steps = p.steps; commits = p.commits }
