-- Answers of several threads.
use Rattle.std.specs.Prelude.{◌≡◌, Bool, true, List, Result, Ok}
use Rattle.std.specs.List.{AllByRecursion}
use Rattle.std.specs.declared.alloc.AllocError.{AllocError}

-- each thread found that it holds
abbrev pub AreAllFound : List (Result Bool AllocError) → Type 0
AreAllFound found = AllByRecursion (λ (answer : Result Bool AllocError). answer ≡ Ok true) found
