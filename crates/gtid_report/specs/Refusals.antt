-- The printed line of each refusal. The numbers E2 to E31, the words and their order are our own.
use Rattle.std.specs.Prelude.{ℕ, List, [], ◌∷◌, ◌++◌, codes, decimal}
use Rattle.gtid_text.specs.Canonical.{gtid_text}
use Rattle.gtid_report.specs.declared.refusal.Refusal.{Refusal}
use Rattle.gtid_report.specs.declared.refusal.Refusal.TheVariants.{BadUuid, NoInterval, BadNumber, NumberRange, Reversed, Stray, PoolFull, SourcesFull, Line, Truncated, Twice, Version, Usage, NoRows}
use Rattle.gtid_report.specs.declared.refusal.LineCause.{LineCause}
use Rattle.gtid_report.specs.declared.refusal.LineCause.TheVariants.{Keyword, Body, Limit, Schema, Stamp}

-- what is wrong with a line
abbrev pub cause_word : LineCause → List ℕ
cause_word Keyword = codes "keyword"
cause_word Body = codes "body"
cause_word Limit = codes "limit"
cause_word Schema = codes "schema"
cause_word Stamp = codes "stamp"

-- its number and its name
abbrev pub refusal_name : Refusal → List ℕ
refusal_name (BadUuid at) = codes "E2 bad-uuid at "
refusal_name (NoInterval at) = codes "E3 no-interval at "
refusal_name (BadNumber at) = codes "E4 bad-number at "
refusal_name (NumberRange at) = codes "E5 number-range at "
refusal_name (Reversed at) = codes "E6 reversed at "
refusal_name (Stray at) = codes "E7 stray at "
refusal_name PoolFull = codes "E8 pool-full"
refusal_name SourcesFull = codes "E9 sources-full"
refusal_name (Line line cause) = codes "E14 line "
refusal_name (Truncated line) = codes "E15 truncated at line "
refusal_name (Twice gtid) = codes "E16 twice "
refusal_name (Version line) = codes "E17 version at line "
refusal_name Usage = codes "E30 usage"
refusal_name (NoRows line) = codes "E31 no-rows at line "

-- where it is, or what
abbrev pub refusal_place : Refusal → List ℕ
refusal_place (BadUuid at) = decimal at
refusal_place (NoInterval at) = decimal at
refusal_place (BadNumber at) = decimal at
refusal_place (NumberRange at) = decimal at
refusal_place (Reversed at) = decimal at
refusal_place (Stray at) = decimal at
refusal_place PoolFull = []
refusal_place SourcesFull = []
refusal_place (Line line cause) = decimal line ++ 32 ∷ cause_word cause
refusal_place (Truncated line) = decimal line
refusal_place (Twice gtid) = gtid_text gtid
refusal_place (Version line) = decimal line
refusal_place Usage = []
refusal_place (NoRows line) = decimal line

abbrev pub refusal_line : Refusal → List ℕ
refusal_line r = codes "refused " ++ refusal_name r ++ refusal_place r
