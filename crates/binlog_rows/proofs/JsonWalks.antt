-- One step of the walk over the members of an object or an array, and the cases of a value's text.
use Rattle.std.proofs.Common.{◌≡◌, ℕ, zero, suc, ◌<◌, ◌≤◌, Bool, true, false, cond, nat_lt, List, [], ◌++◌, Option, Some, None, option_map, refl, ap, ◌∙◌, arith}
use Rattle.std.proofs.lemmas.Bool.Decides.{nat_tests}
use Rattle.binlog_rows.specs.Numbers.{and_then, split}
use Rattle.binlog_rows.specs.Texts.{then_text, within, Puts}
use Rattle.binlog_rows.specs.Scalars.{scalar_text}
use Rattle.binlog_rows.specs.Json.{Members, members_at, key_width, value_width, member_text, members_text, container_text, value_text}
use Rattle.binlog_rows.proofs.TextWalks.{puts_stop, puts_on}

abbrev pub putting : ℕ → List ℕ → Option (List ℕ) → Option (List ℕ)
putting most old found = within most (option_map (λ text. old ++ text) found)

-- ---- members

abbrev TextOf : Type 0
TextOf = ℕ → List ℕ → Option (List ℕ)

abbrev Split : Type 0
Split = Option (List ℕ × List ℕ)

-- the member by these entries, and those behind it
abbrev from_value : TextOf → Members → ℕ → List ℕ × List ℕ → List ℕ × List ℕ → Option (List ℕ)
from_value value m n k v = then_text (member_text value m n k.0 v.0) (members_text value m n k.1 v.1)

abbrev from_entries : TextOf → Members → ℕ → Split → Split → Option (List ℕ)
from_entries value m n keys values = and_then keys (λ k. and_then values (λ v. from_value value m n k v))

step : (value : TextOf) (m : Members) (n left : ℕ) (keys values : List ℕ) → suc left ≡ n
    → from_entries value m left (split (key_width m.kind) keys) (split (value_width m.kind) values) ≡ members_text value m n keys values
unfolding members_text
step value m n left keys values is = ap (λ (count : ℕ). members_text value m count keys values) is

-- widths that are those of the members
by_widths : (value : TextOf) (m : Members) (n left kw vw : ℕ) (keys values : List ℕ) (k v : Split) → suc left ≡ n
    → kw ≡ key_width m.kind → vw ≡ value_width m.kind → k ≡ split kw keys → v ≡ split vw values
    → from_entries value m left k v ≡ members_text value m n keys values
by_widths value m n left kw vw keys values k v is kw_is vw_is ke ve =
    (λ i. from_entries value m left (ke i) (ve i))
    ∙ (λ i. from_entries value m left (split (kw_is i) keys) (split (vw_is i) values))
    ∙ step value m n left keys values is

pub no_key : (value : TextOf) (m : Members) (n left kw most : ℕ) (old keys values : List ℕ) → suc left ≡ n
    → kw ≡ key_width m.kind → None ≡ split kw keys → None ≡ putting most old (members_text value m n keys values)
no_key value m n left kw most old keys values is kw_is e =
    ap (λ found. putting most old found)
    (by_widths value m n left kw (value_width m.kind) keys values None (split (value_width m.kind) values) is kw_is refl e refl)

pub no_value : (value : TextOf) (m : Members) (n left kw vw most : ℕ) (old keys values key more : List ℕ) → suc left ≡ n
    → kw ≡ key_width m.kind → vw ≡ value_width m.kind → Some (key, more) ≡ split kw keys → None ≡ split vw values
    → None ≡ putting most old (members_text value m n keys values)
no_value value m n left kw vw most old keys values key more is kw_is vw_is ke ve =
    ap (λ found. putting most old found) (by_widths value m n left kw vw keys values (Some (key, more)) None is kw_is vw_is ke ve)

pub member_stop : (value : TextOf) (m : Members) (n left kw vw most : ℕ) (old new keys values key more v behind : List ℕ) → suc left ≡ n
    → kw ≡ key_width m.kind → vw ≡ value_width m.kind → Some (key, more) ≡ split kw keys → Some (v, behind) ≡ split vw values
    → Puts most old new false (member_text value m left key v)
    → None ≡ putting most old (members_text value m n keys values)
member_stop value m n left kw vw most old new keys values key more v behind is kw_is vw_is ke ve e =
    puts_stop most old new (member_text value m left key v) (members_text value m left more behind) e
    ∙ ap (λ found. putting most old found)
    (by_widths value m n left kw vw keys values (Some (key, more)) (Some (v, behind)) is kw_is vw_is ke ve)

pub member_on : (value : TextOf) (m : Members) (n left next kw vw most : ℕ) (old mid keys values key more v behind : List ℕ) → suc left ≡ n
    → next ≡ left → kw ≡ key_width m.kind → vw ≡ value_width m.kind → Some (key, more) ≡ split kw keys → Some (v, behind) ≡ split vw values
    → Puts most old mid true (member_text value m left key v)
    → putting most mid (members_text value m next more behind) ≡ putting most old (members_text value m n keys values)
member_on value m n left next kw vw most old mid keys values key more v behind is same kw_is vw_is ke ve e =
    ap (λ (count : ℕ). putting most mid (members_text value m count more behind)) same
    ∙ puts_on most old mid (member_text value m left key v) (members_text value m left more behind) e
    ∙ ap (λ found. putting most old found)
    (by_widths value m n left kw vw keys values (Some (key, more)) (Some (v, behind)) is kw_is vw_is ke ve)

pub members_end : (value : TextOf) (m : Members) (n most : ℕ) (old keys values : List ℕ) → 0 ≡ n
    → putting most old (Some []) ≡ putting most old (members_text value m n keys values)
unfolding members_text
members_end value m n most old keys values is = ap (λ (count : ℕ). putting most old (members_text value m count keys values)) is

-- ---- a value

pub no_levels : (levels kind : ℕ) (bytes : List ℕ) → 0 ≡ levels → scalar_text kind bytes ≡ value_text levels kind bytes
unfolding value_text
no_levels levels kind bytes is = ap (λ (count : ℕ). value_text count kind bytes) is

pub no_container : (levels kind : ℕ) (bytes : List ℕ) → 4 ≤ kind → scalar_text kind bytes ≡ value_text levels kind bytes
unfolding value_text
no_container zero kind bytes le = refl
no_container (suc n) kind bytes le =
    let other : false ≡ nat_lt kind 4 = grind (arith, nat_tests) in
    ap (λ (is : Bool). cond is (and_then (members_at kind bytes) (λ m. container_text (value_text n) m)) (scalar_text kind bytes)) other

pub container : (levels left kind : ℕ) (bytes : List ℕ) (found : Option Members) → suc left ≡ levels → kind < 4 → found ≡ members_at kind bytes
    → and_then found (λ m. container_text (value_text left) m) ≡ value_text levels kind bytes
unfolding value_text
container levels left kind bytes found is lt e =
    let here : true ≡ nat_lt kind 4 = grind (arith, nat_tests) in
    ap (λ (o : Option Members). and_then o (λ m. container_text (value_text left) m)) e
    ∙ ap (λ (so : Bool). cond so (and_then (members_at kind bytes) (λ m. container_text (value_text left) m)) (scalar_text kind bytes)) here
    ∙ ap (λ (count : ℕ). value_text count kind bytes) is
