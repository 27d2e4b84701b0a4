-- The tables that are mapped, as a map and as a function.
use Rattle.std.proofs.Common.{◌≡◌, ℕ, Bool, true, false, cond, Option, Some, None, refl, ap, ◌∙◌, Bor}
use Rattle.std.specs.Prelude.{option_map}
use Rattle.std.specs.Option.{option_copied}
use Rattle.std.specs.Ordering.{nat_cmp, is_eq}
use Rattle.std.specs.BTreeMap.{get, is_at, IsEmpty, Updates}
use Rattle.std.specs.Map.{lookup}
use Rattle.std.specs.Cmp.{unsigned_tied}
use Rattle.binlog_events.specs.declared.names.DescribedTable.{DescribedTable}
use Rattle.binlog_events.specs.declared.names.TableNames.{TableNames}
use Rattle.binlog_events.specs.Names.{Described, described, names_in, HasNames, no_names, with_name}

abbrev items_of : Option DescribedTable → Option Described
items_of o = option_map described o

pub no_names_in : (t : TableNames) → IsEmpty t.names → HasNames t no_names
unfolding names_in
no_names_in t e = λ i id. items_of (lookup (is_at (nat_cmp id)) (e i))

copied : (o : Option (Bor DescribedTable)) → option_map (λ b. described b.now) o ≡ items_of (option_copied o)
copied None = refl
copied (Some table) = refl

pub name_in : (t : TableNames) (id : ℕ) (o : Option (Bor DescribedTable)) → option_copied o ≡ get nat_cmp t.names id → option_map (λ b. described b.now) o ≡ names_in t id
unfolding names_in
name_in t id o e = copied o ∙ ap items_of e

chosen_name : (b : Bool) (name : DescribedTable) (o : Option DescribedTable) → items_of (cond b (Some name) o) ≡ cond b (Some (described name)) (items_of o)
chosen_name true name o = refl
chosen_name false name o = refl

name_at : (s t : TableNames) (wanted : ℕ) (name : DescribedTable) → Updates nat_cmp s.names t.names wanted (Some name) → (id : ℕ) → names_in t id ≡ with_name wanted (described name) (names_in s) id
unfolding names_in
name_at s t wanted name u id =
    ap items_of (u.0 id)
    ∙ chosen_name (is_eq (nat_cmp wanted id)) name (get nat_cmp s.names id)
    ∙ ap (λ (b : Bool). cond b (Some (described name)) (items_of (get nat_cmp s.names id))) (unsigned_tied wanted id)

pub with_name_in : (s t : TableNames) (wanted : ℕ) (name : DescribedTable) → Updates nat_cmp s.names t.names wanted (Some name) → HasNames t (with_name wanted (described name) (names_in s))
with_name_in s t wanted name u = λ i id. name_at s t wanted name u id i
