-- Where no key is touched last by another source, none is touched first by one.
use Rattle.std.proofs.Common.{◌≡◌, ℕ, ◌+◌, drop, map, Bool, true, false, cond, ◌&&◌, List, [], ◌∷◌, Option, Some, None, refl, sym, ap, ◌∙◌, subst}
use Rattle.std.specs.Prelude.{nat_lt, ◌==◌, is_some}
use Rattle.std.specs.List.{list_all}
use Rattle.std.specs.Option.{option_map, option_map_or}
use Rattle.std.specs.FinMap as finmap
use Rattle.std.specs.FinMap.{get-insert}
use Rattle.std.proofs.lemmas.Bool.{eqb-true, eq-eqb, and_parts}
use Rattle.lemmas.proofs.Numbers.{not_less}
use Rattle.gtid_text.specs.declared.Gtid.{Gtid}
use Rattle.rows.specs.declared.change.Key.{Key}
use Rattle.rows.specs.declared.schema.Table.{Table}
use Rattle.rows.specs.Order.{key_eq}
use Rattle.rows.specs.Total.{key_total, key_eq_same}
use Rattle.rows.specs.WriteSet.{write_set}
use Rattle.history.specs.Sources as history
use Rattle.world.specs.declared.verdict.Verdict.TheVariants.{Shared}
use Rattle.world.specs.Search.{or_next, first}
use Rattle.world.specs.Folds.{FirstTouch, touched_by, shares_with, shared_from}
use Rattle.journal.specs.declared.Entry.{Entry}
use Rattle.audit.specs.Contents.{as_pair}
use Rattle.audit.specs.Gaps.{Needs, needs_over, touch_last, last_of_keys, is_own}
use Rattle.world.proofs.Finding.{none_next}

abbrev source_of : Gtid → ℕ
source_of g = g.source

-- each key was touched first and last by one source, or by none
abbrev pub AreAlike : FirstTouch → FirstTouch → Type 0
AreAlike seen last = (k : Key) → option_map source_of (finmap.get seen k) ≡ option_map source_of (finmap.get last k)

abbrev is_of : Gtid → Option ℕ → Bool
is_of g o = option_map_or (λ n. n == g.source) o true

own_source : (g : Gtid) (o : Option Gtid) → option_map_or (λ before. before.source == g.source) o true ≡ is_of g (option_map source_of o)
own_source g None = refl
own_source g (Some b) = refl

-- what is of the own source isn't shared
not_shared : (g : Gtid) (key : Key) (o : Option Gtid) → is_of g (option_map source_of o) ≡ true → shares_with g key o ≡ None
not_shared g key None e = refl
not_shared g key (Some b) e =
    let same : b.source ≡ g.source = eqb-true b.source g.source e in
    λ i. cond (((λ j. nat_lt (same j) g.source) ∙ not_less g.source) i) (Some (Shared b g key)) None

none_shared : (g : Gtid) (keys : List Key) (seen last : FirstTouch) → AreAlike seen last → list_all (is_own g last) keys ≡ true
    → first (λ key. shares_with g key (finmap.get seen key)) keys ≡ None
none_shared g [] seen last alike own = refl
none_shared g (key ∷ keys) seen last alike own =
    let parts = and_parts (is_own g last key) (list_all (is_own g last) keys) own in
    none_next (shares_with g key (finmap.get seen key)) (first (λ k. shares_with g k (finmap.get seen k)) keys)
    (not_shared g key (finmap.get seen key) (ap (is_of g) (alike key) ∙ sym (own_source g (finmap.get last key)) ∙ parts.0))
    (none_shared g keys seen last alike parts.1)

-- ---- one key more is touched

here_or : (g : Gtid) (b : Bool) (o : Option Gtid) → is_of g (option_map source_of o) ≡ true → is_of g (option_map source_of (cond b (Some g) o)) ≡ true
here_or g true o e = eq-eqb g.source g.source refl
here_or g false o e = e

own_stays : (g : Gtid) (key : Key) (last : FirstTouch) (k : Key) → is_own g last k ≡ true → is_own g (finmap.insert last key g) k ≡ true
own_stays g key last k e =
    own_source g (finmap.get (finmap.insert last key g) k)
    ∙ ap (λ o. is_of g (option_map source_of o)) (get-insert key_total last key g k)
    ∙ here_or g (key_eq k key) (finmap.get last k) (sym (own_source g (finmap.get last k)) ∙ e)

own_keys : (g : Gtid) (key : Key) (last : FirstTouch) (keys : List Key) → list_all (is_own g last) keys ≡ true → list_all (is_own g (finmap.insert last key g)) keys ≡ true
own_keys g key last [] e = refl
own_keys g key last (k ∷ keys) e =
    let parts = and_parts (is_own g last k) (list_all (is_own g last) keys) e in
    λ i. own_stays g key last k parts.0 i && own_keys g key last keys parts.1 i

-- a key that was touched is touched by the own source
was_own : (g : Gtid) (o p : Option Gtid) → is_some o ≡ true → option_map source_of o ≡ option_map source_of p → is_of g (option_map source_of p) ≡ true
    → option_map source_of o ≡ Some g.source
was_own g None p there alike own = absurd cc
was_own g (Some a) p there alike own = ap Some (eqb-true a.source g.source (ap (is_of g) alike ∙ own))

at_key : (g : Gtid) (b : Bool) (o p : Option Gtid) → (b ≡ true → option_map source_of o ≡ Some g.source) → option_map source_of o ≡ option_map source_of p
    → option_map source_of o ≡ option_map source_of (cond b (Some g) p)
at_key g true o p here alike = here refl
at_key g false o p here alike = alike

both_at : (g : Gtid) (b : Bool) (o p : Option Gtid) → option_map source_of o ≡ option_map source_of p
    → option_map source_of (cond b (Some g) o) ≡ option_map source_of (cond b (Some g) p)
both_at g true o p alike = refl
both_at g false o p alike = alike

alike_one : (g : Gtid) (key : Key) (seen last : FirstTouch) (there : Bool) → is_some (finmap.get seen key) ≡ there → AreAlike seen last → is_own g last key ≡ true
    → AreAlike (cond there seen (finmap.insert seen key g)) (finmap.insert last key g)
alike_one g key seen last true is alike own k =
    let stands : option_map source_of (finmap.get seen key) ≡ Some g.source =
    was_own g (finmap.get seen key) (finmap.get last key) is (alike key) (sym (own_source g (finmap.get last key)) ∙ own) in
    at_key g (key_eq k key) (finmap.get seen k) (finmap.get last k) (λ e. ap (λ q. option_map source_of (finmap.get seen q)) (key_eq_same k key e) ∙ stands) (alike k)
    ∙ ap (option_map source_of) (sym (get-insert key_total last key g k))
alike_one g key seen last false is alike own k =
    ap (option_map source_of) (get-insert key_total seen key g k)
    ∙ both_at g (key_eq k key) (finmap.get seen k) (finmap.get last k) (alike k)
    ∙ ap (option_map source_of) (sym (get-insert key_total last key g k))

pub alike_more : (g : Gtid) (keys : List Key) (seen last : FirstTouch) → AreAlike seen last → list_all (is_own g last) keys ≡ true → AreAlike (touched_by g keys seen) (touch_last g keys last)
alike_more g [] seen last alike own = alike
alike_more g (key ∷ keys) seen last alike own =
    let parts = and_parts (is_own g last key) (list_all (is_own g last) keys) own in
    alike_more g keys (cond (finmap.contains_key seen key) seen (finmap.insert seen key g)) (finmap.insert last key g)
    (alike_one g key seen last (finmap.contains_key seen key) refl alike parts.0) (own_keys g key last keys parts.1)

-- ---- entry after entry

-- so far no key was touched by two sources, and what is found among all is found among the rest
pub record IsApart (schema : List Table) (all rest : List history.Entry) (last : FirstTouch) : Type 0 where
  pub seen : FirstTouch
  pub alike : AreAlike seen last
  pub rests : shared_from schema seen rest ≡ shared_from schema finmap.empty all

pub apart_first : (schema : List Table) (all : List history.Entry) → IsApart schema all all finmap.empty
apart_first schema all = record { seen = finmap.empty; alike = λ k. refl; rests = refl }

pub apart_more : (schema : List Table) (all rest : List history.Entry) (h : history.Entry) (last : FirstTouch) → IsApart schema all (h ∷ rest) last
    → list_all (is_own h.0 last) (write_set schema h.1) ≡ true → IsApart schema all rest (touch_last h.0 (write_set schema h.1) last)
apart_more schema all rest h last before own =
    let keys = write_set schema h.1 in
    record {
      seen = touched_by h.0 keys before.seen;
      alike = alike_more h.0 keys before.seen last before.alike own;
      rests = sym (ap (λ o. or_next o (shared_from schema (touched_by h.0 keys before.seen) rest)) (none_shared h.0 keys before.seen last before.alike own)) ∙ before.rests;
    }

pub apart_last : (schema : List Table) (all : List history.Entry) (last : FirstTouch) → IsApart schema all [] last → shared_from schema finmap.empty all ≡ None
apart_last schema all last apart = sym apart.rests

-- one entry more is gone over
pub needs_more : (schema : List Table) (all : List Entry) (i : ℕ) (e : Entry) (last next : FirstTouch) (needs more : Needs) (keys : List Key) (earlier : List Gtid) (want : Needs)
    → drop i all ≡ e ∷ drop (i + 1) all → keys ≡ write_set schema e.txn → earlier ≡ last_of_keys e.gtid keys last → more ≡ finmap.insert needs e.gtid earlier
    → next ≡ touch_last e.gtid keys last → needs_over schema last needs (map as_pair (drop i all)) ≡ want → needs_over schema next more (map as_pair (drop (i + 1) all)) ≡ want
needs_more schema all i e last next needs more keys earlier want left touched were put_in touched_now so_far =
    (λ k. needs_over schema ((touched_now ∙ ap (λ ks. touch_last e.gtid ks last) touched) k)
    ((put_in ∙ ap (finmap.insert needs e.gtid) (were ∙ ap (λ ks. last_of_keys e.gtid ks last) touched)) k)
    (map as_pair (drop (i + 1) all)))
    ∙ ap (λ es. needs_over schema last needs (map as_pair es)) (sym left)
    ∙ so_far

pub apart_step : (schema : List Table) (all : List Entry) (i : ℕ) (e : Entry) (last next : FirstTouch) (keys : List Key)
    → drop i all ≡ e ∷ drop (i + 1) all → keys ≡ write_set schema e.txn → next ≡ touch_last e.gtid keys last → list_all (is_own e.gtid last) keys ≡ true
    → IsApart schema (map as_pair all) (map as_pair (drop i all)) last → IsApart schema (map as_pair all) (map as_pair (drop (i + 1) all)) next
apart_step schema all i e last next keys left touched touched_now own apart =
    subst (IsApart schema (map as_pair all) (map as_pair (drop (i + 1) all))) (sym (touched_now ∙ ap (λ ks. touch_last e.gtid ks last) touched))
    (apart_more schema (map as_pair all) (map as_pair (drop (i + 1) all)) (as_pair e) last
    (subst (λ es. IsApart schema (map as_pair all) (map as_pair es) last) left apart)
    (ap (list_all (is_own e.gtid last)) (sym touched) ∙ own))
