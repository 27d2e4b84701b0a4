-- Touches in parts, each of which was looked at apart.
use Rattle.std.proofs.Common.{◌≡◌, ◌<◌, ◌/◌, ◌^◌, ℕ, ◌==◌, true, false, ◌||◌, nat_eq, List, [], ◌∷◌, ◌++◌, map, Option, Some, None, inl, inr, refl, sym, ap, ◌∙◌, subst, arith}
use Rattle.std.specs.Global.{Vec}
use Rattle.std.specs.List.{AllByRecursion}
use Rattle.std.proofs.lemmas.List.{append-nil}
use Rattle.std.proofs.lemmas.Grind.{flat_map-append}
use Rattle.std.specs.FinMap as finmap
use Rattle.std.proofs.lemmas.Nat.{mod_below}
use Rattle.std.proofs.lemmas.Bool.{eqb-true, eq-eqb, or_cases}
use Rattle.lemmas.proofs.Lists.{all_append}
use Rattle.rows.specs.declared.schema.Table.{Table}
use Rattle.rows.specs.WriteSet.{write_set}
use Rattle.world.specs.Folds.{FirstTouch, shared_from}
use Rattle.journal.specs.declared.Entry.{Entry}
use Rattle.audit.specs.Contents.{as_pair}
use Rattle.audit.specs.Gaps.{touch_last}
use Rattle.audit.specs.Marks.{AreMarked, TouchesMarks, is_marked, key_mark}
use Rattle.audit.specs.Owned.{AreOwn, IsOwnIn, OwnsMore, part_of, touched_by_one, touches_in_lists, touches_of, touches_of_all}
use Rattle.audit.specs.declared.parted.MarkTouch.{MarkTouch}
use Rattle.audit.proofs.Apart.{IsApart, apart_first, apart_more, apart_last}
use Rattle.audit.proofs.MarkLemmas.{marked_first, marked_next, own_keys_of}

-- ---- one touch after another

pub all_front : {X : Type 0} (P : X → Type 0) (xs ys : List X) → AllByRecursion P (xs ++ ys) → AllByRecursion P xs
all_front P [] ys all = tt
all_front P (x ∷ xs) ys all = (all.0, all_front P xs ys all.1)

pub all_back : {X : Type 0} (P : X → Type 0) (xs ys : List X) → AllByRecursion P (xs ++ ys) → AllByRecursion P ys
all_back P [] ys all = all
all_back P (x ∷ xs) ys all = all_back P xs ys all.1

pub still_own : (part : ℕ) (old new : ℕ → Option ℕ) (touches : List MarkTouch) → ((mark owner : ℕ) → old mark ≡ Some owner → new mark ≡ Some owner)
    → AllByRecursion (IsOwnIn part old) touches → AllByRecursion (IsOwnIn part new) touches
still_own part old new [] kept own = tt
still_own part old new (t ∷ ts) kept own = ((λ here. kept t.mark t.source (own.0 here)), still_own part old new ts kept own.1)

pub owns_none : (part : ℕ) (old : ℕ → Option ℕ) → OwnsMore part old [] old
owns_none part old = record { now = tt; kept = λ mark owner was. was }

pub owns_more : (part : ℕ) (old mid new : ℕ → Option ℕ) (done : List MarkTouch) (t : MarkTouch) → OwnsMore part old done mid → TouchesMarks mid (t.mark ∷ []) t.source new → OwnsMore part old (done ++ t ∷ []) new
owns_more part old mid new done t first last = record {
  now = all_append (IsOwnIn part new) done (t ∷ []) (still_own part mid new done last.kept first.now) ((λ here. last.now t.mark (ap (λ b. b || false) (eq-eqb t.mark t.mark refl))), tt);
  kept = λ mark owner was. last.kept mark owner (first.kept mark owner was);
}

-- a touch of another part is passed over
pub owns_other : (part : ℕ) (old mid : ℕ → Option ℕ) (done : List MarkTouch) (t : MarkTouch) → OwnsMore part old done mid → (part_of t.mark == part) ≡ false → OwnsMore part old (done ++ t ∷ []) mid
owns_other part old mid done t first other = record {
  now = all_append (IsOwnIn part mid) done (t ∷ []) first.now ((λ here. absurd (never (sym other ∙ eq-eqb (part_of t.mark) part here))), tt);
  kept = first.kept;
}
  where
    never : false ≡ true → ⊥
    never e = cc

-- one list more
pub list_owns : (part : ℕ) (old new : ℕ → Option ℕ) (done : List (Vec MarkTouch)) (list : Vec MarkTouch) → AllByRecursion (IsOwnIn part old) (touches_in_lists done) → OwnsMore part old list.items new
    → AllByRecursion (IsOwnIn part new) (touches_in_lists (done ++ list ∷ []))
list_owns part old new done list first last =
    let joined : touches_in_lists (done ++ list ∷ []) ≡ touches_in_lists done ++ list.items =
    flat_map-append (λ (l : Vec MarkTouch). l.items) done (list ∷ []) ∙ ap (λ (ts : List MarkTouch). touches_in_lists done ++ ts) (append-nil list.items) in
    subst (AllByRecursion (IsOwnIn part new)) (sym joined)
    (all_append (IsOwnIn part new) (touches_in_lists done) list.items (still_own part old new (touches_in_lists done) last.kept first) last.now)

-- ---- entry after entry, where each mark has an owner

abbrev IsOwnOf : (ℕ → Option ℕ) → MarkTouch → Type 0
IsOwnOf owner t = owner t.mark ≡ Some t.source

module _ (owner : ℕ → Option ℕ) where
  marks_own : (source : ℕ) (marks : List ℕ) → AllByRecursion (IsOwnOf owner) (touched_by_one source marks) → (mark : ℕ) → is_marked marks mark ≡ true → owner mark ≡ Some source
  marks_own source [] own mark marked = absurd cc
  marks_own source (m ∷ ms) own mark marked = elim (or_cases (nat_eq m mark) (is_marked ms mark) marked) [
    | inl here ↦ sym (ap owner (eqb-true m mark here)) ∙ own.0
    | inr later ↦ marks_own source ms own.1 mark later
  ]

  none_shared_on : (schema : List Table) (all : List Entry) (rest : List Entry) (last : FirstTouch) → IsApart schema (map as_pair all) (map as_pair rest) last → AreMarked last owner
      → AllByRecursion (IsOwnOf owner) (touches_of_all schema rest) → shared_from schema finmap.empty (map as_pair all) ≡ None
  none_shared_on schema all [] last apart are own = apart_last schema (map as_pair all) last apart
  none_shared_on schema all (e ∷ es) last apart are own =
      let keys = write_set schema e.txn in
      let touched : TouchesMarks owner (map key_mark keys) e.gtid.source owner = record {
        now = marks_own e.gtid.source (map key_mark keys) (all_front (IsOwnOf owner) (touches_of schema e) (touches_of_all schema es) own);
        kept = λ mark o was. was;
      } in
      none_shared_on schema all es (touch_last e.gtid keys last)
      (apart_more schema (map as_pair all) (map as_pair es) (as_pair e) last apart (own_keys_of e.gtid keys last owner owner are touched))
      (marked_next e.gtid keys last owner owner are touched)
      (all_back (IsOwnOf owner) (touches_of schema e) (touches_of_all schema es) own)

-- ---- the owner of a mark is that of its part

module _ (touches : List MarkTouch) (each : (part : ℕ) → part < 4 → AreOwn part touches) where
  below : (mark : ℕ) → part_of mark < 4
  below mark = mod_below (mark / 2 ^ 48) 4 (omega arith)

  abbrev owner_by_part : ℕ → Option ℕ
  owner_by_part mark = (each (part_of mark) (below mark)).owner mark

  own_by_part : (ts : List MarkTouch) → ((part : ℕ) (lt : part < 4) → AllByRecursion (IsOwnIn part (each part lt).owner) ts) → AllByRecursion (IsOwnOf owner_by_part) ts
  own_by_part [] own = tt
  own_by_part (t ∷ ts) own = ((own (part_of t.mark) (below t.mark)).0 refl, own_by_part ts (λ part lt. (own part lt).1))

-- where in each part no mark has two sources, no two sources touch a key
pub none_shared_in_parts : (schema : List Table) (entries : List Entry) → ((part : ℕ) → part < 4 → AreOwn part (touches_of_all schema entries)) → shared_from schema finmap.empty (map as_pair entries) ≡ None
none_shared_in_parts schema entries each =
    let touches = touches_of_all schema entries in
    let owner = owner_by_part touches each in
    none_shared_on owner schema entries entries finmap.empty (apart_first schema (map as_pair entries)) (marked_first owner) (own_by_part touches each touches (λ part lt. (each part lt).own))
