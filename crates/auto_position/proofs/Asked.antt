-- The GTIDs of the source's own, and what the journal has a record of.
use Rattle.std.proofs.Common.{◌≡◌, ℕ, suc, ◌+◌, ◌<◌, Bool, true, false, cond, not, eqb, ◌&&◌, ◌||◌, List, [], ◌∷◌, ◌++◌, length, map, take, take-suc, get_or, drop, ◌≤◌, Option, Some, Result, Ok, Err, refl, sym, ap, subst, ◌∙◌, arith}
use Rattle.std.specs.Prelude.{◌==◌, IfOk, IfErr}
use Rattle.std.specs.List.{filter, list_any}
use Rattle.std.specs.List.Sorted.{IsPermutation}
use Rattle.std.proofs.lemmas.List.Sorted.{list_any-IsPermutation}
use Rattle.std.proofs.lemmas.Bool.{eqb-true, and_parts, or_left}
use Rattle.std.proofs.lemmas.List.Folds.{list_any-append}
use Rattle.std.proofs.lemmas.List.{map-append, take_all, take-append-drop}
use Rattle.std.proofs.lemmas.Bool.Decides.{nat_tests}
use Rattle.std.specs.Ordering.{eq_by_cmp}
use Rattle.std.specs.FinSet as set
use Rattle.lemmas.proofs.SameGtid.{gtid_total, gtid_exact}
use Rattle.gtid_text.specs.declared.Gtid.{Gtid}
use Rattle.gtid_text.specs.Gtids.{gtid_cmp}
use Rattle.gtid_set.specs.declared.fault.SetFault.{SetFault}
use Rattle.gtid_set.specs.declared.fault.SetFault.TheVariants.{Memory, PoolFull, SourcesFull}
use Rattle.gtid_set.specs.Sets.{Gtids, gtid, only}
use Rattle.gtid_set.specs.Full.{IsCrowdedExactly}
use Rattle.gtid_set.specs.Edges.{HasEdges}
use Rattle.gtid_set.proofs.EdgeLemmas.{crowd_fault, crowded_only, difference_edges, only_edges, members_edges}
use Rattle.gtid_set.proofs.FaultLemmas.{fault_map}
use Rattle.journal.specs.Edges.{HasEndsOf}
use Rattle.auto_position.proofs.OneSource.{in_entries}
use Rattle.gtid_set.proofs.SetLemmas.{same_members, gtid_tied}
use Rattle.journal.specs.declared.Entry.{Entry}
use Rattle.journal.specs.Journals.{JournalValue, gtids_of, whole}
use Rattle.auto_position.specs.Sending.{numbers_of, own_of, is_wanted, sent, HasPlanEdges, IsEntriesFault, IsPlanFault}
use Rattle.auto_position.specs.declared.PositionFault.TheVariants.{ReplicaHasMore}

-- the members of one source
contains-only : (s : Gtids) (source : ℕ) (g : Gtid) → set.contains (only s source) g ≡ (set.contains s g && (g.source == source))
unfolding only
contains-only s source g = set.contains-retain s (λ x. x.source == source) g (λ x e. ap (λ (y : Gtid). y.source == source) (sym (gtid_exact g x e)))

-- ---- the GTIDs of one source among the entries

abbrev has : Gtid → List Gtid → Bool
has g = list_any (eq_by_cmp gtid_cmp g)

one_more : (g e : Gtid) (source : ℕ) (some : Bool) → e.source ≡ source → (eq_by_cmp gtid_cmp g (gtid source e.number) || (some && (g.source == source))) ≡ ((eq_by_cmp gtid_cmp g e || some) && (g.source == source))
one_more g e source some is =
    let a = gtid_tied g (gtid source e.number) in
    let b = gtid_tied g e in
    rw (a, b, is) (merged (g.source == source) (g.number == e.number) some)
  where
    merged : (b c d : Bool) → ((b && c) || (d && b)) ≡ (((b && c) || d) && b)
    merged true true true = refl
    merged true true false = refl
    merged true false true = refl
    merged true false false = refl
    merged false c true = refl
    merged false c false = refl

other_source : (g e : Gtid) (source : ℕ) (some : Bool) → (e.source == source) ≡ false → (some && (g.source == source)) ≡ ((eq_by_cmp gtid_cmp g e || some) && (g.source == source))
other_source g e source some apart =
    elim (eqb g.source source) as (λ b. eqb g.source source ≡ b → (some && b) ≡ ((eq_by_cmp gtid_cmp g e || some) && b)) [
      | true ↦ λ same.
          let own : g.source ≡ source = eqb-true g.source source same in
          let no : eqb g.source e.source ≡ false = rw own (grind (arith, nat_tests, apart)) in
          rw (gtid_tied g e, no) refl
      | false ↦ λ other. drops some (eq_by_cmp gtid_cmp g e)
    ] refl
  where
    drops : (a b : Bool) → (a && false) ≡ ((b || a) && false)
    drops true true = refl
    drops true false = refl
    drops false true = refl
    drops false false = refl

has_numbers : (source : ℕ) (g : Gtid) (entries : List Entry) → has g (map (gtid source) (numbers_of source entries)) ≡ (has g (map (λ e. e.gtid) entries) && (g.source == source))
has_numbers source g [] = refl
has_numbers source g (e ∷ es) =
    let known = has_numbers source g es in
    let some = has g (map (λ x. x.gtid) es) in
    elim (eqb e.gtid.source source) as (λ b. eqb e.gtid.source source ≡ b → has g (map (gtid source) (map (λ x. x.gtid.number) (cond b (e ∷ filter (λ x. x.gtid.source == source) es) (filter (λ x. x.gtid.source == source) es)))) ≡ ((eq_by_cmp gtid_cmp g e.gtid || some) && (g.source == source))) [
      | true ↦ λ same. ap (λ (b : Bool). eq_by_cmp gtid_cmp g (gtid source e.gtid.number) || b) known ∙ one_more g e.gtid source some (eqb-true e.gtid.source source same)
      | false ↦ λ other. known ∙ other_source g e.gtid source some other
    ] refl

map_any : (p : Gtid → Bool) (source : ℕ) (numbers : List ℕ) → list_any p (map (gtid source) numbers) ≡ list_any (λ n. p (gtid source n)) numbers
map_any p source [] = refl
map_any p source (n ∷ ns) = ap (λ (b : Bool). p (gtid source n) || b) (map_any p source ns)

-- the same numbers in another order
pub recorded_is : (source : ℕ) (entries : List Entry) (numbers : List ℕ) → IsPermutation (numbers_of source entries) numbers → set.from_list (map (gtid source) numbers) ≡ only (gtids_of entries) source
recorded_is source entries numbers moved =
    same_members (set.from_list (map (gtid source) numbers)) (only (gtids_of entries) source) (λ g.
    set.contains-from_list gtid_total (map (gtid source) numbers) g
    ∙ map_any (eq_by_cmp gtid_cmp g) source numbers
    ∙ sym (list_any-IsPermutation (λ n. eq_by_cmp gtid_cmp g (gtid source n)) (numbers_of source entries) numbers moved)
    ∙ sym (map_any (eq_by_cmp gtid_cmp g) source (numbers_of source entries))
    ∙ has_numbers source g entries
    ∙ ap (λ (b : Bool). b && (g.source == source)) (sym (set.contains-from_list gtid_total (map (λ e. e.gtid) entries) g))
    ∙ sym (contains-only (gtids_of entries) source g))

-- one more number, at the end
pub recorded_push : (source : ℕ) (numbers : List ℕ) (n : ℕ) → set.from_list {R = gtid_cmp} (map (gtid source) (numbers ++ n ∷ [])) ≡ set.insert (set.from_list (map (gtid source) numbers)) (gtid source n)
recorded_push source numbers n = ap set.from_list (map-append (gtid source) numbers (n ∷ [])) ∙ set.from_list_push gtid_total gtid_exact (map (gtid source) numbers) (gtid source n)

-- ---- what the replica has of this source and the journal has no record of

left_twice : (a c p e : Bool) → (((a && c) && not p) && not (e && c)) ≡ ((a && c) && not (p || e))
left_twice true true true e = refl
left_twice true true false true = refl
left_twice true true false false = refl
left_twice true false p e = refl
left_twice false c p e = refl

pub unknown_is : (ask previous : Gtids) (entries : List Entry) (own : ℕ) → set.difference (set.difference (only ask own) previous) (only (gtids_of entries) own) ≡ set.difference (only ask own) (set.union previous (gtids_of entries))
unknown_is ask previous entries own =
    same_members (set.difference (set.difference (only ask own) previous) (only (gtids_of entries) own)) (set.difference (only ask own) (set.union previous (gtids_of entries))) (λ g.
    let asked = contains-only ask own g in
    let recorded = contains-only (gtids_of entries) own g in
    set.contains-difference gtid_total (set.difference (only ask own) previous) (only (gtids_of entries) own) g
    ∙ ap (λ (b : Bool). b && not (set.contains (only (gtids_of entries) own) g)) (set.contains-difference gtid_total (only ask own) previous g ∙ ap (λ (b : Bool). b && not (set.contains previous g)) asked)
    ∙ ap (λ (b : Bool). ((set.contains ask g && (g.source == own)) && not (set.contains previous g)) && not b) recorded
    ∙ left_twice (set.contains ask g) (g.source == own) (set.contains previous g) (set.contains (gtids_of entries) g)
    ∙ ap (λ (b : Bool). (set.contains ask g && (g.source == own)) && not b) (sym (set.contains-union gtid_total previous (gtids_of entries) g))
    ∙ ap (λ (b : Bool). b && not (set.contains (set.union previous (gtids_of entries)) g)) (sym asked)
    ∙ sym (set.contains-difference gtid_total (only ask own) (set.union previous (gtids_of entries)) g))

-- ---- nothing is left exactly of a subset

implied : (a b : Bool) → ((a && not b) ≡ true → ⊥) → a ≡ true → b ≡ true
implied true true apart h = refl
implied true false apart h = absurd (apart refl)
implied false b apart h = absurd cc

refuted : (a b : Bool) → (a ≡ true → b ≡ true) → (a && not b) ≡ true → ⊥
refuted true true h e = cc
refuted true false h e = let k = h refl in cc
refuted false b h e = cc

none_in_empty : (g : Gtid) → set.contains {R = gtid_cmp} set.empty g ≡ true → ⊥
none_in_empty g e = let k = sym (set.contains-empty gtid_cmp g) ∙ e in cc

pub subset_from_empty : (s t : Gtids) → set.is_subset (set.difference s t) set.empty ≡ true → set.is_subset s t ≡ true
subset_from_empty s t none =
    set.contains-is_subset gtid_total s t (λ g in_s.
    implied (set.contains s g) (set.contains t g) (λ left. none_in_empty g (set.is_subset-contains gtid_total (set.difference s t) set.empty none g (set.contains-difference gtid_total s t g ∙ left))) in_s)

pub empty_from_subset : (s t : Gtids) → set.is_subset s t ≡ true → set.is_subset (set.difference s t) set.empty ≡ true
empty_from_subset s t within =
    set.contains-is_subset gtid_total (set.difference s t) set.empty (λ g left.
    absurd (refuted (set.contains s g) (set.contains t g) (set.is_subset-contains gtid_total s t within g) (sym (set.contains-difference gtid_total s t g) ∙ left)))

not_subset : (s t : Gtids) → set.is_subset (set.difference s t) set.empty ≡ false → set.is_subset s t ≡ false
not_subset s t some =
    elim (set.is_subset s t) as (λ b. set.is_subset s t ≡ b → b ≡ false) [
      | true ↦ λ within. let k = sym some ∙ empty_from_subset s t within in absurd cc
      | false ↦ λ other. refl
    ] refl

-- where no UUID is given nothing is asked with of it
pub none_own : (t : Gtids) → set.is_subset set.empty t ≡ true
none_own t = set.contains-is_subset gtid_total set.empty t (λ g in_none. let k = sym (set.contains-empty gtid_cmp g) ∙ in_none in absurd cc)

pub unknown_known : {E : Type 0} (ask : Gtids) (journal : JournalValue) (own : ℕ) (asked unpurged recorded previous : Gtids) (entries : List Entry) (r : Result Gtids E)
    → asked ≡ only ask own → unpurged ≡ set.difference asked previous → recorded ≡ only (gtids_of entries) own → previous ≡ journal.previous → entries ≡ journal.entries
    → IfOk r (λ s. s ≡ set.difference unpurged recorded) → IfOk r (λ s. s ≡ set.difference (only ask own) (whole journal))
unknown_known ask journal own asked unpurged recorded previous entries (Ok s) a u c p e h =
    h
    ∙ ap (λ (x : Gtids). set.difference x recorded) (u ∙ ap (λ (x : Gtids). set.difference x previous) a ∙ ap (set.difference (only ask own)) p)
    ∙ ap (set.difference (set.difference (only ask own) journal.previous)) (c ∙ ap (λ (x : List Entry). only (gtids_of x) own) e)
    ∙ unknown_is ask journal.previous journal.entries own
unknown_known ask journal own asked unpurged recorded previous entries (Err f) a u c p e h = tt

-- ---- what is sent

pub sent_wanted : (journal : JournalValue) (ask : Gtids) (own : Option ℕ) → set.is_subset journal.previous ask ≡ true → set.is_subset (own_of ask own) (whole journal) ≡ true → sent journal ask own ≡ Ok (filter (is_wanted ask) journal.entries)
sent_wanted journal ask own kept known = rw (kept, known) refl

pub sent_more : (journal : JournalValue) (ask : Gtids) (own : ℕ) (more : Gtids) → set.is_subset journal.previous ask ≡ true → more ≡ set.difference (only ask own) (whole journal) → set.is_subset more set.empty ≡ false → sent journal ask (Some own) ≡ Err (ReplicaHasMore more)
sent_more journal ask own more kept is some =
    let apart : set.is_subset (only ask own) (whole journal) ≡ false = not_subset (only ask own) (whole journal) (ap (λ (s : Gtids). set.is_subset s set.empty) (sym is) ∙ some) in
    rw (kept, apart, is) refl

pub known_own : (journal : JournalValue) (ask : Gtids) (own : ℕ) (more : Gtids) → more ≡ set.difference (only ask own) (whole journal) → set.is_subset more set.empty ≡ true → set.is_subset (own_of ask (Some own)) (whole journal) ≡ true
known_own journal ask own more is none = subset_from_empty (only ask own) (whole journal) (ap (λ (s : Gtids). set.is_subset s set.empty) (sym is) ∙ none)

-- ---- the loop that builds a set of ascending numbers

pub recorded_next : (source : ℕ) (numbers : List ℕ) (i : ℕ) (now next : Gtids) → i < length numbers → now ≡ set.from_list (map (gtid source) (take i numbers)) → next ≡ set.insert now (gtid source (get_or numbers i 0)) → next ≡ set.from_list (map (gtid source) (take (i + 1) numbers))
recorded_next source numbers i now next within is n =
    let on : take (suc i) numbers ≡ take i numbers ++ get_or numbers i 0 ∷ [] = take-suc numbers i 0 within in
    let one : i + 1 ≡ suc i = omega arith in
    n
    ∙ ap (λ (s : Gtids). set.insert s (gtid source (get_or numbers i 0))) is
    ∙ sym (recorded_push source (take i numbers) (get_or numbers i 0))
    ∙ ap (λ (ns : List ℕ). set.from_list (map (gtid source) ns)) (sym on ∙ ap (λ (k : ℕ). take k numbers) (sym one))

pub recorded_all : (source : ℕ) (entries : List Entry) (numbers sorted items : List ℕ) (i : ℕ) (now : Gtids) → numbers ≡ numbers_of source entries → IsPermutation numbers sorted → items ≡ sorted → length items ≤ i → now ≡ set.from_list (map (gtid source) (take i items)) → now ≡ only (gtids_of entries) source
recorded_all source entries numbers sorted items i now n moved s past is =
    is
    ∙ ap (λ (ns : List ℕ). set.from_list (map (gtid source) ns)) (take_all i items past ∙ s)
    ∙ recorded_is source entries sorted (subst (λ (ns : List ℕ). IsPermutation ns sorted) n moved)

-- each set on the way has GTIDs of the entries alone
pub recorded_part : (source : ℕ) (entries : List Entry) (numbers sorted items : List ℕ) (i : ℕ) (now : Gtids) → numbers ≡ numbers_of source entries → IsPermutation numbers sorted → items ≡ sorted → i < length items
    → now ≡ set.from_list (map (gtid source) (take i items)) → (q : Gtid) → set.contains (set.insert now (gtid source (get_or items i 0))) q ≡ true → set.contains (gtids_of entries) q ≡ true
recorded_part source entries numbers sorted items i now n moved s within is q h =
    let next = recorded_next source items i now (set.insert now (gtid source (get_or items i 0))) within is refl in
    let front : list_any (eq_by_cmp gtid_cmp q) (map (gtid source) (take (i + 1) items)) ≡ true = sym (ap (λ (t : Gtids). set.contains t q) next ∙ set.contains-from_list gtid_total (map (gtid source) (take (i + 1) items)) q) ∙ h in
    let p = λ (k : ℕ). eq_by_cmp gtid_cmp q (gtid source k) in
    let some : list_any p (take (i + 1) items) ≡ true = sym (map_any (eq_by_cmp gtid_cmp q) source (take (i + 1) items)) ∙ front in
    let all : list_any p items ≡ true = ap (list_any p) (sym (take-append-drop (i + 1) items)) ∙ list_any-append p (take (i + 1) items) (drop (i + 1) items) ∙ or_left (list_any p (take (i + 1) items)) (list_any p (drop (i + 1) items)) some in
    let made : set.from_list (map (gtid source) items) ≡ only (gtids_of entries) source = ap (λ (ns : List ℕ). set.from_list (map (gtid source) ns)) s ∙ recorded_is source entries sorted (subst (λ (ns : List ℕ). IsPermutation ns sorted) n moved) in
    let there : set.contains (only (gtids_of entries) source) q ≡ true = ap (λ (t : Gtids). set.contains t q) (sym made) ∙ (set.contains-from_list gtid_total (map (gtid source) items) q ∙ (map_any (eq_by_cmp gtid_cmp q) source items ∙ all)) in
    (and_parts (set.contains (gtids_of entries) q) (q.source == source) (sym (contains-only (gtids_of entries) source q) ∙ there)).0

pub is_left : (more none : Gtids) (b : Bool) → b ≡ set.is_subset more none → none ≡ set.empty → b ≡ false → set.is_subset more set.empty ≡ false
is_left more none b is e left = ap (set.is_subset more) (sym e) ∙ sym is ∙ left

pub is_gone : (more none : Gtids) (b : Bool) → b ≡ set.is_subset more none → none ≡ set.empty → b ≡ true → set.is_subset more set.empty ≡ true
is_gone more none b is e gone = ap (set.is_subset more) (sym e) ∙ sym is ∙ gone

-- ---- the sets on the way

pub purged_edges : (journal : JournalValue) (ask : Gtids) (f : SetFault) (previous : Gtids) → previous ≡ journal.previous → IsCrowdedExactly {T = Unit {0}} (Err f) (set.difference previous ask) → IsPlanFault journal ask f
purged_edges journal ask f previous is h =
    crowd_fault ⊥ f (set.difference previous ask) (HasPlanEdges journal ask)
    (λ places has. difference_edges places previous ask (subst (HasEdges places) (sym is) has.journal_edges.previous) has.asked)
    (crowded_only ⊥ f (set.difference previous ask) h)

pub unpurged_edges : (journal : JournalValue) (ask : Gtids) (own : ℕ) (f : SetFault) (asked previous : Gtids) → asked ≡ only ask own → previous ≡ journal.previous → IsCrowdedExactly {T = Unit {0}} (Err f) (set.difference asked previous) → IsPlanFault journal ask f
unpurged_edges journal ask own f asked previous a p h =
    crowd_fault ⊥ f (set.difference asked previous) (HasPlanEdges journal ask)
    (λ places has. difference_edges places asked previous (subst (HasEdges places) (sym a) (only_edges places ask own has.asked)) (subst (HasEdges places) (sym p) has.journal_edges.previous))
    (crowded_only ⊥ f (set.difference asked previous) h)

-- a set of entries' GTIDs
gtids_edges : (places : Gtids) (entries : List Entry) → HasEndsOf places entries → HasEdges places (gtids_of entries)
gtids_edges places entries ends = members_edges places (gtids_of entries) (λ q e. in_entries q entries places (sym (set.contains-from_list gtid_total (map (λ x. x.gtid) entries) q) ∙ e) ends)

pub entries_edges : (journal : JournalValue) (ask : Gtids) (f : SetFault) (entries : List Entry) → entries ≡ journal.entries → IsEntriesFault entries f → IsPlanFault journal ask f
entries_edges journal ask f entries is h = fault_map f (λ x. x) (λ many places has. many places (subst (HasEndsOf places) (sym is) has.journal_edges.entries)) h

pub left_edges : (journal : JournalValue) (ask : Gtids) (own : ℕ) (f : SetFault) (asked unpurged recorded previous : Gtids) (entries : List Entry)
    → asked ≡ only ask own → unpurged ≡ set.difference asked previous → recorded ≡ only (gtids_of entries) own → previous ≡ journal.previous → entries ≡ journal.entries
    → IsCrowdedExactly {T = Unit {0}} (Err f) (set.difference unpurged recorded) → IsPlanFault journal ask f
left_edges journal ask own f asked unpurged recorded previous entries a u c p e h =
    crowd_fault ⊥ f (set.difference unpurged recorded) (HasPlanEdges journal ask) (λ places has.
    let left : HasEdges places (set.difference asked previous) = difference_edges places asked previous (subst (HasEdges places) (sym a) (only_edges places ask own has.asked)) (subst (HasEdges places) (sym p) has.journal_edges.previous) in
    let right : HasEdges places (only (gtids_of entries) own) = only_edges places (gtids_of entries) own (gtids_edges places entries (subst (HasEndsOf places) (sym e) has.journal_edges.entries)) in
    difference_edges places unpurged recorded (subst (HasEdges places) (sym u) left) (subst (HasEdges places) (sym c) right))
    (crowded_only ⊥ f (set.difference unpurged recorded) h)

-- a refusal that is handed on
pub if_crowded : {T : Type 0} (r : Result T SetFault) (s : Gtids) (P : SetFault → Type 0) → ((f : SetFault) → IsCrowdedExactly {T = Unit {0}} (Err f) s → P f) → IsCrowdedExactly r s → IfErr r P
if_crowded (Ok x) s P h c = tt
if_crowded (Err Memory) s P h c = h Memory c
if_crowded (Err PoolFull) s P h c = h PoolFull c
if_crowded (Err SourcesFull) s P h c = absurd c
