-- The last toucher of each key is enough to find that something is left out of a journal.
use Rattle.std.proofs.Common.{◌≡◌, ℕ, zero, suc, ◌<◌, ◌≤◌, Bool, true, false, cond, not, ◌&&◌, ◌⊎◌, inl, inr, List, [], ◌∷◌, take, Option, Some, None, refl, sym, ap, ◌∙◌, subst, arith}
use Rattle.std.specs.Prelude.{slice_get, nat_lt, ◌==◌}
use Rattle.std.specs.List.{list_any, filter}
use Rattle.std.specs.Option.{option_map_or}
use Rattle.std.specs.FinMap as finmap
use Rattle.std.specs.FinSet as set
use Rattle.std.specs.FinSet.{is_subset-contains}
use Rattle.std.proofs.lemmas.Bool.{eqb-true, eq-eqb, or_cases, or_left, or_right, and_parts, not-true, false_from_ne_true, true_from_ne_false, and_from, not_from_false}
use Rattle.gtid_text.specs.declared.Gtid.{Gtid}
use Rattle.rows.specs.declared.change.Key.{Key}
use Rattle.rows.specs.declared.change.Transaction.{Transaction}
use Rattle.rows.specs.declared.schema.Table.{Table}
use Rattle.rows.specs.Order.{key_eq}
use Rattle.rows.specs.Total.{key_eq_same, key_eq_self}
use Rattle.rows.specs.WriteSet.{write_set, touches}
use Rattle.rows.specs.Conflicts.{conflicts, sharing_is_conflict, conflict_is_sharing}
use Rattle.journal.specs.declared.Entry.{Entry}
use Rattle.journal.specs.Journals.{JournalValue}
use Rattle.history.specs.Sources.{World, content, is_opened}
use Rattle.history.specs.Sources as history
use Rattle.history.specs.LatestWriter.{latest, later_of}
use Rattle.world.specs.declared.verdict.Verdict.{Verdict}
use Rattle.world.specs.declared.verdict.Verdict.TheVariants.{Unequal, Purged, NotClosed}
use Rattle.world.specs.Search.{or_next, first_at, first}
use Rattle.world.specs.Audit.{all_entries, world_of, is_content, is_unequal, unequal, purged, is_recorded_in, is_recorded_before, is_left_out}
use Rattle.world.specs.Folds.{last_toucher, has_gap, least_left_out, OnePassCloses}
use Rattle.world.proofs.Finding.{when_none, none_when, first_none, none_first}
use Rattle.world.proofs.Contents.{entry_at, entry_from, at_content, contents_outside}
use Rattle.world.proofs.Meanings.{content_is_by, le_cases}
use Rattle.std.proofs.lemmas.Option.{same_Some}
use Rattle.std.proofs.lemmas.Map.Keys.{any_passes_from_place}
use Rattle.lemmas.proofs.Options.{none_some}
use Rattle.lemmas.proofs.Tests.{not_both}
use Rattle.lemmas.proofs.SameGtid.{gtid_total}
use Rattle.lemmas.proofs.Lists.{get_take, taken, filtered, left_by_filter, any_at}
use Rattle.lemmas.proofs.Numbers.{ge_of_test, lt_of_test, below_test}

-- ---- a guarded search

guard_first : {B : Type 0} (o : Option B) (t : Bool) (P Q : Option B) → (t ≡ false → o ≡ None) → (o ≡ None → P ≡ Q) → or_next o P ≡ or_next (cond t o None) Q
guard_first (Some v) true P Q shut rest = refl
guard_first (Some v) false P Q shut rest = let e : Some v ≡ None = shut refl in cc
guard_first None true P Q shut rest = rest refl
guard_first None false P Q shut rest = rest refl

shifted : {A B : Type 0} (f : ℕ → A → Option B) (x : A) (xs : List A) (i : ℕ) → f zero x ≡ None → ((j : ℕ) (y : A) → j < i → slice_get xs j ≡ Some y → f (suc j) y ≡ None) → (j : ℕ) (y : A) → j < suc i → slice_get (x ∷ xs) j ≡ Some y → f j y ≡ None
shifted f x xs i none before zero y l e = ap (f zero) (sym (same_Some x y e)) ∙ none
shifted f x xs i none before (suc j) y l e = before j y (omega arith) e

-- where what the guard shuts out gives nothing as long as nothing was found, the guard changes nothing
pub guarded : {A B : Type 0} (f : ℕ → A → Option B) (p : ℕ → A → Bool) (xs : List A)
    → ((i : ℕ) (x : A) → slice_get xs i ≡ Some x → ((j : ℕ) (y : A) → j < i → slice_get xs j ≡ Some y → f j y ≡ None) → p i x ≡ false → f i x ≡ None)
    → first_at f xs ≡ first_at (λ i x. cond (p i x) (f i x) None) xs
guarded f p [] h = refl
guarded f p (x ∷ xs) h =
    guard_first (f zero x) (p zero x) (first_at (λ i. f (suc i)) xs) (first_at (λ i y. cond (p (suc i) y) (f (suc i) y) None) xs)
    (h zero x refl (λ j y l e. absurd (none_below j l)))
    (λ none. guarded (λ i. f (suc i)) (λ i. p (suc i)) xs (λ i y e before shut. h (suc i) y e (shifted f x xs i none before) shut))
  where
    none_below : (j : ℕ) → j < zero → ⊥
    none_below j l = omega arith

-- ---- the latest of some

later_has : (P : history.Entry → Type 0) (x f : history.Entry) (b : Bool) (g : history.Entry) → P x → P g → cond b (Some x) (Some g) ≡ Some f → P f
later_has P x f true g p q e = let same : x ≡ f = cc in subst P same p
later_has P x f false g p q e = let same : g ≡ f = cc in subst P same q

latest_by : (P : history.Entry → Type 0) (x f : history.Entry) (o : Option history.Entry) → P x → ((g : history.Entry) → o ≡ Some g → P g) → later_of x o ≡ Some f → P f
latest_by P x f None p q e = let same : x ≡ f = cc in subst P same p
latest_by P x f (Some g) p q e = later_has P x f (nat_lt g.0.number x.0.number) g p (q g refl) e

-- the latest is one of them
pub latest_in : (es : List history.Entry) (f : history.Entry) → latest es ≡ Some f → (i : ℕ) × (slice_get es i ≡ Some f)
latest_in [] f e = cc
latest_in (x ∷ es) f e = latest_by (λ g. (i : ℕ) × (slice_get (x ∷ es) i ≡ Some g)) x f (latest es) (zero, refl) (λ g h. let r = latest_in es g h in (suc r.0, r.1)) e

-- there is a latest, and it is none earlier than this
pub latest_over : (es : List history.Entry) (i : ℕ) (h : history.Entry) → slice_get es i ≡ Some h → (f : history.Entry) × (latest es ≡ Some f) × (h.0.number ≤ f.0.number)
latest_over [] i h e = none_some h e
latest_over (x ∷ es) i h e = by (latest es) refl i e (λ k r. latest_over es k h r)
  where
    at_test : (g : history.Entry) (b : Bool) → nat_lt g.0.number x.0.number ≡ b → (h.0.number ≤ x.0.number) ⊎ (h.0.number ≤ g.0.number) → (f : history.Entry) × (cond b (Some x) (Some g) ≡ Some f) × (h.0.number ≤ f.0.number)
    at_test g true t (inl a) = (x, refl, a)
    at_test g true t (inr a) = (x, refl, below_both h.0.number g.0.number x.0.number a (lt_of_test g.0.number x.0.number t))
      where
        below_both : (a b c : ℕ) → a ≤ b → b < c → a ≤ c
        below_both a b c l m = omega arith
    at_test g false t (inl a) = (g, refl, le_both h.0.number x.0.number g.0.number a (ge_of_test g.0.number x.0.number t))
      where
        le_both : (a b c : ℕ) → a ≤ b → b ≤ c → a ≤ c
        le_both a b c l m = omega arith
    at_test g false t (inr a) = (g, refl, a)

    itself : (a b : ℕ) → a ≡ b → b ≤ a
    itself a b e = omega arith

    by : (o : Option history.Entry) → latest es ≡ o → (i : ℕ) → slice_get (x ∷ es) i ≡ Some h → ((k : ℕ) → slice_get es k ≡ Some h → (f : history.Entry) × (latest es ≡ Some f) × (h.0.number ≤ f.0.number)) → (f : history.Entry) × (later_of x o ≡ Some f) × (h.0.number ≤ f.0.number)
    by None w zero e rest = (x, refl, itself x.0.number h.0.number (ap (λ (y : history.Entry). y.0.number) (same_Some x h e)))
    by None w (suc k) e rest = let r = rest k e in let never : None ≡ Some r.0 = sym w ∙ r.1 in none_some r.0 never
    by (Some g) w zero e rest = at_test g (nat_lt g.0.number x.0.number) refl (inl (itself x.0.number h.0.number (ap (λ (y : history.Entry). y.0.number) (same_Some x h e))))
    by (Some g) w (suc k) e rest =
        let r = rest k e in
        let same : g ≡ r.0 = same_Some g r.0 (sym w ∙ r.1) in
        at_test g (nat_lt g.0.number x.0.number) refl (inr (subst (λ (y : history.Entry). h.0.number ≤ y.0.number) (sym same) r.2))

-- ---- what is left out

conflict_key : (schema : List Table) (t u : Transaction) → conflicts schema t u ≡ true → (k : Key) × (touches schema t k ≡ true) × (i : ℕ) × (slice_get (write_set schema u) i ≡ Some k)
conflict_key schema t u h =
    let r = any_at (touches schema u) (write_set schema t) (sym (conflict_is_sharing schema t u) ∙ h) in
    let q = any_at (key_eq r.1) (write_set schema u) r.3 in
    let same : r.1 ≡ q.1 = key_eq_same r.1 q.1 q.3 in
    (q.1, ap (touches schema t) (sym same) ∙ any_passes_from_place (key_eq r.1) (write_set schema t) r.0 r.1 r.2 (key_eq_self r.1), q.0, q.2)

conflict_by : (schema : List Table) (t u : Transaction) (k : Key) → touches schema t k ≡ true → touches schema u k ≡ true → conflicts schema t u ≡ true
conflict_by schema t u k a b =
    let r = any_at (key_eq k) (write_set schema t) a in
    let same : k ≡ r.1 = key_eq_same k r.1 r.3 in
    sharing_is_conflict schema t u (any_passes_from_place (touches schema u) (write_set schema t) r.0 r.1 r.2 (ap (touches schema u) (sym same) ∙ b))

same_gtids : (g h : Gtid) → g.source ≡ h.source → g.number ≡ h.number → g ≡ h
same_gtids g h s n = λ i. record { source = s i; number = n i }

-- what comes before a place comes before a later one
stands_later : (j : JournalValue) (q place : ℕ) (g : Gtid) → q < place → is_recorded_before j q g ≡ true → is_recorded_before j place g ≡ true
stands_later j q place g l h = elim (or_cases (set.contains j.previous g) (is_recorded_in (take q j.entries) g) h) [
  | inl p ↦ or_left (set.contains j.previous g) (is_recorded_in (take place j.entries) g) p
  | inr e ↦
      let a = entry_at (take q j.entries) g e in
      let b = taken j.entries q a.0 a.1 a.2 in
      or_right (set.contains j.previous g) (is_recorded_in (take place j.entries) g)
      (subst (λ (x : Gtid). is_recorded_in (take place j.entries) x ≡ true) a.3 (entry_from (take place j.entries) a.0 a.1 (get_take j.entries place a.0 a.1 b.0 (less a.0 q place b.1 l))))
]
  where
    less : (a b c : ℕ) → a < b → b < c → a < c
    less a b c x y = omega arith

-- In any world whose contents lie beyond its opening set.
module _ (w : World) (journals : List JournalValue) (outside : (g : Gtid) (t : Transaction) → content w g ≡ Some t → is_opened w g ≡ false) where
  module _ (equal : unequal w journals ≡ None) (none_purged : purged w journals ≡ None) where
    pub content_here : (i : ℕ) (j : JournalValue) (k : ℕ) (e : Entry) → slice_get journals i ≡ Some j → slice_get j.entries k ≡ Some e → is_opened w e.gtid ≡ false → content w e.gtid ≡ Some e.txn
    content_here i j k e hj he out =
        let test : is_unequal w e ≡ false = when_none (is_unequal w e) (Unequal e.gtid) (first_none _ j.entries (first_none _ journals equal i j hj) k e he) in
        content_is_by e.txn (content w e.gtid) (true_from_ne_false (is_content w e) (λ no.
        not_both (is_unequal w e) (and_from (not (is_opened w e.gtid)) (not (is_content w e)) (not_from_false (is_opened w e.gtid) out) (not_from_false (is_content w e) no)) test))

    not_previous : (i : ℕ) (j : JournalValue) (g : Gtid) (t : Transaction) → slice_get journals i ≡ Some j → content w g ≡ Some t → set.contains j.previous g ≡ true → ⊥
    not_previous i j g t hj c h =
        let test = when_none (not (set.is_subset j.previous w.opening_set)) (Purged i (set.difference j.previous w.opening_set)) (first_none _ journals none_purged i j hj) in
        let within : set.is_subset j.previous w.opening_set ≡ true = true_from_ne_false (set.is_subset j.previous w.opening_set) (λ no. not_both (not (set.is_subset j.previous w.opening_set)) (not_from_false (set.is_subset j.previous w.opening_set) no) test) in
        not_both (is_opened w g) (is_subset-contains gtid_total j.previous w.opening_set within g h) (outside g t c)

    module _ (i : ℕ) (j : JournalValue) (hj : slice_get journals i ≡ Some j) (place : ℕ) (e : Entry) (he : slice_get j.entries place ≡ Some e)
        (before : (q : ℕ) (x : Entry) → q < place → slice_get j.entries q ≡ Some x → least_left_out w j q x ≡ None) (shut : has_gap w j place e ≡ false) where
      -- what precedes the last toucher of a common key comes before it, and it comes before the entry
      stands_too : (l : ℕ) (h : history.Entry) → slice_get (finmap.entries w.contents) l ≡ Some h → is_opened w e.gtid ≡ false → h.0.source ≡ e.gtid.source → h.0.number < e.gtid.number → conflicts w.schema h.1 e.txn ≡ true → is_recorded_before j place h.0 ≡ true
      stands_too l h hl out same less shares =
          let k = conflict_key w.schema h.1 e.txn shares in
          let p : history.Entry → Bool = λ x. (x.0.source == e.gtid.source) && (nat_lt x.0.number e.gtid.number && touches w.schema x.1 k.0) in
          let passes : p h ≡ true = and_from (h.0.source == e.gtid.source) _ (eq-eqb h.0.source e.gtid.source same) (and_from (nat_lt h.0.number e.gtid.number) (touches w.schema h.1 k.0) (below_test h.0.number e.gtid.number less) k.1) in
          let at = left_by_filter p (finmap.entries w.contents) l h hl passes in
          let last = latest_over (filter p (finmap.entries w.contents)) at.0 h at.1 in
          let f = last.0 in
          let there = latest_in (filter p (finmap.entries w.contents)) f last.1 in
          let ok = filtered p (finmap.entries w.contents) there.0 f there.1 in
          let parts = and_parts (f.0.source == e.gtid.source) _ ok.0 in
          let rest = and_parts (nat_lt f.0.number e.gtid.number) (touches w.schema f.1 k.0) parts.1 in
          let is_source : f.0.source ≡ h.0.source = eqb-true f.0.source e.gtid.source parts.0 ∙ sym same in
          let closed : list_any (λ key. option_map_or (λ (x : history.Entry). not (is_recorded_before j place x.0)) (last_toucher w e.gtid key) false) (write_set w.schema e.txn) ≡ false = and_false (not (is_opened w e.gtid)) _ (not_from_false (is_opened w e.gtid) out) shut in
          let f_stands : is_recorded_before j place f.0 ≡ true = true_from_ne_false (is_recorded_before j place f.0) (λ no.
          not_both (list_any (λ key. option_map_or (λ (x : history.Entry). not (is_recorded_before j place x.0)) (last_toucher w e.gtid key) false) (write_set w.schema e.txn))
          (any_passes_from_place (λ key. option_map_or (λ (x : history.Entry). not (is_recorded_before j place x.0)) (last_toucher w e.gtid key) false) (write_set w.schema e.txn) k.2 k.0 k.3
          (ap (λ o. option_map_or (λ (x : history.Entry). not (is_recorded_before j place x.0)) o false) last.1 ∙ not_from_false (is_recorded_before j place f.0) no)) closed) in
          let cf = at_content w ok.1 f ok.2 in
          elim (le_cases h.0.number f.0.number last.2) [
            | inr equal_number ↦ subst (λ (x : Gtid). is_recorded_before j place x ≡ true) (same_gtids f.0 h.0 is_source (sym equal_number)) f_stands
            | inl lower ↦ elim (or_cases (set.contains j.previous f.0) (is_recorded_in (take place j.entries) f.0) f_stands) [
              | inl purged_it ↦ absurd (not_previous i j f.0 f.1 hj cf purged_it)
              | inr earlier ↦
                  let a = entry_at (take place j.entries) f.0 earlier in
                  let b = taken j.entries place a.0 a.1 a.2 in
                  let x_out : is_opened w a.1.gtid ≡ false = ap (is_opened w) a.3 ∙ outside f.0 f.1 cf in
                  let cx = content_here i j a.0 a.1 hj b.0 x_out in
                  let is_txn : f.1 ≡ a.1.txn = same_Some f.1 a.1.txn (sym cf ∙ (ap (content w) (sym a.3) ∙ cx)) in
                  let none = first_none _ (finmap.entries w.contents) (before a.0 a.1 b.1 b.0) l h hl in
                  let test : is_left_out w j a.0 a.1 h ≡ false = when_none (is_left_out w j a.0 a.1 h) (NotClosed a.1.gtid h.0) none in
                  let stands : is_recorded_before j a.0 h.0 ≡ true = true_from_ne_false (is_recorded_before j a.0 h.0) (λ no.
                  not_both (is_left_out w j a.0 a.1 h)
                  (and_from (not (is_opened w a.1.gtid)) _ (not_from_false (is_opened w a.1.gtid) x_out)
                  (and_from (h.0.source == a.1.gtid.source) _ (eq-eqb h.0.source a.1.gtid.source (sym is_source ∙ ap (λ (y : Gtid). y.source) (sym a.3)))
                  (and_from (nat_lt h.0.number a.1.gtid.number) _ (below_test h.0.number a.1.gtid.number (subst (λ (y : Gtid). h.0.number < y.number) (sym a.3) lower))
                  (and_from (conflicts w.schema h.1 a.1.txn) (not (is_recorded_before j a.0 h.0)) (conflict_by w.schema h.1 a.1.txn k.0 k.1 (ap (λ (y : Transaction). touches w.schema y k.0) (sym is_txn) ∙ rest.1)) (not_from_false (is_recorded_before j a.0 h.0) no))))) test) in
                  stands_later j a.0 place h.0 b.1 stands
            ]
          ]
        where
          and_false : (a b : Bool) → a ≡ true → (a && b) ≡ false → b ≡ false
          and_false true b x y = y
          and_false false b x y = cc

      pub nothing_left_out : least_left_out w j place e ≡ None
      nothing_left_out = none_first _ (finmap.entries w.contents) (λ l h hl. none_when (is_left_out w j place e h) (NotClosed e.gtid h.0) (false_from_ne_true (is_left_out w j place e h) (λ t.
          let a = and_parts (not (is_opened w e.gtid)) _ t in
          let b = and_parts (h.0.source == e.gtid.source) _ a.1 in
          let c = and_parts (nat_lt h.0.number e.gtid.number) _ b.1 in
          let d = and_parts (conflicts w.schema h.1 e.txn) (not (is_recorded_before j place h.0)) c.1 in
          not_both (is_recorded_before j place h.0)
          (stands_too l h hl (not-true (is_opened w e.gtid) a.0) (eqb-true h.0.source e.gtid.source b.0) (lt_of_test h.0.number e.gtid.number c.0) d.0)
          (not-true (is_recorded_before j place h.0) d.1))))

    of_journal : (i : ℕ) (j : JournalValue) → slice_get journals i ≡ Some j → first_at (least_left_out w j) j.entries ≡ first_at (λ place e. cond (has_gap w j place e) (least_left_out w j place e) None) j.entries
    of_journal i j hj = guarded (least_left_out w j) (has_gap w j) j.entries (λ place e he before shut. nothing_left_out i j hj place e he before shut)

pub firsts_same : (f g : JournalValue → Option Verdict) (js : List JournalValue) → ((i : ℕ) (j : JournalValue) → slice_get js i ≡ Some j → f j ≡ g j) → first f js ≡ first g js
firsts_same f g [] h = refl
firsts_same f g (j ∷ js) h = λ i. or_next (h zero j refl i) (firsts_same f g js (λ k x e. h (suc k) x e) i)

pub one_pass_closes : OnePassCloses
one_pass_closes schema opened rows journals equal none_purged =
    let w = world_of schema opened rows journals in
    firsts_same (λ j. first_at (least_left_out w j) j.entries) (λ j. first_at (λ place e. cond (has_gap w j place e) (least_left_out w j place e) None) j.entries) journals
    (of_journal w journals (λ g t h. contents_outside opened (all_entries journals) g t h) equal none_purged)
