-- One pass over each journal finds what is left out.
use Rattle.std.proofs.Common.{◌≡◌, ℕ, ◌<◌, ◌≤◌, Bool, true, false, cond, not, ◌&&◌, ◌||◌, ◌⊎◌, inl, inr, List, [], ◌∷◌, take, Option, Some, None, refl, sym, ap, ◌∙◌, subst, arith}
use Rattle.std.specs.Prelude.{slice_get, nat_lt, ◌==◌, is_some}
use Rattle.std.specs.List.{list_any, filter}
use Rattle.std.specs.Option.{option_map_or}
use Rattle.std.specs.FinMap as finmap
use Rattle.std.specs.FinMap.{get-insert, get-empty}
use Rattle.std.specs.FinSet as set
use Rattle.std.specs.FinSet.{contains-insert, contains-empty}
use Rattle.std.proofs.lemmas.Bool.{eqb-true, eq-eqb, cases_Bool, and_parts, false_from_ne_true, and_from, not_from_false}
use Rattle.gtid_text.specs.declared.Gtid.{Gtid}
use Rattle.gtid_text.specs.Gtids.{gtid_cmp, same_gtid}
use Rattle.gtid_set.specs.Sets.{Gtids}
use Rattle.gtid_set.proofs.SetLemmas.{gtid_tied}
use Rattle.rows.specs.declared.change.Key.{Key}
use Rattle.rows.specs.declared.schema.Table.{Table}
use Rattle.rows.specs.Order.{key_cmp, key_eq}
use Rattle.rows.specs.Total.{key_total, key_eq_same, key_eq_self}
use Rattle.rows.specs.declared.change.Transaction.{Transaction}
use Rattle.rows.specs.WriteSet.{write_set, touches, is_among}
use Rattle.rows.specs.Conflicts.{conflicts, conflict_is_sharing}
use Rattle.journal.specs.declared.Entry.{Entry}
use Rattle.journal.specs.Journals.{JournalValue}
use Rattle.history.specs.Sources.{World, content, is_opened}
use Rattle.history.specs.Sources as history
use Rattle.history.proofs.SourceGtids.{number_less}
use Rattle.history.proofs.SourceEntries.{rising}
use Rattle.world.specs.declared.verdict.Verdict.TheVariants.{NotClosed}
use Rattle.world.specs.Search.{or_next, when, first_at}
use Rattle.world.specs.Audit.{unequal, purged, is_recorded_in, is_recorded_before, is_left_out, not_closed}
use Rattle.world.specs.Folds.{FirstTouch, touched_by, last_toucher, has_gap, least_left_out}
use Rattle.world.proofs.Finding.{none_when, none_first}
use Rattle.world.proofs.Contents.{content_at}
use Rattle.world.proofs.Gaps.{guarded, latest_in, latest_over, content_here, nothing_left_out, firsts_same}
use Rattle.audit.specs.Gaps.{is_recorded, lacks, gap_at, gap_among, first_gap, Needs, needs_over}
use Rattle.audit.specs.Worlds.{LieBeyond}
use Rattle.audit.proofs.Needing.{rises, needs_are}
use mathlib.Core.Bool.{or_assoc, or-false}
use Rattle.std.proofs.lemmas.Option.{same_Some}
use Rattle.std.proofs.lemmas.Map.Keys.{any_passes_from_place}
use Rattle.lemmas.proofs.Tests.{not_both, not_out}
use Rattle.lemmas.proofs.SameGtid.{same_is_equal, gtid_total}
use Rattle.lemmas.proofs.Lists.{filtered, left_by_filter, any_at}
use Rattle.lemmas.proofs.Numbers.{lt_unless, below_test}
use Rattle.world.proofs.Meanings.{le_cases}

-- ---- a journal in one pass

module _ (world : World) (needs : Needs) (previous : Gtids) where
  gap_pass : (es : List Entry) (standing : Gtids) (T : Gtid → Bool) → ((g : Gtid) → set.contains standing g ≡ T g)
      → gap_among world needs previous standing es ≡ first_at (λ place e. gap_at world needs (λ g. set.contains previous g || (T g || is_recorded_in (take place es) g)) e) es
  gap_pass [] standing T same = refl
  gap_pass (e ∷ es) standing T same =
      let one : (g : Gtid) → is_recorded previous standing g ≡ (set.contains previous g || (T g || false)) = λ g i. set.contains previous g || (same g ∙ sym (or-false (T g))) i in
      let rest = gap_pass es (set.insert standing e.gtid) (λ g. T g || same_gtid g e.gtid) (λ g.
      contains-insert gtid_total standing e.gtid g ∙ (λ i. gtid_tied g e.gtid i || same g i) ∙ swapped (same_gtid g e.gtid) (T g)) in
      λ i. or_next (gap_at world needs (λ g. one g i) e) ((rest ∙ (λ k. first_at (λ place x. gap_at world needs (λ g. set.contains previous g || or_assoc (T g) (same_gtid g e.gtid) (is_recorded_in (take place es) g) k) x) es)) i)
    where
      swapped : (a b : Bool) → (a || b) ≡ (b || a)
      swapped true true = refl
      swapped true false = refl
      swapped false true = refl
      swapped false false = refl

  -- at each entry what is present is the previous set with the entries before
  journal_pass : (j : JournalValue) → j.previous ≡ previous → gap_among world needs previous set.empty j.entries ≡ first_at (λ place e. gap_at world needs (is_recorded_before j place) e) j.entries
  journal_pass j e =
      gap_pass j.entries set.empty (λ g. false) (λ g. contains-empty gtid_cmp g)
      ∙ ap (λ (p : Gtids). first_at (λ place x. gap_at world needs (λ g. set.contains p g || is_recorded_in (take place j.entries) g) x) j.entries) (sym e)

and_false : (a b : Bool) → a ≡ true → (a && b) ≡ false → b ≡ false
and_false true b x y = y
and_false false b x y = cc

any_not : (P : Gtid → Bool) (o : Option history.Entry) → option_map_or (λ (x : history.Entry). not (P x.0)) o false ≡ true → (f : history.Entry) × (o ≡ Some f) × (not (P f.0) ≡ true)
any_not P None e = cc
any_not P (Some f) e = (f, refl, e)

some_list : (P : Gtid → Bool) (o : Option (List Gtid)) (gs : List Gtid) → o ≡ Some gs → option_map_or (λ hs. list_any P hs) o false ≡ list_any P gs
some_list P o gs e = ap (λ x. option_map_or (λ hs. list_any P hs) x false) e

module _ (w : World) (outside : (g : Gtid) (t : Transaction) → content w g ≡ Some t → is_opened w g ≡ false) (journals : List JournalValue) where
  abbrev es0 : List history.Entry
  es0 = finmap.entries w.contents

  abbrev needed : Needs
  needed = needs_over w.schema finmap.empty finmap.empty es0

  module _ (equal : unequal w journals ≡ None) (none_purged : purged w journals ≡ None) (i : ℕ) (j : JournalValue) (hj : slice_get journals i ≡ Some j) where
    -- an entry that lacks nothing has no gap
    no_gap : (place : ℕ) (e : Entry) → slice_get j.entries place ≡ Some e → is_opened w e.gtid ≡ false → lacks needed (is_recorded_before j place) e.gtid ≡ false → has_gap w j place e ≡ false
    no_gap place e he out full = false_from_ne_true (has_gap w j place e) (λ gap.
        let some = and_parts (not (is_opened w e.gtid)) (list_any (λ key. option_map_or (λ (h : history.Entry). not (is_recorded_before j place h.0)) (last_toucher w e.gtid key) false) (write_set w.schema e.txn)) gap in
        let k = any_at (λ key. option_map_or (λ (h : history.Entry). not (is_recorded_before j place h.0)) (last_toucher w e.gtid key) false) (write_set w.schema e.txn) some.1 in
        let f = any_not (is_recorded_before j place) (last_toucher w e.gtid k.1) k.3 in
        by k.1 (any_passes_from_place (key_eq k.1) (write_set w.schema e.txn) k.0 k.1 k.2 (key_eq_self k.1)) f.0 f.1 f.2)
      where
        by : (key : Key) → touches w.schema e.txn key ≡ true → (f : history.Entry) → last_toucher w e.gtid key ≡ Some f → not (is_recorded_before j place f.0) ≡ true → ⊥
        by key touching f is_last stands_not =
            let p : history.Entry → Bool = λ x. (x.0.source == e.gtid.source) && (nat_lt x.0.number e.gtid.number && touches w.schema x.1 key) in
            let at = latest_in (filter p es0) f is_last in
            let ok = filtered p es0 at.0 f at.1 in
            let parts = and_parts (f.0.source == e.gtid.source) (nat_lt f.0.number e.gtid.number && touches w.schema f.1 key) ok.0 in
            let rest = and_parts (nat_lt f.0.number e.gtid.number) (touches w.schema f.1 key) parts.1 in
            let source : f.0.source ≡ e.gtid.source = eqb-true f.0.source e.gtid.source parts.0 in
            let less : f.0.number < e.gtid.number = below f.0.number e.gtid.number rest.0 in
            let there = content_at w e.gtid e.txn (content_here w journals outside equal none_purged i j place e hj he out) in
            let up = rising w in
            let before : ok.1 < there.0 = lt_unless ok.1 there.0
            (λ same.
            let is : f ≡ (e.gtid, e.txn) = same_Some f (e.gtid, e.txn) (sym ok.2 ∙ (ap (slice_get es0) same ∙ there.1)) in
            let n : f.0.number ≡ e.gtid.number = ap (λ (x : history.Entry). x.0.number) is in
            omega arith)
            (λ l.
            let n = number_less e.gtid f.0 (rises es0 there.0 ok.1 (e.gtid, e.txn) f up there.1 ok.2 l) (sym source) in
            omega arith) in
            let has = needs_are w.schema es0 up there.0 (e.gtid, e.txn) there.1 in
            let r = has.serves key ok.1 f touching before ok.2 source rest.1 in
            let t = r.toucher in
            let t_less : t.0.number < e.gtid.number = number_less t.0 e.gtid (rises es0 r.place there.0 t (e.gtid, e.txn) up r.there there.1 r.early) r.source in
            let passes : p t ≡ true = and_from (t.0.source == e.gtid.source) (nat_lt t.0.number e.gtid.number && touches w.schema t.1 key) (eq-eqb t.0.source e.gtid.source r.source)
            (and_from (nat_lt t.0.number e.gtid.number) (touches w.schema t.1 key) (below_test t.0.number e.gtid.number t_less) r.touching) in
            let t_at = left_by_filter p es0 r.place t r.there passes in
            let top = latest_over (filter p es0) t_at.0 t t_at.1 in
            let top_is : top.0 ≡ f = same_Some top.0 f (sym top.1 ∙ is_last) in
            let no_later : t.0.number ≤ f.0.number = subst (λ (x : history.Entry). t.0.number ≤ x.0.number) top_is top.2 in
            let is_f : t ≡ f = elim (le_cases ok.1 r.place r.late) [
              | inl l ↦ let n = number_less f.0 t.0 (rises es0 ok.1 r.place f t up ok.2 r.there l) (source ∙ sym r.source) in absurd (omega arith)
              | inr same ↦ same_Some t f (sym r.there ∙ (ap (slice_get es0) (sym same) ∙ ok.2))
            ] in
            let member = any_at (same_gtid t.0) has.gtids r.needed in
            let is_gtid : member.1 ≡ f.0 = sym (same_is_equal t.0 member.1 member.3) ∙ ap (λ (x : history.Entry). x.0) is_f in
            let lacking : list_any (λ h. not (is_recorded_before j place h)) has.gtids ≡ true =
            any_passes_from_place (λ h. not (is_recorded_before j place h)) has.gtids member.0 member.1 member.2 (ap (λ h. not (is_recorded_before j place h)) is_gtid ∙ stands_not) in
            not_both (list_any (λ h. not (is_recorded_before j place h)) has.gtids) lacking
            (sym (some_list (λ h. not (is_recorded_before j place h)) (finmap.get needed e.gtid) has.gtids has.known) ∙ full)
          where
            below : (a b : ℕ) → nat_lt a b ≡ true → a < b
            below a b h = grind arith

    shut : (place : ℕ) (e : Entry) → slice_get j.entries place ≡ Some e → ((q : ℕ) (x : Entry) → q < place → slice_get j.entries q ≡ Some x → least_left_out w j q x ≡ None)
        → (not (is_opened w e.gtid) && lacks needed (is_recorded_before j place) e.gtid) ≡ false → least_left_out w j place e ≡ None
    shut place e he before held = by (cases_Bool (is_opened w e.gtid))
      where
        by : ((is_opened w e.gtid ≡ true) ⊎ (is_opened w e.gtid ≡ false)) → least_left_out w j place e ≡ None
        by (inl opened_it) =
            none_first (λ l h. when (is_left_out w j place e h) (NotClosed e.gtid h.0)) es0 (λ l h hl. none_when (is_left_out w j place e h) (NotClosed e.gtid h.0)
            (not_out (is_opened w e.gtid) ((h.0.source == e.gtid.source) && (nat_lt h.0.number e.gtid.number && (conflicts w.schema h.1 e.txn && not (is_recorded_before j place h.0)))) opened_it))
        by (inr out) =
            nothing_left_out w journals outside equal none_purged i j hj place e he before
            (no_gap place e he out (and_false (not (is_opened w e.gtid)) (lacks needed (is_recorded_before j place) e.gtid) (not_from_false (is_opened w e.gtid) out) held))

    of_journal : gap_among w needed j.previous set.empty j.entries ≡ first_at (least_left_out w j) j.entries
    of_journal =
        journal_pass w needed j.previous j refl
        ∙ sym (guarded (least_left_out w j) (λ place e. not (is_opened w e.gtid) && lacks needed (is_recorded_before j place) e.gtid) j.entries (λ place e he before held. shut place e he before held))

  pub passed_all : unequal w journals ≡ None → purged w journals ≡ None → first_gap w needed journals ≡ not_closed w journals
  passed_all equal none_purged =
      firsts_same (λ j. gap_among w needed j.previous set.empty j.entries) (λ j. first_at (least_left_out w j) j.entries) journals (of_journal equal none_purged)

pub closing_passes : (world : World) (journals : List JournalValue) → LieBeyond world.opening_set world.contents → unequal world journals ≡ None → purged world journals ≡ None
    → first_gap world (needs_over world.schema finmap.empty finmap.empty (finmap.entries world.contents)) journals ≡ not_closed world journals
closing_passes world journals beyond = passed_all world beyond.outside journals

-- ---- one entry

-- the keys that a transaction touches, in a map of who touched them
kept_key : (g : Gtid) (k q : Key) (seen : FirstTouch) → is_some (finmap.get (cond (finmap.contains_key seen k) seen (finmap.insert seen k g)) q) ≡ (key_eq q k || is_some (finmap.get seen q))
kept_key g k q seen = by (finmap.contains_key seen k) refl
  where
    some_or : (a : Bool) (o : Option Gtid) → is_some (cond a (Some g) o) ≡ (a || is_some o)
    some_or true o = refl
    some_or false o = refl

    at_key : (a : Bool) → key_eq q k ≡ a → is_some (finmap.get seen k) ≡ true → is_some (finmap.get seen q) ≡ (a || is_some (finmap.get seen q))
    at_key true e h = ap (λ x. is_some (finmap.get seen x)) (key_eq_same q k e) ∙ h
    at_key false e h = refl

    by : (b : Bool) → finmap.contains_key seen k ≡ b → is_some (finmap.get (cond b seen (finmap.insert seen k g)) q) ≡ (key_eq q k || is_some (finmap.get seen q))
    by true e = at_key (key_eq q k) refl e
    by false e = ap is_some (get-insert key_total seen k g q) ∙ some_or (key_eq q k) (finmap.get seen q)

touched_is : (g : Gtid) (keys : List Key) (seen : FirstTouch) (q : Key) → is_some (finmap.get (touched_by g keys seen) q) ≡ (is_among keys q || is_some (finmap.get seen q))
touched_is g [] seen q = refl
touched_is g (k ∷ keys) seen q =
    touched_is g keys (cond (finmap.contains_key seen k) seen (finmap.insert seen k g)) q
    ∙ ap (λ b. is_among keys q || b) (kept_key g k q seen)
    ∙ moved (is_among keys q) (key_eq q k) (is_some (finmap.get seen q))
  where
    moved : (a b c : Bool) → (a || (b || c)) ≡ ((b || a) || c)
    moved true true c = refl
    moved true false c = refl
    moved false true c = refl
    moved false false c = refl

pub touched_here : (g : Gtid) (keys : List Key) (q : Key) → is_some (finmap.get (touched_by g keys finmap.empty) q) ≡ is_among keys q
touched_here g keys q = touched_is g keys finmap.empty q ∙ ap (λ o. is_among keys q || is_some o) (get-empty key_cmp q) ∙ or-false (is_among keys q)

-- the test of sharing by that map
pub shares_here : (schema : List Table) (t u : Transaction) (g : Gtid) → list_any (λ key. is_some (finmap.get (touched_by g (write_set schema u) finmap.empty) key)) (write_set schema t) ≡ conflicts schema t u
shares_here schema t u g = (λ i. list_any (λ key. touched_here g (write_set schema u) key i) (write_set schema t)) ∙ sym (conflict_is_sharing schema t u)

pub not_earlier : (o s l r : Bool) → (s && l) ≡ false → false ≡ (not o && (s && (l && r)))
not_earlier true s l r e = refl
not_earlier false true true r e = cc
not_earlier false true false r e = refl
not_earlier false false l r e = refl

pub when_earlier : (o s l r : Bool) → o ≡ false → (s && l) ≡ true → r ≡ (not o && (s && (l && r)))
when_earlier true s l r e f = cc
when_earlier false true true r e f = refl
when_earlier false true false r e f = cc
when_earlier false false l r e f = cc
