-- An entry of version 1 that a bundle's open journal takes whole.
use Rattle.std.proofs.Common.{◌≡◌, ℕ, suc, ◌+◌, Bool, true, false, List, [], ◌∷◌, ◌++◌, length, Some, Result, Ok, Err, refl, sym, ap, subst, ◌∙◌, append_assoc, arith}
use Rattle.std.specs.Prelude.{◌&&◌, nat_le, codes}
use Rattle.std.specs.List.{list_all}
use Rattle.std.specs.FinSet as set
use Rattle.std.specs.declared.alloc.AllocError.{AllocError}
use Rattle.std.proofs.lemmas.List.{append-nil, length_push}
use Rattle.std.proofs.lemmas.Bool.{and_parts}
use Rattle.gtid_text.specs.declared.Gtid.{Gtid}
use Rattle.rows.specs.declared.change.Change.{Change}
use Rattle.rows.specs.declared.schema.Table.{Table}
use Rattle.rows.specs.declared.limits.Limits.TheVariants.{Narrow}
use Rattle.journal.specs.Writing.{is_number, is_change_writable}
use Rattle.journal_words.specs.Gtids.{gtid_of_word}
use Rattle.txn_journal.specs.Lines.{◌>>=◌}
use Rattle.txn_journal.specs.Machine.{Standing, is_within, fits, add, begin, txn_line, step, judge, close_entry}
use Rattle.txn_journal.specs.BundleStates.{BundleStanding, judge_part, judge_bundle}
use Rattle.txn_journal.specs.BundleChanges.{with_change}
use Rattle.txn_journal.specs.ChangeLines.{change_in}
use Rattle.txn_journal.specs.EntryLines.{AreChangeLines, IsEntryText}
use Rattle.txn_journal.specs.Versions.{limits_of}
use Rattle.txn_journal.specs.TakenEntries.{judge_all, Makes, TakesText, MayFollow, with_entry, JoinsEntry}
use Rattle.txn_journal.specs.declared.bundle_draft.Part.{Part}
use Rattle.txn_journal.specs.declared.bundle_draft.Part.TheVariants as parts
use Rattle.txn_journal.specs.declared.fault.Cause.{Cause}
use Rattle.txn_journal.specs.declared.lines.LinePlace.{LinePlace}
use Rattle.txn_journal.specs.declared.lines.LinePlace.TheVariants as places
use Rattle.txn_journal.specs.declared.lines.Version.{Version}
use Rattle.txn_journal.specs.declared.lines.Version.TheVariants.{One}
use Rattle.txn_journal.proofs.Judged.{bind_ok, done}
use Rattle.txn_journal.proofs.ChangeSteps.{bundle_adds}
use Rattle.txn_journal.proofs.InnerSteps.{plain_taken, ends_is}
use Rattle.txn_journal.proofs.CountedEnds.{plain_ended}
use Rattle.txn_journal.proofs.EntryTexts.{as_many, all_whole}

-- ---- lines one after another

pub all_append : {S : Type 0} (j : S → List ℕ → Result S Cause) (s t : S) (r : Result S Cause) (xs ys : List (List ℕ)) → judge_all j s xs ≡ Ok t → judge_all j t ys ≡ r → judge_all j s (xs ++ ys) ≡ r
all_append {S} j s t r [] ys e f = ap (λ (q : Result S Cause). q >>= λ x. judge_all j x ys) e ∙ f
all_append {S} j s t r (x ∷ xs) ys e f =
    let a = bind_ok (j s x) (λ y. judge_all j y xs) t e in
    ap (λ (q : Result S Cause). q >>= λ y. judge_all j y (xs ++ ys)) a.1 ∙ all_append j a.0 t r xs ys a.2 f

-- ---- the first line

abbrev begun : Standing → Gtid → Standing
begun s g = record s { place = places.Within; gtid = g; stamp = 0 }

begins : (tables : List Table) (s : Standing) (word : List ℕ) (g : Gtid) → gtid_of_word word ≡ Some g → s.place ≡ places.Between → s.version ≡ One → is_number g.number ≡ true → nat_le 4294967294 s.count ≡ false → set.contains s.seen g ≡ false
    → judge (Some tables) s (codes "txn " ++ word) ≡ Ok (begun s g)
unfolding judge step txn_line begin
begins tables s word g spelled place version number room unseen = simp (place, version, spelled, number, room, unseen) refl

abbrev with_draft : BundleStanding → Standing → BundleStanding
with_draft s d = record s { draft = d }

bundle_begins : (s : BundleStanding) (cs : List Change) (word : List ℕ) (g : Gtid) → s.part ≡ parts.Journal → gtid_of_word word ≡ Some g → MayFollow s.bundle.start.schema s.draft g cs
    → judge_bundle s (codes "txn " ++ word) ≡ Ok (with_draft s (begun s.draft g))
unfolding judge_bundle
bundle_begins s cs word g part spelled h =
    let line = codes "txn " ++ word in
    ap (λ (p : Part). judge_part p true s line) part
    ∙ plain_taken s s.bundle.start.schema (begun s.draft g) line (ap (λ (p : LinePlace). is_within p && false) h.place) refl
    (begins s.bundle.start.schema s.draft word g spelled h.place h.version h.number h.room h.unseen) refl

-- ---- the changes

adds_one : (tables : List Table) (s : Standing) (c : Change) → s.version ≡ One → nat_le 65536 (length s.changes) ≡ false → is_change_writable Narrow c ≡ true → fits (Some tables) c ≡ true → add (Some tables) s c ≡ Ok (record s { changes = s.changes ++ c ∷ [] })
unfolding add
adds_one tables s c one few writable fit = simp (one, few, writable, fit) refl

abbrev holding : BundleStanding → List Change → BundleStanding
holding s cs = with_draft s (record s.draft { changes = s.draft.changes ++ cs })

holds_one : (s : BundleStanding) (c : Change) → s.draft.version ≡ One → nat_le 65536 (length s.draft.changes) ≡ false → is_change_writable Narrow c ≡ true → fits (Some s.bundle.start.schema) c ≡ true → with_change s c ≡ done (holding s (c ∷ []))
unfolding with_change
holds_one s c one few writable fit = ap (λ (r : Result Standing Cause). r >>= λ d. done (with_draft s d)) (adds_one s.bundle.start.schema s.draft c one few writable fit)

holds_all : (s : BundleStanding) (ls : List (List ℕ)) (cs : List Change) → s.part ≡ parts.Journal → s.draft.version ≡ One → is_within s.draft.place ≡ true → AreChangeLines Narrow ls cs → nat_le (length s.draft.changes + length cs) 65536 ≡ true → list_all (is_change_writable Narrow) cs ≡ true → list_all (fits (Some s.bundle.start.schema)) cs ≡ true
    → judge_all judge_bundle s ls ≡ done (holding s cs)
holds_all s [] [] part old within h few writable fit = ap (λ (x : List Change). done (with_draft s (record s.draft { changes = x }))) (sym (append-nil s.draft.changes))
holds_all s [] (c ∷ cs) part old within h few writable fit = absurd h
holds_all s (l ∷ ls) [] part old within h few writable fit = absurd h
holds_all s (l ∷ ls) (c ∷ cs) part old within h few writable fit =
    let w = and_parts (is_change_writable Narrow c) (list_all (is_change_writable Narrow) cs) writable in
    let f = and_parts (fits (Some s.bundle.start.schema) c) (list_all (fits (Some s.bundle.start.schema)) cs) fit in
    let one = bundle_adds s l c (subst (λ (v : Version). change_in (limits_of v) l ≡ Ok c) (sym old) h.1) part within ∙ holds_one s c old (room_now (length s.draft.changes) (length cs) few) w.0 f.0 in
    ap (λ (r : Result BundleStanding Cause). r >>= λ t. judge_all judge_bundle t ls) one
    ∙ holds_all (holding s (c ∷ [])) ls cs part old within h.2 (room_next s.draft.changes c (length cs) few) w.1 f.1
    ∙ ap (λ (x : List Change). done (with_draft s (record s.draft { changes = x }))) (append_assoc s.draft.changes (c ∷ []) cs)
  where
    room_now : (n m : ℕ) → nat_le (n + suc m) 65536 ≡ true → nat_le 65536 n ≡ false
    room_now n m e = grind arith

    room_next : (xs : List Change) (x : Change) (m : ℕ) → nat_le (length xs + suc m) 65536 ≡ true → nat_le (length (xs ++ x ∷ []) + m) 65536 ≡ true
    room_next xs x m e = ap (λ (k : ℕ). nat_le k 65536) (omega (arith, length_push xs x)) ∙ e

-- ---- the last line

ends : (s : BundleStanding) → s.part ≡ parts.Journal → s.version ≡ One → s.draft.place ≡ places.Within → s.draft.stamp ≡ 0 → judge_bundle s (codes "end") ≡ done (with_draft s (close_entry s.draft))
unfolding judge_bundle
ends s part one within zero =
    ap (λ (p : Part). judge_part p true s (codes "end")) part
    ∙ ends_is s (codes "end") (ap (λ (p : LinePlace). is_within p && true) within)
    ∙ plain_ended s (Ok true) (close_entry s.draft) one zero refl

-- ---- all of them

pub entry_made : (s : BundleStanding) (text : List ℕ) (g : Gtid) (cs : List Change) → s.part ≡ parts.Journal → s.version ≡ One → IsEntryText text g cs → MayFollow s.bundle.start.schema s.draft g cs
    → Makes judge_bundle text (length cs + 2) s (with_draft s (with_entry s.draft g cs))
entry_made s text g cs part one h may =
    let first = codes "txn " ++ h.word in
    let last = codes "end" in
    let opened = with_draft s (begun s.draft g) in
    let w = and_parts (nat_le (length cs) 65536) (list_all (is_change_writable Narrow) cs) h.writable in
    let few : nat_le (length s.draft.changes + length cs) 65536 ≡ true = ap (λ (xs : List Change). nat_le (length xs + length cs) 65536) may.nothing_open ∙ ap (λ (k : ℕ). nat_le k 65536) (none_before (length cs)) ∙ w.0 in
    let held = holds_all opened h.within cs part may.version refl h.lines few w.1 may.fit in
    let closed : judge_bundle (holding opened cs) last ≡ done (with_draft s (with_entry s.draft g cs)) =
    ends (holding opened cs) part one refl refl ∙ ap (λ (xs : List Change). done (with_draft s (close_entry (record (begun s.draft g) { changes = xs ++ cs })))) may.nothing_open in
    record {
      lines = first ∷ (h.within ++ last ∷ []);
      parts = h.parts;
      whole = (h.whole, all_whole h.within cs last h.lines refl);
      number = omega (arith, as_many h.within cs h.lines, length_push h.within last);
      made =
          ap (λ (r : Result BundleStanding Cause). r >>= λ t. judge_all judge_bundle t (h.within ++ last ∷ [])) (bundle_begins s cs h.word g part h.gtid_is may)
          ∙ all_append judge_bundle opened (holding opened cs) (done (with_draft s (with_entry s.draft g cs))) h.within (last ∷ []) held
          (ap (λ (r : Result BundleStanding Cause). r >>= λ t. done t) closed);
    }
  where
    none_before : (n : ℕ) → length {A = Change} [] + n ≡ n
    none_before n = omega arith

-- what a call did with the draft is what it did with the bundle
pub entry_taken : (s : BundleStanding) (tables : List Table) (r : Result Bool AllocError) (text : List ℕ) (g : Gtid) (cs : List Change) (d : Standing) → s.part ≡ parts.Journal → s.version ≡ One → IsEntryText text g cs → tables ≡ s.bundle.start.schema
    → JoinsEntry tables r g cs s.draft d → TakesText judge_bundle r text (length cs + 2) s (with_draft s d)
entry_taken s tables (Ok true) text g cs d part one h same joined =
    subst (λ (x : Standing). Makes judge_bundle text (length cs + 2) s (with_draft s x)) (sym joined.1)
    (entry_made s text g cs part one h (subst (λ (t : List Table). MayFollow t s.draft g cs) same joined.0))
entry_taken s tables (Ok false) text g cs d part one h same joined = ap (with_draft s) joined
entry_taken s tables (Err e) text g cs d part one h same joined = tt
