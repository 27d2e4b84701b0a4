-- The rows of shares are parts of those of all journals together.
use Rattle.std.proofs.Common.{map, ◌≡◌, ℕ, ◌<◌, ◌==◌, Bool, true, false, cond, inl, inr, List, [], ◌∷◌, length, Option, Some, None, Ok, refl, sym, ap, subst, ◌∙◌}
use Rattle.std.specs.Prelude.{IfSome, slice_get}
use Rattle.std.specs.List.{filter, AllByRecursion}
use Rattle.std.specs.Option.{unwrap_or}
use Rattle.std.specs.FinMap as finmap
use Rattle.std.specs.FinSet as set
use Rattle.std.proofs.lemmas.Bool.{or_cases, or_left, or_right}
use Rattle.std.proofs.lemmas.List.{length-map}
use Rattle.lemmas.proofs.SameGtid.{gtid_total}
use Rattle.lemmas.proofs.Lists.{get_map, get_map_cases}
use Rattle.gtid_text.specs.declared.Gtid.{Gtid}
use Rattle.gtid_set.specs.Sets.{Gtids}
use Rattle.rows.specs.Apply.{Rows}
use Rattle.rows.specs.Database.{Database}
use Rattle.journal.specs.declared.Entry.{Entry}
use Rattle.journal.specs.Journals.{JournalValue, whole}
use Rattle.history.proofs.Placing.{all_map}
use Rattle.history.proofs.Merging.{got}
use Rattle.history.proofs.Covering.{is_entry, entries_append, in_whole}
use Rattle.convergence.specs.Deciding.{all_of}
use Rattle.history.specs.Sources.{World, content, apply_all, rows_of, AreKeysSound, IsSound}
use Rattle.history.specs.Sources as history
use Rattle.history.specs.Shares.{AreShares, of_sources}
use Rattle.history.proofs.SourceEntries.{found}
use Rattle.history.proofs.Shares.{shares_are_parts}
use Rattle.world.specs.declared.verdict.Verdict.TheVariants.{Sound}
use Rattle.world.specs.Audit.{all_entries, does_not_apply, found_in_keys, verdict, verdict_of_keys, world_of}
use Rattle.world.specs.Folds.{shared_from}
use Rattle.world.specs.Meaning.{AreJournals}
use Rattle.world.proofs.Contents.{contents_entry}
use Rattle.world.proofs.Finding.{none_next}
use Rattle.world.proofs.Meanings.{keys_not, keys_sound_mean, none_of_sound}
use Rattle.world.proofs.Saying.{applies_none}
use Rattle.world.proofs.Touching.{one_pass_shares}
use Rattle.audit.specs.Contents.{as_pair, in_order}
use Rattle.audit.specs.Firsts.{AreFirsts}
use Rattle.audit.proofs.Made.{pairs_of}
use Rattle.source_shares.specs.Merging.{AreMerged}
use Rattle.source_shares.specs.Shares.{AreApplied, AreBelow, is_in_share, share_in}

-- ---- options

pub at_some : {A : Type 0} (P : A → Type 0) {o : Option A} {x : A} → o ≡ Some x → IfSome o P → P x
at_some P e h = subst (λ o. IfSome o P) e h

-- ---- lists

keeps_all_by : (e : history.Entry) (F es : List history.Entry) (b : Bool) → b ≡ true → F ≡ es → cond b (e ∷ F) F ≡ e ∷ es
keeps_all_by e F es true h f = ap (λ (zs : List history.Entry). e ∷ zs) f
keeps_all_by e F es false h f = cc

-- where each passes, nothing is lost
keeps_all : (p : history.Entry → Bool) (es : List history.Entry) → AllByRecursion (λ (e : history.Entry). p e ≡ true) es → filter p es ≡ es
keeps_all p [] h = refl
keeps_all p (e ∷ es) h = keeps_all_by e (filter p es) es (p e) h.0 (keeps_all p es h.1)

-- each is below
pub share_below : (count : ℕ) (pairs : List (ℕ × ℕ)) → 0 < count → AreBelow count pairs → (source : ℕ) → share_in pairs source < count
share_below count [] some are source = some
share_below count ((named, share) ∷ pairs) some are source = by (named == source) are.0 (share_below count pairs some are.1 source)
  where
    by : (b : Bool) → share < count → share_in pairs source < count → cond b share (share_in pairs source) < count
    by true own later = own
    by false own later = later

-- the rows of each, where each was found
pub part_at : (found : List (Option Database)) (parts : List Database) (i : ℕ) (rows : Rows) → map Some parts ≡ found → slice_get (map (λ (p : Database). p.rows) parts) i ≡ Some rows
    → (part : Database) × (slice_get found i ≡ Some (Some part)) × (part.rows ≡ rows)
part_at found parts i rows are at =
    let one = get_map_cases (λ (p : Database). p.rows) parts i rows at in
    (one.0, ap (λ (ps : List (Option Database)). slice_get ps i) (sym are) ∙ get_map Some parts i one.0 one.1, one.2)

-- ---- what journals have a record of is in their union

recorded_in : (opened : Gtids) (js : List JournalValue) (g : Gtid) → is_entry (all_entries js) g ≡ true → set.contains (all_of opened js) g ≡ true
recorded_in opened [] g h = cc
recorded_in opened (j ∷ js) g h =
    set.contains-union gtid_total (whole j) (all_of opened js) g
    ∙ elim (or_cases (is_entry j.entries g) (is_entry (all_entries js) g) (sym (entries_append j.entries (all_entries js) g) ∙ h)) [
      | inl here ↦ or_left (set.contains (whole j) g) (set.contains (all_of opened js) g) (in_whole j g ∙ or_right (set.contains j.previous g) (is_entry j.entries g) here)
      | inr later ↦ or_right (set.contains (whole j) g) (set.contains (all_of opened js) g) (recorded_in opened js g later)
    ]

-- ---- the shares

module _ (start : Database) (opened : Gtids) (journals : List JournalValue) (are : AreJournals journals) where
  abbrev w : World
  w = world_of start.schema opened start.rows journals

  -- where no two sources touch a key, the keys are sound
  pub said_by : (list : List Entry) → AreFirsts opened journals list → shared_from start.schema finmap.empty (map as_pair list) ≡ None → verdict_of_keys w journals ≡ Sound
  said_by list firsts none =
      firsts.sound start.schema start.rows (one_pass_shares w ∙ (ap (shared_from start.schema finmap.empty) (sym (pairs_of list w.contents firsts.listed)) ∙ none))

  module _ (said : verdict_of_keys w journals ≡ Sound) where
    keys : AreKeysSound w
    keys = (keys_sound_mean start.schema opened start.rows journals are said).0

    sound_verdict : IsSound w → verdict w journals ≡ Sound
    sound_verdict sound =
        ap (λ o. unwrap_or o Sound)
        (none_next (found_in_keys w journals) (does_not_apply w) (none_of_sound (found_in_keys w journals) (keys_not w journals) said) (applies_none w sound.alone))

    all_recorded : AllByRecursion (λ (e : history.Entry). set.contains (all_of opened journals) e.0 ≡ true) (finmap.entries w.contents)
    all_recorded = all_map (λ e. content w e.0 ≡ Some e.1) (λ e. set.contains (all_of opened journals) e.0 ≡ true) (finmap.entries w.contents)
        (λ e h. recorded_in opened journals e.0 (contents_entry opened (all_entries journals) e.0 e.1 h)) (found w)

    all_true : (es : List history.Entry) → AllByRecursion (λ (e : history.Entry). ◌≡◌ {A = Bool} true true) es
    all_true [] = tt
    all_true (e ∷ es) = (refl, all_true es)

    -- the rows of the union are those of all
    union_rows : (end : Rows) → rows_of w (λ g. true) ≡ Ok end → rows_of w (set.contains (all_of opened journals)) ≡ Ok end
    union_rows end is =
        ap (λ (es : List history.Entry). apply_all start.schema es start.rows)
        (keeps_all (λ e. set.contains (all_of opened journals) e.0) (finmap.entries w.contents) all_recorded ∙ sym (keeps_all (λ e. true) (finmap.entries w.contents) (all_true (finmap.entries w.contents))))
        ∙ is

    module _ (list : List Entry) (listed : list ≡ in_order w.contents) (pairs : List (ℕ × ℕ)) (found : List (Option Database)) (parts : List Database) (some : 0 < length found) (below : AreBelow (length found) pairs)
        (applied : AreApplied start pairs list found) (all : map Some parts ≡ found) where
      abbrev rows : List Rows
      rows = map (λ (p : Database). p.rows) parts

      same_length : length found ≡ length rows
      same_length = ap length (sym all) ∙ length-map parts Some ∙ sym (length-map parts (λ (p : Database). p.rows))

      part_rows : (i : ℕ) (part : Rows) → slice_get rows i ≡ Some part → rows_of w (of_sources (λ s. share_in pairs s == i)) ≡ Ok part
      part_rows i part at =
          let one = part_at found parts i part all at in
          ap (λ (es : List history.Entry). apply_all start.schema (filter (λ (e : history.Entry). is_in_share pairs i e.0.source) es) start.rows) (sym (pairs_of list w.contents listed))
          ∙ (applied i (Some one.0) one.1).1
          ∙ ap Ok one.2

      shares : AreShares w (share_in pairs) rows
      shares = record {
        below = λ s. subst (λ n. share_in pairs s < n) same_length (share_below (length found) pairs some below s);
        each = part_rows;
      }

      pub world_sound : IsSound w
      world_sound = shares_are_parts.sound w (share_in pairs) rows keys shares

      end : (whole : Rows) × (rows_of w (λ g. true) ≡ Ok whole)
      end = got (rows_of w (λ g. true)) (shares_are_parts.applies w world_sound)

      pub merged : (executed : Gtids) → executed ≡ all_of opened journals → AreMerged opened start journals executed parts
      merged executed is = record {
        sound = sound_verdict world_sound;
        executed_by = is;
        whole = end.0;
        rows_are = union_rows end.0 end.1;
        parts_are = shares_are_parts.parts w (share_in pairs) rows end.0 keys shares end.1;
      }
