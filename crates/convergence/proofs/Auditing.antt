-- A run that was served all journals of a bundle, and the verdict of its audit.
use Rattle.std.proofs.Common.{◌≡◌, List, Option, Some, None, refl, sym, ap, ◌∙◌}
use Rattle.std.specs.Prelude.{IsOk, IsSome}
use Rattle.std.specs.Option.{unwrap_or}
use Rattle.std.specs.FinMap.{entries}
use Rattle.std.specs.FinSet as set
use Rattle.std.proofs.lemmas.Bool.{or_right}
use Rattle.gtid_text.specs.declared.Gtid.{Gtid}
use Rattle.gtid_set.specs.Sets.{Gtids}
use Rattle.rows.specs.declared.schema.Table.{Table}
use Rattle.rows.specs.declared.change.Transaction.{Transaction}
use Rattle.rows.specs.Apply.{Rows}
use Rattle.journal.specs.Journals.{JournalValue}
use Rattle.history.proofs.Covering.{is_entry, in_whole}
use Rattle.convergence.specs.Deciding.{AreJournalsOf, IsRecorded}
use Rattle.convergence.proofs.Deciding.{served_runs_decide, served_runs_hold_all}
use Rattle.history.specs.Sources.{World, in_order, content, apply_all, AreKeysSound}
use Rattle.history.proofs.Alone.{alone_or_together}
use Rattle.history.proofs.Same.{same_content, same_gtids}
use Rattle.world.specs.declared.verdict.Verdict.TheVariants.{Sound}
use Rattle.world.specs.Search.{or_next}
use Rattle.world.specs.Audit.{all_entries, world_of, does_not_apply, found_in_keys, verdict_of_keys, verdict}
use Rattle.world.specs.Meaning.{AreJournals}
use Rattle.world.proofs.Finding.{next_none, none_next}
use Rattle.world.proofs.Contents.{in_all, contents_entry}
use Rattle.world.proofs.Meanings.{none_of_sound, next_not, keys_not, applies_not, alone_here, keys_sound_mean}
use Rattle.world.proofs.Saying.{applies_none}
use Rattle.convergence.specs.Auditing.{WorkersDecide, ServedHoldsAll}

some_there : (o : Option Transaction) → IsSome o → (t : Transaction) × (o ≡ Some t)
some_there (Some t) h = (t, refl)
some_there None h = cc

module _ (schema : List Table) (opened : Gtids) (rows : Rows) (journals : List JournalValue) (are : AreJournals journals) where
  abbrev w : World
  w = world_of schema opened rows journals

  module _ (said : verdict_of_keys w journals ≡ Sound) where
    pub keys : AreKeysSound w
    keys = (keys_sound_mean schema opened rows journals are said).0

    recorded : (g : Gtid) (t : Transaction) → content w g ≡ Some t → IsRecorded journals g
    recorded g t there =
        let a = in_all journals g (contents_entry opened (all_entries journals) g t there) in
        record { number = a.0; journal = a.1; listed = a.2; recorded = in_whole a.1 g ∙ or_right (set.contains a.1.previous g) (is_entry a.1.entries g) a.3 }

    pub are_of : AreJournalsOf (in_order w) journals
    are_of = record {
      gtids = same_gtids w keys;
      faithful = (keys_sound_mean schema opened rows journals are said).1;
      recorded = λ g h. let t = some_there _ h in recorded g t.0 (sym (same_content w g) ∙ t.1);
    }

    none_found : found_in_keys w journals ≡ None
    none_found = none_of_sound (found_in_keys w journals) (keys_not w journals) said

    pub applies_is_sound : IsOk (apply_all schema (entries w.contents) rows) → verdict w journals ≡ Sound
    applies_is_sound applies = ap (λ o. unwrap_or o Sound) (none_next (found_in_keys w journals) (does_not_apply w) none_found (applies_none w ((alone_or_together w keys).1 applies)))

    pub sound_applies : verdict w journals ≡ Sound → IsOk (apply_all schema (entries w.contents) rows)
    sound_applies sound =
        let both = next_none (found_in_keys w journals) (does_not_apply w) (none_of_sound (or_next (found_in_keys w journals) (does_not_apply w)) (next_not (found_in_keys w journals) (does_not_apply w) (keys_not w journals) (applies_not w)) sound) in
        (alone_or_together w keys).0 (alone_here w both.1)

pub workers_decide : WorkersDecide
workers_decide site opened rows journals events are said serves ended =
    let w : World = world_of site.schema opened rows journals in
    let d = served_runs_decide (in_order w) site journals events refl (are_of site.schema opened rows journals are said) serves ended in
    (λ drained. applies_is_sound site.schema opened rows journals are said (d.0 drained), λ sound. d.1 (sound_applies site.schema opened rows journals are said sound))

pub served_holds_all : ServedHoldsAll
served_holds_all site opened rows journals events are said serves drained =
    let w : World = world_of site.schema opened rows journals in
    served_runs_hold_all (in_order w) site journals events refl (are_of site.schema opened rows journals are said) serves drained
