-- The printed line of each verdict. The words and their order are our own.
use Rattle.std.specs.Prelude.{ℕ, List, ◌++◌, codes, decimal}
use Rattle.gtid_text.specs.declared.Gtid.{Gtid}
use Rattle.gtid_text.specs.Canonical.{gtid_text}
use Rattle.gtid_set.specs.Sets.{Gtids}
use Rattle.rows.specs.declared.change.Key.{Key}
use Rattle.txn_journal.specs.WrittenSets.{set_text}
use Rattle.world.specs.declared.verdict.Verdict.{Verdict}
use Rattle.world.specs.declared.verdict.Verdict.TheVariants.{Unequal, Purged, Missing, Shared, Reordered, NotClosed, Concurrent, DoesNotApply, Sound}
use Rattle.gtid_report.specs.State.{values_text}
use Rattle.gtid_report.specs.Verdicts.{does_not_apply_line}

-- a word and a GTID
abbrev pub gtid_line : List ℕ → Gtid → List ℕ
gtid_line word g = word ++ gtid_text g

-- a word and two GTIDs
abbrev pub pair_line : List ℕ → Gtid → Gtid → List ℕ
pair_line word g h = gtid_line word g ++ codes " " ++ gtid_text h

-- a table's name, the number of a key and the values of the key's columns, each after a blank
abbrev pub key_text : Key → List ℕ
key_text key = codes " " ++ key.table ++ codes " " ++ decimal key.index ++ values_text key.values

-- a word, two GTIDs and a key that both touch
abbrev pub key_line : List ℕ → Gtid → Gtid → Key → List ℕ
key_line word g h key = pair_line word g h ++ key_text key

-- a journal, counted from 0, and what its previous set lacks in the opening set
abbrev pub purged_line : ℕ → Gtids → List ℕ
purged_line journal gtids = codes "purged " ++ decimal journal ++ codes " " ++ set_text gtids

abbrev pub verdict_line : Verdict → List ℕ
verdict_line (Unequal g) = gtid_line (codes "unequal ") g
verdict_line (Purged i gtids) = purged_line i gtids
verdict_line (Missing g) = gtid_line (codes "missing ") g
verdict_line (Shared g h key) = key_line (codes "shared ") g h key
verdict_line (Reordered g h key) = key_line (codes "reordered ") g h key
verdict_line (NotClosed g h) = pair_line (codes "not-closed ") g h
verdict_line (Concurrent g h key) = key_line (codes "concurrent ") g h key
verdict_line (DoesNotApply g fault) = does_not_apply_line g fault
verdict_line Sound = codes "sound"
