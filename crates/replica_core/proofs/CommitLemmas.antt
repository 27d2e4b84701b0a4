-- What a commit leaves, field by field.
use Rattle.std.proofs.Common.{◌≡◌, ℕ, List, sym, ap, subst, ◌∙◌, map}
use Rattle.std.specs.Prelude.{Option, Ok}
use Rattle.std.specs.FinSet as set
use Rattle.rows.specs.declared.schema.Table.{Table}
use Rattle.rows.specs.declared.change.Transaction.{Transaction}
use Rattle.rows.specs.Apply.{apply}
use Rattle.rows.specs.Database.{Database}
use Rattle.gtid_set.specs.Sets.{Gtids}
use Rattle.journal.specs.declared.Entry.{Entry}
use Rattle.journal.specs.Journals.{JournalValue, whole}
use Rattle.relay.specs.Own.{with_last}
use Rattle.relay.proofs.OwnLemmas.{whole-with_last}
use Rattle.apply_channel.specs.Channels.{ChannelValue, settle_channel}
use Rattle.replica_core.specs.State.{Seats}
use Rattle.replica_core.specs.Kept.{ChannelsValue, AreKept}
use Rattle.replica_core.specs.Seated.{AreSeated, IsUnowned, freed_of}
use Rattle.replica_core.proofs.SeatLemmas.{seated_settled, seated_freed}
use Rattle.replica_core.specs.Keyed.{with_channels}
use Rattle.replica_core.specs.Core.{IsCore}
use Rattle.replica_core.specs.Committing.{Executes}
use Rattle.replica_core.proofs.KeptLemmas.{kept_settled}
use Rattle.replica_core.proofs.CoreLemmas.{replica_of}

-- what a replica keeps, once an entry is executed
pub core_executed : (e : Entry) (rows new_rows : Database) (channels new_channels : ChannelsValue) (seats new_seats : Seats) (freed : Option ℕ) (journal new_journal : JournalValue) → IsCore rows.schema channels (whole journal) seats → IsUnowned channels.list (freed_of freed seats) e.gtid → new_seats ≡ freed_of freed seats → new_rows.schema ≡ rows.schema → new_channels ≡ with_channels (map (settle_channel e.gtid) channels.list) channels → new_journal ≡ with_last e journal → IsCore new_rows.schema new_channels (whole new_journal) new_seats
core_executed e rows new_rows channels new_channels seats new_seats freed journal new_journal core alone lets same settles more =
    let executed : whole new_journal ≡ set.insert (whole journal) e.gtid = ap whole more ∙ whole-with_last e journal in
    let kept = kept_settled rows.schema (whole journal) e.gtid channels.list core.kept in
    record {
      same = ap (λ (v : ChannelsValue). v.schema) settles ∙ core.same ∙ sym same;
      kept = subst (λ (schema : List Table). AreKept schema (whole new_journal) new_channels.list) (sym same)
          (subst (λ (s : Gtids). AreKept rows.schema s new_channels.list) (sym executed)
          (subst (λ (cs : List ChannelValue). AreKept rows.schema (set.insert (whole journal) e.gtid) cs) (sym (ap (λ (v : ChannelsValue). v.list) settles)) kept));
      seated = subst (λ (cs : List ChannelValue). AreSeated cs new_seats) (sym (ap (λ (v : ChannelsValue). v.list) settles))
          (subst (λ (s : Seats). AreSeated (map (settle_channel e.gtid) channels.list) s) (sym lets)
          (seated_settled e.gtid channels.list (freed_of freed seats) alone (seated_freed channels.list seats freed core.seated)));
    }

-- an entry was executed
pub executed_is : (e : Entry) (own : ℕ) (rows new_rows : Database) (seats new_seats : Seats) (freed : Option ℕ) (channels new_channels : ChannelsValue) (journal new_journal : JournalValue) (t : Transaction) → t ≡ e.txn → apply rows.schema t rows.rows ≡ Ok new_rows.rows → new_rows.schema ≡ rows.schema → new_channels ≡ with_channels (map (settle_channel e.gtid) channels.list) channels → new_journal ≡ with_last e journal → new_seats ≡ freed_of freed seats → Executes (replica_of own rows seats channels.list journal) freed e (replica_of own new_rows new_seats new_channels.list new_journal)
executed_is e own rows new_rows seats new_seats freed channels new_channels journal new_journal t txn applied same settles more lets = record {
  applied = ap (λ (u : Transaction). apply rows.schema u rows.rows) (sym txn) ∙ applied;
  state = λ i. record {
    executed = executed i;
    rows = new_rows.rows;
    seats = lets i;
    channels = (settles i).list;
    journal = more i;
  };
  site = λ i. record { own = own; schema = same i };
}
  where
    executed : whole new_journal ≡ set.insert (whole journal) e.gtid
    executed = ap whole more ∙ whole-with_last e journal
