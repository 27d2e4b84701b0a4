-- When replicas are the same.
use Rattle.std.proofs.Common.{◌≡◌, ℕ, suc, List, [], ◌∷◌, refl, sym, ap, ◌∙◌, arith, get_or, map, drop, length}
use Rattle.std.specs.Prelude.{Option, None}
use Rattle.std.specs.List.{AllByRecursion}
use Rattle.std.specs.FinMap as finmap
use Rattle.std.proofs.lemmas.List.Elements.{recursion_from_All}
use Rattle.rows.specs.declared.schema.Table.{Table}
use Rattle.rows.specs.Database.{Database}
use Rattle.journal.specs.Journals.{JournalValue, whole}
use Rattle.apply_channel.specs.Channels.{Keyed, ChannelValue}
use Rattle.replica_core.specs.declared.event.Spot.{Spot}
use Rattle.replica_core.specs.Slots.{seats_of}
use Rattle.replica_core.specs.State.{Replica}
use Rattle.replica_core.specs.Kept.{ChannelsValue, AreOf}
use Rattle.replica_core.proofs.KeyedLemmas.{channel_of, IsOf}
use Rattle.ownership.proofs.SlotLemmas.{get-of_slots, pred-suc}

same_slots : (xs ys : List (Option Spot)) → length xs ≡ length ys → ((i : ℕ) → get_or xs i None ≡ get_or ys i None) → xs ≡ ys
same_slots [] [] long at = refl
same_slots [] (y ∷ ys) long at = absurd (omega (long, arith))
same_slots (x ∷ xs) [] long at = absurd (omega (long, arith))
same_slots (x ∷ xs) (y ∷ ys) long at = λ i. at 0 i ∷ same_slots xs ys (omega (long, arith)) (λ n. at (suc n)) i

-- as many slots that denote one map are the same
pub seats_same : (xs ys : List (Option Spot)) → length xs ≡ length ys → seats_of xs ≡ seats_of ys → xs ≡ ys
seats_same xs ys long same = same_slots xs ys long at
  where
    at : (i : ℕ) → get_or xs i None ≡ get_or ys i None
    at i =
        ap (λ m. get_or xs m None) (sym (pred-suc i))
        ∙ sym (get-of_slots xs (suc i) (omega arith))
        ∙ ap (λ seats. finmap.get seats (suc i)) same
        ∙ get-of_slots ys (suc i) (omega arith)
        ∙ ap (λ m. get_or ys m None) (pred-suc i)

same_by : (schema : List Table) (xs ys : List Keyed) → AllByRecursion (IsOf schema) xs → AllByRecursion (IsOf schema) ys → map channel_of xs ≡ map channel_of ys → xs ≡ ys
same_by schema [] [] p q same = refl
same_by schema [] (y ∷ ys) p q same = absurd (cc same)
same_by schema (x ∷ xs) [] p q same = absurd (cc same)
same_by schema (x ∷ xs) (y ∷ ys) p q same =
    let head : x.channel ≡ y.channel = ap (λ (cs : List ChannelValue). get_or cs 0 x.channel) same in
    let tables : x.schema ≡ y.schema = p.0 ∙ sym q.0 in
    let first : x ≡ y = λ i. record { schema = tables i; channel = head i } in
    λ i. first i ∷ same_by schema xs ys p.1 q.1 (ap (drop 1) same) i

-- channels of one schema are equal where they are equal without it
pub of_same : (schema : List Table) (xs ys : List Keyed) → AreOf schema xs → AreOf schema ys → map channel_of xs ≡ map channel_of ys → xs ≡ ys
of_same schema xs ys p q same = same_by schema xs ys (recursion_from_All (IsOf schema) xs p) (recursion_from_All (IsOf schema) ys q) same

pub channels_same : (s t : List Table) (xs ys : List Keyed) → s ≡ t → xs ≡ ys → ◌≡◌ {A = ChannelsValue} (record { schema = s; list = map channel_of xs }) (record { schema = t; list = map channel_of ys })
channels_same s t xs ys schema list = λ i. record { schema = schema i; list = map channel_of (list i) }

-- how a replica is seen
abbrev pub seen : ℕ → Database → List (Option Spot) → ChannelsValue → JournalValue → Replica
seen own rows slots channels journal = record {
  site = record { own = own; schema = rows.schema };
  state = record { executed = whole journal; rows = rows.rows; seats = seats_of slots; channels = channels.list; journal = journal };
}

-- what is seen of the same parts is the same
pub seen_same : (o p : ℕ) (r s : Database) (xs ys : List (Option Spot)) (c d : ChannelsValue) (j k : JournalValue) → o ≡ p → r ≡ s → xs ≡ ys → c ≡ d → j ≡ k → seen o r xs c j ≡ seen p s ys d k
seen_same o p r s xs ys c d j k own rows slots channels journal = λ i. seen (own i) (rows i) (slots i) (channels i) (journal i)
