-- The chain of a key while journals are read: those that touched it, in one order, and how far a journal has it.
use Rattle.std.specs.Prelude.{◌≡◌, ℕ, ◌+◌, ◌-◌, Bool, false, ◌&&◌, ◌==◌, nat_lt, length, List, [], ◌∷◌, ◌++◌, Option, Some, None, if◌then◌else◌, slice_get}
use Rattle.std.specs.Option.{option_map, option_map_or, unwrap_or}
use Rattle.std.specs.Map.{lookup}
use Rattle.std.specs.Ordering.{nat_cmp, eq_by_cmp}
use Rattle.std.specs.Cmp.Lexicographic.{slice_cmp}
use Rattle.gtid_text.specs.declared.Gtid.{Gtid}
use Rattle.gtid_text.specs.Gtids.{same_gtid}
use Rattle.rows.specs.declared.change.Key.{Key}
use Rattle.rows.specs.declared.schema.Table.{Table}
use Rattle.rows.specs.Order.{key_eq}
use Rattle.row_images.specs.Order.{row_eq}
use Rattle.rows.specs.WriteSet.{write_set}
use Rattle.world.specs.declared.verdict.Verdict.{Verdict}
use Rattle.world.specs.Search.{or_next}
use Rattle.history.specs.World.{Entry}
use Rattle.history.specs.Histories.{History}
use Rattle.world.specs.AuditInOrder.{bringer, pair_fault}
use Rattle.audit.specs.declared.chain.Turn.{Turn}
use Rattle.audit.specs.declared.chain.Turn.TheVariants.{Again, AtEnd, Next, Behind}
use Rattle.audit.specs.declared.turns.OutOfTurn.{OutOfTurn}

-- those that touched a key, and how many of them are in the journal that was read last
pub record KeyChain : Type 0 where
  pub members : List Gtid
  pub read : ℕ
  pub reader : ℕ

-- how many of them are in this journal
abbrev pub read_by : ℕ → KeyChain → ℕ
read_by r c = if c.reader == r then c.read else 0

-- the last of the first n is g
abbrev pub was_read : ℕ → List Gtid → Gtid → Bool
was_read n gs g = nat_lt 0 n && option_map_or (λ x. same_gtid x g) (slice_get gs (n - 1)) false

abbrev pub turn_at : Gtid → Option Gtid → Turn
turn_at g None = AtEnd
turn_at g (Some x) = if same_gtid x g then Next else Behind x

-- the place in the chain of g, which journal r has next at its key
abbrev pub turn_of : ℕ → Gtid → KeyChain → Turn
turn_of r g c = if was_read (read_by r c) c.members g then Again else turn_at g (slice_get c.members (read_by r c))

-- the chain after that
abbrev pub after_turn : ℕ → Gtid → KeyChain → Turn → KeyChain
after_turn r g c Again = c
after_turn r g c AtEnd = record { members = c.members ++ g ∷ []; read = length c.members + 1; reader = r }
after_turn r g c Next = record { members = c.members; read = read_by r c + 1; reader = r }
after_turn r g c (Behind x) = c

abbrev pub visit : ℕ → Gtid → KeyChain → KeyChain
visit r g c = after_turn r g c (turn_of r g c)

abbrev pub next_in : Turn → Option Gtid
next_in Again = None
next_in AtEnd = None
next_in Next = None
next_in (Behind x) = Some x

-- what has to come before g, if anything
abbrev pub expected : ℕ → Gtid → KeyChain → Option Gtid
expected r g c = next_in (turn_of r g c)

-- ---- all keys

-- nothing touched the key
abbrev pub no_chain : KeyChain
no_chain = record { members = []; read = 0; reader = 0 }

-- as keys of a table are compared
abbrev pub same_key : Key → Key → Bool
same_key a b = eq_by_cmp (slice_cmp nat_cmp) a.table b.table && (a.index == b.index && row_eq a.values b.values)

-- the chain of each key
abbrev pub chains_of : List (Key × KeyChain) → Key → KeyChain
chains_of es k = unwrap_or (lookup (same_key k) es) no_chain

-- the chain of this key was visited, and the others are as they were
abbrev pub IsVisitedAt : ℕ → Gtid → Key → List (Key × KeyChain) → List (Key × KeyChain) → Type 0
IsVisitedAt r g key old new = (k : Key) → lookup (same_key k) new ≡ (if same_key key k then Some (visit r g (chains_of old key)) else lookup (same_key k) old)

abbrev pub visit_key : ℕ → Gtid → Key → (Key → KeyChain) → Key → KeyChain
visit_key r g key chains k = if key_eq k key then visit r g (chains key) else chains k

abbrev pub visit_keys : ℕ → Gtid → List Key → (Key → KeyChain) → Key → KeyChain
visit_keys r g [] chains = chains
visit_keys r g (key ∷ keys) chains = visit_keys r g keys (visit_key r g key chains)

-- what is out of turn at a key
abbrev pub out_at : ℕ → Gtid → Key → (Key → KeyChain) → Option OutOfTurn
out_at r g key chains = option_map (λ x. record { next = x; entry = g; key = key }) (expected r g (chains key))

abbrev pub out_of_keys : ℕ → Gtid → List Key → (Key → KeyChain) → Option OutOfTurn
out_of_keys r g [] chains = None
out_of_keys r g (key ∷ keys) chains = or_next (out_at r g key chains) (out_of_keys r g keys (visit_key r g key chains))

-- ---- histories

abbrev pub visit_entries : List Table → ℕ → History → (Key → KeyChain) → Key → KeyChain
visit_entries schema r [] chains = chains
visit_entries schema r (e ∷ es) chains = visit_entries schema r es (visit_keys r e.0 (write_set schema e.1) chains)

-- the first that is out of turn in a history
abbrev pub out_of_entries : List Table → ℕ → History → (Key → KeyChain) → Option OutOfTurn
out_of_entries schema r [] chains = None
out_of_entries schema r (e ∷ es) chains =
    or_next (out_of_keys r e.0 (write_set schema e.1) chains) (out_of_entries schema r es (visit_keys r e.0 (write_set schema e.1) chains))

-- the verdict on it
abbrev pub name_verdict : List History → History → OutOfTurn → Option Verdict
name_verdict hs h o = option_map (λ a. pair_fault a h o.next o.entry o.key) (bringer hs o.next)

abbrev pub name_or : Option OutOfTurn → (OutOfTurn → Option Verdict) → Option Verdict → Option Verdict
name_or None name later = later
name_or (Some o) name later = name o

-- what is found in these histories, the first of which has number r
abbrev pub conflict_from : List Table → List History → ℕ → List History → (Key → KeyChain) → Option Verdict
conflict_from schema hs r [] chains = None
conflict_from schema hs r (h ∷ rest) chains =
    name_or (out_of_entries schema r h chains) (name_verdict hs h) (conflict_from schema hs (r + 1) rest (visit_entries schema r h chains))
