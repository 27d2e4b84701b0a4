-- JSON: the text of a document, by its binary form. None: the bytes are in no form, or have a value whose type has no text here.
use Rattle.std.specs.Prelude.{ℕ, zero, suc, ◌+◌, ◌*◌, ◌%◌, ◌==◌, ◌||◌, ◌&&◌, nat_lt, Bool, List, [], ◌∷◌, length, drop, codes, Option, Some, None, if◌then◌else◌}
use Rattle.binlog_rows.specs.Numbers.{and_then, split, behind, number_of}
use Rattle.binlog_rows.specs.Texts.{then_text, within}
use Rattle.binlog_rows.specs.Scalars.{string_text, scalar_text}
use Rattle.binlog_rows.specs.declared.json.MembersBytes.{MembersBytes}

-- ---- how objects and arrays lie

-- 0 and 1 are objects, 2 and 3 arrays; 1 and 3 are large, with 4 bytes for each count, size and offset in place of 2
abbrev pub is_object : ℕ → Bool
is_object kind = nat_lt kind 2

abbrev pub offset_width : ℕ → ℕ
offset_width kind = if kind % 2 == 0 then 2 else 4

-- an object has an entry for each key, its offset and 2 bytes of its length; and there is an entry for each value, its type and its offset
abbrev pub key_width : ℕ → ℕ
key_width kind = if is_object kind then offset_width kind + 2 else 0

abbrev pub value_width : ℕ → ℕ
value_width kind = offset_width kind + 1

-- where the entries begin, behind the count and the size, where those of the values begin, and where they end
abbrev pub keys_place : ℕ → ℕ
keys_place kind = 2 * offset_width kind

abbrev pub values_place : ℕ → ℕ → ℕ
values_place kind count = keys_place kind + count * key_width kind

abbrev pub head_width : ℕ → ℕ → ℕ
head_width kind count = values_place kind count + count * value_width kind

-- an object or an array: its type, how many members it has, and its bytes, from its count on
pub record Members : Type 0 where
  pub kind : ℕ
  pub count : ℕ
  pub whole : List ℕ

-- the one of this type at the front: its count, its size, and as many bytes as its size says, which its entries fit into
unfoldable pub members_at : ℕ → List ℕ → Option Members
members_at kind bytes =
    and_then (number_of (offset_width kind) bytes) (λ n. and_then (number_of (offset_width kind) n.1) (λ size.
    and_then (split size.0 bytes) (λ p.
    if nat_lt (length p.0) (head_width kind n.0) then None else Some (record { kind = kind; count = n.0; whole = p.0 }))))

-- what lies at an offset, which counts from the start of the object or array; the entries are before all keys and values
unfoldable pub part_at : Members → ℕ → Option (List ℕ)
part_at m offset = if nat_lt offset (head_width m.kind m.count) then None else behind offset m.whole

-- a key by its entry
unfoldable pub key_at : Members → List ℕ → Option (List ℕ)
key_at m entry =
    and_then (number_of (offset_width m.kind) entry) (λ offset. and_then (number_of 2 offset.1) (λ len.
    and_then (part_at m offset.0) (λ part. and_then (split len.0 part) (λ p. Some p.0))))

-- literals and integers of 2 bytes, in the large form of 4 too, stand in their entry
abbrev pub is_short : ℕ → ℕ → Bool
is_short kind type = (type == 4) || ((type == 5) || ((type == 6) || ((kind % 2 == 1) && ((type == 7) || (type == 8)))))

-- a value by its entry: its type, and the bytes that it begins
unfoldable pub value_at : Members → List ℕ → Option (ℕ × List ℕ)
value_at m entry =
    and_then (number_of 1 entry) (λ type.
    if is_short m.kind type.0 then Some type
    else and_then (number_of (offset_width m.kind) type.1) (λ offset. and_then (part_at m offset.0) (λ part. Some (type.0, part))))

-- ---- their texts, where `value` is the text of a value of a type

-- a key is before the value of a member of an object
abbrev pub key_text : List ℕ → Option (List ℕ)
key_text key = then_text (Some (string_text key)) (Some (codes ": "))

abbrev pub name_text : Members → List ℕ → Option (List ℕ)
name_text m entry = if is_object m.kind then and_then (key_at m entry) key_text else Some []

abbrev pub entry_text : (ℕ → List ℕ → Option (List ℕ)) → Members → List ℕ → Option (List ℕ)
entry_text value m entry = and_then (value_at m entry) (λ v. value v.0 v.1)

-- a comma is between two members
abbrev pub comma : ℕ → List ℕ
comma n = if n == 0 then [] else codes ", "

-- a member by its entries, which so many follow
abbrev pub member_text : (ℕ → List ℕ → Option (List ℕ)) → Members → ℕ → List ℕ → List ℕ → Option (List ℕ)
member_text value m n k v = then_text (name_text m k) (then_text (entry_text value m v) (Some (comma n)))

-- the last so many members, in the order of their entries
unfoldable pub members_text : (ℕ → List ℕ → Option (List ℕ)) → Members → ℕ → List ℕ → List ℕ → Option (List ℕ)
members_text value m zero keys values = Some []
members_text value m (suc n) keys values =
    and_then (split (key_width m.kind) keys) (λ k. and_then (split (value_width m.kind) values) (λ v.
    then_text (member_text value m n k.0 v.0) (members_text value m n k.1 v.1)))

abbrev pub opening : ℕ → List ℕ
opening kind = if is_object kind then codes "{" else codes "["

abbrev pub closing : ℕ → List ℕ
closing kind = if is_object kind then codes "}" else codes "]"

abbrev pub all_members_text : (ℕ → List ℕ → Option (List ℕ)) → Members → Option (List ℕ)
all_members_text value m =
    members_text value m m.count (drop (keys_place m.kind) m.whole) (drop (values_place m.kind m.count) m.whole)

abbrev pub container_text : (ℕ → List ℕ → Option (List ℕ)) → Members → Option (List ℕ)
container_text value m = then_text (Some (opening m.kind)) (then_text (all_members_text value m) (Some (closing m.kind)))

-- ---- documents

-- the value of a type at the front of bytes, with objects and arrays up to so many levels deep
unfoldable pub value_text : ℕ → ℕ → List ℕ → Option (List ℕ)
value_text zero kind bytes = scalar_text kind bytes
value_text (suc n) kind bytes =
    if nat_lt kind 4 then and_then (members_at kind bytes) (λ m. container_text (value_text n) m) else scalar_text kind bytes

-- a document is a type and its value; a server has up to 100 levels, and takes no bytes at all as null. Where no bytes are in two values,
-- the text has at most 6 times the bytes, since a control character has 6 for 1: a document with a longer text has none.
unfoldable pub json_text : List ℕ → Option (List ℕ)
json_text [] = Some (codes "null")
json_text (kind ∷ bytes) = within (6 * length (kind ∷ bytes)) (value_text 100 kind bytes)

-- ---- what the code gives

abbrev pub members_view : MembersBytes → Members
members_view m = record { kind = m.kind; count = m.count; whole = m.whole.now }
