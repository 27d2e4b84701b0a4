-- The fields of a TABLE_MAP's optional metadata.
use Rattle.std.specs.Prelude.{ℕ, zero, suc, ◌==◌, List, [], ◌∷◌, length, Option, Some, None, if◌then◌else◌}
use Rattle.binlog_rows.specs.Numbers.{and_then, split, packed}
use Rattle.binlog_rows.specs.declared.options.OptionalField.{OptionalField}

-- a field of the optional metadata, and what is behind it
pub record FieldBytes : Type 0 where
  pub kind : ℕ
  pub content : List ℕ
  pub behind : List ℕ

-- the field at the front: a byte of its kind, the length of its content, packed, and that
unfoldable pub field_by : ℕ → List ℕ → Option FieldBytes
field_by kind bytes =
    and_then (packed bytes) (λ len. and_then (split len.0 len.1) (λ p. Some (record { kind = kind; content = p.0; behind = p.1 })))

abbrev pub field_at : List ℕ → Option FieldBytes
field_at [] = None
field_at (kind ∷ bytes) = field_by kind bytes

-- the content of this field, if it is of the kind that is wanted, or else what comes later
abbrev pub content_or : ℕ → (List ℕ → Option (List ℕ)) → Option FieldBytes → Option (List ℕ)
content_or kind later None = None
content_or kind later (Some f) = if f.kind == kind then Some f.content else later f.behind

-- the content of the first field of this kind among up to so many
unfoldable pub content_from : ℕ → ℕ → List ℕ → Option (List ℕ)
content_from kind zero bytes = None
content_from kind (suc n) bytes = content_or kind (content_from kind n) (field_at bytes)

-- the same among all fields: a field takes a byte at least
abbrev pub content_of : ℕ → List ℕ → Option (List ℕ)
content_of kind bytes = content_from kind (length bytes) bytes

-- what the code gives
abbrev pub field_view : OptionalField → FieldBytes
field_view f = record { kind = f.kind; content = f.content.now; behind = f.behind.now }
