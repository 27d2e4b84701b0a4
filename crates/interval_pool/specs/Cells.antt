-- Cells linked by index into chains.
use Rattle.std.specs.Prelude.{ℕ, max, Bool, List, Option, Some, None, slice_set, slice_index_or, false}
use Rattle.interval_pool.specs.declared.cells.Cell.{Cell}
use Rattle.interval_pool.specs.declared.cells.Head.{Head}

-- what is beyond the last cell, and the last chain
abbrev pub no_cell : Cell
no_cell = record { lo = 0; hi = 0; next = None; owner = 0 }

abbrev pub no_head : Head
no_head = record { first = None; len = 0; is_list = false }

abbrev pub cell_at : List Cell → ℕ → Cell
cell_at cells i = slice_index_or cells i no_cell

abbrev pub head_at : List Head → ℕ → Head
head_at heads k = slice_index_or heads k no_head

-- the cell after one of a chain, or the first
abbrev pub after : List Cell → List Head → ℕ → Option ℕ → Option ℕ
after cells heads k None = (head_at heads k).first
after cells heads k (Some i) = (cell_at cells i).next

-- a cell goes on with another
abbrev pub with_next : List Cell → Option ℕ → Option ℕ → List Cell
with_next cells None next = cells
with_next cells (Some i) next = slice_set cells i (record (cell_at cells i) { next = next })

-- where a chain begins, if this comes after one of its cells, or else at its start
abbrev pub first_with : Option ℕ → Option ℕ → Option ℕ → Option ℕ
first_with None next first = next
first_with (Some i) next first = first

-- the chain has this after one of its cells, or else at its start, and has `n` cells
abbrev pub with_head : List Head → ℕ → Option ℕ → Option ℕ → ℕ → List Head
with_head heads k before next n =
    slice_set heads k (record (head_at heads k) { first = first_with before next (head_at heads k).first; len = n })

-- the cell has this owner, and goes on with this one
abbrev pub with_owner : List Cell → ℕ → ℕ → Option ℕ → List Cell
with_owner cells i k next = slice_set cells i (record (cell_at cells i) { next = next; owner = k })

-- the cell has these numbers
abbrev pub with_numbers : List Cell → ℕ → ℕ → ℕ → List Cell
with_numbers cells i lo hi = slice_set cells i (record (cell_at cells i) { lo = lo; hi = hi })

-- the cell ends with this number, if that is more
abbrev pub with_end : List Cell → Option ℕ → ℕ → List Cell
with_end cells None hi = cells
with_end cells (Some i) hi = slice_set cells i (record (cell_at cells i) { hi = max (cell_at cells i).hi hi })

-- the chain is a list, or is none
abbrev pub with_list : List Head → ℕ → Bool → List Head
with_list heads k b = slice_set heads k (record (head_at heads k) { is_list = b })
