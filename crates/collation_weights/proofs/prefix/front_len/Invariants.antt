use Rattle.std.proofs.Common.{◌≡◌, ◌≤◌, ◌++◌, length, take, drop}
use Rattle.std.specs.Prelude.{chars, encode_utf8_all}
use Rattle.std.specs.Str.{IsUtf8}
use Rattle.std.specs.Str.Iter.{chars_rest}
use Rattle.collation_weights.proofs.prefix.front_len.Given as goal

-- what is taken so far, with what is still to be taken
abbrev pub invariant-loop-c : goal.invariant-loop-c
invariant-loop-c l =
    IsUtf8 (chars_rest l.c-iterator)
    × (drop l.len l.fn.text ≡ chars_rest l.c-iterator)
    × (l.len ≤ length l.fn.text)
    × (take l.len l.fn.text ++ encode_utf8_all (take l.left (chars (chars_rest l.c-iterator)))
    ≡ encode_utf8_all (take l.fn.count (chars l.fn.text)))
