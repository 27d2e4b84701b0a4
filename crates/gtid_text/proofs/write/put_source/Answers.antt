use Rattle.std.proofs.Common.{◌≡◌, List, ℕ, length, ap, ◌∙◌, ◌++◌, arith}
use Rattle.std.specs.Prelude.{string_bytes}
use Rattle.std.specs.Int.{w128, to_be_bytes}
use Rattle.uuid.specs.Text.{hyphenated_text, lower}
use Rattle.uuid.proofs.TextLemmas.{by_index_length}
use Rattle.gtid_text.specs.Canonical.{source_text}
use Rattle.gtid_text.proofs.write.put_source.Goals as goal

pub put-requires : goal.put-requires
put-requires c =
    let long : length (hyphenated_text lower c.hyphenated.result) ≡ 36 = by_index_length 36 _ in
    omega (arith, c.requires, ap length c.encode_lower.ensures.text, long)

pub returns-clause-bytes : goal.returns-clause-bytes
unfolding source_text
returns-clause-bytes c =
    c.put.ensures.bytes
    ∙ ap (λ (t : List ℕ). string_bytes c.args.out.now ++ t)
    (c.encode_lower.ensures.text ∙ ap (hyphenated_text lower) (c.hyphenated.ensures ∙ c.from_u128.ensures ∙ ap (to_be_bytes w128) c.bits.ensures))

pub returns-clause-len : goal.returns-clause-len
returns-clause-len c =
    let long : length (hyphenated_text lower c.hyphenated.result) ≡ 36 = by_index_length 36 _ in
    omega (arith, c.put.ensures.len, ap length c.encode_lower.ensures.text, long)
