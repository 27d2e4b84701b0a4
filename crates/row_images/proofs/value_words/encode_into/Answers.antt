use Rattle.std.proofs.Common.{rules, ◌≡◌, ◌+◌, ◌*◌, ◌<◌, ◌++◌, ◌∷◌, [], List, ℕ, length, take, drop, ap, ◌∙◌, append_assoc, arith}
use Rattle.hex.specs.Hex.{encode_lower}
use Rattle.row_images.proofs.LowerDigits.{encoded_next, two_set, all_encoded}
use Rattle.row_images.proofs.value_words.encode_into.Goals as goal

pub loop-i-preserved : goal.loop-i-preserved
loop-i-preserved c =
    let i = c.loop-i.i in
    let room = c.loop-i.room in
    let h = c.lower_digit-high.result in
    let l = c.lower_digit-low.result in
    let rest = encode_lower (drop (i + 1) c.args.bytes.now) in
    let here : 2 * i + 1 < length room = omega (arith, c.loop-i-test.true, c.loop-i.invariant.1, c.requires) in (
      ap (λ (t : List ℕ). t ++ rest) (two_set room i h l here) ∙ append_assoc (take (2 * i) room) (h ∷ l ∷ []) rest
          ∙ ap (λ (t : List ℕ). take (2 * i) room ++ t) ((λ k. c.lower_digit-high.ensures k ∷ c.lower_digit-low.ensures k ∷ rest) ∙ encoded_next c.args.bytes.now i c.loop-i-test.true)
          ∙ c.loop-i.invariant.0,
      search rules,
    )

pub returns : goal.returns
returns c =
    let end : c.loop-i.i ≡ length c.args.bytes.now = omega (arith, c.loop-i-test.false, c.loop-i.auto.i-end) in
    all_encoded c.args.bytes.now c.loop-i.room c.loop-i.i end (c.loop-i.invariant.1 ∙ c.requires) c.loop-i.invariant.0
