-- What is written in pieces.
use Rattle.std.proofs.Common.{◌≡◌, ◌++◌, ◌+◌, ◌<◌, ◌≤◌, List, ℕ, drop, flat_map, get_or, length, min, take, ap, sym, subst, ◌∙◌, append_assoc, arith}
use Rattle.std.proofs.lemmas.List.{at_drop_more, take-append-le, take_min}
use Rattle.std.proofs.Math.Seq.{take-append-add}
use Rattle.std.specs.Prelude.{Option, Result, Ok, Err, OnErr}
use Rattle.std.specs.Io.KnownBytes.{Appends}
use Rattle.std.proofs.KnownBytes.{Appends-trans}
use Rattle.commands.specs.Edge.{Begins}

-- a prefix of a text is one of the text and more
pub begins_before : (old new : Option (List ℕ)) (text rest : List ℕ) → Begins old new text → Begins old new (text ++ rest)
begins_before old new text rest begun =
    let few : min begun.0 (length text) ≤ length text = omega arith in
    (min begun.0 (length text), subst (Appends old new) (sym (take-append-le (min begun.0 (length text)) text rest few ∙ take_min begun.0 text)) begun.1)

-- a prefix of a text behind what was written
pub begins_behind : (old mid new : Option (List ℕ)) (front text : List ℕ) → Appends old mid front → Begins mid new text → Begins old new (front ++ text)
begins_behind old mid new front text sent begun =
    (length front + begun.0, subst (Appends old new) (sym (take-append-add front text begun.0)) (Appends-trans old mid new front (take begun.0 text) sent begun.1))

-- the same where it failed
pub failed_behind : {V E : Type 0} (result : Result V E) (old mid new : Option (List ℕ)) (front text : List ℕ) → Appends old mid front → OnErr result (Begins mid new text) → OnErr result (Begins old new (front ++ text))
failed_behind (Ok value) old mid new front text sent begun = tt
failed_behind (Err fault) old mid new front text sent begun = begins_behind old mid new front text sent begun

-- the piece at a place stands behind those before it, and before those after it
pub piece_behind : {X : Type 0} (bytes : X → List ℕ) (pieces : List X) (at : ℕ) (piece : X) (front text whole : List ℕ) → at < length pieces → piece ≡ get_or pieces at piece → text ≡ bytes piece → front ++ flat_map bytes (drop at pieces) ≡ whole
    → (front ++ text) ++ flat_map bytes (drop (at + 1) pieces) ≡ whole
piece_behind {X} bytes pieces at piece front text whole within is same parts =
    let rest = flat_map bytes (drop (at + 1) pieces) in
    append_assoc front text rest
    ∙ ap (λ (t : List ℕ). front ++ (t ++ rest)) (same ∙ ap bytes is)
    ∙ sym (at_drop_more (λ (ps : List X). front ++ flat_map bytes ps) pieces at piece within)
    ∙ parts
