-- What a checksum shows of an event.
use Rattle.std.proofs.Common.{◌≡◌, ◌≢◌, ℕ, ◌+◌, true, List, [], ◌∷◌, ◌++◌, sym, ap, subst, ◌∙◌}
use Rattle.crc32.specs.Laws.{AreBytes, IsBurst, SealedBurstsShow, sealed}
use Rattle.binlog_frames.specs.Spelling.{Framed, len_of, covered, IsLater, event_text}

parts : (xs ys : List ℕ) → AreBytes (xs ++ ys) → AreBytes xs
parts [] ys h = tt
parts (x ∷ xs) ys h = (h.0, parts xs ys h.1)

abbrev front : ℕ → Framed → List ℕ
front offset e = covered (len_of true e) (offset + len_of true e) e

pub law_damage_shows : SealedBurstsShow → (offset : ℕ) (e f : Framed) (bytes : List ℕ) → IsLater true e → IsLater true f → AreBytes (event_text true offset e) → AreBytes bytes
    → IsBurst (event_text true offset e) bytes → bytes ≢ event_text true offset e → bytes ≢ event_text true offset f
law_damage_shows shown offset e f bytes he hf a b burst apart same =
    let g : AreBytes (event_text true offset f) = subst AreBytes same b in
    let other : IsBurst (sealed (front offset e)) (sealed (front offset f)) = subst (IsBurst (sealed (front offset e))) same burst in
    let one : front offset e ≡ front offset f = shown (front offset e) (front offset f) (parts (front offset e) _ a) (parts (front offset f) _ g) other in
    apart (same ∙ ap sealed (sym one))
