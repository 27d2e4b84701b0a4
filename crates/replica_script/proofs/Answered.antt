-- One line more is answered.
use Rattle.std.proofs.Common.{◌≡◌, ℕ, ◌+◌, List, [], ◌∷◌, ◌++◌, Option, Some, None, IfSome, Result, Err, Bool, true, refl, sym, ap, ◌∙◌, subst, append-nil, append_assoc, length-append, inr}
use Rattle.std.specs.Io.KnownBytes.{Appends}
use Rattle.std.proofs.KnownBytes.{Appends-trans}
use Rattle.replica_script.specs.declared.answer.Stop.{Stop}
use Rattle.replica_script.specs.declared.edge.ScriptFault.{ScriptFault}
use Rattle.replica_script.specs.Answering.{first_line, behind_line, HasLine, AreFirstLines, AreAnswered, HasAnswered, IsWritten, IsNext, IsFaultAt, Ends}

lines_more : (lines : List (List ℕ)) (text behind line : List ℕ) → AreFirstLines lines text behind → HasLine behind line → AreFirstLines (lines ++ line ∷ []) text (behind_line behind)
lines_more [] text behind line p h = subst (λ (t : List ℕ). HasLine t line × (behind_line behind ≡ behind_line t)) p (h, refl)
lines_more (x ∷ xs) text behind line p h = (p.0, lines_more xs (behind_line text) behind line p.1 h)

module _ {S : Type 0} (answers : S → List ℕ → List ℕ → S → Type 0) where
  answered_more : (lines : List (List ℕ)) (start : S) (text : List ℕ) (state : S) (line more : List ℕ) (after : S) → AreAnswered answers start lines text state → answers state line more after → AreAnswered answers start (lines ++ line ∷ []) (text ++ more) after
  answered_more [] start text state line more after p h =
      (more, [], after, subst (λ (s : S). answers s line more after) p.1 h, (refl, refl), ap (λ (t : List ℕ). t ++ more) p.0 ∙ sym (append-nil more))
  answered_more (x ∷ xs) start text state line more after p h =
      let rest = answered_more xs p.2 p.1 state line more after p.4 h in
      (p.0, p.1 ++ more, p.2, p.3, rest, ap (λ (t : List ℕ). t ++ more) p.5 ∙ append_assoc p.0 p.1 more)

  -- the first line of what is left is answered, and the answer is written
  pub told_more : (start : S) (input : List ℕ) (number : ℕ) (state after : S) (behind : List ℕ) (old so_far new : Option (List ℕ))
      → HasAnswered answers start input number state behind old so_far → HasLine behind (first_line behind) → IsWritten answers state (first_line behind) after so_far new
      → HasAnswered answers start input (number + 1) after (behind_line behind) old new
  told_more start input number state after behind old so_far new p h w = record {
    lines = p.lines ++ first_line behind ∷ [];
    text = p.text ++ w.0;
    first = lines_more p.lines input behind (first_line behind) p.first h;
    count = ap (λ (n : ℕ). n + 1) p.count ∙ sym (length-append p.lines (first_line behind ∷ []));
    answered = answered_more p.lines start p.text state (first_line behind) w.0 after p.answered w.1;
    written = Appends-trans old so_far new p.text w.0 p.written w.2;
  }

  -- nothing is answered yet
  pub told_none : (start : S) (input : List ℕ) (old : Option (List ℕ)) → Appends old old [] → HasAnswered answers start input 0 start input old old
  told_none start input old kept = record {
    lines = [];
    text = [];
    first = refl;
    count = refl;
    answered = (refl, refl);
    written = kept;
  }

  -- where the input is known: these of its lines were answered, and the others are left
  abbrev pub HasTold : S → Option (List ℕ) → ℕ → S → Option (List ℕ) → Option (List ℕ) → Option (List ℕ) → Type 0
  HasTold start input number state left old new = IfSome input (λ all. (behind : List ℕ) × (left ≡ Some behind) × HasAnswered answers start all number state behind old new)

  next_told : (start : S) (all : List ℕ) (number : ℕ) (state after : S) (behind : List ℕ) (left old so_far new : Option (List ℕ))
      → HasAnswered answers start all number state behind old so_far → IsNext answers state behind after left so_far new true
      → (rest : List ℕ) × (left ≡ Some rest) × HasAnswered answers start all (number + 1) after rest old new
  next_told start all number state after behind left old so_far new p h = (behind_line behind, h.1, told_more start all number state after behind old so_far new p h.0 h.2)

  pub told_next : (start : S) (input : Option (List ℕ)) (number : ℕ) (state after : S) (before left old so_far new : Option (List ℕ)) (is_line : Bool)
      → HasTold start input number state before old so_far → is_line ≡ true → IfSome before (λ text. IsNext answers state text after left so_far new is_line)
      → HasTold start input (number + 1) after left old new
  told_next start None number state after before left old so_far new is_line p line h = tt
  told_next start (Some all) number state after before left old so_far new is_line p line h =
      let there = subst (λ (o : Option (List ℕ)). IfSome o (λ text. IsNext answers state text after left so_far new is_line)) p.1 h in
      next_told start all number state after p.0 left old so_far new p.2 (subst (λ (b : Bool). IsNext answers state p.0 after left so_far new b) line there)

  pub fault_told : (stops : S → List ℕ → Stop → Type 0) (ends : S → Result (Unit {0}) Stop) (start : S) (input : Option (List ℕ)) (number : ℕ) (state : S) (before old so_far new : Option (List ℕ)) (fault : ScriptFault)
      → HasTold start input number state before old so_far → IfSome before (λ text. IsFaultAt answers stops state (number + 1) text so_far new fault)
      → IfSome input (λ all. Ends answers stops ends start all old new (Err fault))
  fault_told stops ends start None number state before old so_far new fault p h = tt
  fault_told stops ends start (Some all) number state before old so_far new fault p h = record {
    number = number;
    state = state;
    behind = p.0;
    so_far = so_far;
    told = p.2;
    end = inr (subst (λ (o : Option (List ℕ)). IfSome o (λ text. IsFaultAt answers stops state (number + 1) text so_far new fault)) p.1 h);
  }
