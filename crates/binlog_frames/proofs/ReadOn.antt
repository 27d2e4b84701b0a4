-- What a reader has read.
use Rattle.std.proofs.Common.{◌≡◌, ℕ, ◌%◌, ◌^◌, Bool, true, List, [], ◌∷◌, ◌++◌, length, Ok, Err, Some, sym, subst, ap, inl, ◌<◌}
use Rattle.std.specs.Prelude.{OnOk, IfErr, Result, Option}
use Rattle.binlog_frames.specs.declared.event.LoggedEvent.{LoggedEvent}
use Rattle.binlog_frames.specs.declared.fault.FrameFault.{FrameFault}
use Rattle.binlog_frames.specs.declared.stage.FileStage.TheVariants.{Later}
use Rattle.binlog_frames.specs.Spelling.{Framed, len_of, offset_after}
use Rattle.binlog_frames.specs.Reading.{is_checked}
use Rattle.binlog_frames.specs.Standing.{Standing, front_at, passed, with_more, before, Follows, IsFront}
use Rattle.binlog_frames.specs.Placed.{placed, placed_later, placed_at, StaysRead, ReadsOn, StaysWrong}
use Rattle.binlog_frames.proofs.Stepping.{fewer_left}
use Rattle.binlog_frames.proofs.Running.{Follows-more, Follows-then, front_err}

later_then : (checked : Bool) (offset : ℕ) (left : List ℕ) (es : List Framed) (t : Standing) (e : Framed) → Follows (record { stage = Later checked; offset = offset; left = left }) es t
    → placed_later checked offset (es ++ e ∷ []) ≡ placed_later checked offset es ++ placed_at t e ∷ []
unfolding placed_later
later_then checked offset left [] t e f = (λ i. placed_at (f i) e ∷ [])
later_then checked offset left (d ∷ ds) t e f =
    ap (λ ps. record { offset = offset; len = len_of checked d % 2 ^ 64; event = d } ∷ ps) (later_then checked (offset_after checked offset d) _ ds t e f.1)

first_then : (bytes : List ℕ) (es : List Framed) (t : Standing) (e : Framed) → Follows (before bytes) es t → placed (es ++ e ∷ []) ≡ placed es ++ placed_at t e ∷ []
unfolding placed placed_later
first_then bytes [] t e f = (λ i. placed_at (f i) e ∷ [])
first_then bytes (d ∷ ds) t e f =
    ap (λ ps. record { offset = 4; len = len_of true d % 2 ^ 64; event = d } ∷ ps) (later_then (is_checked d) (offset_after true 4 d) _ ds t e f.1)

stays_read : (s t : Standing) (piece : List ℕ) → t ≡ with_more s piece → StaysRead s t piece
stays_read s t piece same bytes es f = subst (λ (x : Standing). Follows (before (bytes ++ piece)) es x) (sym same) (Follows-more (before bytes) es s piece f)

pub reads_on : (s t : Standing) (e : Framed) → front_at s ≡ Ok (Some e) → t ≡ passed s e → ReadsOn s t e
reads_on s t e h same = record {
  reads = λ bytes es f. record {
    follows = subst (λ (x : Standing). Follows (before bytes) (es ++ e ∷ []) x) (sym same) (Follows-then (before bytes) es s e f h);
    place = first_then bytes es s e f;
  };
  fewer = subst (λ (x : Standing). length x.left < length s.left) (sym same) (fewer_left s.stage s.offset s.left e h);
}

stays_wrong : (s : Standing) (f : FrameFault) → front_at s ≡ Err f → StaysWrong s f
stays_wrong s f wrong bytes more es follows = record {
  last = with_more s more;
  follows = Follows-more (before bytes) es s more follows;
  wrong = inl (front_err s.stage s.offset s.left more f wrong);
}

pub fed_read : {U E : Type 0} (r : Result U E) (s t : Standing) (piece : List ℕ) → OnOk r (t ≡ with_more s piece) → OnOk r (StaysRead s t piece)
fed_read (Ok u) s t piece same = stays_read s t piece same
fed_read (Err e) s t piece same = tt

pub front_wrong : (r : Result (Option LoggedEvent) FrameFault) (s : Standing) → IsFront r (front_at s) → IfErr r (λ f. StaysWrong s f)
front_wrong (Ok x) s is = tt
front_wrong (Err f) s is = stays_wrong s f is
