-- A file that is listed while it is read.
use Rattle.std.proofs.Common.{◌≡◌, ℕ, ◌+◌, ◌<◌, ◌≤◌, List, [], ◌++◌, length, take, refl, sym, ap, subst, ◌∙◌, append-nil, inl, inr, arith, length-append, take_all}
use Rattle.std.specs.Prelude.{Option, Some, None, Result, Ok, Err, OnOk, IfErr}
use Rattle.std.specs.Io.KnownBytes.{Appends, Consumes, IsAtEnd, Keeps}
use Rattle.std.proofs.KnownBytes.{Appends-nil, Appends-trans, Consumes-nil, Consumes-trans, Consumes-kept}
use Rattle.std.proofs.lemmas.List.{length-take}
use Rattle.binlog_frames.specs.declared.fault.FrameFault.{FrameFault}
use Rattle.binlog_events.specs.Listing.{Lists, HasCome, BeginsListing, BeginsAsListed, ListsOn, refused_line}
use Rattle.binlog_events.specs.declared.lister.EventLister.{EventLister}
use Rattle.binlog_events.specs.declared.row_lines.EventDetail.{EventDetail}
use Rattle.commands.specs.Edge.{Output, StreamsValue, Begins, one_more}
use Rattle.commands.specs.Printed.{Printed, IsDone, to_all}
use Rattle.commands.specs.States.{HasWritten, HasBroken}
use Rattle.commands.specs.Events.{listed, IsEventsAnswer, ListsAll, BreaksOff, HasEndedEarly, ListsPiece, BreaksPiece}
use Rattle.commands.specs.declared.edge.Outcome.TheVariants.{Done, Refused}
use Rattle.commands.specs.declared.edge.RunFault.{RunFault}
use Rattle.commands.specs.declared.edge.RunFault.TheVariants.{Memory, Read, Write}
use Rattle.commands.proofs.InPieces.{begins_behind}

take_whole : (xs : List ℕ) → take (length xs) xs ≡ xs
take_whole xs = take_all (length xs) xs (omega arith)

-- ---- one piece

-- the room for lines is empty before
come_on : (l m : EventLister) (piece room new : List ℕ) → room ≡ [] → ListsOn l m piece room new
    → (d : EventDetail) (bytes text : List ℕ) → HasCome d l bytes text → HasCome d m (bytes ++ piece) (text ++ new)
come_on l m piece room new empty lists d bytes text come =
    lists d bytes text (subst (HasCome d l bytes) (sym (append-nil text) ∙ ap (λ r. text ++ r) (sym empty)) come)

pub piece_listed : {W : Type 0} (l m : EventLister) (piece room new : List ℕ) (before after : Output W) → room ≡ [] → ListsOn l m piece room new → BeginsAsListed m → HasWritten before after new → ListsPiece l m piece before after
piece_listed l m piece room new before after empty lists begins wrote d bytes text come =
    let now = come_on l m piece room new empty lists d bytes text come in
    record { added = new; wrote = wrote; come = now; begins = begins d (bytes ++ piece) (text ++ new) now }

pub piece_broken : {W : Type 0} (l m : EventLister) (piece room new : List ℕ) (before after : Output W) (fault : RunFault) → room ≡ [] → ListsOn l m piece room new → BeginsAsListed m → HasBroken before after new fault → fault ≡ Write
    → BreaksPiece l piece before after fault
piece_broken l m piece room new before after Memory empty lists begins broken is = absurd cc
piece_broken l m piece room new before after Read empty lists begins broken is = absurd cc
piece_broken l m piece room new before after Write empty lists begins broken is = λ d bytes text come.
    record { added = new; wrote = broken; begins = begins d (bytes ++ piece) (text ++ new) (come_on l m piece room new empty lists d bytes text come) }

module _ {U W : Type 0} (l m : EventLister) (piece room new shown : List ℕ) (before after : Output W) (empty : room ≡ []) (same : shown ≡ new) (lists : ListsOn l m piece room new) (begins : BeginsAsListed m) where
  pub listed_if : (r : Result U RunFault) → OnOk r (HasWritten before after shown) → OnOk r (ListsPiece l m piece before after)
  listed_if (Ok u) wrote = piece_listed l m piece room new before after empty lists begins (subst (HasWritten before after) same wrote)
  listed_if (Err f) wrote = tt

  pub broken_if : (r : Result U RunFault) → IfErr r (HasBroken before after shown) → IfErr r (λ f. f ≡ Write) → IfErr r (BreaksPiece l piece before after)
  broken_if (Ok u) broken is = tt
  broken_if (Err f) broken is = piece_broken l m piece room new before after f empty lists begins (subst (λ x. HasBroken before after x f) same broken) is

-- ---- piece by piece

-- so much was read in so many turns, and the lines of that were written
pub record Sofar {S W : Type 0} (d : EventDetail) (old new : StreamsValue S W) (l : EventLister) (turn : ℕ) : Type 0 where
  pub bytes : List ℕ
  pub text : List ℕ
  pub taken : Consumes old.input.left new.input.left bytes
  pub many : turn ≤ length bytes
  pub calm : new.input.failed ≡ old.input.failed
  pub wrote : HasWritten old.output new.output text
  pub come : HasCome d l bytes text
  pub begins : BeginsListing d bytes text

pub nothing_yet : {S W : Type 0} (d : EventDetail) (s : StreamsValue S W) (l : EventLister) → HasCome d l [] [] → BeginsAsListed l → Sofar d s s l 0
nothing_yet d s l come begins = record {
  bytes = [];
  text = [];
  taken = Consumes-nil s.input.left;
  many = omega arith;
  calm = refl;
  wrote = record { wrote = Appends-nil s.output.written; calm = refl };
  come = come;
  begins = begins d [] [] come;
}

module _ {S W : Type 0} (d : EventDetail) (old mid read : StreamsValue S W) (l : EventLister) (turn : ℕ) (h : Sofar d old mid l turn) (same : read.output ≡ mid.output) where
  -- a piece was read, and its lines were written
  pub piece_more : (new : StreamsValue S W) (m : EventLister) (n : ℕ) (buffer piece : List ℕ)
      → Consumes mid.input.left read.input.left (take n buffer) → read.input.failed ≡ mid.input.failed → n ≤ length buffer → 0 < n → piece ≡ take n buffer
      → new.input ≡ read.input → ListsPiece l m piece read.output new.output → Sofar d old new m (turn + 1)
  piece_more new m n buffer piece taken calm within some is input lists =
      let k = lists d h.bytes h.text h.come in
      let got : Consumes mid.input.left new.input.left piece = subst (Consumes mid.input.left new.input.left) (sym is) (subst (λ i. Consumes mid.input.left i.left (take n buffer)) (sym input) taken) in
      let many : turn ≤ length h.bytes = h.many in
      let len : length piece ≡ n = ap length is ∙ length-take n buffer ∙ omega arith in
      let wrote : HasWritten mid.output new.output k.added = subst (λ o. HasWritten o new.output k.added) same k.wrote in
      record {
        bytes = h.bytes ++ piece;
        text = h.text ++ k.added;
        taken = Consumes-trans _ _ _ h.bytes piece h.taken got;
        many = omega (arith, length-append h.bytes piece);
        calm = ap (λ i. i.failed) input ∙ calm ∙ h.calm;
        wrote = record { wrote = Appends-trans _ _ _ h.text k.added h.wrote.wrote wrote.wrote; calm = wrote.calm ∙ h.wrote.calm };
        come = k.come;
        begins = k.begins;
      }

  -- a piece was read, and its lines were not all written
  pub piece_stopped : (new : StreamsValue S W) (buffer piece : List ℕ) (n : ℕ) (fault : RunFault)
      → Consumes mid.input.left read.input.left (take n buffer) → piece ≡ take n buffer → new.input ≡ read.input → BreaksPiece l piece read.output new.output fault → BreaksOff d old new fault
  piece_stopped new buffer piece n Memory taken is input broken =
      let got : Consumes mid.input.left new.input.left piece = subst (Consumes mid.input.left new.input.left) (sym is) (subst (λ i. Consumes mid.input.left i.left (take n buffer)) (sym input) taken) in
      let out : new.output ≡ mid.output = broken ∙ same in
      record {
        bytes = h.bytes ++ piece;
        front = h.bytes;
        rest = piece;
        text = h.text;
        read = Consumes-trans _ _ _ h.bytes piece h.taken got;
        cut = refl;
        listed = h.begins;
        wrote = (length h.text, subst (λ o. Appends old.output.written o.written (take (length h.text) h.text)) (sym out) (subst (Appends old.output.written mid.output.written) (sym (take_whole h.text)) h.wrote.wrote));
        why = ap (λ o. o.failed) out ∙ h.wrote.calm;
      }
  piece_stopped new buffer piece n Read taken is input broken = absurd broken
  piece_stopped new buffer piece n Write taken is input broken =
      let got : Consumes mid.input.left new.input.left piece = subst (Consumes mid.input.left new.input.left) (sym is) (subst (λ i. Consumes mid.input.left i.left (take n buffer)) (sym input) taken) in
      let k = broken d h.bytes h.text h.come in
      let begun : Begins mid.output.written new.output.written k.added = subst (λ o. Begins o.written new.output.written k.added) same k.wrote.0 in
      record {
        bytes = h.bytes ++ piece;
        front = h.bytes ++ piece;
        rest = [];
        text = h.text ++ k.added;
        read = Consumes-trans _ _ _ h.bytes piece h.taken got;
        cut = sym (append-nil (h.bytes ++ piece));
        listed = k.begins;
        wrote = begins_behind _ _ _ h.text k.added h.wrote.wrote begun;
        why = k.wrote.1 ∙ ap one_more (ap (λ o. o.failed) same ∙ h.wrote.calm);
      }

  -- a call of the reader failed
  pub read_failed : Keeps mid.input.left read.input.left → read.input.failed ≡ one_more mid.input.failed → BreaksOff d old read Read
  read_failed kept counted = record {
    bytes = h.bytes;
    front = h.bytes;
    rest = [];
    text = h.text;
    read = Consumes-kept _ _ _ h.bytes h.taken kept;
    cut = sym (append-nil h.bytes);
    listed = h.begins;
    wrote = (length h.text, subst (λ o. Appends old.output.written o.written (take (length h.text) h.text)) (sym same) (subst (Appends old.output.written mid.output.written) (sym (take_whole h.text)) h.wrote.wrote));
    why = (inl (counted ∙ ap one_more h.calm), ap (λ o. o.failed) same ∙ h.wrote.calm);
  }

  -- the reader is at its end
  pub all_listed : (n : ℕ) (buffer : List ℕ) (fault : Option FrameFault) → n ≡ 0 → Consumes mid.input.left read.input.left (take n buffer) → IsAtEnd read.input.left → Lists d h.bytes h.text fault → ListsAll d old read fault
  all_listed n buffer fault none taken end lists = record {
    bytes = h.bytes;
    text = h.text;
    read = (subst (Consumes old.input.left read.input.left) (append-nil h.bytes) (Consumes-trans _ _ _ h.bytes [] h.taken (subst (λ k. Consumes mid.input.left read.input.left (take k buffer)) none taken)), end);
    lists = lists;
    wrote = subst (λ o. HasWritten old.output o h.text) (sym same) h.wrote;
  }

-- the reader gave so much that the bound of reads was met
pub too_much : {S W : Type 0} (d : EventDetail) (old new : StreamsValue S W) (l : EventLister) (turn : ℕ) → Sofar d old new l turn → 1099511627776 ≤ turn → BreaksOff d old new Read
too_much d old new l turn h bound = record {
  bytes = h.bytes;
  front = h.bytes;
  rest = [];
  text = h.text;
  read = h.taken;
  cut = sym (append-nil h.bytes);
  listed = h.begins;
  wrote = (length h.text, subst (Appends old.output.written new.output.written) (sym (take_whole h.text)) h.wrote.wrote);
  why = (inr (h.bytes, h.taken, let many : turn ≤ length h.bytes = h.many in omega arith), h.wrote.calm);
}

-- ---- the whole

pub done_whole : {S W : Type 0} (d : EventDetail) (old new : StreamsValue S W) (found : Option FrameFault) → found ≡ None → ListsAll d old new found
    → IsDone (to_all (IsEventsAnswer d)) old new Done
done_whole d old new found is all = let h = subst (ListsAll d old new) is all in record {
  printed = listed h.text None;
  answer = (h.bytes, h.read, record { text = h.text; fault = None; lists = h.lists; printed_is = refl });
  wrote = h.wrote.wrote;
  ends = refl;
}

module _ {S W : Type 0} (d : EventDetail) (old mid new : StreamsValue S W) (fault : FrameFault) (found : Option FrameFault) (is : found ≡ Some fault) (all : ListsAll d old mid found) (input : new.input ≡ mid.input) where
  h : ListsAll d old mid (Some fault)
  h = subst (ListsAll d old mid) is all

  abbrev answered : Printed
  answered = listed h.text (Some fault)

  answers : IsEventsAnswer d h.bytes answered
  answers = record { text = h.text; fault = Some fault; lists = h.lists; printed_is = refl }

  pub done_refused : HasWritten mid.output new.output (refused_line fault) → IsDone (to_all (IsEventsAnswer d)) old new Refused
  done_refused wrote = record {
    printed = answered;
    answer = (h.bytes, (subst (λ i. Consumes old.input.left i.left h.bytes) (sym input) h.read.0, subst (λ i. IsAtEnd i.left) (sym input) h.read.1), answers);
    wrote = Appends-trans _ _ _ h.text (refused_line fault) h.wrote.wrote wrote.wrote;
    ends = refl;
  }

  pub refused_early : (f : RunFault) → HasBroken mid.output new.output (refused_line fault) f → HasEndedEarly d old new f
  refused_early Memory broken = inr (inr (record {
    printed = answered;
    answer = (h.bytes, (subst (λ i. Consumes old.input.left i.left h.bytes) (sym input) h.read.0, subst (λ i. IsAtEnd i.left) (sym input) h.read.1), answers);
    wrote = begins_behind _ _ _ h.text (refused_line fault) h.wrote.wrote broken.0;
    calm = broken.1 ∙ h.wrote.calm;
  }))
  refused_early Read broken = absurd broken
  refused_early Write broken = inr (record {
    printed = answered;
    answer = (h.bytes, (subst (λ i. Consumes old.input.left i.left h.bytes) (sym input) h.read.0, subst (λ i. IsAtEnd i.left) (sym input) h.read.1), answers);
    wrote = begins_behind _ _ _ h.text (refused_line fault) h.wrote.wrote broken.0;
    counted = broken.1 ∙ ap one_more h.wrote.calm;
  })
