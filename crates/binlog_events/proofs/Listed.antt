-- The lines of events, one after another.
use Rattle.std.proofs.Common.{◌≡◌, ℕ, true, false, List, [], ◌∷◌, ◌++◌, Option, Some, None, Ok, refl, sym, ap, subst, ◌∙◌, inr, append_assoc, is_some}
use Rattle.std.proofs.lemmas.List.{append-nil}
use Rattle.binlog_frames.specs.declared.fault.FrameFault.{FrameFault}
use Rattle.binlog_frames.specs.Spelling.{Framed}
use Rattle.binlog_frames.specs.Standing.{Standing, start, front_at, opening_at, unfinished}
use Rattle.binlog_frames.specs.Placed.{Placed, placed, placed_at, StaysRead, ReadsOn}
use Rattle.binlog_events.specs.Names.{Names, names_in, no_names, names_after}
use Rattle.binlog_events.specs.declared.row_lines.EventDetail.{EventDetail}
use Rattle.binlog_events.specs.declared.lister.EventLister.{EventLister}
use Rattle.binlog_events.specs.declared.lister.Front.{Front}
use Rattle.binlog_events.specs.declared.lister.Front.TheVariants as fronts
use Rattle.binlog_events.specs.Listing.{event_lines, lines_from, names_from, lines_of, HasFault, Lists, HasListed, IsListed, BeginsListing, BeginsAsListed, PutsEvent, PutsFront, TakesEvent, TakesFront, Drains}

names_then : (n : Names) (ps : List Placed) (p : Placed) → names_from n (ps ++ p ∷ []) ≡ names_after p.event.kind p.event.body (names_from n ps)
unfolding names_from
names_then n [] p = refl
names_then n (q ∷ qs) p = names_then (names_after q.event.kind q.event.body n) qs p

lines_then : (d : EventDetail) (n : Names) (ps : List Placed) (p : Placed) → lines_from d n (ps ++ p ∷ []) ≡ lines_from d n ps ++ event_lines d (names_from n ps) p
unfolding lines_from names_from
lines_then d n [] p = append-nil (event_lines d n p)
lines_then d n (q ∷ qs) p =
    let m : Names = names_after q.event.kind q.event.body n in
    ap (λ r. event_lines d n q ++ r) (lines_then d m qs p)
    ∙ sym (append_assoc (event_lines d n q) (lines_from d m qs) (event_lines d (names_from m qs) p))

-- ---- the beginning

start_none : front_at start ≡ Ok None
unfolding opening_at
start_none = refl

pub new_listed : (d : EventDetail) (s : Standing) (n : Names) → s ≡ start → n ≡ no_names → HasListed d s n [] [] × (front_at s ≡ Ok None)
unfolding placed lines_from names_from
new_listed d s n e f = (record { events = []; follows = sym e; names_are = f; lines = refl }, ap front_at e ∙ start_none)

-- ---- one event

pub taken : (d : EventDetail) (s t : Standing) (m n : Names) (old new : List ℕ) → PutsEvent d s m n old new → ((e : Framed) → front_at s ≡ Ok (Some e) → ReadsOn s t e) → TakesEvent d s t m n old new
taken d s t m n old new p reads =
    let e : Framed = p.event in
    let r = reads e p.front in
    let here : Placed = placed_at s e in
    let line : List ℕ = event_lines d m here in
    record {
      listed = λ bytes text h.
          let k = r.reads bytes h.events h.follows in
          record {
            events = h.events ++ e ∷ [];
            follows = k.follows;
            names_are = p.names_are ∙ ap (names_after e.kind e.body) h.names_are ∙ sym (names_then no_names (placed h.events) here) ∙ ap (names_from no_names) (sym k.place);
            lines = ap (λ x. text ++ x) p.put
                ∙ sym (append_assoc text old line)
                ∙ ap (λ x. x ++ line) h.lines
                ∙ ap (λ (x : Names). lines_of d h.events ++ event_lines d x here) h.names_are
                ∙ sym (lines_then d no_names (placed h.events) here)
                ∙ ap (lines_from d no_names) (sym k.place);
          };
      fewer = r.fewer;
    }

pub passed_front : (d : EventDetail) (s t : Standing) (m n : Names) (old new : List ℕ) (front : Front) → front ≡ fronts.Passed → PutsFront d s m n old new front → ((e : Framed) → front_at s ≡ Ok (Some e) → ReadsOn s t e) → TakesEvent d s t m n old new
passed_front d s t m n old new front is p reads = taken d s t m n old new (subst (PutsFront d s m n old new) is p) reads

pub is_passed : (d : EventDetail) (s t : Standing) (m n : Names) (old new : List ℕ) (front : Front) → front ≡ fronts.Passed → TakesFront d s t m n old new front → TakesEvent d s t m n old new
is_passed d s t m n old new front is p = subst (TakesFront d s t m n old new) is p

-- ---- the end of what has come

pub none_left : (d : EventDetail) (s t : Standing) (m n : Names) (old new : List ℕ) (front : Front) → front ≡ fronts.NotYet → TakesFront d s t m n old new front
    → (bytes text : List ℕ) → HasListed d s m bytes (text ++ old) → IsListed d t n bytes (text ++ new) None
none_left d s t m n old new front is taken bytes text h =
    let p = subst (TakesFront d s t m n old new) is taken in
    let a = subst (λ (x : Standing). HasListed d x m bytes (text ++ old)) (sym p.1) h in
    let b = subst (λ (x : Names). HasListed d t x bytes (text ++ old)) (sym p.2) a in
    (subst (λ x. HasListed d t n bytes (text ++ x)) (sym p.3) b, ap front_at p.1 ∙ p.0)

pub fault_found : (d : EventDetail) (s t : Standing) (m n : Names) (old new : List ℕ) (front : Front) (f : FrameFault) → front ≡ fronts.Fault f → TakesFront d s t m n old new front
    → (bytes text : List ℕ) → HasListed d s m bytes (text ++ old) → IsListed d t n bytes (text ++ new) (Some f)
fault_found d s t m n old new front f is taken bytes text h = λ more.
    let p = subst (TakesFront d s t m n old new) is taken in
    record { events = h.events; ends = p.0 bytes more h.events h.follows; lines = ap (λ x. text ++ x) p.1 ∙ h.lines }

-- ---- a piece

pub stopped : (d : EventDetail) (fault : Option FrameFault) (s : Standing) (n : Names) (bytes piece text : List ℕ) → is_some fault ≡ true → IsListed d s n bytes text fault → IsListed d s n (bytes ++ piece) text fault
stopped d None s n bytes piece text some h = absurd cc
stopped d (Some f) s n bytes piece text some h = λ more. subst (λ x. HasFault d x text f) (sym (append_assoc bytes piece more)) (h (piece ++ more))

pub went_on : (d : EventDetail) (fault : Option FrameFault) (s u t : Standing) (m n : Names) (old new piece : List ℕ) (found : Option FrameFault)
    → is_some fault ≡ false → StaysRead s u piece → Drains d u t m n old new found
    → (bytes text : List ℕ) → IsListed d s m bytes (text ++ old) fault → IsListed d t n (bytes ++ piece) (text ++ new) found
went_on d None s u t m n old new piece found none stays drains bytes text h =
    drains (bytes ++ piece) text (record { events = h.0.events; follows = stays bytes h.0.events h.0.follows; names_are = h.0.names_are; lines = h.0.lines })
went_on d (Some f) s u t m n old new piece found none stays drains bytes text h = absurd cc

-- ---- the end of the file

pub ended : (d : EventDetail) (fault : Option FrameFault) (f : FrameFault) (s : Standing) (n : Names) (bytes text : List ℕ) → fault ≡ Some f → IsListed d s n bytes text fault → HasFault d bytes text f
ended d fault f s n bytes text is h =
    let all = subst (λ (x : Option FrameFault). IsListed d s n bytes text x) is h in
    subst (λ x. HasFault d x text f) (append-nil bytes) (all [])

at_end : (d : EventDetail) (s : Standing) (n : Names) (bytes text : List ℕ) (r : Option FrameFault) → r ≡ unfinished s → IsListed d s n bytes text None → Lists d bytes text r
at_end d s n bytes text None e h = record { events = h.0.events; ends = record { last = s; follows = h.0.follows; none = h.1; finished = sym e }; lines = h.0.lines }
at_end d s n bytes text (Some f) e h = record { events = h.0.events; ends = record { last = s; follows = h.0.follows; wrong = inr (h.1, sym e) }; lines = h.0.lines }

pub unended : (d : EventDetail) (fault : Option FrameFault) (s : Standing) (n : Names) (bytes text : List ℕ) (r : Option FrameFault) → fault ≡ None → r ≡ unfinished s → IsListed d s n bytes text fault → Lists d bytes text r
unended d fault s n bytes text r is e h = at_end d s n bytes text r e (subst (λ (x : Option FrameFault). IsListed d s n bytes text x) is h)

-- ---- what has come so far

begun : (d : EventDetail) (fault : Option FrameFault) (s : Standing) (n : Names) (bytes text : List ℕ) → IsListed d s n bytes text fault → BeginsListing d bytes text
begun d None s n bytes text h = record { events = h.0.events; last = s; follows = h.0.follows; lines = h.0.lines }
begun d (Some f) s n bytes text h =
    let all = subst (λ x. HasFault d x text f) (append-nil bytes) (h []) in
    record { events = all.events; last = all.ends.last; follows = all.ends.follows; lines = all.lines }

pub begins_as_listed : (l : EventLister) → BeginsAsListed l
begins_as_listed l d bytes text h = begun d l.fault l.frames (names_in l.names) bytes text h.1
