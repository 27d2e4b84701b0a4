-- Lines of servers that are written one after another.
use Rattle.std.proofs.Common.{◌≡◌, ℕ, ◌+◌, ◌<◌, List, [], ◌∷◌, ◌++◌, drop, get_or, length, refl, sym, ap, subst, ◌∙◌, append_assoc, append-nil}
use Rattle.std.specs.Prelude.{Option, Result, Ok, Err}
use Rattle.std.specs.Io.KnownBytes.{Appends}
use Rattle.std.proofs.lemmas.List.{at_drop_more}
use Rattle.std.proofs.KnownBytes.{Appends-nil, Appends-trans}
use Rattle.gtid_report.specs.SetAnswers.{◌>>=◌}
use Rattle.gtid_report.specs.declared.fault.Fault.{Fault}
use Rattle.server_states.specs.Servers.{ServerValue}
use Rattle.server_states.specs.States.{TogetherValue, ComparedValue, server_lines, lines_behind, union_line, compared_lines}
use Rattle.commands.specs.Edge.{Output, StreamsValue, Begins, one_more}
use Rattle.commands.specs.States.{HasWritten, HasBroken, WritesLines, BreaksLines}
use Rattle.commands.specs.declared.edge.RunFault.{RunFault}
use Rattle.commands.specs.declared.edge.RunFault.TheVariants.{Memory, Read, Write}
use Rattle.commands.proofs.InPieces.{begins_before, begins_behind}

-- nothing is a prefix of every text
pub nothing_written : {W : Type 0} (old : Output W) (text : List ℕ) → HasBroken old old text Memory
nothing_written old text = ((0, Appends-nil old.written), refl)

-- the text that follows, where lines can be made
made : (r : Result (List ℕ) Fault) (rest : List ℕ → Result (List ℕ) Fault) (whole : List ℕ) → (r >>= rest) ≡ Ok whole
    → (text : List ℕ) × (r ≡ Ok text) × (rest text ≡ Ok whole)
made (Ok text) rest whole e = (text, refl, e)
made (Err f) rest whole e = absurd cc

abbrev held : Result (List ℕ) Fault → List ℕ
held (Ok text) = text
held (Err f) = []

-- the next server's lines can be made
next_made : (t : TogetherValue) (s : ServerValue) (ss : List ServerValue) (text whole : List ℕ) → lines_behind text t (s ∷ ss) ≡ Ok whole
    → (more : List ℕ) × (server_lines t s ≡ Ok more) × (lines_behind (text ++ more) t ss ≡ Ok whole)
next_made t s ss text whole e = made (server_lines t s) (λ more. lines_behind (text ++ more) t ss) whole e

-- all lines begin with those that came first
lines_begin : (t : TogetherValue) (ss : List ServerValue) (text whole : List ℕ) → lines_behind text t ss ≡ Ok whole → (rest : List ℕ) × (text ++ rest ≡ whole)
lines_begin t [] text whole e = ([], append-nil text ∙ ap held e)
lines_begin t (s ∷ ss) text whole e =
    let next = next_made t s ss text whole e in
    let more = lines_begin t ss (text ++ next.0) whole next.2 in
    (next.0 ++ more.0, sym (append_assoc text next.0 more.0) ∙ more.1)

-- a text behind what was written
written_behind : {W : Type 0} (old mid new : Output W) (front text : List ℕ) → HasWritten old mid front → HasWritten mid new text → HasWritten old new (front ++ text)
written_behind old mid new front text first second =
    record { wrote = Appends-trans _ _ _ front text first.wrote second.wrote; calm = second.calm ∙ first.calm }

-- what ended within a text ended within a text that goes on
broken_before : {W : Type 0} (old new : Output W) (text rest whole : List ℕ) (fault : RunFault) → HasBroken old new text fault → text ++ rest ≡ whole → HasBroken old new whole fault
broken_before old new text rest whole Memory broken same = (subst (Begins old.written new.written) same (begins_before _ _ text rest broken.0), broken.1)
broken_before old new text rest whole Write broken same = (subst (Begins old.written new.written) same (begins_before _ _ text rest broken.0), broken.1)
broken_before old new text rest whole Read broken same = absurd broken

-- what ended within a text ended within that and what was written before
broken_behind : {W : Type 0} (old mid new : Output W) (front text : List ℕ) (fault : RunFault) → HasWritten old mid front → HasBroken mid new text fault → HasBroken old new (front ++ text) fault
broken_behind old mid new front text Memory first broken = (begins_behind _ _ _ front text first.wrote broken.0, broken.1 ∙ first.calm)
broken_behind old mid new front text Write first broken = (begins_behind _ _ _ front text first.wrote broken.0, broken.1 ∙ ap one_more first.calm)
broken_behind old mid new front text Read first broken = absurd broken

-- ---- servers one after another

-- the lines before those of these servers were written
pub record Sofar {S W : Type 0} (c : ComparedValue) (old new : StreamsValue S W) (rest : List ServerValue) : Type 0 where
  pub whole : List ℕ
  pub text : List ℕ
  pub made : compared_lines c ≡ Ok whole
  pub more : lines_behind text c.together rest ≡ Ok whole
  pub wrote : HasWritten old.output new.output text
  pub input : new.input ≡ old.input

-- the first line, and its end
pub first_written : {S W : Type 0} (c : ComparedValue) (old new : StreamsValue S W) (whole : List ℕ) → compared_lines c ≡ Ok whole → HasWritten old.output new.output (union_line c.together) → new.input ≡ old.input → Sofar c old new c.servers
first_written c old new whole made wrote input = record { whole = whole; text = union_line c.together; made = made; more = made; wrote = wrote; input = input }

pub first_broken : {W : Type 0} (c : ComparedValue) (old new : Output W) (whole : List ℕ) (fault : RunFault) → compared_lines c ≡ Ok whole → HasBroken old new (union_line c.together) fault → BreaksLines (compared_lines c) old new fault
first_broken c old new whole fault made broken =
    let rest = lines_begin c.together c.servers (union_line c.together) whole made in
    (whole, made, broken_before old new (union_line c.together) rest.0 whole fault broken rest.1)

-- the server at a place is the first of those from there on
pub next_server : {S W : Type 0} (c : ComparedValue) (old mid : StreamsValue S W) (ss : List ServerValue) (at : ℕ) (s : ServerValue) → at < length ss → s ≡ get_or ss at s → Sofar c old mid (drop at ss) → Sofar c old mid (s ∷ drop (at + 1) ss)
next_server c old mid ss at s within is h =
    subst (Sofar c old mid) (at_drop_more (λ (xs : List ServerValue). xs) ss at s within ∙ ap (λ (x : ServerValue). x ∷ drop (at + 1) ss) (sym is)) h

module _ {S W : Type 0} (c : ComparedValue) (old mid new : StreamsValue S W) (s : ServerValue) (ss : List ServerValue) (h : Sofar c old mid (s ∷ ss)) where
  pub can_be_made : (text : List ℕ) × (server_lines c.together s ≡ Ok text)
  can_be_made = let next = next_made c.together s ss h.text h.whole h.more in (next.0, next.1)

  pub next_written : WritesLines (server_lines c.together s) mid.output new.output → new.input ≡ mid.input → Sofar c old new ss
  next_written wrote input =
      let next = next_made c.together s ss h.text h.whole h.more in
      let same : wrote.0 ≡ next.0 = ap held (sym wrote.1 ∙ next.1) in
      record {
        whole = h.whole;
        text = h.text ++ next.0;
        made = h.made;
        more = next.2;
        wrote = written_behind old.output mid.output new.output h.text next.0 h.wrote (subst (HasWritten mid.output new.output) same wrote.2);
        input = input ∙ h.input;
      }

  pub next_broken : (fault : RunFault) → BreaksLines (server_lines c.together s) mid.output new.output fault → BreaksLines (compared_lines c) old.output new.output fault
  next_broken fault broken =
      let next = next_made c.together s ss h.text h.whole h.more in
      let same : broken.0 ≡ next.0 = ap held (sym broken.1 ∙ next.1) in
      let rest = lines_begin c.together ss (h.text ++ next.0) h.whole next.2 in
      let within = broken_behind old.output mid.output new.output h.text next.0 fault h.wrote (subst (λ (l : List ℕ). HasBroken mid.output new.output l fault) same broken.2) in
      (h.whole, h.made, broken_before old.output new.output (h.text ++ next.0) rest.0 h.whole fault within rest.1)

-- at the end all were written
pub all_written : {S W : Type 0} (c : ComparedValue) (old new : StreamsValue S W) → Sofar c old new [] → WritesLines (compared_lines c) old.output new.output
all_written c old new h = (h.whole, h.made, subst (HasWritten old.output new.output) (ap held h.more) h.wrote)
