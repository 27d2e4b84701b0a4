use Rattle.std.proofs.Common.{◌≡◌, ◌<◌, ℕ, ap, ◌∙◌, subst, arith}
use Rattle.std.proofs.lemmas.Option.{get_or_from_slice_get, slice_get_within}
use Rattle.std.proofs.lemmas.Result.{IfOk-weaker}
use Rattle.audit.specs.Marks.{owner_of}
use Rattle.journal.specs.declared.Entry.{Entry}
use Rattle.audit.specs.Gathering.{IsListed, Run}
use Rattle.audit.proofs.Gatherings.{gathered_again, gathered_first}
use Rattle.audit.proofs.gathering.gather_new.Goals as goal

pub returns-then-entry-last : goal.returns-then-entry-last
returns-then-entry-last c = λ yes opened es out g.
    let runs = c.args.state.now.runs.items in
    let e : Entry = c.args.entry.now in
    let run : Run = c.requires.run in
    let same : c.index-then-entry-last.result.now ≡ run = c.index-then-entry-last.ensures ∙ get_or_from_slice_get runs c.args.place run c.index-then-entry-last.result.now c.requires.there in
    let listed : IsListed run.entries e = subst (λ (r : Run). IsListed r.entries e) same (c.has.ensures yes) in
    gathered_again opened c.args.schema.now es (owner_of c.args.state.now.owners) e runs g (g.standing.firsts c.args.place run c.requires.there listed.place e listed.there)

pub put-requires : goal.put-requires
put-requires c = slice_get_within c.args.state.now.runs.items c.args.place c.requires.run c.requires.there

pub returns : goal.returns
returns c =
    let runs = c.args.state.now.runs.items in
    let e : Entry = c.args.entry.now in
    let run : Run = c.requires.run in
    let same : c.index.result.now ≡ run = c.index.ensures ∙ get_or_from_slice_get runs c.args.place run c.index.result.now c.requires.there in
    let last : c.last.result ≡ run.last = c.last.ensures ∙ ap (λ (r : Run). r.last) same in
    let low : c.last.result < e.gtid.number = omega (arith, c.if-entry-last.false) in
    let over : run.last < e.gtid.number = subst (λ (n : ℕ). n < e.gtid.number) last low in
    IfOk-weaker c.touch_keys.result _ _
    (λ own touched yes opened es out g. gathered_first opened c.args.schema.now es (owner_of c.args.state.now.owners) e (owner_of c.touch_keys.new.owners) (touched yes) runs c.put.new.runs.items c.args.place g out c.requires over c.in_ok-put.ensures)
    c.touch_keys.ensures
