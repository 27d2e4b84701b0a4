use Rattle.std.proofs.Common.{◌≡◌, ◌-◌, length, sym, ap, ◌∙◌, Some, Bool, true, false, List, ℕ, get_or, arith}
use Rattle.std.specs.Prelude.{MatchBool}
use Rattle.std.specs.List.{slice_get}
use Rattle.std.proofs.lemmas.Option.{slice_get-get_or}
use Rattle.gtid_set.specs.declared.sources.SourceList.{SourceList}
use Rattle.gtid_set.specs.Kept.{sources_at, are_places, are_ascending, comes_before}
use Rattle.gtid_set.specs.Order.{are_below, HasFrom}
use Rattle.gtid_set.proofs.BlockLemmas.{ends_below, ends_from}
use Rattle.gtid_set.proofs.sources.ends_before.Goals as goal

by_last : (sources : List SourceList) (block places : List ℕ) (id place : ℕ) (b : Bool) → are_places sources block ≡ true → are_ascending (sources_at sources block) ≡ true → slice_get block (length block - 1) ≡ Some place → b ≡ comes_before sources id place
    → MatchBool b (are_below sources id block ≡ true) (HasFrom sources block id)
by_last sources block places id place true inside rising got e = ends_below sources block place id rising got (sym e)
by_last sources block places id place false inside rising got e = ends_from sources block place id (length block - 1) inside got (sym e)

pub returns : goal.returns
returns c =
    let places = c.places-places.result.now in
    let some = c.if-count-eq0.false in
    let got : slice_get c.args.block.now (length c.args.block.now - 1) ≡ Some (get_or places (length places - 1) 0) =
    ap (λ xs. slice_get xs (length xs - 1)) (sym c.places-places.ensures) ∙ slice_get-get_or places (length places - 1) 0 (omega (arith, some)) in
    by_last c.args.sources.now c.args.block.now places c.args.id _ c.comes_before.result c.requires.places c.requires.rising got c.comes_before.ensures
