use Rattle.std.proofs.Common.{rules, ◌≡◌, ◌≤◌, ◌<◌, true, false, Some, arith}
use Rattle.std.specs.Prelude.{codes}
use Rattle.std.specs.Str.{bytes_eq}
use Rattle.std.specs.List.{list_all}
use Rattle.gtid_text.specs.Counting.{count_read}
use Rattle.gtid_text.specs.Reading.{spans_in}
use Rattle.gtid_set.specs.Sets.{most_sources}
use Rattle.std.proofs.lemmas.Bool.Decides.{nat_tests}
use Rattle.journal_words.specs.Gtids.{is_ascii_byte}
use Rattle.journal_words.proofs.SourceCount.{empty_set, many_counted, few_counted}
use Rattle.journal_words.proofs.gtids.has_many_sources.Goals as goal

pub returns-then-eq-clause-few : goal.returns-then-eq-clause-few
returns-then-eq-clause-few c e =
    let dash : bytes_eq c.args.word.now (codes "-") ≡ true = search rules in
    empty_set c.args.word.now dash

pub returns-in-Some-clause-many : goal.returns-in-Some-clause-many
returns-in-Some-clause-many c e =
    let other : bytes_eq c.args.word.now (codes "-") ≡ false = search rules in
    let ascii : list_all is_ascii_byte c.args.word.now ≡ true = search rules in
    let counted : count_read c.args.word.now (spans_in c.args.word.now) ≡ Some c.in-Some.sources = search rules in
    let over : most_sources < c.in-Some.sources = grind (arith, nat_tests) in
    many_counted c.args.word.now c.in-Some.sources other ascii counted over

pub returns-in-Some-clause-few : goal.returns-in-Some-clause-few
returns-in-Some-clause-few c e =
    let other : bytes_eq c.args.word.now (codes "-") ≡ false = search rules in
    let ascii : list_all is_ascii_byte c.args.word.now ≡ true = search rules in
    let counted : count_read c.args.word.now (spans_in c.args.word.now) ≡ Some c.in-Some.sources = search rules in
    let few : c.in-Some.sources ≤ most_sources = grind (arith, nat_tests) in
    few_counted c.args.word.now c.in-Some.sources other ascii counted few
