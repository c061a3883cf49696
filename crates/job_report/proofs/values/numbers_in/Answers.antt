use Rattle.std.proofs.Common.{◌≡◌, nat_le, true, map, length, ap, arith, rules}
use Rattle.std.proofs.lemmas.Bool.Decides.{nat_tests}
use Rattle.std.proofs.lemmas.List.{length-map}
use Rattle.toml.specs.Data.{array}
use Rattle.toml.specs.View.{view}
use Rattle.job_report.specs.Field.{is_integer}
use Rattle.job_report.proofs.Stated.{items_of_numbers-map}
use Rattle.job_report.proofs.values.numbers_in.Goals as goal

pub returns-in-Some-numbers_between-clause-numbers : goal.returns-in-Some-numbers_between-clause-numbers
returns-in-Some-numbers_between-clause-numbers g c =
    rw (c.in-Some.ensures.is_array, c.in-Some-numbers_between.ensures.numbers) (ap array (items_of_numbers-map c.in-Some-numbers_between.numbers.items))

pub returns-in-Some-numbers_between-clause-right : goal.returns-in-Some-numbers_between-clause-right
returns-in-Some-numbers_between-clause-right g c =
    let few : nat_le (length (map view c.in-Some.values.now)) g.row.COUNT ≡ true = grind (arith, nat_tests, length-map, c.in-Some-numbers_between.ensures.few) in
    record {
      of_type = rw (c.in-Some.ensures.types is_integer) (search (rules, c.if-not-are_integers.ensures, c.if-not-are_integers.false));
      within = rw (c.in-Some.ensures.values, few) c.in-Some-numbers_between.ensures.within;
    }
