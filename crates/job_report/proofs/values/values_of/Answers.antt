use Rattle.std.proofs.Common.{◌≡◌, rules}
use Rattle.toml.specs.Data.{array}
use Rattle.toml.specs.View.{view, items_view}
use Rattle.job_report.proofs.Stated.{array-some, values_in-items_view, is_array_of-items_view}
use Rattle.job_report.proofs.values.values_of.Goals as goal

pub returns-in-Some-clause-values : goal.returns-in-Some-clause-values
returns-in-Some-clause-values c =
    let is : view c.args.value.now ≡ array (items_view c.as_slice.result.now) = search (rules, array-some) in
    rw is (values_in-items_view c.as_slice.result.now)

pub returns-in-Some-clause-types : goal.returns-in-Some-clause-types
returns-in-Some-clause-types c has_type =
    let is : view c.args.value.now ≡ array (items_view c.as_slice.result.now) = search (rules, array-some) in
    rw is (is_array_of-items_view has_type c.as_slice.result.now)
