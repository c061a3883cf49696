use Rattle.std.proofs.Common.{◌≡◌, ◌≤◌, true, take, map, length}
use Rattle.std.specs.List.{list_all}
use Rattle.toml.specs.View.{view}
use Rattle.job_report.specs.Field.{is_between}
use Rattle.job_report.specs.Job.{integer_of}
use Rattle.job_report.proofs.values.numbers_between.Given as goal

abbrev pub invariant-loop-value : goal.invariant-loop-value
invariant-loop-value g l = record {
  numbers : map view (take l.value-index l.values) ≡ map integer_of l.numbers.items;
  within : list_all (is_between l.least l.most) (map view (take l.value-index l.values)) ≡ true;
  count : length l.numbers.items ≡ l.value-index;
  few : l.value-index ≤ g.row.COUNT;
}
