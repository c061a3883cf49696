use Rattle.std.proofs.Common.{◌≡◌, ◌&&◌, false, Bool, true, map, refl}
use Rattle.std.specs.List.{list_all}
use Rattle.std.proofs.Math.Bool.{and-false}
use Rattle.std.proofs.lemmas.List.Folds.{list_all-map, list_all_at}
use Rattle.toml.specs.View.{view}
use Rattle.job_report.specs.Field.{is_between}
use Rattle.job_report.proofs.values.numbers_between.Goals as goal

pub returns-in-None-clause-none : goal.returns-in-None-clause-none
returns-in-None-clause-none g c =
    let fails : list_all (is_between c.args.least c.args.most) (map view c.args.values.now) ≡ false =
    rw (list_all-map (is_between c.args.least c.args.most) view c.args.values.now) (
    list_all_at (λ value. is_between c.args.least c.args.most (view value)) c.args.values.now c.loop-value.value-index c.value-item.result
    c.loop-value-test.true (rw (← c.value-item.is) c.in-None.ensures.none)) in
    rw fails (and-false _)
