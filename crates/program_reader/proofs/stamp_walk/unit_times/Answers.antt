use Rattle.std.proofs.Common.{◌+◌, ◌-◌, sym, arith}
use Rattle.es_units.specs.Pictures.{begins_picture}
use Rattle.program_reader.proofs.StampLemmas.{rising_less, within, tells_unit, tells_more}
use Rattle.program_reader.proofs.PlaceLemmas.{found_from}
use Rattle.program_reader.proofs.stamp_walk.unit_times.Goals as goal

pub returns-in-Some-clause-times : goal.returns-in-Some-clause-times
returns-in-Some-clause-times c = λ packets tell.
    tells_unit c.args.es.now packets c.args.begin c.args.end c.in-Some.at c.args.stamps.now c.picture_times.result.times (sym c.in-Some.ensures)
    (found_from (begins_picture c.args.es.now) (c.args.end - c.args.begin) c.args.begin c.in-Some.at (sym c.in-Some.ensures)) tell c.picture_times.ensures.times

pub returns-in-Some-clause-left : goal.returns-in-Some-clause-left
returns-in-Some-clause-left c = λ packets order tell.
    let inside = within (begins_picture c.args.es.now) c.args.begin c.args.end c.in-Some.at order (sym c.in-Some.ensures) in
    tells_more c.args.es.now packets c.args.begin c.args.end c.in-Some.at c.args.stamps.now c.picture_times.result.left.now order inside.0 inside.1 tell c.picture_times.ensures.leaves

pub returns-in-Some-clause-rising : goal.returns-in-Some-clause-rising
returns-in-Some-clause-rising c = rising_less 0 (c.in-Some.at + 1) c.picture_times.result.left.now (omega arith) c.picture_times.ensures.leaves.rising
