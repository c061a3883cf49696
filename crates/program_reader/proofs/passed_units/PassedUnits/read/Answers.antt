use Rattle.std.proofs.Common.{sym, subst}
use Rattle.program_reader.specs.declared.times_walk.TimesWalk.{TimesWalk}
use Rattle.program_reader.specs.TimesWalk.{HasPassed}
use Rattle.program_reader.proofs.PassedLemmas.{looked_range, looked_up, passed_slices, slices_passed}
use Rattle.program_reader.proofs.passed_units.PassedUnits.read.Goals as goal

pub times_of-times-requires-clause-passed : goal.times_of-times-requires-clause-passed
times_of-times-requires-clause-passed c =
    let places = c.args.places.now in
    passed_slices places.pictures.items c.as_slice.result.now places.packets.items c.as_slice-2.result.now c.args.unit.now.begin c.args.self.now.times c.as_slice.ensures.value
    c.as_slice-2.ensures.value c.requires.passed

pub keep-requires-clause-times : goal.keep-requires-clause-times
keep-requires-clause-times c =
    let unit = c.args.unit.now in
    let stand = c.requires.stand in
    looked_range stand.0 (unit.begin, unit.end) c.times_of-times.result
    (looked_up stand.0 c.args.places.now c.as_slice.result.now c.as_slice-2.result.now unit.begin unit.end c.times_of-times.result stand.1 stand.2 c.as_slice.ensures.value c.as_slice-2.ensures.value
    c.times_of-times.ensures.times)

pub returns-clause-read : goal.returns-clause-read
returns-clause-read c =
    let unit = c.args.unit.now in
    record {
      times = c.times_of-times.result;
      times_are = λ packets stand within.
          looked_up packets c.args.places.now c.as_slice.result.now c.as_slice-2.result.now unit.begin unit.end c.times_of-times.result stand within c.as_slice.ensures.value c.as_slice-2.ensures.value
          c.times_of-times.ensures.times;
      found = λ es packets earlier own same tells are. c.keep.ensures.found es packets earlier own same tells are;
    }

pub returns-clause-passed : goal.returns-clause-passed
returns-clause-passed c =
    let places = c.args.places.now in
    subst (λ (w : TimesWalk). HasPassed places.pictures.items places.packets.items c.args.unit.now.end w) (sym c.keep.ensures.times)
    (slices_passed places.pictures.items c.as_slice.result.now places.packets.items c.as_slice-2.result.now c.args.unit.now.end c.times_of-times.new.self c.as_slice.ensures.value
    c.as_slice-2.ensures.value c.times_of-times.ensures.passed)
