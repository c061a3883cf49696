use Rattle.std.proofs.Common.{◌+◌, ◌==◌, List, [], ◌∙◌, None, map, Option, length, get_or, IfSome, refl, sym, subst, arith}
use Rattle.std.specs.Option.{option_copied}
use Rattle.pes_units.specs.declared.times.Times.{Times}
use Rattle.pes_units.specs.Times.{decoding_time}
use Rattle.program_reader.specs.declared.timed_picture.TimedPicture.{TimedPicture}
use Rattle.program_reader.specs.declared.unit_picture.TimedUnit.{TimedUnit}
use Rattle.program_reader.specs.declared.unit_sizes.UnitSizes.{UnitSizes}
use Rattle.program_reader.specs.KeptUnits.{kept_at}
use Rattle.program_reader.specs.Sizes.{AreUnitSizes}
use Rattle.program_reader.specs.Units.{state_behind, unit_bytes}
use Rattle.program_reader.specs.Private.TimedPictures.{IsPossible}
use Rattle.elementary_streams.proofs.TimeRange.{IsInRange}
use Rattle.program_reader.proofs.KeepLemmas.{
  all_earlier,
  earlier_last,
  earlier_tells,
  kept_none,
  next_unit,
  possible_before,
  range_of_unit,
  kept_more,
  unit_refused,
  kept_all,
  kept_but_last,
  video_ends,
  video_ranges,
  video_stamps,
  told,
  next_same,
  broken_same,
  refused_same,
  within_same,
  found_none,
  found_some,
}
use Rattle.program_reader.proofs.SizedLemmas.{sized_all, sized_found, sized_more, sized_none, sized_not_found}
use Rattle.program_reader.proofs.kept_units.keep_units.Goals as goal

pub stamped_pictures-requires : goal.stamped_pictures-requires
stamped_pictures-requires c =
    video_ends c.args.video.now c.as_slice-es.result.now c.as_slice.result.now c.as_slice-es.ensures.value c.as_slice.ensures.value c.requires.video

pub loop-at-init : goal.loop-at-init
loop-at-init c =
    let es = c.args.video.now.payload.items in
    let kept = c.new-kept.result in
    let stamps = video_stamps c.args.video.now c.as_slice-es.result.now c.as_slice.result.now c.in_ok-stamps.stamps.items c.as_slice-left.result.now c.as_slice-es.ensures.value
    c.as_slice.ensures.value c.in_ok-stamps.ensures c.as_slice-left.ensures.value c.requires.video in
    record {
      so_far = kept_none es c.args.video.now.packets.items c.args.cuts.now c.as_slice-left.result.now kept c.requires.fits stamps.0 stamps.1
          c.new-kept.ensures.units c.new-kept.ensures.first c.new-kept.ensures.last c.new-kept.ensures.dropped;
      sized = λ want. sized_none es c.args.wanted.now.coarser.now kept.last kept.units.items c.args.sizes.now.items c.new-kept.ensures.units c.new-kept.ensures.last c.requires.none;
    }

pub unit_times-found-requires-clause-within : goal.unit_times-found-requires-clause-within
unit_times-found-requires-clause-within c =
    let here = next_unit c.args.video.now.payload.items c.args.video.now.packets.items c.args.cuts.now c.loop-at.at (get_or c.args.cuts.now c.loop-at.at (0, 0)) c.loop-at.left.now c.loop-at.kept
    c.loop-at-test.true refl c.loop-at.invariant.so_far in
    within_same c.as_slice-es.result.now c.args.video.now.payload.items (get_or c.args.cuts.now c.loop-at.at (0, 0)).1 c.as_slice-es.ensures.value here.within

pub unit_times-found-requires-clause-rising : goal.unit_times-found-requires-clause-rising
unit_times-found-requires-clause-rising c = c.loop-at.invariant.so_far.tells.rising

pub unit_picture-requires-clause-order : goal.unit_picture-requires-clause-order
unit_picture-requires-clause-order c =
    (next_unit c.args.video.now.payload.items c.args.video.now.packets.items c.args.cuts.now c.loop-at.at (get_or c.args.cuts.now c.loop-at.at (0, 0)) c.loop-at.left.now c.loop-at.kept
    c.loop-at-test.true refl c.loop-at.invariant.so_far).order

pub unit_picture-requires-clause-place : goal.unit_picture-requires-clause-place
unit_picture-requires-clause-place c =
    let here = next_unit c.args.video.now.payload.items c.args.video.now.packets.items c.args.cuts.now c.loop-at.at (get_or c.args.cuts.now c.loop-at.at (0, 0)) c.loop-at.left.now c.loop-at.kept
    c.loop-at-test.true refl c.loop-at.invariant.so_far in
    omega (arith, here.order, here.within, c.requires.video.small)

pub unit_picture-requires-clause-times : goal.unit_picture-requires-clause-times
unit_picture-requires-clause-times c =
    let unit = get_or c.args.cuts.now c.loop-at.at (0, 0) in
    let es = c.args.video.now.payload.items in
    let packets = c.args.video.now.packets.items in
    let here = next_unit es packets c.args.cuts.now c.loop-at.at unit c.loop-at.left.now c.loop-at.kept c.loop-at-test.true refl c.loop-at.invariant.so_far in
    let found = told c.as_slice-es.result.now es packets unit c.loop-at.left.now c.unit_times-found.result.left.now c.unit_times-found.result.times c.as_slice-es.ensures.value here.tells
    here.order c.unit_times-found.ensures.times c.unit_times-found.ensures.left in
    subst (λ (t : Times). IsInRange (decoding_time t)) (sym found.1) (range_of_unit es packets unit (video_ranges c.args.video.now c.requires.video))

pub unit_picture-requires-clause-before : goal.unit_picture-requires-clause-before
unit_picture-requires-clause-before c =
    subst (λ (b : Option TimedPicture). IfSome b IsPossible) (sym c.as_ref.ensures.value)
    (possible_before c.args.video.now.payload.items c.args.video.now.packets.items c.args.cuts.now c.loop-at.at c.loop-at.left.now c.loop-at.kept c.loop-at-test.true c.requires.few
    c.loop-at.invariant.so_far)

pub returns-in-Ok-None-clause-kept : goal.returns-in-Ok-None-clause-kept
returns-in-Ok-None-clause-kept c =
    let so_far = c.loop-at.invariant.so_far in
    let unit = get_or c.args.cuts.now c.loop-at.at (0, 0) in
    let es = c.args.video.now.payload.items in
    let packets = c.args.video.now.packets.items in
    let here = next_unit es packets c.args.cuts.now c.loop-at.at unit c.loop-at.left.now c.loop-at.kept c.loop-at-test.true refl c.loop-at.invariant.so_far in
    let found = told c.as_slice-es.result.now es packets unit c.loop-at.left.now c.unit_times-found.result.left.now c.unit_times-found.result.times c.as_slice-es.ensures.value here.tells
    here.order c.unit_times-found.ensures.times c.unit_times-found.ensures.left in
    let given : TimedUnit = record { begin = unit.0; end = unit.1; times = c.unit_times-found.result.times; is_last = c.loop-at.at + 1 == length c.args.cuts.now } in
    let broken = found_none c.as_slice-es.result.now packets (all_earlier [] so_far.pictures) (option_copied c.as_ref.result) given c.in-Ok-None.field-0 c.in-Ok-None.field-0-is
    (c.in-Ok-None.ensures.found c.as_slice-es.result.now packets (all_earlier [] so_far.pictures) refl (earlier_last es packets c.args.cuts.now c.loop-at.at c.loop-at.left.now c.loop-at.kept so_far ∙ sym c.as_ref.ensures.value)
    (earlier_tells es packets c.args.cuts.now c.loop-at.at c.loop-at.left.now c.loop-at.kept so_far) found.0) in
    kept_but_last es packets c.args.cuts.now c.loop-at.at unit c.loop-at.left.now c.loop-at.kept (record c.loop-at.kept { dropped = 1 }) broken.1 broken.2 _ c.loop-at-test.true refl refl
    broken.0 c.loop-at.invariant.so_far
    (broken_same c.as_slice-es.result.now es (option_copied c.as_ref.result) c.loop-at.kept.last unit broken.1 broken.2 c.as_slice-es.ensures.value c.as_ref.ensures.value broken.3)
    refl refl refl refl

pub returns-in-Err-clause-kept : goal.returns-in-Err-clause-kept
returns-in-Err-clause-kept c =
    let so_far = c.loop-at.invariant.so_far in
    let unit = get_or c.args.cuts.now c.loop-at.at (0, 0) in
    let es = c.args.video.now.payload.items in
    let packets = c.args.video.now.packets.items in
    let here = next_unit es packets c.args.cuts.now c.loop-at.at unit c.loop-at.left.now c.loop-at.kept c.loop-at-test.true refl c.loop-at.invariant.so_far in
    let found = told c.as_slice-es.result.now es packets unit c.loop-at.left.now c.unit_times-found.result.left.now c.unit_times-found.result.times c.as_slice-es.ensures.value here.tells
    here.order c.unit_times-found.ensures.times c.unit_times-found.ensures.left in
    unit_refused es packets c.args.cuts.now c.loop-at.at unit c.loop-at.left.now c.loop-at.kept _ c.in-Err.fault c.loop-at-test.true refl refl c.loop-at.invariant.so_far
    (refused_same c.as_slice-es.result.now es packets (option_copied c.as_ref.result) c.loop-at.kept.last unit _ c.in-Err.fault c.as_slice-es.ensures.value c.as_ref.ensures.value
    (c.in-Err.ensures.found c.as_slice-es.result.now packets (all_earlier [] so_far.pictures) refl (earlier_last es packets c.args.cuts.now c.loop-at.at c.loop-at.left.now c.loop-at.kept so_far ∙ sym c.as_ref.ensures.value)
    (earlier_tells es packets c.args.cuts.now c.loop-at.at c.loop-at.left.now c.loop-at.kept so_far) found.0))

pub loop-at-preserved : goal.loop-at-preserved
loop-at-preserved c =
    let so_far = c.loop-at.invariant.so_far in
    let unit = get_or c.args.cuts.now c.loop-at.at (0, 0) in
    let es = c.args.video.now.payload.items in
    let packets = c.args.video.now.packets.items in
    let here = next_unit es packets c.args.cuts.now c.loop-at.at unit c.loop-at.left.now c.loop-at.kept c.loop-at-test.true refl c.loop-at.invariant.so_far in
    let found = told c.as_slice-es.result.now es packets unit c.loop-at.left.now c.unit_times-found.result.left.now c.unit_times-found.result.times c.as_slice-es.ensures.value here.tells
    here.order c.unit_times-found.ensures.times c.unit_times-found.ensures.left in
    let given : TimedUnit = record { begin = unit.0; end = unit.1; times = c.unit_times-found.result.times; is_last = c.loop-at.at + 1 == length c.args.cuts.now } in
    let asked = c.args.wanted.now in
    let earlier = all_earlier [] so_far.pictures in
    let next = next_same c.as_slice-es.result.now es packets earlier unit c.in-Ok-Some.picture c.as_slice-es.ensures.value
    (found_some c.as_slice-es.result.now packets earlier (option_copied c.as_ref.result) given c.in-Ok-Some.field-0 c.in-Ok-Some.picture c.in-Ok-Some.field-0-is
    (c.in-Ok-Some.ensures.found c.as_slice-es.result.now packets earlier refl (earlier_last es packets c.args.cuts.now c.loop-at.at c.loop-at.left.now c.loop-at.kept so_far ∙ sym c.as_ref.ensures.value)
    (earlier_tells es packets c.args.cuts.now c.loop-at.at c.loop-at.left.now c.loop-at.kept so_far) found.0)) in
    let own = sized_found (state_behind (option_copied c.as_ref.result)) (unit_bytes c.as_slice-es.result.now unit) asked.coarser.now asked.are_wanted c.loop-at.sizes.items
    c.unit_picture.new.sizes.items c.in-Ok-Some.field-0 c.in-Ok-Some.picture c.in-Ok-Some.field-0-is c.in-Ok-Some.ensures.sizes in
    record {
      so_far = kept_more es packets c.args.cuts.now c.loop-at.at unit c.loop-at.left.now c.unit_times-found.result.left.now c.loop-at.kept c.add.new.self c.unit_times-found.result.times
          c.in-Ok-Some.picture c.loop-at-test.true c.requires.few refl (video_ranges c.args.video.now c.requires.video) c.loop-at.invariant.so_far found.2 c.unit_times-found.ensures.counted found.1
          next c.in_ok-add-in-Ok-Some.ensures.units c.in_ok-add-in-Ok-Some.ensures.first c.in_ok-add-in-Ok-Some.ensures.last c.in_ok-add-in-Ok-Some.ensures.dropped;
      sized = sized_more c.as_slice-es.result.now es packets asked.coarser.now asked.are_wanted earlier (option_copied c.as_ref.result) unit c.in-Ok-Some.picture c.loop-at.kept c.add.new.self
          c.loop-at.sizes.items c.unit_picture.new.sizes.items c.as_slice-es.ensures.value c.as_ref.ensures.value
          (earlier_last es packets c.args.cuts.now c.loop-at.at c.loop-at.left.now c.loop-at.kept so_far) here.order here.within next own c.in_ok-add-in-Ok-Some.ensures.units
          c.in_ok-add-in-Ok-Some.ensures.last c.loop-at.invariant.sized;
    }

pub returns-clause-kept : goal.returns-clause-kept
returns-clause-kept c =
    kept_all c.args.video.now.payload.items c.args.video.now.packets.items c.args.cuts.now c.loop-at.at c.loop-at.left.now c.loop-at.kept c.loop-at-test.false
    c.loop-at.invariant.so_far

pub returns-in-Ok-None-clause-sizes : goal.returns-in-Ok-None-clause-sizes
returns-in-Ok-None-clause-sizes c = λ want.
    let unit = get_or c.args.cuts.now c.loop-at.at (0, 0) in
    let asked = c.args.wanted.now in
    let places = map kept_at c.loop-at.kept.units.items in
    let same = sized_not_found (state_behind (option_copied c.as_ref.result)) (unit_bytes c.as_slice-es.result.now unit) asked.coarser.now asked.are_wanted c.loop-at.sizes.items
    c.unit_picture.new.sizes.items c.in-Ok-None.field-0 c.in-Ok-None.field-0-is c.in-Ok-None.ensures.sizes in
    subst (λ (sizes : List UnitSizes). AreUnitSizes c.args.video.now.payload.items asked.coarser.now None places sizes) (sym same)
    (sized_all c.args.video.now.payload.items asked.coarser.now (state_behind c.loop-at.kept.last) places c.loop-at.sizes.items (c.loop-at.invariant.sized want))

pub returns-clause-sizes : goal.returns-clause-sizes
returns-clause-sizes c = λ want.
    sized_all c.args.video.now.payload.items c.args.wanted.now.coarser.now (state_behind c.loop-at.kept.last) (map kept_at c.loop-at.kept.units.items) c.loop-at.sizes.items
    (c.loop-at.invariant.sized want)
