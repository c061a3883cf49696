use Rattle.std.proofs.Common.{◌∙◌, refl, sym, arith}
use Rattle.requantiser.specs.Steps.{Step}
use Rattle.version_maker.proofs.OutlineCounts.{outline-counted}
use Rattle.version_maker.proofs.slice_count.count_changed.Goals as goal

pub coded_head-head-requires-clause-stays : goal.coded_head-head-requires-clause-stays
coded_head-head-requires-clause-stays c = sym c.is_emptied.ensures ∙ c.if-is_emptied.false

pub returns : goal.returns
returns c =
    let coding = c.args.picture.coding.now in
    let from = c.args.from.now in
    let head = c.coded_head-head.result in
    let outlined = c.coded_head-head.ensures c.args.picture.seq.now coding c.args.inner c.args.lent.now.macroblock c.requires.spelled c.requires.can.tallied in
    let step : Step = record { from = from; made = outlined.made; behind = c.coded_head-head.new.state; distortion = c.args.tally.distortion } in
    record {
      step = step;
      same = refl;
      is = record { at = outlined.at; state = outlined.state; difference = outlined.difference };
      counted = record {
        state = refl;
        bits = omega (
          arith,
          c.from.ensures,
          c.head_in_version.ensures.value coding from.kind c.requires.bits.kinds,
          outline-counted coding from head c.args.bits.motion_and_dc c.requires.spelled c.requires.bits.motion_and_dc,
          outlined.bits,
        );
        few = omega (arith, c.from.ensures, c.head_in_version.ensures.few, c.requires.bits.few, c.requires.can.tallied.few);
        distortion = refl;
        small = omega (arith, c.requires.can.tallied.small);
      };
    }
