use Rattle.std.proofs.Common.{refl, arith}
use Rattle.requantiser.specs.Steps.{Step}
use Rattle.version_maker.proofs.slice_count.count_emptied.Goals as goal

pub returns : goal.returns
returns c =
    let made = c.outline_macroblock-made in
    let outlined = made.ensures.outlined in
    let step : Step = record { from = c.args.from.now; made = outlined.made; behind = made.new.state; distortion = made.result.distortion } in
    record {
      step = step;
      same = refl;
      is = record { at = outlined.at; state = outlined.state; difference = outlined.difference };
      counted = record {
        state = refl;
        bits = omega (arith, c.from.ensures, c.outline_bits-outline.ensures.value, outlined.bits);
        few = omega (arith, c.from.ensures, c.outline_bits-outline.ensures.few, made.ensures.few);
        distortion = refl;
        small = omega (arith, made.ensures.small);
      };
    }
