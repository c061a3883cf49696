use Rattle.std.proofs.Common.{◌≡◌, ◌+◌, ◌<◌, ◌++◌, ℕ, Option, ◌∙◌, ap, ap₂, arith, length, drop, unwrap_or}
use Rattle.std.specs.Prelude.{◌==◌, ◌&&◌, not, is_some}
use Rattle.std.specs.Option.{option_to_list}
use Rattle.syntax_types.specs.declared.macroblock.Macroblock.{Macroblock}
use Rattle.requantiser.specs.Private.Walk.{coarsened_macroblock, coarsened_macroblocks}
use Rattle.requantiser.proofs.MacroblockSteps.{one_macroblock, one_span, none_or}
use Rattle.requantiser.proofs.slice.coarsen_macroblocks.Goals as goal

pub loop-i-preserved : goal.loop-i-preserved
loop-i-preserved c =
    let within : c.loop-i.i < length c.args.macroblocks.now = c.loop-i-test.true in
    let from : Macroblock = c.index-macroblocks-i.result in
    let code : ℕ = c.loop-i.state.source_code in
    let before : ℕ = c.loop-i.state.version_code in
    let skipped : ℕ = c.loop-i.state.skipped in
    let made : Option Macroblock = coarsened_macroblock c.args.picture.seq.now c.args.picture.coding.now c.loop-i.state.m c.is_inner-inner.result
    (unwrap_or from.code code) before (skipped + from.skipped_before) from in
    let behind = c.in_ok-add_macroblock.ensures.behind in
    let is : made ≡ coarsened_macroblock c.args.picture.seq.now c.args.picture.coding.now c.args.start.m
    (not (c.loop-i.i == 0) && not (c.loop-i.i + 1 == length c.args.macroblocks.now)) (unwrap_or from.code code) before
    (skipped + from.skipped_before) from =
    ap₂ (λ m inner. coarsened_macroblock c.args.picture.seq.now c.args.picture.coding.now m inner (unwrap_or from.code code) before
    (skipped + from.skipped_before) from) c.loop-i.invariant.ratio c.is_inner-inner.ensures in
    let spans = one_span c.args.macroblocks.now c.loop-i.i from from c.index-macroblocks-i.is within in
    let waiting = none_or (is_some made) (skipped + from.skipped_before + 1) in
    record {
      ratio = behind.ratio ∙ c.loop-i.invariant.ratio;
      rest =
          ap (λ xs. xs ++ coarsened_macroblocks c.args.picture.seq.now c.args.picture.coding.now c.args.start.m
          (c.loop-i.i + 1 == 0) c.add_macroblock.new.state.source_code c.add_macroblock.new.state.version_code c.add_macroblock.new.state.skipped
          (drop (c.loop-i.i + 1) c.args.macroblocks.now))
          c.in_ok-add_macroblock.ensures.made
          ∙ ap (λ n. (c.loop-i.made ++ option_to_list made) ++ coarsened_macroblocks c.args.picture.seq.now c.args.picture.coding.now c.args.start.m
          (c.loop-i.i + 1 == 0) n c.add_macroblock.new.state.version_code c.add_macroblock.new.state.skipped
          (drop (c.loop-i.i + 1) c.args.macroblocks.now))
          behind.source_code
          ∙ ap₂ (λ n k. (c.loop-i.made ++ option_to_list made)
          ++ coarsened_macroblocks c.args.picture.seq.now c.args.picture.coding.now c.args.start.m (c.loop-i.i + 1 == 0) (unwrap_or from.code code) n k
          (drop (c.loop-i.i + 1) c.args.macroblocks.now))
          behind.version_code behind.skipped
          ∙ one_macroblock c.args.picture.seq.now c.args.picture.coding.now c.args.start.m code before skipped c.loop-i.i c.args.macroblocks.now c.loop-i.made _ from
          from made c.index-macroblocks-i.is within is c.loop-i.invariant.rest;
      room = omega (arith, behind.skipped, spans, waiting, c.loop-i.invariant.room);
    }
