use Rattle.std.proofs.Common.{Some, refl, subst}
use Rattle.std.proofs.lemmas.Result.{on_ok_weaker}
use Rattle.requantiser.specs.Distortion.{coefficient_of_macroblock, difference_of}
use Rattle.requantiser.specs.Macroblocks.{IsCoarserAt}
use Rattle.requantiser.specs.Steps.{Step}
use Rattle.requantiser.specs.VersionState.{made_of}
use Rattle.version_maker.proofs.SpelledMade.{made-spelled}
use Rattle.version_maker.proofs.slice_version.make_macroblock.Goals as goal

pub write_where_coded-requires-clause-spelled : goal.write_where_coded-requires-clause-spelled
write_where_coded-requires-clause-spelled g c = λ coded.
    let state = c.args.state.now in
    let from = c.args.lent.now.from in
    let to = c.requantise_macroblock-coded.new.to.macroblock in
    made-spelled c.args.picture.seq.now c.args.picture.coding.now state.m c.args.inner state.source_code state.version_code from to c.requires.spelled
    (subst (λ b. IsCoarserAt c.args.picture.seq.now c.args.picture.coding.now state.m c.args.inner state.source_code state.version_code (Some from) (made_of b to)) coded
    c.requantise_macroblock-coded.ensures.at)

pub returns : goal.returns
returns g c =
    let seq = c.args.picture.seq.now in
    let coding = c.args.picture.coding.now in
    let from = c.args.lent.now.from in
    let made = c.requantise_macroblock-coded in
    let behind = made.new.state in
    let step : Step = record {
      from = from;
      made = made_of made.result made.new.to.macroblock;
      behind = behind;
      distortion = difference_of (coefficient_of_macroblock seq coding behind.source_code (Some from))
          (coefficient_of_macroblock seq coding behind.version_code (made_of made.result made.new.to.macroblock));
    } in
    on_ok_weaker c.write_where_coded.result
    (λ put. record {
      step = step;
      same = refl;
      is = record { at = made.ensures.at; state = made.ensures.behind; difference = refl };
      state = refl;
      put = put;
    }) c.write_where_coded.ensures
