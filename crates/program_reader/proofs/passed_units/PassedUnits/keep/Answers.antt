use Rattle.std.proofs.Common.{Option, sym, subst, ◌∙◌}
use Rattle.program_reader.specs.declared.timed_picture.TimedPicture.{TimedPicture}
use Rattle.program_reader.specs.Private.TimedPictures.{IsNotFound}
use Rattle.program_reader.proofs.passed_units.PassedUnits.keep.Goals as goal

pub returns-in-Err-clause-found : goal.returns-in-Err-clause-found
returns-in-Err-clause-found c es packets earlier own same tells are =
    subst (λ (b : Option TimedPicture). IsNotFound es packets b c.args.unit.now c.in-Err.fault) c.as_ref.ensures.value
    (c.in-Err.ensures.found es packets earlier own (same ∙ sym c.as_ref.ensures.value) tells are)
