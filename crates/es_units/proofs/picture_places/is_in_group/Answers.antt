use Rattle.std.proofs.Common.{◌-◌, ◌+◌, ◌==◌, sym, ◌∙◌, arith}
use Rattle.stream_constants.specs.declared.start_codes.TheConstants.{GROUP}
use Rattle.es_units.specs.StartCodes.{has_code}
use Rattle.es_units.proofs.Places.{some_place, none_passes}
use Rattle.es_units.proofs.picture_places.is_in_group.Goals as goal

pub returns-then-has_code : goal.returns-then-has_code
returns-then-has_code c =
    sym (some_place (has_code (λ value. value == GROUP) c.args.es.now) (c.args.at - (c.args.at + 1 - 8)) (c.args.at + 1 - 8) c.loop-group.group (omega arith) (omega arith)
    (sym c.has_code.ensures ∙ c.if-has_code.true))

pub returns : goal.returns
returns c =
    sym (none_passes (has_code (λ value. value == GROUP) c.args.es.now) (c.args.at - (c.args.at + 1 - 8)) (c.args.at + 1 - 8) (λ at b u. c.loop-group.invariant at (omega arith) (omega arith)))
