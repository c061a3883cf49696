use Rattle.std.proofs.Common.{◌-◌, sym, ◌∙◌, arith}
use Rattle.list_types.proofs.Search.{find_range}
use Rattle.list_types.proofs.Search.{find_none}
use Rattle.es_units.specs.Pictures.{begins_picture}
use Rattle.es_units.proofs.picture_places.find_picture.Goals as goal

pub returns-then-begins_picture : goal.returns-then-begins_picture
returns-then-begins_picture c =
    sym (find_range (begins_picture c.args.es.now) (c.args.end - c.args.from) c.args.from c.loop-at.at (omega arith) (omega arith)
    (sym c.begins_picture.ensures ∙ c.if-begins_picture.true) (λ at b u. c.loop-at.invariant at b u))

pub returns : goal.returns
returns c = sym (find_none (begins_picture c.args.es.now) (c.args.end - c.args.from) c.args.from (λ at b u. c.loop-at.invariant at b (omega arith)))
