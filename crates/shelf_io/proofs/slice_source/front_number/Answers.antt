use Rattle.std.proofs.Common.{rules, ◌<◌, ◌^◌, arith}
use Rattle.shelf_io.proofs.Numbers.{front_is, front_below}
use Rattle.shelf_io.proofs.slice_source.front_number.Goals as goal

pub returns-clause-front : goal.returns-clause-front
returns-clause-front c =
    front_is c.args.bytes.now c.from_be_bytes-word.result c.args.count (λ i. omega (arith, c.type_inv.bytes i)) c.requires.long c.from_be_bytes-word.ensures c.requires.some c.requires.few

pub returns-clause-below : goal.returns-clause-below
returns-clause-below c =
    let fits : c.from_be_bytes-word.result < 2 ^ 32 = search rules in
    front_below c.from_be_bytes-word.result c.args.count fits c.requires.some c.requires.few
