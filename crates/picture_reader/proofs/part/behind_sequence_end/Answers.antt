use Rattle.std.proofs.Common.{◌∷◌, ◌+◌, [], drop, arith}
use Rattle.picture_reader.proofs.Parts.{end-none, end-byte, end-prefix}
use Rattle.picture_reader.proofs.part.behind_sequence_end.Goals as goal

pub returns-in-End : goal.returns-in-End
returns-in-End c = let (count, split) = c.in-End.ensures.seen in end-none c.args.unit.now c.args.at count split

pub returns-in-Byte : goal.returns-in-Byte
returns-in-Byte c = let (left, r, e) = end-byte c.args.unit.now c.args.at c.in-Byte.place c.in-Byte.ensures.seen in (left, r, omega (arith, e, c.bit_place.ensures))

pub returns-in-Cut : goal.returns-in-Cut
returns-in-Cut c = let (left, r, e) = end-prefix c.args.unit.now c.args.at c.in-Cut.place [] c.in-Cut.ensures.seen in (left, r, omega (arith, e, c.bit_place-in-Cut.ensures))

pub returns-in-Code : goal.returns-in-Code
returns-in-Code c =
    let (left, r, e) = end-prefix c.args.unit.now c.args.at c.in-Code.place (c.in-Code.code ∷ drop (c.in-Code.place + 4) c.args.unit.now) c.in-Code.ensures.seen in
    (left, r, omega (arith, e, c.bit_place-in-Code.ensures))
