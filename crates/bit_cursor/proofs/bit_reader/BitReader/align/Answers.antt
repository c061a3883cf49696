use Rattle.std.proofs.Common.{◌≡◌, ◌-◌, ◌*◌, ◌%◌, ◌∙◌, ap, arith}
use Rattle.bit_cursor.specs.BitReader.{bits_left}
use Rattle.shelf_io.specs.Source.{without_front}
use Rattle.bit_cursor.proofs.Left.{told_fewer}
use Rattle.bit_cursor.proofs.bit_reader.BitReader.align.Goals as goal

pub returns-clause-left : goal.returns-clause-left
returns-clause-left g c =
    let s = c.args.self.now in
    let h = s.held in
    let given : h % 8 ≡ 8 * s.taken - (h - h % 8) - (8 * s.taken - h) = omega arith in
    told_fewer (g.S.Source.left s.source.now) h (h % 8) s.word (omega arith) ∙ ap (without_front (bits_left s)) given
