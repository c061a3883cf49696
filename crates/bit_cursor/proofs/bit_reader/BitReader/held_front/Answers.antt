use Rattle.std.proofs.Common.{refl}
use Rattle.bit_cursor.specs.BitReader.{bits_left}
use Rattle.bit_cursor.proofs.Fronts.{told_front}
use Rattle.bit_cursor.proofs.bit_reader.BitReader.held_front.Goals as goal

pub returns-clause-value : goal.returns-clause-value
returns-clause-value g c =
    let s = c.args.self.now in
    rw c.lowest.ensures (told_front (g.S.Source.left s.source.now) (bits_left s) s.held c.args.n s.word c.requires.held refl)
