use Rattle.bit_cursor.proofs.Left.{told_fewer}
use Rattle.bit_cursor.proofs.bit_reader.BitReader.skip.Goals as goal

pub returns-clause-left : goal.returns-clause-left
returns-clause-left g c =
    let s = c.args.self.now in
    told_fewer (g.S.Source.left s.source.now) s.held c.args.n s.word c.requires
