use Rattle.std.proofs.Common.{Option, IfSome, subst}
use Rattle.file_pieces.specs.declared.file_stream.OpenStream.{OpenStream}
use Rattle.file_pieces.specs.FileStream.{IsOpen}
use Rattle.file_pieces.proofs.Misfits.{part_told}
use Rattle.file_pieces.proofs.file_stream.FileStream.part.Goals as goal

pub returns-clause-told : goal.returns-clause-told
returns-clause-told c told place stands follows =
    let is : IsOpen told place c.in-Some.stream = subst (λ (o : Option OpenStream). IfSome o (IsOpen told place)) c.in-Some.is follows in
    part_told told place c.in-Some.stream c.args.from c.args.to c.in-Some-part.part.now stands is c.in-Some-part.ensures.some
