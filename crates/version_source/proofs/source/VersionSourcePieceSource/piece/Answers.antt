use Rattle.version_source.specs.Versions.{ratios_of}
use Rattle.version_source.proofs.SourceLemmas.{answered, asked}
use Rattle.version_source.proofs.source.VersionSourcePieceSource.piece.Goals as goal

pub piece_of_stream-requires-clause-piece : goal.piece_of_stream-requires-clause-piece
piece_of_stream-requires-clause-piece c =
    let chosen = c.self.inside.chosen in
    asked chosen.programs.now (ratios_of chosen.jobs.now) chosen.choice.now chosen.made c.args.self.now c.args.stream c.args.item c.args.piece c.self.view_is c.requires.piece

pub returns-clause-told : goal.returns-clause-told
returns-clause-told c =
    let chosen = c.self.inside.chosen in
    answered chosen.programs.now (ratios_of chosen.jobs.now) chosen.choice.now chosen.made c.args.self.now c.args.stream c.args.item c.args.piece c.piece_of_stream.result
    c.piece_of_stream.new.into c.self.view_is c.piece_of_stream.ensures.piece
