use Rattle.version_source_tests.proofs.asking.filled_with.Goals as goal

pub piece-requires-in-Err : goal.piece-requires-in-Err
piece-requires-in-Err c = record { piece = c.in-Err.ensures.still c.args.ask.stream c.args.ask.item c.args.ask.piece c.requires }

pub returns-in-Err : goal.returns-in-Err
returns-in-Err c = λ stream item piece has. c.piece-in-Err.ensures.still stream item piece (c.in-Err.ensures.still stream item piece has)
