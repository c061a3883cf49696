use Rattle.version_source_tests.proofs.asking.piece_of.Goals as goal

pub filled_with-requires : goal.filled_with-requires
filled_with-requires c = c.requires.has c.args.ask.stream c.args.ask.item c.args.ask.piece c.in-Some.ensures

pub returns-in_err-filled : goal.returns-in_err-filled
returns-in_err-filled c = λ stream item piece has. c.filled_with.ensures stream item piece (c.requires.has stream item piece has)

pub returns : goal.returns
returns c = λ stream item piece has. c.filled_with.ensures stream item piece (c.requires.has stream item piece has)
