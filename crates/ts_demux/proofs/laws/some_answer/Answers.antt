use Rattle.ts_demux.proofs.SomeAnswer as answers
use Rattle.ts_demux.proofs.laws.some_answer.Goals as goal

pub returns : goal.returns
returns c = answers.some_answer c.args.file.now c.args.program c.args.drop.now c.find_map-tables.result c.find_map-tables.ensures
