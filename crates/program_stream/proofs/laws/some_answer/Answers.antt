use Rattle.program_stream.proofs.SomeAnswer.{answer}
use Rattle.program_stream.proofs.laws.some_answer.Goals as goal

pub returns : goal.returns
returns c = answer c.args.file.now c.args.drop.now c.find_elements-elements.result c.find_elements-elements.ensures
