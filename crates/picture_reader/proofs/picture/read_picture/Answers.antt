use Rattle.std.specs.Option.{option_copied}
use Rattle.picture_reader.proofs.Units.{fault-of_picture, fault-of_refusal, never-refused, one-picture}
use Rattle.picture_reader.proofs.picture.read_picture.Goals as goal

pub returns-in-Ok-clause-of_picture : goal.returns-in-Ok-clause-of_picture
returns-in-Ok-clause-of_picture c = λ p a. one-picture (option_copied c.args.before) c.args.unit.now c.in-Ok.picture p c.in-Ok.ensures a

pub returns-in-Ok-clause-of_refusal : goal.returns-in-Ok-clause-of_refusal
returns-in-Ok-clause-of_refusal c = λ refusal place r. never-refused (option_copied c.args.before) c.args.unit.now c.in-Ok.picture refusal place c.in-Ok.ensures r

pub returns-in-Err-clause-of_picture : goal.returns-in-Err-clause-of_picture
returns-in-Err-clause-of_picture c = λ p a. fault-of_picture (option_copied c.args.before) c.args.unit.now c.in-Err.fault c.in-Err.ensures p a

pub returns-in-Err-clause-of_refusal : goal.returns-in-Err-clause-of_refusal
returns-in-Err-clause-of_refusal c = λ refusal place q. fault-of_refusal (option_copied c.args.before) c.args.unit.now c.in-Err.fault c.in-Err.ensures refusal place q
