use Rattle.std.specs.Option.{option_copied}
use Rattle.picture_reader.specs.declared.keep.Keep.TheVariants.{Nothing}
use Rattle.picture_reader.proofs.Units.{fault-of_picture, fault-of_refusal, read-headers, read-of_picture, read-of_refusal}
use Rattle.picture_reader.proofs.picture.check_picture.Goals as goal

pub returns-in-Ok-clause-ok : goal.returns-in-Ok-clause-ok
returns-in-Ok-clause-ok c = read-headers (option_copied c.args.before) c.args.unit.now Nothing c.in-Ok.walked c.in-Ok.ensures

pub returns-in-Ok-clause-of_picture : goal.returns-in-Ok-clause-of_picture
returns-in-Ok-clause-of_picture c = λ p a. read-of_picture (option_copied c.args.before) c.args.unit.now Nothing c.in-Ok.walked c.in-Ok.ensures p a

pub returns-in-Ok-clause-of_refusal : goal.returns-in-Ok-clause-of_refusal
returns-in-Ok-clause-of_refusal c = λ refusal place r. read-of_refusal (option_copied c.args.before) c.args.unit.now Nothing c.in-Ok.walked c.in-Ok.ensures refusal place r

pub returns-in-Err-clause-of_picture : goal.returns-in-Err-clause-of_picture
returns-in-Err-clause-of_picture c = λ p a. fault-of_picture (option_copied c.args.before) c.args.unit.now c.in-Err.fault c.in-Err.ensures p a

pub returns-in-Err-clause-of_refusal : goal.returns-in-Err-clause-of_refusal
returns-in-Err-clause-of_refusal c = λ refusal place q. fault-of_refusal (option_copied c.args.before) c.args.unit.now c.in-Err.fault c.in-Err.ensures refusal place q
