use Rattle.std.specs.Option.{option_copied}
use Rattle.picture_reader.specs.PictureFault.{refusal_told}
use Rattle.picture_reader.proofs.Units.{head-told}
use Rattle.picture_reader.proofs.cursor.UnitCursor.new.Goals as goal

pub returns-in-Err : goal.returns-in-Err
returns-in-Err c = head-told (option_copied c.args.before) c.args.unit.now (refusal_told c.in-Err.fault) c.in-Err.ensures
