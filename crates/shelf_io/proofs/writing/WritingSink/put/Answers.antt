use Rattle.shelf_io.proofs.OneFile.{put_told, put_others, put_held}
use Rattle.std.proofs.Common.{refl}
use Rattle.shelf_io.proofs.writing.WritingSink.put.Goals as goal

pub returns-clause-ok : goal.returns-clause-ok
returns-clause-ok g c = put_told c.append.result _ _ c.args.self.now.name.now c.args.piece.now c.append.ensures.ok

pub returns-clause-keeps : goal.returns-clause-keeps
returns-clause-keeps g c = record {
  same_shelf = refl;
  same_name = refl;
  same_others = put_others c.append.result _ _ c.args.self.now.name.now c.args.piece.now c.append.ensures.ok c.append.ensures.err;
  still_held = put_held c.append.result _ _ c.args.self.now.name.now c.args.piece.now c.append.ensures.ok c.append.ensures.err;
  same_faults = c.append.ensures.causes.same_faults;
  same_absences = c.append.ensures.causes.same_absences;
  asks_nothing = c.append.ensures.asked;
}
