use Rattle.std.proofs.Common.{Option, List, ℕ, sym, subst}
use Rattle.ts_demux.specs.CarriedMap.{HasStreams}
use Rattle.ts_demux.specs.Demux.{IsDemuxRefused}
use Rattle.ts_demux.specs.Pass.{HoldsOfFile, OnRefused}
use Rattle.passed_programs.specs.declared.passed_fault.PassedFault.{PassedFault}
use Rattle.passed_programs.specs.Private.Passes.{IsMapFault, IsOfTold, front_of}
use Rattle.passed_programs.proofs.Fronts.{file_front, front_is, map_refused}
use Rattle.passed_programs.proofs.passes.pass_map.Goals as goal

pub returns-in-Ok-clause-streams : goal.returns-in-Ok-clause-streams
returns-in-Ok-clause-streams g c =
    let front = front_is g.K.Shelf.files c.args.shelf.now c.args.file.now.name.now c.args.file.now.limit c.new-pass.result c.new-pass.ensures.shelf c.new-pass.ensures.name c.new-pass.ensures.limit
    c.new-pass.ensures.place in
    file_front _ _ _ _ (HasStreams c.args.number c.args.drop.now c.in-Ok.carried) _ _ front c.in-Ok.ensures.streams

pub returns-in-Err-clause-refused : goal.returns-in-Err-clause-refused
returns-in-Err-clause-refused g c =
    let front = front_is g.K.Shelf.files c.args.shelf.now c.args.file.now.name.now c.args.file.now.limit c.new-pass.result c.new-pass.ensures.shelf c.new-pass.ensures.name c.new-pass.ensures.limit
    c.new-pass.ensures.place in
    subst (IsOfTold (front_of (g.K.Shelf.files c.args.shelf.now) c.args.file.now.name.now c.args.file.now.limit) (IsMapFault c.args.number c.args.drop.now)) (sym c.pass_refused.ensures)
    (map_refused _ _ _ _ _ _ front c.args.number c.args.drop.now c.in-Err.fault c.in-Err.ensures.refused)
