use Rattle.std.proofs.Common.{Option, IfErr, IfOk, sym, subst}
use Rattle.shelf_io.specs.Files.{Files}
use Rattle.file_pass.proofs.Later.{reads_twice}
use Rattle.job_report.specs.declared.job.Form.TheVariants.{Ts}
use Rattle.ts_demux.specs.CarriedMap.{HasStreams}
use Rattle.program_reader.specs.Programs.{IsProgramRefused}
use Rattle.passed_programs.specs.PassedFile.{IsPassedProgram, stop_in}
use Rattle.passed_programs.specs.Private.Passes.{IsOfTold, front_of}
use Rattle.passed_programs.proofs.Carried.{map_step}
use Rattle.passed_programs.proofs.Streams.{front_again}
use Rattle.passed_programs.proofs.Together.{HoldsTold}
use Rattle.passed_programs.proofs.file_program.pass_streams.Goals as goal

pub pass_carried-requires-clause-map : goal.pass_carried-requires-clause-map
pass_carried-requires-clause-map g c =
    front_again (g.K.Shelf.files c.pass_map.new.shelf) (g.K.Shelf.files c.args.shelf.now) c.args.file.now.name.now c.args.file.now.limit (sym c.in-Ok-pass_map.ensures.reads.same_files)
    (HasStreams c.args.wanted.now.number c.args.wanted.now.drop.now c.in-Ok-pass_map.carried) c.in-Ok-pass_map.ensures.streams

pub returns-in-Ok-pass_map-clause-program : goal.returns-in-Ok-pass_map-clause-program
returns-in-Ok-pass_map-clause-program g c =
    subst (λ (told : Option Files). IfOk c.pass_carried.result (IsPassedProgram c.args.wanted.now.start c.args.file.now.limit c.args.sizes
    (HoldsTold (front_of told c.args.file.now.name.now c.args.file.now.limit) c.args.wanted.now.number c.args.wanted.now.drop.now c.args.wanted.now.start)))
    c.in-Ok-pass_map.ensures.reads.same_files c.pass_carried.ensures.program

pub returns-in-Ok-pass_map-clause-refused : goal.returns-in-Ok-pass_map-clause-refused
returns-in-Ok-pass_map-clause-refused g c =
    subst (λ (told : Option Files). IfErr c.pass_carried.result (IsOfTold (front_of told c.args.file.now.name.now c.args.file.now.limit)
    (λ whole. IsProgramRefused Ts whole c.args.wanted.now.number c.args.wanted.now.drop.now))) c.in-Ok-pass_map.ensures.reads.same_files c.pass_carried.ensures.refused

pub returns-in-Ok-pass_map-clause-reads : goal.returns-in-Ok-pass_map-clause-reads
returns-in-Ok-pass_map-clause-reads g c =
    reads_twice g.K.Shelf.files g.K.Shelf.counts g.K.Shelf.asked g.K.Shelf.since_fault c.args.file.now.name.now c.args.file.now.limit (stop_in c.pass_carried.result) c.args.shelf.now c.pass_map.new.shelf
    c.pass_carried.new.shelf c.in-Ok-pass_map.ensures.reads c.pass_carried.ensures.reads

pub returns-clause-refused : goal.returns-clause-refused
returns-clause-refused g c =
    map_step (g.K.Shelf.files c.args.shelf.now) c.args.file.now.name.now c.args.file.now.limit c.args.wanted.now.number c.args.wanted.now.drop.now c.in-Err-pass_map.fault c.requires.limit c.in-Err-pass_map.ensures.refused
