use Rattle.std.proofs.Common.{Option, map, subst}
use Rattle.psi_tables.specs.declared.stream.Stream.{Stream}
use Rattle.shelf_io.specs.declared.fault.Fault.{Fault}
use Rattle.file_pass.specs.FilePass.{ReadsUpTo}
use Rattle.passed_programs.specs.Private.Passes.{front_of}
use Rattle.passed_programs.proofs.Streams.{ended_told, few_told, stop_told}
use Rattle.passed_programs.proofs.streams_behind.few_end.Goals as goal

pub returns-clause-few : goal.returns-clause-few
returns-clause-few g c =
    few_told (front_of (g.K.Shelf.files c.args.shelf.now) c.args.file.now.name.now c.args.file.now.limit) (map (λ (stream : Stream). stream.pid) c.args.streams.now) c.args.index _ c.pass_audio-passed.result
    c.ended.result c.ended.ensures c.pass_audio-passed.ensures.read c.pass_audio-passed.ensures.stopped

pub returns-clause-refused : goal.returns-clause-refused
returns-clause-refused g c =
    ended_told (front_of (g.K.Shelf.files c.args.shelf.now) c.args.file.now.name.now c.args.file.now.limit) (map (λ (stream : Stream). stream.pid) c.args.streams.now) _ c.pass_audio-passed.result
    c.ended.result c.ended.ensures c.pass_audio-passed.ensures.stopped

pub returns-clause-reads : goal.returns-clause-reads
returns-clause-reads g c =
    subst (λ (stop : Option Fault). ReadsUpTo g.K.Shelf.files g.K.Shelf.counts g.K.Shelf.asked g.K.Shelf.since_fault c.args.file.now.name.now c.args.file.now.limit stop c.args.shelf.now c.pass_audio-passed.new.shelf)
    (stop_told c.pass_audio-passed.result c.ended.result c.ended.ensures) c.pass_audio-passed.ensures.reads
