use Rattle.std.proofs.Common.{◌≤◌, Option, None, length, map, refl, arith}
use Rattle.psi_tables.specs.declared.stream.Stream.{Stream}
use Rattle.file_pass.proofs.Later.{reads_none, reads_twice}
use Rattle.passed_programs.specs.PassedFile.{stop_of}
use Rattle.passed_programs.specs.Private.Passes.{EndsPasses, IsFew, front_of}
use Rattle.passed_programs.proofs.Streams.{again, few_more, few_none, few_whole, some_again}
use Rattle.passed_programs.proofs.streams_behind.few_behind.Goals as goal

pub loop-index-init : goal.loop-index-init
loop-index-init g c = record {
  few = few_none (front_of (g.K.Shelf.files c.args.shelf.now) c.args.file.now.name.now c.args.file.now.limit) (map (λ (stream : Stream). stream.pid) c.args.streams.now) c.args.from;
  reads = reads_none g.K.Shelf.files g.K.Shelf.counts g.K.Shelf.asked g.K.Shelf.since_fault c.args.file.now.name.now c.args.file.now.limit c.args.shelf.now;
}

pub loop-index-preserved : goal.loop-index-preserved
loop-index-preserved g c =
    let before = c.loop-index.invariant in
    record {
      few = few_more (front_of (g.K.Shelf.files c.args.shelf.now) c.args.file.now.name.now c.args.file.now.limit) (map (λ (stream : Stream). stream.pid) c.args.streams.now) c.args.from c.loop-index.index before.few
          (some_again (g.K.Shelf.files c.args.shelf.now) (g.K.Shelf.files c.loop-index.shelf) c.args.file.now.name.now c.args.file.now.limit before.reads.same_files
          (λ whole. IsFew whole (map (λ (stream : Stream). stream.pid) c.args.streams.now) c.loop-index.index) (c.in-None.ensures.few refl));
      reads = reads_twice g.K.Shelf.files g.K.Shelf.counts g.K.Shelf.asked g.K.Shelf.since_fault c.args.file.now.name.now c.args.file.now.limit None c.args.shelf.now c.loop-index.shelf c.few_end.new.shelf
          before.reads c.in-None.ensures.reads;
    }

pub returns-in-Some-clause-refused : goal.returns-in-Some-clause-refused
returns-in-Some-clause-refused g c =
    again (g.K.Shelf.files c.args.shelf.now) (g.K.Shelf.files c.loop-index.shelf) c.args.file.now.name.now c.args.file.now.limit c.loop-index.invariant.reads.same_files
    (EndsPasses (map (λ (stream : Stream). stream.pid) c.args.streams.now)) c.in-Some.fault c.in-Some.ensures.refused

pub returns-in-Some-clause-reads : goal.returns-in-Some-clause-reads
returns-in-Some-clause-reads g c =
    reads_twice g.K.Shelf.files g.K.Shelf.counts g.K.Shelf.asked g.K.Shelf.since_fault c.args.file.now.name.now c.args.file.now.limit (stop_of c.in-Some.fault) c.args.shelf.now c.loop-index.shelf c.few_end.new.shelf
    c.loop-index.invariant.reads c.in-Some.ensures.reads

pub returns-clause-few : goal.returns-clause-few
returns-clause-few g c =
    let past : length c.args.streams.now ≤ c.loop-index.index = omega (arith, c.loop-index-test.false) in
    few_whole (front_of (g.K.Shelf.files c.args.shelf.now) c.args.file.now.name.now c.args.file.now.limit) c.args.streams.now c.args.from c.loop-index.index past c.loop-index.invariant.few
