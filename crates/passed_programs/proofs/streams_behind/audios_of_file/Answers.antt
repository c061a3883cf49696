use Rattle.std.proofs.Common.{◌≡◌, ℕ, ◌+◌, ◌∷◌, [], ◌++◌, List, Option, None, length, map, ap, sym, subst, arith, length-append}
use Rattle.psi_tables.specs.declared.stream.Stream.{Stream}
use Rattle.shelf_io.specs.Files.{Files}
use Rattle.elementary_streams.specs.declared.audio_stream.ReadStream.{ReadStream}
use Rattle.file_pass.proofs.Later.{reads_none, reads_twice}
use Rattle.stream_pass.specs.PassedStream.{IsOfStream}
use Rattle.passed_programs.specs.PassedAudio.{ReadsAudio}
use Rattle.passed_programs.specs.PassedFile.{stop_of}
use Rattle.passed_programs.specs.Private.Passes.{AreAudiosPassed, IsAudioFaultAt, IsOfTold, OfFront, front_of}
use Rattle.passed_programs.proofs.Streams.{again, audio_more, audios_fault, front_again}
use Rattle.passed_programs.proofs.streams_behind.audios_of_file.Goals as goal

pub returns-in-Err-clause-refused : goal.returns-in-Err-clause-refused
returns-in-Err-clause-refused g c =
    let before = c.loop-index.invariant in
    let here : c.loop-index.index ≡ 1 + length c.loop-index.audios = sym before.count in
    audios_fault (front_of (g.K.Shelf.files c.args.shelf.now) c.args.file.now.name.now c.args.file.now.limit) (map (λ (stream : Stream). stream.pid) c.args.streams.now) c.args.first.time c.loop-index.audios
    c.in-Err.fault before.read
    (subst (λ (k : ℕ). IsOfTold (front_of (g.K.Shelf.files c.args.shelf.now) c.args.file.now.name.now c.args.file.now.limit)
    (IsAudioFaultAt (map (λ (stream : Stream). stream.pid) c.args.streams.now) k c.args.first.time) c.in-Err.fault) here
    (again (g.K.Shelf.files c.args.shelf.now) (g.K.Shelf.files c.loop-index.shelf) c.args.file.now.name.now c.args.file.now.limit before.reads.same_files
    (IsAudioFaultAt (map (λ (stream : Stream). stream.pid) c.args.streams.now) c.loop-index.index c.args.first.time) c.in-Err.fault c.in-Err.ensures.refused))

pub returns-in-Err-clause-reads : goal.returns-in-Err-clause-reads
returns-in-Err-clause-reads g c =
    reads_twice g.K.Shelf.files g.K.Shelf.counts g.K.Shelf.asked g.K.Shelf.since_fault c.args.file.now.name.now c.args.file.now.limit (stop_of c.in-Err.fault) c.args.shelf.now c.loop-index.shelf
    c.audio_of_file.new.shelf c.loop-index.invariant.reads c.in-Err.ensures.reads

pub loop-index-preserved : goal.loop-index-preserved
loop-index-preserved g c =
    let before = c.loop-index.invariant in
    let here : c.loop-index.index ≡ 1 + length c.loop-index.audios = sym before.count in
    let next = subst (λ (k : ℕ). OfFront (front_of (g.K.Shelf.files c.args.shelf.now) c.args.file.now.name.now c.args.file.now.limit)
    (λ whole. IsOfStream whole (map (λ (stream : Stream). stream.pid) c.args.streams.now) k (ReadsAudio c.args.first.time) c.in-Ok.read)) here
    (front_again (g.K.Shelf.files c.args.shelf.now) (g.K.Shelf.files c.loop-index.shelf) c.args.file.now.name.now c.args.file.now.limit before.reads.same_files
    (λ whole. IsOfStream whole (map (λ (stream : Stream). stream.pid) c.args.streams.now) c.loop-index.index (ReadsAudio c.args.first.time) c.in-Ok.read) c.in-Ok.ensures.read) in
    let grew : length c.push.new.self ≡ length (c.loop-index.audios ++ c.in-Ok.read ∷ []) = ap (λ (xs : List ReadStream). length xs) c.in-Ok-push.ensures.ok in
    let all : AreAudiosPassed (front_of (g.K.Shelf.files c.args.shelf.now) c.args.file.now.name.now c.args.file.now.limit) (map (λ (stream : Stream). stream.pid) c.args.streams.now) c.args.first.time 1
    (c.loop-index.audios ++ c.in-Ok.read ∷ []) =
    audio_more (front_of (g.K.Shelf.files c.args.shelf.now) c.args.file.now.name.now c.args.file.now.limit) (map (λ (stream : Stream). stream.pid) c.args.streams.now) c.args.first.time 1 c.loop-index.audios
    c.in-Ok.read before.read next in
    record {
      read = subst (AreAudiosPassed (front_of (g.K.Shelf.files c.args.shelf.now) c.args.file.now.name.now c.args.file.now.limit) (map (λ (stream : Stream). stream.pid) c.args.streams.now) c.args.first.time 1)
          (sym c.in-Ok-push.ensures.ok) all;
      count = omega (arith, grew, length-append c.loop-index.audios (c.in-Ok.read ∷ []), before.count);
      within = omega (arith, c.loop-index-test.true);
      reads = reads_twice g.K.Shelf.files g.K.Shelf.counts g.K.Shelf.asked g.K.Shelf.since_fault c.args.file.now.name.now c.args.file.now.limit None c.args.shelf.now c.loop-index.shelf
          c.audio_of_file.new.shelf before.reads c.in-Ok.ensures.reads;
    }
