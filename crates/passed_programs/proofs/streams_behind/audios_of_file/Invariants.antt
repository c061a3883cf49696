use Rattle.std.proofs.Common.{◌≡◌, ◌+◌, ◌≤◌, List, None, length, map}
use Rattle.psi_tables.specs.declared.stream.Stream.{Stream}
use Rattle.file_pass.specs.FilePass.{ReadsUpTo}
use Rattle.passed_programs.specs.Private.Passes.{AreAudiosPassed, front_of}
use Rattle.passed_programs.proofs.streams_behind.audios_of_file.Given as goal

abbrev pub invariant-loop-index : goal.invariant-loop-index
invariant-loop-index g l = record {
  read : AreAudiosPassed (front_of (g.K.Shelf.files l.fn.shelf) l.file.name.now l.file.limit) (map (λ (stream : Stream). stream.pid) l.streams) l.first.time 1 l.audios;
  count : 1 + length l.audios ≡ l.index;
  within : l.index ≤ length l.streams;
  reads : ReadsUpTo g.K.Shelf.files g.K.Shelf.counts g.K.Shelf.asked g.K.Shelf.since_fault l.file.name.now l.file.limit None l.fn.shelf l.shelf;
}
