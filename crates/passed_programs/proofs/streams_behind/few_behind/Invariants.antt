use Rattle.std.proofs.Common.{ℕ, List, None, IfSome, map}
use Rattle.psi_tables.specs.declared.stream.Stream.{Stream}
use Rattle.file_pass.specs.FilePass.{ReadsUpTo}
use Rattle.passed_programs.specs.Private.Passes.{front_of}
use Rattle.passed_programs.proofs.Streams.{AreFewBetween}
use Rattle.passed_programs.proofs.streams_behind.few_behind.Given as goal

abbrev pub invariant-loop-index : goal.invariant-loop-index
invariant-loop-index g l = record {
  few : IfSome (front_of (g.K.Shelf.files l.fn.shelf) l.file.name.now l.file.limit) (λ whole. AreFewBetween whole (map (λ (stream : Stream). stream.pid) l.streams) l.from l.index);
  reads : ReadsUpTo g.K.Shelf.files g.K.Shelf.counts g.K.Shelf.asked g.K.Shelf.since_fault l.file.name.now l.file.limit None l.fn.shelf l.shelf;
}
