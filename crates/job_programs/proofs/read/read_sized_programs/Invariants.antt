use Rattle.std.proofs.Common.{◌≡◌, take}
use Rattle.job_programs.specs.Sizes.{AreJobSizes}
use Rattle.job_programs.specs.Told.{AsksForPrograms, CountReads, ReadsEnd}
use Rattle.job_programs.specs.Private.ReadSoFar.{ReadSoFar}
use Rattle.job_programs.proofs.read.read_sized_programs.Given as goal

abbrev pub invariant-loop-wanted : goal.invariant-loop-wanted
invariant-loop-wanted g l = record {
  read : ReadSoFar (g.K.Shelf.files l.fn.shelf) l.job.slot l.job.start (take l.wanted-index l.jobs) l.programs l.bytes l.units;
  sized : AreJobSizes (take l.wanted-index l.jobs) l.programs l.sizes;
  place : l.place ≡ l.wanted-index;
  files : g.K.Shelf.files l.shelf ≡ g.K.Shelf.files l.fn.shelf;
  asked : AsksForPrograms l.job.programs (g.K.Shelf.asked l.fn.shelf) (g.K.Shelf.asked l.shelf);
  counts : CountReads (g.K.Shelf.counts l.fn.shelf) (g.K.Shelf.counts l.shelf);
  ends : ReadsEnd ⊥ ⊥ (g.K.Shelf.counts l.fn.shelf) (g.K.Shelf.counts l.shelf) 0;
}
