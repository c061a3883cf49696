use Rattle.std.proofs.Common.{◌≡◌, true, map}
use Rattle.program_reader.specs.KeptUnits.{kept_at}
use Rattle.program_reader.specs.Sizes.{AreSizedSoFar}
use Rattle.program_reader.specs.Units.{state_behind}
use Rattle.program_reader.proofs.KeepLemmas.{KeptSoFar}
use Rattle.program_reader.proofs.kept_units.keep_units.Given as goal

abbrev pub invariant-loop-at : goal.invariant-loop-at
invariant-loop-at l = record {
  so_far : KeptSoFar l.video.payload.items l.video.packets.items l.cuts l.at l.left l.kept;
  sized : l.wanted.are_wanted ≡ true → AreSizedSoFar l.video.payload.items l.wanted.coarser.now (state_behind l.kept.last) (map kept_at l.kept.units.items) l.sizes.items;
}
