use Rattle.std.proofs.Common.{◌≡◌, ◌-◌, ◌≤◌}
use Rattle.file_pieces.specs.Lane.{IsVideoHeld}
use Rattle.file_pieces.specs.LaneState.{IsVideoKept}
use Rattle.file_pieces.specs.Reads.{ReadsFile}
use Rattle.file_pieces.proofs.lane_state.LaneState.go_to.Given as goal

abbrev pub invariant-loop-self : goal.invariant-loop-self
invariant-loop-self g l = record {
  kept : IsVideoKept (g.K.Shelf.files l.shelf) l.lane l.self;
  told : IsVideoHeld (g.K.Shelf.files l.shelf) l.lane;
  files : g.K.Shelf.files l.shelf ≡ g.K.Shelf.files l.fn.shelf;
  within : l.self.next ≤ l.number;
  reads : ReadsFile l.lane.stream.name.now ⊥ ⊥ (g.K.Shelf.files l.fn.shelf) (g.K.Shelf.files l.shelf) (g.K.Shelf.counts l.fn.shelf) (g.K.Shelf.counts l.shelf)
      (g.K.Shelf.since_fault l.shelf) (g.K.Shelf.asked l.fn.shelf) (g.K.Shelf.asked l.shelf);
}

abbrev pub decreases-loop-self : goal.decreases-loop-self
decreases-loop-self g l = l.number - l.self.next
