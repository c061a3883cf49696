use Rattle.std.proofs.Common.{◌≡◌, ◌≤◌, ◌+◌, ◌-◌, length, vec_len, take, min}
use Rattle.shelf_io.specs.Asked.{AsksUpTo}
use Rattle.shelf_io.specs.Causes.{ReadCauses}
use Rattle.shelf_io.specs.Files.{IfTold}
use Rattle.shelf_io.proofs.whole_file.read_file.Given as goal

abbrev pub invariant-loop-count : goal.invariant-loop-count
invariant-loop-count g l = record {
  within : vec_len l.bytes ≤ l.most;
  told : IfTold (g.K.Shelf.files l.fn.shelf) l.name (λ content. (l.bytes.items ≡ take (length l.bytes.items) content) × (l.count ≡ 0 → length content ≤ length l.bytes.items));
  files : g.K.Shelf.files l.shelf ≡ g.K.Shelf.files l.fn.shelf;
  asked : AsksUpTo l.name l.most (g.K.Shelf.asked l.fn.shelf) (g.K.Shelf.asked l.shelf);
  causes : ReadCauses ⊥ ⊥ (g.K.Shelf.counts l.fn.shelf) (g.K.Shelf.counts l.shelf);
}

abbrev pub decreases-loop-count : goal.decreases-loop-count
decreases-loop-count g l = l.most - vec_len l.bytes + min l.count 1
