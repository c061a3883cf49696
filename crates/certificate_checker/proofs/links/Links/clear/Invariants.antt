use Rattle.certificate_checker.specs.Private.Neighbours.{IsRow, KeepsLinkRoom}
use Rattle.certificate_checker.proofs.links.Links.clear.Given as goal

abbrev pub invariant-loop-at : goal.invariant-loop-at
invariant-loop-at l = record {
  row : IsRow l.at l.self;
  room : KeepsLinkRoom l.fn.self l.self;
}
