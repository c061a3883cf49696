use Rattle.std.proofs.Common.{drop}
use Rattle.certificate_checker.specs.Shown.{unfixed}
use Rattle.certificate_checker.specs.Walk.{Walked, Walks}
use Rattle.certificate_checker.specs.Private.Paths.{Ahead, IsPath, KeepsRoom}
use Rattle.certificate_checker.specs.Private.Tallies.{IsTold, KeepsTallyRoom}
use Rattle.certificate_checker.proofs.walk.walk.Given as goal

-- what comes of the nodes that are left comes of all
abbrev pub invariant-loop-at : goal.invariant-loop-at
invariant-loop-at l = record {
  path : IsPath l.table l.path;
  room : KeepsRoom l.fn.path l.path;
  tally : IsTold l.table l.path l.tally;
  tally_room : KeepsTallyRoom l.fn.tally l.tally;
  ahead : (whole : Walked) → Ahead l.table l.path (drop l.at l.nodes) whole → Walks l.table (unfixed l.table) l.nodes whole;
}
