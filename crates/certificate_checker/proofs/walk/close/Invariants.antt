use Rattle.std.proofs.Common.{List, length}
use Rattle.bound_certificate.specs.declared.cert.Node.{Node}
use Rattle.certificate_checker.specs.Walk.{Shows, Walked}
use Rattle.certificate_checker.specs.Private.Paths.{Completes, IsPath, KeepsRoom}
use Rattle.certificate_checker.specs.Private.Tallies.{IsTold, KeepsTallyRoom}
use Rattle.certificate_checker.proofs.walk.close.Given as goal

-- what completes the path as it stands completes the path as it stood
abbrev pub invariant-loop-path : goal.invariant-loop-path
invariant-loop-path l = record {
  path : IsPath l.table l.path;
  room : KeepsRoom l.initial.path l.path;
  tally : IsTold l.table l.path l.tally;
  tally_room : KeepsTallyRoom l.initial.tally l.tally;
  completes : (nodes : List Node) (whole : Walked) → Completes l.table l.path (Shows l.bound nodes) whole → Completes l.initial.table l.initial.path (Shows l.initial.bound nodes) whole;
}

abbrev pub decreases-loop-path : goal.decreases-loop-path
decreases-loop-path l = length l.path.branches.items
