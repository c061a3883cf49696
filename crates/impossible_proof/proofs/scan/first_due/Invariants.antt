use Rattle.impossible_proof.specs.Private.Scan.{AllHaveRoom, IsBalance}
use Rattle.impossible_proof.proofs.scan.first_due.Given as goal

-- the balance of the units before this one, whose windows have room
abbrev pub invariant-loop-need : goal.invariant-loop-need
invariant-loop-need l = record {
  balance : IsBalance l.table l.needs l.need-index l.balance;
  have_room : AllHaveRoom l.table l.needs l.need-index;
}
