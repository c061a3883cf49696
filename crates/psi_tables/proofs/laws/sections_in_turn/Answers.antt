-- Each clause is a lemma of `Turns`.
use Rattle.psi_tables.proofs.Turns.{turn-start, turn-fed, turn-pulled, turn-all, turn-fewer}
use Rattle.psi_tables.proofs.laws.sections_in_turn.Goals as goal

pub returns : goal.returns
returns c = record { start = turn-start; fed = turn-fed; pulled = turn-pulled; all = turn-all; fewer = turn-fewer }
