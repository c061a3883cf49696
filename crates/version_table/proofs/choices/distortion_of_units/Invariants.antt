use Rattle.std.proofs.Common.{◌≡◌, ◌+◌, drop, sum}
use Rattle.std.specs.List.{AllZip}
use Rattle.version_table.specs.Choice.{HasVersion, chosen_distortions}
use Rattle.version_table.proofs.choices.distortion_of_units.Given as goal

-- what is chosen so far and what is still to come make the whole
abbrev pub invariant-loop-i : goal.invariant-loop-i
invariant-loop-i l = record {
  rest : AllZip HasVersion (drop l.i l.units) (drop l.i l.choice);
  total : l.total + sum (chosen_distortions (drop l.i l.units) (drop l.i l.choice)) ≡ sum (chosen_distortions l.units l.choice);
}
