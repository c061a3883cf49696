use Rattle.std.proofs.Common.{◌≡◌, ◌+◌, sum}
use Rattle.std.specs.List.{AllZip}
use Rattle.version_table.specs.Choice.{HasVersion, chosen_distortions, distortion_of_choice}
use Rattle.version_table.proofs.Chosen.{units_from}
use Rattle.version_table.proofs.choices.distortion_of.Given as goal

-- the numbers left are for the units of the programs left
abbrev pub invariant-loop-program : goal.invariant-loop-program
invariant-loop-program l = let units = units_from l.program-items l.program-index in record {
  fits : AllZip HasVersion units l.rest;
  total : l.total + sum (chosen_distortions units l.rest) ≡ distortion_of_choice l.table l.choice;
}
