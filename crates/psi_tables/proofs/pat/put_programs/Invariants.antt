use Rattle.std.proofs.Common.{◌≡◌, ◌<◌, ◌^◌, ◌++◌, All, take}
use Rattle.std.specs.List.{flat_map}
use Rattle.psi_tables.specs.Pat.{written_program}
use Rattle.psi_tables.proofs.pat.put_programs.Given as goal

abbrev pub invariant-loop-number : goal.invariant-loop-number
invariant-loop-number l = record {
  bytes : l.into.items ≡ l.initial.into.items ++ flat_map written_program (take l.number-index l.programs);
  numbers : All (λ program. program.0 < 2 ^ 16) (take l.number-index l.programs);
}
