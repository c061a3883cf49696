use Rattle.std.proofs.Common.{◌≤◌, ◌^◌, length}
use Rattle.bench_pictures.proofs.coarsen.slices.coarsen_slices.Given as goal

-- what is left is no longer than the file
abbrev pub invariant-loop : goal.invariant-loop
invariant-loop l = record { few : length l.rest ≤ 2 ^ 60 }
