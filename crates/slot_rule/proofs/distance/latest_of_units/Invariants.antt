use Rattle.std.proofs.Common.{◌≡◌, drop, fold, map, max}
use Rattle.std.specs.List.{flat_map}
use Rattle.version_table.specs.Table.{greatest, units_of}
use Rattle.slot_rule.proofs.distance.latest_of_units.Given as goal

-- the latest time of what is left, from the latest so far on, is that of all
abbrev pub invariant-loop-program : goal.invariant-loop-program
invariant-loop-program l = let rest = flat_map (λ program. program.units) (drop l.program-index l.program-items) in
    fold max l.latest (map (λ unit. unit.due) rest) ≡ greatest (map (λ unit. unit.due) (units_of l.table))
