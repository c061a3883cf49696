use Rattle.std.proofs.Common.{◌≡◌, ◌≤◌, ◌^◌, All, map, pos, take}
use Rattle.tstd_model.specs.declared.decoder_input.Removal.{Removal}
use Rattle.stream_audit.specs.Removals.{removed_at}
use Rattle.stream_audit.proofs.removals.unit_removals.Given as goal

abbrev pub invariant-loop-unit : goal.invariant-loop-unit
invariant-loop-unit l = record {
  same : l.removals ≡ map (λ (unit : Removal). record { due = removed_at l.zero l.kept.base (pos unit.due); bytes = unit.bytes }) (take l.unit-index l.kept.units);
  fit : All (λ removal. removal.due ≤ 2 ^ 53) l.removals;
}
