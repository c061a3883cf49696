use Rattle.std.proofs.Common.{◌≡◌, ◌+◌, drop}
use Rattle.std.specs.List.{sum_by}
use Rattle.tstd_model.specs.declared.decoder_input.Removal.{Removal}
use Rattle.stream_audit.specs.Removals.{bytes_of_units}
use Rattle.stream_audit.proofs.video_packets.bytes_of_units.Given as goal

abbrev pub invariant-loop-unit : goal.invariant-loop-unit
invariant-loop-unit l = record { rest : bytes_of_units l.kept ≡ l.bytes + sum_by (λ (unit : Removal). unit.bytes) (drop l.unit-index l.kept.units) }
