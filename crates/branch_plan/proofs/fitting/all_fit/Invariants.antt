use Rattle.std.proofs.Common.{◌≡◌, ◌*◌, nat_le, true, take}
use Rattle.std.specs.List.{list_all}
use Rattle.stream_constants.specs.declared.decoder.TheConstants.{EB_UNIT_BYTES}
use Rattle.version_table.specs.declared.table.Version.{Version}
use Rattle.branch_plan.proofs.fitting.all_fit.Given as goal

-- those so far fit
abbrev pub invariant-loop-version : goal.invariant-loop-version
invariant-loop-version l = list_all (λ (version : Version). nat_le version.bytes (EB_UNIT_BYTES * l.vbv)) (take l.version-index l.versions) ≡ true
