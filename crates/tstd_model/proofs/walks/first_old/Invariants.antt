use Rattle.std.proofs.Common.{◌≡◌, ◌^◌, map, length}
use Rattle.tstd_model.specs.Faults.{hold_subticks}
use Rattle.tstd_model.specs.Private.Cursors.{is_wanted, bytes_with, instants_of}
use Rattle.tstd_model.specs.Private.Scans.{first_old}
use Rattle.tstd_model.specs.Private.Server.{EachAtMost}
use Rattle.tstd_model.proofs.walks.first_old.Given as goal

abbrev pub invariant-bytes : goal.invariant-bytes
invariant-bytes l = record {
  same :
      first_old hold_subticks (map (λ b. b.part) (bytes_with (is_wanted l.wanted) l.bytes)) (instants_of (bytes_with (is_wanted l.wanted) l.bytes)) (map (λ b. b.at) l.removed)
      ≡ first_old hold_subticks (map (λ b. b.part) (bytes_with (is_wanted l.wanted) l.initial.bytes))
      (instants_of (bytes_with (is_wanted l.wanted) l.initial.bytes)) (map (λ b. b.at) l.initial.removed);
  small : EachAtMost (2 ^ 62) (instants_of l.bytes);
}

abbrev pub decreases-bytes : goal.decreases-bytes
decreases-bytes l = length l.bytes
