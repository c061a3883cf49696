-- What a fault of a call over a sink and a piece source rests on.
use Rattle.std.specs.Prelude.{◌≡◌, ℕ, ◌<◌, ◌≤◌, ◌⊎◌}
use Rattle.shelf_io.specs.Counts.{Rose}

-- a call that answered Failed or Missing where these facts hold: Failed comes only where the sink's count rose in its last
-- call or the source's rose in this one, the sink's count rises only where its last call failed and this one answers that, Missing
-- never comes, and no count falls
pub record StreamCauses {K P : Type 0} (sink_faults since_fault : K → ℕ) (source_faults : P → ℕ) (failed missing : Type 0) (to to_after : K) (pieces pieces_after : P) : Type 0 where
  pub failed_rose : failed → (Rose (sink_faults to) (sink_faults to_after) × (since_fault to_after ≡ 0)) ⊎ Rose (source_faults pieces) (source_faults pieces_after)
  pub only_failed : sink_faults to < sink_faults to_after → failed × (since_fault to_after ≡ 0)
  pub never_missing : missing → ⊥
  pub sink_faults_grow : sink_faults to ≤ sink_faults to_after
  pub source_faults_grow : source_faults pieces ≤ source_faults pieces_after
