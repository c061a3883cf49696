use Rattle.tstd_bridge.proofs.TbHolds.{tb_holds}
use Rattle.tstd_bridge.proofs.TbFollows.{finds_little}
use Rattle.tstd_bridge.proofs.laws.transport_buffers_hold.Goals as goal

pub returns : goal.returns
returns c table choice rows stream kind packets headers at valid follows there =
    tb_holds table.slot stream kind headers rows (finds_little table choice stream kind packets rows valid there follows) at
