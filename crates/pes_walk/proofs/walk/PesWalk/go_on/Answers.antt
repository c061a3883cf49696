use Rattle.std.proofs.Common.{◌≡◌, ◌-◌, length, arith, ◌∙◌}
use Rattle.pes_walk.proofs.Walking.{room_taken}
use Rattle.pes_walk.proofs.walk.PesWalk.go_on.Goals as goal

pub returns-clause-front : goal.returns-clause-front
returns-clause-front c = λ begun few.
    (let room : c.saturating_sub-room.result ≡ 65542 - length c.args.self.now.front.items = omega (arith, c.saturating_sub-room.ensures, c.len.ensures) in
    c.in_ok-extend_from_slice.ensures.items ∙ room_taken 65542 c.args.self.now.front.items c.args.bytes.now c.saturating_sub-room.result c.min.result few room c.min.ensures)
