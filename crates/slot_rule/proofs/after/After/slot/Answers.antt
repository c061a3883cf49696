use Rattle.std.proofs.Common.{◌≡◌, ℕ, ◌+◌, ◌*◌, ◌^◌, ◌<◌, ap, arith}
use Rattle.stream_constants.specs.declared.clock.TheConstants.{SUBTICKS_PER_TICK}
use Rattle.slot_rule.proofs.AfterLaws.{Missed-late, NoneLate-in_time, NoneLate-other, NoneOverdue-from_first, small_end, small_first, small_work}
use Rattle.slot_rule.proofs.after.After.slot.Goals as goal
use Rattle.slot_rule.proofs.after.After.slot.Goals.{in-Carries+else-packet-end_with_margin, in_default}

pub overflow_mul-end : goal.overflow_mul-end
overflow_mul-end c =
    let product : c.from.result * c.from-2.result ≡ (c.args.n + 1) * c.args.slot = cc (c.from.ensures, c.from-2.ensures) in
    omega (arith, small_end c.args.n c.args.slot c.requires.n c.requires.slot)

pub overflow_mul-end-2 : goal.overflow_mul-end-2
overflow_mul-end-2 c =
    let product : c.from.result * c.from-2.result ≡ (c.args.n + 1) * c.args.slot = cc (c.from.ensures, c.from-2.ensures) in
    omega (arith, small_end c.args.n c.args.slot c.requires.n c.requires.slot)

pub overflow_add-end_with_margin : goal.overflow_add-end_with_margin
overflow_add-end_with_margin c =
    let product : c.from.result * c.from-2.result ≡ (c.args.n + 1) * c.args.slot = cc (c.from.ensures, c.from-2.ensures) in
    omega (arith, small_end c.args.n c.args.slot c.requires.n c.requires.slot)

pub overflow_mul-packet : goal.overflow_mul-packet
overflow_mul-packet c = (let stands = rw c.in-Carries.is at c.requires.row in omega (arith, stands.1))

pub bounds-states-stream : goal.bounds-states-stream
bounds-states-stream c = (rw c.in-Carries.is at c.requires.row).0

pub overflow_add-end_with_margin-in-Carries : goal.overflow_add-end_with_margin-in-Carries
overflow_add-end_with_margin-in-Carries c =
    let stands = rw c.in-Carries.is at c.requires.row in
    let work : c.mb_or_tb_work.result < 2 ^ 60 =
    small_work c.args.states.now c.in-Carries.stream _ c.mb_or_tb_work.result _ c.requires.soon stands.0 c.mb_or_tb_work.ensures in
    let product : c.from.result * c.from-2.result ≡ (c.args.n + 1) * c.args.slot = cc (c.from.ensures, c.from-2.ensures) in
    omega (arith, small_end c.args.n c.args.slot c.requires.n c.requires.slot, work)

pub miss_of-requires : goal.miss_of-requires
miss_of-requires c = (let stands = rw c.in-Carries.is at c.requires.row in omega (arith, c.requires.few, stands.0))

pub returns-then-packet-end_with_margin : goal.returns-then-packet-end_with_margin
returns-then-packet-end_with_margin c =
    let stands = rw c.in-Carries.is at c.requires.row in
    let product : c.from.result * c.from-2.result ≡ (c.args.n + 1) * c.args.slot = cc (c.from.ensures, c.from-2.ensures) in
    Missed-late c.args.states.now (SUBTICKS_PER_TICK * ((c.args.n + 1) * c.args.slot)) _ c.args.n c.in-Carries.stream c.mb_or_tb_work.result c.in-Carries.packet c.args.row c.miss_of.result _
    c.in-Carries.is (ap (λ (k : ℕ). SUBTICKS_PER_TICK * k) product) stands.0 c.mb_or_tb_work.ensures (omega (arith, c.if-packet-end_with_margin.true)) c.miss_of.ensures

pub overflow_mul-head : goal.overflow_mul-head
overflow_mul-head c = omega (arith, small_first c.args.states.now c.in-Some.head.stream c.in-Some.head.packet c.requires.soon c.in-Some.ensures)

pub returns-in-Some-2 : goal.returns-in-Some-2
returns-in-Some-2 c =
    let states = c.args.states.now in
    let end = SUBTICKS_PER_TICK * ((c.args.n + 1) * c.args.slot) in
    let product : c.from.result * c.from-2.result ≡ (c.args.n + 1) * c.args.slot = cc (c.from.ensures, c.from-2.ensures) in (
      elim c.match-row.branch [
        | in-Carries+else-packet-end_with_margin w ↦
            NoneLate-in_time states end _ w.in-Carries.stream w.mb_or_tb_work.result w.in-Carries.packet c.args.row _ w.in-Carries.is
            (ap (λ (k : ℕ). SUBTICKS_PER_TICK * k) product) w.mb_or_tb_work.ensures (omega (arith, w.if-packet-end_with_margin.false))
        | in_default w ↦ NoneLate-other states end c.args.row w.in_default.not-Carries
      ],
      NoneOverdue-from_first states end c.in-Some.head.stream c.in-Some.head.packet c.in-Some.ensures (omega (arith, c.if-head-end_with_margin.false)),
      (c.in-Some.head.stream, c.in-Some.head.packet, c.in-Some.ensures),
    )

pub returns-in-None : goal.returns-in-None
returns-in-None c =
    let states = c.args.states.now in
    let end = SUBTICKS_PER_TICK * ((c.args.n + 1) * c.args.slot) in
    let product : c.from.result * c.from-2.result ≡ (c.args.n + 1) * c.args.slot = cc (c.from.ensures, c.from-2.ensures) in (
      elim c.match-row.branch [
        | in-Carries+else-packet-end_with_margin w ↦
            NoneLate-in_time states end _ w.in-Carries.stream w.mb_or_tb_work.result w.in-Carries.packet c.args.row _ w.in-Carries.is
            (ap (λ (k : ℕ). SUBTICKS_PER_TICK * k) product) w.mb_or_tb_work.ensures (omega (arith, w.if-packet-end_with_margin.false))
        | in_default w ↦ NoneLate-other states end c.args.row w.in_default.not-Carries
      ],
      c.in-None.ensures,
    )
