use Rattle.std.proofs.Common.{◌∙◌, ◌+◌, refl, to_z, of_z, w64, arith}
use Rattle.impossible_proof.specs.Private.Scan.{IsBalance, due_at, nothing}
use Rattle.impossible_proof.proofs.Balanced.{at_start, end_found, held, one_more, small_held, still_room}
use Rattle.impossible_proof.proofs.Scanned.{before-small}
use Rattle.impossible_proof.proofs.scan.first_due.Goals as goal

pub loop-need-init : goal.loop-need-init
loop-need-init c = record {
  balance = at_start c.args.table.now c.args.needs.now c.start-balance.result c.start-balance.ensures.total c.start-balance.ensures.lowest;
  have_room = λ j k order below. absurd (omega arith);
}

pub next-balance-requires-clause-few : goal.next-balance-requires-clause-few
next-balance-requires-clause-few c =
    omega (arith, c.loop-need.invariant.balance.total, before-small c.args.needs.now c.loop-need.need-index c.requires.needs.few c.loop-need.auto.need-index-end)

pub is_over-requires-clause-few : goal.is_over-requires-clause-few
is_over-requires-clause-few c =
    omega (
      arith,
      c.loop-need.invariant.balance.total,
      before-small c.args.needs.now c.loop-need.need-index c.requires.needs.few c.loop-need.auto.need-index-end,
      c.next-balance.ensures.total,
      c.requires.needs.few.small c.loop-need.need-index nothing c.loop-need-test.true,
    )

pub returns-then-is_over : goal.returns-then-is_over
returns-then-is_over c =
    let table = c.args.table.now in
    let needs = c.args.needs.now in
    let i = c.loop-need.need-index in
    let due = due_at needs i in
    let balance : IsBalance table needs (i + 1) c.next-balance.result =
    one_more table needs i due _ c.loop-need.balance c.next-balance.result (to_z w64 (of_z w64 c.room_before.result)) c.requires.needs.few c.loop-need-test.true refl refl
    (held c.room_before.result c.room_before.ensures.small ∙ c.room_before.ensures.value) (small_held c.room_before.result c.room_before.ensures.small)
    c.loop-need.invariant.balance c.next-balance.ensures.total c.next-balance.ensures.at_most_before c.next-balance.ensures.at_most_own c.next-balance.ensures.one in
    end_found table needs i due c.next-balance.result (to_z w64 (of_z w64 c.room_by.result)) c.loop-need-test.true refl
    (held c.room_by.result c.room_by.ensures.small ∙ c.room_by.ensures.value) balance c.loop-need.invariant.have_room (c.is_over.ensures.0 c.if-is_over.true)

pub loop-need-preserved : goal.loop-need-preserved
loop-need-preserved c =
    let table = c.args.table.now in
    let needs = c.args.needs.now in
    let i = c.loop-need.need-index in
    let due = due_at needs i in
    let balance : IsBalance table needs (i + 1) c.next-balance.result =
    one_more table needs i due _ c.loop-need.balance c.next-balance.result (to_z w64 (of_z w64 c.room_before.result)) c.requires.needs.few c.loop-need-test.true refl refl
    (held c.room_before.result c.room_before.ensures.small ∙ c.room_before.ensures.value) (small_held c.room_before.result c.room_before.ensures.small)
    c.loop-need.invariant.balance c.next-balance.ensures.total c.next-balance.ensures.at_most_before c.next-balance.ensures.at_most_own c.next-balance.ensures.one in
    record {
      balance = balance;
      have_room = still_room table needs i due c.next-balance.result (to_z w64 (of_z w64 c.room_by.result)) c.loop-need-test.true refl
          (held c.room_by.result c.room_by.ensures.small ∙ c.room_by.ensures.value) balance c.loop-need.invariant.have_room
          (λ above. let yes = c.is_over.ensures.1 above in let no = c.if-is_over.false in cc);
    }
