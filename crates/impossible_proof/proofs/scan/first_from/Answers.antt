use Rattle.std.proofs.Common.{◌≡◌, ◌∙◌, refl, sym, rules, to_z, of_z, w64, arith}
use Rattle.std.proofs.lemmas.Int.{to_z-of_z}
use mir.Val.{SFits}
use Rattle.impossible_proof.specs.Private.Scan.{due_at, ending_by, nothing}
use Rattle.impossible_proof.proofs.Balanced.{beginning_found, beginning_passed}
use Rattle.impossible_proof.proofs.Scanned.{before-more, before-small, before-start}
use Rattle.impossible_proof.proofs.scan.first_from.Goals as goal

pub loop-need-init : goal.loop-need-init
loop-need-init c = record { total_is = sym (before-start c.args.needs.now); none_begins = λ j below order. absurd (omega arith) }

pub begins_below-requires-clause-few : goal.begins_below-requires-clause-few
begins_below-requires-clause-few c =
    omega (arith, c.loop-need.invariant.total_is, before-small c.args.needs.now c.loop-need.need-index c.requires.needs.few c.loop-need.auto.need-index-end)

pub returns-then-begins_below : goal.returns-then-begins_below
returns-then-begins_below c =
    let table = c.args.table.now in
    let needs = c.args.needs.now in
    let i = c.loop-need.need-index in
    let fits : SFits w64 c.end_at-end.result = search rules in
    let end : to_z w64 (of_z w64 c.end_at-end.result) ≡ ending_by table needs c.args.due = to_z-of_z w64 c.end_at-end.result fits ∙ c.end_at-end.ensures in
    beginning_found table needs i c.args.due (due_at needs i) c.loop-need.total (to_z w64 (of_z w64 c.end_at-end.result)) c.loop-need-test.true refl c.loop-need.invariant.total_is end
    c.loop-need.invariant.none_begins (c.begins_below.ensures.0 c.if-begins_below.true)

pub overflow_add-total : goal.overflow_add-total
overflow_add-total c =
    omega (
      arith,
      c.loop-need.invariant.total_is,
      before-small c.args.needs.now c.loop-need.need-index c.requires.needs.few c.loop-need.auto.need-index-end,
      c.from-total.ensures,
      c.requires.needs.few.small c.loop-need.need-index nothing c.loop-need-test.true,
    )

pub loop-need-preserved : goal.loop-need-preserved
loop-need-preserved c =
    let table = c.args.table.now in
    let needs = c.args.needs.now in
    let i = c.loop-need.need-index in
    let fits : SFits w64 c.end_at-end.result = search rules in
    let end : to_z w64 (of_z w64 c.end_at-end.result) ≡ ending_by table needs c.args.due = to_z-of_z w64 c.end_at-end.result fits ∙ c.end_at-end.ensures in
    record {
      total_is = omega (arith, c.loop-need.invariant.total_is, c.from-total.ensures, before-more needs i nothing c.loop-need-test.true);
      none_begins = beginning_passed table needs i c.args.due (due_at needs i) c.loop-need.total (to_z w64 (of_z w64 c.end_at-end.result)) c.loop-need-test.true refl
          c.loop-need.invariant.total_is end c.loop-need.invariant.none_begins
          (λ below. let yes = c.begins_below.ensures.1 below in let no = c.if-begins_below.false in cc);
    }
