use Rattle.std.proofs.Common.{◌^◌, ◌-◌, ◌∙◌, arith}
use Rattle.es_units.proofs.CutSteps.{state_behind_cut}
use Rattle.es_units.proofs.Spans.{IsNextCut, dropped_more, dropped_same, dropped_all, spans_same, spans_more, spans_all, units_are}
use Rattle.es_units.proofs.units.split_units.Goals as goal
use Rattle.es_units.proofs.units.split_units.Goals.{then-cut-first, else-cut-first+in_ok-push}

pub loop-cut-preserved : goal.loop-cut-preserved
loop-cut-preserved c =
    let es = c.args.es.now in
    let first = c.in-Some.first in
    let from = c.loop-cut.from in
    let cut = c.in-Some-next_cut.cut in
    let found = c.in-Some-next_cut.ensures.found in
    let next : IsNextCut es from cut = record { begun = found.0; inside = omega (arith, found.1); is = found.2; none = c.in-Some-next_cut.ensures.first } in
    record {
      within = omega (arith, found.1);
      state = state_behind_cut es cut found.2;
      counted = elim c.if-cut-first.branch [
        | then-cut-first w ↦ omega (arith, w.dropped-is, w.saturating_add-dropped.ensures)
        | else-cut-first+in_ok-push w ↦ omega (arith, w.dropped-is, c.loop-cut.invariant.counted)
      ];
      dropped = elim c.if-cut-first.branch [
        | then-cut-first w ↦ dropped_more es first from cut c.loop-cut.dropped c.if-cut-first.dropped (2 ^ 32 - 1) _ next w.if-cut-first.true
            (w.dropped-is ∙ w.saturating_add-dropped.ensures) c.loop-cut.invariant.dropped
        | else-cut-first+in_ok-push w ↦ rw w.dropped-is (dropped_same es first from cut c.loop-cut.dropped (2 ^ 32 - 1) _ next w.if-cut-first.false c.loop-cut.invariant.dropped)
      ];
      cuts = elim c.if-cut-first.branch [
        | then-cut-first w ↦ rw (w.cuts-is, w.begin-is) (spans_same es first from cut c.loop-cut.begin c.loop-cut.cuts _ next w.if-cut-first.true c.loop-cut.invariant.cuts)
        | else-cut-first+in_ok-push w ↦ rw (w.cuts-is, w.begin-is, w.in_ok-push.ensures.ok)
            (spans_more es first from cut c.loop-cut.begin c.loop-cut.cuts _ next w.if-cut-first.false c.loop-cut.invariant.cuts)
      ];
    }

pub returns-clause-units : goal.returns-clause-units
returns-clause-units c =
    let es = c.args.es.now in
    let first = c.in-Some.first in
    units_are es first c.loop-cut.dropped c.push-2.new.self c.in-Some.ensures.at
    (dropped_all es first c.loop-cut.from c.loop-cut.dropped (2 ^ 32 - 1) _ c.loop-cut.invariant.within c.in_default-next_cut.ensures.first c.loop-cut.invariant.counted c.loop-cut.invariant.dropped)
    (c.in_ok-push-2.ensures.ok ∙ spans_all es first c.loop-cut.from c.loop-cut.begin c.loop-cut.cuts _ c.loop-cut.invariant.within c.in_default-next_cut.ensures.first c.loop-cut.invariant.cuts)
