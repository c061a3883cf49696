use Rattle.std.proofs.Common.{◌≡◌, Bool, true, false, not, ◌&&◌, ◌||◌, ◌∙◌, sym, refl, arith}
use Rattle.es_units.proofs.CutSteps.{cut_here, state_behind, none_up_to, no_cut_before_slice, no_cut_elsewhere, no_slice}
use Rattle.es_units.proofs.cuts.next_cut.Goals as goal
use Rattle.es_units.proofs.cuts.next_cut.Goals.{then-is_unit_start+else-behind_slice, else-is_unit_start+then-is_slice, else-is_unit_start+else-is_slice}

as_before : (b : Bool) → (false || (b && not false)) ≡ b
as_before true = refl
as_before false = refl

pub returns-then-behind_slice-clause-found : goal.returns-then-behind_slice-clause-found
returns-then-behind_slice-clause-found c = (
  omega (arith, c.in-Some.ensures.found.0),
  c.in-Some.ensures.found.1,
  cut_here c.args.es.now c.loop-code.at c.in-Some.code.at c.in-Some.code.value c.loop-code.behind_slice c.in-Some.ensures.found.0 c.in-Some.ensures.first
      c.in-Some.ensures.found.2 (sym c.is_unit_start.ensures ∙ c.if-is_unit_start.true) c.loop-code.invariant.state c.if-behind_slice.true,
)

pub loop-code-preserved : goal.loop-code-preserved
loop-code-preserved c =
    let es = c.args.es.now in
    let at = c.in-Some.code.at in
    let value = c.in-Some.code.value in
    let next = state_behind es c.loop-code.at at value c.loop-code.behind_slice c.in-Some.ensures.found.0 c.in-Some.ensures.first c.in-Some.ensures.found.2 c.loop-code.invariant.state in
    record {
      begun = omega (arith, c.in-Some.ensures.found.0, c.loop-code.invariant.begun);
      within = omega (arith, c.in-Some.ensures.found.1);
      state = elim c.if-is_unit_start.branch [
        | then-is_unit_start+else-behind_slice w ↦
            w.behind_slice-is ∙ w.if-behind_slice.false
            ∙ sym (next ∙ rw (no_slice value (sym c.is_unit_start.ensures ∙ w.if-is_unit_start.true), w.if-behind_slice.false) refl)
        | else-is_unit_start+then-is_slice w ↦ w.behind_slice-is ∙ sym (next ∙ rw (sym w.is_slice.ensures ∙ w.if-is_slice.true) refl)
        | else-is_unit_start+else-is_slice w ↦
            w.behind_slice-is
            ∙ sym (next ∙ rw (sym w.is_slice.ensures ∙ w.if-is_slice.false, sym c.is_unit_start.ensures ∙ w.if-is_unit_start.false) (as_before c.loop-code.behind_slice))
      ];
      passed = none_up_to es c.args.from c.loop-code.at at c.loop-code.invariant.passed c.in-Some.ensures.first (elim c.if-is_unit_start.branch [
        | then-is_unit_start+else-behind_slice w ↦ no_cut_before_slice es c.loop-code.at at c.loop-code.behind_slice c.in-Some.ensures.found.0
            c.in-Some.ensures.first c.loop-code.invariant.state w.if-behind_slice.false
        | else-is_unit_start+then-is_slice w ↦ no_cut_elsewhere es at value c.in-Some.ensures.found.2 (sym c.is_unit_start.ensures ∙ w.if-is_unit_start.false)
        | else-is_unit_start+else-is_slice w ↦ no_cut_elsewhere es at value c.in-Some.ensures.found.2 (sym c.is_unit_start.ensures ∙ w.if-is_unit_start.false)
      ]);
    }
