use Rattle.std.proofs.Common.{◌≡◌, ℕ, ◌+◌, ◌-◌, ◌≤◌, List, ◌++◌, length, take, drop, sym, ap, subst, ◌∙◌, arith, rules}
use Rattle.es_units.specs.UnitCutter.{HasCut, ended_of}
use Rattle.es_units.proofs.CutterPieces.{next_piece}
use Rattle.es_units.proofs.tests.cut_in_pieces.Goals as goal

pub loop-at-preserved : goal.loop-at-preserved
loop-at-preserved c =
    let es = c.args.es.now in
    let at = c.loop-at.at in
    let count = c.in_ok-at.field-0 in
    let pushed = c.in_ok-at.ensures in
    let new = c.push.new.self in
    let within : count ≤ length (take (c.min-end.result - at) (drop at es)) = pushed.within in
    let bytes : take at es ++ take count (take (c.min-end.result - at) (drop at es)) ≡ take (at + count) es = next_piece es at c.min-end.result count c.loop-at.invariant.within within in
    let units : c.add_unit.new.units.items ≡ c.loop-at.units.items ++ ended_of new =
    c.in_ok-add_unit.ensures ∙ ap (λ (places : List (ℕ × ℕ)). c.loop-at.units.items ++ places) c.ended.ensures.place in
    record {
      within = search rules;
      pushed = omega (arith, pushed.count, c.loop-at.invariant.pushed);
      cut = subst (λ (xs : List ℕ). HasCut xs c.add_unit.new.units.items new) bytes
          (subst (λ (places : List (ℕ × ℕ)). HasCut (take at es ++ take count (take (c.min-end.result - at) (drop at es))) places new) (sym units)
          (pushed.cut (take at es) c.loop-at.units.items c.loop-at.invariant.cut));
    }
