use Rattle.std.proofs.Common.{◌≡◌, List, ◌∷◌, ◌++◌, [], length, replicate, sym, ◌∙◌, ap, arith}
use Rattle.std.proofs.lemmas.Bool.{eqb-true}
use Rattle.std.proofs.lemmas.List.{nil_from_length}
use Rattle.tstd_model.specs.declared.runs.Run.{Run}
use Rattle.tstd_model.specs.Private.Runs.{run_bytes}
use Rattle.tstd_model.proofs.WatchLaws.{first-removed, gives-last, run_bytes-first}
use Rattle.tstd_model.proofs.leave_queue.KeptRunsRuns.next_run.Goals as goal

pub returns-then-is_empty : goal.returns-then-is_empty
returns-then-is_empty c =
    let i = c.runs.self-inside in
    let none : i.runs.items ≡ [] = nil_from_length i.runs.items (eqb-true (length i.runs.items) 0 (sym c.if-is_empty.ensures)) in
    gives-last c.some.result i.last i.runs.items c.args.self.now none (c.runs.invariant ∙ c.self.view_is) c.some.ensures.some c.some.ensures.none

pub returns-then-next-gt0 : goal.returns-then-next-gt0
returns-then-next-gt0 c =
    let i = c.runs.self-inside in
    let last = replicate i.last.count i.last.at in
    let next = c.remove-next.result in
    let rest = c.remove-next.new.self.items in
    let split : i.runs.items ≡ next ∷ rest = first-removed i.runs.items rest next c.remove-next.ensures.value c.remove-next.ensures.items (omega (arith, c.remove-next.ensures.len)) in (
      c.if-next-gt0.true,
      sym (c.runs.invariant ∙ c.self.view_is) ∙ ap (λ (l : List Run). run_bytes l ++ last) split ∙ run_bytes-first next rest last,
    )

pub runs-preserved : goal.runs-preserved
runs-preserved c =
    let i = c.runs.self-inside in
    let last = replicate i.last.count i.last.at in
    let next = c.remove-next.result in
    let rest = c.remove-next.new.self.items in
    let split : i.runs.items ≡ next ∷ rest = first-removed i.runs.items rest next c.remove-next.ensures.value c.remove-next.ensures.items (omega (arith, c.remove-next.ensures.len)) in
    let none : next.count ≡ 0 = omega (arith, c.if-next-gt0.false) in
    sym (ap (λ (l : List Run). run_bytes l ++ last) split ∙ run_bytes-first next rest last ∙ ap (λ n. replicate n next.at ++ (run_bytes rest ++ last)) none) ∙ c.runs.invariant
