use Rattle.std.proofs.Common.{◌≡◌, ◌++◌, replicate, sym, ◌∙◌, ap, subst, arith}
use Rattle.tstd_model.specs.Private.Keeps.{Keeps}
use Rattle.tstd_model.specs.Private.Runs.{run_bytes}
use Rattle.tstd_model.proofs.WatchLaws.{run_bytes-end, runs-apart, runs-joined}
use Rattle.tstd_model.proofs.leave_queue.KeptRuns.push.Goals as goal

pub returns-then-not-is_full : goal.returns-then-not-is_full
returns-then-not-is_full c = λ yes rest.
    let i = c.self.inside in
    let kept = run_bytes i.runs.items in
    let xs = replicate i.last.count i.last.at in
    let ys = replicate c.args.run.count c.args.run.at in
    let pushed : run_bytes c.push.new.self.items ≡ kept ++ xs = ap run_bytes c.push.ensures.items ∙ run_bytes-end i.runs.items i.last in
    subst (λ l. Keeps 0 0 ((run_bytes c.push.new.self.items ++ ys) ++ rest) (l ++ (ys ++ rest))) c.self.view_is
    (subst (λ l. Keeps 0 0 ((l ++ ys) ++ rest) ((kept ++ xs) ++ (ys ++ rest))) (sym pushed) (runs-apart kept xs ys rest))

pub returns-else-count-together : goal.returns-else-count-together
returns-else-count-together c = λ yes rest.
    let i = c.self.inside in
    let kept = run_bytes i.runs.items in
    let run = c.args.run in
    let count = c.in-Some.count in
    let most = c.max.result in
    subst (λ l. Keeps 0 0 ((kept ++ replicate count most) ++ rest) (l ++ (replicate run.count run.at ++ rest))) c.self.view_is
    (runs-joined kept i.last.count i.last.at run.count run.at most count rest (omega (arith, c.in-Some.ensures.1)) (omega (arith, c.max.ensures)) (omega (arith, c.max.ensures)))
