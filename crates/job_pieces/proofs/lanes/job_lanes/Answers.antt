use Rattle.std.proofs.Common.{◌∙◌, ℕ, ap, drop, take, arith}
use Rattle.job_pieces.proofs.JobLanes.{fit_all, fit_more}
use Rattle.job_pieces.proofs.lanes.job_lanes.Goals as goal

pub loop-k-preserved : goal.loop-k-preserved
loop-k-preserved c =
    fit_more c.args.jobs.now c.args.programs.now c.args.rows.now c.args.choice.now c.loop-k.rest.now c.first_of.result.now c.behind-rest.result.now c.loop-k.k c.index-jobs-k.result
    c.index-programs-k.result c.index-rows-k.result c.sent_program-sent.result c.loop-k.lanes.items c.push_lanes.new.lanes.items c.loop-k.invariant c.loop-k-test.true
    c.requires.programs c.requires.rows c.index-jobs-k.is c.index-programs-k.is c.index-rows-k.is
    (c.first_of.ensures ∙ ap (λ (n : ℕ). take n c.loop-k.rest.now) c.len-units.ensures) (c.behind-rest.ensures ∙ ap (λ (n : ℕ). drop n c.loop-k.rest.now) c.len-units.ensures)
    c.sent_program-sent.ensures c.in_ok-push_lanes.ensures

pub returns : goal.returns
returns c =
    fit_all c.args.jobs.now c.args.programs.now c.args.rows.now c.args.choice.now c.loop-k.rest.now c.loop-k.k c.loop-k.lanes.items c.loop-k.invariant
    (omega (arith, c.loop-k-test.false)) c.requires.programs c.requires.rows
