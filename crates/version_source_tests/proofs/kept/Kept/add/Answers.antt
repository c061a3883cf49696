use Rattle.std.proofs.Common.{List, ℕ, ◌++◌, ap, ◌∙◌}
use Rattle.version_source_tests.proofs.Growth.{one-more}
use Rattle.version_source_tests.proofs.kept.Kept.add.Goals as goal

pub returns : goal.returns
returns c =
    one-more c.args.self.now.programs c.push.new.self c.args.self.now.jobs c.push-2.new.self c.args.self.now.versions c.push-3.new.self c.args.self.now.choice.items
    c.extend_from_slice.new.self.items c.in_ok-program.program c.job_at-job.result _ c.in_ok-own.own.items c.as_slice.result.now c.as_slice-3.result.now c.as_slice-4.result.now
    c.as_slice-2.result.now c.len.result c.in_ok-push.ensures.ok c.in_ok-push-2.ensures.ok c.in_ok-push-3.ensures.ok
    (c.in_ok-extend_from_slice.ensures.items ∙ ap (λ (xs : List ℕ). c.args.self.now.choice.items ++ xs) c.as_slice-5.ensures.value) c.as_slice.ensures c.as_slice-2.ensures
    c.as_slice-3.ensures.value c.as_slice-4.ensures.value c.len.ensures c.requires.kept c.in_ok-program.ensures c.in_ok-versions.ensures c.in_ok-own.ensures.count c.in_ok-own.ensures.named
