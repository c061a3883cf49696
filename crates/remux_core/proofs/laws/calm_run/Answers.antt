use Rattle.std.proofs.Common.{◌<◌, Some, refl, inl, inr, lit<, arith}
use Rattle.shelf_io.specs.Counts.{Rose}
use Rattle.command_words.specs.declared.status.Status.TheVariants.{Ok}
use Rattle.command_words.specs.Command.{Plan, Gen, Probe}
use Rattle.command_words.proofs.SameStatus.{is_ok}
use Rattle.remux_core.proofs.laws.calm_run.Goals as goal

-- a count that is always 0 doesn't rise
never : Rose 0 0 → ⊥
never rose = let above : 0 < 0 = rose (lit< tt) in absurd (omega arith)

pub returns-clause-called_for : goal.returns-clause-called_for
returns-clause-called_for c = λ status calls.
    c.run.ensures.called_for c.args.shelf.now.files status refl calls (record { faults = never; write_faults = never; out_faults = never })

pub returns-clause-plans : goal.returns-clause-plans
returns-clause-plans c = λ name certificate table command holds scheduled.
    elim (returns-clause-called_for c Ok (record { command = Some (Plan name certificate); said = command; called = (table, holds, scheduled) })) [
      | inl same ↦ inl (is_ok c.run.result same)
      | inr wanted ↦ inr wanted
    ]

pub returns-clause-makes : goal.returns-clause-makes
returns-clause-makes c = λ seed pictures name command.
    elim (returns-clause-called_for c Ok (record { command = Some (Gen seed pictures name); said = command; called = tt })) [
      | inl same ↦ inl (is_ok c.run.result same)
      | inr wanted ↦ inr wanted
    ]

pub returns-clause-probes : goal.returns-clause-probes
returns-clause-probes c = λ file number name program command holds.
    elim (returns-clause-called_for c Ok (record { command = Some (Probe file number name); said = command; called = (program, holds) })) [
      | inl same ↦ inl (is_ok c.run.result same)
      | inr wanted ↦ inr wanted
    ]
