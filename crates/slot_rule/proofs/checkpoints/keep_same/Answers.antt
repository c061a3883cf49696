use Rattle.std.proofs.Common.{◌≡◌, ◌*◌, List, length, vec_len, slice_get, sym, ap, subst, ◌∙◌, inl, inr, arith}
use Rattle.std.proofs.lemmas.Bool.{eqb-false}
use Rattle.std.proofs.lemmas.Slice.Zip.{AllZip-long}
use Rattle.version_table.specs.Choice.{HasVersion}
use Rattle.version_table.specs.Table.{units_of}
use Rattle.slot_rule.specs.declared.fronts.Front.{Front}
use Rattle.slot_rule.specs.declared.queue_state.QueueState.{QueueState}
use Rattle.slot_rule.specs.declared.run_state.RunState.{RunState}
use Rattle.slot_rule.specs.SlotRun.{slots_apart}
use Rattle.slot_rule.specs.Private.Checkpoints.{AreFronts, AreWithin}
use Rattle.slot_rule.proofs.CheckpointLaws.{take_there}
use Rattle.slot_rule.proofs.KeptRunLaws.{IsCheckpoint-under}
use Rattle.slot_rule.proofs.checkpoints.keep_same.Goals as goal

pub fronts_of-fronts-requires-clause-as_many : goal.fronts_of-fronts-requires-clause-as_many
fronts_of-fronts-requires-clause-as_many c =
    let some : vec_len c.args.checkpoints.now ≡ 0 → ⊥ = eqb-false (vec_len c.args.checkpoints.now) 0 (sym c.is_empty.ensures ∙ c.if-is_empty.false) in
    let new = AllZip-long HasVersion (units_of c.args.table.now) c.args.new.now c.requires.fits in
    elim c.requires.fitted as (λ _. length c.args.old.now ≡ length c.args.new.now) [
      | inl none ↦ absurd (some (omega (arith, c.args.checkpoints.now.ok.0, ap (λ (list : List RunState). length list) none)))
      | inr fits ↦ AllZip-long HasVersion (units_of c.args.table.now) c.args.old.now fits ∙ sym new
    ]

pub returns-clause-are : goal.returns-clause-are
returns-clause-are c =
    let table = c.args.table.now in
    let old = c.args.old.now in
    let new = c.args.new.now in
    let fronts = c.fronts_of-fronts.result.items in
    let are : AreFronts c.args.table.now c.args.old.now c.args.new.now c.args.first.now.states.items c.fronts_of-fronts.result.items =
    subst (λ (list : List QueueState). AreFronts table old new list fronts) c.as_slice.ensures.value c.fronts_of-fronts.ensures in
    λ k run there.
    let at = take_there c.still_right-right.result c.args.checkpoints.now.items k run (ap (λ (list : List RunState). slice_get list k) (sym c.truncate.ensures.items) ∙ there) in
    let within : AreWithin c.fronts_of-fronts.result.items run.states.items = subst (λ (list : List Front). AreWithin list run.states.items) c.as_slice-3.ensures.value
    (c.still_right-right.ensures.right k run at.0 (ap (λ (list : List RunState). slice_get list k) c.as_slice-2.ensures.value ∙ at.1)) in
    IsCheckpoint-under table old new c.args.first.now fronts c.requires.first are (slots_apart table * k) run within (c.requires.are k run at.1)
