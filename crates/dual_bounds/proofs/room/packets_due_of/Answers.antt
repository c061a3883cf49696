use Rattle.std.proofs.Common.{◌≡◌, List, sym, ap, subst, ◌∙◌, arith}
use Rattle.std.specs.List.{flat_map}
use Rattle.std.proofs.lemmas.List.{drop_all}
use Rattle.version_table.specs.declared.table.AudioPacket.{AudioPacket}
use Rattle.version_table.specs.Table.{IsValidAudio}
use Rattle.dual_bounds.specs.Private.Counts.{audio_within}
use Rattle.dual_bounds.proofs.AudioDue.{DuesStay-from_valid, audio_within-le, audio_within-nil, streams-more}
use Rattle.dual_bounds.proofs.room.packets_due_of.Goals as goal

pub packets_within-total-requires : goal.packets_within-total-requires
packets_within-total-requires c =
    let valid : IsValidAudio c.args.slot c.packets-item.result =
    subst (λ (packets : List AudioPacket). IsValidAudio c.args.slot packets) (sym c.packets-item.is) (c.requires.valid c.loop-packets.packets-index c.packets-item.result c.loop-packets-test.true) in
    rw c.as_slice.ensures (DuesStay-from_valid c.args.slot c.packets-item.result valid)

pub overflow_add-total : goal.overflow_add-total
overflow_add-total c =
    let from = c.args.from in
    let due = c.args.due in
    let own : audio_within from due c.as_slice.result.now ≡ _ = ap (audio_within from due) (c.as_slice.ensures ∙ c.packets-item.is) in
    omega (
      arith,
      own,
      streams-more from due c.args.audios.now c.loop-packets.packets-index c.packets-item.result c.loop-packets-test.true,
      audio_within-le from due (flat_map (λ packets. packets) c.args.audios.now),
    )

pub loop-packets-preserved : goal.loop-packets-preserved
loop-packets-preserved c =
    let from = c.args.from in
    let due = c.args.due in
    let own : audio_within from due c.as_slice.result.now ≡ _ = ap (audio_within from due) (c.as_slice.ensures ∙ c.packets-item.is) in
    omega (arith, own, streams-more from due c.args.audios.now c.loop-packets.packets-index c.packets-item.result c.loop-packets-test.true)

pub returns : goal.returns
returns c =
    let rest = ap (λ (left : List (List AudioPacket)). audio_within c.args.from c.args.due (flat_map (λ packets. packets) left)) (drop_all c.loop-packets.packets-index
    c.args.audios.now c.loop-packets-test.false) in
    omega (arith, rest, audio_within-nil c.args.from c.args.due)
