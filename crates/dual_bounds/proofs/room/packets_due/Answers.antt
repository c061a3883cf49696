use Rattle.std.proofs.Common.{List, ap, arith}
use Rattle.std.specs.List.{flat_map}
use Rattle.std.proofs.lemmas.List.{drop_all}
use Rattle.version_table.specs.declared.table.AudioPacket.{AudioPacket}
use Rattle.version_table.specs.declared.table.ProgramRow.{ProgramRow}
use Rattle.dual_bounds.specs.Private.Counts.{audio_within}
use Rattle.dual_bounds.proofs.AudioDue.{audio_due-is, audio_due-le, audio_within-nil, program_few, programs-more}
use Rattle.dual_bounds.proofs.room.packets_due.Goals as goal

pub loop-program-init : goal.loop-program-init
loop-program-init c =
    let programs = ap (λ (rows : List ProgramRow). audio_within c.args.from c.args.due (flat_map (λ program. flat_map (λ packets. packets) program.audios) rows)) c.as_slice-program-items.ensures in
    omega (arith, programs, audio_due-is c.args.table.now c.args.from c.args.due)

pub packets_due_of-total-requires-clause-few : goal.packets_due_of-total-requires-clause-few
packets_due_of-total-requires-clause-few c =
    rw c.as_slice.ensures
    (omega (
      arith,
      c.requires.audio_packets,
      program_few c.args.table.now c.as_slice-program-items.result.now c.loop-program.program-index c.program-item.result c.as_slice-program-items.ensures c.loop-program-test.true c.program-item.is,
    ))

pub overflow_add-total : goal.overflow_add-total
overflow_add-total c =
    let from = c.args.from in
    let due = c.args.due in
    let own = ap (λ (audios : List (List AudioPacket)). audio_within from due (flat_map (λ packets. packets) audios)) c.as_slice.ensures in
    omega (
      arith,
      own,
      programs-more from due c.as_slice-program-items.result.now c.loop-program.program-index c.program-item.result c.loop-program-test.true c.program-item.is,
      audio_due-le c.args.table.now from due,
      c.requires.audio_packets,
    )

pub loop-program-preserved : goal.loop-program-preserved
loop-program-preserved c =
    let from = c.args.from in
    let due = c.args.due in
    let own = ap (λ (audios : List (List AudioPacket)). audio_within from due (flat_map (λ packets. packets) audios)) c.as_slice.ensures in
    omega (arith, own, programs-more from due c.as_slice-program-items.result.now c.loop-program.program-index c.program-item.result c.loop-program-test.true c.program-item.is)

pub returns-clause-value : goal.returns-clause-value
returns-clause-value c =
    let rest = ap (λ (left : List ProgramRow). audio_within c.args.from c.args.due (flat_map (λ program. flat_map (λ packets. packets) program.audios) left))
    (drop_all c.loop-program.program-index c.as_slice-program-items.result.now c.loop-program-test.false) in
    omega (arith, rest, audio_within-nil c.args.from c.args.due)

pub returns-clause-few : goal.returns-clause-few
returns-clause-few c = omega (arith, audio_due-le c.args.table.now c.args.from c.args.due, c.requires.audio_packets)
