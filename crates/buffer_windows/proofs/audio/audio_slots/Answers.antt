use Rattle.std.proofs.Common.{List, ap, sum_by, arith}
use Rattle.std.specs.List.{flat_map}
use Rattle.std.proofs.lemmas.List.{drop_all}
use Rattle.version_table.specs.declared.table.AudioPacket.{AudioPacket}
use Rattle.version_table.specs.declared.table.ProgramRow.{ProgramRow}
use Rattle.buffer_windows.specs.Room.{slots_taken}
use Rattle.dual_bounds.proofs.AudioDue.{program_few}
use Rattle.buffer_windows.proofs.Counted.{audio_slots-is, audio_slots-le, streams_from, streams-more}
use Rattle.buffer_windows.proofs.audio.audio_slots.Goals as goal

pub loop-program-init : goal.loop-program-init
loop-program-init c =
    let programs = ap (λ (rows : List ProgramRow). sum_by (slots_taken c.args.table.now.slot c.args.window.now) (streams_from rows 0)) c.as_slice-program-items.ensures in
    omega (arith, programs, audio_slots-is c.args.table.now c.args.window.now)

pub slots_of-total-requires-clause-few : goal.slots_of-total-requires-clause-few
slots_of-total-requires-clause-few c =
    rw c.as_slice.ensures
    (omega (
      arith,
      c.requires.audio_packets,
      program_few c.args.table.now c.as_slice-program-items.result.now c.loop-program.program-index c.program-item.result c.as_slice-program-items.ensures c.loop-program-test.true
          c.program-item.is,
    ))

pub overflow_add-total : goal.overflow_add-total
overflow_add-total c =
    let own = ap (λ (audios : List (List AudioPacket)). sum_by (slots_taken c.args.table.now.slot c.args.window.now) audios) c.as_slice.ensures in
    omega (
      arith,
      own,
      streams-more c.args.table.now.slot c.args.window.now c.as_slice-program-items.result.now c.loop-program.program-index c.program-item.result c.loop-program-test.true
          c.program-item.is,
      audio_slots-le c.args.table.now c.args.window.now,
      c.requires.audio_packets,
    )

pub loop-program-preserved : goal.loop-program-preserved
loop-program-preserved c =
    let own = ap (λ (audios : List (List AudioPacket)). sum_by (slots_taken c.args.table.now.slot c.args.window.now) audios) c.as_slice.ensures in
    omega (
      arith,
      own,
      streams-more c.args.table.now.slot c.args.window.now c.as_slice-program-items.result.now c.loop-program.program-index c.program-item.result c.loop-program-test.true
          c.program-item.is,
    )

pub returns-clause-value : goal.returns-clause-value
returns-clause-value c =
    let rest = ap (λ (left : List ProgramRow). sum_by (slots_taken c.args.table.now.slot c.args.window.now) (flat_map (λ program. program.audios) left))
    (drop_all c.loop-program.program-index c.as_slice-program-items.result.now c.loop-program-test.false) in
    omega (arith, rest)

pub returns-clause-few : goal.returns-clause-few
returns-clause-few c = omega (arith, audio_slots-le c.args.table.now c.args.window.now, c.requires.audio_packets)
