use Rattle.std.proofs.Common.{List, sym, subst, arith, All, map, ap, ◌∙◌}
use Rattle.program_reader.specs.declared.kept_units.KeptUnit.{KeptUnit}
use Rattle.program_reader.specs.Dues.{IsTimeFrom}
use Rattle.program_reader.specs.KeptUnits.{kept_at}
use Rattle.program_reader.proofs.ProgramLemmas.{streams_dropped}
use Rattle.program_reader.proofs.SizedLemmas.{due_places}
use Rattle.passed_programs.proofs.CutUp.{all_ready, streams_read}
use Rattle.passed_programs.proofs.ReadOff.{clock_is, dropped_most, few_of, passed_is, room_of}
use Rattle.passed_programs.proofs.due_program.due_passed.Goals as goal

pub due_units-requires-clause-earliest : goal.due_units-requires-clause-earliest
due_units-requires-clause-earliest c = (clock_is c.requires.read.0 (room_of c.requires.read.0 c.args.found c.args.video.now c.args.streams.now c.requires.read.1) c.args.found c.args.video.now c.args.streams.now c.as_slice.result.now c.first_time-first.result.ticks
    c.of_units.result.ticks c.of_streams-earliest.result.ticks c.clock-clock.result.earliest c.requires.read.1
    (c.near_times.ensures.walked c.requires.read.0 c.args.video.now (few_of c.requires.read.0 c.args.found c.args.video.now c.args.streams.now c.requires.read.1) c.requires.read.1.video_read)
    c.as_slice.ensures.value c.first_time-first.ensures c.of_units.ensures c.of_streams-earliest.ensures c.clock-clock.ensures.earliest).is_time

pub passed_audios-requires-clause-earliest : goal.passed_audios-requires-clause-earliest
passed_audios-requires-clause-earliest c = (clock_is c.requires.read.0 (room_of c.requires.read.0 c.args.found c.args.video.now c.args.streams.now c.requires.read.1) c.args.found c.args.video.now c.args.streams.now c.as_slice.result.now c.first_time-first.result.ticks
    c.of_units.result.ticks c.of_streams-earliest.result.ticks c.clock-clock.result.earliest c.requires.read.1
    (c.near_times.ensures.walked c.requires.read.0 c.args.video.now (few_of c.requires.read.0 c.args.found c.args.video.now c.args.streams.now c.requires.read.1) c.requires.read.1.video_read)
    c.as_slice.ensures.value c.first_time-first.ensures c.of_units.ensures c.of_streams-earliest.ensures c.clock-clock.ensures.earliest).is_time

pub base-requires-clause-earliest : goal.base-requires-clause-earliest
base-requires-clause-earliest c = (clock_is c.requires.read.0 (room_of c.requires.read.0 c.args.found c.args.video.now c.args.streams.now c.requires.read.1) c.args.found c.args.video.now c.args.streams.now c.as_slice.result.now c.first_time-first.result.ticks
    c.of_units.result.ticks c.of_streams-earliest.result.ticks c.clock-clock.result.earliest c.requires.read.1
    (c.near_times.ensures.walked c.requires.read.0 c.args.video.now (few_of c.requires.read.0 c.args.found c.args.video.now c.args.streams.now c.requires.read.1) c.requires.read.1.video_read)
    c.as_slice.ensures.value c.first_time-first.ensures c.of_units.ensures c.of_streams-earliest.ensures c.clock-clock.ensures.earliest).is_time

pub due_units-requires-clause-times : goal.due_units-requires-clause-times
due_units-requires-clause-times c =
    subst (λ (us : List KeptUnit). All (λ unit. IsTimeFrom c.clock-clock.result.earliest unit.ticks) us) (sym c.as_slice-2.ensures.value)
    (clock_is c.requires.read.0 (room_of c.requires.read.0 c.args.found c.args.video.now c.args.streams.now c.requires.read.1) c.args.found c.args.video.now c.args.streams.now c.as_slice.result.now c.first_time-first.result.ticks
    c.of_units.result.ticks c.of_streams-earliest.result.ticks c.clock-clock.result.earliest c.requires.read.1
    (c.near_times.ensures.walked c.requires.read.0 c.args.video.now (few_of c.requires.read.0 c.args.found c.args.video.now c.args.streams.now c.requires.read.1) c.requires.read.1.video_read)
    c.as_slice.ensures.value c.first_time-first.ensures c.of_units.ensures c.of_streams-earliest.ensures c.clock-clock.ensures.earliest).units_from

pub passed_audios-requires-clause-ready : goal.passed_audios-requires-clause-ready
passed_audios-requires-clause-ready c =
    all_ready c.clock-clock.result.earliest c.requires.read.0.audios c.args.streams.now (clock_is c.requires.read.0 (room_of c.requires.read.0 c.args.found c.args.video.now c.args.streams.now c.requires.read.1) c.args.found c.args.video.now c.args.streams.now c.as_slice.result.now c.first_time-first.result.ticks
    c.of_units.result.ticks c.of_streams-earliest.result.ticks c.clock-clock.result.earliest c.requires.read.1
    (c.near_times.ensures.walked c.requires.read.0 c.args.video.now (few_of c.requires.read.0 c.args.found c.args.video.now c.args.streams.now c.requires.read.1) c.requires.read.1.video_read)
    c.as_slice.ensures.value c.first_time-first.ensures c.of_units.ensures c.of_streams-earliest.ensures c.clock-clock.ensures.earliest).streams_from
    c.requires.read.1.packets_few.1 c.requires.read.1.audio_few

pub audio_packets_dropped-requires-clause-few : goal.audio_packets_dropped-requires-clause-few
audio_packets_dropped-requires-clause-few c =
    omega (arith, (streams_dropped c.args.video.now.first.stated c.requires.read.0.audios c.args.streams.now (streams_read c.args.video.now.first.stated c.requires.read.0.audios c.args.streams.now c.requires.read.1.audios_read)).0, c.requires.read.1.audios_few)

pub audio_packets_dropped-requires-clause-each : goal.audio_packets_dropped-requires-clause-each
audio_packets_dropped-requires-clause-each c =
    (streams_dropped c.args.video.now.first.stated c.requires.read.0.audios c.args.streams.now (streams_read c.args.video.now.first.stated c.requires.read.0.audios c.args.streams.now c.requires.read.1.audios_read)).1

pub overflow_add-result : goal.overflow_add-result
overflow_add-result c =
    omega (
      arith,
      dropped_most c.requires.read.0 (room_of c.requires.read.0 c.args.found c.args.video.now c.args.streams.now c.requires.read.1) c.args.video.now c.requires.read.1.video_read
          (c.near_times.ensures.walked c.requires.read.0 c.args.video.now (few_of c.requires.read.0 c.args.found c.args.video.now c.args.streams.now c.requires.read.1) c.requires.read.1.video_read),
      c.audio_packets_dropped.ensures.most,
    )

pub returns-clause-program : goal.returns-clause-program
returns-clause-program c = λ demuxed are.
    passed_is c.args.start demuxed (room_of demuxed c.args.found c.args.video.now c.args.streams.now are) c.args.found c.args.video.now c.args.streams.now c.clock-clock.result c.as_slice-2.result.now c.base.result
    c.in_ok-units.units c.in_ok-audios.audios c.audio_packets_dropped.result are
    (c.near_times.ensures.walked demuxed c.args.video.now (few_of demuxed c.args.found c.args.video.now c.args.streams.now are) are.video_read)
    (clock_is demuxed (room_of demuxed c.args.found c.args.video.now c.args.streams.now are) c.args.found c.args.video.now c.args.streams.now c.as_slice.result.now c.first_time-first.result.ticks
    c.of_units.result.ticks c.of_streams-earliest.result.ticks c.clock-clock.result.earliest are
    (c.near_times.ensures.walked demuxed c.args.video.now (few_of demuxed c.args.found c.args.video.now c.args.streams.now are) are.video_read)
    c.as_slice.ensures.value c.first_time-first.ensures c.of_units.ensures c.of_streams-earliest.ensures c.clock-clock.ensures.earliest)
    c.clock-clock.ensures.start c.base.ensures c.as_slice-2.ensures.value c.in_ok-units.ensures c.in_ok-audios.ensures c.audio_packets_dropped.ensures.sum

pub returns-clause-places : goal.returns-clause-places
returns-clause-places c =
    due_places c.clock-clock.result.start c.clock-clock.result.earliest c.as_slice-2.result.now c.in_ok-units.units c.in_ok-units.ensures ∙ ap (map kept_at) c.as_slice-2.ensures.value
