use Rattle.std.proofs.Common.{ℕ, ◌+◌, List, All, map, ap, ◌∙◌, sym, subst, arith}
use Rattle.ts_demux.specs.declared.demuxed.AudioStream.{AudioStream}
use Rattle.program_reader.specs.declared.kept_units.KeptUnit.{KeptUnit}
use Rattle.program_reader.specs.KeptUnits.{kept_at}
use Rattle.program_reader.specs.Dues.{IsTimeFrom}
use Rattle.program_reader.specs.Private.Sources.{AreStreamsFrom, with_video}
use Rattle.program_reader.proofs.ProgramLemmas.{IsClockOf, clock_of, program_is, all_dropped, streams_dropped, video_dropped}
use Rattle.program_reader.proofs.SizedLemmas.{due_places}
use Rattle.program_reader.proofs.due_program.due_program.Goals as goal

pub due_units-requires-clause-earliest : goal.due_units-requires-clause-earliest
due_units-requires-clause-earliest c =
    let clock : IsClockOf (with_video c.args.beside c.requires.video.0) c.args.video c.args.streams.now c.clock-clock.result.earliest =
    subst (IsClockOf (with_video c.args.beside c.requires.video.0) c.args.video c.args.streams.now) (sym c.clock-clock.ensures.earliest)
    (clock_of (with_video c.args.beside c.requires.video.0) c.args.video c.args.streams.now c.as_slice.result.now
    c.first_ticks-first.result.ticks c.of_units.result.ticks c.of_streams-earliest.result.ticks
    c.as_slice.ensures.value c.first_ticks-first.ensures c.requires.video.1 c.requires.streams c.of_units.ensures c.of_streams-earliest.ensures) in
    clock.is_time

pub audio_sources-requires-clause-earliest : goal.audio_sources-requires-clause-earliest
audio_sources-requires-clause-earliest c =
    let clock : IsClockOf (with_video c.args.beside c.requires.video.0) c.args.video c.args.streams.now c.clock-clock.result.earliest =
    subst (IsClockOf (with_video c.args.beside c.requires.video.0) c.args.video c.args.streams.now) (sym c.clock-clock.ensures.earliest)
    (clock_of (with_video c.args.beside c.requires.video.0) c.args.video c.args.streams.now c.as_slice.result.now
    c.first_ticks-first.result.ticks c.of_units.result.ticks c.of_streams-earliest.result.ticks
    c.as_slice.ensures.value c.first_ticks-first.ensures c.requires.video.1 c.requires.streams c.of_units.ensures c.of_streams-earliest.ensures) in
    clock.is_time

pub base-requires-clause-earliest : goal.base-requires-clause-earliest
base-requires-clause-earliest c =
    let clock : IsClockOf (with_video c.args.beside c.requires.video.0) c.args.video c.args.streams.now c.clock-clock.result.earliest =
    subst (IsClockOf (with_video c.args.beside c.requires.video.0) c.args.video c.args.streams.now) (sym c.clock-clock.ensures.earliest)
    (clock_of (with_video c.args.beside c.requires.video.0) c.args.video c.args.streams.now c.as_slice.result.now
    c.first_ticks-first.result.ticks c.of_units.result.ticks c.of_streams-earliest.result.ticks
    c.as_slice.ensures.value c.first_ticks-first.ensures c.requires.video.1 c.requires.streams c.of_units.ensures c.of_streams-earliest.ensures) in
    clock.is_time

pub due_units-requires-clause-times : goal.due_units-requires-clause-times
due_units-requires-clause-times c =
    let clock : IsClockOf (with_video c.args.beside c.requires.video.0) c.args.video c.args.streams.now c.clock-clock.result.earliest =
    subst (IsClockOf (with_video c.args.beside c.requires.video.0) c.args.video c.args.streams.now) (sym c.clock-clock.ensures.earliest)
    (clock_of (with_video c.args.beside c.requires.video.0) c.args.video c.args.streams.now c.as_slice.result.now
    c.first_ticks-first.result.ticks c.of_units.result.ticks c.of_streams-earliest.result.ticks
    c.as_slice.ensures.value c.first_ticks-first.ensures c.requires.video.1 c.requires.streams c.of_units.ensures c.of_streams-earliest.ensures) in
    subst (λ (us : List KeptUnit). All (λ unit. IsTimeFrom c.clock-clock.result.earliest unit.ticks) us) (sym c.as_slice-2.ensures.value) clock.units_from

pub audio_sources-requires-clause-read : goal.audio_sources-requires-clause-read
audio_sources-requires-clause-read c =
    let clock : IsClockOf (with_video c.args.beside c.requires.video.0) c.args.video c.args.streams.now c.clock-clock.result.earliest =
    subst (IsClockOf (with_video c.args.beside c.requires.video.0) c.args.video c.args.streams.now) (sym c.clock-clock.ensures.earliest)
    (clock_of (with_video c.args.beside c.requires.video.0) c.args.video c.args.streams.now c.as_slice.result.now
    c.first_ticks-first.result.ticks c.of_units.result.ticks c.of_streams-earliest.result.ticks
    c.as_slice.ensures.value c.first_ticks-first.ensures c.requires.video.1 c.requires.streams c.of_units.ensures c.of_streams-earliest.ensures) in
    subst (λ (ss : List AudioStream). AreStreamsFrom c.clock-clock.result.earliest ss c.args.streams.now) (sym c.as_slice-3.ensures) clock.streams_from

pub audio_packets_dropped-requires-clause-few : goal.audio_packets_dropped-requires-clause-few
audio_packets_dropped-requires-clause-few c =
    omega (arith, (streams_dropped c.args.video.first.stated c.args.beside.audios c.args.streams.now c.requires.streams).0, c.requires.few_audios)

pub audio_packets_dropped-requires-clause-each : goal.audio_packets_dropped-requires-clause-each
audio_packets_dropped-requires-clause-each c =
    (streams_dropped c.args.video.first.stated c.args.beside.audios c.args.streams.now c.requires.streams).1

pub overflow_add-result : goal.overflow_add-result
overflow_add-result c =
    omega (arith, video_dropped c.requires.video.0 c.args.video.taken c.requires.video.1.taken_are, c.audio_packets_dropped.ensures.most)

pub overflow_add-result-2 : goal.overflow_add-result-2
overflow_add-result-2 c =
    omega (arith, video_dropped c.requires.video.0 c.args.video.taken c.requires.video.1.taken_are, c.audio_packets_dropped.ensures.most, c.requires.cut)

pub returns-clause-program : goal.returns-clause-program
returns-clause-program c = λ packets read.
    let clock : IsClockOf (with_video c.args.beside packets) c.args.video c.args.streams.now c.clock-clock.result.earliest =
    subst (IsClockOf (with_video c.args.beside packets) c.args.video c.args.streams.now) (sym c.clock-clock.ensures.earliest)
    (clock_of (with_video c.args.beside packets) c.args.video c.args.streams.now c.as_slice.result.now c.first_ticks-first.result.ticks c.of_units.result.ticks c.of_streams-earliest.result.ticks
    c.as_slice.ensures.value c.first_ticks-first.ensures read c.requires.streams c.of_units.ensures c.of_streams-earliest.ensures) in
    program_is c.args.start (with_video c.args.beside packets) c.args.video c.args.streams.now c.clock-clock.result c.as_slice-2.result.now c.as_slice-3.result.now
    c.base.result c.into_bytes.result c.in_ok-units.units c.in_ok-audios.audios (c.args.video.taken.dropped + c.audio_packets_dropped.result + c.args.beside.cut) read c.requires.streams clock
    c.clock-clock.ensures.start c.requires.few c.base.ensures c.into_bytes.ensures c.as_slice-2.ensures.value c.in_ok-units.ensures c.as_slice-3.ensures c.in_ok-audios.ensures

pub returns-clause-dropped : goal.returns-clause-dropped
returns-clause-dropped c = λ packets read.
    ap (λ (n : ℕ). n + c.args.beside.cut)
    (all_dropped (with_video c.args.beside packets) c.args.video c.args.streams.now c.audio_packets_dropped.result read c.requires.streams c.audio_packets_dropped.ensures.sum)

pub returns-clause-places : goal.returns-clause-places
returns-clause-places c =
    due_places c.clock-clock.result.start c.clock-clock.result.earliest c.as_slice-2.result.now c.in_ok-units.units c.in_ok-units.ensures ∙ ap (map kept_at) c.as_slice-2.ensures.value
