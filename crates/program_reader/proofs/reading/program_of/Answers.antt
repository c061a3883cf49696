use Rattle.std.proofs.Common.{◌≡◌, List, map, refl, sym, ◌∙◌, subst, inr}
use Rattle.ts_demux.specs.declared.demuxed.AudioStream.{AudioStream}
use Rattle.ts_demux.specs.declared.demuxed.Demuxed.{Demuxed}
use Rattle.elementary_streams.specs.declared.audio_stream.ReadStream.{ReadStream}
use Rattle.elementary_streams.specs.Audio.{audio_type}
use Rattle.program_reader.specs.AudioTypes.{typed}
use Rattle.program_reader.specs.Programs.{IsProgram}
use Rattle.elementary_streams.specs.NearTimes.{IsNear}
use Rattle.program_reader.proofs.AudioMaps.{with_map, parts_typed}
use Rattle.program_reader.proofs.ProgramLemmas.{bad_streams, streams_here, too_many}
use Rattle.program_reader.proofs.SizedLemmas.{program_sizes}
use Rattle.program_reader.proofs.StreamsLemmas.{types_are}
use Rattle.program_reader.proofs.reading.program_of.Goals as goal

pub returns-in-Err-read_streams-clause-program : goal.returns-in-Err-read_streams-clause-program
returns-in-Err-read_streams-clause-program c =
    let demuxed : Demuxed = typed c.args.form c.args.found.demuxed in
    bad_streams demuxed c.in-Ok.video c.as_slice.result.now c.first_time.result.time c.in-Err-read_streams.fault (c.in-Ok.ensures.video demuxed refl)
    c.as_slice.ensures c.first_time.ensures c.in-Err-read_streams.ensures

pub returns-then-as_slice-gt-UNITS_MOST-clause-program : goal.returns-then-as_slice-gt-UNITS_MOST-clause-program
returns-then-as_slice-gt-UNITS_MOST-clause-program c =
    let demuxed : Demuxed = typed c.args.form c.args.found.demuxed in
    inr (too_many demuxed c.in-Ok.video c.in-Ok-read_streams.streams.items c.as_slice-2.result.now (c.in-Ok.ensures.video demuxed refl)
    (streams_here demuxed c.in-Ok.video c.as_slice.result.now c.first_time.result.time c.in-Ok-read_streams.streams.items c.in-Ok-read_streams.streams.items c.as_slice.ensures
    c.first_time.ensures refl c.in-Ok-read_streams.ensures) c.as_slice-2.ensures.value c.if-as_slice-gt-UNITS_MOST.true)

pub returns-in-Err-clause-program : goal.returns-in-Err-clause-program
returns-in-Err-clause-program c = c.in-Err.ensures.video (typed c.args.form c.args.found.demuxed) refl

pub map_by_form-requires-clause-types : goal.map_by_form-requires-clause-types
map_by_form-requires-clause-types c =
    subst (λ (rs : List ReadStream). map (λ (one : ReadStream). one.kind) rs ≡ map audio_type c.as_slice-3.result.now) (sym c.as_slice-4.ensures.value)
    (subst (λ (ss : List AudioStream). map (λ (one : ReadStream). one.kind) c.in-Ok-read_streams.streams.items ≡ map audio_type ss) (c.as_slice.ensures ∙ sym c.as_slice-3.ensures)
    (types_are c.first_time.result.time c.as_slice.result.now c.in-Ok-read_streams.streams.items c.in-Ok-read_streams.ensures))

pub due_program-requires-clause-video : goal.due_program-requires-clause-video
due_program-requires-clause-video c =
    (c.args.found.demuxed.video, c.in-Ok.ensures.video (with_map c.args.found.demuxed c.map_by_form.result) refl)

pub read_streams-requires-clause-first : goal.read_streams-requires-clause-first
read_streams-requires-clause-first c = subst (IsNear 0) (sym c.first_time.ensures) (c.in-Ok.ensures.video c.args.found.demuxed refl).near

pub returns-in-Ok-due_program-clause-program : goal.returns-in-Ok-due_program-clause-program
returns-in-Ok-due_program-clause-program c =
    subst (λ (d : Demuxed). IsProgram c.args.start d c.in-Ok-due_program.program)
    (parts_typed c.args.form c.args.found.demuxed c.map_by_form.result c.as_slice-3.result.now c.map_by_form.ensures c.as_slice-3.ensures)
    (c.in-Ok-due_program.ensures.program c.args.found.demuxed.video (c.in-Ok.ensures.video (with_map c.args.found.demuxed c.map_by_form.result) refl))

pub returns-in-Ok-due_program-clause-dropped : goal.returns-in-Ok-due_program-clause-dropped
returns-in-Ok-due_program-clause-dropped c =
    c.in-Ok-due_program.ensures.dropped c.args.found.demuxed.video (c.in-Ok.ensures.video (with_map c.args.found.demuxed c.map_by_form.result) refl)

pub returns-in-Ok-due_program-clause-sizes : goal.returns-in-Ok-due_program-clause-sizes
returns-in-Ok-due_program-clause-sizes c = λ want.
    program_sizes c.in-Ok-due_program.program c.args.wanted.now.coarser.now c.in-Ok.video.taken.payload.items c.in-Ok.video.units.items c.read_video.new.sizes.items c.in-Ok-due_program.ensures.bytes
    c.in-Ok-due_program.ensures.places (c.in-Ok.ensures.sizes want)
