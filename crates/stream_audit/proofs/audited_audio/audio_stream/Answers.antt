use Rattle.std.proofs.Common.{◌≡◌, ℕ, ℤ, pos, ◌+◌, ◌/◌, ◌%◌, length, ap, refl, sym, subst, ◌∙◌}
use Rattle.stream_constants.specs.declared.clock.TheConstants.{TICKS_PER_TIME_UNIT}
use Rattle.pcr_writer.specs.declared.pcr.TheConstants.{PCR_MODULUS}
use Rattle.stream_audit.specs.PesBytes.{brought_by_all}
use Rattle.stream_audit.specs.Private.FrameRemovals.{AreChained}
use Rattle.stream_audit.proofs.AudioFacts.{audio_judged, audio_late, audio_sound, audio_unread, frames_fall, front_few, front_taken, is_audio, read_chained, read_climb, read_headers, read_lengths, read_places}
use Rattle.stream_audit.proofs.audited_audio.audio_stream.Goals as goal

-- the program's first time as one of the axis
shown : {time : ℤ} {first value : ℕ} → time ≡ pos first → first ≡ value → time ≡ pos value
shown time_is first_is = time_is ∙ ap pos first_is

pub frame_removals-requires-clause-chained : goal.frame_removals-requires-clause-chained
frame_removals-requires-clause-chained c =
    subst (λ frames. AreChained 0 frames) (sym c.as_slice-timed.ensures) (read_chained c.of-before.result.time c.args.stream.now c.in-Ok.read c.in-Ok.ensures c.requires.few_bytes)

pub frame_removals-requires-clause-climb : goal.frame_removals-requires-clause-climb
frame_removals-requires-clause-climb c = read_climb c.of-before.result.time c.args.stream.now c.in-Ok.read c.in-Ok.ensures c.requires.few_bytes c.as_slice-placed.result.now c.as_slice-placed.ensures.value

pub frame_removals-requires-clause-headers : goal.frame_removals-requires-clause-headers
frame_removals-requires-clause-headers c = read_headers c.of-before.result.time c.args.stream.now c.in-Ok.read c.in-Ok.ensures c.requires.few_bytes c.as_slice-placed.result.now c.as_slice-placed.ensures.value

pub frame_removals-requires-clause-lengths : goal.frame_removals-requires-clause-lengths
frame_removals-requires-clause-lengths c = read_lengths c.of-before.result.time c.args.stream.now c.in-Ok.read c.in-Ok.ensures c.requires.few_bytes c.as_slice-timed.result.now c.as_slice-timed.ensures

pub frame_removals-requires-clause-places : goal.frame_removals-requires-clause-places
frame_removals-requires-clause-places c = read_places c.of-before.result.time c.args.stream.now c.in-Ok.read c.in-Ok.ensures c.requires.few_bytes c.as_slice-timed.result.now c.as_slice-timed.ensures

pub frame_removals-requires-clause-fall : goal.frame_removals-requires-clause-fall
frame_removals-requires-clause-fall c =
    let shown_is = c.time_shown-first.ensures.value ∙ ap (λ due. (c.args.kept.now.base + due) % PCR_MODULUS / TICKS_PER_TIME_UNIT) c.first_due.ensures in
    frames_fall c.of-before.result.time c.time_shown-first.result c.args.kept.now c.args.stream.now c.in-Ok.read c.as_slice-timed.result.now c.new-clock.result.offset c.in-Ok.ensures shown_is
    c.time_shown-first.ensures.few c.as_slice-timed.ensures c.new-clock.ensures.offset (c.has_late.ensures.in_time c.if-has_late.false)

pub front-taken-requires : goal.front-taken-requires
front-taken-requires c =
    front_few c.of-before.result.time c.args.stream.now c.in-Ok.read c.as_slice.result.now c.len.result c.in-Ok.ensures c.as_slice.ensures
    (c.len.ensures ∙ sym c.as_slice-placed.ensures.len ∙ ap (λ placed. length placed) c.as_slice-placed.ensures.value)

pub returns-clause-stream : goal.returns-clause-stream
returns-clause-stream c =
    let first_is = shown c.of-before.ensures.time (c.time_shown-first.ensures.value ∙ ap (λ due. (c.args.kept.now.base + due) % PCR_MODULUS / TICKS_PER_TIME_UNIT) c.first_due.ensures) in
    let front_is = front_taken c.of-before.result.time c.args.stream.now c.in-Ok.read c.as_slice.result.now c.front-taken.result.now c.len.result c.in-Ok.ensures c.as_slice.ensures
    (c.len.ensures ∙ sym c.as_slice-placed.ensures.len ∙ ap (λ placed. length placed) c.as_slice-placed.ensures.value) c.front-taken.ensures in
    is_audio c.of-before.result.time c.args.zero c.in-Ok.read.bytes c.bytes_before.result c.args.kept.now c.args.places.now c.args.stream.now c.in-Ok.read c.new-clock.result
    c.front-taken.result.now c.as_slice-placed.result.now c.as_slice-timed.result.now c.in_ok-arrivals.arrivals c.in_ok-removals.removals c.in-Ok.ensures first_is refl c.bytes_before.ensures
    c.new-clock.ensures.zero c.new-clock.ensures.base c.new-clock.ensures.offset front_is c.as_slice-placed.ensures.value c.as_slice-timed.ensures
    (c.in_ok-arrivals.ensures.arrivals ∙ ap (λ parts. brought_by_all c.args.places.now parts) c.new-parts.ensures) c.in_ok-removals.ensures.removals

pub returns-clause-judged : goal.returns-clause-judged
returns-clause-judged c =
    audio_judged c.of-before.result.time c.args.places.now c.args.stream.now c.in-Ok.read c.new-clock.result c.as_slice-placed.result.now c.as_slice-timed.result.now c.in_ok-arrivals.arrivals
    c.in_ok-removals.removals c.args.stream.now.pid c.in-Ok.ensures c.requires.few_bytes c.as_slice-timed.ensures c.requires.packets_rise c.in_ok-arrivals.ensures.slots
    c.in_ok-arrivals.ensures.headers c.in_ok-removals.ensures.removals c.in_ok-removals.ensures.fit

pub returns-clause-sound : goal.returns-clause-sound
returns-clause-sound c =
    let first_is = shown c.of-before.ensures.time (c.time_shown-first.ensures.value ∙ ap (λ due. (c.args.kept.now.base + due) % PCR_MODULUS / TICKS_PER_TIME_UNIT) c.first_due.ensures) in
    audio_sound c.of-before.result.time c.args.kept.now c.args.stream.now c.in-Ok.read c.as_slice-timed.result.now c.new-clock.result.offset c.in-Ok.ensures first_is c.as_slice-timed.ensures
    c.new-clock.ensures.offset (c.has_late.ensures.in_time c.if-has_late.false)

pub returns-then-has_late-clause-refused : goal.returns-then-has_late-clause-refused
returns-then-has_late-clause-refused c =
    let first_is = shown c.of-before.ensures.time (c.time_shown-first.ensures.value ∙ ap (λ due. (c.args.kept.now.base + due) % PCR_MODULUS / TICKS_PER_TIME_UNIT) c.first_due.ensures) in
    audio_late c.of-before.result.time c.args.kept.now c.args.stream.now c.in-Ok.read c.as_slice-timed.result.now c.new-clock.result.offset c.in-Ok.ensures first_is c.as_slice-timed.ensures
    c.new-clock.ensures.offset (c.has_late.ensures.late c.if-has_late.true)

pub returns-in-Err-clause-refused : goal.returns-in-Err-clause-refused
returns-in-Err-clause-refused c =
    let first_is = shown c.of-before.ensures.time (c.time_shown-first.ensures.value ∙ ap (λ due. (c.args.kept.now.base + due) % PCR_MODULUS / TICKS_PER_TIME_UNIT) c.first_due.ensures) in
    audio_unread c.of-before.result.time c.args.kept.now c.args.stream.now c.in-Err.fault c.stream_stop.result first_is c.in-Err.ensures c.stream_stop.ensures
