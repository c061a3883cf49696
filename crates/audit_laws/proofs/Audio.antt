-- An audio stream of a stream that is clean by its own times, as an audit judges it: what comes to its decoder has no less header than the stream is clean with, and its frames
-- are removed between the times at which their bytes are wanted and gone.
use Rattle.std.proofs.Common.{◌≡◌, ℕ, ◌+◌, ◌-◌, ◌*◌, ◌<◌, ◌≤◌, ◌==◌, false, List, [], ◌∷◌, ◌++◌, All, length, map, drop, replicate, Option, refl, sym, ap, ap₂, subst, ◌∙◌, arith}
use Rattle.std.proofs.Common.{length-append, ℤ, pos, negsuc, ◌+ℤ◌, ◌-ℤ◌, ◌≤ℤ◌, ◌<ℤ◌}
use Rattle.std.specs.List.{AllZip, enumerate_from, flat_map, range_with_len, sum_by}
use Rattle.std.specs.List.Sorted.{IsNonDecreasing}
use Rattle.std.proofs.lemmas.Int.{ints}
use Rattle.std.proofs.lemmas.List.{length-drop, length-map, length-replicate, nil_from_length}
use Rattle.std.proofs.lemmas.List.Concat.{length-flat_map}
use Rattle.std.proofs.lemmas.List.Elements.{All-cons, All-head, All-nil, All-tail}
use Rattle.std.proofs.lemmas.List.FromFn.{length-range_with_len}
use Rattle.std.proofs.lemmas.List.Sums.{sum_by-cons}
use Rattle.std.proofs.lemmas.Simd.{map-map}
use Rattle.bit_lists.specs.Payload.{Payload}
use Rattle.audio_frames.specs.declared.frame.Frame.{Frame}
use Rattle.pes_units.specs.PesHeader.{header_length}
use Rattle.pes_units.specs.PesPackets.{Gathered, gathered}
use Rattle.ts_packets.specs.Packet.{PacketRecord}
use Rattle.ts_packets.specs.Carried.{carried, payloads_on}
use Rattle.ts_packets.specs.TransportStream.{pid_pieces, piece_count}
use Rattle.version_table.specs.declared.table.AudioPacket.{AudioPacket}
use Rattle.slot_rule.specs.declared.queue_kind.QueueKind.TheVariants.{Audio}
use Rattle.slot_rule.specs.Queues.{audio_of}
use Rattle.tstd_model.specs.declared.decoder_input.Arrival.{Arrival}
use Rattle.tstd_model.specs.declared.decoder_input.BufferKind.TheVariants.{Audio as AudioBuffers}
use Rattle.tstd_model.specs.declared.decoder_input.PacketPart.{PacketPart}
use Rattle.tstd_model.specs.declared.decoder_input.PacketPart.TheVariants.{Overhead}
use Rattle.tstd_model.specs.declared.decoder_input.Removal.{Removal}
use Rattle.tstd_model.specs.Decoder.{removed}
use Rattle.tstd_model.specs.Faults.{IsFault}
use Rattle.tstd_bridge.specs.Arrivals.{Headers}
use Rattle.tstd_bridge.specs.Removals.{IsAllowed, gone_of_each, wanted_of_each}
use Rattle.ts_demux.specs.declared.demuxed.AudioStream.{AudioStream}
use Rattle.ts_demux.specs.declared.demuxed.PesUnit.{PesUnit}
use Rattle.ts_demux.specs.declared.pid_places.Place.{Place}
use Rattle.ts_demux.specs.PidPlaces.{places_on}
use Rattle.elementary_streams.specs.declared.pes_packets.PlacedPacket.{PlacedPacket}
use Rattle.elementary_streams.specs.Audio.{HasFrames}
use Rattle.elementary_streams.specs.Packets.{joined, pes_payload_of, placed_from, taken}
use Rattle.elementary_streams.proofs.StreamLemmas.{HasPayload, bytes_in, taken_payloads}
use Rattle.stream_audit.specs.declared.audited_stream.AuditedStream.{AuditedStream}
use Rattle.stream_audit.specs.declared.finding.Finding.{Finding}
use Rattle.stream_audit.specs.declared.kept_units.KeptUnits.{KeptUnits}
use Rattle.stream_audit.specs.Clock.{shift}
use Rattle.stream_audit.specs.Findings.{FindsOn}
use Rattle.stream_audit.specs.PesBytes.{brought_by_all}
use Rattle.stream_audit.specs.Private.FrameRemovals.{AreChained}
use Rattle.stream_audit.specs.Removals.{first_due, first_time, frame_due, frame_removals, header_bytes_in, not_before_zero, removed_at}
use Rattle.stream_audit.specs.Streams.{IsAudioStream, arrivals_by}
use Rattle.stream_audit.proofs.AudioLaws.{spans_chained, spans_within}
use Rattle.program_reader.specs.declared.program.AudioPiece.{AudioPiece}
use Rattle.program_reader.specs.Audio.{ArePieces, packet_size, payload_place, piece_size, placed_pieces, time_of_byte}
use Rattle.program_table.proofs.AudioLimits.{Mount, mount-rises}
use Rattle.program_table.proofs.AudioTimes.{Follow, Reach, Rise, follow-of, later-byte, reach-of, rise-of}
use Rattle.clean_laws.specs.Arrivals.{arrivals_on}
use Rattle.clean_laws.specs.Clean.{IsCleanOn, IsPayloadOf}
use Rattle.audit_laws.specs.Carried.{CarriesAudio}
use Rattle.audit_laws.specs.Found.{IsFullAtMost}
use Rattle.audit_laws.specs.Headers.{HaveNoLessHeaders}
use Rattle.audit_laws.specs.Kept.{IsBegun}
use Rattle.audit_laws.proofs.Brought.{AreWholeHeaders, all-taken, cut-bytes, cut-some, cut_at_starts, flow, flow-brought, gathered-are, header_left, queued-bytes, taken-less}
use Rattle.audit_laws.proofs.Found.{found-on}
use Rattle.audit_laws.proofs.Frames.{IsValueOf, RiseAlong, StandFrom, along-frames, counted-mount, counted-within, counted_places, piece_bytes, pieces-cover, pieces-gone, pieces-wanted, removed-by}
use Rattle.audit_laws.proofs.Gathered.{before-is, front, of-map, plain_parts, whole-parts}
use Rattle.audit_laws.proofs.Headers.{fault-there}
use Rattle.audit_laws.proofs.Places.{PacketLaws, carried-are, places-are, places_by}

-- ---- when frames are removed

-- the instant at which a frame of this time is removed, in subticks
abbrev removed_when : (clock : ℕ) → KeptUnits → ℤ → ℕ
removed_when clock kept time = 940 * removed_at clock kept.base (pos (first_due kept) +ℤ (time -ℤ pos (300 * first_time kept)))

same-due : (due at : ℕ) (first moved time shown begin : ℤ) → (first +ℤ moved) ≡ pos at → shown ≡ begin → pos due ≡ ((pos at +ℤ time) -ℤ begin)
    → ((first +ℤ (time -ℤ shown)) +ℤ moved) ≡ pos due
same-due due at first moved time shown begin removed stated is = omega (arith, ints, removed, stated, is)

not-later : (one other : ℤ) → one ≤ℤ other → not_before_zero one ≤ not_before_zero other
not-later (pos one) (pos other) le = omega (arith, ints, le)
not-later (pos one) (negsuc other) le = absurd (omega (arith, ints, le))
not-later (negsuc one) other le = omega arith

moved-later : (first second due shown moved : ℤ) → first ≤ℤ second → ((due +ℤ (first -ℤ shown)) +ℤ moved) ≤ℤ ((due +ℤ (second -ℤ shown)) +ℤ moved)
moved-later first second due shown moved le = omega (arith, ints, le)

is-value : (clock begin at : ℕ) (kept : KeptUnits) → IsBegun clock kept begin at → IsValueOf at (pos (300 * begin)) (removed_when clock kept)
is-value clock begin at kept begun = record {
  at_due = λ time due is.
      ap (λ (ticks : ℤ). 940 * not_before_zero ticks)
      (same-due due at (pos (first_due kept)) (shift clock kept.base) time (pos (300 * first_time kept)) (pos (300 * begin)) begun.removed
      (ap (λ (n : ℕ). pos (300 * n)) begun.stated) is);
  later = λ first second le.
      let least = not-later ((pos (first_due kept) +ℤ (first -ℤ pos (300 * first_time kept))) +ℤ shift clock kept.base)
      ((pos (first_due kept) +ℤ (second -ℤ pos (300 * first_time kept))) +ℤ shift clock kept.base)
      (moved-later first second (pos (first_due kept)) (pos (300 * first_time kept)) (shift clock kept.base) le) in
      omega (arith, least);
}

-- a frame isn't removed before an earlier one
mount-behind : (due : ℤ → ℕ) → ((first second : ℤ) → first ≤ℤ second → due first ≤ due second) → (f : Frame) (fs : List Frame) → Rise (f ∷ fs)
    → Mount (due f.time) (map (λ (frame : Frame). due frame.time) fs)
mount-behind due later f [] rise = tt
mount-behind due later f (g ∷ gs) rise = (later f.time g.time (weak f.time g.time rise.0), mount-behind due later g gs rise.1)
  where
    weak : (x y : ℤ) → x <ℤ y → x ≤ℤ y
    weak x y less = omega (arith, ints, less)

dues-mount : (due : ℤ → ℕ) → ((first second : ℤ) → first ≤ℤ second → due first ≤ due second) → (frames : List Frame) → Rise frames → Mount 0 (map (λ (frame : Frame). due frame.time) frames)
dues-mount due later [] rise = tt
dues-mount due later (f ∷ fs) rise = (omega arith, mount-behind due later f fs rise)

-- ---- the PES packets that are taken

stand-of : (from : ℕ) (packets : List PesUnit) → StandFrom from (placed_from from packets) (from + length (joined packets))
stand-of from [] = omega arith
stand-of from (p ∷ ps) =
    let size : from + length (pes_payload_of p) + length (joined ps) ≡ from + length (joined (p ∷ ps)) = omega (arith, length-append (pes_payload_of p) (joined ps)) in (
      refl,
      omega arith,
      subst (λ (end : ℕ). StandFrom (from + length (pes_payload_of p)) (placed_from (from + length (pes_payload_of p)) ps) end) size (stand-of (from + length (pes_payload_of p)) ps),
    )

some-of : (from : ℕ) (packets : List PesUnit) → All HasPayload packets → All (λ (p : PlacedPacket). p.from < p.end) (placed_from from packets)
some-of from [] some = All-nil (λ (p : PlacedPacket). p.from < p.end)
some-of from (p ∷ ps) some =
    let own : HasPayload p = All-head HasPayload p ps some in
    All-cons (λ (q : PlacedPacket). q.from < q.end) _ (placed_from (from + length (pes_payload_of p)) ps) (omega (arith, own))
    (some-of (from + length (pes_payload_of p)) ps (All-tail HasPayload p ps some))

whole-of : (packets : List PesUnit) → All HasPayload packets → AreWholeHeaders (map (λ (p : PesUnit). p.bytes) packets)
whole-of [] some = All-nil (λ (bytes : List ℕ). header_length bytes ≤ length bytes)
whole-of (p ∷ ps) some =
    let own : HasPayload p = All-head HasPayload p ps some in
    let size : length (pes_payload_of p) ≡ length p.bytes - header_length p.bytes = length-drop (header_length p.bytes) p.bytes in
    All-cons (λ (bytes : List ℕ). header_length bytes ≤ length bytes) p.bytes (map (λ (q : PesUnit). q.bytes) ps) (omega (arith, own, size)) (whole-of ps (All-tail HasPayload p ps some))

-- their bytes count with as many places
counted-bytes : (from : ℕ) (packets : List PesUnit) → All HasPayload packets → length (counted_places (placed_from from packets)) ≡ bytes_in packets
counted-bytes from [] some = refl
counted-bytes from (p ∷ ps) some =
    let end : ℕ = from + length (pes_payload_of p) in
    let h : ℕ = header_length p.bytes in
    let own : HasPayload p = All-head HasPayload p ps some in
    let size : length (pes_payload_of p) ≡ length p.bytes - header_length p.bytes = length-drop (header_length p.bytes) p.bytes in
    let rest = counted-bytes end ps (All-tail HasPayload p ps some) in
    omega (
      arith,
      own,
      size,
      rest,
      length-append (replicate h from ++ range_with_len from (end - from)) (counted_places (placed_from end ps)),
      length-append (replicate h from) (range_with_len from (end - from)),
      length-replicate h from,
      length-range_with_len from (end - from),
      sum_by-cons (λ (packet : PesUnit). length packet.bytes) p ps,
    )

-- the pieces of packets have all of them
pieces-bytes : (start : ℕ) (earliest : ℤ) (frames : List Frame) (places : List (PlacedPacket × ℕ × ℕ)) (pieces : List AudioPiece) → ArePieces start earliest frames places pieces
    → sum_by (λ (piece : AudioPiece). piece.packet.bytes) pieces ≡ length (flat_map piece_bytes places)
pieces-bytes start earliest frames [] [] are = refl
pieces-bytes start earliest frames [] (x ∷ xs) are = absurd are
pieces-bytes start earliest frames (p ∷ ps) [] are = absurd are
pieces-bytes start earliest frames (p ∷ ps) (x ∷ xs) are =
    let own : x.packet.bytes ≡ piece_size (packet_size p.0) p.2 = are.0.bytes in
    let rest = pieces-bytes start earliest frames ps xs are.1 in
    omega (
      arith,
      own,
      rest,
      sum_by-cons (λ (piece : AudioPiece). piece.packet.bytes) x xs,
      length-append (piece_bytes p) (flat_map piece_bytes ps),
      length-map (range_with_len p.2 (piece_size (packet_size p.0) p.2)) (payload_place p.0),
      length-range_with_len p.2 (piece_size (packet_size p.0) p.2),
    )

-- the packets of a queue are wanted and gone with its pieces
queue-wanted : (headers : Headers) (item : ℕ) (pieces : List AudioPiece)
    → wanted_of_each Audio headers
    (map (λ (n, packet). record { item = n; piece = 0; payload = packet.bytes; due = packet.due; gone = packet.gone }) (enumerate_from item (map (λ (piece : AudioPiece). piece.packet) pieces)))
    ≡ flat_map (λ (piece : AudioPiece). replicate piece.packet.bytes (940 * piece.packet.due)) pieces
queue-wanted headers item [] = refl
queue-wanted headers item (x ∷ xs) = ap (λ (rest : List ℕ). replicate x.packet.bytes (940 * x.packet.due) ++ rest) (queue-wanted headers (item + 1) xs)

queue-gone : (headers : Headers) (item : ℕ) (pieces : List AudioPiece)
    → gone_of_each Audio headers
    (map (λ (n, packet). record { item = n; piece = 0; payload = packet.bytes; due = packet.due; gone = packet.gone }) (enumerate_from item (map (λ (piece : AudioPiece). piece.packet) pieces)))
    ≡ flat_map (λ (piece : AudioPiece). replicate piece.packet.bytes (940 * piece.packet.gone)) pieces
queue-gone headers item [] = refl
queue-gone headers item (x ∷ xs) = ap (λ (rest : List ℕ). replicate x.packet.bytes (940 * x.packet.gone) ++ rest) (queue-gone headers (item + 1) xs)

-- ---- the whole

-- an audio stream has one list of frames
abbrev pub OneFrames : Type 0
OneFrames = (first : ℤ) (stream : AudioStream) (one other : List Frame) → HasFrames first stream one → HasFrames first stream other → one ≡ other

module _ (laws : PacketLaws) (file : List ℕ) (list : List PacketRecord) (audio : AudioStream) (begin at : ℕ) (rows : List AudioPacket) (is : CarriesAudio file list audio begin at rows)
    (headers : Headers) (beside : AllZip (IsPayloadOf headers) (payloads_on audio.pid list) (audio_of rows).packets) where
  abbrev placed : List PlacedPacket
  placed = placed_from 0 (taken false audio.units)

  abbrev size : ℕ
  size = length (joined (taken false audio.units))

  some : All HasPayload (taken false audio.units)
  some = taken_payloads audio.units is.framed.sound

  stand : StandFrom 0 placed size
  stand = subst (StandFrom 0 placed) (let e : 0 + length (joined (taken false audio.units)) ≡ length (joined (taken false audio.units)) = omega arith in e) (stand-of 0 (taken false audio.units))

  -- ---- its frames

  chained : AreChained 0 is.frames
  chained = spans_chained 0 (drop 1 is.framed.frames_are.places) size is.frames is.framed.frames_are.cover

  within : All (λ (frame : Frame). frame.at + frame.len ≤ size) is.frames
  within = spans_within 0 (drop 1 is.framed.frames_are.places) size is.frames is.framed.frames_are.cover

  rise : Rise is.frames
  rise = rise-of is.frames is.framed.frames_are.rising

  reach : (place : ℕ) → place < size → Reach is.frames place
  reach place inside = reach-of is.frames 0 size (drop 1 is.framed.frames_are.places) is.framed.frames_are.cover place inside

  along : RiseAlong is.frames size
  along = λ first second order inside. later-byte is.frames rise first second order (reach second inside)

  follow : Follow size 0 (placed_pieces 0 placed)
  follow = follow-of size 0 0 0 (taken false audio.units) some (omega arith) (omega arith)

  -- ---- what is removed

  -- each byte by its frame
  by-bytes : (clock : ℕ) (kept : KeptUnits) → map (λ (place : ℕ). removed_when clock kept (time_of_byte is.frames place)) (flat_map piece_bytes (placed_pieces 0 placed))
      ≡ removed (frame_removals clock kept (taken false audio.units) is.frames)
  by-bytes clock kept =
      ap (map (λ (place : ℕ). removed_when clock kept (time_of_byte is.frames place))) (pieces-cover 0 placed)
      ∙ along-frames (removed_when clock kept) 0 is.frames (counted_places placed) chained (counted-mount 0 size placed stand)
      (λ k d less. reach _ (counted-within 0 size placed stand (some-of 0 (taken false audio.units) some) k d less))
      ∙ sym (removed-by (removed_when clock kept)
      (λ frame. record { due = removed_at clock kept.base (frame_due kept frame); bytes = frame.len + header_bytes_in frame (placed_from 0 (taken false audio.units)) })
      size placed is.frames stand (λ frame. refl) (λ frame. refl) within)

  in-order : (clock : ℕ) (kept : KeptUnits) → IsBegun clock kept begin at → IsNonDecreasing (map (λ (removal : Removal). removal.due) (frame_removals clock kept (taken false audio.units) is.frames))
  in-order clock kept begun =
      let values = is-value clock begin at kept begun in
      subst IsNonDecreasing
      (sym (map-map (λ (removal : Removal). removal.due)
      (λ (frame : Frame). record { due = removed_at clock kept.base (frame_due kept frame); bytes = frame.len + header_bytes_in frame (placed_from 0 (taken false audio.units)) }) is.frames))
      (mount-rises 0 (map (λ (frame : Frame). removed_at clock kept.base (frame_due kept frame)) is.frames)
      (dues-mount (λ (time : ℤ). removed_at clock kept.base (pos (first_due kept) +ℤ (time -ℤ pos (300 * first_time kept))))
      (λ first second le. (let least = values.later first second le in omega (arith, least))) is.frames rise))

  pub removals-allowed : (clock : ℕ) (kept : KeptUnits) → IsBegun clock kept begin at → IsAllowed Audio headers (audio_of rows).packets (frame_removals clock kept (taken false audio.units) is.frames)
  removals-allowed clock kept begun =
      let values = is-value clock begin at kept begun in
      let wanted = pieces-wanted at (pos (300 * begin)) (removed_when clock kept) is.frames size 0 (placed_pieces 0 placed) is.pieces values along is.pieces_are follow in
      let gone = pieces-gone at (pos (300 * begin)) (removed_when clock kept) is.frames size 0 (placed_pieces 0 placed) is.pieces values along is.pieces_are follow in
      let want : wanted_of_each Audio headers (audio_of rows).packets ≡ flat_map (λ (piece : AudioPiece). replicate piece.packet.bytes (940 * piece.packet.due)) is.pieces =
      ap (λ (rs : List AudioPacket). wanted_of_each Audio headers (audio_of rs).packets) is.rows_are ∙ queue-wanted headers 0 is.pieces in
      let go : gone_of_each Audio headers (audio_of rows).packets ≡ flat_map (λ (piece : AudioPiece). replicate piece.packet.bytes (940 * piece.packet.gone)) is.pieces =
      ap (λ (rs : List AudioPacket). gone_of_each Audio headers (audio_of rs).packets) is.rows_are ∙ queue-gone headers 0 is.pieces in
      record {
        in_order = in-order clock kept begun;
        wanted = subst (λ (xs : List ℕ). AllZip (λ x y. x ≤ y) xs (removed (frame_removals clock kept (taken false audio.units) is.frames))) (sym want)
            (subst (λ (ys : List ℕ). AllZip (λ x y. x ≤ y) (flat_map (λ (piece : AudioPiece). replicate piece.packet.bytes (940 * piece.packet.due)) is.pieces) ys) (by-bytes clock kept) wanted);
        gone = subst (λ (ys : List ℕ). AllZip (λ x y. x ≤ y) (removed (frame_removals clock kept (taken false audio.units) is.frames)) ys) (sym go)
            (subst (λ (xs : List ℕ). AllZip (λ x y. x ≤ y) xs (flat_map (λ (piece : AudioPiece). replicate piece.packet.bytes (940 * piece.packet.gone)) is.pieces)) (by-bytes clock kept) gone);
      }

  -- ---- what comes

  -- its PES packets are those of the payloads
  cuts-are : map (λ (p : PesUnit). p.bytes) audio.units ≡ cut_at_starts (payloads_on audio.pid list)
  cuts-are =
      ap (map (λ (p : PesUnit). p.bytes)) is.units_are
      ∙ map-map (λ (p : PesUnit). p.bytes) (λ (packet : Gathered). record { at = packet.at; bytes = packet.bytes }) (gathered (carried (pid_pieces file audio.pid 0 (piece_count file))))
      ∙ gathered-are (carried (pid_pieces file audio.pid 0 (piece_count file))) ∙ ap cut_at_starts (carried-are laws file list is.read audio.pid is.counted)

  -- the bytes of all payloads are those of the PES packets that are taken
  all-bytes : sum_by (λ (p : Payload). length p.bytes) (payloads_on audio.pid list) ≡ bytes_in (taken false audio.units)
  all-bytes =
      queued-bytes headers 0 (payloads_on audio.pid list) is.pieces (subst (λ (rs : List AudioPacket). AllZip (IsPayloadOf headers) (payloads_on audio.pid list) (audio_of rs).packets) is.rows_are beside)
      ∙ pieces-bytes at (pos (300 * begin)) is.frames (placed_pieces 0 placed) is.pieces is.pieces_are ∙ ap (length {A = ℕ}) (pieces-cover 0 placed)
      ∙ counted-bytes 0 (taken false audio.units) some

  unit-bytes : bytes_in audio.units ≡ sum_by (λ (bytes : List ℕ). length bytes) (cut_at_starts (payloads_on audio.pid list))
  unit-bytes = sums audio.units ∙ ap (sum_by (λ (bytes : List ℕ). length bytes)) cuts-are
    where
      sums : (units : List PesUnit) → bytes_in units ≡ sum_by (λ (bytes : List ℕ). length bytes) (map (λ (p : PesUnit). p.bytes) units)
      sums [] = refl
      sums (p ∷ ps) =
          let rest = sums ps in
          let one = sum_by-cons (λ (u : PesUnit). length u.bytes) p ps in
          let other = sum_by-cons (λ (bytes : List ℕ). length bytes) p.bytes (map (λ (q : PesUnit). q.bytes) ps) in
          omega (arith, rest, one, other)

  nothing-before : front (payloads_on audio.pid list) ≡ []
  nothing-before = nil_from_length (front (payloads_on audio.pid list))
      (let cut = cut-bytes (payloads_on audio.pid list) in let less = taken-less audio.units in omega (arith, cut, less, all-bytes, unit-bytes))

  -- so none of them is dropped
  taken-are : taken false audio.units ≡ audio.units
  taken-are = all-taken audio.units
      (of-map (λ (bytes : List ℕ). 0 < length bytes) (λ (p : PesUnit). p.bytes) audio.units (cut_at_starts (payloads_on audio.pid list)) cuts-are (cut-some (payloads_on audio.pid list)))
      (let cut = cut-bytes (payloads_on audio.pid list) in omega (arith, cut, all-bytes, unit-bytes))

  taken-cuts : map (λ (p : PesUnit). p.bytes) (taken false audio.units) ≡ cut_at_starts (payloads_on audio.pid list)
  taken-cuts = ap (map (λ (p : PesUnit). p.bytes)) taken-are ∙ cuts-are

  pub arrivals-no-less : HaveNoLessHeaders (arrivals_by (places_on file audio.pid) (record { from = 0; to = length (joined (taken false audio.units)) }) (taken false audio.units))
      (arrivals_on audio.pid list)
  arrivals-no-less =
      let joins : length (joined (taken false audio.units)) ≡ sum_by (λ (packet : PesUnit). length (pes_payload_of packet)) (taken false audio.units) =
      length-flat_map pes_payload_of (taken false audio.units) in
      let none : length (front (payloads_on audio.pid list)) ≡ 0 = ap (length {A = ℕ}) nothing-before in
      let parts : arrivals_by (places_on file audio.pid) (record { from = 0; to = length (joined (taken false audio.units)) }) (taken false audio.units)
      ≡ brought_by_all (places_by (λ (packet : PacketRecord). packet.pid == audio.pid) 0 list) (flow 0 (payloads_on audio.pid list)) =
      ap (λ (places : List Place). arrivals_by places (record { from = 0; to = length (joined (taken false audio.units)) }) (taken false audio.units))
      (places-are laws file list is.read audio.pid is.counted)
      ∙ ap₂ (λ (n : ℕ) (more : List PacketPart). brought_by_all (places_by (λ (packet : PacketRecord). packet.pid == audio.pid) 0 list) (replicate n Overhead ++ more))
      (before-is audio.pid 0 list ∙ none) (whole-parts (length (joined (taken false audio.units))) 0 (taken false audio.units) (omega (arith, joins)) ∙ ap plain_parts taken-cuts)
      ∙ ap (λ (n : ℕ). brought_by_all (places_by (λ (packet : PacketRecord). packet.pid == audio.pid) 0 list) (header_left 0 n ++ plain_parts (cut_at_starts (payloads_on audio.pid list)))) (sym none) in
      subst (λ (arrivals : List Arrival). HaveNoLessHeaders arrivals (arrivals_on audio.pid list)) (sym parts)
      (flow-brought audio.pid 0 0 list (subst AreWholeHeaders taken-cuts (whole-of (taken false audio.units) some)))

-- what an audit takes of it
pub audio-found : PacketLaws → OneFrames → (file : List ℕ) (list : List PacketRecord) (slot base begin at : ℕ) (audio : AudioStream) (rows : List AudioPacket) (kept : KeptUnits)
    (stream : AuditedStream) (found : Option Finding) → CarriesAudio file list audio begin at rows → IsCleanOn slot audio.pid (audio_of rows) list → IsBegun base kept begin at
    → IsAudioStream file base kept audio stream → FindsOn slot stream found → IsFullAtMost found
audio-found laws one file list slot base begin at audio rows kept stream found is clean begun audited finds =
    found-on slot stream
    (λ fault has.
    clean.clean (frame_removals base kept (taken false audio.units) is.frames) fault
    (removals-allowed laws file list audio begin at rows is clean.headers clean.payloads base kept begun)
    (fault-there slot _ (arrivals_on audio.pid list) (frame_removals base kept (taken false audio.units) is.frames)
    (arrivals-no-less laws file list audio begin at rows is clean.headers clean.payloads) fault
    (subst (λ (frames : List Frame). IsFault slot AudioBuffers (arrivals_by (places_on file audio.pid) (record { from = 0; to = length (joined (taken false audio.units)) }) (taken false audio.units))
    (frame_removals base kept (taken false audio.units) frames) fault) (sym same)
    (subst (λ (s : AuditedStream). IsFault slot s.kind s.arrivals s.removals fault) audited.stream_is has))))
    found finds
  where
    same : is.frames ≡ audited.frames
    same = one (pos begin) audio is.frames audited.frames is.framed (subst (λ (n : ℕ). HasFrames (pos n) audio audited.frames) begun.stated audited.framed)
