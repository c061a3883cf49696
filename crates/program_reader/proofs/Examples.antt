-- The definitions computed at worked examples.
use Rattle.std.proofs.Common.{◌≡◌, ℕ, ◌==◌, true, false, List, [], ◌∷◌, take, Option, Some, None, refl, sym, ◌∙◌, subst, inl, arith, ℤ, pos, ◌+ℤ◌}
use Rattle.std.proofs.lemmas.Int.{ints}
use Rattle.bit_lists.specs.Fields.{bit, bits}
use Rattle.ts_demux.specs.declared.demuxed.PesUnit.{PesUnit}
use Rattle.syntax_types.specs.declared.picture.PicCoding.{PicCoding}
use Rattle.syntax_types.specs.declared.picture.SeqState.{SeqState}
use Rattle.syntax_types.specs.declared.picture.TheConstants.{B_PICTURE, P_PICTURE}
use Rattle.pes_units.specs.TimeAxis.{IsUnwrapped}
use Rattle.picture_grammar.specs.Macroblock.{is_frame}
use Rattle.elementary_streams.specs.declared.pes_packets.PlacedPacket.{PlacedPacket}
use Rattle.program_reader.specs.declared.program_fault.ProgramFault.TheVariants.{Refused}
use Rattle.program_reader.specs.declared.program_fault.SourceKind.TheVariants as kinds
use Rattle.program_reader.specs.declared.timed_picture.Role.{Role}
use Rattle.program_reader.specs.declared.timed_picture.Role.TheVariants.{Frame, FirstField, SecondField}
use Rattle.program_reader.specs.declared.timed_picture.TimedPicture.{TimedPicture}
use Rattle.program_reader.specs.Intervals.{shown_as, share_of, shown_meanwhile}
use Rattle.program_reader.specs.Units.{role_behind, IsTimed, HasNoTime, IsCoded, IsUnitRefused}
use Rattle.elementary_streams.specs.Packets.{taken, packets_dropped}
use Rattle.program_reader.specs.Audio.{IsDue, payload_place, piece_places, piece_size}
use Rattle.pes_units.proofs.WorkedExamples.{only_pts_bytes}

-- ---- decoding times 2^33 - 3,600 and 0: the second is one frame period later, and due 1,080,000 ticks later

across_the_round : (before : TimedPicture) → before.stated ≡ pos 8589930992 → IsTimed (Some before) (Some 0) (pos 8589934592) (pos 2576980377600)
across_the_round before is =
    let placed : IsUnwrapped (pos 8589930992) 0 (pos 8589934592) = record { congruent = (pos 1, refl); not_too_early = omega arith; not_too_late = omega arith } in
    (subst (λ (time : ℤ). IsUnwrapped time 0 (pos 8589934592)) (sym is) placed, refl)

dues_apart : IsDue 13500000 (pos 2576979297600) (pos 2576979297600) 13500000 × IsDue 13500000 (pos 2576979297600) (pos 2576980377600) 14580000
dues_apart = (refl, refl)

-- ---- roles of fields

-- a second field follows a first one, and a field behind a second one or behind a frame is a first one
roles : (role_behind false (Some FirstField) ≡ SecondField) × (role_behind false (Some SecondField) ≡ FirstField) × (role_behind false (Some Frame) ≡ FirstField)
    × (role_behind false None ≡ FirstField) × (role_behind true (Some SecondField) ≡ Frame)
roles = (refl, refl, refl, refl, refl)

-- ---- no time: for the first unit alone

no_time_first : HasNoTime None None
no_time_first = tt

time_behind : (before : TimedPicture) → HasNoTime (Some before) None → ⊥
time_behind before is = is

-- a unit behind a P frame is later by what the last I or P frame before that is shown for, and not by a frame period
timed_behind : (before : TimedPicture) → before.role ≡ Frame → before.coding.kind ≡ P_PICTURE → before.reference_before ≡ Some 1351350 → before.ticks ≡ pos 27000000 →
    IsTimed (Some before) None before.stated (pos 28351350)
timed_behind before role kind reference ticks =
    (refl, one_more before.ticks before.role before.coding.kind (shown_as before.role before.seq before.coding) before.reference_before before.seq.rate_code ticks role kind reference)
  where
    one_more : (ticks : ℤ) (role : Role) (kind own : ℕ) (reference : Option ℕ) (code : ℕ) → ticks ≡ pos 27000000 → role ≡ Frame → kind ≡ P_PICTURE → reference ≡ Some 1351350 →
        pos 28351350 ≡ ticks +ℤ pos (share_of role (shown_meanwhile (kind == B_PICTURE) own reference code) code)
    one_more ticks role kind own reference code t r k is = rw (t, r, k, is) refl

not_a_period_behind : (before : TimedPicture) → before.role ≡ Frame → before.coding.kind ≡ P_PICTURE → before.reference_before ≡ Some 1351350 → before.ticks ≡ pos 27000000 →
    IsTimed (Some before) None before.stated (pos 27900900) → ⊥
not_a_period_behind before role kind reference ticks is =
    let there : pos 28351350 ≡ pos 27900900 = (timed_behind before role kind reference ticks).1 ∙ sym is.1 in omega (arith, ints, there)

-- ---- a frame behind a first field refuses also the last unit, which isn't dropped for it

last_unpaired : (es : List ℕ) (packets : List PlacedPacket) (before : TimedPicture) (unit : ℕ × ℕ) (seq : SeqState) (coding : PicCoding) →
    IsCoded es (Some before) unit seq coding → before.role ≡ FirstField → is_frame coding ≡ true →
    IsUnitRefused es packets (Some before) unit true (Refused kinds.FieldPair unit.0)
last_unpaired es packets before unit seq coding coded role frame = IsUnitRefused.unpaired seq coding coded (role, inl frame) refl

-- ---- the last PES packet of a stream: 14 bytes of a video header with a PTS, and no length stated

abbrev unit_of : List ℕ → List PesUnit
unit_of bytes = record { at = 0; bytes = bytes } ∷ []

-- with its header whole it is taken, also where nothing follows; with a byte less it is dropped and counted
cut_header : (taken true (unit_of only_pts_bytes) ≡ unit_of only_pts_bytes) × (taken true (unit_of (take 13 only_pts_bytes)) ≡ []) × (packets_dropped true (unit_of (take 13 only_pts_bytes)) ≡ 1)
unfolding bit bits
cut_header = (refl, refl, refl)

-- an audio packet that states 255 bytes and has 8 is dropped
cut_audio : taken false (unit_of (0x00 ∷ 0x00 ∷ 0x01 ∷ 0xC0 ∷ 0x00 ∷ 0xFF ∷ 0x80 ∷ 0x80 ∷ 0x05 ∷ 0x21 ∷ 0x00 ∷ 0x05 ∷ 0xBF ∷ 0x21 ∷ [])) ≡ []
unfolding bit bits
cut_audio = refl

-- ---- a PES packet of 590 bytes has four pieces, the last one of 38 bytes

pieces_590 : (piece_places 590 ≡ 0 ∷ 184 ∷ 368 ∷ 552 ∷ []) × (piece_size 590 0 ≡ 184) × (piece_size 590 552 ≡ 38)
pieces_590 = (refl, refl, refl)

-- a byte of its header counts with its first payload byte
header_byte : (packet : PlacedPacket) → packet.from ≡ 576 → packet.header.len ≡ 14 → (payload_place packet 0 ≡ 576) × (payload_place packet 14 ≡ 576) × (payload_place packet 15 ≡ 577)
header_byte packet from len = rw (from, len) (refl, refl, refl)
