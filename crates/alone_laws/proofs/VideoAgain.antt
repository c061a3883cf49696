-- The video of a stream that is read again: its units are the payloads of its PES packets, as the pictures of the source.
use Rattle.std.proofs.Common.{◌≡◌, ℕ, ◌+◌, ◌-◌, ◌<◌, ◌≤◌, ◌==◌, false, List, [], ◌∷◌, ◌++◌, get_or, length, map, take, Option, refl, sym, ap, ap₂, subst, ◌∙◌, arith, append_assoc}
use Rattle.std.specs.Prelude.{slice_range}
use Rattle.std.specs.Option.{option_map}
use Rattle.std.proofs.Math.ListN.{get_or-append}
use Rattle.std.proofs.lemmas.List.{drop_at, length-append, take_at}
use Rattle.stream_constants.specs.declared.start_codes.TheConstants.{GROUP}
use Rattle.syntax_types.specs.declared.picture.SeqState.{SeqState}
use Rattle.pes_units.specs.PesHeader.{pes_fields_of}
use Rattle.pes_units.specs.Times.{decoding_time}
use Rattle.picture_grammar.specs.Macroblock.{is_frame}
use Rattle.picture_reader.specs.Picture.{IsPictureOf}
use Rattle.es_units.specs.StartCodes.{has_code, is_unit_start}
use Rattle.elementary_streams.specs.declared.pes_packets.PlacedPacket.{PlacedPacket}
use Rattle.elementary_streams.specs.Packets.{joined, pes_payload_of, placed_from}
use Rattle.layer_laws.specs.WholeUnits.{IsWholeUnit, placed_units}
use Rattle.unit_laws.proofs.Codes.{has-code}
use Rattle.ts_demux.specs.declared.demuxed.PesUnit.{PesUnit}
use Rattle.program_reader.specs.declared.program.UnitSource.{UnitSource}
use Rattle.program_reader.specs.declared.timed_picture.TimedPicture.{TimedPicture}
use Rattle.program_reader.specs.Intervals.{nearest}
use Rattle.program_reader.specs.PictureTimes.{times_of_unit}
use Rattle.program_reader.specs.Units.{AreInOrder, IsNext, IsTimed, role_behind, state_behind, unit_bytes}
use Rattle.time_laws.specs.Video.{AreDecoded, DecodedPicture, IsDecoded, stated_time}
use Rattle.time_laws.proofs.Videos.{all_outgoing, outgoing}
use Rattle.alone_laws.proofs.Again.{AreAgain, again, later-again, role-again, state-again, tells-again, timed-again, unpaired-again}
use Rattle.alone_laws.proofs.JoinedPictures.{EndBy, StandsIn, apart-behind, end-later, end-one-more, finds-picture, own-times, stands-in}
use Rattle.alone_laws.proofs.UnitPictures.{HasPicture}

-- A payload that is a unit as it goes out.
pub record IsSentUnit (unit : List ℕ) : Type 0 where
  pub whole : IsWholeUnit unit
  pub pictured : HasPicture unit
  pub short : length unit ≤ 1048576

-- PES packets that hold such units
abbrev pub AreSentUnits : List PesUnit → Type 0
AreSentUnits [] = Unit {0}
AreSentUnits (packet ∷ packets) = IsSentUnit (pes_payload_of packet) × AreSentUnits packets

-- PES packets state the decoding times of pictures
abbrev pub AreStated : List TimedPicture → List PesUnit → Type 0
AreStated [] [] = Unit {0}
AreStated (picture ∷ pictures) (packet ∷ packets) = (stated_time packet ≡ decoding_time picture.times) × AreStated pictures packets
AreStated pictures packets = ⊥

-- the pictures as they are read
abbrev pub all_again : List TimedPicture → List PesUnit → List TimedPicture
all_again (picture ∷ pictures) (packet ∷ packets) = again picture (pes_fields_of packet.bytes).times ∷ all_again pictures packets
all_again pictures packets = []

-- ---- one unit

-- what follows a unit begins with two zeros, or is nothing
low-all : (packets : List PesUnit) → AreSentUnits packets → (get_or (joined packets) 0 0 ≡ 0) × (get_or (joined packets) 1 0 ≡ 0)
low-all [] each = (refl, refl)
low-all (p ∷ ps) each =
    let unit : List ℕ = pes_payload_of p in
    let header = has-code is_unit_start unit 0 each.0.whole.begins in
    let code = header.code in (
      get_or-append unit (joined ps) 0 0 (omega (arith, code.within)) ∙ code.first,
      get_or-append unit (joined ps) 0 1 (omega (arith, code.within)) ∙ code.second,
    )

unit-at : (front unit rest : List ℕ) (o : ℕ) → o ≡ length front → slice_range (front ++ (unit ++ rest)) o (o + length unit) ≡ unit
unit-at front unit rest o at =
    ap₂ (λ (n : ℕ) (bytes : List ℕ). take n bytes) (let e : o + length unit - o ≡ length unit = omega arith in e) (drop_at front (unit ++ rest) o (sym at)) ∙ take_at unit rest (length unit) refl

placed : ℕ → PesUnit → PlacedPacket
placed o packet = record { from = o; end = o + length (pes_payload_of packet); header = pes_fields_of packet.bytes }

-- ---- all units

module _ (src : List ℕ) (packets_of_src : List PlacedPacket) (base : ℕ) (es : List ℕ) (all : List PlacedPacket) where
  one-again : (front : List ℕ) (o : ℕ) (done : List PlacedPacket) (earlier read : List TimedPicture) (sent : List DecodedPicture) (k : ℕ × ℕ) (p : TimedPicture) (u : UnitSource) (x : PesUnit)
      (xs : List PesUnit) → es ≡ front ++ (pes_payload_of x ++ joined xs) → o ≡ length front
      → all ≡ done ++ record { from = o; end = o + length (pes_payload_of x); header = pes_fields_of x.bytes } ∷ placed_from (o + length (pes_payload_of x)) xs
      → EndBy o done → StandsIn es o (pes_payload_of x) → IsSentUnit (pes_payload_of x) → AreAgain earlier read
      → option_map (λ (e : DecodedPicture). e.seq) (nearest sent) ≡ state_behind (nearest earlier) → IsNext src packets_of_src earlier k p → IsDecoded base sent x (outgoing p u)
      → stated_time x ≡ decoding_time p.times
      → IsNext es all read (o, o + length (pes_payload_of x)) (again p (pes_fields_of x.bytes).times)
  one-again front o done earlier read sent k p u x xs is at all_is ends there unit are state next decoded stated = record {
    coded = record {
      picture = decoded.spelled;
      whole = subst (λ (s : Option SeqState). IsPictureOf s (unit_bytes es (o, o + length (pes_payload_of x))) decoded.spelled) (state ∙ state-again earlier read are)
          (subst (λ (bytes : List ℕ). IsPictureOf (option_map (λ (e : DecodedPicture). e.seq) (nearest sent)) bytes decoded.spelled) (sym bytes_are) decoded.whole);
      seq_is = sym decoded.seq_is;
      coding_is = sym decoded.coding_is;
    };
    paired = λ unpaired. next.paired (unpaired-again earlier read p.coding are unpaired);
    short = omega (arith, unit.short);
    role_is = next.role_is ∙ ap (role_behind (is_frame p.coding)) (role-again earlier read are);
    reference = tells-again earlier read p (pes_fields_of x.bytes).times are next.reference;
    times_are = sym times;
    timed = subst (λ (t : Option ℕ). IsTimed (nearest read) t p.stated p.ticks) (sym stated) (timed-again earlier read (decoding_time p.times) p.stated p.ticks are next.timed);
    later = later-again earlier read p.ticks are next.later;
  }
    where
      bytes_are : unit_bytes es (o, o + length (pes_payload_of x)) ≡ pes_payload_of x
      bytes_are = ap (λ (bytes : List ℕ). slice_range bytes o (o + length (pes_payload_of x))) is ∙ unit-at front (pes_payload_of x) (joined xs) o at

      times : times_of_unit es all (o, o + length (pes_payload_of x)) ≡ (pes_fields_of x.bytes).times
      times =
          ap (λ (packets : List PlacedPacket). times_of_unit es packets (o, o + length (pes_payload_of x))) all_is
          ∙ own-times es done (placed_from (o + length (pes_payload_of x)) xs) (record { from = o; end = o + length (pes_payload_of x); header = pes_fields_of x.bytes }) ends
          (finds-picture es o (pes_payload_of x) there unit.pictured)

  pub in-order-again : (front : List ℕ) (o : ℕ) (done : List PlacedPacket) (earlier read : List TimedPicture) (sent : List DecodedPicture) (kept : List (ℕ × ℕ)) (pictures : List TimedPicture)
      (units : List UnitSource) (packets : List PesUnit) → es ≡ front ++ joined packets → o ≡ length front → all ≡ done ++ placed_from o packets → EndBy o done
      → ((k : ℕ) → k < o → o < k + 8 → has_code (λ value. value == GROUP) es k ≡ false)
      → AreSentUnits packets → AreAgain earlier read → option_map (λ (e : DecodedPicture). e.seq) (nearest sent) ≡ state_behind (nearest earlier)
      → AreInOrder src packets_of_src earlier kept pictures → AreDecoded base sent packets (all_outgoing pictures units) → AreStated pictures packets
      → AreInOrder es all read (placed_units o (map pes_payload_of packets)) (all_again pictures packets)
  in-order-again front o done earlier read sent kept [] units [] is at all_is ends apart each are state in_order decoded stated = tt
  in-order-again front o done earlier read sent kept [] units (x ∷ xs) is at all_is ends apart each are state in_order decoded stated = absurd stated
  in-order-again front o done earlier read sent kept (p ∷ ps) units [] is at all_is ends apart each are state in_order decoded stated = absurd stated
  in-order-again front o done earlier read sent [] (p ∷ ps) units (x ∷ xs) is at all_is ends apart each are state in_order decoded stated = absurd in_order
  in-order-again front o done earlier read sent (k ∷ ks) (p ∷ ps) [] (x ∷ xs) is at all_is ends apart each are state in_order decoded stated = absurd decoded
  in-order-again front o done earlier read sent (k ∷ ks) (p ∷ ps) (u ∷ us) (x ∷ xs) is at all_is ends apart each are state in_order decoded stated =
      let unit : List ℕ = pes_payload_of x in
      let there : StandsIn es o unit = stands-in es front unit (joined xs) o is at (low-all xs each.1) apart in
      let end : o + length unit ≡ length (front ++ unit) = omega (arith, at, length-append front unit) in (
        one-again front o done earlier read sent k p u x xs is at all_is ends there each.0 are state in_order.0 decoded.0 stated.0,
        in-order-again (front ++ unit) (o + length unit) (done ++ record { from = o; end = o + length unit; header = pes_fields_of x.bytes } ∷ []) (p ∷ earlier)
            (again p (pes_fields_of x.bytes).times ∷ read) (outgoing p u ∷ sent) ks ps us xs (is ∙ sym (append_assoc front unit (joined xs))) end
            (all_is ∙ sym (append_assoc done (record { from = o; end = o + length unit; header = pes_fields_of x.bytes } ∷ []) (placed_from (o + length unit) xs)))
            (end-one-more (o + length unit) done (record { from = o; end = o + length unit; header = pes_fields_of x.bytes }) (end-later o (o + length unit) done (omega arith) ends) (omega arith))
            (apart-behind es o unit each.0.whole there) each.1 (((pes_fields_of x.bytes).times, refl), are) refl in_order.1 decoded.1 stated.1,
      )
