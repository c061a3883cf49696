-- How much of a file the packets of its streams are.
use Rattle.std.proofs.Common.{◌≡◌, ℕ, ◌+◌, ◌≤◌, ◌==◌, Bool, true, false, cond, List, [], ◌∷◌, length, replicate, get_or, All, sym, ap, ◌∙◌, subst, arith}
use Rattle.std.specs.List.{sum_by}
use Rattle.std.proofs.lemmas.List.{length-append, length-map}
use Rattle.std.proofs.lemmas.List.Elements.{All-map}
use Rattle.std.proofs.lemmas.List.Sums.{sum_by-cons}
use Rattle.ts_demux.specs.declared.demuxed.AudioStream.{AudioStream}
use Rattle.ts_demux.specs.declared.demuxed.Demuxed.{Demuxed}
use Rattle.ts_demux.specs.declared.demuxed.PesUnit.{PesUnit}
use Rattle.program_stream.specs.Elements.{Element, element_bytes, element_spelling, all_spelled, IsEnd, zero_bytes, prefix_alone, cut_element}
use Rattle.program_stream.specs.Streams.{packets_from, packets_of, stream_with_id, carried_audio_ids}
use Rattle.program_stream.specs.Split.{IsSplit}

-- bytes of packets
abbrev pub unit_bytes : List PesUnit → ℕ
unit_bytes units = sum_by (λ packet. length packet.bytes) units

-- they are no more than the elements
pub packets_small : (at id : ℕ) (elements : List Element) → unit_bytes (packets_from at id elements) ≤ length (all_spelled elements)
packets_small at id [] = omega arith
packets_small at id (x ∷ elements) = by_test (x.id == id) (packets_small (at + length (element_spelling x)) id elements)
  where
    unit : PesUnit
    unit = record { at = at + x.zeros; bytes = element_bytes x }

    behind : List PesUnit
    behind = packets_from (at + length (element_spelling x)) id elements

    by_test : (is : Bool) → unit_bytes behind ≤ length (all_spelled elements) → unit_bytes (cond is (unit ∷ behind) behind) ≤ length (all_spelled (x ∷ elements))
    by_test true small =
        let sum : unit_bytes (unit ∷ behind) ≡ length (element_bytes x) + unit_bytes behind = sum_by-cons (λ (packet : PesUnit). length packet.bytes) unit behind in
        omega (arith, small, sum, length-append (element_spelling x) (all_spelled elements), length-append (replicate x.zeros 0) (element_bytes x))
    by_test false small = omega (arith, small, length-append (element_spelling x) (all_spelled elements))

-- so are their numbers
pub packets_few : (at id : ℕ) (elements : List Element) → length (packets_from at id elements) ≤ length (all_spelled elements)
packets_few at id [] = omega arith
packets_few at id (x ∷ elements) = by_test (x.id == id) (packets_few (at + length (element_spelling x)) id elements)
  where
    unit : PesUnit
    unit = record { at = at + x.zeros; bytes = element_bytes x }

    behind : List PesUnit
    behind = packets_from (at + length (element_spelling x)) id elements

    by_test : (is : Bool) → length behind ≤ length (all_spelled elements) → length (cond is (unit ∷ behind) behind) ≤ length (all_spelled (x ∷ elements))
    by_test true few = omega (arith, few, length-append (element_spelling x) (all_spelled elements), length-append (replicate x.zeros 0) (element_bytes x))
    by_test false few = omega (arith, few, length-append (element_spelling x) (all_spelled elements))

of_file : (file drop : List ℕ) (demuxed : Demuxed) (cut : ℕ) (is : IsSplit file drop demuxed cut) (id : ℕ) → unit_bytes (packets_of is.elements id) ≤ length file
of_file file drop demuxed cut is id =
    let are = is.elements_are.are in
    omega (arith, packets_small 0 id is.elements, ap length are.bytes_are, length-append (all_spelled is.elements) are.rest)

pub video_within : (file drop : List ℕ) (demuxed : Demuxed) (cut : ℕ) → IsSplit file drop demuxed cut → sum_by (λ packet. length packet.bytes) demuxed.video ≤ length file
video_within file drop demuxed cut is = subst (λ (units : List PesUnit). unit_bytes units ≤ length file) (sym is.video_packets) (of_file file drop demuxed cut is is.video)

pub audios_within : (file drop : List ℕ) (demuxed : Demuxed) (cut : ℕ) → IsSplit file drop demuxed cut → All (λ stream. sum_by (λ packet. length packet.bytes) stream.units ≤ length file) demuxed.audios
audios_within file drop demuxed cut is =
    let ids = carried_audio_ids drop is.elements in
    subst (λ (streams : List AudioStream). All (λ (stream : AudioStream). unit_bytes stream.units ≤ length file) streams) (sym is.audio_packets)
    (All-map (λ (stream : AudioStream). unit_bytes stream.units ≤ length file) (stream_with_id is.elements) ids (λ k d lt. of_file file drop demuxed cut is (get_or ids k d)))

pub few_audios : (file drop : List ℕ) (demuxed : Demuxed) (cut : ℕ) → IsSplit file drop demuxed cut → length demuxed.audios ≤ 8
few_audios file drop demuxed cut is =
    let count : length demuxed.audios ≡ length (carried_audio_ids drop is.elements) =
    ap (λ (xs : List AudioStream). length xs) is.audio_packets ∙ length-map (carried_audio_ids drop is.elements) (stream_with_id is.elements) in
    omega (arith, count, is.few)

end_cut : (rest : List ℕ) (cut : ℕ) → IsEnd rest cut → cut ≤ 1
end_cut rest cut (zero_bytes count is none) = omega (arith, none)
end_cut rest cut (prefix_alone count is one) = omega (arith, one)
end_cut rest cut (cut_element element is short one) = omega (arith, one)

pub one_cut : (file drop : List ℕ) (demuxed : Demuxed) (cut : ℕ) → IsSplit file drop demuxed cut → cut ≤ 1
one_cut file drop demuxed cut is = end_cut is.elements_are.are.rest cut is.elements_are.are.ending
