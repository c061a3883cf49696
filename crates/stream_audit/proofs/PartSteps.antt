-- What the bytes of PES packets are, byte by byte.
use Rattle.std.proofs.Common.{◌≡◌, ℕ, zero, suc, ◌+◌, ◌-◌, ◌%◌, ◌<◌, ◌≤◌, leb, ltb, Bool, ◌&&◌, cond, inl, inr, List, [], ◌∷◌, ◌++◌, get_or, length, map, replicate, refl, sym, ap, ◌∙◌, arith}
use Rattle.std.specs.List.{range_with_len}
use Rattle.std.proofs.lemmas.Bool.{cases_lt, le-leb, lt-leb, le-ltb, lt-ltb}
use Rattle.std.proofs.lemmas.List.{append_assoc, length-drop, get_or_past}
use Rattle.pes_units.specs.PesHeader.{header_length}
use Rattle.pes_units.proofs.Elements.{pes_header_data_length-is}
use Rattle.tstd_model.specs.declared.decoder_input.PacketPart.{PacketPart}
use Rattle.tstd_model.specs.declared.decoder_input.PacketPart.TheVariants.{Overhead, PesHeader, Data}
use Rattle.ts_demux.specs.declared.demuxed.PesUnit.{PesUnit}
use Rattle.stream_audit.specs.declared.pes_parts.KeptBytes.{KeptBytes}
use Rattle.stream_audit.specs.PesBytes.{KeptSpan, part_at, parts_of_packets}
use Rattle.elementary_streams.specs.Packets.{pes_payload_of}
use Rattle.stream_audit.specs.Private.PesParts.{parts_ahead, span_of}

-- ---- places that count from one byte further on

abbrev span : ℕ → ℕ → KeptSpan
span from to = record { from = from; to = to }

-- not before the first one that is kept
not_before : (from at : ℕ) → leb from (at + 1) ≡ leb (from - 1) at
not_before from at = elim (cases_lt (at + 1) from) [
  | inl early ↦ lt-leb from (at + 1) early ∙ sym (lt-leb (from - 1) at (omega (arith, early)))
  | inr late ↦ le-leb from (at + 1) late ∙ sym (le-leb (from - 1) at (omega (arith, late)))
]

-- before the end of those that are kept
before_end : (to at : ℕ) → ltb (at + 1) to ≡ ltb at (to - 1)
before_end to at = elim (cases_lt (at + 1) to) [
  | inl within ↦ lt-ltb (at + 1) to within ∙ sym (lt-ltb at (to - 1) (omega (arith, within)))
  | inr behind ↦ le-ltb (at + 1) to behind ∙ sym (le-ltb at (to - 1) (omega (arith, behind)))
]

part_shift : (from to at : ℕ) → part_at (span from to) (at + 1) ≡ part_at (span (from - 1) (to - 1)) at
part_shift from to at =
    ap (λ (b : Bool). cond (b && ltb (at + 1) to) Data Overhead) (not_before from at)
    ∙ ap (λ (b : Bool). cond (leb (from - 1) at && b) Data Overhead) (before_end to at)

parts_shift : (from to at count : ℕ) → map (part_at (span from to)) (range_with_len (at + 1) count) ≡ map (part_at (span (from - 1) (to - 1))) (range_with_len at count)
parts_shift from to at zero = refl
parts_shift from to at (suc count) =
    ap (λ (p : PacketPart). p ∷ map (part_at (span from to)) (range_with_len (at + 1 + 1) count)) (part_shift from to at)
    ∙ ap (λ (ps : List PacketPart). part_at (span (from - 1) (to - 1)) at ∷ ps) (parts_shift from to (at + 1) count)

packets_shift : (from to at : ℕ) (packets : List PesUnit) → parts_of_packets (span from to) (at + 1) packets ≡ parts_of_packets (span (from - 1) (to - 1)) at packets
packets_shift from to at [] = refl
packets_shift from to at (packet ∷ packets) =
    let size = length (pes_payload_of packet) in
    let header = replicate (header_length packet.bytes) PesHeader in
    let next : at + 1 + size ≡ at + size + 1 = omega arith in
    ap (λ (ps : List PacketPart). (header ++ ps) ++ parts_of_packets (span from to) (at + 1 + size) packets) (parts_shift from to at size)
    ∙ ap (λ (n : ℕ). (header ++ map (part_at (span (from - 1) (to - 1))) (range_with_len at size)) ++ parts_of_packets (span from to) n packets) next
    ∙ ap (λ (ps : List PacketPart). (header ++ map (part_at (span (from - 1) (to - 1))) (range_with_len at size)) ++ ps) (packets_shift from to (at + size) packets)

-- which are kept behind the next byte
abbrev shifted : KeptBytes → KeptSpan
shifted kept = span (kept.skipped - 1) (kept.skipped + kept.kept - 1)

-- ---- headers

pub header_is : (bytes : List ℕ) → header_length bytes ≡ 9 + get_or bytes 8 0 % 256
header_is bytes = ap (λ (n : ℕ). 9 + n) (pes_header_data_length-is bytes)

pub header-short : (bytes : List ℕ) → length bytes ≤ 8 → 9 ≡ header_length bytes
header-short bytes short = omega (arith, header_is bytes, get_or_past bytes 8 0 short)

module _ (packet : PesUnit) (lent : List ℕ) (header : ℕ) (same : lent ≡ packet.bytes) (header_by : header ≡ header_length lent) where
  pub header-size : 0 < header → header_length packet.bytes ≡ suc (header - 1)
  header-size some =
      let is : header ≡ header_length packet.bytes = header_by ∙ ap (λ (b : List ℕ). header_length b) same in
      omega (arith, some, is)

  pub payload-size : (count : ℕ) → count ≡ length lent - header → count ≡ length (pes_payload_of packet)
  payload-size count count_is =
      count_is ∙ ap (λ (h : ℕ). length lent - h) header_by ∙ ap (λ (b : List ℕ). length b - header_length b) same ∙ sym (length-drop (header_length packet.bytes) packet.bytes)

-- ---- the next byte

module _ (kept : KeptBytes) (later : List PesUnit) where
  pub next-before : (before rest header payload : ℕ) → before ≡ suc rest → parts_ahead before header payload kept later ≡ Overhead ∷ parts_ahead rest header payload kept later
  next-before before rest header payload is = ap (λ (n : ℕ). parts_ahead n header payload kept later) is

  pub next-header : (before header rest payload : ℕ) → before ≡ 0 → header ≡ suc rest → parts_ahead before header payload kept later ≡ PesHeader ∷ parts_ahead before rest payload kept later
  next-header before header rest payload none is =
      ap (λ (n : ℕ). parts_ahead n header payload kept later) none ∙ ap (λ (n : ℕ). parts_ahead 0 n payload kept later) is
      ∙ ap (λ (n : ℕ). PesHeader ∷ parts_ahead n rest payload kept later) (sym none)

  pub next-elementary : (before header payload rest : ℕ) (part : PacketPart) (now : KeptBytes) → before ≡ 0 → header ≡ 0 → payload ≡ suc rest → part ≡ part_at (span_of kept) 0 →
      now.skipped ≡ kept.skipped - 1 → now.skipped + now.kept ≡ kept.skipped + kept.kept - 1 →
      parts_ahead before header payload kept later ≡ part ∷ parts_ahead before header rest now later
  next-elementary before header payload rest part now none none' is part_is skipped_is kept_is =
      let one_more : suc rest ≡ rest + 1 = omega arith in
      ap (λ (n : ℕ). parts_ahead n header payload kept later) none ∙ ap (λ (n : ℕ). parts_ahead 0 n payload kept later) none' ∙ ap (λ (n : ℕ). parts_ahead 0 0 n kept later) is
      ∙ ap (λ (n : ℕ). (part_at (span_of kept) 0 ∷ map (part_at (span_of kept)) (range_with_len (0 + 1) rest)) ++ parts_of_packets (span_of kept) n later) one_more
      ∙ ap (λ (ps : List PacketPart). (part_at (span_of kept) 0 ∷ ps) ++ parts_of_packets (span_of kept) (rest + 1) later) (parts_shift kept.skipped (kept.skipped + kept.kept) 0 rest)
      ∙ ap (λ (ps : List PacketPart). (part_at (span_of kept) 0 ∷ map (part_at (shifted kept)) (range_with_len 0 rest)) ++ ps) (packets_shift kept.skipped (kept.skipped + kept.kept) rest later)
      ∙ ap (λ (p : PacketPart). p ∷ (map (part_at (shifted kept)) (range_with_len 0 rest) ++ parts_of_packets (shifted kept) rest later)) (sym part_is)
      ∙ ap (λ (n : ℕ). part ∷ (map (part_at (span n (kept.skipped + kept.kept - 1))) (range_with_len 0 rest) ++ parts_of_packets (span n (kept.skipped + kept.kept - 1)) rest later)) (sym skipped_is)
      ∙ ap (λ (n : ℕ). part ∷ (map (part_at (span now.skipped n)) (range_with_len 0 rest) ++ parts_of_packets (span now.skipped n) rest later)) (sym kept_is)
      ∙ ap (λ (n : ℕ). part ∷ parts_ahead n 0 rest now later) (sym none)
      ∙ ap (λ (n : ℕ). part ∷ parts_ahead before n rest now later) (sym none')

  pub next-packet : (before header payload : ℕ) (packet : PesUnit) (rest count : ℕ) → before ≡ 0 → header ≡ 0 → payload ≡ 0 → header_length packet.bytes ≡ suc rest →
      count ≡ length (pes_payload_of packet) →
      parts_ahead before header payload kept (packet ∷ later) ≡ PesHeader ∷ parts_ahead before rest count kept later
  next-packet before header payload packet rest count none none' none'' is count_is =
      let elementary = map (part_at (span_of kept)) (range_with_len 0 (length (pes_payload_of packet))) in
      let behind = parts_of_packets (span_of kept) (length (pes_payload_of packet)) later in
      let size : 0 + length (pes_payload_of packet) ≡ length (pes_payload_of packet) = omega arith in
      ap (λ (n : ℕ). parts_ahead n header payload kept (packet ∷ later)) none ∙ ap (λ (n : ℕ). parts_ahead 0 n payload kept (packet ∷ later)) none'
      ∙ ap (λ (n : ℕ). parts_ahead 0 0 n kept (packet ∷ later)) none''
      ∙ ap (λ (n : ℕ). (replicate (header_length packet.bytes) PesHeader ++ elementary) ++ parts_of_packets (span_of kept) n later) size
      ∙ ap (λ (n : ℕ). (replicate n PesHeader ++ elementary) ++ behind) is
      ∙ ap (λ (ps : List PacketPart). PesHeader ∷ ps) (append_assoc (replicate rest PesHeader) elementary behind)
      ∙ ap (λ (n : ℕ). PesHeader ∷ parts_ahead 0 rest n kept later) (sym count_is)
      ∙ ap (λ (n : ℕ). PesHeader ∷ parts_ahead n rest count kept later) (sym none)

  pub next-none : (before header payload : ℕ) → before ≡ 0 → header ≡ 0 → payload ≡ 0 → parts_ahead before header payload kept [] ≡ []
  next-none before header payload none none' none'' =
      ap (λ (n : ℕ). parts_ahead n header payload kept []) none ∙ ap (λ (n : ℕ). parts_ahead 0 n payload kept []) none' ∙ ap (λ (n : ℕ). parts_ahead 0 0 n kept []) none''
