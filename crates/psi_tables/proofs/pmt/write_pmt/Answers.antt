use Rattle.std.proofs.Common.{◌≡◌, ◌+◌, ◌-◌, ◌<◌, ◌++◌, ℕ, List, All, length, ap, subst, ◌∙◌, arith}
use Rattle.std.specs.List.{flat_map}
use Rattle.psi_tables.specs.declared.stream.Stream.{Stream}
use Rattle.psi_tables.specs.declared.program_map.ProgramMap.{ProgramMap}
use Rattle.psi_tables.specs.Section.{IsWithCrc, written_section_header, written_pid, written_length}
use Rattle.psi_tables.specs.Streams.{written_stream}
use Rattle.psi_tables.specs.Pmt.{written_streams, written_pmt, without_dropped}
use Rattle.psi_tables.proofs.WrittenPmt.{written_has_room, written_pmt_is}
use Rattle.psi_tables.proofs.pmt.write_pmt.Goals as goal

pub returns-clause-bytes : goal.returns-clause-bytes
returns-clause-bytes c =
    let map : ProgramMap = c.args.map.now in
    let size : c.pmt_length-size.result - 3 ≡ 13 + length (written_streams map) = omega (arith, c.pmt_length-size.ensures) in
    let header : c.put_header.new.into.items ≡ written_section_header 2 (13 + length (written_streams map)) map.number =
    c.put_header.ensures.bytes ∙ ap (λ (n : ℕ). written_section_header 2 n map.number) size in
    let front : c.put_length.new.into.items ≡ written_section_header 2 (13 + length (written_streams map)) map.number ++ written_pid map.pcr_pid ++ written_length 0 =
    c.put_length.ensures ∙ ap (λ (bytes : List ℕ). bytes ++ written_length 0) (c.put_pid.ensures ∙ ap (λ (bytes : List ℕ). bytes ++ written_pid map.pcr_pid) header) in
    let whole : c.put_streams.new.into.items ≡ written_pmt map =
    c.put_streams.ensures.bytes
    ∙ ap (λ (streams : List Stream). c.put_length.new.into.items ++ flat_map written_stream streams) c.as_slice.ensures.value
    ∙ ap (λ (bytes : List ℕ). bytes ++ written_streams map) front in
    subst (λ (bytes : List ℕ). IsWithCrc bytes c.put_crc.new.into.items) whole c.put_crc.ensures.bytes

pub returns-clause-room : goal.returns-clause-room
returns-clause-room c =
    written_has_room (without_dropped c.args.map.now)
    (omega (arith, c.pmt_length-size.ensures, c.if-size-gt-PACKET_SECTION_BYTES.false))

pub returns-clause-map : goal.returns-clause-map
returns-clause-map c =
    written_pmt_is c.args.map.now c.put_crc.new.into.items c.put_header.ensures.extension
    (subst (λ (streams : List Stream). All (λ stream. stream.kind < 256) streams) c.as_slice.ensures.value c.put_streams.ensures.kinds) c.requires (returns-clause-room c)
    (omega (arith, c.pmt_length-size.ensures, c.if-size-gt-PACKET_SECTION_BYTES.false))
    (returns-clause-bytes c)
