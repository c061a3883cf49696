-- Sections as payloads of packets.
use Rattle.std.proofs.Common.{◌≡◌, ℕ, suc, ◌+◌, ◌-◌, ◌*◌, ◌^◌, ◌<◌, ◌≤◌, List, [], ◌∷◌, ◌++◌, All, length, get_or, drop, replicate, refl, sym, ap, ◌∙◌, append_assoc, arith, length-append}
use Rattle.std.specs.List.{flat_map}
use Rattle.std.specs.Int.{w32, to_be_bytes}
use Rattle.std.proofs.lemmas.List.{at_drop_more, drop-replicate}
use Rattle.std.proofs.lemmas.List.Elements.{All-cons, All-nil}
use Rattle.psi_tables.specs.declared.program_map.ProgramMap.{ProgramMap}
use Rattle.psi_tables.specs.Pat.{written_pat, written_program}
use Rattle.psi_tables.specs.Section.{IsWithCrc, written_section_header}
use Rattle.psi_tables.proofs.CrcDivision.{crc_over-only}
use Rattle.psi_tables.proofs.WrittenPat.{length-written_programs}
use Rattle.mux_writer.specs.Layout.{map_pid}
use Rattle.mux_writer.specs.Tables.{programs_from, with_crc}

-- bytes with their CRC behind them are these
pub with_crc-is : (front bytes : List ℕ) → IsWithCrc front bytes → bytes ≡ with_crc front
with_crc-is front bytes is = is.joined ∙ ap (λ (crc : ℕ). front ++ to_be_bytes w32 crc) (crc_over-only front is.crc is.crc_is)

-- what a section leaves of 183 bytes of stuffing
pub stuffing-left : (k size : ℕ) → k ≡ size → drop k (replicate {A = ℕ} 183 0xFF) ≡ replicate {A = ℕ} (183 - size) 0xFF
stuffing-left k size is = drop-replicate {X = ℕ} k 183 0xFF ∙ ap (λ (n : ℕ). replicate {A = ℕ} (183 - n) 0xFF) is

-- ---- the PAT

-- PIDs of maps of no more than eight programs
pub programs-pids : (first : ℕ) (maps : List ProgramMap) → first + length maps ≤ 8 → All (λ (program : ℕ × ℕ). program.1 < 2 ^ 13) (programs_from first maps)
programs-pids first [] few = All-nil (λ (program : ℕ × ℕ). program.1 < 2 ^ 13)
programs-pids first (program_map ∷ maps) few =
    All-cons (λ (program : ℕ × ℕ). program.1 < 2 ^ 13) (program_map.number, map_pid first) (programs_from (first + 1) maps) (omega (arith, few))
    (programs-pids (first + 1) maps (omega (arith, few)))

pub length-programs_from : (first : ℕ) (maps : List ProgramMap) → length (programs_from first maps) ≡ length maps
length-programs_from first [] = refl
length-programs_from first (program_map ∷ maps) = ap suc (length-programs_from (first + 1) maps)

-- one more program
pub programs-more : (done : List (ℕ × ℕ)) (all : List (ℕ × ℕ)) (maps : List ProgramMap) (n : ℕ) (d : ProgramMap) → n < length maps
    → done ++ programs_from n (drop n maps) ≡ all → (done ++ ((get_or maps n d).number, map_pid n) ∷ []) ++ programs_from (n + 1) (drop (n + 1) maps) ≡ all
programs-more done all maps n d within before =
    append_assoc done (((get_or maps n d).number, map_pid n) ∷ []) (programs_from (n + 1) (drop (n + 1) maps))
    ∙ ap (λ (rest : List (ℕ × ℕ)). done ++ rest) (sym (at_drop_more (programs_from n) maps n d within))
    ∙ before

-- a PAT of no more than eight programs has room in a packet
pub pat-fits : (stream_id : ℕ) (programs : List (ℕ × ℕ)) (bytes : List ℕ) → length programs ≤ 8 → IsWithCrc (written_pat stream_id programs) bytes → length bytes ≤ 183
pat-fits stream_id programs bytes few is =
    omega (
      arith,
      few,
      ap length is.joined,
      length-append (written_pat stream_id programs) (to_be_bytes w32 is.crc),
      length-append (written_section_header 0 (9 + 4 * length programs) stream_id) (flat_map written_program programs),
      length-written_programs programs,
    )
