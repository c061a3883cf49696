-- The sections of a layout are found, and say what was written.
use Rattle.std.proofs.Common.{◌≡◌, ◌≢◌, ℕ, zero, suc, ◌+◌, ◌*◌, ◌^◌, ◌<◌, ◌≤◌, ◌==◌, ◌||◌, Bool, true, cond, List, [], ◌∷◌, All, length, Some, None, Ok, refl, ap, ◌∙◌, arith, length-append}
use Rattle.std.specs.Prelude.{slice_get}
use Rattle.std.specs.List.{find, flat_map}
use Rattle.std.specs.Option.{option_map}
use Rattle.std.specs.Int.{w32, to_be_bytes}
use Rattle.std.proofs.lemmas.Bool.{eq-eqb, ne_eqb, or_right}
use Rattle.std.proofs.lemmas.Option.{slice_get_within}
use Rattle.std.proofs.lemmas.List.Elements.{All-cons, All-head, All-nil, All-tail}
use Rattle.psi_tables.specs.declared.program_map.ProgramMap.{ProgramMap}
use Rattle.psi_tables.specs.Pat.{IsPat, pat_map_pid as said_pid, written_pat, written_program}
use Rattle.psi_tables.specs.Pmt.{HasRoom, IsPmt, IsWritableMap, pmt_length, without_dropped, written_pmt, written_streams}
use Rattle.psi_tables.specs.PmtOf.{pmt_of}
use Rattle.psi_tables.specs.Section.{IsWholeSection, IsWithCrc, table_id, written_section_header}
use Rattle.psi_tables.specs.Sections.{crc_over, found_at, is_read}
use Rattle.psi_tables.proofs.CrcDivision.{crc_over-is}
use Rattle.psi_tables.proofs.CrcLaws.{with_crc_is_right}
use Rattle.psi_tables.proofs.PmtFunction.{pmt_made}
use Rattle.psi_tables.proofs.WrittenPat.{length-written_programs, written_pat_is}
use Rattle.psi_tables.proofs.WrittenPmt.{written_has_room, written_pmt_is}
use Rattle.mux_writer.specs.declared.layout.Layout.{Layout}
use Rattle.mux_writer.specs.Layout.{map_pid}
use Rattle.mux_writer.specs.Tables.{pat_section, pmt_section, programs_from, with_crc}
use Rattle.mux_writer.proofs.Sections.{length-programs_from, programs-pids}
use Rattle.layer_laws.proofs.Sections.{found_whole}
use Rattle.output_laws.specs.Fields.{HaveNumbersInRange, IsMapInRange}
use Rattle.mux_writer.proofs.Written.{crc-size}

-- ---- any section with its CRC

crc_behind : (front : List ℕ) → IsWithCrc front (with_crc front)
crc_behind front = record { crc = crc_over front; crc_is = crc_over-is front; joined = refl }

pat_is_read : (section : List ℕ) → table_id section ≡ 0 → is_read section ≡ true
pat_is_read section is = ap (λ (first : Bool). first || (table_id section == 2)) (eq-eqb (table_id section) 0 is)

pmt_is_read : (section : List ℕ) → table_id section ≡ 2 → is_read section ≡ true
pmt_is_read section is = or_right (table_id section == 0) (table_id section == 2) (eq-eqb (table_id section) 2 is)

found : (front : List ℕ) → is_read (with_crc front) ≡ true → IsWholeSection (with_crc front) → length front ≤ 200 → found_at (with_crc front) ≡ Ok (with_crc front) ∷ []
found front read whole short =
    found_whole (with_crc front) read whole (omega (arith, whole.size, crc-size front, short)) (with_crc_is_right front (with_crc front) (crc_behind front))

-- ---- the PAT

numbers : (first : ℕ) (maps : List ProgramMap) → All IsMapInRange maps → All (λ (program : ℕ × ℕ). program.0 < 2 ^ 16) (programs_from first maps)
numbers first [] each = All-nil (λ (program : ℕ × ℕ). program.0 < 2 ^ 16)
numbers first (program_map ∷ maps) each =
    All-cons (λ (program : ℕ × ℕ). program.0 < 2 ^ 16) (program_map.number, map_pid first) (programs_from (first + 1) maps) (All-head IsMapInRange program_map maps each).number
    (numbers (first + 1) maps (All-tail IsMapInRange program_map maps each))

pub pat-says : (layout : Layout) → length layout.maps.items ≤ 8 → HaveNumbersInRange layout → IsPat (programs_from 0 layout.maps.items) (pat_section layout)
pat-says layout few range =
    let programs : List (ℕ × ℕ) = programs_from 0 layout.maps.items in
    written_pat_is layout.stream_id programs (pat_section layout) range.stream_id (omega (arith, length-programs_from 0 layout.maps.items)) (numbers 0 layout.maps.items range.maps)
    (programs-pids 0 layout.maps.items (omega arith)) (crc_behind (written_pat layout.stream_id programs))

pub pat-found : (layout : Layout) → length layout.maps.items ≤ 8 → HaveNumbersInRange layout → found_at (pat_section layout) ≡ Ok (pat_section layout) ∷ []
pat-found layout few range =
    let programs : List (ℕ × ℕ) = programs_from 0 layout.maps.items in
    let is = pat-says layout few range in
    let short : length (written_pat layout.stream_id programs) ≤ 200 = omega (
      arith,
      few,
      length-programs_from 0 layout.maps.items,
      length-append (written_section_header 0 (9 + 4 * length programs) layout.stream_id) (flat_map written_program programs),
      length-written_programs programs,
    ) in
    found (written_pat layout.stream_id programs) (pat_is_read (pat_section layout) is.current.table_is) is.whole short

-- the program that is found by its number
module _ (number : ℕ) where
  found-at : (first program : ℕ) (maps : List ProgramMap) (program_map : ProgramMap) → slice_get maps program ≡ Some program_map → program_map.number ≡ number
      → ((other : ℕ) (earlier : ProgramMap) → other < program → slice_get maps other ≡ Some earlier → earlier.number ≢ number)
      → find (λ (said : ℕ × ℕ). said.0 == number) (programs_from first maps) ≡ Some (number, map_pid (first + program))
  found-at first program [] program_map is same none = absurd (omega (arith, slice_get_within {A = ProgramMap} [] program program_map is))
  found-at first zero (next ∷ maps) program_map is same none =
      let here : next.number ≡ number = ap (λ (m : ProgramMap). m.number) (let e : next ≡ program_map = cc in e) ∙ same in
      ap (λ (test : Bool). cond test (Some (next.number, map_pid first)) (find (λ (said : ℕ × ℕ). said.0 == number) (programs_from (first + 1) maps))) (eq-eqb next.number number here)
      ∙ ap (λ (n : ℕ). Some (n, map_pid first)) here ∙ ap (λ (k : ℕ). Some (number, map_pid k)) (let e : first ≡ first + 0 = omega arith in e)
  found-at first (suc program) (next ∷ maps) program_map is same none =
      ap (λ (test : Bool). cond test (Some (next.number, map_pid first)) (find (λ (said : ℕ × ℕ). said.0 == number) (programs_from (first + 1) maps)))
      (ne_eqb next.number number (none 0 next (omega arith) refl))
      ∙ found-at (first + 1) program maps program_map is same (λ other earlier lt there. none (suc other) earlier (omega arith) there)
      ∙ ap (λ (k : ℕ). Some (number, map_pid k)) (let e : (first + 1) + program ≡ first + suc program = omega arith in e)

pub pat-leads : (maps : List ProgramMap) (program : ℕ) (program_map : ProgramMap) → slice_get maps program ≡ Some program_map → program_map.number ≢ 0
    → ((other : ℕ) (earlier : ProgramMap) → other < program → slice_get maps other ≡ Some earlier → earlier.number ≢ program_map.number)
    → said_pid program_map.number (programs_from 0 maps) ≡ Some (map_pid program)
pat-leads maps program program_map is positive none =
    let said = found-at program_map.number 0 program maps program_map is refl none in
    ap (λ (network : Bool). cond network None (option_map (λ (said : ℕ × ℕ). said.1) (find (λ (said : ℕ × ℕ). said.0 == program_map.number) (programs_from 0 maps))))
    (ne_eqb program_map.number 0 positive)
    ∙ ap (option_map (λ (said : ℕ × ℕ). said.1)) said ∙ ap (λ (k : ℕ). Some (map_pid k)) (let e : 0 + program ≡ program = omega arith in e)

-- ---- a PMT

module _ (program_map : ProgramMap) (writable : IsWritableMap program_map) (range : IsMapInRange program_map) (fits : pmt_length program_map ≤ 183) where
  few : length (written_streams program_map) ≤ 183
  few = omega (arith, fits)

  room : HasRoom (without_dropped program_map)
  room = written_has_room (without_dropped program_map) few

  is_pmt : IsPmt (without_dropped program_map) (pmt_section program_map)
  is_pmt = written_pmt_is program_map (pmt_section program_map) range.number range.kinds writable room few (crc_behind (written_pmt program_map))

  pub pmt-says : pmt_of (pmt_section program_map) ≡ Some (without_dropped program_map)
  pmt-says = pmt_made (pmt_section program_map) (without_dropped program_map) is_pmt room

  pub pmt-found : found_at (pmt_section program_map) ≡ Ok (pmt_section program_map) ∷ []
  pmt-found = found (written_pmt program_map) (pmt_is_read (pmt_section program_map) is_pmt.current.table_is) is_pmt.whole (omega (arith, fits))
