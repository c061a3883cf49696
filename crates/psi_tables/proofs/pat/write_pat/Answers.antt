use Rattle.std.proofs.Common.{◌≡◌, ◌+◌, ◌*◌, ◌++◌, ℕ, List, length, ap, subst, ◌∙◌, arith, length-append}
use Rattle.std.specs.List.{flat_map}
use Rattle.psi_tables.specs.Section.{IsWithCrc, written_section_header}
use Rattle.psi_tables.specs.Pat.{written_program, written_pat}
use Rattle.psi_tables.proofs.WrittenPat.{length-written_programs, written_pat_is}
use Rattle.psi_tables.proofs.pat.write_pat.Goals as goal

pub put_crc-requires : goal.put_crc-requires
put_crc-requires c =
    omega (
      arith,
      c.requires.few,
      ap length c.put_programs.ensures.bytes,
      ap length c.put_header.ensures.bytes,
      length-append c.put_header.new.into.items (flat_map written_program c.args.programs.now),
      length-written_programs c.args.programs.now,
    )

pub returns-clause-bytes : goal.returns-clause-bytes
returns-clause-bytes c =
    let programs : List (ℕ × ℕ) = c.args.programs.now in
    let size : 5 + 4 * length programs + 4 ≡ 9 + 4 * length programs = omega arith in
    let front : c.put_programs.new.into.items ≡ written_pat c.args.stream_id programs =
    c.put_programs.ensures.bytes
    ∙ ap (λ (header : List ℕ). header ++ flat_map written_program programs) (c.put_header.ensures.bytes ∙ ap (λ (n : ℕ). written_section_header 0 n c.args.stream_id) size) in
    subst (λ (bytes : List ℕ). IsWithCrc bytes c.put_crc.new.into.items) front c.put_crc.ensures.bytes

pub returns-clause-pat : goal.returns-clause-pat
returns-clause-pat c =
    written_pat_is c.args.stream_id c.args.programs.now c.put_crc.new.into.items c.ranges.stream_id.fits c.requires.few c.put_programs.ensures.numbers c.requires.pids (returns-clause-bytes c)
