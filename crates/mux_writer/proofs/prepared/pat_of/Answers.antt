use Rattle.std.proofs.Common.{◌≤◌, ℕ, List, All, length, ap, subst, sym, ◌∙◌, ◌<◌, ◌^◌, arith}
use Rattle.psi_tables.specs.Pat.{written_pat}
use Rattle.psi_tables.specs.Sections.{section_payload}
use Rattle.mux_writer.specs.Tables.{programs_from, with_crc}
use Rattle.mux_writer.proofs.Sections.{length-programs_from, pat-fits, programs-pids, with_crc-is}
use Rattle.mux_writer.proofs.prepared.pat_of.Goals as goal

pub write_pat-requires-clause-pids : goal.write_pat-requires-clause-pids
write_pat-requires-clause-pids c =
    subst (λ (programs : List (ℕ × ℕ)). All (λ (program : ℕ × ℕ). program.1 < 2 ^ 13) programs)
    (sym (c.as_slice-2.ensures.value ∙ c.programs_of-programs.ensures.programs))
    (programs-pids 0 c.as_slice.result.now (omega (arith, c.as_slice.ensures.fits)))

pub payload_of-requires : goal.payload_of-requires
payload_of-requires c =
    let few : length c.as_slice-2.result.now ≤ 8 = omega (
      arith,
      c.as_slice.ensures.fits,
      length-programs_from 0 c.as_slice.result.now,
      ap length (c.as_slice-2.ensures.value ∙ c.programs_of-programs.ensures.programs),
    ) in
    pat-fits c.args.layout.now.stream_id c.as_slice-2.result.now c.write_pat.new.into.items few c.write_pat.ensures.bytes

pub returns : goal.returns
returns c =
    c.payload_of.ensures
    ∙ ap section_payload (with_crc-is (written_pat c.args.layout.now.stream_id c.as_slice-2.result.now) c.write_pat.new.into.items c.write_pat.ensures.bytes)
    ∙ ap (λ (programs : List (ℕ × ℕ)). section_payload (with_crc (written_pat c.args.layout.now.stream_id programs)))
    (c.as_slice-2.ensures.value ∙ c.programs_of-programs.ensures.programs ∙ ap (programs_from 0) c.as_slice.ensures.value)
