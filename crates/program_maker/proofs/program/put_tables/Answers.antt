use Rattle.std.proofs.Common.{◌∷◌, [], refl, sym, subst, arith}
use Rattle.std.proofs.lemmas.Result.{on_ok_weaker}
use Rattle.psi_tables.specs.Pat.{written_pat}
use Rattle.psi_tables.specs.Pmt.{written_pmt}
use Rattle.psi_tables.specs.Section.{IsWithCrc}
use Rattle.program_maker.specs.Program.{program_map}
use Rattle.program_maker.specs.Packets.{section_packet}
use Rattle.program_maker.proofs.program.put_tables.Goals as goal

pub returns : goal.returns
returns c = λ is.
    let pat = c.as_slice.result.now in
    let pmt = c.as_slice-2.result.now in
    let one = c.in_ok-put_section.ensures [] is refl (λ e. omega (arith, e)) (λ e. omega (arith, e)) in
    on_ok_weaker c.put_section-2.result (λ behind. record {
      pat = pat;
      pat_is = subst (IsWithCrc (written_pat 1 ((1, 0x100) ∷ []))) (sym c.as_slice.ensures.value) c.write_pat.ensures.bytes;
      pmt = pmt;
      pmt_is = subst (IsWithCrc (written_pmt program_map)) (sym c.as_slice-2.ensures.value) c.write_map.ensures;
      behind = behind;
    })
    (c.put_section-2.ensures (section_packet 0 pat ∷ []) one refl (λ e. omega (arith, e)) (λ e. omega (arith, e)))
