use Rattle.std.proofs.Common.{◌≡◌, ◌∷◌, [], ◌++◌, List, ap, subst, ◌∙◌}
use Rattle.psi_tables.specs.declared.stream.Stream.{Stream}
use Rattle.psi_tables.specs.Pmt.{written_pmt}
use Rattle.psi_tables.specs.Section.{IsWithCrc}
use Rattle.program_maker.specs.Program.{plain_stream}
use Rattle.program_maker.proofs.program.write_map.Goals as goal

pub returns : goal.returns
returns c =
    let first = c.stream.result in
    let second = c.stream-2.result in
    let streams : c.push-2.new.self.items ≡ plain_stream 2 0x101 ∷ plain_stream 3 0x102 ∷ [] =
    c.push-2.ensures.items ∙ ap (λ xs. xs ++ second ∷ []) (c.push.ensures.items ∙ ap (λ xs. xs ++ first ∷ []) c.new-streams.ensures)
    ∙ ap (λ (x : Stream). x ∷ second ∷ []) c.stream.ensures ∙ ap (λ (x : Stream). plain_stream 2 0x101 ∷ x ∷ []) c.stream-2.ensures in
    subst (λ (items : List Stream). IsWithCrc (written_pmt (record { number = 1; pcr_pid = 0x101; streams = record { items = items }; dropped = 0 })) c.write_pmt.new.into.items)
    streams c.in-Ok.ensures.bytes
