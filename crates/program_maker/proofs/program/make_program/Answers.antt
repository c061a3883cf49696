use Rattle.std.proofs.Common.{◌≡◌, ◌∷◌, [], length, List, ℕ, sym, ap, subst, ◌∙◌, arith}
use Rattle.std.specs.List.{flat_map}
use Rattle.ts_packets.specs.Packet.{written}
use Rattle.program_maker.specs.Packets.{section_packet, counted}
use Rattle.program_maker.specs.Pictures.{drawn_picture, drawn_pictures, AreWritten}
use Rattle.program_maker.specs.Program.{program_packets}
use Rattle.program_maker.specs.Streams.{drawn_frames}
use Rattle.program_maker.proofs.Drawing.{number-each}
use Rattle.program_maker.proofs.Placing.{written-number}
use Rattle.program_maker.proofs.program.make_program.Goals as goal

same-number : (number state : ℕ) (units : List (List ℕ)) → AreWritten (drawn_pictures number state).0 units → length units ≡ number
same-number number state units are = written-number (drawn_pictures number state).0 units are ∙ number-each drawn_picture number state

pub put_units-requires : goal.put_units-requires
put_units-requires c =
    let number : length c.as_slice.result.now ≡ c.args.pictures =
    ap length c.as_slice.ensures ∙ same-number c.args.pictures c.new-draws.result.state _ c.in_ok-units.ensures.written in
    omega (arith, number, c.requires)

pub returns : goal.returns
returns c =
    let number = c.args.pictures in
    let seed = c.args.seed in
    let units = c.as_slice.result.now in
    let are = subst (AreWritten (drawn_pictures number c.new-draws.result.state).0) (sym c.as_slice.ensures) c.in_ok-units.ensures.written in
    let count : length units ≡ number = same-number number c.new-draws.result.state units are in
    let state = c.in_ok-units.ensures.state ∙ ap (λ s. (drawn_pictures number s).1) c.new-draws.ensures in
    let tables = c.in_ok-put_tables.ensures c.new-out.ensures in
    let behind = c.in_ok-put_units.ensures (section_packet 0 tables.pat ∷ section_packet 0x100 tables.pmt ∷ []) tables.behind in
    let bytes : List (List ℕ) → List ℕ = λ frames. flat_map written (counted [] (program_packets tables.pat tables.pmt units frames)) in
    record {
      pat = tables.pat;
      pat_is = tables.pat_is;
      pmt = tables.pmt;
      pmt_is = tables.pmt_is;
      pictures = units;
      pictures_are = subst (λ s. AreWritten (drawn_pictures number s).0 units) c.new-draws.ensures are;
      bytes_are = c.into_bytes.ensures ∙ behind.bytes_are ∙ ap (λ n. bytes (drawn_frames n c.make_pictures.new.draws.state).0) count ∙ ap (λ s. bytes (drawn_frames number s).0) state;
    }
