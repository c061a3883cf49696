use Rattle.std.proofs.Common.{ℕ, ◌<◌, length, arith, sym, subst}
use Rattle.mux_writer.specs.Layout.{IsOutputMap, with_output_pids}
use Rattle.mux_writer.proofs.Layouts.{goes-out, layout-more}
use Rattle.mux_writer.proofs.layout.Layout.push.Goals as goal

pub returns-clause-layout : goal.returns-clause-layout
returns-clause-layout c =
    let few : c.len-program.result < 8 = omega (arith, c.len-program.ensures.value, c.requires.room) in
    let goes : IsOutputMap c.len-program.result (with_output_pids c.len-program.result c.args.number c.args.map) =
    goes-out c.len-program.result c.args.number c.args.map few c.requires.map c.requires.streams c.requires.fits in
    let last : IsOutputMap (length c.args.self.now.maps.items) c.output_map.result =
    subst (λ (n : ℕ). IsOutputMap n c.output_map.result) c.len-program.ensures.value
    (subst (IsOutputMap c.len-program.result) (sym c.output_map.ensures) goes) in
    layout-more c.args.self.now _ c.output_map.result c.args.base c.requires.layout last c.requires.base c.push.ensures.items c.push-2.ensures.items
