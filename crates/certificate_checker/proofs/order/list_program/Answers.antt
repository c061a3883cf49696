use Rattle.std.proofs.Common.{◌≡◌, List, length, get_or, sym, ap, ◌∙◌, arith}
use Rattle.version_table.specs.declared.table.ProgramRow.{ProgramRow}
use Rattle.certificate_checker.proofs.DueOrder.{listed_more}
use Rattle.certificate_checker.proofs.order.list_program.Goals as goal

pub loop-place-preserved : goal.loop-place-preserved
loop-place-preserved c =
    let table = c.args.table.now in
    let row = c.index-as_slice-program.result in
    let is : row ≡ get_or table.programs c.args.program row = c.index-as_slice-program.is ∙ ap (λ (rows : List ProgramRow). get_or rows c.args.program row) c.as_slice.ensures in
    let size : c.len-number.result ≡ length c.loop-place.order.items = omega (arith, c.len-number.ensures, c.loop-place.order.ok.0) in
    record {
      filled = listed_more table c.args.program c.loop-place.place c.len-number.result row c.as_slice-units.result.now c.index-units-place.result c.loop-place.order.items
          c.push_reserved.new.self.items c.requires.program is (c.as_slice-units.ensures ∙ ap (λ (p : ProgramRow). p.units) (sym c.index-as_slice-program.is)) c.loop-place-test.true c.index-units-place.is size c.loop-place.invariant.filled
          c.push_reserved.ensures.items;
      room = c.push_reserved.ensures.capacity ∙ c.loop-place.invariant.room;
    }
