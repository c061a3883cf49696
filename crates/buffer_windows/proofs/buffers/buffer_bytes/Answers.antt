use Rattle.std.proofs.Common.{List, length, ap, arith}
use Rattle.version_table.specs.declared.table.ProgramRow.{ProgramRow}
use Rattle.buffer_windows.proofs.BuffersFrom.{buffer_bytes-is, buffers-more, buffers-none, buffers_from}
use Rattle.buffer_windows.proofs.buffers.buffer_bytes.Goals as goal

pub loop-k-init : goal.loop-k-init
loop-k-init c =
    let rows = ap (λ (rows : List ProgramRow). buffers_from c.args.table.now.slot c.args.window.now rows 0) c.as_slice-program-items.ensures in
    (omega (arith, rows, buffer_bytes-is c.args.table.now c.args.window.now), omega arith)

pub overflow_add-total : goal.overflow_add-total
overflow_add-total c = omega arith

pub loop-k-preserved : goal.loop-k-preserved
loop-k-preserved c = (
  omega (
    arith,
    c.loop-k.invariant.0,
    buffers-more c.args.table.now.slot c.args.window.now c.as_slice-program-items.result.now c.loop-k.k c.program-item.result c.loop-k-test.true c.program-item.is,
  ),
  omega (arith, c.loop-k.invariant.1),
)

pub returns-clause-value : goal.returns-clause-value
returns-clause-value c =
    omega (
      arith,
      c.loop-k.invariant.0,
      buffers-none c.args.table.now.slot c.args.window.now c.as_slice-program-items.result.now c.loop-k.k c.loop-k-test.false,
    )

pub returns-clause-few : goal.returns-clause-few
returns-clause-few c = omega (arith, c.loop-k.invariant.1, c.requires.few_programs, ap (λ (rows : List ProgramRow). length rows) c.as_slice-program-items.ensures)
