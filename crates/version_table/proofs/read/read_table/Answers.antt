use Rattle.std.proofs.Common.{arith}
use Rattle.version_table.proofs.Readers.{too_long, only_answer}
use Rattle.version_table.proofs.read.read_table.Goals as goal

pub returns-then-text-gt-TABLE_TEXT_MOST-clause-refusal : goal.returns-then-text-gt-TABLE_TEXT_MOST-clause-refusal
returns-then-text-gt-TABLE_TEXT_MOST-clause-refusal c = (too_long c.args.text.now c.limit_fault.result (omega arith) c.limit_fault.ensures).refusal

pub returns-clause-only : goal.returns-clause-only
returns-clause-only c = only_answer c.args.text.now c.read_lines.result (record { table = c.read_lines.ensures.table; refusal = c.read_lines.ensures.refusal })
