use Rattle.std.proofs.Common.{◌≡◌, sym, arith}
use Rattle.version_table.specs.Choice.{version_at}
use Rattle.slot_rule.proofs.UnitPieces.{unit_packets-some, unit_packets-none}
use Rattle.slot_rule.proofs.queue_items.piece_of.Goals as goal

pub returns-then-bytes-before : goal.returns-then-bytes-before
returns-then-bytes-before c =
    let bytes = (version_at c.args.unit.now c.args.version).bytes in
    let is : c.from-bytes.result ≡ bytes = cc in
    sym (unit_packets-none c.args.item c.args.unit.now.due bytes c.args.piece c.requires.some_bytes (omega arith))

pub returns : goal.returns
returns c =
    let bytes = (version_at c.args.unit.now c.args.version).bytes in
    let is : c.from-bytes.result ≡ bytes = cc in
    let at = unit_packets-some c.args.item c.args.unit.now.due bytes c.args.piece (omega arith) in
    cc (at, is)
