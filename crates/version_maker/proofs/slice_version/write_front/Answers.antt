use Rattle.std.proofs.lemmas.Result.{on_ok_weaker}
use Rattle.macroblock_writer.proofs.Going.{goes-then}
use Rattle.version_maker.proofs.MadeSlices.{goes-from, goes-when}
use Rattle.version_maker.proofs.slice_version.write_front.Goals as goal

pub returns : goal.returns
returns g c =
    on_ok_weaker c.in_memory-2.result
    (λ then. goes-then (goes-from c.write_start_code.result c.in_ok-in_memory.ensures c.write_start_code.ensures.writes) then)
    (goes-when c.write_slice_head.result c.in_memory-2.result c.in_memory-2.ensures c.write_slice_head.ensures)
