use Rattle.std.proofs.Common.{length, ap}
use Rattle.branch_plan.proofs.TreeBytes.{leaf_most_seen, leaf_most_time}
use Rattle.branch_plan.proofs.bytes.leaf_bytes_most.Goals as goal

pub returns-then-seen-gt-WINDOWS_MOST : goal.returns-then-seen-gt-WINDOWS_MOST
returns-then-seen-gt-WINDOWS_MOST c =
    leaf_most_seen (length c.as_slice-seen.result.now) c.args.buffers.now (ap length c.as_slice-seen.ensures.value) c.as_slice-seen.ensures.few c.if-seen-gt-WINDOWS_MOST.true

pub returns-else-seen-gt-WINDOWS_MOST : goal.returns-else-seen-gt-WINDOWS_MOST
returns-else-seen-gt-WINDOWS_MOST c = leaf_most_time (length c.as_slice-seen.result.now) c.args.buffers.now (ap length c.as_slice-seen.ensures.value) c.if-seen-gt-WINDOWS_MOST.false
