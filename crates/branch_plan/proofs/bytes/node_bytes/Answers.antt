use Rattle.std.proofs.Common.{length, ap, arith}
use Rattle.bound_certificate.specs.declared.cert.Node.{Node}
use Rattle.bound_certificate.specs.Spelling.{bytes_of_node}
use Rattle.branch_plan.proofs.TreeBytes.{branch_bytes, dual_bytes, open_bytes, run_bytes, seeing_bytes, time_bytes}
use Rattle.branch_plan.proofs.bytes.node_bytes.Goals as goal

pub returns-in-Branch-clause-is : goal.returns-in-Branch-clause-is
returns-in-Branch-clause-is c = omega (arith, ap (λ (n : Node). length (bytes_of_node n)) c.in-Branch.is, branch_bytes c.in-Branch.unit)

pub returns-in-Dual-clause-is : goal.returns-in-Dual-clause-is
returns-in-Dual-clause-is c = omega (arith, ap (λ (n : Node). length (bytes_of_node n)) c.in-Dual.is, dual_bytes c.in-Dual.with, ap length c.as_slice.ensures.value)

pub returns-in-Run-clause-is : goal.returns-in-Run-clause-is
returns-in-Run-clause-is c = omega (arith, ap (λ (n : Node). length (bytes_of_node n)) c.in-Run.is, run_bytes c.in-Run.scheduled)

pub returns-in-Open-clause-is : goal.returns-in-Open-clause-is
returns-in-Open-clause-is c = omega (arith, ap (λ (n : Node). length (bytes_of_node n)) c.in-Open.is, open_bytes)

pub returns-in-Window-clause-is : goal.returns-in-Window-clause-is
returns-in-Window-clause-is c =
    omega (arith, ap (λ (n : Node). length (bytes_of_node n)) c.in-Window.is, time_bytes c.in-Window.with, ap length c.as_slice-in-Window.ensures.value)

pub returns-in-BufferWindow-clause-is : goal.returns-in-BufferWindow-clause-is
returns-in-BufferWindow-clause-is c =
    omega (arith, ap (λ (n : Node). length (bytes_of_node n)) c.in-BufferWindow.is, seeing_bytes c.in-BufferWindow.with, ap length c.as_slice-in-BufferWindow.ensures.value)
