-- What is found on a stream whose decoder has no fault.
use Rattle.std.proofs.Common.{ℕ, Option, refl, sym, subst}
use Rattle.tstd_model.specs.declared.fault.TstdFault.{TstdFault}
use Rattle.tstd_model.specs.Faults.{IsFault}
use Rattle.stream_audit.specs.declared.audited_stream.AuditedStream.{AuditedStream}
use Rattle.stream_audit.specs.declared.finding.Finding.{Finding}
use Rattle.stream_audit.specs.Findings.{FindsOn, clean, faulty, full}
use Rattle.audit_laws.specs.Found.{IsFullAtMost}

pub found-on : (slot : ℕ) (stream : AuditedStream) → ((fault : TstdFault) → IsFault slot stream.kind stream.arrivals stream.removals fault → ⊥) → (found : Option Finding)
    → FindsOn slot stream found → IsFullAtMost found
found-on slot stream none found (faulty fault first is) = absurd (none fault first.there)
found-on slot stream none found (full at never busy is) = subst IsFullAtMost (sym is) refl
found-on slot stream none found (clean never busy is) = subst IsFullAtMost (sym is) tt
