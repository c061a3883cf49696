-- What is found first on streams on each of which nothing is found but a transport buffer that isn't empty for a second.
use Rattle.std.proofs.Common.{ℕ, List, [], ◌∷◌, ◌++◌, Option, Some, None, sym, inl, inr}
use Rattle.std.proofs.lemmas.Option.{none-some}
use Rattle.stream_audit.specs.declared.audited_stream.AuditedStream.{AuditedStream}
use Rattle.stream_audit.specs.declared.finding.Finding.{Finding}
use Rattle.stream_audit.specs.Findings.{FindsFirst, FindsOn}
use Rattle.audit_laws.specs.Found.{IsFullAtMost}

-- nothing else is found on a stream
abbrev pub IsFullAtMostOn : (slot : ℕ) → AuditedStream → Type 0
IsFullAtMostOn slot stream = (found : Option Finding) → FindsOn slot stream found → IsFullAtMost found

-- nor on each of some streams
abbrev pub AreFullAtMost : (slot : ℕ) → List AuditedStream → Type 0
AreFullAtMost slot [] = Unit {0}
AreFullAtMost slot (stream ∷ streams) = IsFullAtMostOn slot stream × AreFullAtMost slot streams

pub one-behind : (slot : ℕ) (streams : List AuditedStream) (last : AuditedStream) → AreFullAtMost slot streams → IsFullAtMostOn slot last → AreFullAtMost slot (streams ++ last ∷ [])
one-behind slot [] last each of_last = (of_last, tt)
one-behind slot (s ∷ ss) last each of_last = (each.0, one-behind slot ss last each.1 of_last)

-- so nothing else is found first
pub first-found : (slot : ℕ) (streams : List AuditedStream) (found : Option Finding) → AreFullAtMost slot streams → FindsFirst slot streams found → IsFullAtMost found
first-found slot streams None each finds = tt
first-found slot [] (Some finding) each finds = absurd (none-some finding (sym finds))
first-found slot (s ∷ ss) (Some finding) each (inl finds) = each.0 (Some finding) finds
first-found slot (s ∷ ss) (Some finding) each (inr finds) = first-found slot ss (Some finding) each.1 finds.1
