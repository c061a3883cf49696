-- What is found on streams by the model of the decoder, and which finding is the first (ISO/IEC 13818-1, 2.4.2; the order of the findings is this project's).
use Rattle.std.specs.Prelude.{◌≡◌, ◌⊎◌, ℕ, ◌<◌, ◌≤◌, ◌^◌, List, [], ◌∷◌, length, map, All, Option, Some, None}
use Rattle.std.specs.List.Sorted.{IsStrictlyIncreasing, IsNonDecreasing}
use Rattle.tstd_model.specs.Decoder.{IsInLevel, transport_buffer}
use Rattle.tstd_model.specs.PacketBytes.{HasHeaderWithin}
use Rattle.tstd_model.specs.declared.fault.TstdFault.{TstdFault}
use Rattle.tstd_model.specs.declared.fault.TstdFault.TheVariants.{Overflow, Late, Old}
use Rattle.tstd_model.specs.Faults.{IsFirstOrNone}
use Rattle.stream_audit.specs.declared.audited_stream.AuditedStream.{AuditedStream}
use Rattle.stream_audit.specs.declared.finding.FaultName.TheVariants as names
use Rattle.stream_audit.specs.declared.finding.Finding.{Finding}
use Rattle.stream_audit.specs.NeverEmpty.{IsFirstBusy}

-- ---- what can be judged

-- Packets come in slots that rise, their headers within their payloads, and removals don't fall back; a video's vbv buffer is one of Main level.
pub record CanBeJudged (stream : AuditedStream) : Type 0 where
  pub in_level : IsInLevel stream.kind
  pub slots_rise : IsStrictlyIncreasing (map (λ arrival. arrival.slot_no) stream.arrivals)
  pub headers_within : All HasHeaderWithin stream.arrivals
  pub few : length stream.removals < 2 ^ 32
  pub dues_rise : IsNonDecreasing (map (λ removal. removal.due) stream.removals)
  pub dues_fit : All (λ removal. removal.due ≤ 2 ^ 53) stream.removals

-- ---- one stream

-- a fault of a decoder, on the PID of its stream
abbrev pub finding_of : (pid : ℕ) → TstdFault → Finding
finding_of pid (Overflow at) = record { pid = pid; fault = names.Overflow; at = at }
finding_of pid (Old at) = record { pid = pid; fault = names.Old; at = at }
finding_of pid (Late removal) = record { pid = pid; fault = names.Late; at = removal }

-- TB is never empty for a second, up to this instant
abbrev pub full_finding : (pid : ℕ) → ℕ → Finding
full_finding pid at = record { pid = pid; fault = names.Full; at = at }

-- What is found on a stream: the first fault of its decoder; where it has none, the first instant at which its TB hasn't been empty for a second; or nothing.
pub data FindsOn (slot : ℕ) (stream : AuditedStream) (found : Option Finding) : Type 0 where
  faulty : (fault : TstdFault) → IsFirstOrNone slot stream.kind stream.arrivals stream.removals (Some fault) → found ≡ Some (finding_of stream.pid fault) → FindsOn slot stream found
  full : (at : ℕ) → IsFirstOrNone slot stream.kind stream.arrivals stream.removals None → IsFirstBusy (transport_buffer slot stream.kind stream.arrivals) (Some at)
      → found ≡ Some (full_finding stream.pid at) → FindsOn slot stream found
  clean : IsFirstOrNone slot stream.kind stream.arrivals stream.removals None → IsFirstBusy (transport_buffer slot stream.kind stream.arrivals) None → found ≡ None
      → FindsOn slot stream found

-- what is found first on streams, each of which is looked at before the next one
abbrev pub FindsFirst : (slot : ℕ) → List AuditedStream → Option Finding → Type 0
FindsFirst slot [] found = found ≡ None
FindsFirst slot (stream ∷ streams) (Some finding) = FindsOn slot stream (Some finding) ⊎ (FindsOn slot stream None × FindsFirst slot streams (Some finding))
FindsFirst slot (stream ∷ streams) None = FindsOn slot stream None × FindsFirst slot streams None

-- a reference that is off goes before what is found on streams
abbrev pub FindsBy : (slot pcr_pid : ℕ) → (off : Option ℕ) → List AuditedStream → Option Finding → Type 0
FindsBy slot pcr_pid (Some at) streams found = found ≡ Some (record { pid = pcr_pid; fault = names.Pcr; at = at })
FindsBy slot pcr_pid None streams found = FindsFirst slot streams found
