-- The sections of PID 0 and of a map's PID, as an audit judges them.
use Rattle.std.proofs.Common.{◌≡◌, ℕ, ◌==◌, ◌||◌, List, [], map, Option, Some, ap, subst, ◌∙◌}
use Rattle.ts_packets.specs.Packet.{PacketRecord}
use Rattle.ts_packets.specs.TransportStream.{packets}
use Rattle.tstd_model.specs.declared.decoder_input.Arrival.{Arrival}
use Rattle.tstd_model.specs.declared.decoder_input.BufferKind.TheVariants.{System}
use Rattle.tstd_model.specs.declared.fault.TstdFault.{TstdFault}
use Rattle.tstd_model.specs.Faults.{IsFault}
use Rattle.layer_laws.specs.Counted.{AreCounted}
use Rattle.stream_audit.specs.declared.finding.Finding.{Finding}
use Rattle.stream_audit.specs.Findings.{FindsOn}
use Rattle.stream_audit.specs.Streams.{section_arrival, system_places, system_stream}
use Rattle.clean_laws.specs.Arrivals.{section_arrivals}
use Rattle.audit_laws.specs.Found.{IsFullAtMost}
use Rattle.audit_laws.proofs.Arrivals.{sections-are}
use Rattle.audit_laws.proofs.Found.{found-on}
use Rattle.audit_laws.proofs.Places.{PacketLaws, both-are}

sections-same : PacketLaws → (file : List ℕ) (list : List PacketRecord) (map_pid : ℕ) → packets file ≡ map Some list → AreCounted 0 list → AreCounted map_pid list
    → map section_arrival (system_places file map_pid) ≡ section_arrivals map_pid list
sections-same laws file list map_pid read pat counted =
    ap (map section_arrival) (both-are laws file list read 0 map_pid pat counted) ∙ sections-are (λ (packet : PacketRecord). (packet.pid == 0) || (packet.pid == map_pid)) 0 list

pub sections-found : PacketLaws → (file : List ℕ) (list : List PacketRecord) (slot map_pid : ℕ) (found : Option Finding) → packets file ≡ map Some list → AreCounted 0 list → AreCounted map_pid list
    → ((fault : TstdFault) → IsFault slot System (section_arrivals map_pid list) [] fault → ⊥) → FindsOn slot (system_stream file map_pid) found → IsFullAtMost found
sections-found laws file list slot map_pid found read pat counted none finds =
    found-on slot (system_stream file map_pid)
    (λ fault has. none fault (subst (λ (arrivals : List Arrival). IsFault slot System arrivals [] fault) (sections-same laws file list map_pid read pat counted) has)) found finds
