-- What is found on streams, stream by stream.
use Rattle.std.proofs.Common.{◌≡◌, ℕ, ◌+◌, ◌<◌, inr, List, ◌∷◌, drop, get_or, length, Option, Some, None, sym, ap, ◌∙◌, subst}
use Rattle.std.proofs.lemmas.List.{at_drop_more}
use Rattle.tstd_model.specs.declared.decoder_input.Arrival.{Arrival}
use Rattle.tstd_model.specs.declared.decoder_input.BufferKind.{BufferKind}
use Rattle.tstd_model.specs.declared.decoder_input.Removal.{Removal}
use Rattle.tstd_model.specs.declared.fault.TstdFault.{TstdFault}
use Rattle.tstd_model.specs.Decoder.{leave_tb, tb_subticks, transport_buffer}
use Rattle.tstd_model.specs.Faults.{IsFirstOrNone}
use Rattle.stream_audit.specs.declared.audited_stream.AuditedStream.{AuditedStream}
use Rattle.stream_audit.specs.declared.finding.Finding.{Finding}
use Rattle.stream_audit.specs.Findings.{FindsFirst, FindsOn}
use Rattle.stream_audit.specs.NeverEmpty.{IsFirstBusy, buffer_with}

-- TB of a stream
pub busy-of : (slot : ℕ) (kind : BufferKind) (s : ℕ) (arrivals lent : List Arrival) (found : Option ℕ) → s ≡ tb_subticks kind → lent ≡ arrivals →
    IsFirstBusy (buffer_with slot s lent) found → IsFirstBusy (transport_buffer slot kind arrivals) found
unfolding leave_tb
busy-of slot kind s arrivals lent found s_is same first =
    subst (λ (n : ℕ). IsFirstBusy (buffer_with slot n arrivals) found) s_is (subst (λ (xs : List Arrival). IsFirstBusy (buffer_with slot s xs) found) same first)

-- what the judge says of lists that are lent
pub judged-of : (slot : ℕ) (kind : BufferKind) (arrivals lent : List Arrival) (removals taken : List Removal) (found : Option TstdFault) → lent ≡ arrivals → taken ≡ removals →
    IsFirstOrNone slot kind lent taken found → IsFirstOrNone slot kind arrivals removals found
judged-of slot kind arrivals lent removals taken found same same' first =
    subst (λ (rs : List Removal). IsFirstOrNone slot kind arrivals rs found) same' (subst (λ (xs : List Arrival). IsFirstOrNone slot kind xs taken found) same first)

-- the next of some streams
pub next-stream : (slot : ℕ) (streams : List AuditedStream) (k : ℕ) (d stream : AuditedStream) (found : Option Finding) → k < length streams → stream ≡ get_or streams k d →
    FindsFirst slot (stream ∷ drop (k + 1) streams) found → FindsFirst slot (drop k streams) found
next-stream slot streams k d stream found within is first =
    subst (λ (xs : List AuditedStream). FindsFirst slot xs found)
    (ap (λ (x : AuditedStream). x ∷ drop (k + 1) streams) is ∙ sym (at_drop_more (λ (xs : List AuditedStream). xs) streams k d within)) first

-- nothing is found on it
pub goes-on : (slot : ℕ) (stream : AuditedStream) (streams : List AuditedStream) (found : Option Finding) → FindsOn slot stream None → FindsFirst slot streams found →
    FindsFirst slot (stream ∷ streams) found
goes-on slot stream streams (Some finding) none first = inr (none, first)
goes-on slot stream streams None none first = (none, first)
