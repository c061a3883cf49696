use Rattle.std.proofs.Common.{◌≡◌, ◌-◌, List, length, map, ap, sym, ◌∙◌, arith}
use Rattle.std.proofs.lemmas.List.{take_all}
use Rattle.slot_rule.specs.declared.sent.Sent.{Sent}
use Rattle.mux_writer.specs.Layout.{stream_pid}
use Rattle.output_laws.specs.SentOn.{payload_sent, payloads_sent_on, slots_between}
use Rattle.output_laws.proofs.OwnPids.{stream-not-null}
use Rattle.output_laws.proofs.SentItems.{queue-carries}
use Rattle.output_laws.proofs.streams.streams_read_as_sent.Goals as goal

pub returns-clause-carried : goal.returns-clause-carried
returns-clause-carried c table choice list layout slot pieces stream queue items is there are within sends gives =
    let all : slots_between list.rows 0 (length list.rows) ≡ list.rows = take_all (length list.rows - 0) list.rows (omega arith) in
    c.pids_read_as_sent.ensures.carried layout slot pieces list.rows (stream_pid layout stream) 0 (length list.rows) are
    (stream-not-null layout stream are.is_layout are.few within) (omega arith) (omega arith)
    ∙ ap (payloads_sent_on layout pieces (stream_pid layout stream)) all
    ∙ c.stream_pids_are_their_own.ensures layout pieces list.rows stream are within
    ∙ ap (λ (rows : List Sent). map (payload_sent layout pieces) rows) (c.packets_stand_in_order.ensures table choice stream queue list there is)
    ∙ queue-carries layout pieces stream queue items sends gives

pub returns-clause-gathered : goal.returns-clause-gathered
returns-clause-gathered c table choice list layout slot pieces stream queue items packets cuts is there are within sends gives carry same =
    c.packets_gathered_again.ensures.gathered packets cuts _ carry (returns-clause-carried c table choice list layout slot pieces stream queue items is there are within sends gives ∙ sym same)
