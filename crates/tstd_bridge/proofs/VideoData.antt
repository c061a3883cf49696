-- The data of a video that comes into MB, and when MB would pass it on if EB always had room.
use Rattle.std.proofs.Common.{◌≡◌, ℕ, ◌+◌, ◌-◌, ◌*◌, ◌≤◌, List, [], ◌∷◌, ◌++◌, length, max, sym, ap, ◌∙◌, append-nil, arith}
use Rattle.std.proofs.lemmas.List.{nil_from_length}
use Rattle.stream_constants.specs.declared.packets.TheConstants.{PACKET_BYTES}
use Rattle.stream_constants.specs.declared.decoder.TheConstants.{VIDEO_TB_SUBTICKS, MB_SUBTICKS}
use Rattle.slot_rule.specs.declared.queue_kind.QueueKind.TheVariants.{Video}
use Rattle.slot_rule.specs.declared.row.Row.{Row}
use Rattle.slot_rule.specs.Buffers.{packets_in, payload_in}
use Rattle.tstd_model.specs.declared.decoder_input.Arrival.{Arrival}
use Rattle.tstd_model.specs.Instants.{spaced, departures}
use Rattle.tstd_model.specs.PacketBytes.{HasHeaderWithin, byte_subticks, parts_of, parts, is_data, kept, arrives}
use Rattle.tstd_model.specs.Private.Server.{last_departure, Spaced}
use Rattle.tstd_model.proofs.Counts.{Spaced-rises}
use Rattle.tstd_model.proofs.RisingLaws.{kept-rises, length-spaced}
use Rattle.tstd_model.proofs.Server.{departures-append, departures-spaced, last_departure-append, length-departures}
use Rattle.tstd_bridge.specs.Arrivals.{Headers, header_in, arrivals_from}
use Rattle.tstd_bridge.proofs.ArrivalRows.{arrival_of, arrivals_from-none, arrivals_from-one, arrives-push, bytes_come}
use Rattle.tstd_bridge.proofs.AudioB.{HasParts}
use Rattle.tstd_bridge.proofs.KeptBytes.{departures-from, kept-append, length-kept_data, parts-push}
use Rattle.tstd_bridge.proofs.MbFree.{mb_free}
use Rattle.tstd_bridge.proofs.MbHeaders.{data_soon}
use Rattle.tstd_bridge.proofs.TbWork.{tb_free}

-- ---- the data that comes into MB
abbrev pub data_of : (slot : ℕ) → List Arrival → List ℕ
data_of slot arrivals = kept is_data (parts arrivals) (departures VIDEO_TB_SUBTICKS 0 (arrives slot arrivals))

-- of the packets in the rows
abbrev pub data_goes : (slot stream program vbv : ℕ) → Headers → List Row → List ℕ
data_goes slot stream program vbv headers rows = data_of slot (arrivals_from 0 stream (Video program vbv) headers rows)

-- of a packet after the rows
abbrev pub packet_data : (slot stream program vbv : ℕ) → Headers → List Row → Row → List ℕ
packet_data slot stream program vbv headers rows row =
    kept is_data (parts_of (arrival_of stream (length rows) headers row))
    (departures VIDEO_TB_SUBTICKS (tb_free slot stream (Video program vbv) headers rows) (spaced (PACKET_BYTES * length rows * byte_subticks slot) (byte_subticks slot) PACKET_BYTES))

pub data_goes-none : (slot stream program vbv : ℕ) (headers : Headers) (rows : List Row) (row : Row) → packets_in stream (Video program vbv) row ≡ 0
    → data_goes slot stream program vbv headers (rows ++ row ∷ []) ≡ data_goes slot stream program vbv headers rows
data_goes-none slot stream program vbv headers rows row none = ap (λ arrivals. data_of slot arrivals) (arrivals_from-none stream (Video program vbv) headers rows row none)

pub data_goes-one : (slot stream program vbv : ℕ) (headers : Headers) (rows : List Row) (row : Row) → packets_in stream (Video program vbv) row ≡ 1
    → HasParts slot stream (Video program vbv) headers rows
    → data_goes slot stream program vbv headers (rows ++ row ∷ []) ≡ data_goes slot stream program vbv headers rows ++ packet_data slot stream program vbv headers rows row
data_goes-one slot stream program vbv headers rows row one has =
    let arrivals = arrivals_from 0 stream (Video program vbv) headers rows in
    let arrival = arrival_of stream (length rows) headers row in
    let come = bytes_come slot stream (Video program vbv) headers rows in
    let own = spaced (PACKET_BYTES * length rows * byte_subticks slot) (byte_subticks slot) PACKET_BYTES in
    let t = VIDEO_TB_SUBTICKS in
    let as_many : length (parts arrivals) ≡ length (departures t 0 come) = has ∙ sym (length-departures t 0 come) in
    rw (arrivals_from-one stream (Video program vbv) headers rows row one, parts-push arrivals arrival, arrives-push slot arrivals arrival, departures-append t 0 come own)
    (kept-append is_data (parts arrivals) (parts_of arrival) (departures t 0 come) (departures t (tb_free slot stream (Video program vbv) headers rows) own) as_many)

pub length-packet_data : (slot stream program vbv : ℕ) (headers : Headers) (rows : List Row) (row : Row) → HasHeaderWithin (arrival_of stream (length rows) headers row)
    → length (packet_data slot stream program vbv headers rows row) ≡ payload_in stream row - header_in stream headers row
length-packet_data slot stream program vbv headers rows row fits =
    let start = PACKET_BYTES * length rows * byte_subticks slot in
    let come = spaced start (byte_subticks slot) PACKET_BYTES in
    let tb = tb_free slot stream (Video program vbv) headers rows in
    length-kept_data (arrival_of stream (length rows) headers row) (departures VIDEO_TB_SUBTICKS tb come) fits
    (length-departures VIDEO_TB_SUBTICKS tb come ∙ length-spaced start (byte_subticks slot) PACKET_BYTES)

pub packet_data-rises : (slot stream program vbv : ℕ) (headers : Headers) (rows : List Row) (row : Row)
    → Spaced 0 (PACKET_BYTES * length rows * byte_subticks slot) (packet_data slot stream program vbv headers rows row)
packet_data-rises slot stream program vbv headers rows row =
    let start = PACKET_BYTES * length rows * byte_subticks slot in
    let come = spaced start (byte_subticks slot) PACKET_BYTES in
    let tb = tb_free slot stream (Video program vbv) headers rows in
    kept-rises is_data start (parts_of (arrival_of stream (length rows) headers row)) (departures VIDEO_TB_SUBTICKS tb come)
    (departures-from VIDEO_TB_SUBTICKS tb start (byte_subticks slot) PACKET_BYTES)

-- ---- when MB would pass it on
-- where EB always has room
abbrev pub free_moves : (slot stream program vbv : ℕ) → Headers → List Row → List ℕ
free_moves slot stream program vbv headers rows = departures MB_SUBTICKS 0 (data_goes slot stream program vbv headers rows)

abbrev pub moves_free : (slot stream program vbv : ℕ) → Headers → List Row → ℕ
moves_free slot stream program vbv headers rows = last_departure MB_SUBTICKS 0 (data_goes slot stream program vbv headers rows)

abbrev pub packet_moves : (slot stream program vbv : ℕ) → Headers → List Row → Row → List ℕ
packet_moves slot stream program vbv headers rows row = departures MB_SUBTICKS (moves_free slot stream program vbv headers rows) (packet_data slot stream program vbv headers rows row)

-- not later than if PES headers took as long
pub moves_free-soon : (slot stream program vbv : ℕ) (headers : Headers) (rows : List Row) → moves_free slot stream program vbv headers rows ≤ mb_free slot stream program vbv headers rows
moves_free-soon slot stream program vbv headers rows =
    let arrivals = arrivals_from 0 stream (Video program vbv) headers rows in
    data_soon MB_SUBTICKS 0 0 (parts arrivals) (departures VIDEO_TB_SUBTICKS 0 (arrives slot arrivals)) (omega arith)

pub free_moves-one : (slot stream program vbv : ℕ) (headers : Headers) (rows : List Row) (row : Row) → packets_in stream (Video program vbv) row ≡ 1
    → HasParts slot stream (Video program vbv) headers rows
    → free_moves slot stream program vbv headers (rows ++ row ∷ []) ≡ free_moves slot stream program vbv headers rows ++ packet_moves slot stream program vbv headers rows row
free_moves-one slot stream program vbv headers rows row one has =
    ap (λ comes. departures MB_SUBTICKS 0 comes) (data_goes-one slot stream program vbv headers rows row one has)
    ∙ departures-append MB_SUBTICKS 0 (data_goes slot stream program vbv headers rows) (packet_data slot stream program vbv headers rows row)

pub moves_free-one : (slot stream program vbv : ℕ) (headers : Headers) (rows : List Row) (row : Row) → packets_in stream (Video program vbv) row ≡ 1
    → HasParts slot stream (Video program vbv) headers rows
    → moves_free slot stream program vbv headers (rows ++ row ∷ [])
    ≡ last_departure MB_SUBTICKS (moves_free slot stream program vbv headers rows) (packet_data slot stream program vbv headers rows row)
moves_free-one slot stream program vbv headers rows row one has =
    ap (λ comes. last_departure MB_SUBTICKS 0 comes) (data_goes-one slot stream program vbv headers rows row one has)
    ∙ last_departure-append MB_SUBTICKS 0 (data_goes slot stream program vbv headers rows) (packet_data slot stream program vbv headers rows row)

departures-low : (s l low : ℕ) (comes : List ℕ) → Spaced 0 low comes → Spaced 0 low (departures s l comes)
unfolding departures
departures-low s l low [] rise = tt
departures-low s l low (come ∷ comes) rise =
    (omega (arith, rise.0), Spaced-rises s (max come l + s) (max come l + s) (departures s (max come l + s) comes) (omega arith) (departures-spaced s (max come l + s) comes))

pub packet_moves-rise : (slot stream program vbv : ℕ) (headers : Headers) (rows : List Row) (row : Row)
    → Spaced 0 (PACKET_BYTES * length rows * byte_subticks slot) (packet_moves slot stream program vbv headers rows row)
packet_moves-rise slot stream program vbv headers rows row =
    departures-low MB_SUBTICKS (moves_free slot stream program vbv headers rows) (PACKET_BYTES * length rows * byte_subticks slot) (packet_data slot stream program vbv headers rows row)
    (packet_data-rises slot stream program vbv headers rows row)

pub data_goes-pcr : (slot stream program vbv : ℕ) (headers : Headers) (rows : List Row) (row : Row) → packets_in stream (Video program vbv) row ≡ 1
    → HasParts slot stream (Video program vbv) headers rows
    → HasHeaderWithin (arrival_of stream (length rows) headers row) → payload_in stream row ≡ 0
    → data_goes slot stream program vbv headers (rows ++ row ∷ []) ≡ data_goes slot stream program vbv headers rows
data_goes-pcr slot stream program vbv headers rows row one has fits none =
    let own = packet_data slot stream program vbv headers rows row in
    let none' : length own ≡ 0 = omega (arith, length-packet_data slot stream program vbv headers rows row fits, none) in
    data_goes-one slot stream program vbv headers rows row one has
    ∙ ap (λ more. data_goes slot stream program vbv headers rows ++ more) (nil_from_length (packet_data slot stream program vbv headers rows row) none')
    ∙ append-nil (data_goes slot stream program vbv headers rows)
