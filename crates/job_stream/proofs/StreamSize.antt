-- The stream of a job has the bytes of a packet for each of its slots.
use Rattle.std.proofs.Common.{◌≡◌, ℕ, zero, suc, ◌+◌, ◌*◌, ◌<◌, ◌≤◌, List, [], ◌∷◌, All, length, get_or, Some, refl, sym, ap, subst, ◌∙◌, arith, length-append}
use Rattle.std.specs.Prelude.{slice_get}
use Rattle.std.specs.List.{flat_map}
use Rattle.std.proofs.lemmas.List.{length-map}
use Rattle.std.proofs.lemmas.List.Elements.{All-from_get_or, All-get_or, All-head, All-map, All-tail, All-weaker}
use Rattle.std.proofs.lemmas.List.FromFn.{get_or-map-range_with_len, length-map-range_with_len}
use Rattle.std.proofs.lemmas.Option.{none-some, same_Some}
use Rattle.psi_tables.specs.declared.program_map.ProgramMap.{ProgramMap}
use Rattle.pcr_writer.specs.declared.pcr.TheConstants.{PCR_MODULUS}
use Rattle.ts_packets.specs.Packet.{PacketRecord, written}
use Rattle.ts_packets.proofs.WrittenPackets.{written-packet}
use Rattle.job_report.specs.declared.job.Job.{Job}
use Rattle.job_report.specs.declared.job.ProgramJob.{ProgramJob}
use Rattle.version_table.specs.declared.table.Table.{Table}
use Rattle.version_table.specs.Choice.{Fits}
use Rattle.slot_rule.specs.declared.sent.Sent.{Sent}
use Rattle.slot_rule.specs.declared.sent.Sent.TheVariants.{Null}
use Rattle.slot_rule.specs.declared.slot_list.SlotList.{SlotList}
use Rattle.slot_rule.specs.SlotList.{IsSlotList}
use Rattle.program_reader.specs.declared.program.Program.{Program}
use Rattle.version_maker.specs.declared.version.UnitVersion.{UnitVersion}
use Rattle.version_source.specs.Pieces.{HasPiece, pieces_of, stream_items}
use Rattle.version_source.specs.Versions.{AreAllVersions, ratios_of}
use Rattle.mux_writer.specs.declared.layout.Layout.{Layout}
use Rattle.mux_writer.specs.Layout.{IsLayout, IsOutputMap, with_output_pids}
use Rattle.mux_writer.specs.Output.{IsOfLayout, output_packets, packet_in}
use Rattle.mux_writer.specs.Pieces.{HasPayloadSize, Pieces}
use Rattle.mux_writer.proofs.Layouts.{goes-out}
use Rattle.mux_writer.proofs.Written.{packet-writable}
use Rattle.program_table.specs.Table.{IsTableOf}
use Rattle.job_stream.specs.Private.Outgoing.{CanGoOut}
use Rattle.job_stream.specs.Stream.{IsStreamIn, layout_of, output_maps}
use Rattle.job_stream.proofs.LayoutLemmas.{maps-count}
use Rattle.job_stream.proofs.PieceSizes.{pieces-sized}
use Rattle.job_stream.proofs.ReadPrograms.{AreReady}
use Rattle.job_stream.proofs.RowLemmas.{SlotsNameTable, one-row-each, rows-there}
use Rattle.program_table.proofs.Rows.{HaveOneList}

-- ---- the layout

maps-go-out : (first n : ℕ) (jobs : List ProgramJob) (programs : List Program) (found : ProgramMap) → first + length programs ≤ 8 → All CanGoOut programs
    → slice_get (output_maps first jobs programs) n ≡ Some found → IsOutputMap (first + n) found
maps-go-out first n [] programs found few out is = absurd (none-some found is)
maps-go-out first n (j ∷ js) [] found few out is = absurd (none-some found is)
maps-go-out first zero (j ∷ js) (p ∷ ps) found few out is =
    let goes : CanGoOut p = All-head CanGoOut p ps out in
    let here : IsOutputMap first (with_output_pids first j.number p.map) = goes-out first j.number p.map (omega (arith, few)) goes.writable goes.few goes.fits in
    let same : with_output_pids first j.number p.map ≡ found = same_Some (with_output_pids first j.number p.map) found is in
    let place : first ≡ first + 0 = omega arith in
    subst (λ (k : ℕ). IsOutputMap k found) place (subst (λ (m : ProgramMap). IsOutputMap first m) same here)
maps-go-out first (suc n) (j ∷ js) (p ∷ ps) found few out is =
    let place : (first + 1) + n ≡ first + suc n = omega arith in
    subst (λ (k : ℕ). IsOutputMap k found) place (maps-go-out (first + 1) n js ps found (omega (arith, few)) (All-tail CanGoOut p ps out) is)

-- the layout of a job's stream is one
pub is-layout : (job : Job) (programs : List Program) → length programs ≤ 8 → length job.programs ≡ length programs → All CanGoOut programs → IsLayout (layout_of job programs)
is-layout job programs few same out = record {
  maps = λ program found is.
      let place : 0 + program ≡ program = omega arith in
      let enough : 0 + length programs ≤ 8 = omega (arith, few) in
      subst (λ (k : ℕ). IsOutputMap k found) place (maps-go-out 0 program job.programs programs found enough out is);
  one_base_each = length-map programs (λ (p : Program). p.base) ∙ sym (maps-count 0 job.programs programs same);
  bases = All-map (λ (base : ℕ). base < PCR_MODULUS) (λ (p : Program). p.base) programs
      (All-weaker CanGoOut (λ (p : Program). p.base < PCR_MODULUS) (λ p goes. goes.base) programs out);
}

-- ---- its packets

abbrev HasPacketSize : PacketRecord → Type 0
HasPacketSize packet = length (written packet) ≡ 188

packets-sized : (layout : Layout) (has : (stream item piece : ℕ) → Type 0) (slot : ℕ) (pieces : Pieces) (rows : List Sent) → IsLayout layout → length layout.maps.items ≤ 8
    → ((stream item piece : ℕ) → has stream item piece → HasPayloadSize (length (pieces stream item piece).bytes)) → All (IsOfLayout layout has) rows
    → All HasPacketSize (output_packets layout slot pieces rows)
packets-sized layout has slot pieces rows is few sized all =
    All-from_get_or HasPacketSize (output_packets layout slot pieces rows) (packet_in layout slot pieces rows 0)
    (λ n within.
    let inside : n < length rows = omega (arith, within, length-map-range_with_len (packet_in layout slot pieces rows) 0 (length rows)) in
    let here : get_or (output_packets layout slot pieces rows) n (packet_in layout slot pieces rows 0) ≡ packet_in layout slot pieces rows n =
    get_or-map-range_with_len (packet_in layout slot pieces rows) 0 (length rows) n n (packet_in layout slot pieces rows 0) inside (omega arith) in
    subst HasPacketSize (sym here)
    (written-packet (packet_in layout slot pieces rows n)
    (packet-writable layout has slot pieces _ n (get_or rows n Null) is few sized (All-get_or (IsOfLayout layout has) rows n Null inside all))).size)

bytes-of : (packets : List PacketRecord) → All HasPacketSize packets → length (flat_map written packets) ≡ 188 * length packets
bytes-of [] sized = refl
bytes-of (p ∷ ps) sized =
    omega (arith, length-append (written p) (flat_map written ps), All-head HasPacketSize p ps sized, bytes-of ps (All-tail HasPacketSize p ps sized))

-- ---- the stream

-- the stream of a job has the bytes of a packet for each slot
pub stream-size : HaveOneList → (job : Job) (programs : List Program) (table : Table) (choice : List ℕ) (slots : SlotList) (stream : List ℕ) → length job.programs ≤ 8
    → AreReady job.programs programs → IsTableOf job programs table → Fits table choice → SlotsNameTable table choice slots → IsSlotList table choice slots
    → IsStreamIn job programs choice slots stream → length stream ≡ 188 * slots.slots
stream-size one job programs table choice slots stream few ready of fits named are is =
    let items = stream_items programs is.versions choice in
    let same : of.versions ≡ is.versions = one programs (ratios_of job.programs) of.versions is.versions of.are_versions is.are_versions in
    let has : (s i p : ℕ) → Type 0 = λ s i p. HasPiece items s i p in
    let rows : All (IsOfLayout (layout_of job programs) has) slots.rows =
    rows-there job programs table choice slots has of fits ready
    (λ s i p there. subst (λ (versions : List (List (List UnitVersion))). HasPiece (stream_items programs versions choice) s i p) same there) named in
    let layout : IsLayout (layout_of job programs) = is-layout job programs (omega (arith, few, ready.as_many)) ready.as_many ready.out in
    let maps : length (layout_of job programs).maps.items ≤ 8 = omega (arith, few, ready.as_many, maps-count 0 job.programs programs ready.as_many) in
    let packets : List PacketRecord = output_packets (layout_of job programs) job.slot (pieces_of items) slots.rows in
    let sized : All HasPacketSize packets =
    packets-sized (layout_of job programs) has job.slot (pieces_of items) slots.rows layout maps (pieces-sized programs is.versions choice ready.sendable) rows in
    let count : length packets ≡ length slots.rows = length-map-range_with_len (packet_in (layout_of job programs) job.slot (pieces_of items) slots.rows) 0 (length slots.rows) in
    ap length is.stream_is ∙ bytes-of packets sized ∙ ap (λ (n : ℕ). 188 * n) (count ∙ one-row-each table choice slots are)
