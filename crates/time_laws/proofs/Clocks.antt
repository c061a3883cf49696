-- The PCRs of an output stream are those of the programs' clocks.
use Rattle.std.proofs.Common.{◌≡◌, ℕ, zero, suc, ◌+◌, ◌-◌, ◌*◌, ◌/◌, ◌%◌, ◌<◌, ◌≤◌, ◌==◌, nat_le, Bool, true, false, cond, if◌then◌else◌}
use Rattle.std.proofs.Common.{List, length, get_or, map, take, Option, Some, None, refl, sym, ap, ◌∙◌, arith}
use Rattle.std.specs.Prelude.{option_and_then, slice_get, slice_index}
use Rattle.std.specs.List.{range_with_len}
use Rattle.std.proofs.Math.Nat.{suc-mul}
use Rattle.std.proofs.lemmas.Bool.{le-leb, leb-false, leb-true, lt-leb, ne_eqb}
use Rattle.std.proofs.lemmas.List.{get_or-map, length-map, length-take-le}
use Rattle.std.proofs.lemmas.Nat.{div-add-mod', mod-mul-add, mod_below}
use Rattle.std.proofs.lemmas.Option.{none-some, same_Some}
use Rattle.bit_lists.specs.Payload.{Payload}
use Rattle.ts_packets.specs.declared.adaptation_field.AdaptationField.{AdaptationField}
use Rattle.ts_packets.specs.Packet.{PacketRecord}
use Rattle.pcr_writer.specs.PcrPacket.{pcr_at}
use Rattle.version_table.specs.declared.table.Table.{Table}
use Rattle.version_table.specs.Table.{IsValidTable}
use Rattle.slot_rule.specs.declared.row.Row.{Row}
use Rattle.slot_rule.specs.declared.row.Row.TheVariants.{Empty}
use Rattle.slot_rule.specs.declared.slot_list.SlotList.{SlotList}
use Rattle.slot_rule.specs.declared.sent.Sent.{Sent}
use Rattle.slot_rule.specs.declared.sent.Sent.TheVariants.{Null, Pat, Pmt, Pcr, Video, Audio}
use Rattle.slot_rule.specs.Queues.{Queue, queues_of}
use Rattle.slot_rule.specs.SlotList.{IsSlotList, sent_of}
use Rattle.slot_rule.specs.Timetable.{period, reserved, reserved_at}
use Rattle.slot_rule.proofs.RuleRows.{FollowRule-at}
use Rattle.mux_writer.specs.declared.layout.Layout.{Layout}
use Rattle.mux_writer.specs.Layout.{video_pid}
use Rattle.mux_writer.specs.Output.{output_packets, packet_in, output_packet, payload_count, pid_of, sent_in, stuffing_field}
use Rattle.mux_writer.specs.Pieces.{Pieces}
use Rattle.parsing_laws.proofs.SlotsBegin.{long-period, row-is}
use Rattle.time_laws.specs.Clock.{IsClock, pcr_of}

-- ---- the packets of slots

packet-there : {A : Type 0} (f : ℕ → A) (from count n : ℕ) (found : A) → slice_get (map f (range_with_len from count)) n ≡ Some found → (n < count) × (f (from + n) ≡ found)
packet-there f from zero zero found there = absurd (none-some found there)
packet-there f from zero (suc n) found there = absurd (none-some found there)
packet-there f from (suc count) zero found there = (omega arith, ap f (let e : from + 0 ≡ from = omega arith in e) ∙ same_Some (f from) found there)
packet-there f from (suc count) (suc n) found there =
    let later = packet-there f (from + 1) count n found there in
    (omega (arith, later.0), ap f (let e : from + suc n ≡ from + 1 + n = omega arith in e) ∙ later.1)

there-packet : {A : Type 0} (f : ℕ → A) (from count n : ℕ) → n < count → slice_get (map f (range_with_len from count)) n ≡ Some (f (from + n))
there-packet f from zero n within = absurd (omega (arith, within))
there-packet f from (suc count) zero within = ap (λ (k : ℕ). Some (f k)) (let e : from ≡ from + 0 = omega arith in e)
there-packet f from (suc count) (suc n) within =
    there-packet f (from + 1) count n (omega (arith, within)) ∙ ap (λ (k : ℕ). Some (f k)) (let e : from + 1 + n ≡ from + suc n = omega arith in e)

-- ---- each PCR

stuffed : (full : Bool) (pcr : ℕ) → option_and_then (λ (field : AdaptationField). field.pcr) (if full then None else Some stuffing_field) ≡ Some pcr → ⊥
stuffed true pcr has = none-some pcr has
stuffed false pcr has = none-some pcr has

program-of : (p program : ℕ) → video_pid p ≡ video_pid program → p ≡ program
program-of p program same = omega (arith, same)

pcr-is : (layout : Layout) (slot : ℕ) (pieces : Pieces) (count n program pcr : ℕ) (sent : Sent) (packet : PacketRecord) → output_packet layout slot pieces count n sent ≡ packet
    → packet.pid ≡ video_pid program → pcr_of packet ≡ Some pcr → pcr ≡ pcr_at (slice_index layout.bases.items program) n slot
pcr-is layout slot pieces count n program pcr Null packet is pid has = absurd (none-some pcr (ap pcr_of is ∙ has))
pcr-is layout slot pieces count n program pcr Pat packet is pid has = absurd (none-some pcr (ap pcr_of is ∙ has))
pcr-is layout slot pieces count n program pcr (Pmt p) packet is pid has = absurd (none-some pcr (ap pcr_of is ∙ has))
pcr-is layout slot pieces count n program pcr (Pcr p) packet is pid has =
    let own : video_pid p ≡ video_pid program = ap (λ (q : PacketRecord). q.pid) is ∙ pid in
    let same : p ≡ program = program-of p program own in
    sym (same_Some (pcr_at (slice_index layout.bases.items p) n slot) pcr (ap pcr_of is ∙ has)) ∙ ap (λ (k : ℕ). pcr_at (slice_index layout.bases.items k) n slot) same
pcr-is layout slot pieces count n program pcr (Video stream unit piece) packet is pid has =
    absurd (stuffed (let b : Bool = length (let p : Payload = pieces stream unit piece in p.bytes) == 184 in b) pcr (ap pcr_of is ∙ has))
pcr-is layout slot pieces count n program pcr (Audio stream item) packet is pid has =
    absurd (stuffed (let b : Bool = length (let p : Payload = pieces stream item 0 in p.bytes) == 184 in b) pcr (ap pcr_of is ∙ has))

-- ---- one in each period

pcr-reserved : (programs program : ℕ) → program < programs → reserved_at programs (programs + 1 + program) ≡ Some (Pcr program)
pcr-reserved programs program within =
    let at : ℕ = programs + 1 + program in
    let pcr : Option Sent = cond (nat_le at (2 * programs)) (Some (Pcr (at - programs - 1))) None in
    let pmt : Option Sent = cond (nat_le at programs) (Some (Pmt (at - 1))) pcr in
    ap (λ (b : Bool). cond b (Some Pat) pmt) (ne_eqb at 0 (λ same. omega (arith, same)))
    ∙ ap (λ (b : Bool). cond b (Some (Pmt (at - 1))) pcr) (lt-leb at programs (omega arith))
    ∙ ap (λ (b : Bool). cond b (Some (Pcr (at - programs - 1))) None) (le-leb at (2 * programs) (omega (arith, within)))
    ∙ ap (λ (k : ℕ). Some (Pcr k)) (let e : at - programs - 1 ≡ program = omega arith in e)

-- a number with this rest among so many in a row
in-a-row : (from each rest : ℕ) → rest < each → (n : ℕ) × (from ≤ n) × (n < from + each) × (n % each ≡ rest)
in-a-row from each rest within = by_test (nat_le (from % each) rest) refl
  where
    split : from / each * each + from % each ≡ from
    split = div-add-mod' from each

    low : from % each < each
    low = mod_below from each (omega (arith, within))

    by_test : (test : Bool) → nat_le (from % each) rest ≡ test → (n : ℕ) × (from ≤ n) × (n < from + each) × (n % each ≡ rest)
    by_test true is =
        let le : from % each ≤ rest = leb-true (from % each) rest is in
        let n : ℕ = from / each * each + rest in (n, omega (arith, split, le), omega (arith, split, le, within), mod-mul-add (from / each) each rest within)
    by_test false is =
        let lt : rest < from % each = leb-false (from % each) rest is in
        let n : ℕ = suc (from / each) * each + rest in
        let e : suc (from / each) * each ≡ from / each * each + each = suc-mul (from / each) each in
        (n, omega (arith, split, lt, low, e), omega (arith, split, lt, e), mod-mul-add (suc (from / each)) each rest within)

sent-is : (table : Table) (choice : List ℕ) (list : SlotList) (is : IsSlotList table choice list) (n : ℕ) (sent : Sent) → n < length is.rows
    → reserved table.slot (length table.programs) n ≡ Some sent → sent_in list.rows n ≡ sent
sent-is table choice list is n sent within reserved_is =
    let queues : List Queue = queues_of table choice in
    let row : Row = get_or is.rows n Empty in
    let next = FollowRule-at table choice is.rows is.schedule.follows n Empty within in
    let size : length (take n is.rows) ≡ n = length-take-le n is.rows (omega (arith, within)) in
    let stands : sent_of queues row ≡ sent =
    row-is queues table.slot (length table.programs) (take n is.rows) row sent next (ap (reserved table.slot (length table.programs)) size ∙ reserved_is) in
    ap (λ (rows : List Sent). get_or rows n Null) is.rows_are ∙ get_or-map (sent_of queues) is.rows n Empty Null within ∙ stands

some-periods : (slots periods period : ℕ) → 0 < slots → slots ≡ periods * period → period ≤ slots
some-periods slots zero period some whole = absurd (omega (arith, some, whole))
some-periods slots (suc periods) period some whole = omega (arith, whole, suc-mul periods period)

-- ---- the clock of a program

pub clock-of : (layout : Layout) (pieces : Pieces) (table : Table) (choice : List ℕ) (list : SlotList) (program base : ℕ) → IsValidTable table → IsSlotList table choice list
    → program < length table.programs → slice_index layout.bases.items program ≡ base → base < 2576980377600
    → IsClock (output_packets layout table.slot pieces list.rows) table.slot (video_pid program) base
clock-of layout pieces table choice list program base valid is inside base_is below = record {
  below = below;
  each = λ n pcr has.
      let here = packet-there (packet_in layout table.slot pieces list.rows) 0 (length list.rows) n has.packet has.there in
      let at : packet_in layout table.slot pieces list.rows n ≡ has.packet = ap (packet_in layout table.slot pieces list.rows) (let e : n ≡ 0 + n = omega arith in e) ∙ here.1 in
      pcr-is layout table.slot pieces (payload_count layout (pid_of layout (sent_in list.rows n)) (take n list.rows)) n program pcr (sent_in list.rows n) has.packet at has.pid_is has.pcr_is
      ∙ ap (λ (b : ℕ). pcr_at b n table.slot) base_is;
  often = λ from room.
      let found = in-a-row from (period table.slot) (length table.programs + 1 + program) (omega (arith, long, inside, valid.few_programs)) in
      let n : ℕ = found.0 in
      let within : n < length list.rows = omega (arith, found.2, room, many) in
      let sent : sent_in list.rows n ≡ Pcr program =
      sent-is table choice list is n (Pcr program) (omega (arith, within, as_many))
      (ap (reserved_at (length table.programs)) found.3 ∙ pcr-reserved (length table.programs) program inside) in
      let count : ℕ = payload_count layout (pid_of layout (sent_in list.rows n)) (take n list.rows) in
      let packet : packet_in layout table.slot pieces list.rows (0 + n) ≡ output_packet layout table.slot pieces count n (Pcr program) =
      ap (packet_in layout table.slot pieces list.rows) (let e : 0 + n ≡ n = omega arith in e) ∙ ap (output_packet layout table.slot pieces count n) sent in (
        n,
        pcr_at (slice_index layout.bases.items program) n table.slot,
        found.1,
        found.2,
        record {
          packet = output_packet layout table.slot pieces count n (Pcr program);
          there = there-packet (packet_in layout table.slot pieces list.rows) 0 (length list.rows) n within ∙ ap (λ (p : PacketRecord). Some p) packet;
          pid_is = refl;
          pcr_is = refl;
        },
      );
  long = omega (arith, periods, many);
}
  where
    long : 27 ≤ period table.slot
    long = long-period table.slot (omega (arith, valid.slot_least)) (omega (arith, valid.slot_most))

    as_many : length list.rows ≡ length is.rows
    as_many = ap length is.rows_are ∙ length-map is.rows (sent_of (queues_of table choice))

    many : length (output_packets layout table.slot pieces list.rows) ≡ length list.rows
    many = length-map (range_with_len 0 (length list.rows)) (packet_in layout table.slot pieces list.rows) ∙ length-range 0 (length list.rows)
      where
        length-range : (from count : ℕ) → length (range_with_len from count) ≡ count
        length-range from zero = refl
        length-range from (suc count) = ap suc (length-range (from + 1) count)

    periods : period table.slot ≤ length list.rows
    periods = let all = some-periods list.slots is.count.passes.multiple.0 (period table.slot) is.count.passes.positive is.count.passes.multiple.1 in omega (arith, all, is.one_each, as_many)
