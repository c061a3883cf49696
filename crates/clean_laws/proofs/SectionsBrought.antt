-- What the packets of a stream bring to the decoder of a program's sections is what the rows of its slots bring.
use Rattle.std.proofs.Common.{◌≡◌, ℕ, ◌<◌, Bool, true, false, eqb, eq-eqb, ne_eqb, if◌then◌else◌, List, [], length, replicate, refl, sym, ap, ap₂, ◌∙◌, inl, inr, arith}
use Rattle.std.specs.Prelude.{◌||◌, slice_index_or}
use Rattle.std.specs.List.{AllZip}
use Rattle.std.proofs.lemmas.Bool.{cases_eq}
use Rattle.std.proofs.lemmas.Option.{slice_get_within}
use Rattle.ts_packets.specs.Packet.{PacketRecord}
use Rattle.tstd_model.specs.declared.decoder_input.Arrival.{Arrival}
use Rattle.slot_rule.specs.declared.sent.Sent.{Sent}
use Rattle.slot_rule.specs.declared.sent.Sent.TheVariants.{Null, Pat, Pmt, Pcr, Video as VideoPiece, Audio as AudioPiece}
use Rattle.slot_rule.specs.declared.row.Row.{Row}
use Rattle.slot_rule.specs.declared.row.Row.TheVariants.{Reserved, Carries, Empty}
use Rattle.slot_rule.specs.Queues.{Queue}
use Rattle.slot_rule.specs.SlotList.{kind_at}
use Rattle.tstd_bridge.specs.Sections.{section_packets, sections_from}
use Rattle.mux_writer.specs.declared.layout.Layout.{Layout}
use Rattle.mux_writer.specs.declared.packets.TheConstants.{NULL_PID, PAT_PID}
use Rattle.mux_writer.specs.Layout.{map_pid, stream_pid, video_pid}
use Rattle.mux_writer.specs.Output.{output_packet}
use Rattle.mux_writer.specs.Pieces.{Pieces}
use Rattle.mux_writer.specs.Tables.{pat_payload, pmt_payloads}
use Rattle.clean_laws.specs.Arrivals.{arrival_of, arrivals_of}
use Rattle.clean_laws.proofs.Slots.{IsQueuePacket, IsReserved, IsRowPacket}
use Rattle.clean_laws.proofs.Brought.{by-rows, if_there, pid-of}

-- sections fill their packets, and no elementary stream has the PID of sections
pub record AreSections (queues : List Queue) (layout : Layout) (programs : ℕ) : Type 0 where
  pub pat : length (pat_payload layout) ≡ 184
  pub pmts : (program : ℕ) → program < programs → length (slice_index_or (pmt_payloads layout) program []) ≡ 184
  pub no_pat : (stream : ℕ) → stream < length queues → stream_pid layout stream ≡ PAT_PID → ⊥
  pub no_map : (stream program : ℕ) → stream < length queues → program < programs → stream_pid layout stream ≡ map_pid program → ⊥

-- a packet of one of two PIDs
abbrev is_either : (first second : ℕ) → (pid : ℕ) → Bool
is_either first second pid = eqb pid first || eqb pid second

neither : (a b : Bool) → a ≡ false → b ≡ false → (a || b) ≡ false
neither a b first second = ap₂ (λ (x y : Bool). x || y) first second

second-alone : (a b : Bool) → a ≡ false → (a || b) ≡ b
second-alone a b first = ap (λ (x : Bool). x || b) first

brings-none : (test : Bool) (n h p : ℕ) → test ≡ false → if_there test n h p ≡ []
brings-none test n h p e = ap (λ (b : Bool). if_there b n h p) e

one-map : (b : Bool) (n p : ℕ) → p ≡ 184 → if_there b n 0 p ≡ replicate {A = Arrival} (if b then 1 else 0) (record { slot_no = n; header = 0; payload = 184 })
one-map true n p size = ap (λ (k : ℕ). if_there true n 0 k) size
one-map false n p size = refl

module _ (queues : List Queue) (layout : Layout) (slot programs : ℕ) (pieces : Pieces) (program : ℕ) where
  -- what a packet brings to the decoder of the program's sections
  abbrev to_sections : (n : ℕ) → PacketRecord → List Arrival
  to_sections n packet = arrival_of (is_either PAT_PID (map_pid program) packet.pid) n 0 packet

  -- what a row brings
  abbrev of_row : (n : ℕ) → Row → List Arrival
  of_row n row = replicate (section_packets program row) (record { slot_no = n; header = 0; payload = 184 })

  -- a PID of neither
  other-pid : (pid : ℕ) → (pid ≡ PAT_PID → ⊥) → (pid ≡ map_pid program → ⊥) → is_either PAT_PID (map_pid program) pid ≡ false
  other-pid pid no_pat no_map = neither (eqb pid PAT_PID) (eqb pid (map_pid program)) (ne_eqb pid PAT_PID no_pat) (ne_eqb pid (map_pid program) no_map)

  map-test : (p : ℕ) → is_either PAT_PID (map_pid program) (map_pid p) ≡ eqb p program
  map-test p =
      second-alone (eqb (map_pid p) PAT_PID) (eqb (map_pid p) (map_pid program)) (ne_eqb (map_pid p) PAT_PID (λ e. absurd (omega (arith, e))))
      ∙ elim (cases_eq p program) as (λ _. eqb (map_pid p) (map_pid program) ≡ eqb p program) [
        | inl same ↦ eq-eqb (map_pid p) (map_pid program) (ap map_pid same) ∙ sym (eq-eqb p program same)
        | inr apart ↦ ne_eqb (map_pid p) (map_pid program) (λ e. apart (omega (arith, e))) ∙ sym (ne_eqb p program apart)
      ]

  reserved-brings : (sent : Sent) (n count at : ℕ) → AreSections queues layout programs → IsReserved programs sent → to_sections n (output_packet layout slot pieces count at sent) ≡ of_row n (Reserved sent)
  reserved-brings Pat n count at are named = ap (λ (p : ℕ). if_there true n 0 p) are.pat
  reserved-brings (Pmt p) n count at are named =
      let size : ℕ = length (slice_index_or (pmt_payloads layout) p []) in
      ap (λ (b : Bool). if_there b n 0 (length (slice_index_or (pmt_payloads layout) p []))) (map-test p)
      ∙ one-map (eqb p program) n (length (slice_index_or (pmt_payloads layout) p [])) (are.pmts p named)
  reserved-brings (Pcr p) n count at are named =
      brings-none (is_either PAT_PID (map_pid program) (video_pid p)) n 0 0 (other-pid (video_pid p) (λ e. absurd (omega (arith, e))) (λ e. absurd (omega (arith, e))))
  reserved-brings Null n count at are named = absurd named
  reserved-brings (VideoPiece s item piece) n count at are named = absurd named
  reserved-brings (AudioPiece s item) n count at are named = absurd named

  row-brings : (n : ℕ) (row : Row) (packet : PacketRecord) → program < programs → AreSections queues layout programs → IsRowPacket programs queues layout slot pieces row packet
      → to_sections n packet ≡ of_row n row
  row-brings n (Reserved sent) packet within are of =
      ap (to_sections n) of.stands.packet_is ∙ reserved-brings sent n of.stands.count of.stands.slot_no are of.named
  row-brings n Empty packet within are of =
      ap (to_sections n) of.stands.packet_is
      ∙ brings-none (is_either PAT_PID (map_pid program) NULL_PID) n 0 184 (other-pid NULL_PID (λ e. absurd (omega (arith, e))) (λ e. absurd (omega (arith, e))))
  row-brings n (Carries other queued) packet within are of =
      let named : IsQueuePacket queues other queued = of.named in
      let there : other < length queues = slice_get_within queues other _ named.queue in
      let pid-is : packet.pid ≡ stream_pid layout other =
      ap (λ (p : PacketRecord). p.pid) of.stands.packet_is ∙ pid-of layout slot pieces of.stands.count of.stands.slot_no other (kind_at queues other) queued in
      brings-none (is_either PAT_PID (map_pid program) packet.pid) n 0 (length packet.payload)
      (other-pid packet.pid (λ e. are.no_pat other there (sym pid-is ∙ e)) (λ e. are.no_map other program there within (sym pid-is ∙ e)))

  -- the packets of the PAT and of a program's map bring what the rows bring to its sections
  pub sections-bring : (rows : List Row) (packets : List PacketRecord) → program < programs → AreSections queues layout programs
      → AllZip (IsRowPacket programs queues layout slot pieces) rows packets
      → arrivals_of (λ packet. is_either PAT_PID (map_pid program) packet.pid) (λ packet. 0) 0 packets ≡ sections_from 0 program rows
  unfolding sections_from
  sections-bring rows packets within are zip =
      by-rows (IsRowPacket programs queues layout slot pieces) (λ packet. is_either PAT_PID (map_pid program) packet.pid) (λ packet. 0) of_row (λ n rs. sections_from n program rs)
      (λ n row packet of. row-brings n row packet within are of) (λ n. refl) (λ n row rs. refl) 0 rows packets zip
