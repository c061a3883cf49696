-- Packets and their counters, one packet more.
use Rattle.std.proofs.Common.{
  ◌≡◌,
  ◌≢◌,
  ◌+◌,
  ◌%◌,
  ◌<◌,
  ◌==◌,
  ◌&&◌,
  nat_lt,
  ℕ,
  suc,
  Option,
  Some,
  None,
  replicate,
  ◌-◌,
  Bool,
  true,
  false,
  cond,
  List,
  [],
  ◌∷◌,
  ◌++◌,
  length,
  drop,
  refl,
  sym,
  ap,
  ◌∙◌,
  append_assoc,
  append-nil,
  length-append,
  eq-eqb,
  arith,
}
use Rattle.std.specs.List.{filter, flat_map}
use Rattle.std.proofs.lemmas.Bool.{lt-ltb, ne_eqb}
use Rattle.std.proofs.lemmas.List.{drop-replicate, length-replicate}
use Rattle.std.proofs.lemmas.List.Concat.{flat_map-append}
use Rattle.std.proofs.lemmas.List.Elements.{filter-append}
use Rattle.ts_packets.specs.declared.adaptation_field.AdaptationField.{AdaptationField}
use Rattle.ts_packets.specs.Packet.{PacketRecord, written}
use Rattle.psi_tables.specs.Sections.{section_payload}
use Rattle.program_maker.specs.declared.output.Carried.{Carried}
use Rattle.program_maker.specs.declared.output.Carried.TheVariants.{Video, Audio}
use Rattle.program_maker.specs.declared.output.Output.{Output}
use Rattle.program_maker.specs.Packets.{payload_packet, stuffing, section_packet, payloads_of, pcr_packet, counter_behind, counted}
use Rattle.program_maker.specs.Private.Output.{IsBehind, TakesCounter, pid_of}

abbrev with_counter : PacketRecord → ℕ → PacketRecord
with_counter p n = record p { counter = n }

counted-more : (before packets : List PacketRecord) (p : PacketRecord)
    → counted before (packets ++ p ∷ []) ≡ counted before packets ++ with_counter p (counter_behind (before ++ packets) p) ∷ []
counted-more before [] p = ap (λ (ps : List PacketRecord). with_counter p (counter_behind ps p) ∷ []) (sym (append-nil before))
counted-more before (q ∷ packets) p =
    ap (λ (ps : List PacketRecord). with_counter q (counter_behind before q) ∷ ps)
    (counted-more (before ++ q ∷ []) packets p
    ∙ ap (λ (ps : List PacketRecord). counted (before ++ q ∷ []) packets ++ with_counter p (counter_behind ps p) ∷ []) (append_assoc before (q ∷ []) packets))

one_or_none : (b : Bool) (p : PacketRecord) → length {A = PacketRecord} (cond b (p ∷ []) []) ≡ cond b 1 0
one_or_none true p = refl
one_or_none false p = refl

pub payloads-more : (pid : ℕ) (packets : List PacketRecord) (p : PacketRecord)
    → payloads_of pid (packets ++ p ∷ []) ≡ payloads_of pid packets + cond ((p.pid == pid) && nat_lt 0 (length p.payload)) 1 0
payloads-more pid packets p =
    let test : PacketRecord → Bool = λ packet. (packet.pid == pid) && nat_lt 0 (length packet.payload) in
    ap length (filter-append test packets (p ∷ [])) ∙ length-append (filter test packets) (filter test (p ∷ []))
    ∙ ap (λ n. payloads_of pid packets + n) (one_or_none (test p) p)

-- a packet more
pub behind-more : (packets : List PacketRecord) (old new : Output) (p : PacketRecord) → IsBehind packets old
    → new.bytes.items ≡ old.bytes.items ++ written (record p { counter = counter_behind packets p })
    → new.video ≡ payloads_of 0x101 (packets ++ p ∷ []) % 16 → new.audio ≡ payloads_of 0x102 (packets ++ p ∷ []) % 16 → IsBehind (packets ++ p ∷ []) new
behind-more packets old new p is bytes video audio = record {
  bytes_are =
      let q = with_counter p (counter_behind packets p) in
      bytes ∙ ap (λ xs. xs ++ written q) is.bytes_are
      ∙ ap (λ xs. flat_map written (counted [] packets) ++ xs) (sym (append-nil (written q)))
      ∙ sym (ap (flat_map written) (counted-more [] packets p) ∙ flat_map-append written (counted [] packets) (q ∷ []));
  video_is = video;
  audio_is = audio;
}

abbrev one_if : Bool → ℕ
one_if b = cond b 1 0

-- a packet with payload, of another PID than this one, or of this one
other-pid : (pid : ℕ) (packets : List PacketRecord) (p : PacketRecord) → p.pid ≢ pid → payloads_of pid (packets ++ p ∷ []) ≡ payloads_of pid packets
other-pid pid packets p other =
    let count = payloads-more pid packets p in
    let none : one_if ((p.pid == pid) && nat_lt 0 (length p.payload)) ≡ 0 = ap (λ (b : Bool). one_if (b && nat_lt 0 (length p.payload))) (ne_eqb p.pid pid other) in
    omega (arith, count, none)

this-pid : (pid : ℕ) (packets : List PacketRecord) (p : PacketRecord) → p.pid ≡ pid → 0 < length p.payload → payloads_of pid (packets ++ p ∷ []) ≡ payloads_of pid packets + 1
this-pid pid packets p same some =
    let count = payloads-more pid packets p in
    let one : one_if ((p.pid == pid) && nat_lt 0 (length p.payload)) ≡ 1 =
    ap (λ (b : Bool). one_if (b && nat_lt 0 (length p.payload))) (eq-eqb p.pid pid same) ∙ ap (λ (b : Bool). one_if b) (lt-ltb 0 (length p.payload) some) in
    omega (arith, count, one)

and-nothing : (b : Bool) → one_if (b && false) ≡ 0
and-nothing true = refl
and-nothing false = refl

no-payload : (pid : ℕ) (packets : List PacketRecord) (p : PacketRecord) → p.payload ≡ [] → payloads_of pid (packets ++ p ∷ []) ≡ payloads_of pid packets
no-payload pid packets p none =
    let count = payloads-more pid packets p in
    let zero_more : one_if ((p.pid == pid) && nat_lt 0 (length p.payload)) ≡ 0 =
    ap (λ (bytes : List ℕ). one_if ((p.pid == pid) && nat_lt 0 (length bytes))) none ∙ and-nothing (p.pid == pid) in
    omega (arith, count, zero_more)

payload-counter : (packets : List PacketRecord) (p : PacketRecord) → 0 < length p.payload → counter_behind packets p ≡ payloads_of p.pid packets % 16
payload-counter packets p some = ap (λ (b : Bool). cond b (payloads_of p.pid packets % 16) ((payloads_of p.pid packets + 15) % 16)) (lt-ltb 0 (length p.payload) some)

-- ---- a packet with payload

abbrev written_payload : ℕ → Bool → List ℕ → ℕ → List ℕ
written_payload pid start payload counter = written (record (payload_packet pid start payload) { counter = counter })

pub payload-behind : (carried : Carried) (packets : List PacketRecord) (old mid new : Output) (start : Bool) (payload : List ℕ) (counter : ℕ)
    → IsBehind packets old → 0 < length payload → TakesCounter carried old mid counter → mid.bytes.items ≡ old.bytes.items
    → new.bytes.items ≡ mid.bytes.items ++ written_payload (pid_of carried) start payload counter → new.video ≡ mid.video → new.audio ≡ mid.audio
    → IsBehind (packets ++ payload_packet (pid_of carried) start payload ∷ []) new
payload-behind Video packets old mid new start payload counter is some (c, next, stays) same bytes video audio =
    let p = payload_packet 0x101 start payload in
    let here = this-pid 0x101 packets p refl some in
    let there = other-pid 0x102 packets p (λ e. omega (arith, e)) in
    let vs = is.video_is in
    let counts : counter ≡ counter_behind packets p = (let e : counter ≡ payloads_of 0x101 packets % 16 = omega (arith, c, vs) in e) ∙ sym (payload-counter packets p some) in
    behind-more packets old new p is
    (bytes ∙ ap (λ xs. xs ++ written_payload 0x101 start payload counter) same ∙ ap (λ n. old.bytes.items ++ written_payload 0x101 start payload n) counts)
    (omega (arith, video, next, vs, here)) (audio ∙ stays ∙ is.audio_is ∙ ap (λ n. n % 16) (sym there))
payload-behind Audio packets old mid new start payload counter is some (c, next, stays) same bytes video audio =
    let p = payload_packet 0x102 start payload in
    let here = this-pid 0x102 packets p refl some in
    let there = other-pid 0x101 packets p (λ e. omega (arith, e)) in
    let vs = is.audio_is in
    let counts : counter ≡ counter_behind packets p = (let e : counter ≡ payloads_of 0x102 packets % 16 = omega (arith, c, vs) in e) ∙ sym (payload-counter packets p some) in
    behind-more packets old new p is
    (bytes ∙ ap (λ xs. xs ++ written_payload 0x102 start payload counter) same ∙ ap (λ n. old.bytes.items ++ written_payload 0x102 start payload n) counts)
    (video ∙ stays ∙ is.video_is ∙ ap (λ n. n % 16) (sym there)) (omega (arith, audio, next, vs, here))

-- ---- a PCR

pub pcr-behind : (packets : List PacketRecord) (old new : Output) (k counter : ℕ) → IsBehind packets old → counter ≡ (old.video % 16 + 15) % 16
    → new.bytes.items ≡ old.bytes.items ++ written (record (pcr_packet k) { counter = counter }) → new.video ≡ old.video → new.audio ≡ old.audio
    → IsBehind (packets ++ pcr_packet k ∷ []) new
pcr-behind packets old new k counter is c bytes video audio =
    let p = pcr_packet k in
    let vs = is.video_is in
    let counts : counter ≡ (payloads_of 0x101 packets + 15) % 16 = omega (arith, c, vs) in
    behind-more packets old new p is (bytes ∙ ap (λ n. old.bytes.items ++ written (record (pcr_packet k) { counter = n })) counts)
    (video ∙ is.video_is ∙ ap (λ n. n % 16) (sym (no-payload 0x101 packets p refl))) (audio ∙ is.audio_is ∙ ap (λ n. n % 16) (sym (no-payload 0x102 packets p refl)))

-- ---- the first packet of another PID

pub first-behind : (packets : List PacketRecord) (old new : Output) (p : PacketRecord) → IsBehind packets old → 0 < length p.payload → p.counter ≡ 0
    → payloads_of p.pid packets ≡ 0 → p.pid ≢ 0x101 → p.pid ≢ 0x102
    → new.bytes.items ≡ old.bytes.items ++ written p → new.video ≡ old.video → new.audio ≡ old.audio → IsBehind (packets ++ p ∷ []) new
first-behind packets old new p is some zero_is none not_video not_audio bytes video audio =
    let counts : p.counter ≡ counter_behind packets p = zero_is ∙ sym (payload-counter packets p some ∙ ap (λ n. n % 16) none) in
    behind-more packets old new p is (bytes ∙ ap (λ n. old.bytes.items ++ written (record p { counter = n })) counts)
    (video ∙ is.video_is ∙ ap (λ n. n % 16) (sym (other-pid 0x101 packets p not_video))) (audio ∙ is.audio_is ∙ ap (λ n. n % 16) (sym (other-pid 0x102 packets p not_audio)))

-- a packet as it is put
pub as-payload : (carried : Carried) (pid : ℕ) (start : Bool) (counter : ℕ) (field : Option AdaptationField) (payload : List ℕ)
    → pid ≡ pid_of carried → field ≡ stuffing (length payload)
    → written (record { pid = pid; start = start; counter = counter; field = field; payload = payload }) ≡ written_payload (pid_of carried) start payload counter
as-payload carried pid start counter field payload e f =
    ap (λ (n : ℕ). written (record { pid = n; start = start; counter = counter; field = field; payload = payload })) e
    ∙ ap (λ (g : Option AdaptationField). written (record { pid = pid_of carried; start = start; counter = counter; field = g; payload = payload })) f

-- a section fills its packet
pub section-size : (section : List ℕ) → length section < 184 → length (section_payload section) ≡ 184
section-size section few =
    let rest : List ℕ = replicate (184 - 1 - length section) 0xFF in
    let parts : length (section ++ rest) ≡ length section + length rest = length-append section rest in
    let filled : length rest ≡ 184 - 1 - length section = length-replicate (184 - 1 - length section) 0xFF in
    let one : length (section_payload section) ≡ suc (length (section ++ rest)) = refl in
    omega (arith, parts, filled, one, few)

pub section-as : (pid : ℕ) (section payload : List ℕ) → length section < 184 → payload ≡ section_payload section
    → written (record { pid = pid; start = true; counter = 0; field = None; payload = payload }) ≡ written (section_packet pid section)
section-as pid section payload few is =
    ap (λ (bytes : List ℕ). written (record { pid = pid; start = true; counter = 0; field = None; payload = bytes })) is
    ∙ ap (λ (field : Option AdaptationField). written (record { pid = pid; start = true; counter = 0; field = field; payload = section_payload section }))
    (sym (ap (λ (b : Bool). cond b None (Some (record { discontinuity = false; pcr = None }))) (eq-eqb (length (section_payload section)) 184 (section-size section few))))

-- what stays behind a section that was copied into its packet
pub behind-section : (n : ℕ) → n < 184 → drop {A = ℕ} (1 + n - 1) (replicate 183 0xFF) ≡ replicate (184 - 1 - n) 0xFF
behind-section n few = drop-replicate (1 + n - 1) 183 0xFF ∙ ap (λ k. replicate k 0xFF) (let e : 183 - (1 + n - 1) ≡ 184 - 1 - n = omega (arith, few) in e)
