-- The clock that an audit reads of a stream whose PCRs are those of one clock: it is that clock, and no PCR is off.
use Rattle.std.proofs.Common.{◌≡◌, ℕ, zero, suc, ◌+◌, ◌-◌, ◌*◌, ◌%◌, ◌<◌, ◌==◌, nat_lt, Bool, true, false, cond, List, [], ◌∷◌, All, length, map, Option, Some, None, refl, sym, ap, ◌∙◌, arith}
use Rattle.std.specs.Prelude.{slice_get}
use Rattle.std.specs.List.{find}
use Rattle.std.specs.Option.{option_map}
use Rattle.std.proofs.lemmas.Bool.{eq-eqb, eqb-true}
use Rattle.std.proofs.lemmas.List.Elements.{All-cons, All-head, All-nil, All-tail}
use Rattle.std.proofs.lemmas.Option.{none-some, same_Some}
use Rattle.ts_packets.specs.Packet.{PacketRecord}
use Rattle.ts_packets.specs.TransportStream.{packets}
use Rattle.pcr_writer.specs.PcrPacket.{arrival_ticks, pcr_at}
use Rattle.layer_laws.specs.Counted.{AreCounted}
use Rattle.ts_demux.specs.declared.pid_places.Place.{Place}
use Rattle.ts_demux.specs.PidPlaces.{places_on}
use Rattle.stream_audit.specs.Clock.{PlacedPcr, apart, clock_of, first_off, is_off, pcrs_of, ticks_from}
use Rattle.time_laws.specs.Clock.{HasPcrIn, IsClock}
use Rattle.audit_laws.proofs.Places.{PacketLaws, own_pcr, place_by, places-are, places_by}

-- ---- references that a clock gives

-- a reference is what the clock with this value at the first byte shows
abbrev pub IsOf : (slot base : ℕ) → PlacedPcr → Type 0
IsOf slot base reference = reference.pcr ≡ pcr_at base reference.packet slot

back : (base ticks : ℕ) → base < 2576980377600 → ((base + ticks) % 2576980377600 + (2576980377600 - ticks % 2576980377600)) % 2576980377600 ≡ base
back base ticks below = omega (arith, below)

-- the clock is known from each of them
zero-of : (slot base : ℕ) (reference : PlacedPcr) → base < 2576980377600 → IsOf slot base reference → ticks_from (arrival_ticks slot reference.packet 10) reference.pcr ≡ base
zero-of slot base reference below of =
    ap (λ (pcr : ℕ). ticks_from (arrival_ticks slot reference.packet 10) pcr) of ∙ back base (arrival_ticks slot reference.packet 10) below

none-apart : (pcr : ℕ) → apart pcr pcr ≡ 0
none-apart pcr = let same : (pcr + (2576980377600 - pcr % 2576980377600)) % 2576980377600 ≡ 0 = omega arith in omega (arith, same)

-- none of them is off
not-off : (slot base : ℕ) (reference : PlacedPcr) → IsOf slot base reference → is_off slot base reference ≡ false
not-off slot base reference of =
    ap (λ (pcr : ℕ). nat_lt 13 (apart (pcr_at base reference.packet slot) pcr)) of ∙ ap (λ (k : ℕ). nat_lt 13 k) (none-apart (pcr_at base reference.packet slot))

none-off : (slot base : ℕ) (references : List PlacedPcr) → All (IsOf slot base) references → find (is_off slot base) references ≡ None
none-off slot base [] all = refl
none-off slot base (reference ∷ more) all =
    rw (not-off slot base reference (All-head (IsOf slot base) reference more all)) (none-off slot base more (All-tail (IsOf slot base) reference more all))

-- ---- those of a stream

-- each packet of the PID that has a PCR has the clock's, the first packet having a number
abbrev pub GiveClock : (slot pid base from : ℕ) → List PacketRecord → Type 0
GiveClock slot pid base from list =
    (k pcr : ℕ) (packet : PacketRecord) → slice_get list k ≡ Some packet → packet.pid ≡ pid → own_pcr packet ≡ Some pcr → pcr ≡ pcr_at base (from + k) slot

-- the packets of a PID, the first packet with a number
abbrev on_pid : (pid from : ℕ) → List PacketRecord → List Place
on_pid pid from list = places_by (λ (packet : PacketRecord). packet.pid == pid) from list

abbrev references_of : (pid from : ℕ) → List PacketRecord → List PlacedPcr
references_of pid from list = pcrs_of (places_by (λ (packet : PacketRecord). packet.pid == pid) from list)

all-of : (slot pid base from : ℕ) (list : List PacketRecord) → GiveClock slot pid base from list → All (IsOf slot base) (references_of pid from list)
all-of slot pid base from [] give = All-nil (IsOf slot base)
all-of slot pid base from (packet ∷ more) give =
    by_test (packet.pid == pid) refl
    (all-of slot pid base (from + 1) more
    (λ k pcr other there own has. give (suc k) pcr other there own has ∙ ap (λ (n : ℕ). pcr_at base n slot) (let e : from + suc k ≡ from + 1 + k = omega arith in e)))
  where
    by_pcr : (pcr : Option ℕ) → own_pcr packet ≡ pcr → packet.pid ≡ pid → All (IsOf slot base) (references_of pid (from + 1) more)
        → All (IsOf slot base) (pcrs_of (place_by from packet ∷ on_pid pid (from + 1) more))
    by_pcr None has own rest = rw has rest
    by_pcr (Some pcr) has own rest = rw has
        (All-cons (IsOf slot base) (record { packet = from; pcr = pcr }) (references_of pid (from + 1) more)
        (give 0 pcr packet refl own has ∙ ap (λ (n : ℕ). pcr_at base n slot) (let e : from + 0 ≡ from = omega arith in e)) rest)

    by_test : (b : Bool) → (packet.pid == pid) ≡ b → All (IsOf slot base) (references_of pid (from + 1) more)
        → All (IsOf slot base) (pcrs_of (cond (packet.pid == pid) (place_by from packet ∷ on_pid pid (from + 1) more) (on_pid pid (from + 1) more)))
    by_test true is rest = rw is (by_pcr (own_pcr packet) refl (eqb-true packet.pid pid is) rest)
    by_test false is rest = rw is rest

-- one that is there is among them
some-of : (pid from k pcr : ℕ) (list : List PacketRecord) (packet : PacketRecord) → slice_get list k ≡ Some packet → packet.pid ≡ pid → own_pcr packet ≡ Some pcr
    → references_of pid from list ≡ [] → ⊥
some-of pid from k pcr [] packet there own has none = none-some packet there
some-of pid from zero pcr (first ∷ more) packet there own has none =
    let same : first ≡ packet = same_Some first packet there in
    let first-own : first.pid ≡ pid = ap (λ (p : PacketRecord). p.pid) same ∙ own in
    let first-has : own_pcr first ≡ Some pcr = ap own_pcr same ∙ has in
    let more-are : List PlacedPcr = references_of pid (from + 1) more in
    let is : references_of pid from (first ∷ more) ≡ record { packet = from; pcr = pcr } ∷ references_of pid (from + 1) more = rw (eq-eqb first.pid pid first-own, first-has) refl in
    let size : suc (length more-are) ≡ 0 = ap (length {A = PlacedPcr}) (sym is ∙ none) in
    absurd (omega (arith, size))
some-of pid from (suc k) pcr (first ∷ more) packet there own has none = by_test (first.pid == pid) refl (some-of pid (from + 1) k pcr more packet there own has) none
  where
    by_pcr : (found : Option ℕ) → own_pcr first ≡ found → (pcrs_of (on_pid pid (from + 1) more) ≡ [] → ⊥)
        → pcrs_of (place_by from first ∷ on_pid pid (from + 1) more) ≡ [] → ⊥
    by_pcr None is rest nothing =
        let same : pcrs_of (place_by from first ∷ on_pid pid (from + 1) more)
        ≡ pcrs_of (on_pid pid (from + 1) more) = rw is refl in
        rest (sym same ∙ nothing)
    by_pcr (Some value) is rest nothing =
        let same : pcrs_of (place_by from first ∷ on_pid pid (from + 1) more)
        ≡ record { packet = from; pcr = value } ∷ pcrs_of (on_pid pid (from + 1) more) = rw is refl in
        let size : suc (length (pcrs_of (on_pid pid (from + 1) more))) ≡ 0 = ap (length {A = PlacedPcr}) (sym same ∙ nothing) in
        omega (arith, size)

    by_value : (b : Bool) → (pcrs_of (on_pid pid (from + 1) more) ≡ [] → ⊥)
        → pcrs_of (cond b (place_by from first ∷ on_pid pid (from + 1) more) (on_pid pid (from + 1) more)) ≡ [] → ⊥
    by_value true rest left = by_pcr (own_pcr first) refl rest left
    by_value false rest left = rest left

    by_test : (b : Bool) → (first.pid == pid) ≡ b → (pcrs_of (on_pid pid (from + 1) more) ≡ [] → ⊥)
        → pcrs_of (cond (first.pid == pid) (place_by from first ∷ on_pid pid (from + 1) more) (on_pid pid (from + 1) more)) ≡ [] → ⊥
    by_test b is rest nothing =
        by_value b rest
        (sym (ap (λ (c : Bool). pcrs_of (cond c (place_by from first ∷ on_pid pid (from + 1) more)
        (on_pid pid (from + 1) more))) is) ∙ nothing)

-- ---- the clock

first-zero : (slot base : ℕ) (references : List PlacedPcr) → base < 2576980377600 → All (IsOf slot base) references → (references ≡ [] → ⊥)
    → option_map (λ (first : PlacedPcr). ticks_from (arrival_ticks slot first.packet 10) first.pcr) (slice_get references 0) ≡ Some base
first-zero slot base [] below all some = absurd (some refl)
first-zero slot base (first ∷ more) below all some = ap (λ (zero_at : ℕ). Some zero_at) (zero-of slot base first below (All-head (IsOf slot base) first more all))

-- The clock of a file of counted packets, whose PCRs on a PID are those of a clock.
pub record HasClock (file : List ℕ) (slot pid base : ℕ) : Type 0 where
  pub zero_is : clock_of slot (places_on file pid) ≡ Some base
  pub off_is : first_off slot base (places_on file pid) ≡ None

module _ (laws : PacketLaws) (file : List ℕ) (list : List PacketRecord) (slot pid base : ℕ) (read : packets file
    ≡ map Some list) (counted : AreCounted pid list) (clock : IsClock list slot pid base) where
  give : GiveClock slot pid base 0 list
  give = λ k pcr packet there own has.
      clock.each k pcr (record { packet = packet; there = there; pid_is = own; pcr_is = has }) ∙ ap (λ (n : ℕ). pcr_at base n slot) (let e : k ≡ 0 + k = omega arith in e)

  all : All (IsOf slot base) (references_of pid 0 list)
  all = all-of slot pid base 0 list give

  some : references_of pid 0 list ≡ [] → ⊥
  some none =
      let found = clock.often 0 (omega (arith, clock.long)) in
      let has : HasPcrIn list pid found.0 found.1 = found.4 in
      some-of pid 0 found.0 found.1 list has.packet has.there has.pid_is has.pcr_is none

  pub has-clock : HasClock file slot pid base
  has-clock = record {
    zero_is = ap (clock_of slot) (places-are laws file list read pid counted) ∙ first-zero slot base (references_of pid 0 list) clock.below all some;
    off_is = ap (first_off slot base) (places-are laws file list read pid counted)
        ∙ ap (option_map (λ (reference : PlacedPcr). 188 * reference.packet)) (none-off slot base (references_of pid 0 list) all);
  }
