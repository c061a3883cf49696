-- A transport buffer whose packets come one by one, one packet further.
use Rattle.std.proofs.Common.{◌≡◌, ℕ, ◌+◌, ◌*◌, ◌≤◌, inl, inr, List, [], ◌∷◌, ◌++◌, map, Option, Some, None, IfSome, is_some, IsTrue, append-nil, append_assoc, refl, sym, ap, ◌∙◌, subst, arith}
use Rattle.std.specs.Option.{ForSome}
use Rattle.std.proofs.lemmas.Bool.{cases_lt, false≢true}
use Rattle.std.specs.List.Sorted.{IsStrictlyIncreasing}
use Rattle.stream_constants.specs.declared.packets.TheConstants.{PACKET_BYTES}
use Rattle.tstd_model.specs.Instants.{spaced}
use Rattle.tstd_model.specs.declared.decoder_input.Arrival.{Arrival}
use Rattle.tstd_model.specs.PacketBytes.{arrives, byte_subticks}
use Rattle.stream_audit.specs.declared.busy_time.BusyTime.{BusyTime}
use Rattle.stream_audit.specs.declared.busy_watch.BusyWatch.{BusyWatch}
use Rattle.stream_audit.specs.BusyWatch.{HasEmptied}
use Rattle.stream_audit.specs.NeverEmpty.{IsFirstBusy, buffer_with}
use Rattle.stream_audit.specs.Private.BusyTime.{busy_by, busy_behind, IsShort}
use Rattle.stream_audit.proofs.PacketLaws.{first-busy, never-busy, walk-next, walk-end}

-- whatever still comes, a second on end is found by this busy time
abbrev pub FoundBy : (slot subticks : ℕ) → (given : List Arrival) → BusyTime → Type 0
FoundBy slot subticks given time = (later : List Arrival) → busy_by subticks 0 0 (arrives slot (given ++ later)) ≡ busy_behind time (arrives slot later)

-- the busy time behind a packet
abbrev pub Follows : (time : BusyTime) → (first step : ℕ) → BusyTime → Type 0
Follows time first step next = (later : List ℕ) → busy_behind time (spaced first step PACKET_BYTES ++ later) ≡ busy_behind next later

next-found : (slot subticks : ℕ) (given : List Arrival) (packet : Arrival) (time next : BusyTime) (first step : ℕ) → step ≡ byte_subticks slot →
    first ≡ PACKET_BYTES * packet.slot_no * step → FoundBy slot subticks given time → Follows time first step next → FoundBy slot subticks (given ++ packet ∷ []) next
next-found slot subticks given packet time next first step step_is first_is was goes later =
    ap (λ (l : List Arrival). busy_by subticks 0 0 (arrives slot l)) (append_assoc given (packet ∷ []) later)
    ∙ was (packet ∷ later)
    ∙ walk-next time.subticks time.from time.until slot (packet ∷ later) 0 packet first step (omega arith) step_is first_is
    ∙ goes (arrives slot later)

module _ (slot subticks : ℕ) (given : List Arrival) (packet : Arrival) (old new : BusyWatch) (has : HasEmptied slot subticks given old)
    (step_same : new.step ≡ old.step) (subticks_same : new.subticks ≡ old.subticks) where
  -- a packet comes while less than a second has passed
  pub emptied-more : (time : BusyTime) (first : ℕ) → old.step ≤ old.subticks → old.time ≡ Some time → first ≡ PACKET_BYTES * packet.slot_no * old.step →
      IfSome new.time (Follows time first old.step) → HasEmptied slot subticks (given ++ packet ∷ []) new
  emptied-more time first le is first_is goes = record {
    step_is = step_same ∙ has.step_is;
    subticks_are = subticks_same ∙ has.subticks_are;
    rest = λ _. by_next new.time goes;
  }
    where
      was : FoundBy slot subticks given time
      was = subst (λ (t : Option BusyTime). IfSome t (FoundBy slot subticks given)) is (has.rest le)

      by_next : (next : Option BusyTime) → IfSome next (Follows time first old.step) → IfSome next (FoundBy slot subticks (given ++ packet ∷ []))
      by_next None follows = tt
      by_next (Some next) follows = next-found slot subticks given packet time next first old.step has.step_is first_is was follows

-- all packets have come
pub emptied-all : (slot subticks : ℕ) (given : List Arrival) (watch : BusyWatch) → IsTrue (is_some watch.time) → watch.subticks ≤ 203040 → ForSome watch.time IsShort →
    HasEmptied slot subticks given watch → IsStrictlyIncreasing (map (λ (arrival : Arrival). arrival.slot_no) given) → IsFirstBusy (buffer_with slot subticks given) None
emptied-all slot subticks given watch some fits short has rise =
    elim (cases_lt watch.subticks watch.step) [
      | inl fast ↦ never-busy slot subticks given rise (omega (arith, fast, has.subticks_are, has.step_is)) (omega (arith, fits, has.subticks_are))
      | inr le ↦ first-busy slot subticks given rise None (by_time watch.time some short (has.rest le))
    ]
  where
    by_time : (time : Option BusyTime) → IsTrue (is_some time) → ForSome time IsShort → IfSome time (FoundBy slot subticks given) → busy_by subticks 0 0 (arrives slot given) ≡ None
    by_time None some short found = absurd (false≢true some)
    by_time (Some time) some short found =
        ap (λ (l : List Arrival). busy_by subticks 0 0 (arrives slot l)) (sym (append-nil given))
        ∙ found []
        ∙ walk-end time.subticks time.from time.until slot [] 0 (omega arith) (short time refl).1
