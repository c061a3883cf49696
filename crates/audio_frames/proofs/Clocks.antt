-- The clock from one frame to the next.
use Rattle.std.proofs.Common.{
  ◌≡◌,
  ℕ,
  zero,
  suc,
  ◌+◌,
  ◌-◌,
  ◌^◌,
  ◌<◌,
  ◌≤◌,
  true,
  nat_lt,
  List,
  length,
  get_or,
  Some,
  None,
  refl,
  sym,
  subst,
  ◌∙◌,
  arith,
  to_z,
  of_z,
  w64,
  ℤ,
  pos,
  neg_ℤ,
  ◌+ℤ◌,
  ◌*ℤ◌,
  ◌≤ℤ◌,
}
use Rattle.std.specs.Prelude.{slice_index}
use Rattle.std.proofs.lemmas.List.{get_or-map}
use Rattle.std.proofs.lemmas.Int.{ints}
use Rattle.std.proofs.lemmas.Bool.{lt-ltb}
use Rattle.stream_constants.specs.declared.clock.TheConstants.{TICKS_PER_TIME_UNIT}
use Rattle.audio_frames.specs.declared.clock.Clock.{Clock}
use Rattle.audio_frames.specs.declared.pes_start.PesStart.{PesStart}
use Rattle.audio_frames.specs.Times.{frame_ticks, given_time}
use Rattle.audio_frames.specs.Private.Packets.{start_of, time_of, time_between, IsCountUpTo, IsLastGiven, IsClockAt}
use Rattle.audio_frames.proofs.Given.{given_is, first_given}
use Rattle.audio_frames.proofs.Timed.{given_kept, given_here}

abbrev nowhere : PesStart
nowhere = record { at = 0; time = None }

-- what a clock has of its own
pub record IsClockOf (clock : Clock) (packets : ℕ) (given : ℤ) (ago : ℕ) : Type 0 where
  pub packets_are : clock.packets ≡ packets
  pub given_is : clock.given ≡ given
  pub ago_is : clock.ago ≡ ago
  pub rate : (16000 ≤ clock.rate) × (clock.rate ≤ 48000)
  pub time : clock.time ≡ (pos TICKS_PER_TIME_UNIT *ℤ clock.given) +ℤ pos (frame_ticks clock.rate clock.ago)
  pub low : neg_ℤ (pos (2 ^ 54)) ≤ℤ given
  pub high : given ≤ℤ pos (2 ^ 54)

pub clock_at : (starts : List PesStart) (places : List ℕ) (j packets ago : ℕ) (given : ℤ) (clock : Clock) → IsClockOf clock packets given ago
    → IsCountUpTo starts (slice_index places j) packets → 0 < packets → IsLastGiven starts places j given ago → IsClockAt starts places j clock
clock_at starts places j packets ago given clock is counted some last = record {
  counted = rw is.packets_are counted;
  some = rw is.packets_are some;
  last = rw (is.given_is, is.ago_is) last;
  low = rw is.given_is is.low;
  high = rw is.given_is is.high;
  rate = is.rate;
  time = is.time;
}

-- at the first frame
pub first_between : (starts : List PesStart) (places : List ℕ) (packets : ℕ) → IsCountUpTo starts (slice_index places 0) packets → 0 < packets
    → given_time starts places 0 ≡ time_between starts 0 packets
first_between starts places packets counted some =
    let n = packets - 1 in
    let count : packets ≡ suc n = omega arith in
    let time : time_of starts n ≡ (get_or starts n nowhere).time = get_or-map (λ (start : PesStart). start.time) starts n nowhere None (omega (arith, counted.within)) in
    let between : nat_lt 0 packets ≡ true = lt-ltb _ _ some in
    first_given starts places n nowhere (subst (IsCountUpTo starts (slice_index places 0)) count counted) ∙ sym time ∙ sym (rw between refl)

-- the first packet begins at the first byte, so up to every place
pub some_packet : (starts : List PesStart) (at packets : ℕ) → 0 < length starts → start_of starts 0 ≡ 0 → IsCountUpTo starts at packets → 0 < packets
some_packet starts at zero some first counted = absurd (omega (arith, first, counted.behind 0 (omega arith) some))
some_packet starts at (suc n) some first counted = omega arith

pub next_given : (starts : List PesStart) (places : List ℕ) (j up_to : ℕ) (clock : Clock) (given : ℤ) → IsClockAt starts places j clock
    → IsCountUpTo starts (slice_index places (j + 1)) up_to → clock.packets ≤ up_to → Some given ≡ time_between starts clock.packets up_to
    → IsLastGiven starts places (j + 1) given 0
next_given starts places j up_to clock given at counted le is =
    given_here starts places (j + 1) given (given_is starts places j clock.packets up_to nowhere at.counted counted le at.some ∙ sym is)

pub next_kept : (starts : List PesStart) (places : List ℕ) (j up_to : ℕ) (clock : Clock) → IsClockAt starts places j clock
    → IsCountUpTo starts (slice_index places (j + 1)) up_to → clock.packets ≤ up_to → None ≡ time_between starts clock.packets up_to
    → IsLastGiven starts places (j + 1) clock.given (clock.ago + 1)
next_kept starts places j up_to clock at counted le is =
    given_kept starts places j clock.given clock.ago at.last (given_is starts places j clock.packets up_to nowhere at.counted counted le at.some ∙ sym is)

-- a given time as the code holds it
pub held : (given : ℤ) → neg_ℤ (pos (2 ^ 54)) ≤ℤ given → given ≤ℤ pos (2 ^ 54) → to_z w64 (of_z w64 given) ≡ given
held given low high = omega (arith, ints)
