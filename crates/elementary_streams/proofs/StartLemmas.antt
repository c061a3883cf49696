-- Times of PES packets, one more behind those before.
use Rattle.std.proofs.Common.{
  ◌≡◌,
  ℕ,
  ◌+◌,
  ◌*◌,
  ◌^◌,
  ◌<◌,
  ◌≤◌,
  List,
  [],
  ◌∷◌,
  ◌++◌,
  Option,
  Some,
  None,
  unwrap_or,
  IfSome,
  refl,
  sym,
  ap,
  ◌∙◌,
  subst,
  arith,
  All,
  take,
  get_or,
  length,
  ℤ,
  pos,
  neg_ℤ,
  ◌+ℤ◌,
  ◌-ℤ◌,
  ◌≤ℤ◌,
  ◌<ℤ◌,
}
use Rattle.std.proofs.lemmas.Int.{ints}
use Rattle.std.proofs.lemmas.List.{take_more}
use Rattle.std.proofs.lemmas.List.Elements.{All-push}
use Rattle.audio_frames.specs.declared.pes_start.PesStart.{PesStart}
use Rattle.pes_units.specs.TimeAxis.{IsUnwrapped}
use Rattle.pes_units.specs.Times.{decoding_time}
use Rattle.elementary_streams.specs.declared.pes_packets.PlacedPacket.{PlacedPacket}
use Rattle.elementary_streams.specs.Audio.{IsOnAxis, AreStartsOf}
use Rattle.elementary_streams.specs.NearTimes.{IsNear}
use Rattle.elementary_streams.specs.Private.PesStarts.{last_time}

pub starts_push : (before : ℤ) (packets : List PlacedPacket) (starts : List PesStart) (packet : PlacedPacket) (start : PesStart) → AreStartsOf before packets starts →
    start.at ≡ packet.from → IsOnAxis (last_time before starts) (decoding_time packet.header.times) start.time →
    AreStartsOf before (packets ++ packet ∷ []) (starts ++ start ∷ [])
starts_push before [] [] packet start are at time = (at, time, tt)
starts_push before [] (s ∷ ss) packet start are at time = absurd are
starts_push before (p ∷ ps) [] packet start are at time = absurd are
starts_push before (p ∷ ps) (s ∷ ss) packet start are at time = (are.0, are.1, starts_push (unwrap_or s.time before) ps ss packet start are.2 at time)

pub last_push : (before : ℤ) (starts : List PesStart) (start : PesStart) → last_time before (starts ++ start ∷ []) ≡ unwrap_or start.time (last_time before starts)
last_push before [] start = refl
last_push before (s ∷ ss) start = last_push (unwrap_or s.time before) ss start

low_step : (b : ℤ) (t : ℤ) (n : ℕ) → neg_ℤ (pos (8589934592 + n * 4294967296)) ≤ℤ b → (b -ℤ pos 4294967296) <ℤ t → neg_ℤ (pos (8589934592 + (n + 1) * 4294967296)) ≤ℤ t
low_step b t n low early = omega (arith, ints)

high_step : (b : ℤ) (t : ℤ) (n : ℕ) → b ≤ℤ pos (8589934592 + n * 4294967296) → t ≤ℤ (b +ℤ pos 4294967296) → t ≤ℤ pos (8589934592 + (n + 1) * 4294967296)
high_step b t n high late = omega (arith, ints)

pub near_step : (before time : ℤ) (value n : ℕ) → IsNear n before → IsUnwrapped before value time → IsNear (n + 1) time
near_step before time value n near is = record { low = low_step before time n near.low is.not_too_early; high = high_step before time n near.high is.not_too_late }

low_more : (b : ℤ) (n m : ℕ) → n ≤ m → neg_ℤ (pos (8589934592 + n * 4294967296)) ≤ℤ b → neg_ℤ (pos (8589934592 + m * 4294967296)) ≤ℤ b
low_more b n m le low = omega (arith, ints)

high_more : (b : ℤ) (n m : ℕ) → n ≤ m → b ≤ℤ pos (8589934592 + n * 4294967296) → b ≤ℤ pos (8589934592 + m * 4294967296)
high_more b n m le high = omega (arith, ints)

pub near_more : (time : ℤ) (n m : ℕ) → n ≤ m → IsNear n time → IsNear m time
near_more time n m le near = record { low = low_more time n m le near.low; high = high_more time n m le near.high }

-- near times are far from the ends of 54 bits
pub near_low : (time : ℤ) (n : ℕ) → n ≤ 4000000 → IsNear n time → neg_ℤ (pos (2 ^ 54)) ≤ℤ time
near_low time n le near = far time n le near.low
  where
    far : (b : ℤ) (n : ℕ) → n ≤ 4000000 → neg_ℤ (pos (8589934592 + n * 4294967296)) ≤ℤ b → neg_ℤ (pos 18014398509481984) ≤ℤ b
    far b n le near = omega (arith, ints)

pub near_high : (time : ℤ) (n : ℕ) → n ≤ 4000000 → IsNear n time → time ≤ℤ pos (2 ^ 54)
near_high time n le near = far time n le near.high
  where
    far : (b : ℤ) (n : ℕ) → n ≤ 4000000 → b ≤ℤ pos (8589934592 + n * 4294967296) → b ≤ℤ pos 18014398509481984
    far b n le near = omega (arith, ints)

-- the time in force behind a packet, and that of the packet, if it has one
pub near_behind : (before : ℤ) (value : Option ℕ) (time : Option ℤ) (n : ℕ) → IsNear n before → IsOnAxis before value time → IsNear (n + 1) (unwrap_or time before)
near_behind before value time n near is = by_value value time is
  where
    by_value : (value : Option ℕ) (time : Option ℤ) → IsOnAxis before value time → IsNear (n + 1) (unwrap_or time before)
    by_value None time is = rw is (near_more before n (n + 1) (omega arith) near)
    by_value (Some v) time is = rw is.1 (near_step before is.0 v n near is.2)

pub near_start : (before : ℤ) (value : Option ℕ) (time : Option ℤ) (n m : ℕ) → n + 1 ≤ m → IsNear n before → IsOnAxis before value time → IfSome time (IsNear m)
near_start before None time n m le near is = rw is tt
near_start before (Some v) time n m le near is = rw is.1 (near_more is.0 (n + 1) m le (near_step before is.0 v n near is.2))

-- one more packet of a loop over them
pub record Begun (first : ℤ) (packets : List PlacedPacket) (i : ℕ) (starts : List PesStart) (before : ℤ) : Type 0 where
  pub starts_are : AreStartsOf first (take i packets) starts
  pub before_is : before ≡ last_time first starts
  pub near : IsNear i before
  pub all_near : All (λ start. IfSome start.time (IsNear 4000000)) starts

pub begun_step : (first : ℤ) (packets : List PlacedPacket) (i : ℕ) (d : PlacedPacket) (starts news : List PesStart) (start : PesStart) (before after : ℤ) → i < length packets →
    length packets ≤ 4000000 → start.at ≡ (get_or packets i d).from → IsOnAxis before (decoding_time (get_or packets i d).header.times) start.time →
    after ≡ unwrap_or start.time before → news ≡ starts ++ start ∷ [] → Begun first packets i starts before → Begun first packets (i + 1) news after
begun_step first packets i d starts news start before after lt few at time is_after pushed begun =
    let packet = get_or packets i d in
    let more : take (i + 1) packets ≡ take i packets ++ packet ∷ [] = take_more packets i d lt in
    let placed : IsOnAxis (last_time first starts) (decoding_time packet.header.times) start.time =
    subst (λ (t : ℤ). IsOnAxis t (decoding_time packet.header.times) start.time) begun.before_is time in
    let le : i + 1 ≤ 4000000 = omega arith in record {
      starts_are = subst (λ (all : List PesStart). AreStartsOf first (take (i + 1) packets) all) (sym pushed)
          (subst (λ (ps : List PlacedPacket). AreStartsOf first ps (starts ++ start ∷ [])) (sym more) (starts_push first (take i packets) starts packet start begun.starts_are at placed));
      before_is = is_after ∙ ap (λ (t : ℤ). unwrap_or start.time t) begun.before_is ∙ sym (last_push first starts start) ∙ ap (last_time first) (sym pushed);
      near = subst (IsNear (i + 1)) (sym is_after) (near_behind before (decoding_time packet.header.times) start.time i begun.near time);
      all_near = subst (λ (all : List PesStart). All (λ start. IfSome start.time (IsNear 4000000)) all) (sym pushed)
          (All-push (λ start. IfSome start.time (IsNear 4000000)) starts start begun.all_near
          (near_start before (decoding_time packet.header.times) start.time i 4000000 le begun.near time));
    }
