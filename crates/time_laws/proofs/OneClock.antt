-- One clock has the PCRs of a stream, and it shows one time at a tick.
use Rattle.std.proofs.Common.{◌≡◌, ℕ, ◌+◌, ◌*◌, ◌%◌, ◌^◌, ◌<◌, List, sym, ◌∙◌, arith, ℤ, pos, ◌+ℤ◌, ◌*ℤ◌}
use Rattle.std.proofs.lemmas.Int.{ints}
use Rattle.ts_packets.specs.Packet.{PacketRecord}
use Rattle.pcr_writer.specs.PcrPacket.{arrival_ticks, pcr_at}
use Rattle.time_laws.specs.Clock.{IsClock, IsFirstShown}

same-rest : (a b more : ℕ) → a < 2576980377600 → b < 2576980377600 → (a + more) % 2576980377600 ≡ (b + more) % 2576980377600 → a ≡ b
same-rest a b more low small same = omega (arith, low, small, same)

pub one-base : (stream : List PacketRecord) (slot pid base other : ℕ) → IsClock stream slot pid base → IsClock stream slot pid other → base ≡ other
one-base stream slot pid base other is also =
    let found = is.often 0 (omega (arith, is.long)) in
    let same : pcr_at base found.0 slot ≡ pcr_at other found.0 slot = sym (is.each found.0 found.1 found.4) ∙ also.each found.0 found.1 found.4 in
    same-rest base other (arrival_ticks slot found.0 10) is.below also.below same

tick-of : (base at other : ℕ) (time turns rounds : ℤ) → at < 2576980377600 → other < 2576980377600 → pos (base + at) ≡ (time +ℤ turns *ℤ pos 2576980377600)
    → pos (base + other) ≡ (time +ℤ rounds *ℤ pos 2576980377600) → at ≡ other
tick-of base at other time turns rounds low small one two = omega (arith, ints)

pub one-tick : (base at other : ℕ) (time : ℤ) → IsFirstShown base time at → IsFirstShown base time other → at ≡ other
one-tick base at other time is also = tick-of base at other time is.shown.0 also.shown.0 is.first also.first is.shown.1 also.shown.1

time-of : (sum time other : ℕ) (turns rounds : ℤ) → time < 8589934592 → other < 8589934592 → pos sum ≡ (pos (300 * time) +ℤ turns *ℤ pos 2576980377600)
    → pos sum ≡ (pos (300 * other) +ℤ rounds *ℤ pos 2576980377600) → time ≡ other
time-of sum time other turns rounds low small one two = omega (arith, ints)

pub one-time : (base at time other : ℕ) → time < 2 ^ 33 → other < 2 ^ 33 → IsFirstShown base (pos (300 * time)) at → IsFirstShown base (pos (300 * other)) at → time ≡ other
one-time base at time other low small is also = time-of (base + at) time other is.shown.0 also.shown.0 low small is.shown.1 also.shown.1
