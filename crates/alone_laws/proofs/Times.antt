-- When the units of a program that is read again are due, on its own clock and on that of the stream.
use Rattle.std.proofs.Common.{◌≡◌, ℕ, ◌+◌, ◌-◌, ◌*◌, ◌/◌, ◌%◌, ◌<◌, ◌≤◌, arith, ℤ, pos, ◌+ℤ◌, ◌-ℤ◌, ◌*ℤ◌}
use Rattle.std.proofs.lemmas.Int.{ints}
use Rattle.program_reader.specs.Audio.{IsDue}
use Rattle.program_reader.specs.Programs.{IsBase}
use Rattle.time_laws.specs.Clock.{IsFirstShown}

-- ---- the base

-- of a time that is due at another start
pub moved_base : (start to base : ℕ) → ℕ
moved_base start to base = (base + start + (2576980377600 - to)) % 2576980377600

base-sum : (n : ℕ) → n ≡ n % 2576980377600 + n / 2576980377600 * 2576980377600
base-sum n = omega arith

base-turned : (start to base sum low rounds : ℕ) (earliest turns : ℤ) → to ≤ 2576980377600 → pos base ≡ ((earliest -ℤ pos start) +ℤ turns *ℤ pos 2576980377600)
    → sum + to ≡ base + start + 2576980377600 → sum ≡ low + rounds * 2576980377600
    → pos low ≡ ((earliest -ℤ pos to) +ℤ ((turns +ℤ pos 1) -ℤ pos rounds) *ℤ pos 2576980377600)
base-turned start to base sum low rounds earliest turns small is whole parts = omega (arith, ints, small, is, whole, parts)

pub base-again : (start to base : ℕ) (earliest : ℤ) → to ≤ 2576980377600 → IsBase start earliest base → IsBase to earliest (moved_base start to base)
unfolding moved_base
base-again start to base earliest small is =
    let sum : ℕ = base + start + (2576980377600 - to) in
    record {
      below = omega arith;
      congruent = (
        (is.congruent.0 +ℤ pos 1) -ℤ pos (sum / 2576980377600),
        base-turned start to base sum (sum % 2576980377600) (sum / 2576980377600) earliest is.congruent.0 small is.congruent.1 (omega (arith, small)) (base-sum sum),
      );
    }

-- ---- the stream's clock

-- a clock that shows a stated time when it is due is the base of the program, but for rounds
shows-base : (start clock at value : ℕ) (earliest ticks stated turns : ℤ) → pos at ≡ ((pos start +ℤ ticks) -ℤ earliest) → ticks ≡ pos 300 *ℤ stated → stated ≡ pos value
    → pos (clock + at) ≡ (pos (300 * value) +ℤ turns *ℤ pos 2576980377600) → pos clock ≡ ((earliest -ℤ pos start) +ℤ turns *ℤ pos 2576980377600)
shows-base start clock at value earliest ticks stated turns due ticks_are stated_is shown = omega (arith, ints, due, ticks_are, stated_is, shown)

pub clock-base : (start clock at value : ℕ) (earliest ticks stated : ℤ) → clock < 2576980377600 → IsDue start earliest ticks at → ticks ≡ pos 300 *ℤ stated → stated ≡ pos value
    → IsFirstShown clock (pos (300 * value)) at → IsBase start earliest clock
clock-base start clock at value earliest ticks stated below due ticks_are stated_is shown = record {
  below = below;
  congruent = (shown.shown.0, shows-base start clock at value earliest ticks stated shown.shown.0 due ticks_are stated_is shown.shown.1);
}

-- ---- a unit

shown-turns : (start to clock base at due : ℕ) (earliest turns rounds : ℤ) → pos clock ≡ ((earliest -ℤ pos start) +ℤ turns *ℤ pos 2576980377600)
    → pos base ≡ ((earliest -ℤ pos to) +ℤ rounds *ℤ pos 2576980377600) → due + start ≡ at + to
    → pos (clock + at) ≡ (pos (base + due) +ℤ (turns -ℤ rounds) *ℤ pos 2576980377600)
shown-turns start to clock base at due earliest turns rounds is also moved = omega (arith, ints, is, also, moved)

pub shown-again : (start to clock base at due : ℕ) (earliest : ℤ) → IsBase start earliest clock → IsBase to earliest base → due + start ≡ at + to → at < 2576980377600
    → IsFirstShown clock (pos (base + due)) at
shown-again start to clock base at due earliest is also moved early = record {
  first = early;
  shown = (is.congruent.0 -ℤ also.congruent.0, shown-turns start to clock base at due earliest is.congruent.0 also.congruent.0 is.congruent.1 also.congruent.1 moved);
}
