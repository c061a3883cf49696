-- When a clock shows the times of a program.
use Rattle.std.proofs.Common.{◌≡◌, ℕ, ◌+◌, ◌*◌, ◌^◌, ◌<◌, arith, ℤ, pos, ◌+ℤ◌, ◌-ℤ◌, ◌*ℤ◌}
use Rattle.std.proofs.lemmas.Int.{ints}
use Rattle.program_reader.specs.Audio.{IsDue}
use Rattle.program_reader.specs.Programs.{IsBase}
use Rattle.time_laws.specs.Clock.{IsFirstShown}

sum-shown : (start base due : ℕ) (earliest ticks turns : ℤ) → pos due ≡ ((pos start +ℤ ticks) -ℤ earliest)
    → pos base ≡ ((earliest -ℤ pos start) +ℤ turns *ℤ pos 2576980377600) → pos (base + due) ≡ (ticks +ℤ turns *ℤ pos 2576980377600)
sum-shown start base due earliest ticks turns due_is base_is = omega (arith, ints)

-- the clock that shows the base at the first byte shows a time when that is due
pub due-shown : (start base due : ℕ) (earliest ticks : ℤ) → IsBase start earliest base → IsDue start earliest ticks due → due < 2576980377600 → IsFirstShown base ticks due
due-shown start base due earliest ticks is due_is early = record {
  first = early;
  shown = (is.congruent.0, sum-shown start base due earliest ticks is.congruent.0 due_is is.congruent.1);
}

stated-sum : (sum value : ℕ) (ticks stated turns rounds : ℤ) → pos sum ≡ (ticks +ℤ turns *ℤ pos 2576980377600) → ticks ≡ pos 300 *ℤ stated → stated ≡ pos value +ℤ rounds *ℤ pos 8589934592
    → pos sum ≡ (pos (300 * value) +ℤ (turns +ℤ rounds) *ℤ pos 2576980377600)
stated-sum sum value ticks stated turns rounds shown ticks_are stated_is = omega (arith, ints)

-- and a stated time, whose field has gone round so often
pub stated-shown : (base due value : ℕ) (ticks stated rounds : ℤ) → IsFirstShown base ticks due → ticks ≡ pos 300 *ℤ stated → stated ≡ pos value +ℤ rounds *ℤ pos (2 ^ 33)
    → IsFirstShown base (pos (300 * value)) due
stated-shown base due value ticks stated rounds is ticks_are stated_is = record {
  first = is.first;
  shown = (is.shown.0 +ℤ rounds, stated-sum (base + due) value ticks stated is.shown.0 rounds is.shown.1 ticks_are stated_is);
}

-- what is due so many ticks later
pub due-behind : (start earlier due count : ℕ) (earliest before ticks : ℤ) → IsDue start earliest before earlier → IsDue start earliest ticks due → ticks ≡ before +ℤ pos count
    → due ≡ earlier + count
due-behind start earlier due count earliest before ticks before_is is behind = omega (arith, ints)
