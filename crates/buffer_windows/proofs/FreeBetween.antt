-- The free slots of a window are those below its tail less those below its first slot.
use Rattle.std.proofs.Common.{◌≡◌, ℕ, zero, suc, ◌+◌, ◌-◌, Bool, cond, count_by, length, is_none, ap, inl, inr, add-zero, arith}
use Rattle.std.specs.List.{range_with_len}
use Rattle.std.proofs.lemmas.Bool.{cases_lt}
use Rattle.std.proofs.lemmas.List.Sums.{sum_by-cons}
use Rattle.version_table.specs.declared.table.Table.{Table}
use Rattle.slot_rule.specs.Timetable.{reserved}
use Rattle.dual_bounds.specs.Room.{free_below}
use Rattle.dual_bounds.proofs.Ranges.{count_below, count_below-more, count_below-rises}
use Rattle.buffer_windows.specs.declared.windows.BufferWindow.{BufferWindow}
use Rattle.buffer_windows.specs.Room.{free_window_slots as free_slots}

-- numbers from one on, and those below it
count_between : (p : ℕ → Bool) (m k : ℕ) → count_by p (range_with_len m k) + count_below p m ≡ count_below p (m + k)
count_between p m zero = omega (arith, ap (count_below p) (add-zero m))
count_between p m (suc k) =
    let next : (m + 1) + k ≡ m + suc k = omega arith in
    let one : suc m ≡ m + 1 = omega arith in
    omega (
      arith,
      sum_by-cons (λ n. cond (p n) 1 0) m (range_with_len (m + 1) k),
      count_below-more p m,
      ap (count_below p) one,
      ap (count_below p) next,
      count_between p (m + 1) k,
    )

pub free_slots-is : (table : Table) (window : BufferWindow) → free_slots table window ≡ free_below table window.tail - free_below table window.first
unfolding free_slots free_below
free_slots-is table window =
    let free : ℕ → Bool = λ k. is_none (reserved table.slot (length table.programs) k) in
    let all = count_between free window.first (window.tail - window.first) in
    elim (cases_lt window.tail window.first) as (λ _. count_by free (range_with_len window.first (window.tail - window.first)) ≡ count_below free window.tail - count_below free window.first) [
      | inl none ↦
          (let size : window.tail - window.first ≡ 0 = omega arith in
          let whole : window.tail + (window.first - window.tail) ≡ window.first = omega arith in
          omega (
            arith,
            ap (λ n. count_by free (range_with_len window.first n)) size,
            count_below-rises free window.tail (window.first - window.tail),
            ap (count_below free) whole,
          ))
      | inr some ↦
          (let whole : window.first + (window.tail - window.first) ≡ window.tail = omega arith in
          omega (arith, all, ap (count_below free) whole))
    ]
