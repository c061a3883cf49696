use Rattle.std.proofs.Common.{ℕ, ◌^◌, ◌<◌, inl, inr, arith}
use Rattle.std.proofs.lemmas.Bool.{cases_lt}
use Rattle.sum_tree.proofs.Powers.{two_le, two_more}
use Rattle.cost_sweep.proofs.sorted.height_for.Goals as goal

-- a power of 2 below 2 ^ 39 has a lesser exponent
lesser : (height : ℕ) → 2 ^ height < 2 ^ 39 → height < 39
lesser height less = elim (cases_lt height 39) as (λ _. height < 39) [
  | inl is ↦ is
  | inr most ↦ absurd (omega (arith, two_le 39 height most))
]

pub loop-room-preserved : goal.loop-room-preserved
loop-room-preserved c = record {
  power = omega (arith, two_more c.loop-room.height, c.loop-room.invariant.power);
  some = omega (arith, c.loop-room.invariant.some);
  few = (let low = lesser c.loop-room.height (omega (arith, c.loop-room.invariant.power, c.requires)) in omega arith);
}
