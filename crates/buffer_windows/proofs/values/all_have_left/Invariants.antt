use Rattle.std.proofs.Common.{◌≡◌, ℕ, drop}
use Rattle.buffer_windows.specs.Private.Prices.{all_have_left, owned}
use Rattle.buffer_windows.proofs.values.all_have_left.Given as goal

-- so far each has, so that it hangs on those still to come
abbrev pub invariant-loop-i : goal.invariant-loop-i
invariant-loop-i l = (program : ℕ) → all_have_left (owned program l.vbv (drop l.i l.units)) (drop l.i l.fixed) ≡ all_have_left (owned program l.vbv l.units) l.fixed
