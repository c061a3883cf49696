-- The PID of one stream.
use Rattle.std.proofs.Common.{◌≡◌, ℕ, zero, suc, List, [], ◌∷◌, refl, sym, subst}
use Rattle.ts_demux.specs.CarriedPackets.{AreDistinct}

alone : (pid : ℕ) → AreDistinct (pid ∷ [])
alone pid zero zero p one other = refl
alone pid zero (suc k) p one other = absurd cc
alone pid (suc j) k p one other = absurd cc

pub one_distinct : (pids : List ℕ) (pid : ℕ) → pids ≡ pid ∷ [] → AreDistinct pids
one_distinct pids pid is = subst AreDistinct (sym is) (alone pid)
