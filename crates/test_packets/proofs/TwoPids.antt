-- Two PIDs that differ.
use Rattle.std.proofs.Common.{◌≡◌, zero, suc, [], ◌∷◌, refl, sym, ◌∙◌, arith}
use Rattle.std.proofs.lemmas.Option.{same_Some}
use Rattle.ts_demux.specs.CarriedPackets.{AreDistinct}

pub two_differ : AreDistinct (257 ∷ 258 ∷ [])
two_differ zero zero pid one other = refl
two_differ zero (suc zero) pid one other = absurd (let bad : 257 ≡ 258 = same_Some 257 pid one ∙ sym (same_Some 258 pid other) in omega (arith, bad))
two_differ zero (suc (suc k)) pid one other = absurd cc
two_differ (suc zero) zero pid one other = absurd (let bad : 258 ≡ 257 = same_Some 258 pid one ∙ sym (same_Some 257 pid other) in omega (arith, bad))
two_differ (suc zero) (suc zero) pid one other = refl
two_differ (suc zero) (suc (suc k)) pid one other = absurd cc
two_differ (suc (suc j)) k pid one other = absurd cc
