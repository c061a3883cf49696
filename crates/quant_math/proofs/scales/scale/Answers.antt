use Rattle.std.proofs.Common.{refl, ltb, get_or, ◌&&◌, ◌<◌, ◌-◌, Bool, ℕ, arith, length}
use Rattle.std.proofs.lemmas.Bool.Decides.{Decides-ltb, Decides-and}
use Rattle.quant_math.specs.Scales.{nonlinear_scales}
use Rattle.quant_math.proofs.Tables.{entry_passes}
use Rattle.quant_math.proofs.scales.scale.Goals as goal

abbrev in_range : ℕ → Bool
in_range x = ltb 0 x && ltb x 113

pub returns-then-q_scale_type-clause-range : goal.returns-then-q_scale_type-clause-range
returns-then-q_scale_type-clause-range c =
    let within : c.args.code - 1 < length nonlinear_scales = omega arith in
    let entry : ℕ = get_or nonlinear_scales (c.args.code - 1) 0 in
    let range : (0 < entry) × (entry < 113) =
    (Decides-and (ltb 0 entry) (ltb entry 113) (Decides-ltb 0 entry) (Decides-ltb entry 113)).0
    (entry_passes in_range nonlinear_scales (c.args.code - 1) refl within) in
    (omega (arith, range), omega (arith, range))
