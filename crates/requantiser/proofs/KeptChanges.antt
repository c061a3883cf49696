-- What levels become, kept under the number of their weight, both scales and the kind of block.
use Rattle.std.proofs.Common.{◌≡◌, ℕ, ◌<◌, ℤ, Bool, subst, arith}
use Rattle.quant_math.specs.Levels.{coarser_level}
use Rattle.requantiser.specs.Private.KeptChanges.{BecomesBy, change_number}
use Rattle.requantiser.proofs.Rungs.{one, one-most, same_kind}

-- no other weight, scales and kind of block have the number
pub by_change : (level : ℤ) (weight from to number : ℕ) (intra : Bool) (made : ℤ) → weight < 256 → from < 128 → to < 128 → number ≡ change_number weight from to intra
    → made ≡ coarser_level level weight from to intra → BecomesBy level number made
by_change level weight from to number intra made w f t is becomes weight' from' to' intra' w' f' t' is' =
    let kind : one intra ≡ one intra' = omega (arith, is, is', w, f, t, w', f', t', one-most intra, one-most intra') in
    let scale : to ≡ to' = omega (arith, is, is', w, f, t, w', f', t', kind) in
    let source : from ≡ from' = omega (arith, is, is', w, f, w', f', kind, scale) in
    let same : weight ≡ weight' = omega (arith, is, is', kind, scale, source) in
    subst (λ (n : ℕ). made ≡ coarser_level level n from' to' intra') same
    (subst (λ (n : ℕ). made ≡ coarser_level level weight n to' intra') source
    (subst (λ (n : ℕ). made ≡ coarser_level level weight from n intra') scale
    (subst (λ (b : Bool). made ≡ coarser_level level weight from to b) (same_kind intra intra' kind) becomes)))
