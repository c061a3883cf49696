-- What levels become, kept under the number of their weight, scale and kind of block.
use Rattle.std.proofs.Common.{◌≡◌, ℕ, ◌<◌, ℤ, List, Bool, true, false, refl, subst, arith}
use Rattle.std.specs.Prelude.{if◌then◌else◌}
use Rattle.requantiser.specs.Private.Rungs.{AreRescaled, AreRescaledBy, way_number}

abbrev pub one : Bool → ℕ
one b = if b then 1 else 0

pub one-most : (b : Bool) → one b < 2
one-most true = omega arith
one-most false = omega arith

pub same_kind : (a b : Bool) → one a ≡ one b → a ≡ b
same_kind true true is = refl
same_kind true false is = absurd (omega (arith, is))
same_kind false true is = absurd (omega (arith, is))
same_kind false false is = refl

-- no other weight, scale and kind of block have the number
pub by_number : (level : ℤ) (weight from number : ℕ) (intra : Bool) (scales sizes squares : List ℕ) → weight < 256 → from < 128 → number ≡ way_number weight from intra
    → AreRescaled level weight from intra scales sizes squares → AreRescaledBy level number scales sizes squares
by_number level weight from number intra scales sizes squares w f is are weight' from' intra' w' f' is' =
    let kind : one intra ≡ one intra' = omega (arith, is, is', w, f, w', f', one-most intra, one-most intra') in
    let scale : from ≡ from' = omega (arith, is, is', w, f, w', f', kind) in
    let same : weight ≡ weight' = omega (arith, is, is', kind, scale) in
    subst (λ (n : ℕ). AreRescaled level n from' intra' scales sizes squares) same
    (subst (λ (n : ℕ). AreRescaled level weight n intra' scales sizes squares) scale
    (subst (λ (b : Bool). AreRescaled level weight from b scales sizes squares) (same_kind intra intra' kind) are))
