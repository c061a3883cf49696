use Rattle.std.proofs.Common.{◌≡◌, ℕ, ◌+◌, ◌-◌, ◌*◌, ◌/◌, ◌%◌, ◌^◌, ◌≤◌, nat_eq, [], ◌∷◌, ◌++◌, sym, ap, ◌∙◌, arith}
use Rattle.std.proofs.Math.Nat.{mul-div_cancel, div-div-eq-div-mul}
use Rattle.std.proofs.Math.Pow.{mod-mod-pow}
use Rattle.std.proofs.lemmas.Nat.{pow-add, pow_pos}
use Rattle.bit_lists.specs.Fields.{flag}
use Rattle.bit_lists.proofs.BitLemmas.{window_high}
use Rattle.grammar_reading.specs.Window.{seen}
use Rattle.block_coeffs.proofs.Pairs.{seen-one_more}
use Rattle.block_coeffs.proofs.standing.bit_at.Goals as goal

-- the bit that is shifted to the top of a window
shifted-bit : (b i : ℕ) → i ≤ 23 → b * 2 ^ i % 2 ^ 32 / 2 ^ 23 % 2 ≡ b / 2 ^ (23 - i) % 2
shifted-bit b i le =
    let q = b * 2 ^ i in
    let places : i + (23 - i) ≡ 23 = omega arith in
    ap (λ x. x % 2) (window_high 9 23 q)
    ∙ mod-mod-pow (q / 2 ^ 23) 8 1
    ∙ ap (λ n. q / 2 ^ n % 2) (sym places)
    ∙ ap (λ n. q / n % 2) (pow-add 2 i (23 - i))
    ∙ ap (λ x. x % 2) (sym (div-div-eq-div-mul q (2 ^ i) (2 ^ (23 - i))))
    ∙ ap (λ x. x / 2 ^ (23 - i) % 2) (mul-div_cancel b (pow_pos i))

pub returns : goal.returns
returns c =
    seen-one_more c.args.window c.args.index c.requires
    ∙ ap (λ n. seen c.args.window c.args.index ++ flag (nat_eq n 1) ∷ []) (sym (shifted-bit c.args.window.bits c.args.index (omega arith)))
