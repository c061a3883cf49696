use Rattle.std.proofs.Common.{◌≡◌, ℕ, ◌+◌, ◌*◌, ◌/◌, ◌%◌, ◌^◌, ◌<◌, lit<, refl, ◌∙◌, arith}
use Rattle.std.specs.Prelude.{bit_or}
use Rattle.std.proofs.lemmas.Nat.{or_shifted}
use Rattle.ts_packets.proofs.adaptation_field.pcr_bytes.Goals as goal

-- parts of a number that share no bit
word-is : (base extension : ℕ) → base < 2 ^ 33 → extension < 2 ^ 9 → bit_or (bit_or (base * 2 ^ 15 % 2 ^ 64) 32256) extension ≡ 2 ^ 15 * base + 32256 + extension
word-is base extension base_fits extension_fits =
    let whole : base * 2 ^ 15 % 2 ^ 64 ≡ base * 2 ^ 15 = omega arith in
    let high : bit_or (base * 2 ^ 15) 32256 ≡ (64 * base + 63) * 2 ^ 9 = or_shifted base 15 32256 (lit< tt) ∙ omega arith in
    rw (whole, high, or_shifted (64 * base + 63) 9 extension extension_fits) (omega arith)

pub returns : goal.returns
returns c = rw (c.to_be_bytes.ensures, word-is (c.args.ticks / 300) (c.args.ticks % 300) (omega arith) (omega arith)) refl
