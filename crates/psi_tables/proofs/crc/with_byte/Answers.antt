use Rattle.std.proofs.Common.{◌≡◌, ℕ, ◌*◌, ◌%◌, ◌^◌, [], ◌∷◌, ◌++◌, sym, subst, arith}
use Rattle.std.specs.Prelude.{bit_and, bit_xor}
use Rattle.std.proofs.lemmas.Nat.{and_mask}
use Rattle.psi_tables.specs.Crc.{IsCrcOf}
use Rattle.psi_tables.proofs.RemainderTable.{with_byte}
use Rattle.psi_tables.proofs.crc.with_byte.Goals as goal

pub returns : goal.returns
returns c =
    let rest : bit_and c.args.crc 0xFFFFFF * 256 % 2 ^ 32 ≡ c.args.crc % 2 ^ 24 * 2 ^ 8 = omega (arith, and_mask c.args.crc 24) in λ bytes is.
    subst (λ (x : ℕ). IsCrcOf (bit_xor x c.remainder_of.result) (bytes ++ c.args.byte ∷ [])) (sym rest)
    (with_byte c.args.crc c.args.byte c.remainder_of.result bytes c.ranges.byte.fits is c.remainder_of.ensures)
