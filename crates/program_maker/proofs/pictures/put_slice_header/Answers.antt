use Rattle.std.proofs.Common.{◌≡◌, ◌+◌, ◌<◌, ◌^◌, ◌*◌, ℕ, ◌∷◌, [], ◌++◌, ap, ◌∙◌, arith}
use Rattle.bit_lists.specs.Bits.{bits_of}
use Rattle.bit_lists.proofs.JoinedLemmas.{bits_of-put}
use Rattle.picture_grammar.specs.StartCode.{start_code_bits}
use Rattle.macroblock_writer.proofs.Going.{goes-as}
use Rattle.program_maker.proofs.Writing.{goes-from, goes-on_ok}
use Rattle.picture_laws.proofs.StartCodes.{code_bits}
use Rattle.program_maker.proofs.pictures.put_slice_header.Goals as goal

behind_code : (n : ℕ) → n ≡ 4 → bits_of 6 (2 * n) ≡ bits_of 5 4 ++ 0 ∷ []
unfolding bits_of
behind_code n is = ap (λ k. bits_of 6 (2 * k)) is

pub returns : goal.returns
returns g c =
    let small : c.args.row + 1 < 2 ^ 8 = omega (arith, c.requires.row) in
    let code = code_bits (c.args.row + 1) c.from.result small c.from.ensures in
    goes-on_ok c.put_bits-2.result (goes-as (goes-from c.in_ok-put_bits.ensures.writes) code) c.put_bits-2.ensures.writes
    (ap (λ b. start_code_bits (c.args.row + 1) ++ b) (behind_code c.from-2.result c.from-2.ensures))
