use Rattle.std.proofs.Common.{◌<◌, ◌^◌, ℕ, arith}
use Rattle.std.proofs.lemmas.List.Elements.{All-from_get_or, recursion_from_All}
use Rattle.program_reader.proofs.laws.see_bytes.Goals as goal

pub returns : goal.returns
returns c =
    recursion_from_All (λ (byte : ℕ). byte < 2 ^ 8) c.args.bytes.now (All-from_get_or (λ (byte : ℕ). byte < 2 ^ 8) c.args.bytes.now 0 (λ i within. omega (arith, c.type_inv.bytes i)))
