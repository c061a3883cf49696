use Rattle.std.proofs.Common.{◌≡◌, ◌<◌, ◌+◌, ◌*◌, ◌∙◌, ℕ, length, rules, ap, arith}
use Rattle.requantiser.specs.Private.Lengths.{length_by}
use Rattle.requantiser.proofs.Counted.{one_more_length}
use Rattle.requantiser.proofs.lengths.Lengths.keep.Goals as goal

pub invariant_of-self : goal.invariant_of-self
invariant_of-self c =
    let place : ℕ = 1024 * c.args.number + 64 * c.from.result + c.args.run in
    let at : 1024 * c.args.number + 64 * c.from.result + c.args.run ≡ 1024 * c.args.number + 64 * c.args.size + c.args.run = omega (arith, c.from.ensures) in
    let within : 1024 * c.args.number + 64 * c.from.result + c.args.run < length c.args.self.now.bits =
    first_of (omega (arith, at, c.requires.number, c.requires.run, c.requires.size), search rules) in
    record {
      right = one_more_length c.args.self.now.bits c.args.number c.args.run c.args.size c.coefficient_bits-bits.result (1024 * c.args.number + 64 * c.from.result + c.args.run) at within
          c.requires.run c.requires.size (c.coefficient_bits-bits.ensures.value ∙ ap (λ table. length_by table c.args.run c.args.size) c.numbered.ensures.table)
          c.coefficient_bits-bits.ensures.few c.requires.some c.args.self.now.right;
    }
