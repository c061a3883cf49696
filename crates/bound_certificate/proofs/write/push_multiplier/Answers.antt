use Rattle.std.proofs.Common.{ℕ, List, ◌++◌, ap, ◌∙◌, append_assoc}
use Rattle.std.specs.Int.{w64, to_be_bytes}
use Rattle.bound_certificate.proofs.write.push_multiplier.Goals as goal

pub returns : goal.returns
returns c =
    let due : List ℕ = to_be_bytes w64 c.args.multiplier.due in
    let lambda : List ℕ = to_be_bytes w64 c.args.multiplier.lambda in
    c.in_ok-push_number-2.ensures ∙ ap (λ (xs : List ℕ). xs ++ lambda) c.in_ok-push_number.ensures ∙ append_assoc c.args.out.now.items due lambda
