use Rattle.std.proofs.Common.{ℕ, List, ◌++◌, ap, ◌∙◌, append_assoc}
use Rattle.std.specs.Int.{w64, to_be_bytes}
use Rattle.bound_certificate.proofs.write.push_window.Goals as goal

pub returns : goal.returns
returns c =
    let from : List ℕ = to_be_bytes w64 c.args.window.from in
    let due : List ℕ = to_be_bytes w64 c.args.window.due in
    let lambda : List ℕ = to_be_bytes w64 c.args.window.lambda in
    let out : List ℕ = c.args.out.now.items in
    c.in_ok-push_number-3.ensures
    ∙ ap (λ (xs : List ℕ). xs ++ lambda) (c.in_ok-push_number-2.ensures ∙ ap (λ (xs : List ℕ). xs ++ due) c.in_ok-push_number.ensures)
    ∙ append_assoc (out ++ from) due lambda ∙ append_assoc out from (due ++ lambda)
