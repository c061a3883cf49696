use Rattle.std.proofs.Common.{ℕ, List, ◌∷◌, [], ◌++◌, ap, ◌∙◌, append_assoc}
use Rattle.std.specs.Int.{w32, w64, to_be_bytes}
use Rattle.bound_certificate.proofs.write.push_buffer_window.Goals as goal

pub returns : goal.returns
returns c =
    let first : List ℕ = to_be_bytes w32 c.args.window.first in
    let due : List ℕ = to_be_bytes w64 c.args.window.due in
    let programs : List ℕ = c.args.window.programs ∷ [] in
    let tail : List ℕ = to_be_bytes w32 c.args.window.tail in
    let lambda : List ℕ = to_be_bytes w64 c.args.window.lambda in
    let out : List ℕ = c.args.out.now.items in
    c.in_ok-push_number-2.ensures
    ∙ ap (λ (xs : List ℕ). xs ++ lambda) (c.in_ok-push_short_number-2.ensures ∙ ap (λ (xs : List ℕ). xs ++ tail) (c.in_ok-push.ensures.items
    ∙ ap (λ (xs : List ℕ). xs ++ programs) (c.in_ok-push_number.ensures ∙ ap (λ (xs : List ℕ). xs ++ due) c.in_ok-push_short_number.ensures)))
    ∙ append_assoc (((out ++ first) ++ due) ++ programs) tail lambda ∙ append_assoc ((out ++ first) ++ due) programs (tail ++ lambda)
    ∙ append_assoc (out ++ first) due (programs ++ (tail ++ lambda)) ∙ append_assoc out first (due ++ (programs ++ (tail ++ lambda)))
