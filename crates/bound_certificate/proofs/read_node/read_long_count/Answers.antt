use Rattle.std.proofs.Common.{◌≤◌, ℕ, List, ◌∷◌, ◌++◌, slice_index, lit<, subst, ap, ◌∙◌}
use Rattle.std.proofs.lemmas.Result.{err_from_is_err_and}
use Rattle.bound_certificate.specs.Private.Texts.{IsByte, IsStop, last_most}
use Rattle.bound_certificate.proofs.Heads.{long_count_one, stop_byte}
use Rattle.bound_certificate.proofs.Numbers.{two_of}
use Rattle.bound_certificate.proofs.read_node.read_long_count.Goals as goal

pub returns-in_err-high-clause-stop : goal.returns-in_err-high-clause-stop
returns-in_err-high-clause-stop c =
    let p = err_from_is_err_and c.from_residual.result c.from_residual.ensures.1 in
    rw (p.1, p.2) (long_count_one c.args.cursor.now c.in_err-high.field-0.0 c.in_err-high.ensures.stop)

pub returns-in_err-low-clause-stop : goal.returns-in_err-low-clause-stop
returns-in_err-low-clause-stop c =
    let p = err_from_is_err_and c.from_residual-in_err-low.result c.from_residual-in_err-low.ensures.1 in
    let stop = c.in_err-low.field-0.0 in
    let one = c.in_ok-high in
    let refused = subst (λ (most : ℕ). IsStop (IsByte 0 most) c.byte.new.self stop) c.last_most-most.ensures c.in_err-low.ensures.stop in
    rw (p.1, p.2) (stop_byte 0 16 one.high (λ high. IsByte 0 (last_most (slice_index high 0))) c.args.cursor.now c.byte.new.self stop one.ensures.next one.ensures.least one.ensures.most (lit< tt)
    refused)

pub returns-clause-next : goal.returns-clause-next
returns-clause-next c =
    let one = c.in_ok-high in
    let two = c.in_ok-low in
    let most : two.low ≤ last_most one.high = subst (λ (m : ℕ). two.low ≤ m) c.last_most-most.ensures two.ensures.most in
    let found = two_of one.high two.low c.from.result one.ensures.most most (c.from.ensures ∙ c.from_be_bytes.ensures) in
    one.ensures.next ∙ ap (λ (xs : List ℕ). one.high ∷ xs) two.ensures.next ∙ ap (λ (xs : List ℕ). xs ++ c.byte-2.new.self) found.1

pub returns-clause-few : goal.returns-clause-few
returns-clause-few c =
    let one = c.in_ok-high in
    let two = c.in_ok-low in
    let most : two.low ≤ last_most one.high = subst (λ (m : ℕ). two.low ≤ m) c.last_most-most.ensures two.ensures.most in
    (two_of one.high two.low c.from.result one.ensures.most most (c.from.ensures ∙ c.from_be_bytes.ensures)).0
