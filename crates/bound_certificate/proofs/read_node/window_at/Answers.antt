use Rattle.std.proofs.Common.{◌≡◌, ◌+◌, ◌++◌, ℕ, List, take, drop, ap, ◌∙◌, arith}
use Rattle.std.specs.Int.{w64, to_be_bytes}
use Rattle.bound_certificate.proofs.NodeParts.{two_parts}
use Rattle.bound_certificate.proofs.read_node.window_at.Goals as goal

pub returns-clause-bytes : goal.returns-clause-bytes
returns-clause-bytes c =
    let bytes : List ℕ = c.args.bytes.now in
    let place : ℕ = c.args.place in
    let third = c.number_at-3.ensures ∙ ap (λ (n : ℕ). take 8 (drop n bytes)) (let e : place + 16 ≡ place + 8 + 8 = omega arith in e) in
    let behind = two_parts (place + 8) 8 8 bytes (to_be_bytes w64 c.number_at-2.result) (to_be_bytes w64 c.number_at-3.result) c.number_at-2.ensures third in
    two_parts place 8 16 bytes (to_be_bytes w64 c.number_at.result) (to_be_bytes w64 c.number_at-2.result ++ to_be_bytes w64 c.number_at-3.result) c.number_at.ensures behind
