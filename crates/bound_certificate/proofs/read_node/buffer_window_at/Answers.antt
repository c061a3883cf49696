use Rattle.std.proofs.Common.{◌≡◌, ◌+◌, ◌++◌, ◌∷◌, [], ℕ, List, get_or, take, drop, ap, ◌∙◌, arith}
use Rattle.std.specs.Int.{w32, w64, to_be_bytes}
use Rattle.bound_certificate.proofs.NodeParts.{one_byte, two_parts}
use Rattle.bound_certificate.proofs.read_node.buffer_window_at.Goals as goal

pub returns-clause-bytes : goal.returns-clause-bytes
returns-clause-bytes c =
    let bytes : List ℕ = c.args.bytes.now in
    let place : ℕ = c.args.place in
    let lambda : List ℕ = to_be_bytes w64 c.number_at-2.result in
    let tail : List ℕ = to_be_bytes w32 c.short_number_at-2.result in
    let programs : List ℕ = get_or bytes (place + 12) 0 ∷ [] in
    let due : List ℕ = to_be_bytes w64 c.number_at.result in
    let at = λ (size n m : ℕ) (e : n ≡ m). ap (λ (k : ℕ). take size (drop k bytes)) e in
    let last = two_parts (place + 13) 4 8 bytes tail lambda c.short_number_at-2.ensures (c.number_at-2.ensures ∙ at 8 (place + 17) (place + 13 + 4) (omega arith)) in
    let from_programs = two_parts (place + 12) 1 12 bytes programs (tail ++ lambda) (one_byte (place + 12) bytes (omega (arith, c.requires)))
    (last ∙ at 12 (place + 13) (place + 12 + 1) (omega arith)) in
    let from_due = two_parts (place + 4) 8 13 bytes due (programs ++ (tail ++ lambda)) c.number_at.ensures (from_programs ∙ at 13 (place + 12) (place + 4 + 8) (omega arith)) in
    two_parts place 4 21 bytes (to_be_bytes w32 c.short_number_at.result) (due ++ (programs ++ (tail ++ lambda))) c.short_number_at.ensures from_due
