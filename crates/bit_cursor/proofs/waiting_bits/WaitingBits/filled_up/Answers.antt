use Rattle.std.proofs.Common.{◌≡◌, ◌-◌, ◌*◌, ◌%◌, ◌^◌, ◌<◌, ◌≤◌, ℕ, List, ◌++◌, length, replicate, ap, ap₂, sym, rules, ◌∙◌, arith}
use Rattle.bit_lists.specs.Bits.{bits_of}
use Rattle.bit_lists.specs.Fields.{bit_list}
use Rattle.bit_lists.proofs.BitLemmas.{length-bits_of}
use Rattle.bit_lists.proofs.ByteLemmas.{bit_list-to_be_bytes}
use Rattle.bit_cursor.proofs.WordBits.{shifted, filled, filled_below}
use Rattle.bit_cursor.proofs.waiting_bits.WaitingBits.filled_up.Goals as goal

pub overflow_cast-self-inside-2 : goal.overflow_cast-self-inside-2
overflow_cast-self-inside-2 c =
    let width : 32 - c.self.inside.count ≤ 32 = omega arith in
    let same : c.self.inside.word * 2 ^ (32 - c.self.inside.count) % 18446744073709551616
    ≡ c.self.inside.word * 2 ^ (32 - c.self.inside.count) = shifted c.self.inside.word c.self.inside.count
    (32 - c.self.inside.count) c.self.invariant width in
    let small : c.self.inside.word * 2 ^ (32 - c.self.inside.count) < 2 ^ 32 = filled_below c.self.inside.word c.self.inside.count c.self.invariant in
    search rules

pub returns-clause-bits : goal.returns-clause-bits
returns-clause-bits c =
    let width : 32 - c.self.inside.count ≤ 32 = omega arith in
    let count : c.self.inside.count ≡ length c.args.self.now = sym (length-bits_of c.self.inside.count c.self.inside.word) ∙ ap (length {A = ℕ}) c.self.view_is in
    ap bit_list c.to_be_bytes.ensures
    ∙ bit_list-to_be_bytes _
    ∙ ap (bits_of 32) (shifted c.self.inside.word c.self.inside.count (32 - c.self.inside.count) c.self.invariant width)
    ∙ filled c.self.inside.word c.self.inside.count c.self.invariant
    ∙ ap₂ (λ (front : List ℕ) (k : ℕ). front ++ replicate (32 - k) 0) c.self.view_is count
