use Rattle.std.proofs.Common.{◌≡◌, ◌+◌, ◌*◌, ◌%◌, ◌^◌, ℕ, ◌++◌, ap, ap₂, ◌∙◌}
use Rattle.std.proofs.Math.Facts.{Fits-of_lt}
use Rattle.bit_lists.specs.Bits.{bits_of}
use Rattle.bit_cursor.proofs.WordBits.{shifted, x_bits, x_IsWord, front_below, front_and_rest}
use Rattle.bit_lists.proofs.ByteLemmas.{AreBytes-to_be_bytes}
use Rattle.bit_cursor.proofs.waiting_bits.WaitingBits.push.Goals as goal

pub invariant_of-self : goal.invariant_of-self
invariant_of-self c =
    let put : c.self.inside.word * 2 ^ c.args.n % 18446744073709551616 + c.from.result
    ≡ c.self.inside.word * 2 ^ c.args.n + c.args.value = ap₂ (λ (a b : ℕ). a + b)
    (shifted c.self.inside.word c.self.inside.count c.args.n c.self.invariant c.requires.width) c.from.ensures in
    x_IsWord c.self.inside.word c.self.inside.count c.args.n c.args.value
    (c.self.inside.word * 2 ^ c.args.n % 18446744073709551616 + c.from.result) c.self.invariant c.requires.number c.requires.width put
    c.if-count-lt32.true

pub returns-then-count-lt32 : goal.returns-then-count-lt32
returns-then-count-lt32 c =
    let put : c.self.inside.word * 2 ^ c.args.n % 18446744073709551616 + c.from.result
    ≡ c.self.inside.word * 2 ^ c.args.n + c.args.value = ap₂ (λ (a b : ℕ). a + b)
    (shifted c.self.inside.word c.self.inside.count c.args.n c.self.invariant c.requires.width) c.from.ensures in
    x_bits c.self.inside.word c.self.inside.count c.args.n c.args.value
    (c.self.inside.word * 2 ^ c.args.n % 18446744073709551616 + c.from.result) c.self.invariant c.requires.number c.requires.width put
    ∙ ap (λ before. before ++ bits_of c.args.n c.args.value) c.self.view_is

pub overflow_cast-front-2 : goal.overflow_cast-front-2
overflow_cast-front-2 c =
    let put : c.self.inside.word * 2 ^ c.args.n % 18446744073709551616 + c.from.result
    ≡ c.self.inside.word * 2 ^ c.args.n + c.args.value = ap₂ (λ (a b : ℕ). a + b)
    (shifted c.self.inside.word c.self.inside.count c.args.n c.self.invariant c.requires.width) c.from.ensures in
    Fits-of_lt (front_below c.self.inside.word c.self.inside.count c.args.n c.args.value
    (c.self.inside.word * 2 ^ c.args.n % 18446744073709551616 + c.from.result) c.self.invariant c.requires.number c.requires.width put
    c.if-count-lt32.false)

pub returns : goal.returns
returns c =
    let put : c.self.inside.word * 2 ^ c.args.n % 18446744073709551616 + c.from.result
    ≡ c.self.inside.word * 2 ^ c.args.n + c.args.value = ap₂ (λ (a b : ℕ). a + b)
    (shifted c.self.inside.word c.self.inside.count c.args.n c.self.invariant c.requires.width) c.from.ensures in (
      rw c.to_be_bytes.ensures (AreBytes-to_be_bytes _),
      front_and_rest c.self.inside.word c.self.inside.count c.args.n c.args.value
          (c.self.inside.word * 2 ^ c.args.n % 18446744073709551616 + c.from.result) c.self.invariant c.requires.number c.requires.width put
          c.to_be_bytes.result c.to_be_bytes.ensures c.if-count-lt32.false
          ∙ ap (λ before. before ++ bits_of c.args.n c.args.value) c.self.view_is,
    )
