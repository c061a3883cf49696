use Rattle.std.proofs.Common.{rules, ◌+◌, ◌∙◌, ap, drop, pos, negsuc, inl, inr, refl, arith}
use Rattle.std.specs.Option.{option_map}
use Rattle.bit_cursor.specs.BitReader.{KeepsSource}
use Rattle.macroblock_reader.proofs.Vectors.{dmvector-end, dmvector-read, zero-code, one-code, minus-code}
use Rattle.macroblock_reader.proofs.motion.read_dmvector.Goals as goal

pub returns-then-known-eq0 : goal.returns-then-known-eq0
returns-then-known-eq0 g c =
    let e = c.in_ok-bits.ensures in
    dmvector-end c.in_ok-bits.bits c.in_ok-bits.known c.args.from.now e.window e.below e.unknown c.place-at.result c.peek.new.self c.place-at.ensures (inl c.if-known-eq0.true) e.left e.place e.keeps

pub returns-then-known-eq1 : goal.returns-then-known-eq1
returns-then-known-eq1 g c =
    let e = c.in_ok-bits.ensures in
    dmvector-end c.in_ok-bits.bits c.in_ok-bits.known c.args.from.now e.window e.below e.unknown c.place-at.result c.peek.new.self c.place-at.ensures
    (inr (c.if-known-eq1.true, c.if-bits-lt2.false)) e.left e.place e.keeps

pub returns-then-bits-lt2 : goal.returns-then-bits-lt2
returns-then-bits-lt2 g c =
    let e = c.in_ok-bits.ensures in
    let peeked = e.keeps in
    let some = c.if-known-eq0.false in
    let keeps : KeepsSource c.args.from.now c.skip.new.self = search rules in
    dmvector-read c.in_ok-bits.bits c.in_ok-bits.known c.args.from.now e.window e.below e.unknown (pos 0) 1 c.skip.new.self (omega arith) refl (omega arith) e.known
    (zero-code c.in_ok-bits.bits c.in_ok-bits.known c.args.from.now e.window e.below e.unknown c.if-bits-lt2.true)
    (c.skip.ensures.left ∙ ap (λ told. option_map (drop 1) told) e.left) (c.skip.ensures.place ∙ ap (λ n. n + 1) e.place) keeps

pub returns-then-bits-eq2 : goal.returns-then-bits-eq2
returns-then-bits-eq2 g c =
    let e = c.in_ok-bits.ensures in
    let peeked = e.keeps in
    let some = c.if-known-eq0.false in
    let more = c.if-known-eq1.false in
    let keeps : KeepsSource c.args.from.now c.skip-2.new.self = search rules in
    dmvector-read c.in_ok-bits.bits c.in_ok-bits.known c.args.from.now e.window e.below e.unknown (pos 1) 2 c.skip-2.new.self (omega arith) refl (omega arith) e.known
    (one-code c.in_ok-bits.bits c.in_ok-bits.known c.args.from.now e.window e.below e.unknown c.if-bits-eq2.true)
    (c.skip-2.ensures.left ∙ ap (λ told. option_map (drop 2) told) e.left) (c.skip-2.ensures.place ∙ ap (λ n. n + 2) e.place) keeps

pub returns-else-bits-eq2 : goal.returns-else-bits-eq2
returns-else-bits-eq2 g c =
    let e = c.in_ok-bits.ensures in
    let peeked = e.keeps in
    let some = c.if-known-eq0.false in
    let more = c.if-known-eq1.false in
    let below = e.below in
    let least = c.if-bits-lt2.false in
    let other = c.if-bits-eq2.false in
    let keeps : KeepsSource c.args.from.now c.skip-2.new.self = search rules in
    dmvector-read c.in_ok-bits.bits c.in_ok-bits.known c.args.from.now e.window e.below e.unknown (negsuc 0) 2 c.skip-2.new.self (omega arith) refl (omega arith) e.known
    (minus-code c.in_ok-bits.bits c.in_ok-bits.known c.args.from.now e.window e.below e.unknown (omega arith))
    (c.skip-2.ensures.left ∙ ap (λ told. option_map (drop 2) told) e.left) (c.skip-2.ensures.place ∙ ap (λ n. n + 2) e.place) keeps
