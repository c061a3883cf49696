use Rattle.std.proofs.Common.{rules, ◌+◌, ◌<◌, ap, arith}
use Rattle.block_coeffs.specs.Private.ShortCodes.{run_of}
use Rattle.block_coeffs.proofs.ShortCodes.{pair-next, end-next}
use Rattle.block_coeffs.proofs.reading.stands_next.Goals as goal

pub returns-then-next-clause-found : goal.returns-then-next-clause-found
returns-then-next-clause-found g c =
    let word = c.short_word-word.result in
    let within : c.args.index + run_of word < 64 = omega (arith, c.if-next.true, c.run_in.ensures.place) in
    pair-next c.args.table c.args.index _ _ c.held_front.result word (search rules) c.held_front.ensures.below c.held_front.ensures.value c.short_word-word.ensures (omega arith) (omega arith)
    (c.args.index + c.run_in.result + 1) (ap (λ r. c.args.index + r + 1) c.run_in.ensures.place) within

pub returns-then-word-gt0-clause-found : goal.returns-then-word-gt0-clause-found
returns-then-word-gt0-clause-found g c =
    end-next c.args.table c.args.index _ _ c.held_front.result c.short_word-word.result (search rules) c.held_front.ensures.below c.held_front.ensures.value c.short_word-word.ensures
    (omega arith) (omega arith) c.length_in.result c.length_in.ensures
