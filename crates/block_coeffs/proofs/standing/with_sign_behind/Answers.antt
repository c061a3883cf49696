use Rattle.std.proofs.Common.{refl, ◌+◌, rules, w16, SFits, to_z, of_z, ◌∙◌, arith}
use Rattle.std.proofs.lemmas.Int.{to_z-of_z}
use Rattle.block_coeffs.proofs.Symbols.{coefficients-is}
use Rattle.block_coeffs.proofs.Pairs.{past-found, pair-found}
use Rattle.block_coeffs.proofs.ShortCodes.{as-word}
use Rattle.block_coeffs.proofs.standing.with_sign_behind.Goals as goal

pub returns-then-place-run : goal.returns-then-place-run
returns-then-place-run c = λ table tests no_end no_escape b.
    past-found (coefficients-is table tests) c.args.place c.args.window c.args.window.within c.args.symbol c.args.len c.from-run.result no_end no_escape b c.from-run.ensures c.if-place-run.true

pub returns : goal.returns
returns c = λ table tests no_end no_escape b.
    let level = c.with_sign-level.result in
    let fits : SFits w16 level = search rules in
    let found = pair-found (coefficients-is table tests) c.args.place c.args.window c.args.window.within c.args.symbol c.args.len c.from-run.result no_end no_escape b c.from-run.ensures
    c.bit_at.result (to_z w16 (of_z w16 level)) c.if-place-run.false (λ same. omega arith) (to_z-of_z w16 level fits ∙ c.with_sign-level.ensures) c.bit_at.ensures in
    let word = as-word table c.args.place c.args.window c.from-run.result (c.args.len + 1) c.word_of.result (to_z w16 (of_z w16 level)) found c.word_of.ensures.run c.word_of.ensures.len c.word_of.ensures.level _ refl in
    (word.0, word.1)
