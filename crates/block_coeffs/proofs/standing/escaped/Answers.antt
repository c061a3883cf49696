use Rattle.std.proofs.Common.{refl, ◌≡◌, rules, w16, SFits, to_z, of_z, inl, inr, ◌∙◌, arith}
use Rattle.std.proofs.lemmas.Int.{to_z-of_z}
use Rattle.block_coeffs.proofs.Symbols.{coefficients-is}
use Rattle.block_coeffs.proofs.Escapes.{past-found, end-found, forbidden-whole, pair-whole}
use Rattle.block_coeffs.proofs.ShortCodes.{as-word}
use Rattle.block_coeffs.proofs.standing.escaped.Goals as goal

pub returns-then-place-run : goal.returns-then-place-run
returns-then-place-run c = λ table len tests b. past-found (coefficients-is table tests) c.args.place c.args.window len b c.if-place-run.true

pub returns-then-window-lt-WINDOW_BITS : goal.returns-then-window-lt-WINDOW_BITS
returns-then-window-lt-WINDOW_BITS c = λ table len tests b.
    end-found (coefficients-is table tests) c.args.place c.args.window len b c.if-place-run.false c.if-window-lt-WINDOW_BITS.true

pub returns-then-level-eq-FORBIDDEN_LEVEL : goal.returns-then-level-eq-FORBIDDEN_LEVEL
returns-then-level-eq-FORBIDDEN_LEVEL c = λ table len tests b.
    let full : c.args.window.known ≡ 24 = (let within = c.args.window.within in omega arith) in
    forbidden-whole (coefficients-is table tests) c.args.place c.args.window len b full c.if-place-run.false
    (elim c.if-level-eq-FORBIDDEN_LEVEL.either [ inl zero_is ↦ inl zero_is | inr (not_zero, least_is) ↦ inr least_is ])

pub returns-else-level-eq-FORBIDDEN_LEVEL : goal.returns-else-level-eq-FORBIDDEN_LEVEL
returns-else-level-eq-FORBIDDEN_LEVEL c = λ table len tests b.
    let full : c.args.window.known ≡ 24 = (let within = c.args.window.within in omega arith) in
    let level = c.in_twos_complement.result in
    let fits : SFits w16 level = search rules in
    let level_is = to_z-of_z w16 level fits ∙ c.in_twos_complement.ensures in
    let found = pair-whole (coefficients-is table tests) c.args.place c.args.window len b full
    (to_z w16 (of_z w16 level)) c.if-place-run.false c.if-level-eq-FORBIDDEN_LEVEL.false.0 c.if-level-eq-FORBIDDEN_LEVEL.false.1 level_is in
    let word = as-word table c.args.place c.args.window _ 24 c.word_of.result (to_z w16 (of_z w16 level)) found c.word_of.ensures.run c.word_of.ensures.len c.word_of.ensures.level _ refl in
    (word.0, word.1)
