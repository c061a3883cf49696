use Rattle.std.proofs.Common.{◌≡◌, ◌+◌, ◌-◌, ◌*◌, ◌/◌, ◌%◌, ◌^◌, ◌<◌, length, get_or, refl, sym, subst, ◌∙◌, arith}
use Rattle.std.proofs.lemmas.Nat.{one_shl, pow_pos}
use Rattle.bit_lists.specs.Bits.{bits_of}
use Rattle.prefix_codes.specs.Private.Levels.{second_of, Answers}
use Rattle.prefix_codes.proofs.LevelLemmas.{more_few, more_within, more_answers}
use Rattle.prefix_codes.proofs.lookup.linked.Goals as goal

pub overflow_sub-place-2 : goal.overflow_sub-place-2
overflow_sub-place-2 c =
    more_few c.args.table c.args.window c.args.link c.from-more.result _ c.requires.is c.requires.longer (c.from-more.ensures ∙ c.length.ensures) refl

pub overflow_shl-place : goal.overflow_shl-place
overflow_shl-place c =
    omega (arith, more_few c.args.table c.args.window c.args.link c.from-more.result _ c.requires.is c.requires.longer (c.from-more.ensures ∙ c.length.ensures) refl)

pub nonzero_rem-place : goal.nonzero_rem-place
nonzero_rem-place c =
    let few = more_few c.args.table c.args.window c.args.link c.from-more.result _ c.requires.is c.requires.longer (c.from-more.ensures ∙ c.length.ensures) refl in
    subst (λ x. 0 < x) (sym (one_shl c.from-more.result 32 (omega (arith, few)))) (pow_pos c.from-more.result)

pub bounds-second_levels-from : goal.bounds-second_levels-from
bounds-second_levels-from c =
    let more = c.from-more.result in
    let more_is = c.from-more.ensures ∙ c.length.ensures in
    let few = more_few c.args.table c.args.window c.args.link more _ c.requires.is c.requires.longer more_is refl in
    let within = more_within c.args.table c.args.window c.args.link more c.from.result c.requires.is c.requires.longer more_is (c.from.ensures ∙ c.number.ensures) in
    let size : 2 ^ more ≡ 1 * 2 ^ more % 2 ^ 32 = sym (one_shl more 32 (omega (arith, few))) in
    subst (λ xs. c.from.result + c.args.window / 2 ^ (16 - more) % (1 * 2 ^ more % 2 ^ 32) < length xs) (sym c.second_levels.ensures)
    (subst (λ x. c.from.result + c.args.window / 2 ^ (16 - more) % x < length (second_of c.args.table)) size within)

pub returns : goal.returns
returns c =
    let more = c.from-more.result in
    let more_is = c.from-more.ensures ∙ c.length.ensures in
    let few = more_few c.args.table c.args.window c.args.link more _ c.requires.is c.requires.longer more_is refl in
    let answers = more_answers c.args.table c.args.window c.args.link more c.from.result c.requires.is c.requires.longer more_is (c.from.ensures ∙ c.number.ensures) in
    let size : 2 ^ more ≡ 1 * 2 ^ more % 2 ^ 32 = sym (one_shl more 32 (omega (arith, few))) in
    subst (λ xs. Answers c.args.table (bits_of 24 c.args.window) (get_or xs (c.from.result + c.args.window / 2 ^ (16 - more) % (1 * 2 ^ more % 2 ^ 32)) 0)) (sym c.second_levels.ensures)
    (subst (λ x. Answers c.args.table (bits_of 24 c.args.window) (get_or (second_of c.args.table) (c.from.result + c.args.window / 2 ^ (16 - more) % x) 0)) size answers)
