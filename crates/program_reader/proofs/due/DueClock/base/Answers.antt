use Rattle.std.proofs.Common.{◌≡◌, ◌-ℤ◌, ◌≤ℤ◌, ◌<ℤ◌, ℤ, pos, neg_ℤ, refl, sym, subst, ap, ◌∙◌, arith, w64, to_z, of_z, ◌*◌, ◌^◌}
use Rattle.std.specs.Int.{int_rem_euclid}
use Rattle.std.proofs.lemmas.Int.{ints}
use lib.IntN.{nat_abs}
use Rattle.program_reader.specs.Programs.{IsBase}
use Rattle.program_reader.proofs.DueLemmas.{base_of, rest_bounds}
use Rattle.program_reader.proofs.due.DueClock.base.Goals as goal

pub returns : goal.returns
returns c =
    let start = c.args.self.now.start in
    let earliest = c.args.self.now.earliest in
    let rest = c.rem_euclid.result in
    let least : neg_ℤ (pos (9 * 10 ^ 18)) ≤ℤ earliest = c.requires.earliest.least in
    let most : earliest ≤ℤ pos (9 * 10 ^ 18) = c.requires.earliest.most in
    let same : to_z w64 (of_z w64 (to_z w64 (of_z w64 earliest) -ℤ to_z w64 start)) ≡ earliest -ℤ pos start = omega (arith, ints, c.requires.start) in
    let is : rest ≡ int_rem_euclid (earliest -ℤ pos start) (pos 2576980377600) = c.rem_euclid.ensures.value ∙ ap (λ (d : ℤ). int_rem_euclid d (pos 2576980377600)) same in
    let bounds = rest_bounds (earliest -ℤ pos start) rest is in
    let low : pos 0 ≤ℤ rest = bounds.0 in
    let high : rest <ℤ pos 2576980377600 = bounds.1 in
    let kept : to_z w64 (of_z w64 rest) ≡ rest = omega (arith, ints) in
    subst (λ (r : ℤ). IsBase start earliest (nat_abs r)) (sym kept) (base_of (earliest -ℤ pos start) earliest rest start is refl)
