use Rattle.std.proofs.Common.{rules, ◌≡◌, true, false, List, length, refl, ap, arith}
use Rattle.program_reader.specs.declared.program.UnitSource.{UnitSource}
use Rattle.job_programs.proofs.NearLemmas.{asked-of, kept-told, kept-without, told-many}
use Rattle.job_programs.proofs.distortions.keeps_distortions.Goals as goal

pub is_near-requires-clause-many : goal.is_near-requires-clause-many
is_near-requires-clause-many c =
    told-many c.requires.sizes.0 c.args.wanted.now.coarser.now c.args.sizes.now c.args.sizes.now c.args.units.now c.requires.sizes.1.are_sizes c.requires.sizes.1.units_are refl

pub returns-then-not-can_reach_limits : goal.returns-then-not-can_reach_limits
returns-then-not-can_reach_limits c = λ program is.
    let w = c.args.wanted.now in
    let fails : c.can_reach_limits.result ≡ false = search rules in
    let none = c.can_reach_limits.ensures.no fails in
    let units = ap (λ (us : List UnitSource). length us) is.units_are in
    kept-without w.weight w.drift w.coarser.now program none.0 (omega (arith, units, none.1))

pub returns : goal.returns
returns c = λ program is.
    let w = c.args.wanted.now in
    let reaches : c.can_reach_limits.result ≡ true = search rules in
    let asked = asked-of w.drift (length c.args.units.now) program c.args.units.now refl is.units_are (c.can_reach_limits.ensures.yes reaches) in
    kept-told c.is_near.result w.weight w.drift w.coarser.now program c.args.sizes.now c.args.units.now c.args.sizes.now asked is.are_sizes is.units_are refl c.is_near.ensures
