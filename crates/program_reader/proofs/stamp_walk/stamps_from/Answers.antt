use Rattle.std.proofs.Common.{List, length, refl, ap, arith}
use Rattle.std.proofs.lemmas.List.{nil_from_length}
use Rattle.program_reader.specs.declared.picture_times.StampedPicture.{StampedPicture}
use Rattle.program_reader.proofs.StampLemmas.{leaves_more, leaves_here, leaves_none}
use Rattle.program_reader.proofs.stamp_walk.stamps_from.Goals as goal

pub loop-first-init : goal.loop-first-init
loop-first-init c = record { same = λ place le. refl; rising = c.requires.rising; fewer = omega arith }

pub returns-then-first-at : goal.returns-then-first-at
returns-then-first-at c =
    leaves_here c.args.at c.args.stamps.now c.loop-first.left.now c.in-Some.behind.now c.in-Some.first.now c.in-Some.ensures.cases.0 c.if-first-at.true c.loop-first.invariant

pub loop-first-smaller : goal.loop-first-smaller
loop-first-smaller c = omega (arith, ap (λ (xs : List StampedPicture). length xs) c.in-Some.ensures.cases.0)

pub loop-first-preserved : goal.loop-first-preserved
loop-first-preserved c =
    leaves_more c.args.at c.args.stamps.now c.loop-first.left.now c.in-Some.behind.now c.in-Some.first.now c.in-Some.ensures.cases.0 c.if-first-at.false c.loop-first.invariant

pub returns : goal.returns
returns c = leaves_none c.args.at c.args.stamps.now c.loop-first.left.now (nil_from_length c.loop-first.left.now c.in_default.ensures.cases) c.loop-first.invariant
