use Rattle.std.proofs.Common.{refl}
use Rattle.rate_fit.specs.Fit.{IsWithinSlots}
use Rattle.rate_fit.proofs.Shorter.{shorter_table}
use Rattle.rate_fit.proofs.verdicts.verdict_of.Goals as goal

pub first_miss-requires-clause-valid : goal.first_miss-requires-clause-valid
first_miss-requires-clause-valid c =
    let table = c.args.table.now in
    let within : IsWithinSlots table = c.is_within_time.ensures.0 c.if-not-is_within_time.false in
    let (longer, most, valid) = c.requires.valid in
    shorter_table longer table c.requires.least most valid within

pub returns-in-Some : goal.returns-in-Some
returns-in-Some c =
    let within : IsWithinSlots c.args.table.now = c.is_within_time.ensures.0 c.if-not-is_within_time.false in
    (within, (c.args.choice.now, c.requires.smallest, (c.in-Some.ensures.missed c.in-Some.miss).0 refl))

pub returns-in-None : goal.returns-in-None
returns-in-None c =
    let within : IsWithinSlots c.args.table.now = c.is_within_time.ensures.0 c.if-not-is_within_time.false in
    (within, (c.args.choice.now, c.requires.smallest, c.in-None.ensures.scheduled.0 refl))
