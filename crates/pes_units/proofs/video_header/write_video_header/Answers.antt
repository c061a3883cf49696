use Rattle.std.proofs.Common.{arith}
use Rattle.std.proofs.lemmas.Grind.{common_steps}
use Rattle.pes_units.proofs.RoundTrip.{written-read}
use Rattle.pes_units.proofs.video_header.write_video_header.Goals as goal

pub returns-in-None-default-clause-header : goal.returns-in-None-default-clause-header
returns-in-None-default-clause-header c =
    written-read c.args.times.now c.requires.in_range c.requires.beside 9 c.args.into.now _ (grind (arith, common_steps)) (grind (arith, common_steps))

pub returns-in-Some-None-clause-header : goal.returns-in-Some-None-clause-header
returns-in-Some-None-clause-header c =
    written-read c.args.times.now c.requires.in_range c.requires.beside 14 c.args.into.now _ (grind (arith, common_steps)) (grind (arith, common_steps))

pub returns-in-Some-Some-clause-header : goal.returns-in-Some-Some-clause-header
returns-in-Some-Some-clause-header c =
    written-read c.args.times.now c.requires.in_range c.requires.beside 19 c.args.into.now _ (grind (arith, common_steps)) (grind (arith, common_steps))
