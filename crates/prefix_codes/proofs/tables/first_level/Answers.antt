-- The words of each table, by its definition.
use Rattle.std.proofs.Common.{refl}
use Rattle.prefix_codes.specs.Private.Levels.{first_of}
use Rattle.prefix_codes.proofs.tables.first_level.Goals as goal

pub returns-in-Address : goal.returns-in-Address
unfolding first_of
returns-in-Address c = rw c.in-Address.is refl

pub returns-in-TypeI : goal.returns-in-TypeI
unfolding first_of
returns-in-TypeI c = rw c.in-TypeI.is refl

pub returns-in-TypeP : goal.returns-in-TypeP
unfolding first_of
returns-in-TypeP c = rw c.in-TypeP.is refl

pub returns-in-TypeB : goal.returns-in-TypeB
unfolding first_of
returns-in-TypeB c = rw c.in-TypeB.is refl

pub returns-in-Pattern : goal.returns-in-Pattern
unfolding first_of
returns-in-Pattern c = rw c.in-Pattern.is refl

pub returns-in-Motion : goal.returns-in-Motion
unfolding first_of
returns-in-Motion c = rw c.in-Motion.is refl

pub returns-in-DcLuma : goal.returns-in-DcLuma
unfolding first_of
returns-in-DcLuma c = rw c.in-DcLuma.is refl

pub returns-in-DcChroma : goal.returns-in-DcChroma
unfolding first_of
returns-in-DcChroma c = rw c.in-DcChroma.is refl

pub returns-in-CoeffZero : goal.returns-in-CoeffZero
unfolding first_of
returns-in-CoeffZero c = rw c.in-CoeffZero.is refl

pub returns-in-CoeffFirst : goal.returns-in-CoeffFirst
unfolding first_of
returns-in-CoeffFirst c = rw c.in-CoeffFirst.is refl

pub returns-in-CoeffOne : goal.returns-in-CoeffOne
unfolding first_of
returns-in-CoeffOne c = rw c.in-CoeffOne.is refl
