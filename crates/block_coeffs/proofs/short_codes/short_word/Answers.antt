-- The word of each table, by its definition.
use Rattle.std.proofs.Common.{refl}
use Rattle.block_coeffs.specs.Private.ShortCodes.{words_of}
use Rattle.block_coeffs.proofs.short_codes.short_word.Goals as goal

pub returns-in-Address : goal.returns-in-Address
unfolding words_of
returns-in-Address c = rw c.in-Address.is refl

pub returns-in-TypeI : goal.returns-in-TypeI
unfolding words_of
returns-in-TypeI c = rw c.in-TypeI.is refl

pub returns-in-TypeP : goal.returns-in-TypeP
unfolding words_of
returns-in-TypeP c = rw c.in-TypeP.is refl

pub returns-in-TypeB : goal.returns-in-TypeB
unfolding words_of
returns-in-TypeB c = rw c.in-TypeB.is refl

pub returns-in-Pattern : goal.returns-in-Pattern
unfolding words_of
returns-in-Pattern c = rw c.in-Pattern.is refl

pub returns-in-Motion : goal.returns-in-Motion
unfolding words_of
returns-in-Motion c = rw c.in-Motion.is refl

pub returns-in-DcLuma : goal.returns-in-DcLuma
unfolding words_of
returns-in-DcLuma c = rw c.in-DcLuma.is refl

pub returns-in-DcChroma : goal.returns-in-DcChroma
unfolding words_of
returns-in-DcChroma c = rw c.in-DcChroma.is refl
