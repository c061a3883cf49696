use Rattle.std.proofs.Common.{ℕ, ◌<◌, get_or}
use Rattle.certificate_checker.specs.Shown.{versions_of}
use Rattle.certificate_checker.proofs.checker.fits.Given as goal

-- the units before this one have the versions that the choice has for them
abbrev pub invariant-loop-unit : goal.invariant-loop-unit
invariant-loop-unit l = (u : ℕ) → u < l.unit → get_or l.fn.choice u 0 < versions_of l.table u
