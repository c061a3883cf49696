use Rattle.std.proofs.Common.{◌≡◌, drop}
use Rattle.buffer_windows.proofs.OwnedCosts.{one_held}
use Rattle.buffer_windows.proofs.values.one_fits.Given as goal

-- none so far, so that it hangs on those still to come
abbrev pub invariant-loop-version : goal.invariant-loop-version
invariant-loop-version l = one_held l.vbv (drop l.version-index l.versions) ≡ one_held l.vbv l.versions
