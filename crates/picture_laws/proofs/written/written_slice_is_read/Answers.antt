use Rattle.std.proofs.Common.{ℕ, ◌++◌, subst}
use Rattle.picture_grammar.specs.Slice.{slice}
use Rattle.picture_grammar.specs.Written.{written_slice}
use Rattle.picture_laws.proofs.WrittenSlice.{slice-written, macroblocks-of_slice}
use Rattle.picture_laws.proofs.written.written_slice_is_read.Goals as goal

pub returns : goal.returns
returns c = λ seq coding row s bits rest following spelled closes.
    let has = macroblocks-of_slice seq coding row s bits rest spelled in
    subst (λ (r : ℕ). (slice seq coding r).Spells s (written_slice coding s ++ following) following) has.0 (slice-written seq coding s following has.1 closes)
