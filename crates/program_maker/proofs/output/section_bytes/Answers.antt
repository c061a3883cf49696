use Rattle.std.proofs.Common.{◌∷◌, ◌++◌, ℕ, List, length, ap₂}
use Rattle.program_maker.proofs.Counting.{behind-section}
use Rattle.program_maker.proofs.output.section_bytes.Goals as goal

pub returns : goal.returns
returns c = ap₂ (λ (a b : List ℕ). 0 ∷ (a ++ b)) c.copy_from_slice.ensures.after (behind-section (length c.args.section.now) c.requires)
