use Rattle.std.proofs.Common.{◌≡◌, ℕ, ◌+◌, ◌-◌, List, ◌∷◌, ◌++◌, length, drop, replicate, ap₂, ◌∙◌, arith}
use Rattle.mux_writer.proofs.Sections.{stuffing-left}
use Rattle.mux_writer.proofs.prepared.payload_of.Goals as goal

pub returns : goal.returns
returns c =
    let size : 1 + c.len.result - 1 ≡ length c.args.section.now.items = omega (arith, c.len.ensures.value) in
    let rest : drop (1 + c.len.result - 1) (replicate 183 0xFF) ≡ replicate (183 - length c.args.section.now.items) 0xFF = stuffing-left _ _ size in
    ap₂ (λ (front behind : List ℕ). 0 ∷ front ++ behind) (c.copy_from_slice.ensures.after ∙ c.as_slice.ensures.value) rest
