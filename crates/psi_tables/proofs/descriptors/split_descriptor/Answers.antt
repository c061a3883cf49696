use Rattle.std.proofs.Common.{◌+◌, ◌++◌, List, ℕ, get_or, subst, sym, ap₂, ◌∙◌, arith}
use Rattle.std.proofs.lemmas.List.{take-append-drop}
use Rattle.psi_tables.specs.Descriptors.{IsDescriptor}
use Rattle.psi_tables.proofs.DescriptorRows.{descriptor_fits, is_descriptor}
use Rattle.psi_tables.proofs.descriptors.split_descriptor.Goals as goal

pub returns-then-bytes-size : goal.returns-then-bytes-size
returns-then-bytes-size c = λ front behind same is. omega (arith, descriptor_fits c.args.bytes.now front behind same is, c.type_inv.bytes 1)

pub returns : goal.returns
returns c =
    let size = 2 + get_or c.args.bytes.now 1 0 in
    let is = is_descriptor c.args.bytes.now size (omega (arith, c.type_inv.bytes 1)) (omega arith) in (
      subst (λ (front : List ℕ). IsDescriptor front front) (sym c.split_at.ensures.front) is,
      sym (ap₂ (λ (front back : List ℕ). front ++ back) c.split_at.ensures.front c.split_at.ensures.back ∙ take-append-drop size c.args.bytes.now),
    )
