use Rattle.std.proofs.Common.{◌≡◌, ◌+◌, ◌++◌, List, ℕ, length, get_or, subst, sym, ap₂, ◌∙◌, arith}
use Rattle.std.proofs.lemmas.List.{take-append-drop}
use Rattle.bit_lists.proofs.MaskLemmas.{and_15}
use Rattle.psi_tables.specs.Streams.{ES_info_length}
use Rattle.psi_tables.proofs.StreamRows.{info_fits, is_info}
use Rattle.psi_tables.proofs.streams.split_info.Goals as goal

pub returns-then-bytes-size : goal.returns-then-bytes-size
returns-then-bytes-size c = λ front behind same is.
    omega (arith, info_fits c.args.bytes.now front behind same is, and_15 (get_or c.args.bytes.now 3 0), c.type_inv.bytes 4)

pub returns : goal.returns
returns c =
    let size : ℕ = 5 + c.from_be_bytes.result in
    let is = is_info c.args.bytes.now size (omega (arith, and_15 (get_or c.args.bytes.now 3 0), c.type_inv.bytes 4)) (omega arith) in (
      subst (λ (front : List ℕ). length front ≡ 5 + ES_info_length front) (sym c.split_at.ensures.front) is,
      sym (ap₂ (λ (front back : List ℕ). front ++ back) c.split_at.ensures.front c.split_at.ensures.back ∙ take-append-drop size c.args.bytes.now),
    )
