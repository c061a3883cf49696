use Rattle.std.proofs.Common.{◌∷◌, [], ◌++◌, List, ℕ, Some, length, length-append, ap, sym, ◌∙◌, arith}
use Rattle.psi_tables.specs.Descriptors.{IsDescriptor}
use Rattle.psi_tables.proofs.Rows.{not_empty, empty, under_way_more, one_row}
use Rattle.psi_tables.proofs.DescriptorRows.{descriptors_told, next_descriptor}
use Rattle.psi_tables.proofs.descriptors.count_descriptors.Goals as goal

pub returns-in_err-after-clause-exact : goal.returns-in_err-after-clause-exact
returns-in_err-after-clause-exact c = λ descriptors row.
    let next = next_descriptor c.args.bytes.now c.loop-rest.rest.now c.loop-rest.invariant.0 descriptors c.loop-rest.invariant.1 row
    (not_empty c.is_empty.result (length c.loop-rest.rest.now) c.is_empty.ensures c.loop-rest-test.true) in
    absurd (c.in_err-after.ensures next.0 next.1 next.2 next.3)

pub loop-rest-preserved : goal.loop-rest-preserved
loop-rest-preserved c =
    let done : List (List ℕ) = c.loop-rest.invariant.0 in
    let front : List ℕ = c.in_ok-after.field-0-0.now in
    let is = c.in_ok-after.ensures in (
      done ++ front ∷ [],
      under_way_more IsDescriptor c.args.bytes.now c.loop-rest.rest.now done front front c.in_ok-after.after.now c.loop-rest.invariant.1 is.1 is.0,
      omega (arith, length-append done (front ∷ []), c.loop-rest.invariant.2),
      omega (arith, ap length is.1, length-append front c.in_ok-after.after.now, is.0.size, c.loop-rest.invariant.3),
    )

pub returns-clause-exact : goal.returns-clause-exact
returns-clause-exact c = λ descriptors row.
    let same = one_row IsDescriptor descriptors_told c.args.bytes.now c.loop-rest.rest.now c.loop-rest.invariant.0 descriptors c.loop-rest.invariant.1
    (empty c.is_empty.result (length c.loop-rest.rest.now) c.is_empty.ensures c.loop-rest-test.false) row in
    ap Some (c.loop-rest.invariant.2 ∙ ap length (sym same))
