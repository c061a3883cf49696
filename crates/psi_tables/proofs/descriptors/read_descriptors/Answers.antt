use Rattle.std.proofs.Common.{◌≡◌, ◌∷◌, ◌++◌, List, ℕ, Some, length, ap, ap₂, sym, refl, true, subst, ◌∙◌, arith}
use Rattle.std.proofs.lemmas.Bool.{false≢true}
use Rattle.psi_tables.specs.Section.{IsItemRow}
use Rattle.psi_tables.specs.Descriptors.{IsDescriptor, is_kept, kept_bytes, count_dropped}
use Rattle.psi_tables.proofs.Rows.{not_empty, empty, IsRow-first, under_way_rest, under_way_all, one_row}
use Rattle.psi_tables.proofs.DescriptorRows.{descriptors_told, next_descriptor, kept_at_least, read_kept, read_dropped}
use Rattle.psi_tables.proofs.descriptors.read_descriptors.Goals as goal

pub returns-in_err-descriptor-clause-exact : goal.returns-in_err-descriptor-clause-exact
returns-in_err-descriptor-clause-exact c = λ descriptors row room.
    let read = c.loop-rest.invariant in
    let next = next_descriptor c.args.bytes.now c.loop-rest.rest.now read.done descriptors read.under_way row
    (not_empty c.is_empty.result (length c.loop-rest.rest.now) c.is_empty.ensures c.loop-rest-test.true) in
    absurd (c.in_err-descriptor.ensures next.0 next.1 next.2 next.3)

pub returns-in_default-clause-exact : goal.returns-in_default-clause-exact
returns-in_default-clause-exact c = λ descriptors row room.
    let read = c.loop-rest.invariant in
    let front : List ℕ = c.in_ok-descriptor.descriptor.now in
    let keeps : is_kept front ≡ true = sym c.keeps.ensures ∙ c.if-keeps.true in
    let is = c.in_ok-descriptor.ensures in
    let behind = under_way_rest IsDescriptor descriptors_told c.args.bytes.now c.loop-rest.rest.now read.done descriptors read.under_way row in
    let next = IsRow-first IsDescriptor descriptors_told front behind.0 front c.in_ok-descriptor.after.now is.0 (subst (IsItemRow IsDescriptor behind.0) is.1 behind.2) in
    let whole : descriptors ≡ read.done ++ front ∷ next.0 = behind.1 ∙ ap (λ (ys : List (List ℕ)). read.done ++ ys) next.1 in
    absurd (false≢true (c.in_default.ensures.variant.1 (omega (
      arith,
      room,
      ap (λ (xs : List (List ℕ)). length (kept_bytes xs)) whole,
      kept_at_least read.done front next.0 keeps,
      ap length read.kept_is,
    ))))

pub loop-rest-preserved-in-Ok : goal.loop-rest-preserved-in-Ok
loop-rest-preserved-in-Ok c =
    let front : List ℕ = c.in_ok-descriptor.descriptor.now in
    let is = c.in_ok-descriptor.ensures in
    read_kept c.args.bytes.now c.loop-rest.rest.now c.loop-rest.kept.items c.try_extend_from_slice.new.self.items c.loop-rest.dropped front
    c.in_ok-descriptor.after.now c.loop-rest.invariant is.1 is.0 (sym c.keeps.ensures ∙ c.if-keeps.true) c.in-Ok.ensures.ok
    (omega (arith, c.in-Ok.ensures.variant.0 refl))

pub loop-rest-preserved : goal.loop-rest-preserved
loop-rest-preserved c =
    let front : List ℕ = c.in_ok-descriptor.descriptor.now in
    let is = c.in_ok-descriptor.ensures in
    read_dropped c.args.bytes.now c.loop-rest.rest.now c.loop-rest.kept.items c.loop-rest.dropped front c.in_ok-descriptor.after.now
    c.loop-rest.invariant is.1 is.0 (sym c.keeps.ensures ∙ c.if-keeps.false)

pub returns-clause-exact : goal.returns-clause-exact
returns-clause-exact c = λ descriptors row room.
    let read = c.loop-rest.invariant in
    let same = one_row IsDescriptor descriptors_told c.args.bytes.now c.loop-rest.rest.now read.done descriptors read.under_way
    (empty c.is_empty.result (length c.loop-rest.rest.now) c.is_empty.ensures c.loop-rest-test.false) row in
    ap₂ (λ (xs : List ℕ) (n : ℕ). Some (record { items = xs }, n)) (read.kept_is ∙ ap kept_bytes (sym same)) (read.dropped_is ∙ ap count_dropped (sym same))

pub returns-clause-some : goal.returns-clause-some
returns-clause-some c = λ some.
    let read = c.loop-rest.invariant in (
      read.done,
      under_way_all IsDescriptor c.args.bytes.now c.loop-rest.rest.now read.done read.under_way
          (empty c.is_empty.result (length c.loop-rest.rest.now) c.is_empty.ensures c.loop-rest-test.false),
      omega (arith, read.room, ap length read.kept_is),
    )
