use Rattle.std.proofs.Common.{◌+◌, refl}
use Rattle.es_units.proofs.Codes.{code_stands}
use Rattle.picture_heads.proofs.Bytes.{bytes-are}
use Rattle.picture_heads.proofs.WalkSteps.{IsFirstAt, walk-none, walk-here, walk-on}
use Rattle.picture_heads.proofs.place.behind_picture_code.Goals as goal

pub returns-then-value-eq-PICTURE : goal.returns-then-value-eq-PICTURE
returns-then-value-eq-PICTURE c = λ n following rest leads whole enough.
    let head = c.args.head.now in
    let (k, l) = c.loop-code.invariant.leads n following rest leads whole enough in
    let (stands, value) = code_stands head c.in-Some.code.at c.in-Some.code.value c.in-Some.ensures.found.2 in
    let first : IsFirstAt head c.loop-code.at c.in-Some.code.at c.in-Some.code.value = record { begun = c.in-Some.ensures.found.0; is_code = stands; said = value; none = c.in-Some.ensures.first } in
    let (within, size) = walk-here head following (bytes-are head c.type_inv.head) whole k c.loop-code.at c.in-Some.code.at _ rest
    c.loop-code.invariant.within enough l first c.if-value-eq-PICTURE.true in
    (c.in-Some.code.at + 4, refl, within, size)

pub loop-code-preserved : goal.loop-code-preserved
loop-code-preserved c = record {
  within = c.behind_code-at.ensures.within;
  leads = λ n following rest leads whole enough.
      let head = c.args.head.now in
      let (k, l) = c.loop-code.invariant.leads n following rest leads whole enough in
      let (stands, value) = code_stands head c.in-Some.code.at c.in-Some.code.value c.in-Some.ensures.found.2 in
      let first : IsFirstAt head c.loop-code.at c.in-Some.code.at c.in-Some.code.value = record { begun = c.in-Some.ensures.found.0; is_code = stands; said = value; none = c.in-Some.ensures.first } in
      walk-on head following (bytes-are head c.type_inv.head) whole k c.loop-code.at c.in-Some.code.at _ c.behind_code-at.result rest c.loop-code.invariant.within enough l first
      c.if-value-eq-PICTURE.false c.behind_code-at.ensures.group c.behind_code-at.ensures.other;
}

pub returns : goal.returns
returns c = λ n following rest leads whole enough.
    let head = c.args.head.now in
    let (k, l) = c.loop-code.invariant.leads n following rest leads whole enough in
    absurd (walk-none head following (bytes-are head c.type_inv.head) whole k c.loop-code.at rest c.loop-code.invariant.within enough l c.in_default.ensures.first)
