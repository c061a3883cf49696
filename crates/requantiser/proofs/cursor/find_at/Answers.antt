use Rattle.std.proofs.Common.{◌≡◌, ◌+◌, ◌<◌, ◌≤◌, List, ◌∷◌, sym, subst, arith}
use Rattle.syntax_types.specs.declared.macroblock.Macroblock.{Macroblock}
use Rattle.requantiser.specs.Private.Cursor.{StandsAt}
use Rattle.requantiser.proofs.CursorSteps.{place_bound, skipped_stands, skipped_value, found_stands, found_value, found_side}
use Rattle.requantiser.proofs.cursor.find_at.Goals as goal

pub unreachable-requires : goal.unreachable-requires
unreachable-requires c = absurd (omega (arith, (c.opened-cursor.ensures c.args.address c.requires.stands c.requires.within).1, c.in-None.ensures.cases))

pub overflow_add-at : goal.overflow_add-at
overflow_add-at c =
    let bound : c.opened-cursor.result.start + c.in-Some.macroblock.now.skipped_before + 1
    ≤ 524288 = place_bound _ _ _ _ _ _ _ (subst (λ (ms : List Macroblock). StandsAt c.args.picture.now c.args.address
    c.opened-cursor.result.code c.opened-cursor.result.start ms c.opened-cursor.result.slices.now) c.in-Some.ensures.cases.0
    (c.opened-cursor.ensures c.args.address c.requires.stands c.requires.within).0) in
    omega (arith, bound, c.from.ensures)

pub returns-then-address-at-clause-value : goal.returns-then-address-at-clause-value
returns-then-address-at-clause-value c =
    let below : c.args.address < c.opened-cursor.result.start + c.in-Some.macroblock.now.skipped_before = omega (arith, c.if-address-at.true, c.from.ensures) in
    skipped_value _ _ _ _ _ _ _ (subst (λ (ms : List Macroblock). StandsAt c.args.picture.now c.args.address c.opened-cursor.result.code
    c.opened-cursor.result.start ms c.opened-cursor.result.slices.now) c.in-Some.ensures.cases.0
    (c.opened-cursor.ensures c.args.address c.requires.stands c.requires.within).0) below

pub returns-then-address-at-clause-rest : goal.returns-then-address-at-clause-rest
returns-then-address-at-clause-rest c =
    let below : c.args.address < c.opened-cursor.result.start + c.in-Some.macroblock.now.skipped_before = omega (arith, c.if-address-at.true, c.from.ensures) in
    let split : c.opened-cursor.result.macroblocks.now ≡ c.in-Some.macroblock.now ∷ c.in-Some.macroblocks.now = c.in-Some.ensures.cases.0 in
    subst (λ (ms : List Macroblock). StandsAt c.args.picture.now (c.args.address + 1) c.opened-cursor.result.code c.opened-cursor.result.start ms c.opened-cursor.result.slices.now) (sym split)
    (skipped_stands _ _ _ _ _ _ _ (subst (λ (ms : List Macroblock). StandsAt c.args.picture.now c.args.address c.opened-cursor.result.code
    c.opened-cursor.result.start ms c.opened-cursor.result.slices.now) c.in-Some.ensures.cases.0
    (c.opened-cursor.ensures c.args.address c.requires.stands c.requires.within).0) below)

pub code_in_force-code-requires-clause-written : goal.code_in_force-code-requires-clause-written
code_in_force-code-requires-clause-written c = (subst (λ (ms : List Macroblock). StandsAt c.args.picture.now c.args.address
    c.opened-cursor.result.code c.opened-cursor.result.start ms c.opened-cursor.result.slices.now) c.in-Some.ensures.cases.0
    (c.opened-cursor.ensures c.args.address c.requires.stands c.requires.within).0).walkable.0.measured.code

pub code_in_force-code-requires-clause-before : goal.code_in_force-code-requires-clause-before
code_in_force-code-requires-clause-before c = (subst (λ (ms : List Macroblock). StandsAt c.args.picture.now c.args.address c.opened-cursor.result.code
    c.opened-cursor.result.start ms c.opened-cursor.result.slices.now) c.in-Some.ensures.cases.0
    (c.opened-cursor.ensures c.args.address c.requires.stands c.requires.within).0).code_is

pub returns-clause-value : goal.returns-clause-value
returns-clause-value c =
    let after : c.opened-cursor.result.start + c.in-Some.macroblock.now.skipped_before ≤ c.args.address = omega (arith, c.if-address-at.false, c.from.ensures) in
    found_value _ _ _ _ _ _ _ (subst (λ (ms : List Macroblock). StandsAt c.args.picture.now c.args.address c.opened-cursor.result.code
    c.opened-cursor.result.start ms c.opened-cursor.result.slices.now) c.in-Some.ensures.cases.0
    (c.opened-cursor.ensures c.args.address c.requires.stands c.requires.within).0) after c.code_in_force-code.result c.code_in_force-code.ensures.value

pub returns-clause-side : goal.returns-clause-side
returns-clause-side c =
    let after : c.opened-cursor.result.start + c.in-Some.macroblock.now.skipped_before ≤ c.args.address = omega (arith, c.if-address-at.false, c.from.ensures) in
    found_side _ _ _ _ _ _ _ (subst (λ (ms : List Macroblock). StandsAt c.args.picture.now c.args.address c.opened-cursor.result.code
    c.opened-cursor.result.start ms c.opened-cursor.result.slices.now) c.in-Some.ensures.cases.0
    (c.opened-cursor.ensures c.args.address c.requires.stands c.requires.within).0) after c.code_in_force-code.result c.code_in_force-code.ensures.value c.code_in_force-code.ensures.is_code

pub returns-clause-rest : goal.returns-clause-rest
returns-clause-rest c =
    let after : c.opened-cursor.result.start + c.in-Some.macroblock.now.skipped_before ≤ c.args.address = omega (arith, c.if-address-at.false, c.from.ensures) in
    subst (λ n. StandsAt c.args.picture.now (c.args.address + 1) c.code_in_force-code.result
    (c.opened-cursor.result.start + n + 1) c.in-Some.macroblocks.now c.opened-cursor.result.slices.now) (sym c.from.ensures)
    (found_stands _ _ _ _ _ _ _ (subst (λ (ms : List Macroblock). StandsAt c.args.picture.now c.args.address c.opened-cursor.result.code
    c.opened-cursor.result.start ms c.opened-cursor.result.slices.now) c.in-Some.ensures.cases.0
    (c.opened-cursor.ensures c.args.address c.requires.stands c.requires.within).0) after c.code_in_force-code.result c.code_in_force-code.ensures.value c.code_in_force-code.ensures.is_code)
