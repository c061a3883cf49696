use Rattle.std.proofs.Common.{◌≡◌, ℕ, ◌+◌, ◌<◌, ◌∷◌, length, get_or, None, refl, sym, ap, subst, ◌∙◌, arith}
use Rattle.std.proofs.lemmas.List.{get_or_default}
use Rattle.certificate_checker.specs.Private.Tallies.{unit_at}
use Rattle.certificate_checker.proofs.FreeLeast.{free_fits, free_least, free_left}
use Rattle.certificate_checker.proofs.TallyLaws.{ready_to_leave, told}
use Rattle.certificate_checker.proofs.tally.Tally.set_free.Goals as goal

pub index-place-requires : goal.index-place-requires
index-place-requires c =
    let ready = ready_to_leave c.args.table.now c.requires.tally.0 c.requires.tally.1 c.args.self.now c.args.unit c.requires.tally.2 c.requires.unit in
    omega (arith, ready.unit_within, c.args.self.now.places.ok.0)

pub overflow_add-place : goal.overflow_add-place
overflow_add-place c =
    let ready = ready_to_leave c.args.table.now c.requires.tally.0 c.requires.tally.1 c.args.self.now c.args.unit c.requires.tally.2 c.requires.unit in
    let place = c.index-place.ensures ∙ get_or_default c.args.self.now.places.items c.args.unit c.index-place.result.now 0 ready.unit_within in
    omega (arith, ready.few, place)

pub least_at-least-requires-clause-place : goal.least_at-least-requires-clause-place
least_at-least-requires-clause-place c =
    let ready = ready_to_leave c.args.table.now c.requires.tally.0 c.requires.tally.1 c.args.self.now c.args.unit c.requires.tally.2 c.requires.unit in
    let place = c.index-place.ensures ∙ get_or_default c.args.self.now.places.items c.args.unit c.index-place.result.now 0 ready.unit_within in
    omega (arith, ready.at.within, place)

pub overflow_add-self : goal.overflow_add-self
overflow_add-self c =
    let tally = c.args.self.now in
    let is = c.requires.tally.2 in
    omega (
      arith,
      c.from.ensures,
      c.put_nothing.ensures.put.least,
      is.least,
      free_fits c.args.table.now tally.order.items c.requires.tally.0 c.requires.valid is.order,
    )

pub put_back-requires-clause-next : goal.put_back-requires-clause-next
put_back-requires-clause-next c =
    let ready = ready_to_leave c.args.table.now c.requires.tally.0 c.requires.tally.1 c.args.self.now c.args.unit c.requires.tally.2 c.requires.unit in
    let place = c.index-place.ensures ∙ get_or_default c.args.self.now.places.items c.args.unit c.index-place.result.now 0 ready.unit_within in
    omega (arith, ready.next, place)

pub put_back-requires-clause-previous : goal.put_back-requires-clause-previous
put_back-requires-clause-previous c =
    let ready = ready_to_leave c.args.table.now c.requires.tally.0 c.requires.tally.1 c.args.self.now c.args.unit c.requires.tally.2 c.requires.unit in
    let place = c.index-place.ensures ∙ get_or_default c.args.self.now.places.items c.args.unit c.index-place.result.now 0 ready.unit_within in
    omega (arith, ready.previous, place)

pub put_back-requires-clause-before : goal.put_back-requires-clause-before
put_back-requires-clause-before c =
    let tally = c.args.self.now in
    let ready = ready_to_leave c.args.table.now c.requires.tally.0 c.requires.tally.1 tally c.args.unit c.requires.tally.2 c.requires.unit in
    let place = c.index-place.ensures ∙ get_or_default tally.places.items c.args.unit c.index-place.result.now 0 ready.unit_within in
    subst (λ (p : ℕ). get_or tally.links.previous.items (p + 1) 0 < length tally.links.next.items) (sym place) ready.before

pub put_back-requires-clause-behind : goal.put_back-requires-clause-behind
put_back-requires-clause-behind c =
    let tally = c.args.self.now in
    let ready = ready_to_leave c.args.table.now c.requires.tally.0 c.requires.tally.1 tally c.args.unit c.requires.tally.2 c.requires.unit in
    let place = c.index-place.ensures ∙ get_or_default tally.places.items c.args.unit c.index-place.result.now 0 ready.unit_within in
    subst (λ (p : ℕ). get_or tally.links.next.items (p + 1) 0 < length tally.links.previous.items) (sym place) ready.behind

pub put_nothing-requires-clause-place : goal.put_nothing-requires-clause-place
put_nothing-requires-clause-place c =
    let ready = ready_to_leave c.args.table.now c.requires.tally.0 c.requires.tally.1 c.args.self.now c.args.unit c.requires.tally.2 c.requires.unit in
    let place = c.index-place.ensures ∙ get_or_default c.args.self.now.places.items c.args.unit c.index-place.result.now 0 ready.unit_within in
    omega (arith, ready.at.within, place)

pub returns-clause-tally : goal.returns-clause-tally
returns-clause-tally c =
    λ fixed outer is within some.
    (let table = c.args.table.now in
    let tally = c.args.self.now in
    let unit : ℕ = c.args.unit in
    let ready = ready_to_leave table fixed outer tally unit is c.requires.unit in
    let place : c.index-place.result.now ≡ get_or tally.places.items unit 0 =
    c.index-place.ensures ∙ get_or_default tally.places.items unit c.index-place.result.now 0 ready.unit_within in
    let own : unit_at tally.order.items c.index-place.result.now ≡ unit = ap (unit_at tally.order.items) place ∙ ready.at.own in
    told table fixed (unit ∷ outer) outer unit c.index-place.result.now None (record { bytes = 0; distortion = 0 }) tally c.put_back.new.self c.put_nothing.new.self
    (c.put_nothing.new.self.free_least + c.from.result) is c.requires.unit within
    place refl
    c.put_nothing.ensures.put (rw (c.put_back.ensures.next, c.put_back.ensures.previous, place) is.chain.3)
    (omega (
      arith,
      c.from.ensures,
      c.least_at-least.ensures,
      ap (free_least table) own,
      c.put_nothing.ensures.put.least,
      is.least,
      free_left table tally.order.items tally.places.items fixed unit is.places ready.at within some,
    )))
