use Rattle.std.proofs.Common.{◌≡◌, ℕ, ◌+◌, ◌-◌, ◌<◌, ◌∷◌, length, get_or, Some, sym, ap, subst, ◌∙◌, arith}
use Rattle.std.proofs.lemmas.List.{get_or_default}
use Rattle.version_table.specs.Choice.{version_at}
use Rattle.certificate_checker.specs.Shown.{versions_of}
use Rattle.certificate_checker.specs.Private.Order.{unit_of}
use Rattle.certificate_checker.specs.Private.Tallies.{unit_at}
use Rattle.certificate_checker.proofs.FreeLeast.{free_entered, free_least, free_within}
use Rattle.certificate_checker.proofs.TallyLaws.{chain_entered, has_place, ready_to_enter, told}
use Rattle.certificate_checker.proofs.Units.{some_version}
use Rattle.certificate_checker.proofs.tally.Tally.fix_first.Goals as goal

pub index-place-requires : goal.index-place-requires
index-place-requires c =
    let ready = ready_to_enter c.args.table.now c.requires.tally.0 c.requires.tally.1 c.args.self.now c.args.unit c.requires.tally.2 c.requires.unit c.requires.tally.3 in
    omega (arith, ready.unit_within, c.args.self.now.places.ok.0)

pub least_at-least-requires-clause-place : goal.least_at-least-requires-clause-place
least_at-least-requires-clause-place c =
    let ready = ready_to_enter c.args.table.now c.requires.tally.0 c.requires.tally.1 c.args.self.now c.args.unit c.requires.tally.2 c.requires.unit c.requires.tally.3 in
    let place = c.index-place.ensures ∙ get_or_default c.args.self.now.places.items c.args.unit c.index-place.result.now 0 ready.unit_within in
    omega (arith, ready.at.within, place)

pub overflow_sub-self : goal.overflow_sub-self
overflow_sub-self c =
    let table = c.args.table.now in
    let tally = c.args.self.now in
    let unit : ℕ = c.args.unit in
    let is = c.requires.tally.2 in
    let ready = ready_to_enter table c.requires.tally.0 c.requires.tally.1 tally unit is c.requires.unit c.requires.tally.3 in
    let place = c.index-place.ensures ∙ get_or_default tally.places.items unit c.index-place.result.now 0 ready.unit_within in
    let own : unit_at tally.order.items c.index-place.result.now ≡ unit = ap (unit_at tally.order.items) place ∙ ready.at.own in
    omega (
      arith,
      c.from.ensures,
      c.least_at-least.ensures,
      ap (free_least table) own,
      c.put_version.ensures.put.least,
      is.least,
      free_within table tally.order.items tally.places.items c.requires.tally.0 unit ready.at c.requires.tally.3,
    )

pub overflow_add-place : goal.overflow_add-place
overflow_add-place c =
    let ready = ready_to_enter c.args.table.now c.requires.tally.0 c.requires.tally.1 c.args.self.now c.args.unit c.requires.tally.2 c.requires.unit c.requires.tally.3 in
    let place = c.index-place.ensures ∙ get_or_default c.args.self.now.places.items c.args.unit c.index-place.result.now 0 ready.unit_within in
    omega (arith, ready.few, place)

pub take_out-requires-clause-next : goal.take_out-requires-clause-next
take_out-requires-clause-next c =
    let ready = ready_to_enter c.args.table.now c.requires.tally.0 c.requires.tally.1 c.args.self.now c.args.unit c.requires.tally.2 c.requires.unit c.requires.tally.3 in
    let place = c.index-place.ensures ∙ get_or_default c.args.self.now.places.items c.args.unit c.index-place.result.now 0 ready.unit_within in
    omega (arith, ready.next, place)

pub take_out-requires-clause-previous : goal.take_out-requires-clause-previous
take_out-requires-clause-previous c =
    let ready = ready_to_enter c.args.table.now c.requires.tally.0 c.requires.tally.1 c.args.self.now c.args.unit c.requires.tally.2 c.requires.unit c.requires.tally.3 in
    let place = c.index-place.ensures ∙ get_or_default c.args.self.now.places.items c.args.unit c.index-place.result.now 0 ready.unit_within in
    omega (arith, ready.previous, place)

pub take_out-requires-clause-before : goal.take_out-requires-clause-before
take_out-requires-clause-before c =
    let tally = c.args.self.now in
    let ready = ready_to_enter c.args.table.now c.requires.tally.0 c.requires.tally.1 tally c.args.unit c.requires.tally.2 c.requires.unit c.requires.tally.3 in
    let place = c.index-place.ensures ∙ get_or_default tally.places.items c.args.unit c.index-place.result.now 0 ready.unit_within in
    subst (λ (p : ℕ). get_or tally.links.previous.items (p + 1) 0 < length tally.links.next.items) (sym place) ready.before

pub take_out-requires-clause-behind : goal.take_out-requires-clause-behind
take_out-requires-clause-behind c =
    let tally = c.args.self.now in
    let ready = ready_to_enter c.args.table.now c.requires.tally.0 c.requires.tally.1 tally c.args.unit c.requires.tally.2 c.requires.unit c.requires.tally.3 in
    let place = c.index-place.ensures ∙ get_or_default tally.places.items c.args.unit c.index-place.result.now 0 ready.unit_within in
    subst (λ (p : ℕ). get_or tally.links.next.items (p + 1) 0 < length tally.links.previous.items) (sym place) ready.behind

pub put_version-requires-clause-place : goal.put_version-requires-clause-place
put_version-requires-clause-place c =
    let ready = ready_to_enter c.args.table.now c.requires.tally.0 c.requires.tally.1 c.args.self.now c.args.unit c.requires.tally.2 c.requires.unit c.requires.tally.3 in
    let place = c.index-place.ensures ∙ get_or_default c.args.self.now.places.items c.args.unit c.index-place.result.now 0 ready.unit_within in
    omega (arith, ready.at.within, place)

pub put_version-requires-clause-version : goal.put_version-requires-clause-version
put_version-requires-clause-version c =
    let tally = c.args.self.now in
    let ready = ready_to_enter c.args.table.now c.requires.tally.0 c.requires.tally.1 tally c.args.unit c.requires.tally.2 c.requires.unit c.requires.tally.3 in
    let place = c.index-place.ensures ∙ get_or_default tally.places.items c.args.unit c.index-place.result.now 0 ready.unit_within in
    let own : unit_at tally.order.items c.index-place.result.now ≡ c.args.unit = ap (unit_at tally.order.items) place ∙ ready.at.own in
    omega (arith, ap (versions_of c.args.table.now) own, some_version c.args.table.now c.args.unit c.requires.valid c.requires.unit)

pub returns-clause-tally : goal.returns-clause-tally
returns-clause-tally c =
    λ fixed innermost is within free.
    (let table = c.args.table.now in
    let tally = c.args.self.now in
    let unit : ℕ = c.args.unit in
    let at = has_place table tally.order.items tally.places.items unit is.order is.places c.requires.unit in
    let ready = ready_to_enter table fixed innermost tally unit is c.requires.unit free in
    let place = c.index-place.ensures ∙ get_or_default tally.places.items unit c.index-place.result.now 0 ready.unit_within in
    let own : unit_at tally.order.items c.index-place.result.now ≡ unit = ap (unit_at tally.order.items) place ∙ at.own in
    told table fixed innermost (unit ∷ innermost) unit c.index-place.result.now (Some 0) (version_at (unit_of table (unit_at tally.order.items c.index-place.result.now)) 0) tally c.take_out.new.self
    c.put_version.new.self (c.put_version.new.self.free_least - c.from.result) is c.requires.unit within place (ap (λ (u : ℕ). version_at (unit_of table u) 0) own) c.put_version.ensures.put
    (rw (c.take_out.ensures.next, c.take_out.ensures.previous)
    (chain_entered tally.order.items tally.places.items fixed innermost tally.links.next.items tally.links.previous.items unit (c.index-place.result.now + 1)
    (ap (λ (p : ℕ). p + 1) place) is.places at within
    free is.chain))
    (omega (
      arith,
      c.from.ensures,
      c.least_at-least.ensures,
      ap (free_least table) own,
      c.put_version.ensures.put.least,
      is.least,
      free_entered table tally.order.items tally.places.items fixed unit 0 is.places at within free,
    )))
