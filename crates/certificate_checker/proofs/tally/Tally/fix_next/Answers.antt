use Rattle.std.proofs.Common.{◌≡◌, ℕ, ◌∷◌, Some, ap, ◌∙◌, arith}
use Rattle.std.proofs.lemmas.List.{get_or_default}
use Rattle.version_table.specs.Choice.{version_at}
use Rattle.certificate_checker.specs.Shown.{versions_of}
use Rattle.certificate_checker.specs.Private.Order.{unit_of}
use Rattle.certificate_checker.specs.Private.Tallies.{unit_at}
use Rattle.certificate_checker.proofs.FreeLeast.{free_fixed}
use Rattle.certificate_checker.proofs.TallyLaws.{chain_fixed, ready_to_leave, told}
use Rattle.certificate_checker.proofs.tally.Tally.fix_next.Goals as goal

pub index-place-requires : goal.index-place-requires
index-place-requires c =
    let ready = ready_to_leave c.args.table.now c.requires.tally.0 c.requires.tally.1 c.args.self.now c.args.unit c.requires.tally.2 c.requires.unit in
    omega (arith, ready.unit_within, c.args.self.now.places.ok.0)

pub put_version-requires-clause-place : goal.put_version-requires-clause-place
put_version-requires-clause-place c =
    let ready = ready_to_leave c.args.table.now c.requires.tally.0 c.requires.tally.1 c.args.self.now c.args.unit c.requires.tally.2 c.requires.unit in
    let place = c.index-place.ensures ∙ get_or_default c.args.self.now.places.items c.args.unit c.index-place.result.now 0 ready.unit_within in
    omega (arith, ready.at.within, place)

pub put_version-requires-clause-version : goal.put_version-requires-clause-version
put_version-requires-clause-version c =
    let tally = c.args.self.now in
    let ready = ready_to_leave c.args.table.now c.requires.tally.0 c.requires.tally.1 tally c.args.unit c.requires.tally.2 c.requires.unit in
    let place = c.index-place.ensures ∙ get_or_default tally.places.items c.args.unit c.index-place.result.now 0 ready.unit_within in
    let own : unit_at tally.order.items c.index-place.result.now ≡ c.args.unit = ap (unit_at tally.order.items) place ∙ ready.at.own in
    omega (arith, ap (versions_of c.args.table.now) own, c.requires.version)

pub returns-clause-tally : goal.returns-clause-tally
returns-clause-tally c =
    λ fixed outer is within some.
    (let table = c.args.table.now in
    let tally = c.args.self.now in
    let unit : ℕ = c.args.unit in
    let ready = ready_to_leave table fixed outer tally unit is c.requires.unit in
    let place = c.index-place.ensures ∙ get_or_default tally.places.items unit c.index-place.result.now 0 ready.unit_within in
    let own : unit_at tally.order.items c.index-place.result.now ≡ unit = ap (unit_at tally.order.items) place ∙ ready.at.own in
    told table fixed (unit ∷ outer) (unit ∷ outer) unit c.index-place.result.now (Some c.args.k) (version_at (unit_of table (unit_at tally.order.items c.index-place.result.now)) c.args.k) tally
    tally.links c.put_version.new.self c.put_version.new.self.free_least is c.requires.unit within place (ap (λ (u : ℕ). version_at (unit_of table u) c.args.k) own) c.put_version.ensures.put
    (chain_fixed tally.order.items tally.places.items fixed outer tally.links.next.items tally.links.previous.items unit c.args.k within some is.chain)
    (c.put_version.ensures.put.least ∙ is.least ∙ free_fixed table tally.order.items tally.places.items fixed unit c.args.k is.places ready.at within some))
