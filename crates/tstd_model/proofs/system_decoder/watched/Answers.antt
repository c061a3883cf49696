use Rattle.std.proofs.Common.{◌≡◌, ◌∷◌, [], None, refl, subst, All}
use Rattle.std.proofs.lemmas.List.{nil_from_length}
use Rattle.std.proofs.lemmas.List.Elements.{All-head, All-tail}
use Rattle.tstd_model.specs.Decoder.{transport_buffer}
use Rattle.tstd_model.specs.PacketBytes.{HasHeaderWithin}
use Rattle.tstd_model.specs.Private.Walks.{main_buffer, first_excess, late_found, old_found}
use Rattle.tstd_model.proofs.WatchGoes.{so-far-more, so-far-whole, watched-more}
use Rattle.tstd_model.proofs.system_decoder.watched.Goals as goal

pub packets-init : goal.packets-init
packets-init c = record {
  so_far = record { given = []; split = refl; watched = c.begin-watch.ensures };
  within = c.requires.headers_within;
}

pub pass-requires : goal.pass-requires
pass-requires c =
    let packet = c.in-Some.packet.now in
    let rest = c.in-Some.rest.now in
    let split : c.packets.later.now ≡ packet ∷ rest = c.in-Some.ensures.cases.0 in
    All-head HasHeaderWithin packet rest (subst (λ l. All HasHeaderWithin l) split c.packets.invariant.within)

pub packets-preserved : goal.packets-preserved
packets-preserved c =
    let packet = c.in-Some.packet.now in
    let rest = c.in-Some.rest.now in
    let slot = c.args.slot in
    let kind = c.args.kind in
    let removals = c.args.removals.now in
    let split : c.packets.later.now ≡ packet ∷ rest = c.in-Some.ensures.cases.0 in
    record {
      so_far =
          so-far-more slot kind removals c.args.arrivals.now c.packets.later.now rest packet c.packets.watch c.pass.new.self split
          (λ given has. watched-more slot kind removals given packet c.packets.watch c.pass.new.self c.pass.ensures has) c.packets.invariant.so_far;
      within = All-tail HasHeaderWithin packet rest (subst (λ l. All HasHeaderWithin l) split c.packets.invariant.within);
    }

pub returns-in_default-clause-tb : goal.returns-in_default-clause-tb
returns-in_default-clause-tb c = λ yes.
    let so_far = c.packets.invariant.so_far in
    let none = nil_from_length c.packets.later.now c.in_default.ensures.cases in
    so-far-whole (λ l. first_excess (transport_buffer c.args.slot c.args.kind l) ≡ None) c.args.arrivals.now so_far.given c.packets.later.now so_far.split none
    (so_far.watched.tb [] (c.end.ensures.tb yes))

pub returns-in_default-clause-main : goal.returns-in_default-clause-main
returns-in_default-clause-main c = λ yes.
    let so_far = c.packets.invariant.so_far in
    let none = nil_from_length c.packets.later.now c.in_default.ensures.cases in
    so-far-whole (λ l. first_excess (main_buffer c.args.slot c.args.kind l c.args.removals.now) ≡ None) c.args.arrivals.now so_far.given c.packets.later.now so_far.split none
    (so_far.watched.main [] (c.end.ensures.main yes))

pub returns-in_default-clause-found : goal.returns-in_default-clause-found
returns-in_default-clause-found c = λ yes.
    let so_far = c.packets.invariant.so_far in
    let none = nil_from_length c.packets.later.now c.in_default.ensures.cases in
    so-far-whole (λ l. late_found c.args.slot c.args.kind l c.args.removals.now ≡ None) c.args.arrivals.now so_far.given c.packets.later.now so_far.split none
    (so_far.watched.found [] (c.end.ensures.found yes))

pub returns-in_default-clause-held : goal.returns-in_default-clause-held
returns-in_default-clause-held c = λ yes.
    let so_far = c.packets.invariant.so_far in
    let none = nil_from_length c.packets.later.now c.in_default.ensures.cases in
    so-far-whole (λ l. old_found c.args.slot c.args.kind l c.args.removals.now ≡ None) c.args.arrivals.now so_far.given c.packets.later.now so_far.split none
    (so_far.watched.held [] (c.end.ensures.held yes))
