use Rattle.std.proofs.Common.{◌≡◌, ◌-◌, ◌<◌, length, sym, subst, arith, Some, slice_get, All}
use Rattle.std.proofs.lemmas.Option.{slice_get_within}
use Rattle.tstd_model.specs.PacketBytes.{Arrival}
use Rattle.tstd_model.proofs.DecoderWalks.{slots-below_last}
use Rattle.tstd_model.proofs.system_decoder.slots_until_last.Goals as goal

pub returns-in-Some-clause-below : goal.returns-in-Some-clause-below
returns-in-Some-clause-below c =
    let arrivals = c.args.arrivals.now in
    let last = c.in-Some.last.now in
    let there : slice_get arrivals (length arrivals - 1) ≡ Some last = sym c.in-Some.ensures.value in
    let some : 0 < length arrivals = omega (arith, slice_get_within arrivals (length arrivals - 1) last there) in
    subst (λ n. All (λ (a : Arrival). a.slot_no < n) arrivals) (sym c.behind.ensures.value) (slots-below_last arrivals last c.requires some there)
