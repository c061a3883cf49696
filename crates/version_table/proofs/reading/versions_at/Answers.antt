use Rattle.std.proofs.Common.{◌≡◌, ◌<◌, length, sym, arith}
use Rattle.std.proofs.lemmas.Bool.{eqb-true, eqb-false}
use Rattle.std.proofs.lemmas.List.{length_push}
use Rattle.version_table.specs.declared.limits.TheConstants.{VERSIONS_MOST}
use Rattle.version_table.specs.Private.Reading.{versions_at}
use Rattle.version_table.proofs.Versions.{goes_on, one_too_many, breaks_off, stops}
use Rattle.version_table.proofs.reading.versions_at.Goals as goal

pub returns-then-is_full : goal.returns-then-is_full
returns-then-is_full c =
    let full : length c.loop-front.versions.items ≡ VERSIONS_MOST = eqb-true _ _ (sym c.if-is_full.ensures.value) in
    one_too_many c.loop-front.versions.items c.loop-front.rest.now c.in-Some.front.now (versions_at VERSIONS_MOST c.args.text.now) full (sym c.in-Some.ensures) c.loop-front.invariant.whole

pub returns-in_err-version : goal.returns-in_err-version
returns-in_err-version c =
    let not_full = eqb-false (length c.loop-front.versions.items) VERSIONS_MOST (sym c.if-is_full.ensures.value) in
    rw c.from_residual.ensures (breaks_off c.loop-front.versions.items c.loop-front.rest.now c.in-Some.front.now
    (versions_at VERSIONS_MOST c.args.text.now) (omega arith) (sym c.in-Some.ensures) (sym c.in_err-version.ensures) c.loop-front.invariant.whole)

pub loop-front-preserved : goal.loop-front-preserved
loop-front-preserved c =
    let not_full = eqb-false (length c.loop-front.versions.items) VERSIONS_MOST (sym c.if-is_full.ensures.value) in
    let room : length c.loop-front.versions.items < VERSIONS_MOST = omega arith in
    let more = length_push c.loop-front.versions.items c.in_ok-version.version in
    rw c.push.ensures.items (record {
      few = omega arith;
      whole = goes_on c.loop-front.versions.items c.loop-front.rest.now c.in-Some.front.now c.in_ok-version.behind.now c.in_ok-version.version
          (versions_at VERSIONS_MOST c.args.text.now) room (sym c.in-Some.ensures) (sym c.in_ok-version.ensures) c.loop-front.invariant.whole;
    })

pub returns : goal.returns
returns c = stops c.loop-front.versions.items c.loop-front.rest.now (versions_at VERSIONS_MOST c.args.text.now) (sym c.in_default.ensures) c.loop-front.invariant.whole
