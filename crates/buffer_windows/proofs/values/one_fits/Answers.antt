use Rattle.std.proofs.Common.{List, sym, ap, ◌∙◌, refl}
use Rattle.std.proofs.lemmas.List.{drop_all}
use Rattle.version_table.specs.declared.table.Version.{Version}
use Rattle.buffer_windows.proofs.OwnedCosts.{one_held, one_held-is, one_held-more, one_held-none}
use Rattle.buffer_windows.proofs.values.one_fits.Goals as goal

abbrev none : Version
none = record { bytes = 0; distortion = 0 }

pub returns-then-fits : goal.returns-then-fits
returns-then-fits c =
    let more = one_held-more c.args.vbv c.args.versions.now c.loop-version.version-index none c.loop-version-test.true in
    let yes_is = sym c.fits.ensures ∙ c.if-fits.true in
    sym (sym (one_held-is c.args.vbv c.args.versions.now) ∙ sym c.loop-version.invariant ∙ more ∙ rw yes_is refl)

pub loop-version-preserved : goal.loop-version-preserved
loop-version-preserved c =
    let more = one_held-more c.args.vbv c.args.versions.now c.loop-version.version-index none c.loop-version-test.true in
    let no_is = sym c.fits.ensures ∙ c.if-fits.false in
    sym (more ∙ rw no_is refl) ∙ c.loop-version.invariant

pub returns : goal.returns
returns c =
    let rest = ap (λ (left : List Version). one_held c.args.vbv left) (drop_all c.loop-version.version-index c.args.versions.now c.loop-version-test.false) in
    sym (sym (one_held-is c.args.vbv c.args.versions.now) ∙ sym c.loop-version.invariant ∙ rest ∙ one_held-none c.args.vbv)
