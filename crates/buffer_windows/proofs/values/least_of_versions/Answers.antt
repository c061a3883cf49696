use Rattle.std.proofs.Common.{◌≡◌, ◌^◌, List, Some, take, get_or, sym, ap, ◌∙◌, arith}
use Rattle.std.proofs.lemmas.List.{take_all}
use Rattle.version_table.specs.declared.table.Version.{Version}
use Rattle.version_table.specs.Choice.{least}
use Rattle.buffer_windows.specs.Private.Prices.{cost_at, lesser}
use Rattle.buffer_windows.proofs.OwnedCosts.{costs_held, costs_held-is, costs_held-no, costs_held-none, costs_held-yes, least_is, least_or_none, least_or_none-nil, least_push, lesser-le, or_nothing, unwrap-is}
use Rattle.buffer_windows.proofs.values.least_of_versions.Goals as goal
use Rattle.buffer_windows.proofs.values.least_of_versions.Goals.{then-fits, else-fits}

abbrev none : Version
none = record { bytes = 0; distortion = 0 }

pub loop-version-init : goal.loop-version-init
loop-version-init c = record { least = sym (ap least_or_none (costs_held-none c.args.prices c.args.vbv) ∙ least_or_none-nil); small = omega arith }

pub loop-version-preserved : goal.loop-version-preserved
loop-version-preserved c =
    let i = c.loop-version.version-index in
    let xs = c.args.versions.now in
    let before = costs_held c.args.prices c.args.vbv (take c.loop-version.version-index c.args.versions.now) in
    elim c.if-fits.branch [
      | then-fits w ↦
          (let more = costs_held-yes c.args.prices c.args.vbv xs i none c.loop-version-test.true (sym c.fits.ensures ∙ w.if-fits.true) in
          let own : c.if-fits.least ≡ Some (lesser c.loop-version.least (cost_at c.args.prices (get_or c.args.versions.now c.loop-version.version-index none))) =
          w.least-is ∙ ap Some (w.lesser.ensures ∙ ap (lesser c.loop-version.least) w.cost.ensures.value) in
          record {
            least = own ∙ ap (λ l. Some (lesser l (cost_at c.args.prices (get_or c.args.versions.now c.loop-version.version-index none)))) c.loop-version.invariant.least
                ∙ sym (least_push before (cost_at c.args.prices (get_or xs i none))) ∙ sym (ap least_or_none more);
            small = rw own (lesser-le c.loop-version.least (cost_at c.args.prices (get_or xs i none)) (2 ^ 80) (omega (arith, w.cost.ensures.value, w.cost.ensures.small)));
          })
      | else-fits w ↦
          (let same = costs_held-no c.args.prices c.args.vbv xs i none c.loop-version-test.true (sym c.fits.ensures ∙ w.if-fits.false) in
          record {
            least = w.least-is ∙ c.loop-version.invariant.least ∙ sym (ap least_or_none same);
            small = rw w.least-is c.loop-version.invariant.small;
          })
    ]

pub returns-clause-value : goal.returns-clause-value
returns-clause-value c =
    let whole = take_all c.loop-version.version-index c.args.versions.now c.loop-version-test.false in
    c.unwrap_or.ensures ∙ unwrap-is c.loop-version.least ∙ ap or_nothing c.loop-version.invariant.least
    ∙ sym (least_is (costs_held c.args.prices c.args.vbv (take c.loop-version.version-index c.args.versions.now)))
    ∙ ap (λ (versions : List Version). least (costs_held c.args.prices c.args.vbv versions)) whole
    ∙ ap least (costs_held-is c.args.prices c.args.vbv c.args.versions.now)

pub returns-clause-small : goal.returns-clause-small
returns-clause-small c = omega (arith, c.unwrap_or.ensures, unwrap-is c.loop-version.least, c.loop-version.invariant.small)
