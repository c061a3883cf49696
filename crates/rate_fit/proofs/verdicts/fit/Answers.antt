use Rattle.std.proofs.Common.{◌≡◌, ℕ, ◌++◌, List, get_or, refl, sym, ap, subst, ◌∙◌}
use Rattle.std.proofs.lemmas.Slice.Zip.{AllZip-long}
use Rattle.version_table.specs.declared.table.Table.{Table}
use Rattle.version_table.specs.Table.{IsValidTable}
use Rattle.rate_fit.specs.declared.verdict.Verdict.{Verdict}
use Rattle.rate_fit.specs.Fit.{AreVerdicts, IsSlotVerdict, in_slots}
use Rattle.rate_fit.proofs.Slots.{said_all, said_more, slot_most}
use Rattle.rate_fit.proofs.verdicts.fit.Goals as goal

pub smallest-requires : goal.smallest-requires
smallest-requires c = subst (λ (slot : ℕ). IsValidTable (in_slots slot c.args.table)) (sym c.longest.ensures) c.requires.valid

pub loop-slot-init : goal.loop-slot-init
loop-slot-init c = record {
  same = refl;
  said = λ more are. subst (λ (verdicts : List Verdict). AreVerdicts c.args.table c.args.slots.now (verdicts ++ more)) (sym c.new-verdicts.ensures) are;
}

pub verdict_in-verdict-requires-clause-valid : goal.verdict_in-verdict-requires-clause-valid
verdict_in-verdict-requires-clause-valid c =
    let slots = c.args.slots.now in
    let most = slot_most slots c.loop-slot.slot-index c.loop-slot-test.true in
    let same : in_slots c.longest.result c.loop-slot.table ≡ in_slots c.longest.result c.args.table = ap (in_slots c.longest.result) c.loop-slot.invariant.same in
    let valid = subst (λ (slot : ℕ). IsValidTable (in_slots slot c.args.table)) (sym c.longest.ensures) c.requires.valid in
    (c.longest.result, rw c.longest.ensures most, subst (λ (table : Table). IsValidTable table) (sym same) valid)

pub loop-slot-preserved : goal.loop-slot-preserved
loop-slot-preserved c =
    let slots = c.args.slots.now in
    let slot = get_or slots c.loop-slot.slot-index 0 in
    let same : in_slots slot c.loop-slot.table ≡ in_slots slot c.args.table = ap (in_slots slot) c.loop-slot.invariant.same in
    record {
      same = ap (in_slots 0) c.verdict_in-verdict.ensures.table ∙ c.loop-slot.invariant.same;
      said = said_more c.args.table slots c.loop-slot.slot-index c.loop-slot.verdicts c.push.new.self c.verdict_in-verdict.result c.loop-slot-test.true c.in_ok-push.ensures.ok
          c.loop-slot.invariant.said (subst (λ (table : Table). IsSlotVerdict table c.verdict_in-verdict.result) same c.verdict_in-verdict.ensures.verdict);
    }

pub returns-clause-verdicts : goal.returns-clause-verdicts
returns-clause-verdicts c = said_all c.args.table c.args.slots.now c.loop-slot.slot-index c.loop-slot.verdicts c.loop-slot-test.false c.loop-slot.invariant.said

pub returns-clause-count : goal.returns-clause-count
returns-clause-count c =
    let said = said_all c.args.table c.args.slots.now c.loop-slot.slot-index c.loop-slot.verdicts c.loop-slot-test.false c.loop-slot.invariant.said in
    AllZip-long (λ (slot : ℕ) (verdict : Verdict). IsSlotVerdict (in_slots slot c.args.table) verdict) c.args.slots.now c.loop-slot.verdicts said
