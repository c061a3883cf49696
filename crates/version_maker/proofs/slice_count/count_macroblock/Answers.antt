use Rattle.std.proofs.Common.{◌≡◌, ◌<◌, ◌∙◌, ℕ, length, get_or, sym, subst, arith}
use Rattle.std.proofs.lemmas.List.{get_or_default, length-set}
use Rattle.requantiser.specs.declared.tally.Tally.{Tally}
use Rattle.requantiser.proofs.Tallies.{one_more_went, others_stay}
use Rattle.version_maker.specs.declared.slice_count.VersionCount.{VersionCount}
use Rattle.version_maker.specs.Private.Counts.{CanCount, IsCountedMacroblock}
use Rattle.version_maker.proofs.slice_count.count_macroblock.Goals as goal

pub returns-then-count-eq0 : goal.returns-then-count-eq0
returns-then-count-eq0 c = λ k d below. absurd (omega (arith, below, c.if-count-eq0.true))

pub count_version-requires-clause-can : goal.count_version-requires-clause-can
count_version-requires-clause-can c =
    let k : ℕ = c.loop-k.k in
    let before : VersionCount = c.index-counts-k.result in
    let tally : Tally = c.index-tallies-k.result in
    subst (CanCount c.args.picture.seq.now c.args.picture.coding.now c.args.from.now (get_or c.args.tallies.now k tally)) (sym (c.loop-k.invariant.stay k before (omega arith)))
    (c.requires.each k before tally c.loop-k-test.true)

pub loop-k-preserved : goal.loop-k-preserved
loop-k-preserved c =
    let k : ℕ = c.loop-k.k in
    let within : k < length c.loop-k.counts = omega (arith, c.loop-k-test.true, c.requires.count, c.loop-k.invariant.len) in
    let P : VersionCount → VersionCount → Type 0 = IsCountedMacroblock c.args.picture.seq.now c.args.picture.coding.now c.args.inner c.args.from.now in
    let here : (d : VersionCount) → get_or c.loop-k.counts k c.index-counts-k.result ≡ get_or c.args.counts.now k d = λ d.
    get_or_default c.loop-k.counts k c.index-counts-k.result d within ∙ c.loop-k.invariant.stay k d (omega arith) in
    record {
      len = length-set c.loop-k.counts k c.count_version.new.count ∙ c.loop-k.invariant.len;
      went = one_more_went P c.args.counts.now c.loop-k.counts k c.count_version.new.count within
          (λ d. subst (λ (b : VersionCount). P b c.count_version.new.count) (here d) c.count_version.ensures) c.loop-k.invariant.went;
      stay = others_stay c.args.counts.now c.loop-k.counts k c.count_version.new.count c.loop-k.invariant.stay;
    }
