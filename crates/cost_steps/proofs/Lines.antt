-- Lines that cross.
use Rattle.std.proofs.Common.{◌≡◌, ℕ, ◌+◌, ◌-◌, ◌*◌, ◌/◌, ◌<◌, ◌≤◌, List, length, get_or, min, sym, ap, subst, ◌∙◌, inl, inr, mul-le-mul_left, arith}
use Rattle.std.proofs.lemmas.Bool.{cases_lt}
use Rattle.std.proofs.lemmas.List.{get_or_default}
use Rattle.version_table.specs.declared.table.Version.{Version}
use Rattle.dual_bounds.specs.Values.{cost, packet_count}
use Rattle.cost_steps.specs.declared.constants.TheConstants.{PRICE_MOST}
use Rattle.cost_steps.specs.declared.steps.Line.{Line}
use Rattle.cost_steps.specs.Private.Lines.{CostsLess, IsLineOf, line_cost}

-- a line with more packets that is lower at first stays so up to where the other one has caught up
pub cross-before : (rise packets rise' packets' price : ℕ) → packets' < packets → rise ≤ rise' → price ≤ (rise' - rise) / (packets - packets') → rise + packets * price ≤ rise' + packets' * price
cross-before rise packets rise' packets' price fewer le below = by_steps (packets - packets') (rise' - rise) (omega arith) (omega arith) (omega arith) below
  where
    by_steps : (f r : ℕ) → packets ≡ packets' + f → rise' ≡ rise + r → 1 ≤ f → price ≤ r / f → rise + packets * price ≤ rise' + packets' * price
    by_steps f r more higher some low =
        let taken : f * price ≤ f * (r / f) = mul-le-mul_left f low in
        let whole : f * (r / f) ≤ r = omega arith in
        let spread : packets * price ≡ (packets' + f) * price = ap (λ n. n * price) more in
        omega (arith, taken, whole, spread)

-- a line with fewer packets that is no lower at a price has more rise by what the packets that it lacks come to at any lower price
pub rises_by : (rise packets rise' packets' price base : ℕ) → rise + packets * price ≤ rise' + packets' * price → packets' < packets → base ≤ price
    → rise + (packets - packets') * base ≤ rise'
rises_by rise packets rise' packets' price base le fewer low = by_steps (packets - packets') (price - base) (omega arith) (omega arith)
  where
    by_steps : (f m : ℕ) → packets ≡ packets' + f → price ≡ base + m → rise + f * base ≤ rise'
    by_steps f m more later =
        let one : packets * price ≡ (packets' + f) * (base + m) = ap (λ n. n * price) more ∙ ap (λ n. (packets' + f) * n) later in
        let two : packets' * price ≡ packets' * (base + m) = ap (λ n. packets' * n) later in
        omega (arith, one, two)

-- ---- one version more
-- what the line of a version costs
pub line-cost : (version : Version) (line : Line) (price : ℕ) → IsLineOf version line → line_cost line price ≡ cost price version
line-cost version line price is =
    let spread : line.packets * price ≡ packet_count version * price = ap (λ n. n * price) is.packets in
    omega (arith, is.rise, spread)

module _ (versions : List Version) (line other : Line) (i next0 cross next : ℕ) (d0 : Version) (within : i < length versions) (is : IsLineOf (get_or versions i d0) other)
    (least : next ≡ min next0 cross) where
  line_at : (d : Version) → IsLineOf (get_or versions i d) other
  line_at d = subst (λ (v : Version). IsLineOf v other) (get_or_default versions i d0 d within) is

  pub before-more : ((price : ℕ) → price < next0 → (k : ℕ) (d : Version) → k < i → packet_count (get_or versions k d) < line.packets → line_cost line price ≤ cost price (get_or versions k d))
      → ((price : ℕ) → price < cross → other.packets < line.packets → line_cost line price ≤ line_cost other price)
      → (price : ℕ) → price < next → (k : ℕ) (d : Version) → k < i + 1 → packet_count (get_or versions k d) < line.packets → line_cost line price ≤ cost price (get_or versions k d)
  before-more earlier own price less k d low fewer = elim (cases_lt k i) as (λ _. line_cost line price ≤ cost price (get_or versions k d)) [
    | inl before ↦ earlier price (omega arith) k d before fewer
    | inr last ↦
        (let same : k ≡ i = omega arith in
        let here : IsLineOf (get_or versions k d) other = subst (λ n. IsLineOf (get_or versions n d) other) (sym same) (line_at d) in
        let le = own price (omega arith) (omega (arith, here.packets)) in
        omega (arith, le, line-cost (get_or versions k d) other price here))
  ]

  pub at-more : (next0 ≤ PRICE_MOST → (k : ℕ) × (k < length versions) × ((d : Version) → CostsLess next0 line (get_or versions k d)))
      → (cross ≤ PRICE_MOST → line_cost other cross < line_cost line cross) → (cross ≤ PRICE_MOST → other.packets < line.packets)
      → next ≤ PRICE_MOST → (k : ℕ) × (k < length versions) × ((d : Version) → CostsLess next line (get_or versions k d))
  at-more earlier own fewer most = elim (cases_lt cross next0) as (λ _. (k : ℕ) × (k < length versions) × ((d : Version) → CostsLess next line (get_or versions k d))) [
    | inl less ↦
        (let same : cross ≡ next = omega arith in
        let lower : line_cost other cross < line_cost line cross = own (omega arith) in
        let low : other.packets < line.packets = fewer (omega arith) in
        subst (λ n. (k : ℕ) × (k < length versions) × ((d : Version) → CostsLess n line (get_or versions k d))) same
        (i, within, λ d. record { fewer = omega (arith, low, (line_at d).packets); less = omega (arith, lower, line-cost (get_or versions i d) other cross (line_at d)) }))
    | inr more ↦
        (let same : next0 ≡ next = omega arith in
        subst (λ n. (k : ℕ) × (k < length versions) × ((d : Version) → CostsLess n line (get_or versions k d))) same (earlier (omega arith)))
  ]
