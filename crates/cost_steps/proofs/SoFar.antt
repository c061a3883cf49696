-- Steps up to a price, and one more.
use Rattle.std.proofs.Common.{◌≡◌, ℕ, ◌+◌, ◌-◌, ◌*◌, ◌^◌, ◌<◌, ◌≤◌, List, [], ◌∷◌, ◌++◌, length, get_or, map, fold, min, sum_by, All, refl, ap, subst, ◌∙◌, inl, inr, length-append, append_assoc, mul-le-mul_left, arith}
use Rattle.std.proofs.lemmas.Bool.{cases_lt, le-leb, lt-leb}
use Rattle.std.proofs.lemmas.List.{get_or-map, length-map}
use Rattle.std.proofs.lemmas.List.Elements.{All-append, All-cons, All-head, All-nil, All-tail}
use Rattle.std.proofs.lemmas.List.Sums.{sum_by_push}
use Rattle.version_table.specs.declared.table.Version.{Version}
use Rattle.version_table.specs.Choice.{least}
use Rattle.version_table.specs.Table.{IsValidVersion}
use Rattle.version_table.proofs.Least.{least-le}
use Rattle.dual_bounds.specs.declared.constants.TheConstants.{DISTORTION_PARTS}
use Rattle.dual_bounds.specs.Values.{cost, packet_count}
use Rattle.cost_sweep.specs.declared.step.CostStep.{CostStep}
use Rattle.cost_sweep.specs.Steps.{paid, spared}
use Rattle.cost_steps.specs.declared.constants.TheConstants.{PRICE_MOST}
use Rattle.cost_steps.specs.declared.steps.Line.{Line}
use Rattle.cost_steps.specs.Private.Lines.{AreSoFar, first_step, GoesOn, IsLeastLine, IsNext, line_cost, step_between}
use Rattle.cost_steps.specs.Steps.{TellLeast, TellLeastAbove}
use Rattle.cost_steps.proofs.Lines.{line-cost, rises_by}

-- ---- lines over plain numbers
-- a line with fewer packets that is lower at a price, and no lower at another one, is lower behind that one
pub crosses_behind : (rise packets rise' packets' before next : ℕ) → packets' < packets → rise + packets * before ≤ rise' + packets' * before
    → rise' + packets' * next < rise + packets * next → before < next
crosses_behind rise packets rise' packets' before next fewer le less = elim (cases_lt before next) as (λ _. before < next) [
  | inl is ↦ is
  | inr most ↦ absurd (by_steps (packets - packets') (before - next) (omega arith) (omega arith))
]
  where
    by_steps : (f m : ℕ) → packets ≡ packets' + f → before ≡ next + m → ⊥
    by_steps f m more later =
        let one : packets * before ≡ (packets' + f) * (next + m) = ap (λ n. n * before) more ∙ ap (λ n. (packets' + f) * n) later in
        let two : packets' * before ≡ packets' * (next + m) = ap (λ n. packets' * n) later in
        let three : packets * next ≡ (packets' + f) * next = ap (λ n. n * next) more in
        omega (arith, one, two, three)

-- a line that is no lower at a price and lower at the next one has fewer packets
pub falls_past : (rise packets rise' packets' price next : ℕ) → next ≡ price + 1 → rise + packets * price ≤ rise' + packets' * price
    → rise' + packets' * next < rise + packets * next → packets' < packets
falls_past rise packets rise' packets' price next is le less =
    let one : packets * next ≡ packets * (price + 1) = ap (λ n. packets * n) is in
    let two : packets' * next ≡ packets' * (price + 1) = ap (λ n. packets' * n) is in
    omega (arith, one, two)

-- a line with no more packets that is no higher at a price is no higher behind it
pub stays_below : (rise packets rise' packets' before price : ℕ) → packets ≤ packets' → before ≤ price → rise + packets * before ≤ rise' + packets' * before
    → rise + packets * price ≤ rise' + packets' * price
stays_below rise packets rise' packets' before price few later le = by_steps (packets' - packets) (price - before) (omega arith) (omega arith)
  where
    by_steps : (f m : ℕ) → packets' ≡ packets + f → price ≡ before + m → rise + packets * price ≤ rise' + packets' * price
    by_steps f m more behind =
        let one : packets' * price ≡ (packets + f) * (before + m) = ap (λ n. n * price) more ∙ ap (λ n. (packets + f) * n) behind in
        let two : packets * price ≡ packets * (before + m) = ap (λ n. packets * n) behind in
        let three : packets' * before ≡ (packets + f) * before = ap (λ n. n * before) more in
        omega (arith, one, two, three)

-- what a lower line costs behind the price at which it comes
pub steps-behind : (rise packets rise' packets' fewer more base p taken added : ℕ) → packets ≡ packets' + fewer → rise' ≡ (rise + fewer * base) + more
    → (rise + packets * (base + p)) + taken ≡ added → (rise' + packets' * (base + p)) + (taken + fewer * p) ≡ added + (more + 0 * p)
steps-behind rise packets rise' packets' fewer more base p taken added few high is =
    let spread : packets * (base + p) ≡ (packets' + fewer) * (base + p) = ap (λ n. n * (base + p)) few in
    omega (arith, spread)

-- what the steps add up to where a lower line comes
pub rises-behind : (rise packets rise' packets' fewer more base : ℕ) → packets ≡ packets' + fewer → rise' ≡ (rise + fewer * base) + more
    → (rise + packets * base) + more ≡ rise' + packets' * base
rises-behind rise packets rise' packets' fewer more base few high =
    let spread : packets * base ≡ (packets' + fewer) * base = ap (λ n. n * base) few in
    omega (arith, spread)

-- ---- the least of some costs
fold-above : (low a : ℕ) (numbers : List ℕ) → low ≤ a → All (λ n. low ≤ n) numbers → low ≤ fold min a numbers
fold-above low a [] le all = le
fold-above low a (n ∷ numbers) le all =
    fold-above low (min a n) numbers (let own : low ≤ n = All-head (λ m. low ≤ m) n numbers all in omega arith) (All-tail (λ m. low ≤ m) n numbers all)

least-above : (low : ℕ) (numbers : List ℕ) → 1 ≤ length numbers → All (λ n. low ≤ n) numbers → low ≤ least numbers
least-above low [] some all = absurd (omega arith)
least-above low (n ∷ numbers) some all = fold-above low n numbers (All-head (λ m. low ≤ m) n numbers all) (All-tail (λ m. low ≤ m) n numbers all)

module _ (due : ℕ) (versions : List Version) (valid : All IsValidVersion versions) where
  -- the line of a version that costs no more than any version is the least cost
  least-is : (price p : ℕ) (line : Line) → IsLeastLine versions price line → All (λ version. line_cost line p ≤ cost p version) versions → least (map (cost p) versions) ≡ line_cost line p
  least-is price p line is all =
      let none : Version = record { bytes = 0; distortion = 0 } in
      let place = is.one.0 in
      let within : place < length versions = is.one.1 in
      let own : line_cost line p ≡ cost p (get_or versions place none) = line-cost (get_or versions place none) line p (is.one.2 none) in
      let size : length (map (cost p) versions) ≡ length versions = length-map versions (cost p) in
      let at : get_or (map (cost p) versions) place 0 ≡ cost p (get_or versions place none) = get_or-map (cost p) versions place none 0 within in
      let upper : least (map (cost p) versions) ≤ get_or (map (cost p) versions) place 0 = least-le (map (cost p) versions) place (omega arith) in
      let each : All (λ n. line_cost line p ≤ n) (map (cost p) versions) = λ k d low.
      (let here : get_or (map (cost p) versions) k d ≡ cost p (get_or versions k none) = get_or-map (cost p) versions k none d (omega arith) in
      let le : line_cost line p ≤ cost p (get_or versions k none) = all k none (omega arith) in
      omega arith) in
      let lower : line_cost line p ≤ least (map (cost p) versions) = least-above (line_cost line p) (map (cost p) versions) (omega arith) each in
      omega arith

  -- a line that costs least at a price does so up to where the next one comes
  least-between : (price p : ℕ) (line : Line) (next : ℕ) → IsLeastLine versions price line → IsNext versions line next → price ≤ p → p < next
      → All (λ version. line_cost line p ≤ cost p version) versions
  least-between price p line next is is_next from low k d within =
      let version = get_or versions k d in
      elim (cases_lt (packet_count version) line.packets) as (λ _. line_cost line p ≤ cost p version) [
        | inl fewer ↦ is_next.before p low k d within fewer
        | inr most ↦ stays_below line.rise line.packets (DISTORTION_PARTS * version.distortion) (packet_count version) price p most from (is.least k d within)
      ]

  line-packets : (price : ℕ) (line : Line) → IsLeastLine versions price line → line.packets < 2 ^ 15
  line-packets price line is =
      let none : Version = record { bytes = 0; distortion = 0 } in
      let own = (is.one.2 none).packets in
      omega (arith, own, (valid is.one.0 none is.one.1).bytes)

  -- ---- the first step
  pub first-so_far : (base : ℕ) (line : Line) → base ≤ PRICE_MOST → IsLeastLine versions base line
      → AreSoFar base due versions base line (first_step base due line ∷ [])
  first-so_far base line limit is = record {
    limit = limit;
    from_base = omega arith;
    line_is = is;
    dues = All-cons (λ (s : CostStep). s.due ≡ due) _ [] refl (All-nil (λ (s : CostStep). s.due ≡ due));
    some = omega arith;
    count = omega arith;
    few = omega (arith, line-packets base line is);
    rises = omega arith;
    packets = omega arith;
    below = λ p low. absurd (omega arith);
    behind = λ p from. rw (le-leb 0 p (omega arith)) (omega arith);
  }

  -- ---- one step more
  module _ (base price : ℕ) (line : Line) (next : ℕ) (line' : Line) (own : List CostStep) (so_far : AreSoFar base due versions price line own) (is_next : IsNext versions line next)
      (limit : next ≤ PRICE_MOST) (is : IsLeastLine versions next line') where
    later : price < next
    later =
        let none : Version = record { bytes = 0; distortion = 0 } in
        let other = is_next.at limit in
        let less = other.2 none in
        crosses_behind line.rise line.packets (DISTORTION_PARTS * (get_or versions other.0 none).distortion) (packet_count (get_or versions other.0 none)) price next less.fewer
        (so_far.line_is.least other.0 none other.1) less.less

    lower-before : line_cost line (next - 1) ≤ line_cost line' (next - 1)
    lower-before =
        let none : Version = record { bytes = 0; distortion = 0 } in
        let place = is.one.0 in
        let own' : line_cost line' (next - 1) ≡ cost (next - 1) (get_or versions place none) = line-cost (get_or versions place none) line' (next - 1) (is.one.2 none) in
        let least' : line_cost line (next - 1) ≤ cost (next - 1) (get_or versions place none) =
        least-between price (next - 1) line next so_far.line_is is_next (let after = later in omega arith) (let after = later in omega arith) place none is.one.1 in
        omega arith

    lower-at : line_cost line' next < line_cost line next
    lower-at =
        let none : Version = record { bytes = 0; distortion = 0 } in
        let other = is_next.at limit in
        let less : cost next (get_or versions other.0 none) < line_cost line next = (other.2 none).less in
        let le : line_cost line' next ≤ cost next (get_or versions other.0 none) = is.least other.0 none other.1 in
        omega arith

    pub fewer-packets : line'.packets < line.packets
    fewer-packets = falls_past line.rise line.packets line'.rise line'.packets (next - 1) next (let after = later in omega arith) lower-before lower-at

    pub more-rise : line.rise + (line.packets - line'.packets) * base ≤ line'.rise
    more-rise = rises_by line.rise line.packets line'.rise line'.packets (next - 1) base lower-before fewer-packets (let after = later in let start = so_far.from_base in omega arith)

    pub above-base : base ≤ next
    above-base = let after = later in let start = so_far.from_base in omega arith

    below-next : (p : ℕ) → base + p < next → least (map (cost (base + p)) versions) + sum_by (spared p) own ≡ sum_by (paid p) own
    below-next p low = elim (cases_lt (base + p) price) as (λ _. least (map (cost (base + p)) versions) + sum_by (spared p) own ≡ sum_by (paid p) own) [
      | inl before ↦ so_far.below p before
      | inr from ↦
          (let same = least-is price (base + p) line so_far.line_is (least-between price (base + p) line next so_far.line_is is_next from low) in
          let here = so_far.behind p from in
          omega arith)
    ]

    abbrev pub more : ℕ
    more = (line'.rise - line.rise) - (line.packets - line'.packets) * base

    abbrev pub step : CostStep
    step = step_between base due next line line'

    rise-is : line'.rise ≡ (line.rise + (line.packets - line'.packets) * base) + more
    rise-is = let enough = more-rise in omega arith

    packets-are : line.packets ≡ line'.packets + (line.packets - line'.packets)
    packets-are = let fall = fewer-packets in omega arith

    pub next-so_far : AreSoFar base due versions next line' (own ++ step ∷ [])
    next-so_far =
        let fall = fewer-packets in
        let from_base = above-base in
        let rises : sum_by (λ s. s.rise) (own ++ step ∷ []) ≡ sum_by (λ s. s.rise) own + more = sum_by_push (λ (s : CostStep). s.rise) own step in
        let packets : sum_by (λ s. s.packets) (own ++ step ∷ []) ≡ sum_by (λ s. s.packets) own + 0 = sum_by_push (λ (s : CostStep). s.packets) own step in
        let fewer : sum_by (λ s. s.fewer) (own ++ step ∷ []) ≡ sum_by (λ s. s.fewer) own + (line.packets - line'.packets) = sum_by_push (λ (s : CostStep). s.fewer) own step in
        let size : length (own ++ step ∷ []) ≡ length own + 1 = length-append own (step ∷ []) in
        record {
          limit = limit;
          from_base = from_base;
          line_is = is;
          dues = All-append (λ (s : CostStep). s.due ≡ due) own (step ∷ []) so_far.dues (All-cons (λ (s : CostStep). s.due ≡ due) step [] refl (All-nil (λ (s : CostStep). s.due ≡ due)));
          some = omega arith;
          count = omega (arith, so_far.count);
          few = omega (arith, so_far.few);
          rises = rises ∙ ap (λ n. n + more) so_far.rises
              ∙ rises-behind line.rise line.packets line'.rise line'.packets (line.packets - line'.packets) more base packets-are rise-is;
          packets = omega (arith, so_far.packets);
          below = λ p low. (let early : p < next - base = omega arith in
              let taken : spared p step ≡ 0 = rw (lt-leb (next - base) p early) refl in
              let added : paid p step ≡ 0 = rw (lt-leb (next - base) p early) (omega arith) in
              let one = sum_by_push (spared p) own step in
              let two = sum_by_push (paid p) own step in
              let here = below-next p low in
              omega arith);
          behind = λ p from. (let reached : next - base ≤ p = omega arith in
              let taken : spared p step ≡ (line.packets - line'.packets) * p = rw (le-leb (next - base) p reached) refl in
              let added : paid p step ≡ more + 0 * p = rw (le-leb (next - base) p reached) refl in
              let one = sum_by_push (spared p) own step in
              let two = sum_by_push (paid p) own step in
              let after = later in
              let here = so_far.behind p (omega arith) in
              let whole = steps-behind line.rise line.packets line'.rise line'.packets (line.packets - line'.packets) more base p (sum_by (spared p) own) (sum_by (paid p) own)
              packets-are rise-is here in
              omega arith);
        }

  -- ---- no step more
  pub tells : (base price : ℕ) (line : Line) (next : ℕ) (own : List CostStep) → AreSoFar base due versions price line own → IsNext versions line next → PRICE_MOST < next
      → TellLeastAbove base due versions own
  tells base price line next own so_far is_next past = record {
    dues = so_far.dues;
    some = so_far.some;
    costs = λ p limit. elim (cases_lt (base + p) price) as (λ _. least (map (cost (base + p)) versions) + sum_by (spared p) own ≡ sum_by (paid p) own) [
      | inl before ↦ so_far.below p before
      | inr from ↦
          (let same = least-is price (base + p) line so_far.line_is (least-between price (base + p) line next so_far.line_is is_next from (omega arith)) in
          let here = so_far.behind p from in
          omega arith)
    ];
    count = omega (arith, so_far.count, so_far.few);
    rises = (let whole : line.packets * base ≤ line.packets * PRICE_MOST = mul-le-mul_left line.packets (let first = so_far.from_base in let last = so_far.limit in omega arith) in
        omega (arith, so_far.rises, so_far.line_is.small));
    packets = omega (arith, so_far.few);
    fewer = omega (arith, so_far.packets, so_far.few);
  }

  -- ---- behind what was there before
  pub starts : (base : ℕ) (line : Line) (next : ℕ) (before : List CostStep) → base ≤ PRICE_MOST → IsLeastLine versions base line → IsNext versions line next
      → GoesOn base due versions line next before (before ++ first_step base due line ∷ [])
  starts base line next before limit is is_next = record {
    own = first_step base due line ∷ [];
    is = refl;
    from = base;
    so_far = first-so_far base line limit is;
    is_next = is_next;
  }

  pub goes_on : (base : ℕ) (line : Line) (next : ℕ) (line' : Line) (next' : ℕ) (before items : List CostStep) → GoesOn base due versions line next before items → next ≤ PRICE_MOST
      → IsLeastLine versions next line' → IsNext versions line' next'
      → GoesOn base due versions line' next' before (items ++ step_between base due next line line' ∷ [])
  goes_on base line next line' next' before items goes limit is is_next' =
      let more : CostStep = step_between base due next line line' in
      record {
        own = goes.own ++ more ∷ [];
        is = ap (λ (x : List CostStep). x ++ more ∷ []) goes.is ∙ append_assoc before goes.own (more ∷ []);
        from = next;
        so_far = next-so_far base goes.from line next line' goes.own goes.so_far goes.is_next limit is;
        is_next = is_next';
      }

-- above the base price 0 the steps are those of the least cost itself
pub tells-least : (due : ℕ) (versions : List Version) (steps : List CostStep) → TellLeastAbove 0 due versions steps → TellLeast due versions steps
tells-least due versions steps tell = record {
  dues = tell.dues;
  some = tell.some;
  costs = λ price limit. (let same : 0 + price ≡ price = omega arith in
      subst (λ n. least (map (cost n) versions) + sum_by (spared price) steps ≡ sum_by (paid price) steps) same (tell.costs price (omega arith)));
  count = tell.count;
  rises = tell.rises;
  packets = tell.packets;
  fewer = tell.fewer;
}
