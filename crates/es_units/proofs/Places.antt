-- What tests find among places in order.
use Rattle.std.proofs.Common.{◌≡◌, ℕ, zero, suc, ◌+◌, ◌-◌, ◌<◌, ◌≤◌, Bool, true, false, ◌||◌, List, [], ◌∷◌, ◌++◌, filter, Some, None, refl, sym, ap, subst, inl, inr, ◌∙◌, arith}
use Rattle.std.specs.List.{find, list_any, range_with_len}
use Rattle.std.proofs.lemmas.Bool.{cases_eq}
use Rattle.list_types.proofs.Search.{find_range, find_none}
use Rattle.es_units.specs.Units.{places}

range_more : (from n : ℕ) → range_with_len from (suc n) ≡ range_with_len from n ++ (from + n) ∷ []
range_more from zero = ap (λ (k : ℕ). k ∷ []) (omega arith)
range_more from (suc n) = ap (λ (xs : List ℕ). from ∷ xs) (range_more (from + 1) n ∙ ap (λ (k : ℕ). range_with_len (from + 1) n ++ k ∷ []) (omega arith))

-- one place more at the end
pub places_more : (from end : ℕ) → from ≤ end → places from (end + 1) ≡ places from end ++ end ∷ []
places_more from end le =
    let count : end + 1 - from ≡ suc (end - from) = omega arith in
    let last : from + (end - from) ≡ end = omega arith in
    ap (range_with_len from) count ∙ range_more from (end - from) ∙ ap (λ (k : ℕ). places from end ++ k ∷ []) last

-- the first place, and those behind it
pub places_first : (from end : ℕ) → from < end → places from end ≡ from ∷ places (from + 1) end
places_first from end lt =
    let count : end - from ≡ suc (end - (from + 1)) = omega arith in
    ap (range_with_len from) count

pub places_none : (from : ℕ) → places from from ≡ []
places_none from = let count : from - from ≡ 0 = omega arith in ap (range_with_len from) count

filter_over : (test : ℕ → Bool) (n from end : ℕ) → from + n ≤ end → ((at : ℕ) → from ≤ at → at < from + n → test at ≡ false) → filter test (places from end) ≡ filter test (places (from + n) end)
filter_over test zero from end le none = ap (λ (k : ℕ). filter test (places k end)) (omega arith)
filter_over test (suc n) from end le none =
    let lt : from < end = omega arith in
    let here : test from ≡ false = none from (omega arith) (omega arith) in
    let sum : (from + 1) + n ≡ from + suc n = omega arith in
    ap (filter test) (places_first from end lt) ∙ rw here
    (filter_over test n (from + 1) end (omega arith) (λ at begun upto. none at (omega arith) (omega arith)) ∙ ap (λ (k : ℕ). filter test (places k end)) sum)

-- places that fail are passed over
pub filter_from : (test : ℕ → Bool) (from to end : ℕ) → from ≤ to → to ≤ end → ((at : ℕ) → from ≤ at → at < to → test at ≡ false) → filter test (places from end) ≡ filter test (places to end)
filter_from test from to end begun le none =
    let sum : from + (to - from) ≡ to = omega arith in
    filter_over test (to - from) from end (omega arith) (λ at b u. none at b (omega arith)) ∙ ap (λ (k : ℕ). filter test (places k end)) sum

pub filter_none : (test : ℕ → Bool) (from end : ℕ) → from ≤ end → ((at : ℕ) → from ≤ at → test at ≡ false) → filter test (places from end) ≡ []
filter_none test from end le none = filter_from test from end end le (omega arith) (λ at begun upto. none at begun) ∙ ap (filter test) (places_none end)

-- the first place that passes
pub find_place : (test : ℕ → Bool) (end found : ℕ) → found < end → test found ≡ true → ((at : ℕ) → at < found → test at ≡ false) → find test (places 0 end) ≡ Some found
find_place test end found lt is none = find_range test (end - 0) 0 found (omega arith) (omega arith) is (λ at b u. none at u)

pub no_place : (test : ℕ → Bool) (end : ℕ) → ((at : ℕ) → test at ≡ false) → find test (places 0 end) ≡ None
no_place test end none = find_none test (end - 0) 0 (λ at b u. none at)

pub filter_at : (test : ℕ → Bool) (from at end : ℕ) → from ≤ at → at < end → ((k : ℕ) → from ≤ k → k < at → test k ≡ false) → test at ≡ true
    → filter test (places from end) ≡ at ∷ filter test (places (at + 1) end)
filter_at test from at end begun lt none is =
    filter_from test from at end begun (omega arith) none ∙ ap (filter test) (places_first at end lt) ∙ rw is refl

pub filter_past : (test : ℕ → Bool) (from at end : ℕ) → from ≤ at → at < end → ((k : ℕ) → from ≤ k → k < at → test k ≡ false) → test at ≡ false
    → filter test (places from end) ≡ filter test (places (at + 1) end)
filter_past test from at end begun lt none is =
    filter_from test from at end begun (omega arith) none ∙ ap (filter test) (places_first at end lt) ∙ rw is refl

-- ---- whether some place passes

or_later : (a b : Bool) → b ≡ true → (a || b) ≡ true
or_later true b is = refl
or_later false b is = is

pub some_place : (test : ℕ → Bool) (n from found : ℕ) → from ≤ found → found < from + n → test found ≡ true → list_any test (range_with_len from n) ≡ true
some_place test zero from found begun upto is = absurd (omega arith)
some_place test (suc n) from found begun upto is = elim (cases_eq from found) [
  | inl same ↦ (let here : test from ≡ true = subst (λ (k : ℕ). test k ≡ true) (sym same) is in rw here refl)
  | inr apart ↦ or_later (test from) (list_any test (range_with_len (from + 1) n)) (some_place test n (from + 1) found (omega arith) (omega arith) is)
]

pub none_passes : (test : ℕ → Bool) (n from : ℕ) → ((at : ℕ) → from ≤ at → at < from + n → test at ≡ false) → list_any test (range_with_len from n) ≡ false
none_passes test zero from none = refl
none_passes test (suc n) from none =
    let here : test from ≡ false = none from (omega arith) (omega arith) in
    rw here (none_passes test n (from + 1) (λ at b u. none at (omega arith) (omega arith)))
