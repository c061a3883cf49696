-- The greatest slot that is said to be scheduled is the greatest that is.
use Rattle.std.proofs.Common.{◌≡◌, ℕ, ◌+◌, ◌<◌, ◌≤◌, ◌⊎◌, inl, inr, max, List, length, slice_get, get_or, slice_index_or, Option, Some, None, sym, ap, subst, ◌∙◌, arith}
use Rattle.std.proofs.lemmas.Bool.{cases_lt}
use Rattle.std.proofs.lemmas.Option.{slice_get-get_or}
use Rattle.std.proofs.lemmas.Slice.Zip.{AllZip-right}
use Rattle.version_table.specs.declared.table.Table.{Table}
use Rattle.rate_fit.specs.declared.verdict.Verdict.{Verdict}
use Rattle.rate_fit.specs.declared.verdict.Verdict.TheVariants.{Scheduled, Missed, Limit}
use Rattle.rate_fit.specs.Fit.{AreVerdicts, FitsIn, IsGreatestFit, IsSlotVerdict, in_slots}
use Rattle.rate_fit.specs.Private.Greatest.{IsGreatestSaid, IsSaid, with_verdict}

-- the same under `Some`
some_inj : {X : Type 0} {a b : X} → Some a ≡ Some b → a ≡ b
some_inj e = cc

-- the item at a place, whatever stands for none
read_at : (xs : List ℕ) (k x d : ℕ) → k < length xs → slice_get xs k ≡ Some x → slice_index_or xs k d ≡ x
read_at xs k x d lt e = some_inj (sym (slice_get-get_or xs k d lt) ∙ e)

-- the law that there is one verdict
abbrev pub OneVerdict : Type 0
OneVerdict = (table : Table) (one other : Verdict) → IsSlotVerdict table one → IsSlotVerdict table other → one ≡ other

-- ---- one more slot

-- a place below the next one is below this one, or is it
pub old_or_new : (k n : ℕ) → k < n + 1 → (k < n) ⊎ (k ≡ n)
old_or_new k n lt = elim (cases_lt k n) as (λ _. (k < n) ⊎ (k ≡ n)) [
  | inl less ↦ inl less
  | inr more ↦ inr (omega (arith, lt, more))
]

-- the slot at place n isn't said to be scheduled
unsaid : (slots : List ℕ) (verdicts : List Verdict) (n k other : ℕ) (verdict : Verdict) → (verdict ≡ Scheduled → ⊥) → slice_get verdicts n ≡ Some verdict → k ≡ n
    → IsSaid slots verdicts k other → ⊥
unsaid slots verdicts n k other verdict isnt here e said = let x = said.said in isnt (some_inj (sym here ∙ ap (slice_get verdicts) (sym e) ∙ x))

stays_some : (slots : List ℕ) (verdicts : List Verdict) (n best j other : ℕ) (verdict : Verdict) → (verdict ≡ Scheduled → ⊥) → slice_get verdicts n ≡ Some verdict
    → ((k m : ℕ) → k < n → IsSaid slots verdicts k m → m ≤ best) → (j < n) ⊎ (j ≡ n) → IsSaid slots verdicts j other → other ≤ best
stays_some slots verdicts n best j other verdict isnt here most (inl before) said = most j other before said
stays_some slots verdicts n best j other verdict isnt here most (inr same) said = absurd (unsaid slots verdicts n j other verdict isnt here same said)

stays_none : (slots : List ℕ) (verdicts : List Verdict) (n j other : ℕ) (verdict : Verdict) → (verdict ≡ Scheduled → ⊥) → slice_get verdicts n ≡ Some verdict
    → ((k m : ℕ) → k < n → IsSaid slots verdicts k m → ⊥) → (j < n) ⊎ (j ≡ n) → IsSaid slots verdicts j other → ⊥
stays_none slots verdicts n j other verdict isnt here none (inl before) said = none j other before said
stays_none slots verdicts n j other verdict isnt here none (inr same) said = unsaid slots verdicts n j other verdict isnt here same said

-- the greatest stays where the slot at place n isn't scheduled
greatest_stays : (slots : List ℕ) (verdicts : List Verdict) (n : ℕ) (found : Option ℕ) (verdict : Verdict) → (verdict ≡ Scheduled → ⊥)
    → slice_get verdicts n ≡ Some verdict → IsGreatestSaid slots verdicts n found → IsGreatestSaid slots verdicts (n + 1) found
greatest_stays slots verdicts n (Some best) verdict isnt here ((k, lt, is), most) =
    ((k, omega (arith, lt), is), λ j other less said. stays_some slots verdicts n best j other verdict isnt here most (old_or_new j n less) said)
greatest_stays slots verdicts n None verdict isnt here none = λ j other less said. stays_none slots verdicts n j other verdict isnt here none (old_or_new j n less) said

-- the slot at place n is this one
one_slot : (slots : List ℕ) (verdicts : List Verdict) (n k slot other : ℕ) → slice_get slots n ≡ Some slot → k ≡ n → IsSaid slots verdicts k other → other ≡ slot
one_slot slots verdicts n k slot other here e said = let x = said.slot_is in some_inj (sym x ∙ ap (slice_get slots) e ∙ here)

grows_some : (slots : List ℕ) (verdicts : List Verdict) (n best slot j other : ℕ) → slice_get slots n ≡ Some slot
    → ((k m : ℕ) → k < n → IsSaid slots verdicts k m → m ≤ best) → (j < n) ⊎ (j ≡ n) → IsSaid slots verdicts j other → other ≤ max best slot
grows_some slots verdicts n best slot j other here most (inl before) said = let le = most j other before said in omega (arith, le)
grows_some slots verdicts n best slot j other here most (inr same) said = let e = one_slot slots verdicts n j slot other here same said in omega (arith, e)

grows_none : (slots : List ℕ) (verdicts : List Verdict) (n slot j other : ℕ) → slice_get slots n ≡ Some slot
    → ((k m : ℕ) → k < n → IsSaid slots verdicts k m → ⊥) → (j < n) ⊎ (j ≡ n) → IsSaid slots verdicts j other → other ≤ slot
grows_none slots verdicts n slot j other here none (inl before) said = absurd (none j other before said)
grows_none slots verdicts n slot j other here none (inr same) said = let e = one_slot slots verdicts n j slot other here same said in omega (arith, e)

-- the greater of two is one of them
greater_of : (a b : ℕ) → (max a b ≡ a) ⊎ (max a b ≡ b)
greater_of a b = elim (cases_lt a b) as (λ _. (max a b ≡ a) ⊎ (max a b ≡ b)) [
  | inl less ↦ inr (omega (arith, less))
  | inr more ↦ inl (omega (arith, more))
]

greatest_at : (slots : List ℕ) (verdicts : List Verdict) (n best slot : ℕ) → ((k : ℕ) × (k < n) × IsSaid slots verdicts k best) → IsSaid slots verdicts n slot
    → (max best slot ≡ best) ⊎ (max best slot ≡ slot) → (k : ℕ) × (k < n + 1) × IsSaid slots verdicts k (max best slot)
greatest_at slots verdicts n best slot (k, lt, is) here (inl same) = (k, omega (arith, lt), subst (λ (m : ℕ). IsSaid slots verdicts k m) (sym same) is)
greatest_at slots verdicts n best slot before here (inr same) = (n, omega arith, subst (λ (m : ℕ). IsSaid slots verdicts n m) (sym same) here)

-- the greatest with the slot at place n, which is scheduled
greatest_grows : (slots : List ℕ) (verdicts : List Verdict) (n : ℕ) (found : Option ℕ) (slot : ℕ) → IsSaid slots verdicts n slot → IsGreatestSaid slots verdicts n found
    → IsGreatestSaid slots verdicts (n + 1) (with_verdict found slot Scheduled)
greatest_grows slots verdicts n (Some best) slot here (among, most) = (
  greatest_at slots verdicts n best slot among here (greater_of best slot),
  λ j other less said. grows_some slots verdicts n best slot j other here.slot_is most (old_or_new j n less) said,
)
greatest_grows slots verdicts n None slot here none =
    ((n, omega arith, here), λ j other less said. grows_none slots verdicts n slot j other here.slot_is none (old_or_new j n less) said)

-- with the slot at place n, whatever is said of it
pub greatest_more : (slots : List ℕ) (verdicts : List Verdict) (n : ℕ) (found : Option ℕ) (slot : ℕ) (verdict : Verdict) → slice_get slots n ≡ Some slot
    → slice_get verdicts n ≡ Some verdict → IsGreatestSaid slots verdicts n found → IsGreatestSaid slots verdicts (n + 1) (with_verdict found slot verdict)
greatest_more slots verdicts n found slot Scheduled here said is = greatest_grows slots verdicts n found slot (record { slot_is = here; said = said }) is
greatest_more slots verdicts n (Some best) slot (Missed miss) here said is = greatest_stays slots verdicts n (Some best) (Missed miss) (λ e. cc) said is
greatest_more slots verdicts n None slot (Missed miss) here said is = greatest_stays slots verdicts n None (Missed miss) (λ e. cc) said is
greatest_more slots verdicts n (Some best) slot Limit here said is = greatest_stays slots verdicts n (Some best) Limit (λ e. cc) said is
greatest_more slots verdicts n None slot Limit here said is = greatest_stays slots verdicts n None Limit (λ e. cc) said is

-- ---- of all slots

-- what is said of a slot is its verdict
said_is : (table : Table) (slots : List ℕ) (verdicts : List Verdict) (k slot : ℕ) (verdict : Verdict) → AreVerdicts table slots verdicts → slice_get slots k ≡ Some slot
    → slice_get verdicts k ≡ Some verdict → IsSlotVerdict (in_slots slot table) verdict
said_is table slots verdicts k slot verdict are here said =
    let both = AllZip-right (λ (s : ℕ) (v : Verdict). IsSlotVerdict (in_slots s table) v) slots verdicts are k in
    let told = rw said at both in
    rw here at told

-- a slot in which the table fits is said to be scheduled
fitting_is_said : OneVerdict → (table : Table) (slots : List ℕ) (verdicts : List Verdict) (k slot : ℕ) → length verdicts ≡ length slots → AreVerdicts table slots verdicts
    → k < length slots → slice_get slots k ≡ Some slot → FitsIn table slot → IsSaid slots verdicts k slot
fitting_is_said law table slots verdicts k slot long are lt here fits =
    let there : slice_get verdicts k ≡ Some (get_or verdicts k Limit) = slice_get-get_or verdicts k Limit (omega (arith, lt, long)) in
    let is = said_is table slots verdicts k slot (get_or verdicts k Limit) are here there in
    record { slot_is = here; said = there ∙ ap Some (law (in_slots slot table) (get_or verdicts k Limit) Scheduled is fits) }

pub greatest_is : OneVerdict → (table : Table) (slots : List ℕ) (verdicts : List Verdict) (found : Option ℕ) → length verdicts ≡ length slots → AreVerdicts table slots verdicts
    → IsGreatestSaid slots verdicts (length slots) found → IsGreatestFit table slots found
greatest_is law table slots verdicts (Some slot) long are ((k, lt, is), most) = (
  (k, lt, read_at slots k slot slot lt is.slot_is),
  said_is table slots verdicts k slot Scheduled are is.slot_is is.said,
  λ j d less fits. most j (slice_index_or slots j d) less
      (fitting_is_said law table slots verdicts j (slice_index_or slots j d) long are less (slice_get-get_or slots j d less) fits),
)
greatest_is law table slots verdicts None long are none =
    λ j d less fits. none j (slice_index_or slots j d) less
    (fitting_is_said law table slots verdicts j (slice_index_or slots j d) long are less (slice_get-get_or slots j d less) fits)
