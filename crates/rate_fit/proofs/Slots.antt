-- Verdicts, slot by slot.
use Rattle.std.proofs.Common.{◌≡◌, ℕ, suc, ◌+◌, ◌<◌, ◌≤◌, max, fold, List, [], ◌∷◌, ◌++◌, length, drop, get_or, zero, sym, ap, subst, ◌∙◌, append_assoc, drop-cons, arith}
use Rattle.std.proofs.lemmas.List.{append-nil, drop_all}
use Rattle.version_table.specs.declared.table.Table.{Table}
use Rattle.version_table.specs.Table.{greatest}
use Rattle.rate_fit.specs.declared.verdict.Verdict.{Verdict}
use Rattle.rate_fit.specs.Fit.{AreVerdicts, IsSlotVerdict, in_slots}

-- ---- the greatest slot

pub above_start : (start : ℕ) (slots : List ℕ) → start ≤ fold max start slots
above_start start [] = omega arith
above_start start (slot ∷ slots) = omega (arith, above_start (max start slot) slots)

above_each : (start : ℕ) (slots : List ℕ) (k : ℕ) → k < length slots → get_or slots k 0 ≤ fold max start slots
above_each start [] k lt = absurd (omega arith)
above_each start (slot ∷ slots) zero lt = omega (arith, above_start (max start slot) slots)
above_each start (slot ∷ slots) (suc k) lt = above_each (max start slot) slots k (omega arith)

-- no slot is longer
pub slot_most : (slots : List ℕ) (k : ℕ) → k < length slots → get_or slots k 0 ≤ greatest slots
slot_most slots k lt = above_each 0 slots k lt

-- ---- what is said of the slots so far

-- with any verdicts on the slots left these are the verdicts on all
abbrev pub SaidBefore : Table → (slots : List ℕ) → (i : ℕ) → List Verdict → Type 0
SaidBefore table slots i verdicts = (more : List Verdict) → AreVerdicts table (drop i slots) more → AreVerdicts table slots (verdicts ++ more)

-- one more slot
pub said_more : (table : Table) (slots : List ℕ) (i : ℕ) (verdicts longer : List Verdict) (verdict : Verdict) → i < length slots → longer ≡ verdicts ++ verdict ∷ []
    → SaidBefore table slots i verdicts → IsSlotVerdict (in_slots (get_or slots i 0) table) verdict → SaidBefore table slots (i + 1) longer
said_more table slots i verdicts longer verdict lt longer_is said is more are =
    let next : suc i ≡ i + 1 = omega arith in
    let cut : drop i slots ≡ get_or slots i 0 ∷ drop (i + 1) slots = drop-cons slots i 0 lt ∙ ap (λ (k : ℕ). get_or slots i 0 ∷ drop k slots) next in
    let joined : longer ++ more ≡ verdicts ++ verdict ∷ more = ap (λ (v : List Verdict). v ++ more) longer_is ∙ append_assoc verdicts (verdict ∷ []) more in
    subst (λ (v : List Verdict). AreVerdicts table slots v) (sym joined)
    (said (verdict ∷ more) (subst (λ (s : List ℕ). AreVerdicts table s (verdict ∷ more)) (sym cut) (is, are)))

-- no more slots
pub said_all : (table : Table) (slots : List ℕ) (i : ℕ) (verdicts : List Verdict) → length slots ≤ i → SaidBefore table slots i verdicts → AreVerdicts table slots verdicts
said_all table slots i verdicts past said =
    subst (λ (v : List Verdict). AreVerdicts table slots v) (append-nil verdicts)
    (said [] (subst (λ (s : List ℕ). AreVerdicts table s []) (sym (drop_all i slots past)) tt))
