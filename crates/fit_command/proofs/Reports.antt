-- What is reported of slots, slot by slot.
use Rattle.std.proofs.Common.{◌≡◌, ℕ, suc, ◌+◌, ◌<◌, ◌≤◌, List, [], ◌∷◌, ◌++◌, length, drop, get_or, sym, ap, ◌∙◌, append_assoc, drop-cons, arith}
use Rattle.std.proofs.lemmas.List.{append-nil, drop_all}
use Rattle.job_report.specs.declared.report.SlotVerdict.{SlotVerdict}
use Rattle.rate_fit.specs.declared.verdict.Verdict.{Verdict}
use Rattle.fit_command.specs.Report.{slot_report, slot_reports}

-- with the reports of the slots left these are all
abbrev pub ReportedTo : (slots : List ℕ) → List Verdict → (i : ℕ) → List SlotVerdict → Type 0
ReportedTo slots verdicts i reports = reports ++ slot_reports (drop i slots) (drop i verdicts) ≡ slot_reports slots verdicts

-- one more
pub reported_more : (slots : List ℕ) (verdicts : List Verdict) (i : ℕ) (reports longer : List SlotVerdict) (d : Verdict) → i < length slots → length verdicts ≡ length slots
    → longer ≡ reports ++ slot_report (get_or slots i 0) (get_or verdicts i d) ∷ [] → ReportedTo slots verdicts i reports → ReportedTo slots verdicts (i + 1) longer
reported_more slots verdicts i reports longer d lt same longer_is so =
    let next : suc i ≡ i + 1 = omega arith in
    let cut : drop i slots ≡ get_or slots i 0 ∷ drop (i + 1) slots = drop-cons slots i 0 lt ∙ ap (λ (k : ℕ). get_or slots i 0 ∷ drop k slots) next in
    let other : drop i verdicts ≡ get_or verdicts i d ∷ drop (i + 1) verdicts =
    drop-cons verdicts i d (omega (arith, lt, same)) ∙ ap (λ (k : ℕ). get_or verdicts i d ∷ drop k verdicts) next in
    let rest = slot_reports (drop (i + 1) slots) (drop (i + 1) verdicts) in
    let own = slot_report (get_or slots i 0) (get_or verdicts i d) in
    let parts : slot_reports (drop i slots) (drop i verdicts) ≡ own ∷ rest =
    ap (λ (s : List ℕ). slot_reports s (drop i verdicts)) cut ∙ ap (λ (v : List Verdict). slot_reports (get_or slots i 0 ∷ drop (i + 1) slots) v) other in
    ap (λ (r : List SlotVerdict). r ++ rest) longer_is ∙ append_assoc reports (own ∷ []) rest ∙ ap (λ (r : List SlotVerdict). reports ++ r) (sym parts) ∙ so

-- no more
pub reported_all : (slots : List ℕ) (verdicts : List Verdict) (i : ℕ) (reports : List SlotVerdict) → length slots ≤ i → ReportedTo slots verdicts i reports → reports ≡ slot_reports slots verdicts
reported_all slots verdicts i reports past so =
    sym (append-nil reports) ∙ sym (ap (λ (s : List ℕ). reports ++ slot_reports s (drop i verdicts)) (drop_all i slots past)) ∙ so
