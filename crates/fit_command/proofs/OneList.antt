-- A text is one list, or refused at one line, and never both.
use Rattle.std.proofs.Common.{◌≡◌, ◌≢◌, ℕ, ◌+◌, ◌≤◌, List, [], ◌∷◌, ◌++◌, length, decimal, refl, sym, ap, subst, ◌∙◌, append_assoc, inl, inr, arith}
use Rattle.std.proofs.lemmas.List.{append-nil, get_or_append_left, length-append}
use Rattle.version_table.specs.declared.limits.TheConstants.{SLOT_LEAST, SLOT_MOST}
use Rattle.fit_command.specs.ListText.{IsListRefused, IsListText, MayBeSlots, list_spelling, slot_line}
use Rattle.fit_command.proofs.Lines.{one_line}
use Rattle.fit_command.proofs.Lists.{slot_small}

-- no line that may stand behind these slots comes
abbrev Stuck : (before rest : List ℕ) → Type 0
Stuck before rest = (slot : ℕ) (more : List ℕ) → MayBeSlots (before ++ slot ∷ []) → rest ≢ slot_line slot ++ more

stuck_at_end : (before : List ℕ) → Stuck before []
stuck_at_end before slot more stand e = omega (arith, ap length e, length-append (slot_line slot) more, length-append (decimal slot) (10 ∷ []))

-- the first of some slots that may stand may
stand_front : (front behind : List ℕ) → MayBeSlots (front ++ behind) → MayBeSlots front
stand_front front behind stand = record {
  few = omega (arith, stand.few, length-append front behind);
  within = λ k d lt. subst (λ (s : ℕ). (SLOT_LEAST ≤ s) × (s ≤ SLOT_MOST)) (get_or_append_left front behind d k lt)
      (stand.within k d (omega (arith, lt, length-append front behind)));
  rising = λ k lt.
      let up = stand.rising k (omega (arith, lt, length-append front behind)) in
      let a = get_or_append_left front behind 0 k (omega (arith, lt)) in
      let b = get_or_append_left front behind 0 (k + 1) lt in
      omega (arith, up, a, b);
}

-- the first of more slots
first_stands : (before : List ℕ) (slot : ℕ) (slots : List ℕ) → MayBeSlots (before ++ slot ∷ slots) → MayBeSlots (before ++ slot ∷ [])
first_stands before slot slots stand = stand_front (before ++ slot ∷ []) slots (subst (λ (s : List ℕ). MayBeSlots s) (sym (append_assoc before (slot ∷ []) slots)) stand)

-- behind the same slots the lines go on in one way
one_beginning : (before xs ys r s : List ℕ) → MayBeSlots (before ++ xs) → MayBeSlots (before ++ ys) → Stuck (before ++ xs) r → Stuck (before ++ ys) s
    → list_spelling xs ++ r ≡ list_spelling ys ++ s → (xs ≡ ys) × (r ≡ s)
one_beginning before [] [] r s stands stand stuck ends e = (refl, e)
one_beginning before [] (y ∷ ys) r s stands stand stuck ends e =
    absurd (stuck y (list_spelling ys ++ s) (subst (λ (b : List ℕ). MayBeSlots (b ++ y ∷ [])) (sym (append-nil before)) (first_stands before y ys stand))
    (e ∙ append_assoc (slot_line y) (list_spelling ys) s))
one_beginning before (x ∷ xs) [] r s stands stand stuck ends e =
    absurd (ends x (list_spelling xs ++ r) (subst (λ (b : List ℕ). MayBeSlots (b ++ x ∷ [])) (sym (append-nil before)) (first_stands before x xs stands))
    (sym e ∙ append_assoc (slot_line x) (list_spelling xs) r))
one_beginning before (x ∷ xs) (y ∷ ys) r s stands stand stuck ends e =
    let parts : slot_line x ++ (list_spelling xs ++ r) ≡ slot_line y ++ (list_spelling ys ++ s) =
    sym (append_assoc (slot_line x) (list_spelling xs) r) ∙ e ∙ append_assoc (slot_line y) (list_spelling ys) s in
    let small = slot_small before x (first_stands before x xs stands) in
    let other_small = slot_small before y (first_stands before y ys stand) in
    let (first, rest) = one_line x y (list_spelling xs ++ r) (list_spelling ys ++ s) small other_small parts in
    let joined : (before ++ x ∷ []) ++ xs ≡ before ++ x ∷ xs = append_assoc before (x ∷ []) xs in
    let other : (before ++ x ∷ []) ++ ys ≡ before ++ y ∷ ys = append_assoc before (x ∷ []) ys ∙ ap (λ (z : ℕ). before ++ z ∷ ys) first in
    let (same, end) = one_beginning (before ++ x ∷ []) xs ys r s (subst (λ (b : List ℕ). MayBeSlots b) (sym joined) stands) (subst (λ (b : List ℕ). MayBeSlots b) (sym other) stand)
    (subst (λ (b : List ℕ). Stuck b r) (sym joined) stuck) (subst (λ (b : List ℕ). Stuck b s) (sym other) ends) rest in
    (ap (λ (z : ℕ). z ∷ xs) first ∙ ap (λ (z : List ℕ). y ∷ z) same, end)

one_way : (text xs ys r s : List ℕ) → text ≡ list_spelling xs ++ r → text ≡ list_spelling ys ++ s → MayBeSlots xs → MayBeSlots ys → Stuck xs r → Stuck ys s → (xs ≡ ys) × (r ≡ s)
one_way text xs ys r s first second stands stand stuck ends = one_beginning [] xs ys r s stands stand stuck ends (sym first ∙ second)

-- ---- one reading

pub one_list : (text slots other : List ℕ) → IsListText text slots → IsListText text other → slots ≡ other
one_list text slots other a b =
    (one_way text slots other [] [] (a.spelled ∙ sym (append-nil (list_spelling slots))) (b.spelled ∙ sym (append-nil (list_spelling other))) a.stand b.stand
    (stuck_at_end slots) (stuck_at_end other)).0

pub list_or_refused : (text slots : List ℕ) (line : ℕ) → IsListText text slots → IsListRefused text line → ⊥
list_or_refused text slots line a (inl (long, first)) = omega (arith, long, a.short)
list_or_refused text slots line a (inr (short, b)) =
    let (same, ends) = one_way text slots b.before [] b.rest (a.spelled ∙ sym (append-nil (list_spelling slots))) b.parts a.stand b.stand (stuck_at_end slots) b.no_line in
    let count = ap length same in
    b.owed (omega (arith, a.some, count)) (sym ends)

pub one_refused_line : (text : List ℕ) (line other : ℕ) → IsListRefused text line → IsListRefused text other → line ≡ other
one_refused_line text line other (inl (long, first)) (inl (again, second)) = first ∙ sym second
one_refused_line text line other (inl (long, first)) (inr (short, b)) = absurd (omega (arith, long, short))
one_refused_line text line other (inr (short, a)) (inl (long, second)) = absurd (omega (arith, long, short))
one_refused_line text line other (inr (short, a)) (inr (again, b)) =
    let (same, ends) = one_way text a.before b.before a.rest b.rest a.parts b.parts a.stand b.stand a.no_line b.no_line in
    a.number ∙ ap (λ (s : List ℕ). length s + 1) same ∙ sym b.number
