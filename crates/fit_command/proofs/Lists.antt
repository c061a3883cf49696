-- Slots that may stand in a list, and the list of a text.
use Rattle.std.proofs.Common.{◌≡◌, ℕ, ◌+◌, ◌-◌, ◌<◌, ◌≤◌, ◌⊎◌, ◌^◌, All, List, [], ◌∷◌, ◌++◌, length, get_or, decimal, Some, None, refl, sym, ap, subst, ◌∙◌, append_assoc, inl, inr, arith}
use Rattle.std.specs.List.{flat_map}
use Rattle.std.specs.List.Sorted.{IsStrictlyIncreasing}
use Rattle.std.proofs.Math.Seq.{get_or-append_seam}
use Rattle.std.proofs.lemmas.Bool.{cases_lt}
use Rattle.std.proofs.lemmas.Grind.{flat_map-append}
use Rattle.std.proofs.lemmas.List.{append-nil, get_or_append_left, length-append}
use Rattle.version_table.specs.declared.limits.TheConstants.{SLOT_LEAST, SLOT_MOST}
use Rattle.rate_fit.proofs.GreatestSaid.{old_or_new}
use Rattle.fit_command.specs.declared.limits.TheConstants.{LIST_BYTES_MOST, LIST_LINES_MOST}
use Rattle.fit_command.specs.ListText.{IsListRefused, IsListText, MayBeSlots, list_spelling, slot_line}
use Rattle.fit_command.specs.Private.NextSlot.{IsNextNumber, IsNextSlot, Rises}
use Rattle.fit_command.proofs.Lines.{one_line}

-- ---- slots that may stand

long : (before : List ℕ) (slot : ℕ) → length (before ++ slot ∷ []) ≡ length before + 1
long before slot = length-append before (slot ∷ [])

last_is : (before : List ℕ) (slot k d : ℕ) → k ≡ length before → get_or (before ++ slot ∷ []) k d ≡ slot
last_is before slot k d e = ap (λ (j : ℕ). get_or (before ++ slot ∷ []) j d) e ∙ get_or-append_seam before slot [] d

within_more : (before : List ℕ) (slot : ℕ) → All (λ s. (SLOT_LEAST ≤ s) × (s ≤ SLOT_MOST)) before → (SLOT_LEAST ≤ slot) × (slot ≤ SLOT_MOST)
    → (k d : ℕ) → (k < length before) ⊎ (k ≡ length before) → (SLOT_LEAST ≤ get_or (before ++ slot ∷ []) k d) × (get_or (before ++ slot ∷ []) k d ≤ SLOT_MOST)
within_more before slot all own k d (inl old) =
    subst (λ (s : ℕ). (SLOT_LEAST ≤ s) × (s ≤ SLOT_MOST)) (sym (get_or_append_left before (slot ∷ []) d k old)) (all k d old)
within_more before slot all own k d (inr last) = subst (λ (s : ℕ). (SLOT_LEAST ≤ s) × (s ≤ SLOT_MOST)) (sym (last_is before slot k d last)) own

rising_more : (before : List ℕ) (slot : ℕ) → IsStrictlyIncreasing before → Rises before slot → (k : ℕ) → (k + 1 < length before) ⊎ (k + 1 ≡ length before)
    → get_or (before ++ slot ∷ []) k 0 < get_or (before ++ slot ∷ []) (k + 1) 0
rising_more before slot rising next k (inl old) =
    let a = get_or_append_left before (slot ∷ []) 0 k (omega (arith, old)) in
    let b = get_or_append_left before (slot ∷ []) 0 (k + 1) old in
    omega (arith, a, b, rising k old)
rising_more before slot rising (inl none) k (inr last) = absurd (omega (arith, none, last))
rising_more before slot rising (inr above) k (inr last) =
    let a = get_or_append_left before (slot ∷ []) 0 k (omega (arith, last)) in
    let b = last_is before slot (k + 1) 0 last in
    let place : length before - 1 ≡ k = omega (arith, last) in
    let own : get_or before (length before - 1) 0 ≡ get_or before k 0 = ap (λ (j : ℕ). get_or before j 0) place in
    omega (arith, a, b, own, above)

-- one more
pub stand_more : (before : List ℕ) (slot : ℕ) → MayBeSlots before → length before < LIST_LINES_MOST → (SLOT_LEAST ≤ slot) × (slot ≤ SLOT_MOST) → Rises before slot
    → MayBeSlots (before ++ slot ∷ [])
stand_more before slot stand few own rises = record {
  few = omega (arith, long before slot, few);
  within = λ k d lt. within_more before slot stand.within own k d (old_or_new k (length before) (omega (arith, lt, long before slot)));
  rising = λ k lt. rising_more before slot stand.rising rises k (old_or_new (k + 1) (length before) (omega (arith, lt, long before slot)));
}

-- and what it was for
rises_of : (before : List ℕ) (slot : ℕ) → IsStrictlyIncreasing (before ++ slot ∷ []) → (length before ≡ 0) ⊎ (1 ≤ length before) → Rises before slot
rises_of before slot rising (inl none) = inl none
rises_of before slot rising (inr some) =
    let k = length before - 1 in
    let next : k + 1 ≡ length before = omega (arith, some) in
    let up = rising k (omega (arith, long before slot, some)) in
    let a = get_or_append_left before (slot ∷ []) 0 k (omega (arith, some)) in
    let b = last_is before slot (k + 1) 0 next in
    inr (omega (arith, a, b, up))

none_or_some : (n : ℕ) → (n ≡ 0) ⊎ (1 ≤ n)
none_or_some n = elim (cases_lt 0 n) as (λ _. (n ≡ 0) ⊎ (1 ≤ n)) [
  | inl some ↦ inr some
  | inr none ↦ inl (omega (arith, none))
]

pub stand_parts : (before : List ℕ) (slot : ℕ) → MayBeSlots (before ++ slot ∷ []) → (length before < LIST_LINES_MOST) × ((SLOT_LEAST ≤ slot) × (slot ≤ SLOT_MOST)) × Rises before slot
stand_parts before slot stand = (
  omega (arith, long before slot, stand.few),
  subst (λ (s : ℕ). (SLOT_LEAST ≤ s) × (s ≤ SLOT_MOST)) (last_is before slot (length before) 0 refl) (stand.within (length before) 0 (omega (arith, long before slot))),
  rises_of before slot stand.rising (none_or_some (length before)),
)

pub nothing_stands : MayBeSlots []
nothing_stands = record { few = omega arith; within = λ k d lt. absurd (omega (arith, lt)); rising = λ k lt. absurd (omega (arith, lt)) }

-- a slot that may stand is small
pub slot_small : (before : List ℕ) (slot : ℕ) → MayBeSlots (before ++ slot ∷ []) → slot < 2 ^ 64
slot_small before slot stand = let own = (stand_parts before slot stand).1 in omega (arith, own.1)

-- ---- the next slot

-- no line of a number comes, so no slot's does
pub no_number : (text before : List ℕ) → IsNextNumber text None → IsNextSlot text before None
no_number text before none slot behind stand e = none slot behind (slot_small before slot stand) e

-- or the number of the line may not stand there
pub no_slot : (text before behind : List ℕ) (number : ℕ) → number < 2 ^ 64 → text ≡ slot_line number ++ behind → (MayBeSlots (before ++ number ∷ []) → ⊥) → IsNextSlot text before None
no_slot text before behind number small is not slot other stand e =
    let same = one_line slot number other behind (slot_small before slot stand) small (sym e ∙ is) in
    not (subst (λ (s : ℕ). MayBeSlots (before ++ s ∷ [])) same.0 stand)

-- ---- the slots so far

-- the text is the lines of these slots, and this rest
pub record ReadTo (text : List ℕ) (slots : List ℕ) (rest : List ℕ) : Type 0 where
  pub parts : text ≡ list_spelling slots ++ rest
  pub stand : MayBeSlots slots

pub read_next : (text slots longer rest behind : List ℕ) (slot : ℕ) → ReadTo text slots rest → IsNextSlot rest slots (Some (slot, behind)) → longer ≡ slots ++ slot ∷ [] → ReadTo text longer behind
read_next text slots longer rest behind slot read next longer_is =
    let own : flat_map slot_line (slot ∷ []) ≡ slot_line slot = append-nil (slot_line slot) in
    let spelled : list_spelling (slots ++ slot ∷ []) ≡ list_spelling slots ++ slot_line slot =
    flat_map-append slot_line slots (slot ∷ []) ∙ ap (λ (l : List ℕ). list_spelling slots ++ l) own in
    let whole : list_spelling (slots ++ slot ∷ []) ++ behind ≡ text =
    ap (λ (l : List ℕ). l ++ behind) spelled ∙ append_assoc (list_spelling slots) (slot_line slot) behind
    ∙ ap (λ (l : List ℕ). list_spelling slots ++ l) (sym next.1) ∙ sym read.parts in
    subst (λ (l : List ℕ). ReadTo text l behind) (sym longer_is) (record { parts = sym whole; stand = next.0 })

-- a whole list
pub read_whole : (text slots : List ℕ) → length text ≤ LIST_BYTES_MOST → 1 ≤ length text → ReadTo text slots [] → IsListText text slots
read_whole text slots short some read = record { short = short; some = begun slots read; stand = read.stand; spelled = read.parts ∙ append-nil (list_spelling slots) }
  where
    begun : (s : List ℕ) → ReadTo text s [] → 1 ≤ length s
    begun [] from = absurd (omega (arith, some, ap length from.parts))
    begun (slot ∷ more) from = omega arith

-- or a line that no list has there
pub read_refused : (text slots rest : List ℕ) → length text ≤ LIST_BYTES_MOST → ReadTo text slots rest → 1 ≤ length rest → IsNextSlot rest slots None
    → IsListRefused text (length slots + 1)
read_refused text slots rest short read some none =
    inr (
      short,
      record {
        before = slots;
        rest = rest;
        parts = read.parts;
        stand = read.stand;
        number = refl;
        no_line = λ slot more stand e. none slot more stand e;
        owed = λ begun e. omega (arith, some, ap length e);
      },
    )

-- an empty text
pub empty_refused : (text : List ℕ) → length text ≡ 0 → text ≡ [] → IsListRefused text 1
empty_refused text none is =
    inr (
      omega (arith, none),
      record {
        before = [];
        rest = [];
        parts = is;
        stand = nothing_stands;
        number = refl;
        no_line = λ slot more stand e. omega (arith, ap length e, length-append (slot_line slot) more, length-append (decimal slot) (10 ∷ []));
        owed = λ begun e. omega (arith, begun);
      },
    )
