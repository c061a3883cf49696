-- What payloads give stays what is given first, whatever follows.
use Rattle.std.proofs.Common.{
  ◌≡◌,
  ℕ,
  zero,
  suc,
  ◌-◌,
  ◌<◌,
  ◌≤◌,
  Bool,
  true,
  false,
  cond,
  List,
  [],
  ◌∷◌,
  ◌++◌,
  length,
  drop,
  Ok,
  Err,
  refl,
  sym,
  ap,
  ◌∙◌,
  append_assoc,
  length-append,
  arith,
  ◌⊎◌,
  inl,
  inr,
}
use Rattle.std.specs.Prelude.{◌==◌}
use Rattle.std.proofs.lemmas.List.{append-nil, drop_at}
use Rattle.psi_tables.specs.declared.section.SectionFault.TheVariants.{BadSection}
use Rattle.bit_lists.specs.Payload.{Payload}
use Rattle.psi_tables.specs.Sections.{
  Found,
  has_pointer,
  points_past,
  behind_pointer,
  bytes_on,
  stuffing_byte,
  section_size,
  found_at,
  found_from,
  found_in,
  found_in_all,
  has_error,
  until_error,
  sections_behind,
  sections_of,
  added,
}
use Rattle.psi_tables.specs.Private.SectionFront.{is_settled}
use Rattle.psi_tables.proofs.Reading.{until_error-append, until_error-none}
use Rattle.psi_tables.proofs.Fronts.{section_size-append, settled-header, unsettled-size, found_at-unsettled, found_at-append, found_from-none}

abbrev pub Begins : List Found → List Found → Type 0
Begins front all = (more : List Found) × (all ≡ front ++ more)

choose : (stuffed : Bool) (front all : List Found) → Begins front all → Begins (cond stuffed [] front) (cond stuffed [] all)
choose true front all begins = ([], refl)
choose false front all begins = begins

-- a first list stays
behind-first : (f front all : List Found) → Begins front all → Begins (f ++ front) (f ++ all)
behind-first f front all begins = (begins.0, ap (λ (more : List Found). f ++ more) begins.1 ∙ sym (append_assoc f front begins.0))

from-longer : (n : ℕ) (own next more : List ℕ) → Begins (found_from n own next) (found_from n own (next ++ more))
from-longer zero [] next more = ([], refl)
from-longer (suc n) [] next more = ([], refl)
from-longer (suc n) (byte ∷ bytes) next more = from-longer n bytes next more
from-longer zero (byte ∷ bytes) next more = choose (byte == stuffing_byte) _ _
    (by_settled (is_settled (byte ∷ bytes ++ next)) refl (from-longer (section_size (byte ∷ bytes ++ next) - 1) bytes next more))
  where
    by_settled : (settled : Bool) → is_settled (byte ∷ bytes ++ next) ≡ settled
        → Begins (found_from (section_size (byte ∷ bytes ++ next) - 1) bytes next)
        (found_from (section_size (byte ∷ bytes ++ next) - 1) bytes (next ++ more))
        → Begins (found_at (byte ∷ bytes ++ next) ++ found_from (section_size (byte ∷ bytes ++ next) - 1) bytes next)
        (found_at (byte ∷ bytes ++ (next ++ more)) ++ found_from (section_size (byte ∷ bytes ++ (next ++ more)) - 1) bytes (next ++ more))
    by_settled true settled again =
        let a : List ℕ = byte ∷ bytes ++ next in
        let joined : byte ∷ bytes ++ (next ++ more) ≡ (byte ∷ bytes ++ next) ++ more = sym (append_assoc (byte ∷ bytes) next more) in
        let found : found_at (byte ∷ bytes ++ (next ++ more)) ≡ found_at (byte ∷ bytes ++ next) = ap found_at joined ∙ found_at-append (byte ∷ bytes ++ next) more settled in
        let size : section_size (byte ∷ bytes ++ (next ++ more)) ≡ section_size (byte ∷ bytes ++ next) = ap section_size joined
        ∙ section_size-append (byte ∷ bytes ++ next) more (settled-header (byte ∷ bytes ++ next) settled) in
        rw (found, size) (behind-first (found_at (byte ∷ bytes ++ next)) _ _ again)
    by_settled false unsettled again =
        let short : length (byte ∷ bytes ++ next) < section_size (byte ∷ bytes ++ next) = unsettled-size (byte ∷ bytes ++ next) unsettled in
        let within : length bytes ≤ section_size (byte ∷ bytes ++ next) - 1 = omega (arith, length-append bytes next, short) in
        rw (found_at-unsettled (byte ∷ bytes ++ next) unsettled, found_from-none (section_size (byte ∷ bytes ++ next) - 1) bytes next within) (_, refl)

in-longer : (p : Payload) (next more : List ℕ) → Begins (found_in p next) (found_in p (next ++ more))
in-longer p next more = by_tests (has_pointer p) (points_past p) _ _ (from-longer 0 (behind_pointer p) next more)
  where
    by_tests : (pointer past : Bool) (front all : List Found) → Begins front all
        → Begins (cond pointer (cond past (Err BadSection ∷ []) front) []) (cond pointer (cond past (Err BadSection ∷ []) all) [])
    by_tests true true front all begins = ([], refl)
    by_tests true false front all begins = begins
    by_tests false past front all begins = ([], refl)

-- payloads have a place that is pointed at, which ends what goes on, or nothing is found in them
abbrev Ends : List Payload → Type 0
Ends ps = ((later : List Payload) → bytes_on (ps ++ later) ≡ bytes_on ps) ⊎ ((found_in_all ps ≡ []) × ((later : List Payload) → bytes_on (ps ++ later) ≡ bytes_on ps ++ bytes_on later))

ends : (ps : List Payload) → Ends ps
ends [] = inr (refl, λ later. refl)
ends (p ∷ ps) = by_pointer (has_pointer p) refl (ends ps)
  where
    by_pointer : (pointer : Bool) → has_pointer p ≡ pointer → Ends ps → Ends (p ∷ ps)
    by_pointer true is behind = inl (λ (later : List Payload). rw is refl)
    by_pointer false is (inl same) = inl (λ (later : List Payload). rw is (ap (λ (bytes : List ℕ). p.bytes ++ bytes) (same later)))
    by_pointer false is (inr none) = inr (
      rw is none.0,
      λ (later : List Payload). rw is
          (ap (λ (bytes : List ℕ). p.bytes ++ bytes) (none.1 later) ∙ sym (append_assoc p.bytes (bytes_on ps) (bytes_on later))),
    )

pub all-longer : (before later : List Payload) → Begins (found_in_all before) (found_in_all (before ++ later))
all-longer [] later = (found_in_all later, refl)
all-longer (p ∷ ps) later = by_ends (ends ps) (all-longer ps later)
  where
    by_ends : Ends ps → Begins (found_in_all ps) (found_in_all (ps ++ later)) → Begins (found_in p (bytes_on ps) ++ found_in_all ps) (found_in p (bytes_on (ps ++ later)) ++ found_in_all (ps ++ later))
    by_ends (inl same) again = rw (same later) (behind-first (found_in p (bytes_on ps)) _ _ again)
    by_ends (inr none) again =
        let longer = in-longer p (bytes_on ps) (bytes_on later) in
        rw (none.1 later, none.0, append-nil (found_in p (bytes_on ps)), longer.1)
        (longer.0 ++ found_in_all (ps ++ later), append_assoc (found_in p (bytes_on ps)) longer.0 (found_in_all (ps ++ later)))

-- what was found before an error stays in front
begins-behind : (before later : List Payload) → has_error (found_in_all before) ≡ false → Begins (found_in_all before) (until_error (found_in_all (before ++ later)))
begins-behind before later none =
    let longer = all-longer before later in
    (until_error longer.0, ap until_error longer.1 ∙ until_error-append (found_in_all before) longer.0 none)

no_error : (found : List Found) → has_error (until_error found) ≡ false → has_error found ≡ false
no_error [] none = refl
no_error (Ok section ∷ found) none = no_error found none
no_error (Err fault ∷ found) none = cc

pub until_error-has : (found : List Found) → has_error (until_error found) ≡ has_error found
until_error-has [] = refl
until_error-has (Ok section ∷ found) = until_error-has found
until_error-has (Err fault ∷ found) = refl

-- two readings that begin alike
trans-begins : (a b c : List Found) → Begins a b → Begins b c → Begins a c
trans-begins a b c first second = (first.0 ++ second.0, second.1 ∙ ap (λ (found : List Found). found ++ second.0) first.1 ∙ append_assoc a first.0 second.0)

reads-on : (before later : List Payload) → has_error (found_in_all before) ≡ false → Begins (found_in_all before) (sections_behind before later)
reads-on before [] none = ([], until_error-none (found_in_all before) none ∙ sym (append-nil (found_in_all before)))
reads-on before (p ∷ later) none = by_error (has_error (until_error (found_in_all (before ++ p ∷ [])))) refl
    (λ (good : has_error (found_in_all (before ++ p ∷ [])) ≡ false). reads-on (before ++ p ∷ []) later good)
  where
    by_error : (bad : Bool) → has_error (until_error (found_in_all (before ++ p ∷ []))) ≡ bad
        → (has_error (found_in_all (before ++ p ∷ [])) ≡ false → Begins (found_in_all (before ++ p ∷ [])) (sections_behind (before ++ p ∷ []) later))
        → Begins (found_in_all before) (cond (has_error (until_error (found_in_all (before ++ p ∷ []))))
        (until_error (found_in_all (before ++ p ∷ [])) ++ sections_behind [] later) (sections_behind (before ++ p ∷ []) later))
    by_error true bad again =
        let front = begins-behind before (p ∷ []) none in
        rw (bad, front.1) (front.0 ++ sections_behind [] later, append_assoc (found_in_all before) front.0 (sections_behind [] later))
    by_error false good again =
        rw good (trans-begins (found_in_all before) (found_in_all (before ++ p ∷ [])) (sections_behind (before ++ p ∷ []) later)
        (all-longer before (p ∷ [])) (again (sym (until_error-has (found_in_all (before ++ p ∷ []))) ∙ good)))

fronts-behind : (before first later : List Payload) → has_error (found_in_all before) ≡ false → Begins (sections_behind before first) (sections_behind before (first ++ later))
fronts-behind before [] later none = rw (until_error-none (found_in_all before) none) (reads-on before later none)
fronts-behind before (p ∷ first) later none = by_error (has_error (until_error (found_in_all (before ++ p ∷ [])))) refl
    (fronts-behind [] first later refl) (λ (good : has_error (found_in_all (before ++ p ∷ [])) ≡ false). fronts-behind
    (before ++ p ∷ []) first later good)
  where
    by_error : (bad : Bool) → has_error (until_error (found_in_all (before ++ p ∷ []))) ≡ bad
        → Begins (sections_behind [] first) (sections_behind [] (first ++ later))
        → (has_error (found_in_all (before ++ p ∷ [])) ≡ false
        → Begins (sections_behind (before ++ p ∷ []) first) (sections_behind (before ++ p ∷ []) (first ++ later)))
        → Begins (cond (has_error (until_error (found_in_all (before ++ p ∷ []))))
        (until_error (found_in_all (before ++ p ∷ [])) ++ sections_behind [] first) (sections_behind (before ++ p ∷ []) first))
        (cond (has_error (until_error (found_in_all (before ++ p ∷ []))))
        (until_error (found_in_all (before ++ p ∷ [])) ++ sections_behind [] (first ++ later)) (sections_behind (before ++ p ∷ []) (first ++ later)))
    by_error true bad anew on = rw bad (behind-first (until_error (found_in_all (before ++ p ∷ []))) _ _ anew)
    by_error false good anew on = rw good (on (sym (until_error-has (found_in_all (before ++ p ∷ []))) ∙ good))

-- what the first payloads give, all payloads give first
pub sections-front : (first later : List Payload) → Begins (sections_of first) (sections_of (first ++ later))
unfolding sections_of
sections-front first later = fronts-behind [] first later refl

-- what a payload completes is well defined
pub added-is : (before : List Payload) (payload : Payload) → sections_of (before ++ payload ∷ []) ≡ sections_of before ++ added before payload
added-is before payload =
    let begins = sections-front before (payload ∷ []) in
    begins.1 ∙ ap (λ (more : List Found). sections_of before ++ more)
    (sym (ap (drop (length (sections_of before))) begins.1 ∙ drop_at (sections_of before) begins.0 (length (sections_of before)) refl))
