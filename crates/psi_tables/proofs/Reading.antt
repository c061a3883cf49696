-- What is found in payloads, and where reading begins anew.
use Rattle.std.proofs.Common.{◌≡◌, Bool, true, false, cond, List, [], ◌∷◌, ◌++◌, Ok, Err, refl, sym, ap, ◌∙◌, append_assoc}
use Rattle.std.proofs.lemmas.List.{append-nil}
use Rattle.psi_tables.specs.declared.section.SectionFault.{SectionFault}
use Rattle.bit_lists.specs.Payload.{Payload}
use Rattle.psi_tables.specs.Sections.{Found, found_in_all, has_error, until_error, sections_behind}

-- ---- up to an error

pub has_error-append : (g found : List Found) → has_error g ≡ false → has_error (g ++ found) ≡ has_error found
has_error-append [] found none = refl
has_error-append (Ok section ∷ g) found none = has_error-append g found none
has_error-append (Err fault ∷ g) found none = cc

pub until_error-append : (g found : List Found) → has_error g ≡ false → until_error (g ++ found) ≡ g ++ until_error found
until_error-append [] found none = refl
until_error-append (Ok section ∷ g) found none = ap (λ (rest : List Found). Ok section ∷ rest) (until_error-append g found none)
until_error-append (Err fault ∷ g) found none = cc

pub until_error-none : (found : List Found) → has_error found ≡ false → until_error found ≡ found
until_error-none [] none = refl
until_error-none (Ok section ∷ found) none = ap (λ (rest : List Found). Ok section ∷ rest) (until_error-none found none)
until_error-none (Err fault ∷ found) none = cc

-- ---- reading anew

-- one step of reading, before which two readings differ by what was found
step : (a b g anew on_a on_b : List Found) → a ≡ g ++ b → has_error a ≡ has_error b → on_a ≡ g ++ on_b → cond (has_error a) (a ++ anew) on_a ≡ g ++ cond (has_error b) (b ++ anew) on_b
step a b g anew on_a on_b is same on =
    let error : cond (has_error b) (a ++ anew) on_a ≡ g ++ cond (has_error b) (b ++ anew) on_b =
    elim (has_error b) as (λ (bad : Bool). cond bad (a ++ anew) on_a ≡ g ++ cond bad (b ++ anew) on_b)
    [ true ↦ ap (λ (found : List Found). found ++ anew) is ∙ append_assoc g b anew | false ↦ on ] in
    ap (λ (bad : Bool). cond bad (a ++ anew) on_a) same ∙ error

-- payloads that give the same but for what was found before go on to give the same
pub behind-same : (a b : List Payload) (g : List Found) → has_error g ≡ false
    → ((later : List Payload) → found_in_all (a ++ later) ≡ g ++ found_in_all (b ++ later)) → (later : List Payload)
    → sections_behind a later ≡ g ++ sections_behind b later
behind-same a b g none same [] =
    let found : found_in_all a ≡ g ++ found_in_all b = ap found_in_all (sym (append-nil a)) ∙ same [] ∙ ap (λ (bs : List Payload). g ++ found_in_all bs) (append-nil b) in
    ap until_error found ∙ until_error-append g (found_in_all b) none
behind-same a b g none same (payload ∷ later) =
    let is : until_error (found_in_all (a ++ payload ∷ [])) ≡ g
    ++ until_error (found_in_all (b ++ payload ∷ [])) = ap until_error (same (payload ∷ []))
    ∙ until_error-append g (found_in_all (b ++ payload ∷ [])) none in
    let errors : has_error (until_error (found_in_all (a ++ payload ∷ [])))
    ≡ has_error (until_error (found_in_all (b ++ payload ∷ []))) = ap has_error is
    ∙ has_error-append g (until_error (found_in_all (b ++ payload ∷ []))) none in
    let longer : (more : List Payload) → found_in_all ((a ++ payload ∷ []) ++ more) ≡ g ++ found_in_all ((b ++ payload ∷ []) ++ more) = λ (more : List Payload).
    ap found_in_all (append_assoc a (payload ∷ []) more) ∙ same (payload ∷ more) ∙ ap (λ (bs : List Payload). g ++ found_in_all bs) (sym (append_assoc b (payload ∷ []) more)) in
    step _ _ g (sections_behind [] later) _ _ is errors (behind-same (a ++ payload ∷ []) (b ++ payload ∷ []) g none longer later)

-- the same where the next payloads differ
pub next-same : (a b : List Payload) (p q : Payload) (g : List Found) → has_error g ≡ false
    → ((later : List Payload) → found_in_all (a ++ p ∷ later) ≡ g ++ found_in_all (b ++ q ∷ later)) → (later : List Payload)
    → sections_behind a (p ∷ later) ≡ g ++ sections_behind b (q ∷ later)
next-same a b p q g none same later =
    let is : until_error (found_in_all (a ++ p ∷ [])) ≡ g ++ until_error (found_in_all (b ++ q ∷ [])) = ap until_error (same []) ∙ until_error-append g (found_in_all (b ++ q ∷ [])) none in
    let errors : has_error (until_error (found_in_all (a ++ p ∷ []))) ≡ has_error (until_error (found_in_all (b ++ q ∷ []))) = ap has_error is
    ∙ has_error-append g (until_error (found_in_all (b ++ q ∷ []))) none in
    let longer : (more : List Payload) → found_in_all ((a ++ p ∷ []) ++ more) ≡ g ++ found_in_all ((b ++ q ∷ []) ++ more) = λ (more : List Payload).
    ap found_in_all (append_assoc a (p ∷ []) more) ∙ same more ∙ ap (λ (bs : List Payload). g ++ found_in_all bs) (sym (append_assoc b (q ∷ []) more)) in
    step _ _ g (sections_behind [] later) _ _ is errors (behind-same (a ++ p ∷ []) (b ++ q ∷ []) g none longer later)

-- a payload in which no error is found is read together with those behind it
pub behind-none : (before : List Payload) (payload : Payload) (later : List Payload)
    → has_error (until_error (found_in_all (before ++ payload ∷ []))) ≡ false
    → sections_behind before (payload ∷ later) ≡ sections_behind (before ++ payload ∷ []) later
behind-none before payload later none =
    ap (λ (bad : Bool). cond bad (until_error (found_in_all (before ++ payload ∷ [])) ++ sections_behind [] later) (sections_behind (before ++ payload ∷ []) later)) none

-- behind a payload in which one is found, reading begins anew
pub behind-error : (before : List Payload) (payload : Payload) (fault : SectionFault) (later : List Payload)
    → until_error (found_in_all (before ++ payload ∷ [])) ≡ Err fault ∷ []
    → sections_behind before (payload ∷ later) ≡ Err fault ∷ sections_behind [] later
behind-error before payload fault later found =
    let choice : List Found → List Found = λ (found : List Found). cond (has_error found) (found ++ sections_behind [] later) (sections_behind (before ++ payload ∷ []) later) in
    ap choice found

-- what stands behind an error doesn't matter
pub until_error-stops : (found more : List Found) (fault : SectionFault) → until_error found ≡ Err fault ∷ [] → until_error (found ++ more) ≡ Err fault ∷ []
until_error-stops [] more fault is = cc
until_error-stops (Ok section ∷ found) more fault is = absurd (apart is)
  where
    apart : Ok section ∷ until_error found ≡ Err fault ∷ [] → ⊥
    apart both = cc
until_error-stops (Err other ∷ found) more fault is = is
