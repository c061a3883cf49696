-- Payloads that hold bytes of sections, followed by others.
use Rattle.std.proofs.Common.{◌≡◌, ℕ, true, false, List, [], ◌∷◌, ◌++◌, length, Err, refl, sym, ap, ◌∙◌, append_assoc, arith}
use Rattle.std.specs.Prelude.{nat_lt, nat_le}
use Rattle.std.proofs.lemmas.List.{append-nil}
use Rattle.std.proofs.lemmas.Bool.Decides.{nat_tests}
use Rattle.psi_tables.specs.declared.section.SectionFault.{SectionFault}
use Rattle.bit_lists.specs.Payload.{Payload}
use Rattle.psi_tables.specs.Sections.{Found, bytes_on, found_from, found_in, found_in_all, has_error, until_error, sections_behind}
use Rattle.psi_tables.specs.SectionBuilder.{payloads_of}
use Rattle.psi_tables.proofs.Reading.{until_error-none, behind-same, next-same, behind-none, behind-error}

-- the payload that bytes are held as
abbrev held_as : ℕ → List ℕ → Payload
held_as byte bytes = record { start = true; bytes = 0 ∷ byte ∷ bytes }

points_past-held : (byte : ℕ) (bytes : List ℕ) → nat_le (length (0 ∷ byte ∷ bytes)) 1 ≡ false
points_past-held byte bytes = grind (arith, nat_tests)

has_bytes-held : (byte : ℕ) (bytes : List ℕ) → nat_lt 0 (length (0 ∷ byte ∷ bytes)) ≡ true
has_bytes-held byte bytes = grind (arith, nat_tests)

-- bytes held give what is found from them
pub found_in_all-held : (held : List ℕ) (later : List Payload) → found_in_all (payloads_of held ++ later) ≡ found_from 0 held (bytes_on later) ++ found_in_all later
found_in_all-held [] later = refl
found_in_all-held (byte ∷ bytes) later =
    rw (has_bytes-held byte bytes, points_past-held byte bytes) refl

-- bytes held, alone
found_in_all-alone : (held : List ℕ) → found_in_all (payloads_of held) ≡ found_from 0 held []
found_in_all-alone held =
    ap found_in_all (sym (append-nil (payloads_of held))) ∙ found_in_all-held held [] ∙ append-nil (found_from 0 held [])

-- ---- a builder that gives

-- what is found from other bytes, and something without an error before it
found_in_all-same : (v w : List ℕ) (g : List Found) → ((next : List ℕ) → found_from 0 v next ≡ g ++ found_from 0 w next) → (later : List Payload)
    → found_in_all (payloads_of v ++ later) ≡ g ++ found_in_all (payloads_of w ++ later)
found_in_all-same v w g same later =
    found_in_all-held v later ∙ ap (λ (found : List Found). found ++ found_in_all later) (same (bytes_on later)) ∙ append_assoc g _ _
    ∙ ap (λ (found : List Found). g ++ found) (sym (found_in_all-held w later))

-- nothing is wrong with what was found before
none-alone : (found g : List Found) → has_error g ≡ false → found ≡ g → has_error (until_error found) ≡ false
none-alone found g none is = ap (λ (fs : List Found). has_error (until_error fs)) is ∙ ap has_error (until_error-none g none) ∙ none

-- only empty lists join to an empty one
append-empty : (g found : List Found) → g ++ found ≡ [] → found ≡ []
append-empty [] found is = is
append-empty (f ∷ g) found is = cc

pub held-same : (v w : List ℕ) (g : List Found) → has_error g ≡ false → ((next : List ℕ) → found_from 0 v next ≡ g ++ found_from 0 w next)
    → (later : List Payload) → sections_behind [] (payloads_of v ++ later) ≡ g ++ sections_behind [] (payloads_of w ++ later)
held-same [] [] g none same later = behind-same [] [] g none (found_in_all-same [] [] g same) later
held-same [] (y ∷ w) g none same later =
    let all : [] ≡ g ++ found_from 0 (y ∷ w) [] = same [] in
    let alone : found_from 0 (y ∷ w) [] ≡ [] = append-empty g _ (sym all) in
    let right : sections_behind [] (held_as y w ∷ later) ≡ sections_behind (held_as y w ∷ []) later = behind-none [] (held_as y w) later (none-alone _ [] refl (found_in_all-alone (y ∷ w) ∙ alone)) in
    behind-same [] (held_as y w ∷ []) g none (found_in_all-same [] (y ∷ w) g same) later ∙ ap (λ (found : List Found). g ++ found) (sym right)
held-same (x ∷ v) [] g none same later =
    let alone : found_in_all (held_as x v ∷ []) ≡ g = found_in_all-alone (x ∷ v) ∙ same [] ∙ append-nil g in
    behind-none [] (held_as x v) later (none-alone _ g none alone) ∙ behind-same (held_as x v ∷ []) [] g none (found_in_all-same (x ∷ v) [] g same) later
held-same (x ∷ v) (y ∷ w) g none same later = next-same [] [] (held_as x v) (held_as y w) g none (found_in_all-same (x ∷ v) (y ∷ w) g same) later

pub held-error : (v : List ℕ) (fault : SectionFault) → until_error (found_from 0 v []) ≡ Err fault ∷ [] → (later : List Payload)
    → sections_behind [] (payloads_of v ++ later) ≡ Err fault ∷ sections_behind [] later
held-error [] fault found later = cc
held-error (x ∷ v) fault found later = behind-error [] (held_as x v) fault later (ap until_error (found_in_all-alone (x ∷ v)) ∙ found)

-- ---- a builder that is fed

-- where no error is found from them, bytes held are read together with the payloads behind
pub behind-held : (u : List ℕ) (later : List Payload) → found_from 0 u [] ≡ [] → sections_behind [] (payloads_of u ++ later) ≡ sections_behind (payloads_of u) later
behind-held [] later none = refl
behind-held (x ∷ u) later none = behind-none [] (held_as x u) later (none-alone _ [] refl (found_in_all-alone (x ∷ u) ∙ none))

fed-on : (u : List ℕ) (p : Payload) (v : List ℕ) → ((later : List Payload)
    → found_in_all (payloads_of u ++ p ∷ later) ≡ found_in_all (payloads_of v ++ later)) → (later : List Payload)
    → sections_behind (payloads_of u) (p ∷ later) ≡ sections_behind [] (payloads_of v ++ later)
fed-on u p [] all later =
    let joined : (more : List Payload) → found_in_all ((payloads_of u ++ p ∷ []) ++ more)
    ≡ found_in_all more = λ (more : List Payload). ap found_in_all (append_assoc (payloads_of u) (p ∷ []) more) ∙ all more in
    behind-none (payloads_of u) p later (none-alone _ [] refl (all [])) ∙ behind-same (payloads_of u ++ p ∷ []) [] [] refl joined later
fed-on u p (y ∷ v) all later = next-same (payloads_of u) [] p (held_as y v) [] refl all later

-- bytes held, and nothing behind them
pub found_alone : (u : List ℕ) → found_from 0 u [] ≡ [] → sections_behind [] (payloads_of u) ≡ []
found_alone u none =
    ap (sections_behind []) (sym (append-nil (payloads_of u))) ∙ behind-held u [] none ∙ ap until_error (found_in_all-alone u ∙ none)

-- a payload and the bytes held before it, by the bytes that are held behind it
pub fed-same : (u : List ℕ) (p : Payload) (v : List ℕ) → found_from 0 u [] ≡ []
    → ((later : List Payload) → found_from 0 u (bytes_on (p ∷ later)) ++ found_in p (bytes_on later) ≡ found_from 0 v (bytes_on later))
    → (later : List Payload) → sections_behind [] (payloads_of u ++ p ∷ later) ≡ sections_behind [] (payloads_of v ++ later)
fed-same u p v none same later =
    let all : (more : List Payload) → found_in_all (payloads_of u ++ p ∷ more) ≡ found_in_all (payloads_of v ++ more) = λ (more : List Payload).
    found_in_all-held u (p ∷ more) ∙ sym (append_assoc (found_from 0 u (bytes_on (p ∷ more))) (found_in p (bytes_on more)) (found_in_all more))
    ∙ ap (λ (found : List Found). found ++ found_in_all more) (same more) ∙ sym (found_in_all-held v more) in
    behind-held u (p ∷ later) none ∙ fed-on u p v all later

pub fed-error : (u : List ℕ) (p : Payload) (fault : SectionFault) → found_from 0 u [] ≡ []
    → until_error (found_from 0 u (bytes_on (p ∷ [])) ++ found_in p []) ≡ Err fault ∷ [] → (later : List Payload)
    → sections_behind [] (payloads_of u ++ p ∷ later) ≡ Err fault ∷ sections_behind [] later
fed-error u p fault none found later =
    let all : found_in_all (payloads_of u ++ p ∷ []) ≡ found_from 0 u (bytes_on (p ∷ [])) ++ found_in p [] = found_in_all-held u (p ∷ [])
    ∙ ap (λ (fs : List Found). found_from 0 u (bytes_on (p ∷ [])) ++ fs) (append-nil (found_in p [])) in
    behind-held u (p ∷ later) none ∙ behind-error (payloads_of u) p fault later (ap until_error all ∙ found)
