-- A section whose bytes are cut over several payloads.
use Rattle.std.proofs.Common.{◌≡◌, ℕ, ◌<◌, true, false, List, [], ◌∷◌, ◌++◌, length, map, Ok, Err, refl, sym, ap, ◌∙◌, append_assoc}
use Rattle.std.specs.List.{concat}
use Rattle.std.proofs.lemmas.List.{append-nil}
use Rattle.bit_lists.specs.Payload.{Payload}
use Rattle.psi_tables.specs.Sections.{Found, bytes_on, found_at, found_from, found_in_all, has_error, sections_behind, sections_of, going}
use Rattle.psi_tables.specs.SectionBuilder.{payloads_of}
use Rattle.psi_tables.specs.Private.SectionFront.{IsFront, is_settled}
use Rattle.psi_tables.proofs.Reading.{behind-same, behind-none, until_error-none}
use Rattle.psi_tables.proofs.Held.{found_in_all-held}
use Rattle.psi_tables.proofs.Steps.{front-one}
use Rattle.psi_tables.proofs.Fronts.{found_at-append}
use Rattle.psi_tables.proofs.FrontLaw.{all-longer, until_error-has}

-- a front of what has no error has none
front-good : (f c : List Found) → has_error (f ++ c) ≡ false → has_error f ≡ false
front-good [] c good = refl
front-good (Ok section ∷ f) c good = front-good f c good
front-good (Err fault ∷ f) c good = cc

-- payloads without an error are read together
pub together : (before first later : List Payload) → has_error (found_in_all (before ++ first)) ≡ false → sections_behind before (first ++ later) ≡ sections_behind (before ++ first) later
together before [] later good = ap (λ (payloads : List Payload). sections_behind payloads later) (sym (append-nil before))
together before (p ∷ first) later good =
    let joined : (before ++ p ∷ []) ++ first ≡ before ++ p ∷ first = append_assoc before (p ∷ []) first in
    let same : has_error (found_in_all ((before ++ p ∷ []) ++ first)) ≡ false = ap (λ (payloads : List Payload). has_error (found_in_all payloads)) joined ∙ good in
    let longer = all-longer (before ++ p ∷ []) first in
    let here : has_error (found_in_all (before ++ p ∷ [])) ≡ false = front-good (found_in_all (before ++ p ∷ [])) longer.0 (sym (ap has_error longer.1) ∙ same) in
    behind-none before p (first ++ later) (until_error-has (found_in_all (before ++ p ∷ [])) ∙ here) ∙ together (before ++ p ∷ []) first later same
    ∙ ap (λ (payloads : List Payload). sections_behind payloads later) joined

-- where no error is found, the sections are what is found
pub sections-good : (payloads : List Payload) → has_error (found_in_all payloads) ≡ false → sections_of payloads ≡ found_in_all payloads
unfolding sections_of
sections-good payloads good =
    ap (sections_behind []) (sym (append-nil payloads)) ∙ together [] payloads [] good ∙ until_error-none (found_in_all payloads) good

bytes_on-going : (ps : List (List ℕ)) (later : List Payload) → bytes_on (map going ps ++ later) ≡ concat ps ++ bytes_on later
bytes_on-going [] later = refl
bytes_on-going (p ∷ ps) later = ap (λ (bytes : List ℕ). p ++ bytes) (bytes_on-going ps later) ∙ sym (append_assoc p (concat ps) (bytes_on later))

found_in_all-going : (ps : List (List ℕ)) (later : List Payload) → found_in_all (map going ps ++ later) ≡ found_in_all later
found_in_all-going [] later = refl
found_in_all-going (p ∷ ps) later = found_in_all-going ps later

-- however a section's bytes are cut, they give it, and what follows is read as if it stood alone
pub section-in-pieces : (s first : List ℕ) (ps : List (List ℕ)) → s ≡ first ++ concat ps → 0 < length first → IsFront first → is_settled s ≡ true
    → found_at s ≡ Ok s ∷ [] → (later : List Payload) → sections_of (payloads_of first ++ (map going ps ++ later)) ≡ Ok s ∷ sections_of later
unfolding sections_of
section-in-pieces s first ps cut some front settled found later =
    let pieces : List Payload = payloads_of first ++ map going ps in
    let all : (later : List Payload) → found_in_all ((payloads_of first ++ map going ps) ++ later) ≡ (Ok s ∷ []) ++ found_in_all later = λ (later : List Payload).
    let whole : first ++ (concat ps ++ bytes_on later) ≡ s ++ bytes_on later = sym (append_assoc first (concat ps) (bytes_on later)) ∙ ap (λ (bytes : List ℕ). bytes ++ bytes_on later) (sym cut) in
    ap found_in_all (append_assoc (payloads_of first) (map going ps) later)
    ∙ found_in_all-held first (map going ps ++ later)
    ∙ ap (λ (next : List ℕ). found_from 0 first next ++ found_in_all (map going ps ++ later)) (bytes_on-going ps later)
    ∙ ap (λ (behind : List Found). found_from 0 first (concat ps ++ bytes_on later) ++ behind) (found_in_all-going ps later)
    ∙ ap (λ (f : List Found). f ++ found_in_all later) (front-one first (concat ps ++ bytes_on later) some front ∙ ap found_at whole ∙ found_at-append s (bytes_on later) settled ∙ found) in
    let alone : found_in_all (payloads_of first ++ map going ps) ≡ Ok s ∷ [] = ap found_in_all (sym (append-nil (payloads_of first ++ map going ps))) ∙ all [] in
    ap (sections_behind []) (sym (append_assoc (payloads_of first) (map going ps) later))
    ∙ together [] (payloads_of first ++ map going ps) later (ap has_error alone)
    ∙ behind-same (payloads_of first ++ map going ps) [] (Ok s ∷ []) refl all later
