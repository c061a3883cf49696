-- A section in a payload of its own, with stuffing behind it.
use Rattle.std.proofs.Common.{◌≡◌, ℕ, zero, suc, true, false, List, [], ◌∷◌, ◌++◌, replicate, Ok, refl, ap, ◌∙◌}
use Rattle.bit_lists.specs.Payload.{Payload}
use Rattle.psi_tables.specs.Sections.{Found, found_at, found_from, sections_of}
use Rattle.psi_tables.specs.SectionBuilder.{payloads_of}
use Rattle.psi_tables.specs.Private.SectionFront.{IsFront, is_settled, is_bad}
use Rattle.psi_tables.proofs.Held.{held-same}
use Rattle.psi_tables.proofs.Steps.{front-whole}

stuffing-none : (n : ℕ) (next : List ℕ) → found_from 0 (replicate n 0xFF) next ≡ []
stuffing-none zero next = refl
stuffing-none (suc n) next = refl

pub section-alone : (s : List ℕ) (n : ℕ) → IsFront s → is_settled s ≡ true → is_bad s ≡ false → found_at s ≡ Ok s ∷ [] → (later : List Payload)
    → sections_of (payloads_of (s ++ replicate n 0xFF) ++ later) ≡ Ok s ∷ sections_of later
unfolding sections_of
section-alone s n front settled good found later =
    let same : (next : List ℕ) → found_from 0 (s ++ replicate n 0xFF) next ≡ Ok s ∷ [] = λ (next : List ℕ).
    front-whole s (replicate n 0xFF) next front settled good ∙ ap (λ (fs : List Found). fs ++ found_from 0 (replicate n 0xFF) next) found
    ∙ ap (λ (fs : List Found). Ok s ∷ fs) (stuffing-none n next) in
    held-same (s ++ replicate n 0xFF) [] (Ok s ∷ []) refl same later
