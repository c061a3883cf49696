-- Reading in turn.
use Rattle.std.proofs.Common.{◌≡◌, List, [], ◌∷◌, ◌++◌, refl, sym, ap, ◌∙◌, append_assoc, ◌+◌, length, arith}
use Rattle.std.proofs.lemmas.List.{append-nil}
use Rattle.bit_lists.specs.Payload.{Payload}
use Rattle.psi_tables.specs.Sections.{Found, sections_of, GivesInTurn}

pub turn-start : GivesInTurn [] [] []
turn-start = record { all = λ later. refl }

pub turn-fed : (fed : List Payload) (given : List Found) (held now : List Payload) (payload : Payload) → GivesInTurn fed given held
    → ((later : List Payload) → sections_of (now ++ later) ≡ sections_of (held ++ payload ∷ later)) → GivesInTurn (fed ++ payload ∷ []) given now
turn-fed fed given held now payload turn feeds = record {
  all = λ (later : List Payload). ap sections_of (append_assoc fed (payload ∷ []) later) ∙ turn.all (payload ∷ later) ∙ ap (λ (more : List Found). given ++ more) (sym (feeds later));
}

pub turn-pulled : (fed : List Payload) (given : List Found) (held now : List Payload) (found : Found) → GivesInTurn fed given held
    → ((later : List Payload) → sections_of (held ++ later) ≡ found ∷ sections_of (now ++ later)) → GivesInTurn fed (given ++ found ∷ []) now
turn-pulled fed given held now found turn pulls = record {
  all = λ (later : List Payload). turn.all later ∙ ap (λ (more : List Found). given ++ more) (pulls later) ∙ sym (append_assoc given (found ∷ []) (sections_of (now ++ later)));
}

pub turn-all : (fed : List Payload) (given : List Found) (held : List Payload) → GivesInTurn fed given held → sections_of held ≡ [] → given ≡ sections_of fed
turn-all fed given held turn none =
    let last : sections_of (held ++ []) ≡ [] = ap sections_of (append-nil held) ∙ none in
    sym (ap sections_of (sym (append-nil fed)) ∙ turn.all [] ∙ ap (λ (more : List Found). given ++ more) last ∙ append-nil given)

pub turn-fewer : (held now : List Payload) (found : Found) → ((later : List Payload)
    → sections_of (held ++ later) ≡ found ∷ sections_of (now ++ later)) → length (sections_of held) ≡ length (sections_of now) + 1
turn-fewer held now found pulls =
    let here : sections_of held ≡ found ∷ sections_of now = ap sections_of (sym (append-nil held)) ∙ pulls [] ∙ ap (λ (more : List Payload). found ∷ sections_of more) (append-nil now) in
    omega (arith, ap length here)
