-- What refuses the first bytes of a file refuses the file.
use Rattle.std.proofs.Common.{◌≡◌, ℕ, zero, suc, ◌+◌, ◌⊎◌, inl, inr, List, [], ◌∷◌, ◌++◌, length, replicate, append_assoc, refl, sym, ap, ◌∙◌}
use Rattle.program_stream.specs.declared.split_fault.SplitFault.{SplitFault}
use Rattle.program_stream.specs.Elements.{element_bytes, element_spelling, all_spelled, HasNoStart, IsRefusedAt, no_start, no_element, bad_element, IsFirstRefusal}
use Rattle.program_stream.proofs.Starts.{two_more}

-- the front of zero bytes is zero bytes
zeros_front : (rest more : List ℕ) (n : ℕ) → rest ++ more ≡ replicate n 0 → rest ≡ replicate (length rest) 0
zeros_front [] more n is = refl
zeros_front (x ∷ rest) more zero is = absurd cc
zeros_front (x ∷ rest) more (suc n) is =
    let first : x ≡ 0 = cc in
    let others : rest ++ more ≡ replicate n 0 = cc in
    ap (λ (y : ℕ). y ∷ rest) first ∙ ap (λ (xs : List ℕ). 0 ∷ xs) (zeros_front rest more n others)

-- the front of zero bytes and a byte 1 is zero bytes, or has that byte
one_front : (rest more : List ℕ) (n : ℕ) (behind : List ℕ) → rest ++ more ≡ replicate n 0 ++ 1 ∷ behind → (rest ≡ replicate (length rest) 0) ⊎ ((tail : List ℕ) × (rest ≡ replicate n 0 ++ 1 ∷ tail))
one_front [] more n behind is = inl refl
one_front (x ∷ rest) more zero behind is = let first : x ≡ 1 = cc in inr (rest, ap (λ (y : ℕ). y ∷ rest) first)
one_front (x ∷ rest) more (suc n) behind is =
    let first : x ≡ 0 = cc in
    let others : rest ++ more ≡ replicate n 0 ++ 1 ∷ behind = cc in
    elim (one_front rest more n behind others) [
      | inl zeros ↦ inl (ap (λ (y : ℕ). y ∷ rest) first ∙ ap (λ (xs : List ℕ). 0 ∷ xs) zeros)
      | inr there ↦ inr (there.0, ap (λ (y : ℕ). y ∷ rest) first ∙ ap (λ (xs : List ℕ). 0 ∷ xs) there.1)
    ]

no_start_more : (rest more : List ℕ) → HasNoStart rest → HasNoStart (rest ++ more)
no_start_more rest more none = record {
  not_zeros = λ zeros is. none.not_zeros (length rest) (zeros_front rest more zeros is);
  no_prefix = λ zeros behind is. elim (one_front rest more (zeros + 2) behind (is ∙ two_more zeros behind)) [
    | inl all_zeros ↦ none.not_zeros (length rest) all_zeros
    | inr there ↦ none.no_prefix zeros there.0 (there.1 ∙ sym (two_more zeros there.0))
  ];
}

refused_more : (at : ℕ) (rest more : List ℕ) (fault : SplitFault) → IsRefusedAt at rest fault → IsRefusedAt at (rest ++ more) fault
refused_more at rest more fault (no_start none is) = no_start (no_start_more rest more none) is
refused_more at rest more fault (no_element element begins low is) =
    no_element (record { zeros = element.zeros; id = element.id; body = element.body ++ more })
    (ap (λ (xs : List ℕ). xs ++ more) begins ∙ append_assoc (replicate element.zeros 0) (element_bytes element) more) low is
refused_more at rest more fault (bad_element element behind begins whole refused) =
    bad_element element (behind ++ more) (ap (λ (xs : List ℕ). xs ++ more) begins ∙ append_assoc (element_spelling element) behind more) whole refused

pub early : (front more : List ℕ) (fault : SplitFault) → IsFirstRefusal front fault → IsFirstRefusal (front ++ more) fault
early front more fault is = record {
  elements = is.elements;
  rest = is.rest ++ more;
  bytes_are = ap (λ (xs : List ℕ). xs ++ more) is.bytes_are ∙ append_assoc (all_spelled is.elements) is.rest more;
  sound = is.sound;
  refused = refused_more (length (all_spelled is.elements)) is.rest more fault is.refused;
}
