-- Calls that move a front of what they are lent.
use Rattle.std.proofs.Common.{◌≡◌, ℕ, ◌<◌, ◌≤◌, List, ◌++◌, length, take, drop, Option, Some, None, IsSomeAnd, sym, ap, ◌∙◌, arith, append_assoc}
use Rattle.std.proofs.lemmas.List.{take-append-drop, drop-append-le, length-take-le}
use Rattle.shelf_io.specs.Buffer.{CopiesFront}

-- what is left behind n bytes of the front, with the rest behind it, is what is left of the whole
rest_of_front : (old : List ℕ) (n most : ℕ) → n ≤ most → most ≤ length old → drop n (take most old) ++ drop most old ≡ drop n old
rest_of_front old n most few within =
    let whole : length (take most old) ≡ most = length-take-le most old within in
    sym (drop-append-le n (take most old) (drop most old) (omega (arith, whole, few))) ∙ ap (drop n) (take-append-drop most old)

-- bytes that went to the front of a front of a buffer went to the front of the buffer
copies_part : (bytes old part : List ℕ) (n most : ℕ) → n ≤ most → most ≤ length old → (0 < length old → 0 < most) → CopiesFront bytes (take most old) part n
    → CopiesFront bytes old (part ++ drop most old) n
copies_part bytes old part n most few within some copies = record {
  front = ap (λ front. front ++ drop most old) copies.front ∙ append_assoc (take n bytes) (drop n (take most old)) (drop most old)
      ∙ ap (λ rest. take n bytes ++ rest) (rest_of_front old n most few within);
  within = copies.within;
  progress = λ room more. copies.progress (omega (arith, some room, length-take-le most old within)) more;
}

-- the same of a file that is held
pub held_part : (held : Option (List ℕ)) (at : ℕ) (old part : List ℕ) (n most : ℕ) → n ≤ most → most ≤ length old → (0 < length old → 0 < most)
    → IsSomeAnd held (λ content. CopiesFront (drop at content) (take most old) part n)
    → IsSomeAnd held (λ content. CopiesFront (drop at content) old (part ++ drop most old) n)
held_part (Some content) at old part n most few within some copies = copies_part (drop at content) old part n most few within some copies
held_part None at old part n most few within some copies = copies
