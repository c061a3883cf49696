-- What is told of the bits that are left, as the reader moves.
use Rattle.std.proofs.Common.{
  ◌≡◌,
  ℕ,
  ◌+◌,
  ◌-◌,
  ◌*◌,
  ◌%◌,
  ◌^◌,
  ◌<◌,
  ◌≤◌,
  List,
  [],
  ◌∷◌,
  ◌++◌,
  Option,
  None,
  Some,
  IfSome,
  slice_get,
  length,
  take,
  drop,
  refl,
  sym,
  ap,
  subst,
  ◌∙◌,
  arith,
  bit_or,
  append_assoc,
  append-nil,
}
use Rattle.std.specs.Int.{bytes_high_first}
use Rattle.std.specs.Option.{option_map}
use Rattle.std.proofs.lemmas.List.{drop-append-le}
use Rattle.shelf_io.specs.Source.{without_front}
use Rattle.bit_lists.specs.Bits.{bits_of}
use Rattle.bit_lists.specs.Fields.{bit_list, bits_of_byte}
use Rattle.bit_lists.proofs.BitLemmas.{length-bits_of}
use Rattle.bit_lists.proofs.ByteLemmas.{bit_list-take}
use Rattle.bit_lists.proofs.JoinedLemmas.{drop-bits_of, bits_of-byte}
use Rattle.bit_cursor.proofs.Words.{bits_of-more, bits_of-bytes}

-- the lowest h bits of a word, then those of a source
abbrev pub told_bits : Option (List ℕ) → ℕ → ℕ → Option (List ℕ)
told_bits told h w = option_map (λ bytes. bits_of h w ++ bit_list bytes) told

-- n held bits were given
pub told_fewer : (told : Option (List ℕ)) (h n w : ℕ) → n ≤ h → told_bits told (h - n) w ≡ without_front (told_bits told h w) n
told_fewer None h n w le = refl
told_fewer (Some bytes) h n w le =
    let whole : n + (h - n) ≡ h = omega arith in
    let long : n ≤ length (bits_of h w) = omega (arith, length-bits_of h w) in
    ap Some (sym (drop-append-le n (bits_of h w) (bit_list bytes) long
    ∙ ap (λ f. f ++ bit_list bytes) (ap (λ k. drop n (bits_of k w)) (sym whole) ∙ drop-bits_of n (h - n) w)))

-- a byte went from the source into the held bits
pub told_more : (told after : Option (List ℕ)) (h w byte : ℕ) → h ≤ 56 → byte < 2 ^ 8 → IfSome told (λ bytes. Some byte ≡ slice_get bytes 0)
    → after ≡ without_front told 1 → told_bits after (h + 8) (bit_or (w * 2 ^ 8 % 2 ^ 64) byte) ≡ told_bits told h w
told_more None after h w byte le lt first is = ap (λ a. told_bits a (h + 8) (bit_or (w * 2 ^ 8 % 2 ^ 64) byte)) is
told_more (Some []) after h w byte le lt first is = cc
told_more (Some (b ∷ bytes)) after h w byte le lt first is =
    let same : byte ≡ b = cc in
    ap (λ a. told_bits a (h + 8) (bit_or (w * 2 ^ 8 % 2 ^ 64) byte)) is
    ∙ ap (λ f. Some (f ++ bit_list bytes)) (bits_of-more h w 8 byte (omega arith) lt ∙ ap (λ bits. bits_of h w ++ bits) (bits_of-byte byte))
    ∙ ap Some (append_assoc (bits_of h w) (bits_of_byte byte) (bit_list bytes))
    ∙ ap (λ x. Some (bits_of h w ++ (bits_of_byte x ++ bit_list bytes))) same

-- so many bytes went into them at once, as a number
pub told_number : (told after : Option (List ℕ)) (h w count number : ℕ) → count ≤ 4 → h + 8 * count ≤ 64 → number < 2 ^ (8 * count)
    → IfSome told (λ bytes. bytes_high_first count number ≡ take count bytes) → after ≡ without_front told count
    → told_bits after (h + 8 * count) (bit_or (w * 2 ^ (8 * count) % 2 ^ 64) number) ≡ told_bits told h w
told_number None after h w count number few le lt front is = ap (λ a. told_bits a (h + 8 * count) (bit_or (w * 2 ^ (8 * count) % 2 ^ 64) number)) is
told_number (Some bytes) after h w count number few le lt front is =
    let rest = bit_list (drop count bytes) in
    ap (λ a. told_bits a (h + 8 * count) (bit_or (w * 2 ^ (8 * count) % 2 ^ 64) number)) is
    ∙ ap (λ f. Some (f ++ rest)) (bits_of-more h w (8 * count) number le lt)
    ∙ ap Some (append_assoc (bits_of h w) (bits_of (8 * count) number) rest)
    ∙ ap (λ f. Some (bits_of h w ++ (f ++ rest))) (bits_of-bytes count number few ∙ ap bit_list front)
    ∙ ap (λ bits. Some (bits_of h w ++ bits)) (sym (bit_list-take count bytes))

-- no byte came
pub told_end : (told bits : Option (List ℕ)) (h w : ℕ) → IfSome told (λ bytes. None ≡ slice_get bytes 0) → told_bits told h w ≡ bits → IfSome bits (λ bs. length bs ≡ h)
told_end None bits h w none is = subst (λ o. IfSome o (λ bs. length bs ≡ h)) is tt
told_end (Some []) bits h w none is =
    subst (λ o. IfSome o (λ bs. length bs ≡ h)) is (ap length (append-nil (bits_of h w)) ∙ length-bits_of h w)
told_end (Some (b ∷ bytes)) bits h w none is = cc

-- no bit is held
pub told_none : (told : Option (List ℕ)) (w : ℕ) → told_bits told 0 w ≡ option_map bit_list told
unfolding bits_of
told_none None w = refl
told_none (Some bytes) w = refl
