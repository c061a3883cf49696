-- What is given and shown of the bits that are left, by the word that holds the first of them.
use Rattle.std.proofs.Common.{◌≡◌, ℕ, ◌+◌, ◌-◌, ◌*◌, ◌/◌, ◌%◌, ◌^◌, ◌<◌, ◌≤◌, List, ◌++◌, Option, None, Some, IfSome, length, take, replicate, sym, ap, subst, ◌∙◌, arith, append-nil}
use Rattle.std.proofs.Math.Nat.{mod-eq_of_lt, mod-lt}
use Rattle.std.proofs.Math.Seq.{take-append-add}
use Rattle.std.proofs.lemmas.List.{length-append, take_all, take-append-le, take-replicate, nil_from_length}
use Rattle.std.proofs.lemmas.Nat.{pow_pos, shl_below}
use Rattle.bit_lists.specs.Bits.{bits_of, number_of}
use Rattle.bit_lists.specs.Fields.{bit_list}
use Rattle.bit_lists.proofs.BitLemmas.{length-bits_of, take-bits_of, number_of-bits_of, bits_of-mod}
use Rattle.bit_cursor.specs.Shown.{IsFirstNumber, IsWindow}
use Rattle.bit_cursor.proofs.Words.{bits_of-shifted, number_of-front}
use Rattle.bit_cursor.proofs.Left.{told_bits}

-- enough bits are held
held_front : (n m w : ℕ) (rest : List ℕ) → take n (bits_of (n + m) w ++ rest) ≡ bits_of n (w / 2 ^ m % 2 ^ n)
held_front n m w rest =
    let long : n ≤ length (bits_of (n + m) w) = omega (arith, length-bits_of (n + m) w) in
    take-append-le n (bits_of (n + m) w) rest long ∙ take-bits_of n m w ∙ sym (bits_of-mod n (w / 2 ^ m))

front_is : (n m w : ℕ) (rest : List ℕ) → IsFirstNumber n (bits_of (n + m) w ++ rest) (w / 2 ^ m % 2 ^ n)
front_is n m w rest = record {
  enough = omega (arith, length-append (bits_of (n + m) w) rest, length-bits_of (n + m) w);
  value = sym (number_of-front n m w rest);
  front = held_front n m w rest;
}

-- a number in the first bits shows them
front_shows : (n number : ℕ) (bits : List ℕ) → IsFirstNumber n bits number → IsWindow n bits number n
front_shows n number bits is = record {
  known = omega (arith, is.enough);
  window = is.value ∙ ap number_of (sym (take-append-le n bits (replicate n 0) is.enough));
  front = take_all n (bits_of n number) (omega (arith, length-bits_of n number)) ∙ sym is.front;
}

-- fewer bits are left than are shown
few_show : (h m w : ℕ) → IsWindow (h + m) (bits_of h w) ((w % 2 ^ h) * 2 ^ m) h
few_show h m w =
    let bits = bits_of h w in
    let window = (w % 2 ^ h) * 2 ^ m in
    let size : length bits ≡ h = length-bits_of h w in
    let filled : take (h + m) (bits ++ replicate (h + m) 0) ≡ bits_of (h + m) window =
    ap (λ k. take (k + m) (bits ++ replicate (h + m) 0)) (sym size)
    ∙ take-append-add bits (replicate (h + m) 0) m
    ∙ ap (λ r. bits ++ r) (take-replicate m (h + m) 0 (omega arith))
    ∙ sym (bits_of-shifted h m w) in
    record {
      known = omega arith;
      window = sym (ap number_of filled ∙ number_of-bits_of (h + m) window ∙ mod-eq_of_lt (shl_below (w % 2 ^ h) h m (mod-lt w (pow_pos h))));
      front = ap (take h) (bits_of-shifted h m w) ∙ take-append-le h bits (replicate m 0) (omega arith) ∙ take_all h bits (omega arith) ∙ sym (take_all (h + m) bits (omega arith));
    }

-- ---- where the source tells

pub told_front : (told bits : Option (List ℕ)) (h n w : ℕ) → n ≤ h → told_bits told h w ≡ bits → IfSome bits (λ bs. IsFirstNumber n bs (w / 2 ^ (h - n) % 2 ^ n))
told_front None bits h n w le is = subst (λ o. IfSome o (λ bs. IsFirstNumber n bs (w / 2 ^ (h - n) % 2 ^ n))) is tt
told_front (Some bytes) bits h n w le is =
    let whole : n + (h - n) ≡ h = omega arith in
    subst (λ o. IfSome o (λ bs. IsFirstNumber n bs (w / 2 ^ (h - n) % 2 ^ n))) is
    (subst (λ k. IsFirstNumber n (bits_of k w ++ bit_list bytes) (w / 2 ^ (h - n) % 2 ^ n)) whole (front_is n (h - n) w (bit_list bytes)))

pub told_whole : (told : Option (List ℕ)) (P : List ℕ → Type 0) (n number : ℕ) → IfSome told (λ bits. IsFirstNumber n bits number) → IfSome told (λ bits. P bits → IsWindow n bits number n)
told_whole None P n number is = tt
told_whole (Some bits) P n number is = λ any. front_shows n number bits is

-- the held bits are all that are left
pub told_few : (told : Option (List ℕ)) (h n w : ℕ) → h < n → IfSome (told_bits told h w) (λ bits. length bits ≡ h → IsWindow n bits ((w % 2 ^ h) * 2 ^ (n - h)) h)
told_few None h n w lt = tt
told_few (Some bytes) h n w lt = λ size.
    let whole : h + (n - h) ≡ n = omega arith in
    let none : length (bit_list bytes) ≡ 0 = omega (arith, length-append (bits_of h w) (bit_list bytes), length-bits_of h w) in
    let held : bits_of h w ++ bit_list bytes ≡ bits_of h w = ap (λ r. bits_of h w ++ r) (nil_from_length (bit_list bytes) none) ∙ append-nil (bits_of h w) in
    subst (λ bs. IsWindow n bs ((w % 2 ^ h) * 2 ^ (n - h)) h) (sym held)
    (subst (λ k. IsWindow k (bits_of h w) ((w % 2 ^ h) * 2 ^ (n - h)) h) whole (few_show h (n - h) w))

-- what follows from a fact follows where that fact does
pub told_where : (told : Option (List ℕ)) (F : Type 0) (A B : List ℕ → Type 0) → F → IfSome told (λ bits. A bits → B bits) → IfSome told (λ bits. (F → A bits) → B bits)
told_where None F A B holds follows = tt
told_where (Some bits) F A B holds follows = λ a. follows (a holds)

-- what holds of the bits that are told where something else does
pub told_both : (told : Option (List ℕ)) (F : Type 0) (A B : List ℕ → Type 0) → IfSome told (λ bits. (F → A bits) → B bits) → (F → IfSome told A) → IfSome told B
told_both None F A B follows holds = tt
told_both (Some bits) F A B follows holds = follows holds
