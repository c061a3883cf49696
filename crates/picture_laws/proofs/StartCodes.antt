-- Where start codes stand, by the zeros before their first one.
use Rattle.std.proofs.Common.{
  ◌≡◌,
  ◌⊎◌,
  ℕ,
  zero,
  suc,
  ◌+◌,
  ◌*◌,
  ◌^◌,
  ◌<◌,
  ◌&&◌,
  nat_eq,
  List,
  [],
  ◌∷◌,
  ◌++◌,
  length,
  replicate,
  Bool,
  true,
  refl,
  sym,
  ap,
  ap₂,
  subst,
  ◌∙◌,
  inl,
  inr,
  arith,
  append_assoc,
}
use Rattle.std.proofs.lemmas.Bool.{and_parts, eqb-true}
use Rattle.std.proofs.lemmas.List.{length-replicate, replicate-append-replicate}
use Rattle.bit_lists.specs.Bits.{IsPrefix, bits_of}
use Rattle.bit_lists.specs.Fields.{bit_list}
use Rattle.bit_lists.proofs.JoinedLemmas.{bits_of-put, bits_of-zero}
use Rattle.bit_lists.proofs.PrefixLemmas.{IsPrefix-append}
use Rattle.picture_grammar.specs.Refusal.{Refusal}
use Rattle.picture_grammar.specs.Grammar.{Grammar, done, ◌>>=◌, if_next, SpellsList, Next}
use Rattle.picture_grammar.specs.Grammar.Next.{more, last}
use Rattle.picture_grammar.specs.StartCode.{start_code_prefix, start_code_bits, zero_byte, start_code, StartCodeComes}
use Rattle.picture_laws.proofs.Tested.{prefix-zeros, no-prefix}

-- ---- zeros in front

-- how many zeros bits begin with
abbrev pub zeros_before : List ℕ → ℕ
zeros_before [] = 0
zeros_before (zero ∷ bits) = suc (zeros_before bits)
zeros_before (suc n ∷ bits) = 0

pub zeros_before-one : (n : ℕ) (bits : List ℕ) → zeros_before (replicate n 0 ++ 1 ∷ bits) ≡ n
zeros_before-one zero bits = refl
zeros_before-one (suc n) bits = ap suc (zeros_before-one n bits)

-- three bytes are the prefix's bits
pub prefix_bits : bit_list (0 ∷ 0 ∷ 1 ∷ []) ≡ start_code_prefix
unfolding bits_of
prefix_bits = refl

-- a start code as a number of 32 bits
pub code_bits : (byte n : ℕ) → byte < 2 ^ 8 → n ≡ byte → bits_of 32 (256 + n) ≡ start_code_bits byte
code_bits byte n small is = ap (λ (k : ℕ). bits_of 32 (256 + k)) is ∙ bits_of-put 24 8 1 byte small

-- a start code behind zeros begins with as many zeros and 23
pub opened : (n byte : ℕ) (rest : List ℕ) → replicate n 0 ++ (start_code_bits byte ++ rest) ≡ replicate (n + 23) 0 ++ 1 ∷ (bits_of 8 byte ++ rest)
opened n byte rest =
    ap (λ (b : List ℕ). replicate n 0 ++ b) (append_assoc start_code_prefix (bits_of 8 byte) rest
    ∙ ap (λ (b : List ℕ). b ++ (bits_of 8 byte ++ rest)) prefix-zeros ∙ append_assoc (replicate 23 0) (1 ∷ []) (bits_of 8 byte ++ rest))
    ∙ sym (append_assoc (replicate n 0) (replicate 23 0) (1 ∷ (bits_of 8 byte ++ rest))) ∙ ap (λ (b : List ℕ). b ++ 1 ∷ (bits_of 8 byte ++ rest)) (replicate-append-replicate n 23 0)

pub opened-zeros : (n byte : ℕ) (rest : List ℕ) → zeros_before (replicate n 0 ++ (start_code_bits byte ++ rest)) ≡ n + 23
opened-zeros n byte rest = ap zeros_before (opened n byte rest) ∙ zeros_before-one (n + 23) (bits_of 8 byte ++ rest)

-- a list put together in two ways
pub parted : (a b c d : List ℕ) → a ++ b ≡ c ++ d → ((m : List ℕ) × (c ≡ a ++ m) × (b ≡ m ++ d)) ⊎ ((m : List ℕ) × (a ≡ c ++ m) × (d ≡ m ++ b))
parted [] b c d e = inl (c, refl, e)
parted (x ∷ a) b [] d e = inr (x ∷ a, refl, sym e)
parted (x ∷ a) b (y ∷ c) d e = longer (parted a b c d (let e' : x ∷ (a ++ b) ≡ y ∷ (c ++ d) = e in cc)) where
  first : x ≡ y
  first = let e' : x ∷ (a ++ b) ≡ y ∷ (c ++ d) = e in cc

  longer : ((m : List ℕ) × (c ≡ a ++ m) × (b ≡ m ++ d)) ⊎ ((m : List ℕ) × (a ≡ c ++ m) × (d ≡ m ++ b))
      → ((m : List ℕ) × (y ∷ c ≡ (x ∷ a) ++ m) × (b ≡ m ++ d)) ⊎ ((m : List ℕ) × (x ∷ a ≡ (y ∷ c) ++ m) × (d ≡ m ++ b))
  longer (inl (m, f, g)) = inl (m, ap₂ (λ (z : ℕ) (zs : List ℕ). z ∷ zs) (sym first) f, g)
  longer (inr (m, f, g)) = inr (m, ap₂ (λ (z : ℕ) (zs : List ℕ). z ∷ zs) first f, g)

-- an end of zeros and a one is empty, or is zeros and a one
pub end-one : (n : ℕ) (front end : List ℕ) → front ++ end ≡ replicate n 0 ++ 1 ∷ [] → (end ≡ []) ⊎ ((k : ℕ) × (end ≡ replicate k 0 ++ 1 ∷ []) × (k + length front ≡ n))
end-one n [] end e = inr (n, e, omega arith)
end-one zero (x ∷ []) [] e = inl refl
end-one zero (x ∷ []) (y ∷ ys) e = absurd (let e' : x ∷ (y ∷ ys) ≡ 1 ∷ [] = e in cc)
end-one zero (x ∷ z ∷ front) end e = absurd (let e' : x ∷ (z ∷ (front ++ end)) ≡ 1 ∷ [] = e in cc)
end-one (suc n) (x ∷ front) end e = longer (end-one n front end (let e' : x ∷ (front ++ end) ≡ 0 ∷ (replicate n 0 ++ 1 ∷ []) = e in cc)) where
  longer : (end ≡ []) ⊎ ((k : ℕ) × (end ≡ replicate k 0 ++ 1 ∷ []) × (k + length front ≡ n)) → (end ≡ []) ⊎ ((k : ℕ) × (end ≡ replicate k 0 ++ 1 ∷ []) × (k + length (x ∷ front) ≡ suc n))
  longer (inl none) = inl none
  longer (inr (k, is, count)) = inr (k, is, omega arith)

-- an end of zeros is zeros
pub end-zeros : (n : ℕ) (front end : List ℕ) → replicate n 0 ≡ front ++ end → end ≡ replicate (length end) 0
end-zeros n [] end e = sym e ∙ ap (λ (k : ℕ). replicate k 0) (sym (length-replicate {A = ℕ} n 0) ∙ ap length e)
end-zeros zero (x ∷ front) end e = absurd (let e' : [] ≡ x ∷ (front ++ end) = e in cc)
end-zeros (suc n) (x ∷ front) end e = end-zeros n front end (let e' : 0 ∷ replicate n 0 ≡ x ∷ (front ++ end) = e in cc)

-- ---- zero bytes, then a start code

abbrev zero_item : Refusal → List ℕ → Grammar (Next ℕ (Unit {0}))
zero_item refusal before = if_next (IsPrefix start_code_prefix) (done (last tt)) (zero_byte refusal >>= λ byte. done (more byte))

pub more_zeros : (n : ℕ) → replicate {A = ℕ} (8 * suc n) 0 ≡ replicate 8 0 ++ replicate (8 * n) 0
more_zeros n = ap (λ (k : ℕ). replicate {A = ℕ} k 0) (let e : 8 * suc n ≡ 8 + 8 * n = omega arith in e) ∙ sym (replicate-append-replicate 8 (8 * n) 0)

zeros-taken : (refusal : Refusal) (before values : List ℕ) (bits rest : List ℕ) → SpellsList (zero_item refusal) before values tt bits rest → bits ≡ replicate (8 * length values) 0 ++ rest
zeros-taken refusal before [] bits rest (inl (p, (e, f))) = f
zeros-taken refusal before [] bits rest (inr (n, (byte, m, s, (e, f)))) = absurd (let e' : last tt ≡ more byte = e in cc)
zeros-taken refusal before (v ∷ vs) bits rest (middle, inl (p, (e, f)), t) = absurd (let e' : more v ≡ last tt = e in cc)
zeros-taken refusal before (v ∷ vs) bits rest (middle, inr (n, (byte, m, (code, (fits, is), passing, split), (e, f))), t) =
    let none : byte ≡ 0 = eqb-true byte 0 (and_parts (nat_eq byte 0) true passing).0 in
    let zeros : code ≡ replicate 8 0 = is ∙ ap (bits_of 8) none ∙ bits_of-zero 8 in
    split ∙ ap₂ (λ (a b : List ℕ). a ++ b) zeros (f ∙ zeros-taken refusal (before ++ v ∷ []) vs middle rest t)
    ∙ sym (append_assoc (replicate 8 0) (replicate (8 * length vs) 0) rest) ∙ ap (λ (b : List ℕ). b ++ rest) (sym (more_zeros (length vs)))

zeros-made : (refusal : Refusal) (before : List ℕ) (n : ℕ) (rest : List ℕ)
    → SpellsList (zero_item refusal) before (replicate n 0) tt (replicate (8 * n) 0 ++ (start_code_prefix ++ rest)) (start_code_prefix ++ rest)
zeros-made refusal before zero rest = inl (IsPrefix-append start_code_prefix rest, (refl, refl))
zeros-made refusal before (suc n) rest =
    let later = replicate (8 * n) 0 ++ (start_code_prefix ++ rest) in
    let split : replicate (8 * suc n) 0 ++ (start_code_prefix ++ rest) ≡ replicate 8 0 ++ later =
    ap (λ (b : List ℕ). b ++ (start_code_prefix ++ rest)) (more_zeros n) ∙ append_assoc (replicate 8 0) (replicate (8 * n) 0) (start_code_prefix ++ rest) in (
      later,
      subst (λ (b : List ℕ). (zero_item refusal before).Spells (more 0) b later) (sym split)
          (inr (no-prefix (8 * n) rest, (0, later, (replicate 8 0, (omega arith, sym (bits_of-zero 8)), refl, refl), (refl, refl)))),
      zeros-made refusal (before ++ 0 ∷ []) n rest,
    )

pub code-taken : (refusal : Refusal) (may_come : ℕ → Bool) (byte : ℕ) (bits rest : List ℕ) → (start_code refusal may_come).Spells byte bits rest
    → (n : ℕ) × (bits ≡ replicate (8 * n) 0 ++ (start_code_bits byte ++ rest)) × (byte < 2 ^ 8) × (may_come byte ≡ true)
code-taken refusal may_come byte bits rest (zeros, m, s, (code, (fits, is), passing, split)) = (
  length zeros.0,
  zeros-taken refusal [] zeros.0 bits m s
      ∙ ap (λ (b : List ℕ). replicate (8 * length zeros.0) 0 ++ b) (split ∙ ap (λ (b : List ℕ). b ++ rest) is),
  fits,
  (and_parts (may_come byte) true passing).0,
)

pub code-made : (refusal : Refusal) (may_come : ℕ → Bool) (byte n : ℕ) (rest : List ℕ) → byte < 2 ^ 8 → may_come byte ≡ true
    → (start_code refusal may_come).Spells byte (replicate (8 * n) 0 ++ (start_code_bits byte ++ rest)) rest
code-made refusal may_come byte n rest fits comes =
    let later = start_code_prefix ++ (bits_of 8 byte ++ rest) in
    let assoc : start_code_bits byte ++ rest ≡ later = append_assoc start_code_prefix (bits_of 8 byte) rest in (
      (replicate n 0, tt),
      start_code_bits byte ++ rest,
      subst (λ (b : List ℕ). SpellsList (zero_item refusal) [] (replicate n 0) tt (replicate (8 * n) 0 ++ b) b) (sym assoc) (zeros-made refusal [] n (bits_of 8 byte ++ rest)),
      (start_code_bits byte, (fits, refl), and_passes (may_come byte) comes, refl),
    ) where
      and_passes : (b : Bool) → b ≡ true → (b && true) ≡ true
      and_passes b e = ap (λ (c : Bool). c && true) e

pub comes-spelled : (refusal : Refusal) (may_come : ℕ → Bool) (byte : ℕ) (bits rest : List ℕ) → (start_code refusal may_come).Spells byte bits rest → StartCodeComes may_come bits
comes-spelled refusal may_come byte bits rest s =
    let (n, split, fits, comes) = code-taken refusal may_come byte bits rest s in
    record { zeros = n; byte = byte; rest = rest; is_byte = fits; is_one = comes; stands = split ∙ sym (append_assoc (replicate (8 * n) 0) (start_code_bits byte) rest) }
