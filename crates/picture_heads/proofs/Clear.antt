-- Bits in which no start code begins, up to a place.
use Rattle.std.proofs.Common.{◌≡◌, ◌⊎◌, ◌+◌, ◌*◌, ◌%◌, ◌≤◌, ℕ, zero, suc, List, [], ◌∷◌, ◌++◌, length, replicate, Bool, true, refl, sym, ap, ap₂, subst, ◌∙◌, inl, inr, arith, append_assoc, append-nil}
use Rattle.std.proofs.lemmas.List.{length-append, length-replicate}
use Rattle.bit_lists.specs.Bits.{bits_of}
use Rattle.bit_lists.proofs.BitLemmas.{length-bits_of}
use Rattle.picture_grammar.specs.Refusal.{Refusal}
use Rattle.picture_grammar.specs.StartCode.{start_code_prefix, start_code_bits, start_code}
use Rattle.picture_laws.proofs.Tested.{prefix-zeros}
use Rattle.picture_laws.proofs.StartCodes.{zeros_before, opened, opened-zeros, parted, code-taken}
use Rattle.picture_laws.proofs.Tails.{suffix-one, led}
use Rattle.picture_laws.proofs.ZeroRuns.{AreShort, zeros_behind, short-behind, short-zeros}
use Rattle.picture_heads.specs.Private.Walk.{IsFirstCode}
use Rattle.picture_laws.proofs.ShortSlices.{no_run}

-- no start code at a whole byte begins before these last bits
pub record IsClear (bits end : List ℕ) : Type 0 where
  pub front : List ℕ
  pub split : bits ≡ front ++ end
  pub none : (before after : List ℕ) → bits ≡ before ++ start_code_prefix ++ after → length after % 8 ≡ 0 → length front ≤ length before

pub clear-self : (bits : List ℕ) → IsClear bits bits
clear-self bits = record { front = []; split = refl; none = λ before after e whole. omega arith }

-- what stands behind the first bits, where two lists are the same and begin with enough of them
pub behind_front : (f m before rest : List ℕ) → f ++ m ≡ before ++ rest → length f ≤ length before → (k : List ℕ) × (before ≡ f ++ k) × (m ≡ k ++ rest)
behind_front [] m before rest e le = (before, refl, e)
behind_front (x ∷ f) m [] rest e le = absurd (omega arith)
behind_front (x ∷ f) m (y ∷ before) rest e le = longer (behind_front f m before rest (let e' : x ∷ (f ++ m) ≡ y ∷ (before ++ rest) = e in cc) (omega arith)) where
  first : x ≡ y
  first = let e' : x ∷ (f ++ m) ≡ y ∷ (before ++ rest) = e in cc

  longer : (k : List ℕ) × (before ≡ f ++ k) × (m ≡ k ++ rest) → (k : List ℕ) × (y ∷ before ≡ (x ∷ f) ++ k) × (m ≡ k ++ rest)
  longer (k, p, q) = (k, ap₂ (λ (z : ℕ) (zs : List ℕ). z ∷ zs) (sym first) p, q)

pub clear-then : (bits middle end : List ℕ) → IsClear bits middle → IsClear middle end → IsClear bits end
clear-then bits middle end a b = record {
  front = a.front ++ b.front;
  split = a.split ∙ ap (λ (x : List ℕ). a.front ++ x) b.split ∙ sym (append_assoc a.front b.front end);
  none = λ before after e whole.
      let (k, p, q) = behind_front a.front middle before (start_code_prefix ++ after) (sym a.split ∙ e ∙ append_assoc before start_code_prefix after) (a.none before after e whole) in
      let more = b.none k after (q ∙ sym (append_assoc k start_code_prefix after)) whole in
      omega (arith, more, ap length p, length-append a.front k, length-append a.front b.front);
}

pub first-then : (bits middle : List ℕ) (byte : ℕ) (behind : List ℕ) → IsClear bits middle → IsFirstCode middle byte behind → IsFirstCode bits byte behind
first-then bits middle byte behind clear code =
    let all = clear-then bits middle (start_code_bits byte ++ behind) clear (record {
      front = code.front;
      split = code.split ∙ append_assoc code.front
          (start_code_bits byte) behind;
      none = code.first;
    }) in
    record { front = all.front; split = all.split ∙ sym (append_assoc all.front (start_code_bits byte) behind); is_byte = code.is_byte; whole = code.whole; first = all.none }

-- ---- zeros before a one

zeros-most : (k rest : List ℕ) → zeros_before (k ++ 1 ∷ rest) ≤ length k
zeros-most [] rest = omega arith
zeros-most (zero ∷ k) rest = omega (arith, zeros-most k rest)
zeros-most (suc n ∷ k) rest = omega arith

prefix_zeros-most : (k rest : List ℕ) → zeros_before (k ++ (start_code_prefix ++ rest)) ≤ length k + 23
prefix_zeros-most k rest =
    let same : k ++ (start_code_prefix ++ rest) ≡ (k ++ replicate 23 0) ++ 1 ∷ rest =
    ap (λ (x : List ℕ). k ++ x) (ap (λ (x : List ℕ). x ++ rest) prefix-zeros ∙ append_assoc (replicate 23 0) (1 ∷ []) rest) ∙ sym (append_assoc k (replicate 23 0) (1 ∷ rest)) in
    omega (arith, ap zeros_before same, zeros-most (k ++ replicate 23 0) rest, length-append k (replicate 23 0), length-replicate {A = ℕ} 23 0)

zeros_before-behind : (p : ℕ) (bits : List ℕ) → zeros_before (replicate p 0 ++ bits) ≡ p + zeros_before bits
zeros_before-behind zero bits = omega arith
zeros_before-behind (suc p) bits = omega (arith, zeros_before-behind p bits)

-- behind bits with no run of zeros, and zeros, none begins before 23 zeros
module _ (inner : List ℕ) (p : ℕ) (m : List ℕ) (short : AreShort 0 inner) (many : 23 ≤ zeros_before m) where
  rest_of : List ℕ
  rest_of = replicate p 0 ++ m

  zeros_rest : zeros_before (replicate p 0 ++ m) ≡ p + zeros_before m
  zeros_rest = zeros_before-behind p m

  in_end : (before after k : List ℕ) → replicate p 0 ++ m ≡ k ++ after
      → ((n : List ℕ) × (inner ≡ before ++ n) × (start_code_prefix ≡ n ++ k)) ⊎ ((n : List ℕ) × (before ≡ inner ++ n) × (k ≡ n ++ start_code_prefix)) → length inner + p ≤ length before
  in_end before after k r (inl (n, q, e)) = elim (suffix-one n k e) [
    | inl none ↦
        let whole : n ≡ start_code_prefix = sym (append-nil n) ∙ ap (λ (x : List ℕ). n ++ x) (sym none) ∙ sym e in
        absurd (no_run before [] (subst (AreShort 0) (q ∙ ap (λ (x : List ℕ). before ++ x) whole ∙ sym (append-nil (before ++ start_code_prefix))) short))
    | inr (j, is_one, count) ↦
        let first : zeros_before (replicate p 0 ++ m) ≡ j = led j k after (replicate p 0 ++ m) is_one r in
        omega (arith, first, zeros_rest, many, count, ap length q, length-append before n)
  ]
  in_end before after k r (inr (n, q, e)) =
      let same : replicate p 0 ++ m ≡ n ++ (start_code_prefix ++ after) = r ∙ ap (λ (x : List ℕ). x ++ after) e ∙ append_assoc n start_code_prefix after in
      omega (arith, ap zeros_before same, zeros_rest, many, prefix_zeros-most n after, ap length q, length-append inner n)

  by_parts : (before after : List ℕ) → ((k : List ℕ) × (before ++ start_code_prefix ≡ inner ++ k) × (replicate p 0 ++ m ≡ k ++ after))
      ⊎ ((k : List ℕ) × (inner ≡ (before ++ start_code_prefix) ++ k) × (after ≡ k ++ (replicate p 0 ++ m))) → length inner + p ≤ length before
  by_parts before after (inl (k, q, r)) = in_end before after k r (parted before start_code_prefix inner k q)
  by_parts before after (inr (k, q, r)) = absurd (no_run before k (subst (AreShort 0) q short))

  pub clear-short : IsClear (inner ++ (replicate p 0 ++ m)) m
  clear-short = record {
    front = inner ++ replicate p 0;
    split = sym (append_assoc inner (replicate p 0) m);
    none = λ before after e whole.
        let le = by_parts before after (parted inner (replicate p 0 ++ m) (before ++ start_code_prefix) after e) in
        omega (arith, le, length-append inner (replicate p 0), length-replicate {A = ℕ} p 0);
  }

-- a start code behind zeros is the first one
pub first-code : (refusal : Refusal) (may_come : ℕ → Bool) (byte : ℕ) (bits rest : List ℕ) → (start_code refusal may_come).Spells byte bits rest → length bits % 8 ≡ 0
    → IsFirstCode bits byte rest × (23 ≤ zeros_before bits) × (length rest % 8 ≡ 0) × (may_come byte ≡ true)
unfolding clear-short
first-code refusal may_come byte bits rest s whole =
    let (n, split, fits, comes) = code-taken refusal may_come byte bits rest s in
    let opens : start_code_bits byte ++ rest ≡ replicate 23 0 ++ 1 ∷ (bits_of 8 byte ++ rest) = opened 0 byte rest in
    let run : zeros_before (start_code_bits byte ++ rest) ≡ 23 = opened-zeros 0 byte rest in
    let clear = clear-short [] (8 * n) (start_code_bits byte ++ rest) tt (omega (arith, run)) in
    let lengths : length bits ≡ 8 * n + (32 + length rest) =
    ap length split ∙ length-append (replicate (8 * n) 0) (start_code_bits byte ++ rest)
    ∙ omega (arith, length-replicate {A = ℕ} (8 * n) 0, length-append (start_code_bits byte) rest, length-append start_code_prefix (bits_of 8 byte), length-bits_of 8 byte, length-bits_of 24 1) in
    let aligned : length rest % 8 ≡ 0 = omega (arith, lengths, whole) in (
      record {
        front = replicate (8 * n) 0;
        split = split ∙ sym (append_assoc (replicate (8 * n) 0) (start_code_bits byte) rest);
        is_byte = fits;
        whole = aligned;
        first = λ before after e w. (let le = clear.none before after (sym split ∙ e) w in le);
      },
      omega (arith, ap zeros_before split ∙ opened-zeros (8 * n) byte rest),
      aligned,
      comes,
    )
