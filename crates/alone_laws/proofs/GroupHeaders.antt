-- Before a picture's start code no start code of a group of pictures begins in seven bytes: the header of a group has eight, and its time code looks like no other.
use Rattle.std.proofs.Common.{◌≡◌, ◌⊎◌, ◌+◌, ◌-◌, ◌%◌, ◌<◌, ◌≤◌, ◌==◌, ◌||◌, ◌&&◌, nat_eq, not, ℕ, zero, suc, Option, Some, None, List, [], ◌∷◌, ◌++◌, get_or, length, replicate, Bool, true, false, refl, sym, ap, subst, ◌∙◌, inl, inr, arith, append_assoc}
use Rattle.std.proofs.Math.ListN.{get_or-append}
use Rattle.std.proofs.lemmas.Bool.{and_parts, or_cases, cases_Bool, cases_lt, eqb-true}
use Rattle.std.proofs.lemmas.List.{get_or-append-add, get_or-replicate, length-append, length-replicate}
use Rattle.bit_lists.specs.Bits.{IsPrefix, bits_of}
use Rattle.bit_lists.proofs.BitLemmas.{length-bits_of}
use Rattle.bit_lists.proofs.JoinedLemmas.{bits_of-zero}
use Rattle.bit_lists.proofs.PrefixLemmas.{IsPrefix-append}
use Rattle.syntax_types.specs.declared.picture.SeqState.{SeqState}
use Rattle.stream_constants.specs.declared.start_codes.TheConstants.{PICTURE, USER_DATA, SEQUENCE_HEADER, EXTENSION, GROUP, SEQUENCE_DISPLAY, QUANT_MATRIX}
use Rattle.picture_grammar.specs.Refusal.{Refusal}
use Rattle.picture_grammar.specs.Refusal.Refusal.{BadHeader, NotMpeg2}
use Rattle.picture_grammar.specs.Grammar.{Grammar, optional, when, SpellsList}
use Rattle.picture_grammar.specs.Grammar.Next.{more, last}
use Rattle.picture_grammar.specs.StartCode.{start_code_prefix, start_code_bits, start_code, zero_bits}
use Rattle.picture_grammar.specs.Headers.{Loaded}
use Rattle.picture_grammar.specs.Head.{is_scalable, no_matrix, unread, extension, extension_or_user_data, sequence_headers, sequence_part, group_part}
use Rattle.picture_laws.proofs.Steady.{unread_item}
use Rattle.picture_laws.proofs.StartCodes.{opened, zeros_before}
use Rattle.picture_heads.specs.Private.Walk.{IsFirstCode}
use Rattle.picture_heads.proofs.Clear.{IsClear, behind_front, clear-self, clear-then, clear-short, first-code}
use Rattle.picture_heads.proofs.LeadingCodes.{content_clear, padding, prefix-run}
use Rattle.picture_heads.proofs.ShortHeaders.{short-sequence_header, short-sequence_extension}

-- ---- start codes in bits

code-size : (byte : ℕ) → length (start_code_bits byte) ≡ 32
code-size byte = length-append start_code_prefix (bits_of 8 byte) ∙ omega (arith, length-bits_of 24 1, length-bits_of 8 byte)

-- 23 zeros
zero-in-code : (byte : ℕ) (x after : List ℕ) (k : ℕ) → k < 23 → get_or (x ++ (start_code_bits byte ++ after)) (length x + k) 0 ≡ 0
zero-in-code byte x after k less =
    get_or-append-add x (start_code_bits byte ++ after) k 0 ∙ ap (λ (xs : List ℕ). get_or xs k 0) (opened 0 byte after)
    ∙ get_or-append (replicate 23 0) (1 ∷ (bits_of 8 byte ++ after)) 0 k (omega (arith, less, length-replicate {A = ℕ} 23 0)) ∙ get_or-replicate 23 k 0 0 less

in-byte : (byte : ℕ) (x after : List ℕ) (k : ℕ) → get_or (x ++ (start_code_bits byte ++ after)) (length x + (23 + k)) 0 ≡ get_or (1 ∷ (bits_of 8 byte ++ after)) k 0
in-byte byte x after k =
    get_or-append-add x (start_code_bits byte ++ after) (23 + k) 0 ∙ ap (λ (xs : List ℕ). get_or xs (23 + k) 0) (opened 0 byte after)
    ∙ ap (λ (i : ℕ). get_or (replicate 23 0 ++ 1 ∷ (bits_of 8 byte ++ after)) i 0)
    (let e : 23 + k ≡ length (replicate {A = ℕ} 23 0) + k = omega (arith, length-replicate {A = ℕ} 23 0) in e)
    ∙ get_or-append-add (replicate 23 0) (1 ∷ (bits_of 8 byte ++ after)) k 0

-- a one
one-in-code : (byte : ℕ) (x after : List ℕ) → get_or (x ++ (start_code_bits byte ++ after)) (length x + 23) 0 ≡ 1
one-in-code byte x after = in-byte byte x after 0

-- and the bits of its last byte
byte-in-code : (byte : ℕ) (x after : List ℕ) (k : ℕ) → k < 8 → get_or (x ++ (start_code_bits byte ++ after)) (length x + (24 + k)) 0 ≡ get_or (bits_of 8 byte) k 0
byte-in-code byte x after k less =
    ap (λ (i : ℕ). get_or (x ++ (start_code_bits byte ++ after)) (length x + i) 0) (let e : 24 + k ≡ 23 + suc k = omega arith in e) ∙ in-byte byte x after (suc k)
    ∙ get_or-append (bits_of 8 byte) after 0 k (omega (arith, less, length-bits_of 8 byte))

group-first : get_or (bits_of 8 GROUP) 0 0 ≡ 1
unfolding bits_of
group-first = refl

group-fifth : get_or (bits_of 8 GROUP) 4 0 ≡ 1
unfolding bits_of
group-fifth = refl

-- the same bits have the same item at the same place
same-item : (xs ys : List ℕ) (i j a b : ℕ) → xs ≡ ys → i ≡ j → get_or xs i 0 ≡ a → get_or ys j 0 ≡ b → a ≡ b
same-item xs ys i j a b lists places one other = sym one ∙ ap (λ (zs : List ℕ). get_or zs i 0) lists ∙ ap (λ (k : ℕ). get_or ys k 0) places ∙ other

as-prefix : (before after : List ℕ) → before ++ (start_code_bits GROUP ++ after) ≡ (before ++ start_code_prefix) ++ (bits_of 8 GROUP ++ after)
as-prefix before after =
    ap (λ (x : List ℕ). before ++ x) (append_assoc start_code_prefix (bits_of 8 GROUP) after) ∙ sym (append_assoc before start_code_prefix (bits_of 8 GROUP ++ after))

group-size : (before after : List ℕ) → length (before ++ (start_code_bits GROUP ++ after)) ≡ length before + 32 + length after
group-size before after = length-append before (start_code_bits GROUP ++ after) ∙ omega (arith, length-append (start_code_bits GROUP) after, code-size GROUP)

-- ---- where no start code of a group begins

-- each start code of a group in these bits, at a whole byte, begins within the last ones
record IsFree (bits end : List ℕ) : Type 0 where
  front : List ℕ
  split : bits ≡ front ++ end
  none : (before after : List ℕ) → bits ≡ before ++ (start_code_bits GROUP ++ after) → length after % 8 ≡ 0 → length after + 32 ≤ length end

free-clear : (bits end : List ℕ) → IsClear bits end → IsFree bits end
free-clear bits end clear = record {
  front = clear.front;
  split = clear.split;
  none = λ before after e whole.
      let le = clear.none before (bits_of 8 GROUP ++ after) (e ∙ as-prefix before after) (omega (arith, whole, length-append (bits_of 8 GROUP) after, length-bits_of 8 GROUP)) in
      omega (arith, le, ap length clear.split, length-append clear.front end, ap length e, group-size before after);
}

-- one that begins within the last bits is one of these
within-end : (bits front end before after : List ℕ) → bits ≡ front ++ end → bits ≡ before ++ (start_code_bits GROUP ++ after) → length after + 32 ≤ length end
    → (k : List ℕ) × (end ≡ k ++ (start_code_bits GROUP ++ after))
within-end bits front end before after split e le =
    let (k, p, q) = behind_front front end before (start_code_bits GROUP ++ after) (sym split ∙ e)
    (omega (arith, le, ap length split, length-append front end, ap length e, group-size before after)) in
    (k, q)

free-then : (bits middle end : List ℕ) → IsFree bits middle → IsFree middle end → IsFree bits end
free-then bits middle end a b = record {
  front = a.front ++ b.front;
  split = a.split ∙ ap (λ (x : List ℕ). a.front ++ x) b.split ∙ sym (append_assoc a.front b.front end);
  none = λ before after e whole.
      let (k, q) = within-end bits a.front middle before after a.split e (a.none before after e whole) in
      b.none k after q whole;
}

-- start codes whose last byte has its first bit set, at most three bytes apart
near-clash : (bits front behind before after : List ℕ) (byte : ℕ) → bits ≡ front ++ (start_code_bits byte ++ behind) → bits ≡ before ++ (start_code_bits GROUP ++ after)
    → get_or (bits_of 8 byte) 0 0 ≡ 1 → length front < length before → length before ≤ length front + 24 → (length before - length front) % 8 ≡ 0 → ⊥
near-clash bits front behind before after byte split e first low high whole = elim (cases_lt (length before) (length front + 24)) [
  | inl near ↦
      let zero_there = zero-in-code GROUP before after (length front + 23 - length before) (omega (arith, low, near)) in
      let both : 1 ≡ 0 = same-item _ _ (length front + 23) (length before + (length front + 23 - length before)) 1 0 (sym split ∙ e)
      (omega (arith, low, near, whole)) (one-in-code byte front behind) zero_there in
      omega (arith, both)
  | inr far ↦
      let one_there : get_or (front ++ (start_code_bits byte ++ behind)) (length front + (24 + 0)) 0 ≡ 1 = byte-in-code byte front behind 0 (omega arith) ∙ first in
      let both : 1 ≡ 0 = same-item _ _ (length front + (24 + 0)) (length before + 0) 1 0 (sym split ∙ e) (omega (arith, high, far)) one_there (zero-in-code GROUP before after 0 (omega arith)) in
      omega (arith, both)
]

-- a start code that isn't a group's by its last byte's fifth bit
free-code : (byte : ℕ) (bits m : List ℕ) → IsFirstCode bits byte m → get_or (bits_of 8 byte) 0 0 ≡ 1 → get_or (bits_of 8 byte) 4 0 ≡ 0 → IsFree bits m
free-code byte bits m code first fifth = record {
  front = code.front ++ start_code_bits byte;
  split = code.split;
  none = λ before after e whole.
      let le = code.first before (bits_of 8 GROUP ++ after) (e ∙ as-prefix before after) (omega (arith, whole, length-append (bits_of 8 GROUP) after, length-bits_of 8 GROUP)) in
      let split : bits ≡ code.front ++ (start_code_bits byte ++ m) = code.split ∙ append_assoc code.front (start_code_bits byte) m in
      let sizes : length bits ≡ length code.front + 32 + length m =
      ap length split ∙ length-append code.front (start_code_bits byte ++ m) ∙ omega (arith, length-append (start_code_bits byte) m, code-size byte) in
      let same : length bits ≡ length before + 32 + length after = ap length e ∙ group-size before after in
      elim (cases_lt (length code.front + 24) (length before)) [
        | inl far ↦ omega (arith, far, sizes, same, whole, code.whole)
        | inr near ↦ elim (cases_lt (length code.front) (length before)) [
          | inl apart ↦ absurd (near-clash bits code.front m before after byte split e first apart near (omega (arith, apart, sizes, same, whole, code.whole)))
          | inr here ↦
              let both : 0 ≡ 1 = same-item _ _ (length code.front + (24 + 4)) (length before + (24 + 4)) 0 1 (sym split ∙ e) (omega (arith, here, le))
              (byte-in-code byte code.front m 4 (omega arith) ∙ fifth) (byte-in-code GROUP before after 4 (omega arith) ∙ group-fifth) in
              absurd (omega (arith, both))
        ]
      ];
}

-- ---- the picture's start code

-- The picture's start code stands in these bits before the last ones, and each start code of a group in them, at a whole byte, begins eight bytes before it or
-- earlier, or with it or later. A start code comes first.
pub record Spaced (bits rest : List ℕ) : Type 0 where
  pub front : List ℕ
  pub split : bits ≡ front ++ (start_code_bits PICTURE ++ rest)
  pub apart : (before after : List ℕ) → bits ≡ before ++ (start_code_bits GROUP ++ after) → length after % 8 ≡ 0 → length rest < length after → length rest + 64 ≤ length after
  pub many : 23 ≤ zeros_before bits
  pub whole : length rest % 8 ≡ 0

pub spaced-size : (bits rest : List ℕ) (s : Spaced bits rest) → length bits ≡ length s.front + 32 + length rest
spaced-size bits rest s =
    ap length s.split ∙ length-append s.front (start_code_bits PICTURE ++ rest) ∙ omega (arith, length-append (start_code_bits PICTURE) rest, code-size PICTURE)

spaced-behind : (bits middle rest : List ℕ) → 23 ≤ zeros_before bits → IsFree bits middle → Spaced middle rest → Spaced bits rest
spaced-behind bits middle rest many free s = record {
  front = free.front ++ s.front;
  split = free.split ∙ ap (λ (x : List ℕ). free.front ++ x) s.split ∙ sym (append_assoc free.front s.front (start_code_bits PICTURE ++ rest));
  apart = λ before after e whole less.
      let (k, q) = within-end bits free.front middle before after free.split e (free.none before after e whole) in
      s.apart k after q whole less;
  many = many;
  whole = s.whole;
}

-- behind the code of a group, and a header that ends with five zeros
spaced-group : (bits m c z later rest : List ℕ) → 23 ≤ zeros_before bits → IsFirstCode bits GROUP m → m ≡ c ++ z → length c ≡ 27 → z ≡ replicate 5 0 ++ later → Spaced later rest → Spaced bits rest
spaced-group bits m c z later rest many code header size zeros s = record {
  front = code.front ++ (start_code_bits GROUP ++ (c ++ (replicate 5 0 ++ s.front)));
  split = split ∙ ap (λ (x : List ℕ). code.front ++ (start_code_bits GROUP ++ x)) (header ∙ ap (λ (x : List ℕ). c ++ x) (zeros ∙ ap (λ (x : List ℕ). replicate 5 0 ++ x) s.split))
      ∙ sym (five code.front (start_code_bits GROUP) c (replicate 5 0) s.front (start_code_bits PICTURE ++ rest));
  apart = λ before after e whole less.
      let le = code.first before (bits_of 8 GROUP ++ after) (e ∙ as-prefix before after) (omega (arith, whole, length-append (bits_of 8 GROUP) after, length-bits_of 8 GROUP)) in
      let same : length bits ≡ length before + 32 + length after = ap length e ∙ group-size before after in
      by_place before after e whole less le same;
  many = many;
  whole = s.whole;
}
  where
    split : bits ≡ code.front ++ (start_code_bits GROUP ++ m)
    split = code.split ∙ append_assoc code.front (start_code_bits GROUP) m

    five : (a b d f g h : List ℕ) → (a ++ (b ++ (d ++ (f ++ g)))) ++ h ≡ a ++ (b ++ (d ++ (f ++ (g ++ h))))
    five a b d f g h = simp append_assoc

    left : length z ≡ 5 + length later
    left = ap length zeros ∙ length-append (replicate 5 0) later ∙ omega (arith, length-replicate {A = ℕ} 5 0)

    behind : length m ≡ 32 + length later
    behind = ap length header ∙ length-append c z ∙ omega (arith, size, left)

    sizes : length bits ≡ length code.front + 64 + length later
    sizes = ap length split ∙ length-append code.front (start_code_bits GROUP ++ m) ∙ omega (arith, length-append (start_code_bits GROUP) m, code-size GROUP, behind)

    -- the header's end and what follows begin with 28 zeros
    zeros-there : (xs : List ℕ) (i : ℕ) → i < zeros_before xs → get_or xs i 0 ≡ 0
    zeros-there [] i less = absurd (omega (arith, less))
    zeros-there (zero ∷ xs) zero less = refl
    zeros-there (zero ∷ xs) (suc i) less = zeros-there xs i (omega (arith, less))
    zeros-there (suc n ∷ xs) i less = absurd (omega (arith, less))

    run : zeros_before z ≡ 5 + zeros_before later
    run = ap zeros_before zeros ∙ omega arith

    in-zeros : (k : ℕ) → k < 28 → get_or (code.front ++ (start_code_bits GROUP ++ m)) (length code.front + (32 + (27 + k))) 0 ≡ 0
    in-zeros k less =
        get_or-append-add code.front (start_code_bits GROUP ++ m) (32 + (27 + k)) 0
        ∙ ap (λ (i : ℕ). get_or (start_code_bits GROUP ++ m) i 0) (let e : 32 + (27 + k) ≡ length (start_code_bits GROUP) + (27 + k) = omega (arith, code-size GROUP) in e)
        ∙ get_or-append-add (start_code_bits GROUP) m (27 + k) 0 ∙ ap (λ (xs : List ℕ). get_or xs (27 + k) 0) header
        ∙ ap (λ (i : ℕ). get_or (c ++ z) i 0) (let e : 27 + k ≡ length c + k = omega (arith, size) in e)
        ∙ get_or-append-add c z k 0 ∙ zeros-there z k (omega (arith, less, run, s.many))

    -- no code begins in the header
    header-clash : (before after : List ℕ) → bits ≡ before ++ (start_code_bits GROUP ++ after) → length code.front + 32 ≤ length before → length before ≤ length code.front + 56
        → (length before - length code.front) % 8 ≡ 0 → ⊥
    header-clash before after e low high whole = elim (cases_lt (length before) (length code.front + 33)) [
      | inl first ↦
          let one_there : get_or (before ++ (start_code_bits GROUP ++ after)) (length before + (24 + 4)) 0 ≡ 1 = byte-in-code GROUP before after 4 (omega arith) ∙ group-fifth in
          let both : 0 ≡ 1 = same-item _ _ (length code.front + (32 + (27 + 1))) (length before + (24 + 4)) 0 1 (sym split ∙ e) (omega (arith, low, first)) (in-zeros 1 (omega arith)) one_there in
          omega (arith, both)
      | inr later_on ↦
          let k : ℕ = length before + 23 - (length code.front + 59) in
          let both : 0 ≡ 1 = same-item _ _ (length code.front + (32 + (27 + k))) (length before + 23) 0 1 (sym split ∙ e) (omega (arith, low, later_on, whole)) (in-zeros k (omega (arith, high, later_on)))
          (one-in-code GROUP before after) in
          omega (arith, both)
    ]

    by_place : (before after : List ℕ) → bits ≡ before ++ (start_code_bits GROUP ++ after) → length after % 8 ≡ 0 → length rest < length after → length code.front ≤ length before
        → length bits ≡ length before + 32 + length after → length rest + 64 ≤ length after
    by_place before after e whole less le same = elim (cases_lt (length code.front) (length before)) [
      | inr here ↦ omega (arith, here, le, same, sizes, spaced-size later rest s)
      | inl apart ↦
          let aligned : (length before - length code.front) % 8 ≡ 0 = omega (arith, apart, same, sizes, whole, code.whole, behind) in
          elim (cases_lt (length code.front + 24) (length before)) [
            | inr near ↦ absurd (near-clash bits code.front m before after GROUP split e group-first apart near aligned)
            | inl far ↦ elim (cases_lt (length code.front + 56) (length before)) [
              | inr inside ↦ absurd (header-clash before after e (omega (arith, far, aligned)) inside aligned)
              | inl past ↦
                  let whole_split : bits ≡ (code.front ++ (start_code_bits GROUP ++ (c ++ replicate 5 0))) ++ later =
                  split ∙ ap (λ (x : List ℕ). code.front ++ (start_code_bits GROUP ++ x)) (header ∙ ap (λ (x : List ℕ). c ++ x) zeros)
                  ∙ sym (four code.front (start_code_bits GROUP) c (replicate 5 0) later) in
                  let (k, q) = within-end bits (code.front ++ (start_code_bits GROUP ++ (c ++ replicate 5 0))) later before after whole_split e (omega (arith, past, same, sizes, aligned)) in
                  s.apart k after q whole less
            ]
          ]
    ]
      where
        four : (a b d f g : List ℕ) → (a ++ (b ++ (d ++ f))) ++ g ≡ a ++ (b ++ (d ++ (f ++ g)))
        four a b d f g = simp append_assoc

-- start codes of extensions and user data, and no identifier but that of sequence_display_extension()
record AreOthers (start_codes identifiers : ℕ → Bool) : Type 0 where
  codes : (byte : ℕ) → start_codes byte ≡ true → (get_or (bits_of 8 byte) 0 0 ≡ 1) × (get_or (bits_of 8 byte) 4 0 ≡ 0)
  display : (id : ℕ) → identifiers id ≡ true → id ≡ SEQUENCE_DISPLAY

module _ (start_codes identifiers : ℕ → Bool) (others : AreOthers start_codes identifiers) where
  list_spaced : (before values : List Loaded) (bits middle rest : List ℕ) → SpellsList (extension_or_user_data start_codes identifiers) before values (tt {0}) bits middle
      → length bits % 8 ≡ 0 → (length middle % 8 ≡ 0 → Spaced middle rest) → Spaced bits rest
  list_spaced before [] bits middle rest (inl (c, (byte, m1, s1, (loaded, m2, s2, (user, m3, s3, (e, f)))))) whole later = absurd (let e' : last (tt {0}) ≡ more loaded = e in cc)
  list_spaced before [] bits middle rest (inr (c, (e, f))) whole later = subst (λ (x : List ℕ). Spaced x rest) (sym f) (later (subst (λ (x : List ℕ). length x % 8 ≡ 0) f whole))
  list_spaced before (v ∷ vs) bits middle rest (next, inl (c, (byte, m1, s1, (loaded, m2, s2, (user, m3, s3, (e, f))))), t) whole later =
      let (code, zeros, aligned, is) = first-code BadHeader start_codes byte bits m1 s1 whole in
      let (clear, aligned') = content_clear identifiers others.display byte loaded user m1 m2 m3 s2 s3 aligned in
      let kind = others.codes byte is in
      spaced-behind bits next rest zeros (free-then bits m1 next (free-code byte bits m1 code kind.0 kind.1) (free-clear m1 next (subst (IsClear m1) f clear)))
      (list_spaced (before ++ v ∷ []) vs next middle rest t (subst (λ (x : List ℕ). length x % 8 ≡ 0) f aligned') later)
  list_spaced before (v ∷ vs) bits middle rest (next, inr (c, (e, f)), t) whole later = absurd (let e' : more v ≡ last (tt {0}) = e in cc)

marked-extension : (get_or (bits_of 8 EXTENSION) 0 0 ≡ 1) × (get_or (bits_of 8 EXTENSION) 4 0 ≡ 0)
unfolding bits_of
marked-extension = (refl, refl)

marked-user : (get_or (bits_of 8 USER_DATA) 0 0 ≡ 1) × (get_or (bits_of 8 USER_DATA) 4 0 ≡ 0)
unfolding bits_of
marked-user = (refl, refl)

marked-sequence : (get_or (bits_of 8 SEQUENCE_HEADER) 0 0 ≡ 1) × (get_or (bits_of 8 SEQUENCE_HEADER) 4 0 ≡ 0)
unfolding bits_of
marked-sequence = (refl, refl)

marked-as : (code byte : ℕ) → (byte == code) ≡ true → (get_or (bits_of 8 code) 0 0 ≡ 1) × (get_or (bits_of 8 code) 4 0 ≡ 0)
    → (get_or (bits_of 8 byte) 0 0 ≡ 1) × (get_or (bits_of 8 byte) 4 0 ≡ 0)
marked-as code byte is marked = subst (λ (b : ℕ). (get_or (bits_of 8 b) 0 0 ≡ 1) × (get_or (bits_of 8 b) 4 0 ≡ 0)) (sym (eqb-true byte code is)) marked

extension_codes : AreOthers (λ byte. byte == EXTENSION || byte == USER_DATA) (λ identifier. identifier == SEQUENCE_DISPLAY)
extension_codes = record {
  codes = λ byte is. elim (or_cases _ _ is) [
    | inl e ↦ marked-as EXTENSION byte e marked-extension
    | inr e ↦ marked-as USER_DATA byte e marked-user
  ];
  display = λ id is. eqb-true id SEQUENCE_DISPLAY is;
}

user_codes : AreOthers (λ byte. byte == USER_DATA) (λ identifier. false)
user_codes = record {
  codes = λ byte e. marked-as USER_DATA byte e marked-user;
  display = λ id is. absurd (let e : false ≡ true = is in cc);
}

-- ---- the parts of a head before the picture header

group_spaced : (found : Unit {0}) (bits middle rest : List ℕ) → group_part.Spells found bits middle → length bits % 8 ≡ 0 → (length middle % 8 ≡ 0 → Spaced middle rest) → Spaced bits rest
group_spaced found bits middle rest (inr (c, (e, f))) whole later = subst (λ (x : List ℕ). Spaced x rest) (sym f) (later (subst (λ (x : List ℕ). length x % 8 ≡ 0) f whole))
group_spaced found bits middle rest
    (inl (c, (byte, m1, s1, (broken, m2, (time, n1, (c1, (fits, is), p1, split1), (closed, n2, (c2, is2, p2, split2), (c3, is3, p3, split3))), (z, m3, s3, (user, m4, s4, (e, f))))))) whole later =
    let (code, zeros, aligned, is_group) = first-code BadHeader (λ b. b == GROUP) byte bits m1 s1 whole in
    let same : byte ≡ GROUP = eqb-true byte GROUP is_group in
    let (p, pad, aligned', count) = padding BadHeader z m2 m3 s3 in
    let l1 : length c1 ≡ 25 = ap length is ∙ length-bits_of 25 time in
    let l2 : length c2 ≡ 1 = ap length is2 in
    let l3 : length c3 ≡ 1 = ap length is3 in
    let sizes : length m1 ≡ 27 + length m2 =
    ap length split1 ∙ length-append c1 n1 ∙ omega (arith, l1, l2, l3, ap length split2, length-append c2 n2, ap length split3, length-append c3 m2) in
    let five : p ≡ 5 = omega (arith, sizes, aligned, count) in
    let all : m1 ≡ (c1 ++ (c2 ++ c3)) ++ m2 =
    split1 ∙ ap (λ (x : List ℕ). c1 ++ x) (split2 ∙ ap (λ (x : List ℕ). c2 ++ x) split3 ∙ sym (append_assoc c2 c3 m2)) ∙ sym (append_assoc c1 (c2 ++ c3) m2) in
    let size : length (c1 ++ (c2 ++ c3)) ≡ 27 = length-append c1 (c2 ++ c3) ∙ omega (arith, l1, l2, l3, length-append c2 c3) in
    let s : Spaced m3 rest = list_spaced _ _ user_codes [] user.0 m3 m4 rest s4 aligned' (λ w. subst (λ (x : List ℕ). Spaced x rest) (sym f) (later (subst (λ (x : List ℕ). length x % 8 ≡ 0) f w))) in
    spaced-group bits m1 (c1 ++ (c2 ++ c3)) m2 m3 rest zeros (subst (λ (b : ℕ). IsFirstCode bits b m1) same code) all size (pad ∙ ap (λ (n : ℕ). replicate n 0 ++ m3) five) s

sequence_spaced : (before : Option SeqState) (found : SeqState) (bits middle rest : List ℕ) → (sequence_headers before).Spells found bits middle → length bits % 8 ≡ 0
    → (length middle % 8 ≡ 0 → Spaced middle rest) → Spaced bits rest
sequence_spaced before found bits middle rest (b1, m1, s1, (seq, m2, s2, (z1, m3, s3, (b2, m4, s4, (id, m5, s5, (progressive, m6, s6, (z2, m7, s7, (extra, m8, s8, (e, f))))))))) whole later =
    let (code, zeros, aligned, is) = first-code BadHeader (λ b. b == SEQUENCE_HEADER) b1 bits m1 s1 whole in
    let (p, pad, aligned3, count) = padding BadHeader z1 m2 m3 s3 in
    let (code', zeros', aligned4, is') = first-code NotMpeg2 (λ b. b == EXTENSION) b2 m3 m4 s4 aligned3 in
    let (q, pad', aligned7, count') = padding BadHeader z2 m6 m7 s7 in
    let s : Spaced m7 rest = list_spaced _ _ extension_codes [] extra.0 m7 m8 rest s8 aligned7 (λ w. subst (λ (x : List ℕ). Spaced x rest) (sym f)
    (later (subst (λ (x : List ℕ). length x % 8 ≡ 0) f w))) in
    let (g, split, short, le) = (short-sequence_header before).runs seq m1 m2 s2 in
    let (g', split', short', le') = (short-sequence_extension before).runs progressive m4 m6 (id, m5, s5, s6) in
    let clear1 : IsClear m1 m3 = subst (λ (x : List ℕ). IsClear x m3) (sym (split ∙ ap (λ (x : List ℕ). g ++ x) pad)) (clear-short g p m3 short zeros') in
    let clear4 : IsClear m4 m7 = subst (λ (x : List ℕ). IsClear x m7) (sym (split' ∙ ap (λ (x : List ℕ). g' ++ x) pad')) (clear-short g' q m7 short' s.many) in
    let first = marked-as SEQUENCE_HEADER b1 is marked-sequence in
    let second = marked-as EXTENSION b2 is' marked-extension in
    spaced-behind bits m3 rest zeros (free-then bits m1 m3 (free-code b1 bits m1 code first.0 first.1) (free-clear m1 m3 clear1))
    (spaced-behind m3 m7 rest zeros' (free-then m3 m4 m7 (free-code b2 m3 m4 code' second.0 second.1) (free-clear m4 m7 clear4)) s)

part_spaced : (before : Option SeqState) (found : SeqState) (bits middle rest : List ℕ) → (sequence_part before).Spells found bits middle → length bits % 8 ≡ 0
    → (length middle % 8 ≡ 0 → Spaced middle rest) → Spaced bits rest
part_spaced None found bits middle rest s whole later = sequence_spaced None found bits middle rest s whole later
part_spaced (Some state) found bits middle rest (inl (c, s)) whole later = sequence_spaced (Some state) found bits middle rest s whole later
part_spaced (Some state) found bits middle rest (inr (c, (e, f))) whole later = subst (λ (x : List ℕ). Spaced x rest) (sym f) (later (subst (λ (x : List ℕ). length x % 8 ≡ 0) f whole))

picture_spaced : (byte : ℕ) (bits rest : List ℕ) → (start_code BadHeader (λ b. b == PICTURE)).Spells byte bits rest → length bits % 8 ≡ 0 → Spaced bits rest
picture_spaced byte bits rest s whole =
    let (code, zeros, aligned, is_picture) = first-code BadHeader (λ b. b == PICTURE) byte bits rest s whole in
    let same : byte ≡ PICTURE = eqb-true byte PICTURE is_picture in
    let split : bits ≡ code.front ++ (start_code_bits PICTURE ++ rest) =
    code.split ∙ append_assoc code.front (start_code_bits byte) rest ∙ ap (λ (b : ℕ). code.front ++ (start_code_bits b ++ rest)) same in
    let sizes : length bits ≡ length code.front + 32 + length rest =
    ap length split ∙ length-append code.front (start_code_bits PICTURE ++ rest) ∙ omega (arith, length-append (start_code_bits PICTURE) rest, code-size PICTURE) in
    record {
      front = code.front;
      split = split;
      apart = λ before after e w less.
          let le = code.first before (bits_of 8 GROUP ++ after) (e ∙ as-prefix before after) (omega (arith, w, length-append (bits_of 8 GROUP) after, length-bits_of 8 GROUP)) in
          absurd (omega (arith, less, le, sizes, ap length e, group-size before after));
      many = zeros;
      whole = aligned;
    }

-- the parts before a picture header, and its start code
pub head-spaced : (before : Option SeqState) (seq : SeqState) (group : Unit {0}) (byte : ℕ) (bits m1 m2 rest : List ℕ) → (sequence_part before).Spells seq bits m1 → group_part.Spells group m1 m2
    → (start_code BadHeader (λ b. b == PICTURE)).Spells byte m2 rest → length bits % 8 ≡ 0 → Spaced bits rest
head-spaced before seq group byte bits m1 m2 rest s1 s2 s3 whole =
    part_spaced before seq bits m1 rest s1 whole (λ w1. group_spaced group m1 m2 rest s2 w1 (λ w2. picture_spaced byte m2 rest s3 w2))
