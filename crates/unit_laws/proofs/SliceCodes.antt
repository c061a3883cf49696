-- The start codes of a unit behind its head: those of its slices, and the sequence end code.
use Rattle.std.proofs.Common.{
  ◌≡◌,
  ◌⊎◌,
  ◌==◌,
  ◌||◌,
  ◌&&◌,
  ◌+◌,
  ◌-◌,
  ◌*◌,
  ◌%◌,
  ◌^◌,
  ◌<◌,
  ◌≤◌,
  ℕ,
  zero,
  suc,
  List,
  [],
  ◌∷◌,
  ◌++◌,
  length,
  replicate,
  take,
  Option,
  Bool,
  true,
  false,
  nat_eq,
  refl,
  sym,
  ap,
  ap₂,
  subst,
  ◌∙◌,
  inl,
  inr,
  arith,
  append_assoc,
  append-nil,
}
use Rattle.std.proofs.lemmas.Bool.{and_parts, cases_lt, eqb-true}
use Rattle.std.proofs.lemmas.List.{length-append, length-replicate, nil_from_length, replicate-append-replicate, take_at}
use Rattle.bit_lists.specs.Bits.{IsPrefix, bits_of}
use Rattle.bit_lists.proofs.BitLemmas.{length-bits_of, bits_of-one}
use Rattle.bit_lists.proofs.JoinedLemmas.{bits_of-zero}
use Rattle.syntax_types.specs.declared.picture.PicCoding.{PicCoding}
use Rattle.syntax_types.specs.declared.picture.SeqState.{SeqState}
use Rattle.syntax_types.specs.declared.slice.Slice.{Slice}
use Rattle.stream_constants.specs.declared.start_codes.TheConstants.{FIRST_SLICE, SEQUENCE_END}
use Rattle.picture_grammar.specs.Refusal.Refusal.{BadHeader}
use Rattle.picture_grammar.specs.Grammar.{Grammar, done, ◌>>=◌, ◌>>◌, if_next, optional, SpellsList, Next}
use Rattle.picture_grammar.specs.Grammar.Next.{more, last}
use Rattle.picture_grammar.specs.StartCode.{start_code_prefix, start_code_bits, start_code, only_zero_bytes, zero_bits, zero_byte}
use Rattle.stream_constants.specs.SliceCodes.{is_slice}
use Rattle.picture_grammar.specs.Slice.{slice}
use Rattle.picture_grammar.specs.Picture.{whole_slice, slice_or_end, next_slice, IsCoding}
use Rattle.picture_grammar.proofs.MacroblockLaws.{exact-slice}
use Rattle.picture_laws.proofs.StartCodes.{zeros_before, zeros_before-one, opened-zeros, parted, end-zeros, code-taken, more_zeros}
use Rattle.picture_laws.proofs.Tested.{prefix-zeros}
use Rattle.picture_laws.proofs.WrittenPicture.{code_bounds, code_other}
use Rattle.picture_laws.proofs.WrittenSlice.{macroblocks-of_slice}
use Rattle.picture_laws.proofs.ShortSlices.{no-code-in-slice}
use Rattle.picture_laws.proofs.Totality.{next_zero}
use Rattle.picture_heads.proofs.LeadingCodes.{prefix-run}

-- the value of a slice's start code, or the sequence end code's
abbrev pub is_slice_or_end : ℕ → Bool
is_slice_or_end byte = is_slice byte || byte == SEQUENCE_END

-- behind a prefix the last byte of such a start code follows
pub record IsOwnCode (after : List ℕ) : Type 0 where
  pub byte : ℕ
  pub rest : List ℕ
  pub fits : byte < 2 ^ 8
  pub is : is_slice_or_end byte ≡ true
  pub split : after ≡ bits_of 8 byte ++ rest

-- a prefix with these bits behind it stands at a whole byte of these bits
pub record PrefixStands (bits after : List ℕ) : Type 0 where
  pub front : List ℕ
  pub split : bits ≡ front ++ (start_code_prefix ++ after)
  pub whole : length front % 8 ≡ 0

-- ---- lists

-- a front that isn't longer than another one
behind_front : (f m before rest : List ℕ) → f ++ m ≡ before ++ rest → length f ≤ length before → (k : List ℕ) × (before ≡ f ++ k) × (m ≡ k ++ rest)
behind_front f m before rest e le = by_parts (parted f m before rest e)
  where
    by_parts : ((k : List ℕ) × (before ≡ f ++ k) × (m ≡ k ++ rest)) ⊎ ((k : List ℕ) × (f ≡ before ++ k) × (rest ≡ k ++ m)) → (k : List ℕ) × (before ≡ f ++ k) × (m ≡ k ++ rest)
    by_parts (inl found) = found
    by_parts (inr (k, p, q)) =
        let none : k ≡ [] = nil_from_length k (omega (arith, le, ap length p, length-append before k)) in
        ([], sym (append-nil before) ∙ ap (λ (x : List ℕ). before ++ x) (sym none) ∙ sym p ∙ sym (append-nil f), sym (q ∙ ap (λ (x : List ℕ). x ++ m) none))

-- ---- one start code

length-prefix : length start_code_prefix ≡ 24
length-prefix = length-bits_of 24 1

length-code : (byte : ℕ) → length (start_code_bits byte) ≡ 32
length-code byte = length-append start_code_prefix (bits_of 8 byte) ∙ ap₂ (λ (a b : ℕ). a + b) length-prefix (length-bits_of 8 byte)

code-run : (byte : ℕ) → start_code_bits byte ≡ replicate 23 0 ++ 1 ∷ bits_of 8 byte
code-run byte = ap (λ (x : List ℕ). x ++ bits_of 8 byte) prefix-zeros ∙ append_assoc (replicate 23 0) (1 ∷ []) (bits_of 8 byte)

-- no prefix begins with the last byte of a start code, which isn't 0
not_last : (byte : ℕ) (m after : List ℕ) → 1 ≤ byte → byte < 2 ^ 8 → start_code_prefix ++ after ≡ bits_of 8 byte ++ m → ⊥
not_last byte m after some fits e =
    let zeros : replicate 8 0 ++ (replicate 15 0 ++ 1 ∷ after) ≡ bits_of 8 byte ++ m =
    sym (ap (λ (x : List ℕ). x ++ after) prefix-zeros ∙ append_assoc (replicate 23 0) (1 ∷ []) after ∙ ap (λ (x : List ℕ). x ++ 1 ∷ after) (sym (replicate-append-replicate 8 15 0))
    ∙ append_assoc (replicate 8 0) (replicate 15 0) (1 ∷ after)) ∙ e in
    let eight : replicate 8 0 ≡ bits_of 8 byte =
    sym (take_at (replicate 8 0) (replicate 15 0 ++ 1 ∷ after) 8 (length-replicate {A = ℕ} 8 0)) ∙ ap (take 8) zeros ∙ take_at (bits_of 8 byte) m 8 (length-bits_of 8 byte) in
    let same : byte ≡ 0 = bits_of-one 8 byte 0 fits (omega arith) (sym eight ∙ sym (bits_of-zero 8)) in
    omega (arith, some, same)

-- nor with other bits of one, at a whole byte behind its first
not_inside : (byte : ℕ) (m after k j : List ℕ) → 1 ≤ byte → byte < 2 ^ 8 → 8 ≤ length k → length k % 8 ≡ 0 → start_code_bits byte ≡ k ++ j → start_code_prefix ++ after ≡ j ++ m → 1 ≤ length j → ⊥
not_inside byte m after k j some fits low whole split e there = by_place (cases_lt (length k) 24) (parted (replicate 23 0 ++ 1 ∷ []) (bits_of 8 byte) k j opening)
  where
    opening : (replicate 23 0 ++ 1 ∷ []) ++ bits_of 8 byte ≡ k ++ j
    opening = append_assoc (replicate 23 0) (1 ∷ []) (bits_of 8 byte) ∙ sym (code-run byte) ∙ split

    size : length (replicate {A = ℕ} 23 0 ++ 1 ∷ []) ≡ 24
    size = length-append {A = ℕ} (replicate 23 0) (1 ∷ []) ∙ ap (λ (n : ℕ). n + 1) (length-replicate {A = ℕ} 23 0)

    sizes : length k + length j ≡ 32
    sizes = sym (length-append k j) ∙ ap length (sym split) ∙ length-code byte

    -- within the prefix fewer zeros stand before its one
    early : length k < 24 → (i : List ℕ) → replicate 23 0 ≡ k ++ i → j ≡ i ++ (1 ∷ bits_of 8 byte) → ⊥
    early lt i p q =
        let zeros : i ≡ replicate (length i) 0 = end-zeros 23 k i p in
        let count : length k + length i ≡ 23 = sym (length-append k i) ∙ ap length (sym p) ∙ length-replicate {A = ℕ} 23 0 in
        let run : zeros_before (j ++ m) ≡ length i =
        ap (λ (x : List ℕ). zeros_before (x ++ m)) (q ∙ ap (λ (x : List ℕ). x ++ (1 ∷ bits_of 8 byte)) zeros)
        ∙ ap zeros_before (append_assoc (replicate (length i) 0) (1 ∷ bits_of 8 byte) m) ∙ zeros_before-one (length i) (bits_of 8 byte ++ m) in
        omega (arith, low, count, run, prefix-run after, ap zeros_before e)

    by_place : (length k < 24) ⊎ (24 ≤ length k) → ((i : List ℕ) × (k ≡ (replicate 23 0 ++ 1 ∷ []) ++ i) × (bits_of 8 byte ≡ i ++ j))
        ⊎ ((i : List ℕ) × (replicate 23 0 ++ 1 ∷ [] ≡ k ++ i) × (j ≡ i ++ bits_of 8 byte)) → ⊥
    by_place (inl lt) found =
        let (i, p, q) = behind_front k j (replicate 23 0) (1 ∷ bits_of 8 byte) (sym split ∙ code-run byte) (omega (arith, lt, length-replicate {A = ℕ} 23 0)) in
        early lt i p q
    by_place (inr le) (inl (i, p, q)) =
        let count : length k ≡ 24 + length i = ap length p ∙ length-append (replicate 23 0 ++ 1 ∷ []) i ∙ ap (λ (n : ℕ). n + length i) size in
        let none : i ≡ [] = nil_from_length i (omega (arith, whole, count, sizes, there)) in
        not_last byte m after some fits (e ∙ ap (λ (x : List ℕ). x ++ m) (sym (q ∙ ap (λ (x : List ℕ). x ++ j) none)))
    by_place (inr le) (inr (i, p, q)) =
        let count : 24 ≡ length k + length i = sym size ∙ ap length p ∙ length-append k i in
        let none : i ≡ [] = nil_from_length i (omega (arith, le, count)) in
        not_last byte m after some fits (e ∙ ap (λ (x : List ℕ). x ++ m) (q ∙ ap (λ (x : List ℕ). x ++ bits_of 8 byte) none))

-- A prefix at a whole byte of bits that begin with zero bytes and a start code is that code's, or stands behind it.
pub one_code : (n byte : ℕ) (bits m after : List ℕ) → 1 ≤ byte → byte < 2 ^ 8 → bits ≡ replicate (8 * n) 0 ++ (start_code_bits byte ++ m) → PrefixStands bits after
    → (after ≡ bits_of 8 byte ++ m) ⊎ PrefixStands m after
one_code n byte bits m after some fits split there = by_parts (parted (replicate (8 * n) 0) (start_code_bits byte ++ m) there.front (start_code_prefix ++ after) (sym split ∙ there.split))
  where
    zeros : ℕ
    zeros = 8 * n

    length-zeros : length (replicate {A = ℕ} (8 * n) 0) ≡ 8 * n
    length-zeros = length-replicate {A = ℕ} (8 * n) 0

    -- at the code itself
    here : start_code_bits byte ++ m ≡ start_code_prefix ++ after → after ≡ bits_of 8 byte ++ m
    here e =
        let (k, p, q) = behind_front start_code_prefix (bits_of 8 byte ++ m) start_code_prefix after (sym (append_assoc start_code_prefix (bits_of 8 byte) m) ∙ e) (omega arith) in
        let none : k ≡ [] = nil_from_length k (omega (arith, ap length p, length-append start_code_prefix k)) in
        sym (q ∙ ap (λ (x : List ℕ). x ++ after) none)

    behind : (k : List ℕ) → length k % 8 ≡ 0 → start_code_bits byte ++ m ≡ k ++ (start_code_prefix ++ after) → 8 ≤ length k
        → ((j : List ℕ) × (k ≡ start_code_bits byte ++ j) × (m ≡ j ++ (start_code_prefix ++ after)))
        ⊎ ((j : List ℕ) × (start_code_bits byte ≡ k ++ j) × (start_code_prefix ++ after ≡ j ++ m)) → PrefixStands m after
    behind k whole e low (inl (j, p, q)) =
        record { front = j; split = q; whole = omega (arith, whole, ap length p, length-append (start_code_bits byte) j, length-code byte) }
    behind k whole e low (inr ([], p, q)) = record { front = []; split = sym q; whole = refl }
    behind k whole e low (inr (x ∷ j, p, q)) = absurd (not_inside byte m after k (x ∷ j) some fits low whole p q (omega arith))

    by_front : (k : List ℕ) → there.front ≡ replicate (8 * n) 0 ++ k → start_code_bits byte ++ m ≡ k ++ (start_code_prefix ++ after) → (after ≡ bits_of 8 byte ++ m) ⊎ PrefixStands m after
    by_front [] p e = inl (here e)
    by_front (x ∷ k) p e =
        let whole : length (x ∷ k) % 8 ≡ 0 = omega (arith, there.whole, ap length p, length-append (replicate (8 * n) 0) (x ∷ k), length-zeros) in
        inr (behind (x ∷ k) whole e (omega (arith, whole)) (parted (start_code_bits byte) m (x ∷ k) (start_code_prefix ++ after) e))

    by_parts : ((k : List ℕ) × (there.front ≡ replicate (8 * n) 0 ++ k) × (start_code_bits byte ++ m ≡ k ++ (start_code_prefix ++ after)))
        ⊎ ((k : List ℕ) × (replicate (8 * n) 0 ≡ there.front ++ k) × (start_code_prefix ++ after ≡ k ++ (start_code_bits byte ++ m))) → (after ≡ bits_of 8 byte ++ m) ⊎ PrefixStands m after
    by_parts (inl (k, p, q)) = by_front k p q
    by_parts (inr (k, p, q)) =
        let run : zeros_before (k ++ (start_code_bits byte ++ m)) ≡ length k + 23 =
        ap (λ (x : List ℕ). zeros_before (x ++ (start_code_bits byte ++ m))) (end-zeros (8 * n) there.front k p) ∙ opened-zeros (length k) byte m in
        let none : k ≡ [] = nil_from_length k (omega (arith, run, prefix-run after, ap zeros_before q)) in
        inl (here (sym (q ∙ ap (λ (x : List ℕ). x ++ (start_code_bits byte ++ m)) none)))

-- in zeros no prefix stands
pub no_prefix : (n : ℕ) (bits after : List ℕ) → bits ≡ replicate n 0 → PrefixStands bits after → ⊥
no_prefix n bits after zeros there =
    let end : start_code_prefix ++ after ≡ replicate (length (start_code_prefix ++ after)) 0 = end-zeros n there.front (start_code_prefix ++ after) (sym zeros ∙ there.split) in
    let run = zeros-all (length (start_code_prefix ++ after)) in
    omega (arith, prefix-run after, ap zeros_before end, run, length-append start_code_prefix after, length-prefix)
  where
    zeros-all : (n : ℕ) → zeros_before (replicate n 0) ≡ n
    zeros-all zero = refl
    zeros-all (suc n) = ap suc (zeros-all n)

-- ---- zero bits and bytes

-- zero bits to a whole byte are zeros, and whole bytes follow
padding : (number : ℕ) (bits rest : List ℕ) → (zero_bits BadHeader).Spells number bits rest → (bits ≡ replicate (length bits % 8) 0 ++ rest) × (length rest % 8 ≡ 0)
padding number bits rest (code, (fits, is), passing, split) =
    let none : number ≡ 0 = eqb-true number 0 (and_parts (nat_eq number 0) true passing).0 in
    let zeros : code ≡ replicate (length bits % 8) 0 = is ∙ ap (bits_of (length bits % 8)) none ∙ bits_of-zero (length bits % 8) in
    let all : bits ≡ replicate (length bits % 8) 0 ++ rest = split ∙ ap (λ (x : List ℕ). x ++ rest) zeros in
    let count : length bits ≡ length bits % 8 + length rest =
    ap length all ∙ length-append (replicate (length bits % 8) 0) rest ∙ ap (λ (k : ℕ). k + length rest) (length-replicate {A = ℕ} (length bits % 8) 0) in
    (all, omega (arith, count))

both_ways : (b : Bool) → b ≡ false → b && true ≡ true → ⊥
both_ways true e p = cc
both_ways false e p = cc

zero-bytes : (before values bits rest : List ℕ) → SpellsList next_zero before values tt bits rest → bits ≡ replicate (8 * length values) 0
zero-bytes before [] bits rest (inl (none, (e, f))) = none
zero-bytes before [] bits rest (inr (some, inl (c, (byte, m, (zeros, m', s, (code, coded, passing, split)), t)))) = absurd (both_ways false refl passing)
zero-bytes before [] bits rest (inr (some, inr (c, (byte, m, s, (e, f))))) = absurd (let e' : last tt ≡ more byte = e in cc)
zero-bytes before (v ∷ vs) bits rest (middle, inl (none, (e, f)), t) = absurd (let e' : more v ≡ last tt = e in cc)
zero-bytes before (v ∷ vs) bits rest (middle, inr (some, inl (c, (byte, m, (zeros, m', s, (code, coded, passing, split)), u))), t) = absurd (both_ways false refl passing)
zero-bytes before (v ∷ vs) bits rest (middle, inr (some, inr (c, (byte, m, (code, (fits, is), passing, split), (e, f)))), t) =
    let none : byte ≡ 0 = eqb-true byte 0 (and_parts (nat_eq byte 0) true passing).0 in
    let zeros : code ≡ replicate 8 0 = is ∙ ap (bits_of 8) none ∙ bits_of-zero 8 in
    split ∙ ap₂ (λ (a b : List ℕ). a ++ b) zeros (f ∙ zero-bytes (before ++ v ∷ []) vs middle rest t) ∙ sym (more_zeros (length vs))

-- ---- the parts behind a head

-- one slice more: zero bytes, its start code, the slice and the zero bits that close it
pub record OneSlice (seq : SeqState) (coding : PicCoding) (s : Slice) (bits rest : List ℕ) : Type 0 where
  pub zeros : ℕ
  pub byte : ℕ
  pub behind : List ℕ
  pub fits : byte < 2 ^ 8
  pub is : is_slice byte ≡ true
  pub row : byte ≡ s.row + FIRST_SLICE
  pub split : bits ≡ replicate (8 * zeros) 0 ++ (start_code_bits byte ++ behind)
  pub whole : (whole_slice seq coding byte).Spells s behind rest

-- zero bytes, and the sequence end code among them where it stands
pub data AtEnd (end : Bool) (bits : List ℕ) : Type 0 where
  only_zeros : end ≡ false → bits ≡ replicate (length bits) 0 → AtEnd end bits
  end_code : (zeros filling : ℕ) → end ≡ true → bits ≡ replicate (8 * zeros) 0 ++ (start_code_bits SEQUENCE_END ++ replicate (8 * filling) 0) → AtEnd end bits

module _ (seq : SeqState) (coding : PicCoding) where
  made_slice : (n byte : ℕ) (s : Slice) (bits m rest : List ℕ) → is_slice byte ≡ true → byte < 2 ^ 8 → bits ≡ replicate (8 * n) 0 ++ (start_code_bits byte ++ m)
      → (whole_slice seq coding byte).Spells s m rest → OneSlice seq coding s bits rest
  made_slice n byte s bits m rest is fits split (s', m', t, (number, m'', u, (e, f))) =
      let (row, has) = macroblocks-of_slice seq coding (byte - 1) s' m m' t in
      let bounds = code_bounds byte is in record {
        zeros = n;
        byte = byte;
        behind = m;
        fits = fits;
        is = is;
        row = (let same : s.row ≡ s'.row = ap (λ (x : Slice). x.row) e in omega (arith, same, row, bounds.0));
        split = split;
        whole = (s', m', t, (number, m'', u, (e, f)));
      }

  pub one_slice : (before : List Slice) (s : Slice) (bits rest : List ℕ) → (next_slice seq coding before).Spells (more s) bits rest → OneSlice seq coding s bits rest
  one_slice [] s bits rest (byte, m, code, (s', m', t, (e, f))) =
      let (n, split, fits, is) = code-taken BadHeader is_slice byte bits m code in
      let same : s ≡ s' = cc in
      subst (λ (x : Slice). OneSlice seq coding x bits rest) (sym same) (subst (OneSlice seq coding s' bits) f (made_slice n byte s' bits m m' is fits split t))
  one_slice (b ∷ bs) s bits rest (inl (c, (zeros, m, t, (e, f)))) = absurd (let e' : more s ≡ last false = e in cc)
  one_slice (b ∷ bs) s bits rest (inr (c, (byte, m, code, (item, m', t, (filling, m'', u, (e, f)))))) =
      let (n, split, fits, may) = code-taken BadHeader is_slice_or_end byte bits m code in
      by_code (is_slice byte) refl n split fits item m' t filling u e where
        by_code : (is : Bool) → is_slice byte ≡ is → (n : ℕ) → bits ≡ replicate (8 * n) 0 ++ (start_code_bits byte ++ m) → byte < 2 ^ 8 → (item : Option Slice) (m' : List ℕ)
            → (optional is (whole_slice seq coding byte)).Spells item m m' → (filling : Option (List ℕ × Unit {0}))
            → (optional (byte == SEQUENCE_END) only_zero_bytes).Spells filling m' m'' → more s ≡ slice_or_end item → OneSlice seq coding s bits rest
        by_code true is n split fits item m' (s', m2, t, (d, d')) filling u e =
            let same : s ≡ s' = (let e' : more s ≡ more s' = e ∙ ap slice_or_end d in cc) in
            let none = subst (λ (c : Bool). (optional c only_zero_bytes).Spells filling m' m'') (code_other byte is) u in
            let reached : m2 ≡ rest = d' ∙ none.1 ∙ f in
            subst (λ (x : Slice). OneSlice seq coding x bits rest) (sym same) (subst (OneSlice seq coding s' bits) reached (made_slice n byte s' bits m m2 is fits split t))
        by_code false is n split fits item m' (d, d') filling u e = absurd (let e' : more s ≡ last true = e ∙ ap slice_or_end d in cc)

  pub at_end : (before : List Slice) (end : Bool) (bits rest : List ℕ) → (next_slice seq coding before).Spells (last end) bits rest → AtEnd end bits
  at_end [] end bits rest (byte, m, code, (s', m', t, (e, f))) = absurd (let e' : last end ≡ more s' = e in cc)
  at_end (b ∷ bs) end bits rest (inl (zeros, (filling, m, t, (e, f)))) = only_zeros (let e' : last end ≡ last false = e in cc) zeros
  at_end (b ∷ bs) end bits rest (inr (c, (byte, m, code, (item, m', t, (filling, m'', u, (e, f)))))) =
      let (n, split, fits, may) = code-taken BadHeader is_slice_or_end byte bits m code in
      by_code (is_slice byte) (byte == SEQUENCE_END) refl refl n split may item m' t filling u e where
        by_code : (is is_end : Bool) → is_slice byte ≡ is → (byte == SEQUENCE_END) ≡ is_end → (n : ℕ) → bits ≡ replicate (8 * n) 0 ++ (start_code_bits byte ++ m)
            → is_slice_or_end byte ≡ true → (item : Option Slice) (m' : List ℕ) → (optional is (whole_slice seq coding byte)).Spells item m m' → (filling : Option (List ℕ × Unit {0}))
            → (optional is_end only_zero_bytes).Spells filling m' m'' → last end ≡ slice_or_end item → AtEnd end bits
        by_code true is_end is ends n split may item m' (s', m2, t, (d, d')) filling u e = absurd (let e' : last end ≡ more s' = e ∙ ap slice_or_end d in cc)
        by_code false false is ends n split may item m' t filling u e =
            absurd (let none : is_slice_or_end byte ≡ false = rw (is, ends) refl in let both : true ≡ false = sym may ∙ none in cc)
        by_code false true is ends n split may item m' (d, d') filling (zeros, m3, u, (g, h)) e =
            let all : m ≡ replicate (8 * length zeros.0) 0 = d' ∙ zero-bytes [] zeros.0 m' m3 u in
            let there : bits ≡ replicate (8 * n) 0 ++ (start_code_bits SEQUENCE_END ++ replicate (8 * length zeros.0) 0) =
            split ∙ ap₂ (λ (b : ℕ) (x : List ℕ). replicate (8 * n) 0 ++ (start_code_bits b ++ x)) (eqb-true byte SEQUENCE_END ends) all in
            end_code n (length zeros.0) (let e' : last end ≡ last true = e ∙ ap slice_or_end d in cc) there

-- ---- prefixes behind a head

-- where a prefix stands at a whole byte of a slice with what stands before it: at its start code, or behind the slice and the zero bits that close it
pub slice_prefix : (seq : SeqState) (coding : PicCoding) (s : Slice) (bits rest after : List ℕ) → IsCoding coding → (is : OneSlice seq coding s bits rest) → length bits % 8 ≡ 0
    → PrefixStands bits after → (after ≡ bits_of 8 is.byte ++ is.behind) ⊎ PrefixStands rest after
slice_prefix seq coding s bits rest after coded is whole there = by_code (one_code is.zeros is.byte bits is.behind after (code_bounds is.byte is.is).0 is.fits is.split there)
  where
    sizes : length bits ≡ 8 * is.zeros + (32 + length is.behind)
    sizes =
        ap length is.split ∙ length-append (replicate (8 * is.zeros) 0) (start_code_bits is.byte ++ is.behind)
        ∙ ap₂ (λ (a b : ℕ). a + b) (length-replicate {A = ℕ} (8 * is.zeros) 0)
        (length-append (start_code_bits is.byte) is.behind ∙ ap (λ (k : ℕ). k + length is.behind) (length-code is.byte))

    -- in a slice and the zero bits that close it no prefix stands at a whole byte
    behind_slice : (whole_slice seq coding is.byte).Spells s is.behind rest → PrefixStands is.behind after → PrefixStands rest after
    behind_slice (s', m', t, (number, m'', u, (e, f))) there =
        let m : List ℕ = is.behind in
        let (inner, parts) = (exact-slice seq coding (is.byte - 1)).spelled_front s' m m' t in
        let spelled = subst (λ (b : List ℕ). (slice seq coding (is.byte - 1)).Spells s' b m') parts t in
        let split : inner ++ m' ≡ there.front ++ start_code_prefix ++ after = sym parts ∙ there.split ∙ sym (append_assoc there.front start_code_prefix after) in
        let most = no-code-in-slice seq coding (is.byte - 1) s' inner m' there.front after coded spelled split in
        let (g, p, q) = behind_front inner m' there.front (start_code_prefix ++ after) (sym parts ∙ there.split) most in
        let (pad, aligned) = padding number m' m'' u in
        let zeros : List ℕ = replicate (length m' % 8) 0 in
        let count : length zeros ≡ length m' % 8 = length-replicate {A = ℕ} (length m' % 8) 0 in
        let inside : length m ≡ length inner + length m' = ap length parts ∙ length-append inner m' in
        let fronts : length there.front ≡ length inner + length g = ap length p ∙ length-append inner g in
        let (h, p', q') = behind_front zeros m'' g (start_code_prefix ++ after) (sym pad ∙ q) (omega (arith, count, inside, fronts, whole, sizes, there.whole)) in
        record {
          front = h;
          split = sym f ∙ q';
          whole = omega (arith, count, inside, fronts, whole, sizes, there.whole, ap length p', length-append zeros h);
        }

    by_code : (after ≡ bits_of 8 is.byte ++ is.behind) ⊎ PrefixStands is.behind after → (after ≡ bits_of 8 is.byte ++ is.behind) ⊎ PrefixStands rest after
    by_code (inl own) = inl own
    by_code (inr later) = inr (behind_slice is.whole later)

-- behind the slice whole bytes follow, in its bits
pub slice_ends : (seq : SeqState) (coding : PicCoding) (s : Slice) (bits rest : List ℕ) → (is : OneSlice seq coding s bits rest)
    → (length rest % 8 ≡ 0) × ((front : List ℕ) × (is.behind ≡ front ++ rest))
slice_ends seq coding s bits rest is = ends is.whole
  where
    ends : (whole_slice seq coding is.byte).Spells s is.behind rest → (length rest % 8 ≡ 0) × ((front : List ℕ) × (is.behind ≡ front ++ rest))
    ends (s', m', t, (number, m'', u, (e, f))) =
        let (inner, parts) = (exact-slice seq coding (is.byte - 1)).spelled_front s' is.behind m' t in
        let (pad, aligned) = padding number m' m'' u in
        let zeros : List ℕ = replicate (length m' % 8) 0 in (
          subst (λ (b : List ℕ). length b % 8 ≡ 0) f aligned,
          (inner ++ zeros, parts ∙ ap (λ (x : List ℕ). inner ++ x) (pad ∙ ap (λ (x : List ℕ). zeros ++ x) f) ∙ sym (append_assoc inner zeros rest)),
        )

-- at the end only the sequence end code has a prefix
end_prefix : (end : Bool) (bits after : List ℕ) → AtEnd end bits → PrefixStands bits after → IsOwnCode after
end_prefix end bits after (only_zeros none zeros) there = absurd (no_prefix (length bits) bits after zeros there)
end_prefix end bits after (end_code zeros filling is split) there = elim (one_code zeros SEQUENCE_END bits (replicate (8 * filling) 0) after (omega arith) (omega arith) split there) [
  | inl own ↦ record { byte = SEQUENCE_END; rest = replicate (8 * filling) 0; fits = omega arith; is = refl; split = own }
  | inr later ↦ absurd (no_prefix (8 * filling) (replicate (8 * filling) 0) after refl later)
]

slice_is_own : (byte : ℕ) → is_slice byte ≡ true → is_slice_or_end byte ≡ true
slice_is_own byte is = rw is refl

-- each prefix at a whole byte is a slice's, or the sequence end code's
pub list_codes : (seq : SeqState) (coding : PicCoding) → IsCoding coding → (before values : List Slice) (end : Bool) (bits rest after : List ℕ)
    → SpellsList (next_slice seq coding) before values end bits rest → length bits % 8 ≡ 0 → PrefixStands bits after → IsOwnCode after
list_codes seq coding coded before [] end bits rest after t whole there =
    end_prefix end bits after (at_end seq coding before end bits rest t) there
list_codes seq coding coded before (v ∷ vs) end bits rest after (mid, t, u) whole there =
    let is = one_slice seq coding before v bits mid t in elim (slice_prefix seq coding v bits mid after coded is whole there) [
      | inl own ↦ record { byte = is.byte; rest = is.behind; fits = is.fits; is = slice_is_own is.byte is.is; split = own }
      | inr later ↦ list_codes seq coding coded (before ++ v ∷ []) vs end mid rest after u (slice_ends seq coding v bits mid is).0 later
    ]

-- there is a first slice
pub first_slice : (seq : SeqState) (coding : PicCoding) (values : List Slice) (end : Bool) (bits rest : List ℕ) → SpellsList (next_slice seq coding) [] values end bits rest
    → (s : Slice) × (mid : List ℕ) × OneSlice seq coding s bits mid
first_slice seq coding [] end bits rest (byte, m, code, (s', m', t, (e, f))) = absurd (let e' : last end ≡ more s' = e in cc)
first_slice seq coding (v ∷ vs) end bits rest (mid, t, u) = (v, mid, one_slice seq coding [] v bits mid t)
