-- Each slice stands in its unit.
use Rattle.std.proofs.Common.{
  ◌≡◌,
  ◌⊎◌,
  ◌==◌,
  ◌||◌,
  ◌+◌,
  ◌-◌,
  ◌*◌,
  ◌%◌,
  ◌<◌,
  ◌≤◌,
  ℕ,
  List,
  [],
  ◌∷◌,
  ◌++◌,
  length,
  replicate,
  Option,
  Bool,
  true,
  false,
  refl,
  sym,
  ap,
  ap₂,
  subst,
  ◌∙◌,
  inl,
  inr,
  arith,
  append_assoc,
  append-nil,
}
use Rattle.std.proofs.lemmas.Bool.{cases_lt}
use Rattle.std.proofs.lemmas.List.{length-append, length-replicate, nil_from_length}
use Rattle.bit_lists.specs.Fields.{bit_list}
use Rattle.bit_lists.proofs.ByteLemmas.{length-bit_list}
use Rattle.syntax_types.specs.declared.picture.PicCoding.{PicCoding}
use Rattle.syntax_types.specs.declared.picture.Picture.{Picture}
use Rattle.syntax_types.specs.declared.picture.SeqState.{SeqState}
use Rattle.syntax_types.specs.declared.slice.Slice.{Slice}
use Rattle.stream_constants.specs.declared.start_codes.TheConstants.{SEQUENCE_END}
use Rattle.picture_grammar.specs.Refusal.Refusal.{BadHeader}
use Rattle.picture_grammar.specs.Grammar.{optional, SpellsList}
use Rattle.picture_grammar.specs.Grammar.Next.{more, last}
use Rattle.picture_grammar.specs.StartCode.{start_code_prefix, start_code_bits, only_zero_bytes}
use Rattle.stream_constants.specs.SliceCodes.{is_slice}
use Rattle.picture_grammar.specs.Slice.{slice}
use Rattle.picture_grammar.specs.Picture.{whole_slice, slice_or_end, next_slice, picture_unit, IsCoding, SpellsPicture}
use Rattle.picture_grammar.proofs.MacroblockLaws.{exact-slice}
use Rattle.picture_grammar.proofs.HeaderLaws.{exact-next_slice}
use Rattle.picture_laws.specs.SliceStands.{SliceStands}
use Rattle.picture_laws.proofs.WholeBytes.{ends-zero_bits}
use Rattle.picture_laws.proofs.StartCodes.{code-taken, parted}
use Rattle.picture_laws.proofs.WrittenSlice.{macroblocks-of_slice}
use Rattle.picture_laws.proofs.WrittenPicture.{code_bounds, code_other}
use Rattle.picture_laws.proofs.Codings.{coding-of_unit}
use Rattle.picture_laws.proofs.ShortSlices.{no-code-in-slice}

-- a slice behind some bits and its start code
record StandsBehind (seq : SeqState) (coding : PicCoding) (s : Slice) (bits : List ℕ) : Type 0 where
  front : List ℕ
  inner : List ℕ
  rest : List ℕ
  aligned : length front % 8 ≡ 0
  split : bits ≡ front ++ (start_code_bits (s.row + 1) ++ (inner ++ rest))
  spelled : (slice seq coding s.row).Spells s (inner ++ rest) rest

module _ (seq : SeqState) (coding : PicCoding) where
  further : (s : Slice) (front bits : List ℕ) → length front % 8 ≡ 0 → StandsBehind seq coding s bits → StandsBehind seq coding s (front ++ bits)
  further s front bits whole stands = record {
    front = front ++ stands.front;
    inner = stands.inner;
    rest = stands.rest;
    aligned = omega (arith, whole, stands.aligned, length-append front stands.front);
    split = ap (λ (b : List ℕ). front ++ b) stands.split ∙ sym (append_assoc front stands.front (start_code_bits (s.row + 1) ++ (stands.inner ++ stands.rest)));
    spelled = stands.spelled;
  }

  -- a slice behind its start code, and how far it reaches
  whole_stands : (byte n : ℕ) (s : Slice) (bits m rest : List ℕ) → is_slice byte ≡ true → bits ≡ replicate (8 * n) 0 ++ (start_code_bits byte ++ m) → (whole_slice seq coding byte).Spells s m rest
      → StandsBehind seq coding s bits
  whole_stands byte n s bits m rest is split (s', m', t, (number, m'', u, (e, f))) =
      let (row, has) = macroblocks-of_slice seq coding (byte - 1) s' m m' t in
      let bounds = code_bounds byte is in
      let same : byte ≡ s'.row + 1 = omega (arith, row, bounds.0) in
      let (inner, parts) = (exact-slice seq coding (byte - 1)).spelled_front s' m m' t in
      let spelled = subst (λ (b : List ℕ). (slice seq coding s'.row).Spells s' b m') parts (subst (λ (r : ℕ). (slice seq coding r).Spells s' m m') (sym row) t) in
      subst (λ (x : Slice). StandsBehind seq coding x bits) (sym e) (record {
        front = replicate (8 * n) 0;
        inner = inner;
        rest = m';
        aligned = omega (arith, length-replicate {A = ℕ} (8 * n) 0);
        split = split ∙ ap₂ (λ (b : ℕ) (x : List ℕ). replicate (8 * n) 0 ++ (start_code_bits b ++ x)) same parts;
        spelled = spelled;
      })

  whole_ends : (byte : ℕ) (s : Slice) (m rest : List ℕ) → (whole_slice seq coding byte).Spells s m rest → length rest % 8 ≡ 0
  whole_ends byte s m rest (s', m', t, (number, m'', u, (e, f))) = subst (λ (b : List ℕ). length b % 8 ≡ 0) f ((ends-zero_bits BadHeader).whole number m' m'' u)

  one_stands : (before : List Slice) (s : Slice) (bits rest : List ℕ) → (next_slice seq coding before).Spells (more s) bits rest → StandsBehind seq coding s bits × (length rest % 8 ≡ 0)
  one_stands [] s bits rest (byte, m, code, (s', m', t, (e, f))) =
      let (n, split, fits, is) = code-taken BadHeader is_slice byte bits m code in
      let same : s ≡ s' = cc in
      (subst (λ (x : Slice). StandsBehind seq coding x bits) (sym same) (whole_stands byte n s' bits m m' is split t), subst (λ (b : List ℕ). length b % 8 ≡ 0) f (whole_ends byte s' m m' t))
  one_stands (b ∷ bs) s bits rest (inl (c, (zeros, m, t, (e, f)))) = absurd (let e' : more s ≡ last false = e in cc)
  one_stands (b ∷ bs) s bits rest (inr (c, (byte, m, code, (item, m', t, (filling, m'', u, (e, f)))))) =
      let (n, split, fits, may) = code-taken BadHeader (λ byte. is_slice byte || byte == SEQUENCE_END) byte bits m code in
      by_code (is_slice byte) (byte == SEQUENCE_END) refl refl n split item m' t filling u e where
        by_code : (is end : Bool) → is_slice byte ≡ is → (byte == SEQUENCE_END) ≡ end → (n : ℕ) → bits ≡ replicate (8 * n) 0 ++ (start_code_bits byte ++ m) → (item : Option Slice) (m' : List ℕ)
            → (optional is (whole_slice seq coding byte)).Spells item m m' → (filling : Option (List ℕ × Unit {0}))
            → (optional (byte == SEQUENCE_END) only_zero_bytes).Spells filling m' m'' → more s ≡ slice_or_end item
            → StandsBehind seq coding s bits × (length rest % 8 ≡ 0)
        by_code true end is ends n split item m' (s', m2, t, (d, d')) filling u e =
            let same : s ≡ s' = (let e' : more s ≡ more s' = e ∙ ap slice_or_end d in cc) in
            let none = subst (λ (c : Bool). (optional c only_zero_bytes).Spells filling m' m'') (code_other byte is) u in
            let reached : m2 ≡ rest = d' ∙ none.1 ∙ f in (
              subst (λ (x : Slice). StandsBehind seq coding x bits) (sym same) (whole_stands byte n s' bits m m2 is split t),
              subst (λ (b : List ℕ). length b % 8 ≡ 0) reached (whole_ends byte s' m m2 t),
            )
        by_code false end is ends n split item m' (d, d') filling u e = absurd (let e' : more s ≡ last true = e ∙ ap slice_or_end d in cc)

  list_stands : (before values : List Slice) (sequence_end : Bool) (bits rest : List ℕ) → SpellsList (next_slice seq coding) before values sequence_end bits rest → length bits % 8 ≡ 0
      → (earlier later : List Slice) (s : Slice) → values ≡ earlier ++ s ∷ later → StandsBehind seq coding s bits
  list_stands before [] sequence_end bits rest t whole [] later s e = absurd (let e' : [] ≡ s ∷ later = e in cc)
  list_stands before [] sequence_end bits rest t whole (x ∷ earlier) later s e = absurd (let e' : [] ≡ x ∷ (earlier ++ s ∷ later) = e in cc)
  list_stands before (v ∷ vs) sequence_end bits rest (mid, t, u) whole [] later s e =
      let same : v ≡ s = (let e' : v ∷ vs ≡ s ∷ later = e in cc) in
      subst (λ (x : Slice). StandsBehind seq coding x bits) same (one_stands before v bits mid t).0
  list_stands before (v ∷ vs) sequence_end bits rest (mid, t, u) whole (x ∷ earlier) later s e =
      let others : vs ≡ earlier ++ s ∷ later = (let e' : v ∷ vs ≡ x ∷ (earlier ++ s ∷ later) = e in cc) in
      let whole_mid = (one_stands before v bits mid t).1 in
      let (front, split) = (exact-next_slice seq coding before).spelled_front (more v) bits mid t in
      subst (StandsBehind seq coding s) (sym split)
      (further s front mid (omega (arith, whole, whole_mid, ap length split, length-append front mid)) (list_stands (before ++ v ∷ []) vs sequence_end mid rest u whole_mid earlier later s others))

  -- no start code prefix begins inside it
  without_code : (is : IsCoding coding) (s : Slice) (bits : List ℕ) (stands : StandsBehind seq coding s bits) (before after : List ℕ) → bits ≡ before ++ start_code_prefix ++ after
      → (length before < length (stands.front ++ start_code_bits (s.row + 1))) ⊎ (length (stands.front ++ start_code_bits (s.row + 1) ++ stands.inner) ≤ length before)
  without_code is s bits stands before after e = elim (cases_lt (length before) (length opening)) [
    | inl lt ↦ inl lt
    | inr le ↦ inr (behind le (parted opening (stands.inner ++ stands.rest) before (start_code_prefix ++ after) whole))
  ] where
    opening : List ℕ
    opening = stands.front ++ start_code_bits (s.row + 1)

    whole : opening ++ (stands.inner ++ stands.rest) ≡ before ++ (start_code_prefix ++ after)
    whole = append_assoc stands.front (start_code_bits (s.row + 1)) (stands.inner ++ stands.rest) ∙ sym stands.split ∙ e ∙ append_assoc before start_code_prefix after

    inside : (m : List ℕ) → before ≡ opening ++ m → stands.inner ++ stands.rest ≡ m ++ (start_code_prefix ++ after) → length (opening ++ stands.inner) ≤ length before
    inside m p q =
        let most = no-code-in-slice seq coding s.row s stands.inner stands.rest m after is stands.spelled (q ∙ sym (append_assoc m start_code_prefix after)) in
        omega (arith, most, ap length p, length-append opening m, length-append opening stands.inner)

    behind : length opening ≤ length before → ((m : List ℕ) × (before ≡ opening ++ m) × (stands.inner ++ stands.rest ≡ m ++ (start_code_prefix ++ after)))
        ⊎ ((m : List ℕ) × (opening ≡ before ++ m) × (start_code_prefix ++ after ≡ m ++ (stands.inner ++ stands.rest))) → length (opening ++ stands.inner) ≤ length before
    behind le (inl (m, p, q)) = inside m p q
    behind le (inr (m, p, q)) =
        let empty = nil_from_length m (omega (arith, le, ap length p, length-append before m)) in
        inside [] (sym (append-nil before) ∙ ap (λ (x : List ℕ). before ++ x) (sym empty) ∙ sym p ∙ sym (append-nil opening)) (sym (q ∙ ap (λ (x : List ℕ). x ++ (stands.inner ++ stands.rest)) empty))

pub slices-stand : (before : Option SeqState) (picture : Picture) (bytes : List ℕ) (earlier later : List Slice) (s : Slice) → SpellsPicture before picture bytes → picture.slices ≡ earlier ++ s ∷ later
    → SliceStands picture s (bit_list bytes)
unfolding picture_unit
slices-stand before picture bytes earlier later s spelled among =
    let is = coding-of_unit before picture (bit_list bytes) [] spelled in
    let (headers, m, (hs, are, split), (slices, m', t, (e, f))) = spelled in
    let seq : picture.seq ≡ headers.0.0 = ap (λ (p : Picture). p.seq) e in
    let coding : picture.coding ≡ headers.0.1 = ap (λ (p : Picture). p.coding) e in
    let list : picture.slices ≡ slices.0 = ap (λ (p : Picture). p.slices) e in
    let whole : length m % 8 ≡ 0 = omega (arith, ap length split, length-append (bit_list headers.1) m, length-bit_list headers.1, length-bit_list bytes) in
    let found = further headers.0.0 headers.0.1 s (bit_list headers.1) m (omega (arith, length-bit_list headers.1))
    (list_stands headers.0.0 headers.0.1 [] slices.0 slices.1 m m' t whole earlier later s (sym list ∙ among)) in
    let stands : StandsBehind picture.seq picture.coding s (bit_list bytes) =
    subst (StandsBehind picture.seq picture.coding s) (sym split)
    (subst (λ (c : PicCoding). StandsBehind picture.seq c s (bit_list headers.1 ++ m)) (sym coding)
    (subst (λ (q : SeqState). StandsBehind q headers.0.1 s (bit_list headers.1 ++ m)) (sym seq) found)) in
    record {
      front = stands.front;
      inner = stands.inner;
      rest = stands.rest;
      aligned = stands.aligned;
      split = stands.split ∙ ap (λ (x : List ℕ). stands.front ++ x) (sym (append_assoc (start_code_bits (s.row + 1)) stands.inner stands.rest))
          ∙ sym (four stands.front (start_code_bits (s.row + 1)) stands.inner stands.rest);
      spelled = stands.spelled;
      no_code = without_code picture.seq picture.coding is s (bit_list bytes) stands;
    } where
      four : (a b c d : List ℕ) → a ++ b ++ c ++ d ≡ a ++ (b ++ c ++ d)
      four a b c d = simp append_assoc
