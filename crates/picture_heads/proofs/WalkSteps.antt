-- The walk over the bytes of a head, from one start code to the next.
use Rattle.std.proofs.Common.{◌≡◌, ◌≢◌, ◌⊎◌, ◌+◌, ◌-◌, ◌*◌, ◌%◌, ◌<◌, ◌≤◌, ℕ, zero, suc, List, ◌++◌, length, take, drop, get_or, true, false, sym, ap, subst, ◌∙◌, inl, inr, arith, append_assoc}
use Rattle.std.proofs.lemmas.Bool.{cases_lt}
use Rattle.std.proofs.lemmas.List.{length-append, drop-drop, length-take, length-drop}
use Rattle.bit_lists.specs.Fields.{AreBytes, bit_list}
use Rattle.bit_lists.proofs.ByteLemmas.{bit_list-take, length-bit_list}
use Rattle.stream_constants.specs.declared.start_codes.TheConstants.{PICTURE, GROUP}
use Rattle.picture_grammar.specs.StartCode.{start_code_bits}
use Rattle.es_units.specs.StartCodes.{is_start_code_at}
use Rattle.picture_heads.specs.Private.Walk.{IsFirstCode, GoesOn, LeadsIn}
use Rattle.picture_heads.proofs.Bytes.{same_parts, IsFound, found-at}

first-longer : (bits : List ℕ) (byte : ℕ) (behind : List ℕ) → IsFirstCode bits byte behind → length behind ≤ length bits
first-longer bits byte behind f =
    omega (arith, ap length f.split, length-append (f.front ++ start_code_bits byte) behind)

goes-longer : (byte : ℕ) (behind later : List ℕ) → GoesOn byte behind later → length later ≤ length behind
goes-longer byte behind later goes = elim goes.goes [
  | inl other ↦ omega (arith, ap length other.1)
  | inr (is, header, split, size) ↦ omega (arith, ap length split, length-append header later)
]

pub leads-longer : (n : ℕ) (bits rest : List ℕ) → LeadsIn n bits rest → length rest ≤ length bits
leads-longer zero bits rest f = first-longer bits PICTURE rest f
leads-longer (suc n) bits rest (byte, behind, later, f, goes, l) = omega (arith, first-longer bits byte behind f, goes-longer byte behind later goes, leads-longer n later rest l)

-- the first start code from a place on
pub record IsFirstAt (head : List ℕ) (at code value : ℕ) : Type 0 where
  pub begun : at ≤ code
  pub is_code : is_start_code_at head code ≡ true
  pub said : value ≡ get_or head (code + 3) 0
  pub none : (place : ℕ) → at ≤ place → place < code → is_start_code_at head place ≡ false

both_ways : (head : List ℕ) (place : ℕ) → is_start_code_at head place ≡ true → is_start_code_at head place ≡ false → ⊥
both_ways head place yes' no' = let e : true ≡ false = sym yes' ∙ no' in cc

module _ (head following : List ℕ) (are : AreBytes head) (whole : length following % 8 ≡ 0) where
  same-code : (at code value byte : ℕ) (behind : List ℕ) → IsFirstAt head at code value → IsFound head following at byte behind
      → (value ≡ byte) × (code + 3 < length head) × (behind ≡ bit_list (drop (code + 4) head) ++ following)
  same-code at code value byte behind first found = by_order (cases_lt found.code code) where
    by_order : (found.code < code) ⊎ (code ≤ found.code) → (value ≡ byte) × (code + 3 < length head) × (behind ≡ bit_list (drop (code + 4) head) ++ following)
    by_order (inl before) = absurd (both_ways head found.code found.is_code (first.none found.code found.begun before))
    by_order (inr le) =
        let same : found.code ≡ code = omega (arith, le, found.first code first.begun first.is_code) in (
          first.said ∙ ap (λ (n : ℕ). get_or head (n + 3) 0) (sym same) ∙ found.value,
          subst (λ (n : ℕ). n + 3 < length head) same found.within,
          found.rest ∙ ap (λ (n : ℕ). bit_list (drop (n + 4) head) ++ following) same,
        )

  pub found-in : (n : ℕ) (at : ℕ) (rest : List ℕ) → at ≤ length head → 32 + length following ≤ length rest → LeadsIn n (bit_list (drop at head) ++ following) rest
      → (byte : ℕ) × (behind : List ℕ) × IsFound head following at byte behind
  found-in zero at rest within enough f = (PICTURE, rest, found-at head following at PICTURE rest are within whole (omega (arith, enough)) f)
  found-in (suc n) at rest within enough (byte, behind, later, f, goes, l) =
      (byte, behind, found-at head following at byte behind are within whole (omega (arith, enough, goes-longer byte behind later goes, leads-longer n later rest l)) f)

  -- where no start code follows, the walk doesn't come to the picture's
  pub walk-none : (n : ℕ) (at : ℕ) (rest : List ℕ) → at ≤ length head → 32 + length following ≤ length rest → LeadsIn n (bit_list (drop at head) ++ following) rest
      → ((place : ℕ) → at ≤ place → is_start_code_at head place ≡ false) → ⊥
  walk-none n at rest within enough l none =
      let (byte, behind, found) = found-in n at rest within enough l in
      both_ways head found.code found.is_code (none found.code found.begun)

  -- at the picture's start code
  pub walk-here : (n : ℕ) (at code value : ℕ) (rest : List ℕ) → at ≤ length head → 32 + length following ≤ length rest → LeadsIn n (bit_list (drop at head) ++ following) rest
      → IsFirstAt head at code value → value ≡ PICTURE → (code + 4 + 3 < length head) × (8 * (length head - (code + 4)) + length following ≡ length rest)
  walk-here zero at code value rest within enough f first is =
      let (same, lt, e) = same-code at code value PICTURE rest first (found-at head following at PICTURE rest are within whole (omega (arith, enough)) f) in
      let size : length rest ≡ 8 * (length head - (code + 4)) + length following =
      ap length e ∙ length-append (bit_list (drop (code + 4) head)) following ∙ omega (arith, length-bit_list (drop (code + 4) head), length-drop (code + 4) head) in
      (omega (arith, size, enough), sym size)
  walk-here (suc n) at code value rest within enough (byte, behind, later, f, goes, l) first is =
      let longer : length following ≤ length behind = omega (arith, enough, goes-longer byte behind later goes, leads-longer n later rest l) in
      let (same, lt, e) = same-code at code value byte behind first (found-at head following at byte behind are within whole longer f) in
      absurd (goes.no_picture (sym same ∙ is))

  -- at another start code
  pub walk-on : (n : ℕ) (at code value next : ℕ) (rest : List ℕ) → at ≤ length head → 32 + length following ≤ length rest → LeadsIn n (bit_list (drop at head) ++ following) rest
      → IsFirstAt head at code value → value ≢ PICTURE → (value ≡ GROUP → code + 8 ≤ length head → next ≡ code + 8) → (value ≢ GROUP → next ≡ code + 4)
      → (k : ℕ) × LeadsIn k (bit_list (drop next head) ++ following) rest
  walk-on zero at code value next rest within enough f first no_picture group other =
      let (same, lt, e) = same-code at code value PICTURE rest first (found-at head following at PICTURE rest are within whole (omega (arith, enough)) f) in
      absurd (no_picture same)
  walk-on (suc n) at code value next rest within enough (byte, behind, later, f, goes, l) first no_picture group other =
      let shorter = leads-longer n later rest l in
      let longer : length following ≤ length behind = omega (arith, enough, goes-longer byte behind later goes, shorter) in
      let (same, lt, e) = same-code at code value byte behind first (found-at head following at byte behind are within whole longer f) in (
        n,
        subst (λ (x : List ℕ). LeadsIn n x rest) (elim goes.goes [
          | inl (none, is) ↦ is ∙ e ∙ ap (λ (k : ℕ). bit_list (drop k head) ++ following) (sym (other (λ g. none (sym same ∙ g))))
          | inr (is, header, split, size) ↦
              let count : length (bit_list (drop (code + 4) head) ++ following) ≡ 8 * (length head - (code + 4)) + length following =
              length-append (bit_list (drop (code + 4) head)) following ∙ omega (arith, length-bit_list (drop (code + 4) head), length-drop (code + 4) head) in
              let both : length behind ≡ 32 + length later = ap length split ∙ length-append header later ∙ omega (arith, size) in
              let fits : code + 8 ≤ length head = omega (arith, count, both, ap length e, shorter, enough, lt) in
              let cut : bit_list (drop (code + 4) head) ≡ bit_list (take 4 (drop (code + 4) head)) ++ bit_list (drop (code + 4 + 4) head) =
              bit_list-take 4 (drop (code + 4) head) ∙ ap (λ (x : List ℕ). bit_list (take 4 (drop (code + 4) head)) ++ bit_list x) (drop-drop 4 (code + 4) head) in
              let eights : length header ≡ length (bit_list (take 4 (drop (code + 4) head))) =
              size ∙ sym (length-bit_list (take 4 (drop (code + 4) head)) ∙ omega (arith, length-take 4 (drop (code + 4) head), length-drop (code + 4) head, fits)) in
              let parts : header ++ later ≡ bit_list (take 4 (drop (code + 4) head)) ++ (bit_list (drop (code + 4 + 4) head) ++ following) =
              sym split ∙ e ∙ ap (λ (x : List ℕ). x ++ following) cut ∙ append_assoc (bit_list (take 4 (drop (code + 4) head))) (bit_list (drop (code + 4 + 4) head)) following in
              let place : code + 4 + 4 ≡ next = omega (arith, group (same ∙ is) fits) in
              (same_parts header (bit_list (take 4 (drop (code + 4) head))) later (bit_list (drop (code + 4 + 4) head) ++ following) eights parts).1
              ∙ ap (λ (k : ℕ). bit_list (drop k head) ++ following) place
        ]) l,
      )

  -- and the next place is one of the head
  pub walk-within : (n : ℕ) (at code value next : ℕ) (rest : List ℕ) → at ≤ length head → 32 + length following ≤ length rest → LeadsIn n (bit_list (drop at head) ++ following) rest
      → IsFirstAt head at code value → value ≢ PICTURE → (value ≡ GROUP → code + 8 ≤ length head → next ≡ code + 8) → (value ≢ GROUP → next ≡ code + 4) → next ≤ length head
  walk-within zero at code value next rest within enough f first no_picture group other =
      let (same, lt, e) = same-code at code value PICTURE rest first (found-at head following at PICTURE rest are within whole (omega (arith, enough)) f) in
      absurd (no_picture same)
  walk-within (suc n) at code value next rest within enough (byte, behind, later, f, goes, l) first no_picture group other =
      let shorter = leads-longer n later rest l in
      let longer : length following ≤ length behind = omega (arith, enough, goes-longer byte behind later goes, shorter) in
      let (same, lt, e) = same-code at code value byte behind first (found-at head following at byte behind are within whole longer f) in
      elim goes.goes [
        | inl (none, is) ↦ omega (arith, lt, other (λ g. none (sym same ∙ g)))
        | inr (is, header, split, size) ↦
            let count : length (bit_list (drop (code + 4) head) ++ following) ≡ 8 * (length head - (code + 4)) + length following =
            length-append (bit_list (drop (code + 4) head)) following ∙ omega (arith, length-bit_list (drop (code + 4) head), length-drop (code + 4) head) in
            let both : length behind ≡ 32 + length later = ap length split ∙ length-append header later ∙ omega (arith, size) in
            let fits : code + 8 ≤ length head = omega (arith, count, both, ap length e, shorter, enough, lt) in
            omega (arith, fits, group (same ∙ is) fits)
      ]
