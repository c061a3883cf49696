-- A DC coefficient: the code of its size, and its bits.
use Rattle.std.proofs.Common.{
  ◌≡◌,
  ℕ,
  ◌+◌,
  ◌-◌,
  ◌*◌,
  ◌/◌,
  ◌%◌,
  ◌^◌,
  ◌<◌,
  ◌≤◌,
  ◌&&◌,
  ◌⊎◌,
  Bool,
  true,
  nat_lt,
  List,
  [],
  ◌++◌,
  length,
  take,
  drop,
  Some,
  refl,
  sym,
  ap,
  ap₂,
  subst,
  ◌∙◌,
  inl,
  inr,
  arith,
  append-nil,
}
use Rattle.std.specs.List.{list_all}
use Rattle.std.proofs.Math.Nat.{mod-lt}
use Rattle.std.proofs.lemmas.Bool.{and_parts, ltb-true}
use Rattle.std.proofs.lemmas.List.{length-drop, take-append-drop}
use Rattle.std.proofs.Math.Pow.{pow-lt}
use Rattle.std.proofs.lemmas.Nat.{pow_pos, one_shl}
use Rattle.bit_lists.proofs.PrefixLemmas.{IsPrefix-without}
use Rattle.bit_lists.specs.Bits.{IsPrefix, bits_of}
use Rattle.bit_lists.proofs.BitLemmas.{length-bits_of, bits_of-mod}
use Rattle.prefix_codes.specs.declared.table_name.TableName.{TableName}
use Rattle.prefix_codes.specs.declared.table_name.TableName.TheVariants.{Address, TypeI, TypeP, TypeB, Pattern, Motion, DcLuma, DcChroma, CoeffZero, CoeffFirst, CoeffOne}
use Rattle.prefix_codes.specs.Entry.{Entry}
use Rattle.prefix_codes.specs.TableName.{entries, code_in, Begins, is_sizes}
use Rattle.prefix_codes.proofs.Computing.{tables}
use Rattle.prefix_codes.proofs.TableLemmas.{code_in-passes}
use Rattle.picture_grammar.specs.Refusal.Refusal.{End}
use Rattle.picture_grammar.specs.Element.{MayStand}
use Rattle.grammar_reading.specs.declared.window.BitWindow.{BitWindow}
use Rattle.block_coeffs.specs.declared.why.Why.TheVariants as why
use Rattle.block_coeffs.specs.declared.dc_standing.DcStanding.TheVariants.{Coefficient, Refused}
use Rattle.grammar_reading.specs.Cut.{BeginsCode}
use Rattle.grammar_reading.specs.Window.{seen, ShowsFront}
use Rattle.block_coeffs.specs.Private.DcStanding.{dc_by, IsWhyNoSize, IsDcFound}
use Rattle.grammar_reading.proofs.Fronts.{front_of-more, length-front_of, take-front_of}
use Rattle.grammar_reading.proofs.Cuts.{begun-length, shows-all, shows-filled, seen-begins}
use Rattle.block_coeffs.proofs.Pairs.{seen-code}

-- a size is at most 11, and its code and bits fit a window
abbrev is_small : Entry → Bool
is_small e = nat_lt e.0 12 && nat_lt (length e.1 + e.0) 24

are_small : (table : TableName) → is_sizes table ≡ true → list_all is_small (entries table) ≡ true
unfolding tables
are_small Address e = cc
are_small TypeI e = cc
are_small TypeP e = cc
are_small TypeB e = cc
are_small Pattern e = cc
are_small Motion e = cc
are_small DcLuma e = refl
are_small DcChroma e = refl
are_small CoeffZero e = cc
are_small CoeffFirst e = cc
are_small CoeffOne e = cc

pub small-size : (table : TableName) (s : ℕ) (code : List ℕ) → is_sizes table ≡ true → code_in table s ≡ Some code → (s < 12) × (length code + s < 24)
small-size table s code tests listed =
    let parts = and_parts (nat_lt s 12) (nat_lt (length code + s) 24) (code_in-passes is_small table s code (are_small table tests) listed) in
    (ltb-true s 12 parts.0, ltb-true (length code + s) 24 parts.1)

pub begins-size : (table : TableName) (bits : List ℕ) (s len : ℕ) → is_sizes table ≡ true → Begins table bits s len → (s < 12) × (len + s < 24)
begins-size table bits s len tests b = let small = small-size table s b.code tests b.listed in (small.0, (let counted = b.counted in let fits = small.1 in omega arith))

abbrev Sizes : TableName → ℕ → List ℕ → Type 0
Sizes table symbol code = code_in table symbol ≡ Some code

module _ (table : TableName) (tests : is_sizes table ≡ true) (window : BitWindow) where
  -- ---- no size

  module _ (none : (symbol len : ℕ) → Begins table (seen window window.known) symbol len → ⊥) (bits : List ℕ) (shows : ShowsFront window bits) where
    no_code : (s : ℕ) (code : List ℕ) → code_in table s ≡ Some code → IsPrefix code bits → ⊥
    no_code s code listed p =
        let small = small-size table s code tests listed in
        none s (length code) (record { code = code; listed = listed; counted = refl; first = seen-begins window bits code (let fits = small.1 in omega arith) shows p })

    -- bits that begin a code don't fill the window
    seen-all : (s : ℕ) (code : List ℕ) → code_in table s ≡ Some code → IsPrefix bits code → bits ≡ seen window window.known
    seen-all s code listed p =
        let small = small-size table s code tests listed in
        let short = begun-length bits code p in
        shows-all window bits window.within (λ full. let least = shows-filled window bits full shows in let fits = small.1 in omega arith) shows

    seen-short : (s : ℕ) (code : List ℕ) → code_in table s ≡ Some code → IsPrefix (seen window window.known) code → bits ≡ seen window window.known
    seen-short s code listed p =
        let small = small-size table s code tests listed in
        let short = begun-length (seen window window.known) code p in
        let count = length-front_of 24 window.bits window.known window.within in
        shows-all window bits window.within (λ full. let fits = small.1 in omega arith) shows

    pub no_size-end : (s : ℕ) → BeginsCode table s (seen window window.known) → IsWhyNoSize table why.End bits
    no_size-end s b =
        let all = seen-short s b.code b.listed b.cut in
        inr (inr (
          record { value = s; code = b.code; coded = b.listed; passing = refl; agrees = inr (subst (λ x. IsPrefix x b.code) (sym all) b.cut) },
          λ st. no_code st.value st.code st.coded st.first,
          refl,
        ))

    pub no_size-none : ((s : ℕ) → s < 12 → BeginsCode table s (seen window window.known) → ⊥) → IsWhyNoSize table why.NoCode bits
    no_size-none missing = inl (none_may, refl) where
      none_may : MayStand (Sizes table) [] bits → ⊥
      none_may m = by_cases m.agrees where
        by_cases : IsPrefix m.code bits ⊎ IsPrefix bits m.code → ⊥
        by_cases (inl p) = no_code m.value m.code m.coded p
        by_cases (inr p) =
            let all = seen-all m.value m.code m.coded p in
            missing m.value (small-size table m.value m.code tests m.coded).0 (record { code = m.code; listed = m.coded; cut = subst (λ x. IsPrefix x m.code) all p })

  -- ---- a size, and its bits

  module _ (size len : ℕ) (b : Begins table (seen window window.known) size len) where
    abbrev the_bits : ℕ
    the_bits = window.bits / 2 ^ (24 - (len + size)) % 2 ^ size

    code-at : (len ≤ window.known) × (seen window len ≡ b.code)
    code-at = seen-code window b.code len window.within b.counted b.first

    fields : seen window (len + size) ≡ b.code ++ bits_of size the_bits
    fields =
        let small = begins-size table (seen window window.known) size len tests b in
        let high = window.bits / 2 ^ (24 - (len + size)) in
        front_of-more 24 window.bits len size (let fits = small.1 in omega arith)
        ∙ ap₂ (λ f d. f ++ d) code-at.1 (sym (bits_of-mod size high))

    bits-below : the_bits < 2 ^ size
    bits-below = mod-lt (window.bits / 2 ^ (24 - (len + size))) (pow_pos size)

    pub dc-found : len + size ≤ window.known → IsDcFound table window (Coefficient (record { size = size; bits = the_bits }) (len + size))
    dc-found le = (
      le,
      (
        size,
        bits_of size the_bits,
        (b.code, b.listed, refl, fields),
        (the_bits, [], (bits_of size the_bits, (bits-below, refl), refl, sym (append-nil (bits_of size the_bits))), (refl, refl)),
      ),
    )

    -- where the bits end within those of the size
    module _ (short : window.known < len + size) (bits : List ℕ) (shows : ShowsFront window bits) where
      all : bits ≡ seen window window.known
      all =
          let small = begins-size table (seen window window.known) size len tests b in
          shows-all window bits window.within (λ full. let fits = small.1 in omega arith) shows

      split : bits ≡ b.code ++ drop len bits
      split =
          let code-first : take len bits ≡ b.code = ap (take len) all ∙ take-front_of 24 window.bits len window.known code-at.0 ∙ code-at.1 in
          sym (take-append-drop len bits) ∙ ap (λ f. f ++ drop len bits) code-first

      -- what is left begins the bits of the size
      left-begins : IsPrefix (drop len bits) (bits_of size the_bits)
      left-begins =
          let count : length bits ≡ window.known = ap length all ∙ length-front_of 24 window.bits window.known window.within in
          let whole : IsPrefix bits (b.code ++ bits_of size the_bits) =
          ap (λ n. take n (b.code ++ bits_of size the_bits)) count ∙ ap (take window.known) (sym fields) ∙ take-front_of 24 window.bits window.known (len + size) (omega arith) ∙ sym all in
          IsPrefix-without b.code (drop len bits) (bits_of size the_bits) (subst (λ x. IsPrefix x (b.code ++ bits_of size the_bits)) split whole)

      left-length : length (drop len bits) < size
      left-length =
          let count = length-front_of 24 window.bits window.known window.within in
          let at = code-at.0 in
          omega (arith, length-drop len bits, ap length all)

      cut-size : (dc_by table).Refuses bits End (drop len bits)
      cut-size =
          inr (
            size,
            drop len bits,
            (b.code, b.listed, refl, split),
            inl (
              refl,
              inr (inr (
                record { value = the_bits; code = bits_of size the_bits; coded = (bits-below, refl); passing = refl; agrees = inr left-begins },
                λ s.
                    let long : length s.code ≡ size = ap length s.coded.1 ∙ length-bits_of size s.value in
                    omega (arith, begun-length s.code (drop len bits) s.first, left-length),
                refl,
              )),
            ),
          )

    pub dc-cut : window.known < len + size → IsDcFound table window (Refused why.End len)
    dc-cut short = (code-at.0, λ bits shows. cut-size short bits shows)

-- the same, by numbers that are those
pub dc-found_at : (table : TableName) (window : BitWindow) (size len total bits : ℕ) → is_sizes table ≡ true → Begins table (seen window window.known) size len → total ≡ len + size → total ≤ window.known
    → bits ≡ window.bits / 2 ^ (24 - total) % (1 * 2 ^ size % 2 ^ 32) → IsDcFound table window (Coefficient (record { size = size; bits = bits }) total)
dc-found_at table window size len total bits tests b is le bits_are =
    let small = begins-size table (seen window window.known) size len tests b in
    let mask : 1 * 2 ^ size % 2 ^ 32 ≡ 2 ^ size = one_shl size 32 (let fits = small.0 in omega arith) in
    let same : bits ≡ window.bits / 2 ^ (24 - (len + size)) % 2 ^ size = bits_are ∙ ap₂ (λ n m. window.bits / 2 ^ (24 - n) % m) is mask in
    subst (λ n. IsDcFound table window (Coefficient (record { size = size; bits = bits }) n)) (sym is)
    (subst (λ n. IsDcFound table window (Coefficient (record { size = size; bits = n }) (len + size))) (sym same) (dc-found table tests window size len b (omega arith)))

pub bits-fit : (size n : ℕ) → size < 12 → n % (1 * 2 ^ size % 2 ^ 32) < 2 ^ 16
bits-fit size n lt =
    let mask : 1 * 2 ^ size % 2 ^ 32 ≡ 2 ^ size = one_shl size 32 (omega arith) in
    let below : n % 2 ^ size < 2 ^ size = mod-lt n (pow_pos size) in
    let most : 2 ^ size < 2 ^ 16 = pow-lt {i = size} {j = 16} (omega arith) in
    subst (λ m. n % m < 2 ^ 16) (sym mask) (omega arith)
