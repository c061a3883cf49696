-- A part of a motion vector at the front of a whole window (ISO/IEC 13818-2, 6.2.5.2.1).
use Rattle.std.proofs.Common.{
  ◌≡◌,
  ◌==◌,
  ◌&&◌,
  ◌+◌,
  ◌-◌,
  ◌*◌,
  ◌/◌,
  ◌%◌,
  ◌^◌,
  ◌<◌,
  ◌≤◌,
  ◌↔◌,
  nat_eq,
  nat_le,
  ℕ,
  pos,
  not,
  List,
  [],
  ◌∷◌,
  ◌++◌,
  Option,
  Some,
  Bool,
  true,
  false,
  refl,
  sym,
  ap,
  ap₂,
  subst,
  ◌∙◌,
  inl,
  inr,
  arith,
  append-nil,
  append_assoc,
}
use Rattle.std.proofs.Math.Nat.{mod-lt}
use Rattle.std.proofs.lemmas.Bool.{and_from, cases_eq, ne_eqb, leb-true}
use Rattle.std.proofs.lemmas.Nat.{pow_pos, one_shl}
use Rattle.std.proofs.Math.Pow.{pow-lt}
use Rattle.bit_lists.specs.Bits.{bits_of}
use Rattle.bit_lists.specs.Fields.{flag}
use Rattle.bit_lists.proofs.BitLemmas.{bits_of-mod}
use Rattle.prefix_codes.specs.Entry.{Entry}
use Rattle.prefix_codes.specs.declared.table_name.TableName.{TableName}
use Rattle.prefix_codes.specs.declared.table_name.TableName.TheVariants.{Motion}
use Rattle.prefix_codes.specs.TableName.{code_in, Begins}
use Rattle.prefix_codes.proofs.TableLemmas.{code_in-passes}
use Rattle.picture_grammar.specs.Grammar.{◌>>=◌, when}
use Rattle.picture_grammar.specs.Element.{uimsbf, one_flag}
use Rattle.picture_grammar.specs.Block.{signed}
use Rattle.picture_grammar.specs.Motion.{Part, has_residual}
use Rattle.grammar_reading.specs.declared.window.BitWindow.{BitWindow}
use Rattle.grammar_reading.specs.Window.{seen}
use Rattle.grammar_reading.proofs.Fronts.{front_of-more}
use Rattle.block_coeffs.proofs.Pairs.{seen-code, seen-one_more}
use Rattle.macroblock_reader.specs.Private.WholeParts.{IsPartFound}
use Rattle.macroblock_reader.proofs.Codes.{motion-small}
use Rattle.macroblock_reader.proofs.Vectors.{part_1, part_3}

pub motion-most : (size : ℕ) (code : List ℕ) → code_in Motion size ≡ Some code → size ≤ 16
motion-most size code listed = leb-true size 16 (code_in-passes (λ (e : Entry). nat_le e.0 16) Motion size code motion-small listed)

pub residual-fits : (n number : ℕ) → n < 16 → number % (1 * 2 ^ n % 2 ^ 32) < 2 ^ 16
residual-fits n number lt =
    let mask : 1 * 2 ^ n % 2 ^ 32 ≡ 2 ^ n = one_shl n 32 (omega arith) in
    let below : number % 2 ^ n < 2 ^ n = mod-lt number (pow_pos n) in
    let most : 2 ^ n < 2 ^ 16 = pow-lt {i = n} {j = 16} (omega arith) in
    subst (λ m. number % m < 2 ^ 16) (sym mask) (omega arith)

none-stands : (b : Bool) → (b && false) ≡ false
none-stands true = refl
none-stands false = refl

residual-spelled : (f_code size residual : ℕ) → (size ≡ 0 → ⊥) → residual < 2 ^ (f_code - 1)
    → (when (has_residual f_code size) (uimsbf (f_code - 1) []) 0).Spells residual (bits_of (f_code - 1) residual) []
unfolding bits_of
residual-spelled f_code size residual some below = elim (cases_eq f_code 1) [
  | inl one ↦ (
      let none : residual ≡ 0 = (let least : residual < 2 ^ 0 = subst (λ f. residual < 2 ^ (f - 1)) one below in omega (arith, least)) in
      subst (λ f. (when (has_residual f size) (uimsbf (f - 1) []) 0).Spells residual (bits_of (f - 1) residual) []) (sym one) (none, refl)
      )
  | inr other ↦ (
      let stands : has_residual f_code size ≡ true = and_from (not (f_code == 1)) (not (size == 0)) (ap not (ne_eqb f_code 1 other)) (ap not (ne_eqb size 0 some)) in
      subst (λ (b : Bool). (when b (uimsbf (f_code - 1) []) 0).Spells residual (bits_of (f_code - 1) residual) []) (sym stands)
      (bits_of (f_code - 1) residual, (below, refl), refl, sym (append-nil (bits_of (f_code - 1) residual)))
      )
]

module _ (f_code : ℕ) (window : BitWindow) (size len : ℕ) (b : Begins Motion (seen window window.known) size len) where
  code-at : (len ≤ window.known) × (seen window len ≡ b.code)
  code-at = seen-code window b.code len window.within b.counted b.first

  abbrev still : Part
  still = record { code = pos 0; residual = 0; difference = pos 0 }

  -- no sign and no residual behind the size 0
  pub still-found : size ≡ 0 → IsPartFound f_code window still len
  still-found none = (code-at.0, (size, [], (b.code, b.listed, refl, code-at.1 ∙ sym (append-nil b.code)), subst (λ s. (part_1 f_code false s).Spells still [] []) (sym none) behind)) where
    behind : (part_1 f_code false 0).Spells still [] []
    behind = (
      false,
      [],
      (refl, refl),
      subst (λ (stands : Bool). (when stands (uimsbf (f_code - 1) []) 0 >>= part_3 f_code false 0 false).Spells still [] []) (sym (none-stands (not (f_code == 1))))
          (0, [], (refl, refl), (pos 0, [], (refl, refl), (refl, refl))),
    )

  module _ (some : size ≡ 0 → ⊥) (negative : Bool) (n residual : ℕ) (fits : len + 1 + n ≤ 24) (whole : window.known ≡ 24) (count : n ≡ f_code - 1)
      (sign_is : negative ≡ nat_eq (window.bits / 2 ^ (23 - len) % 2) 1) (residual_is : residual ≡ window.bits / 2 ^ (24 - (len + 1 + n)) % 2 ^ n) where
    abbrev high : ℕ
    high = window.bits / 2 ^ (24 - (len + 1 + n))

    fields : seen window (len + 1 + n) ≡ b.code ++ flag negative ∷ bits_of n residual
    fields =
        front_of-more 24 window.bits (len + 1) n fits
        ∙ ap₂ (λ (f d : List ℕ). f ++ d) (seen-one_more window len (omega (arith, fits)) ∙ ap₂ (λ (f : List ℕ) (bit : Bool). f ++ flag bit ∷ []) code-at.1 (sym sign_is))
        (sym (bits_of-mod n high) ∙ ap (bits_of n) (sym residual_is))
        ∙ append_assoc b.code (flag negative ∷ []) (bits_of n residual)

    below : residual < 2 ^ n
    below = subst (λ r. r < 2 ^ n) (sym residual_is) (mod-lt high (pow_pos n))

    sign-there : (when (not (size == 0)) one_flag false).Spells negative (flag negative ∷ bits_of n residual) (bits_of n residual)
    sign-there =
        subst (λ (stands : Bool). (when stands one_flag false).Spells negative (flag negative ∷ bits_of n residual) (bits_of n residual)) (sym (ap not (ne_eqb size 0 some)))
        (flag negative ∷ [], refl, refl, refl)

    residual-there : (when (has_residual f_code size) (uimsbf (f_code - 1) []) 0).Spells residual (bits_of n residual) []
    residual-there =
        subst (λ k. (when (has_residual f_code size) (uimsbf (f_code - 1) []) 0).Spells residual (bits_of k residual) []) (sym count)
        (residual-spelled f_code size residual some (subst (λ k. residual < 2 ^ k) count below))

    -- a sign and a residual behind another size
    pub moving-found : IsPartFound f_code window (record { code = signed size negative; residual = residual; difference = pos 0 }) (len + 1 + n)
    moving-found = (
      omega (arith, fits, whole),
      (
        size,
        flag negative ∷ bits_of n residual,
        (b.code, b.listed, refl, fields),
        (negative, bits_of n residual, sign-there, (residual, [], residual-there, (pos 0, [], (refl, refl), (refl, refl)))),
      ),
    )
