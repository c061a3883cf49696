-- Blocks that some bits spell can be written.
use Rattle.std.proofs.Common.{
  ◌≡◌,
  ℕ,
  ℤ,
  unsigned_abs,
  ◌+◌,
  ◌^◌,
  ◌<◌,
  ◌≤◌,
  List,
  [],
  ◌∷◌,
  ◌++◌,
  Result,
  Bool,
  true,
  false,
  refl,
  w16,
  to_z,
  of_z,
  sym,
  ap,
  subst,
  ◌∙◌,
  add-one,
  length,
  get_or,
  drop,
  drop-cons,
  append_assoc,
  arith,
}
use mir.Val.{bool_byte}
use Rattle.std.proofs.lemmas.Int.{to_z-of_z, fits_signed_from_abs}
use Rattle.std.proofs.lemmas.List.{drop_all}
use Rattle.shelf_io.specs.declared.fault.Fault.{Fault}
use Rattle.shelf_io.specs.Sink.{Told}
use Rattle.bit_lists.specs.Bits.{bits_of}
use Rattle.bit_lists.specs.Fields.{flag}
use Rattle.bit_cursor.specs.declared.bit_writer.BitWriter.{BitWriter}
use Rattle.bit_cursor.specs.BitWriter.{Writes}
use Rattle.prefix_codes.specs.declared.symbol.TheConstants.{END_OF_BLOCK}
use Rattle.syntax_types.specs.declared.block.BlockWay.{BlockWay}
use Rattle.syntax_types.specs.declared.block.RunLevel.{RunLevel}
use Rattle.picture_grammar.specs.Block.{coefficient_table}
use Rattle.picture_grammar.specs.Written.{written_coefficient, written_coefficients}
use Rattle.prefix_codes.specs.TableName.{code_for}
use Rattle.block_coeffs.specs.Private.Writing.{CanFollow}

-- ---- bits of a coefficient

-- a level's sign bit
pub sign_bit : (negative : Bool) → bits_of 1 (flag negative) ≡ flag negative ∷ []
unfolding bits_of
sign_bit true = refl
sign_bit false = refl

-- a flag as the code has it
pub as_flag : (is_set : Bool) → bool_byte is_set ≡ flag is_set
as_flag true = refl
as_flag false = refl

-- the same bits in another form
pub writes_as : {K T : Type 0} {written : K → Told} {faults : K → ℕ} {keeps : K → K → Type 0} {a b : BitWriter K} {r : Result T Fault} {xs ys : List ℕ}
    → Writes written faults keeps a b r xs → xs ≡ ys → Writes written faults keeps a b r ys
writes_as {written} {faults} {keeps} {a} {b} {r} call same = subst (λ (bits : List ℕ). Writes written faults keeps a b r bits) same call

-- a level of 12 bits as the code holds it
pub held_level : (level : ℤ) → unsigned_abs level < 2 ^ 11 → to_z w16 (of_z w16 level) ≡ level
held_level level small =
    let below : unsigned_abs level < 2 ^ 15 = omega arith in
    to_z-of_z w16 level (fits_signed_from_abs w16 level below)

-- ---- one coefficient after the other

module _ (way : BlockWay) (place i : ℕ) (pairs : List RunLevel) (done all : List ℕ) (rest : done ++ written_coefficients way place (drop i pairs) ≡ all) where
  module _ (default : RunLevel) (within : i < length pairs) where
    here : drop i pairs ≡ get_or pairs i default ∷ drop (i + 1) pairs
    here = drop-cons pairs i default within ∙ ap (λ k. get_or pairs i default ∷ drop k pairs) (sym (add-one i))

    -- what is to be written with one more coefficient done
    pub one_more : (done ++ written_coefficient (coefficient_table way place) (get_or pairs i default))
        ++ written_coefficients way (place + ((get_or pairs i default).run + 1)) (drop (i + 1) pairs) ≡ all
    one_more =
        append_assoc done (written_coefficient (coefficient_table way place) (get_or pairs i default)) (written_coefficients way (place + ((get_or pairs i default).run + 1)) (drop (i + 1) pairs))
        ∙ ap (λ left. done ++ written_coefficients way place left) (sym here) ∙ rest

    pub others_follow : CanFollow place (drop i pairs) → CanFollow (place + ((get_or pairs i default).run + 1)) (drop (i + 1) pairs)
    others_follow stand = (subst (CanFollow place) here stand).2

  -- and with none left
  pub only_the_end : length pairs ≤ i → done ++ code_for (coefficient_table way place) END_OF_BLOCK ≡ all
  only_the_end past = ap (λ left. done ++ written_coefficients way place left) (sym (drop_all i pairs past)) ∙ rest
