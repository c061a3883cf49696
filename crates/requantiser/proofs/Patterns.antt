-- The pattern of blocks, one after the other.
use mir.Val.{bool_byte}
use Rattle.std.proofs.Common.{
  ◌≡◌,
  ℕ,
  suc,
  ◌+◌,
  ◌-◌,
  ◌*◌,
  ◌^◌,
  ◌<◌,
  ◌≤◌,
  List,
  [],
  ◌∷◌,
  Bool,
  true,
  false,
  refl,
  sym,
  ◌∙◌,
  ap,
  ap₂,
  arith,
  length,
  drop,
  get_or,
  drop-cons,
  add-one,
  length-drop,
  pow-suc,
}
use Rattle.std.specs.Prelude.{◌==◌, not, map}
use Rattle.std.proofs.lemmas.Bool.{ne_eqb}
use Rattle.std.proofs.lemmas.List.{drop_all, length-map}
use Rattle.std.proofs.Math.Nat.{add-mul, mul_assoc}
use Rattle.bit_lists.specs.Bits.{number_of}
use Rattle.bit_lists.specs.Fields.{flag}
use Rattle.syntax_types.specs.declared.block.Block.{Block}
use Rattle.syntax_types.specs.declared.block.RunLevel.{RunLevel}
use Rattle.requantiser.specs.Macroblocks.{is_empty_block, pattern_of}

one_more_bit : (p b x r : ℕ) → (2 * p + b) * x + r ≡ p * (x * 2) + (b * x + r)
one_more_bit p b x r = omega (arith, add-mul (2 * p) b x, mul_assoc 2 p x, mul_assoc p x 2)

abbrev pub bit_of : Block → ℕ
bit_of block = flag (not (is_empty_block block))

-- a bit as the code has it
pub bit_of-code : (block : Block) (is_empty : Bool) (bit : ℕ) → is_empty ≡ (length block.pairs.items == 0) → bit ≡ bool_byte (not is_empty) → bit ≡ bit_of block
bit_of-code block is_empty bit e b = b ∙ ap (λ t. bool_byte (not t)) e ∙ by_items block.pairs.items
  where
    by_items : (items : List RunLevel) → bool_byte (not (length items == 0)) ≡ flag (not (elim items [ [] ↦ true | pair ∷ pairs ↦ false ]))
    by_items [] = refl
    by_items (pair ∷ pairs) = ap (λ t. bool_byte (not t)) (ne_eqb (length (pair ∷ pairs)) 0 (λ e. absurd (omega arith)))

pub one_block_bit : (pattern bit index : ℕ) (blocks : List Block) (d : Block) (all : ℕ) → index < length blocks → length blocks ≡ 6 → bit ≡ bit_of (get_or blocks index d)
    → pattern * 2 ^ (6 - index) + pattern_of (drop index blocks) ≡ all
    → (2 * pattern + bit) * 2 ^ (6 - (index + 1)) + pattern_of (drop (index + 1) blocks) ≡ all
unfolding number_of
one_block_bit pattern bit index blocks d all within six is rest =
    let cut : drop index blocks ≡ get_or blocks index d ∷ drop (index + 1) blocks = rw (add-one, drop-cons blocks index d) refl in
    let bits : List ℕ = map bit_of (drop (index + 1) blocks) in
    let left : length bits ≡ 6 - (index + 1) = length-map (drop (index + 1) blocks) bit_of ∙ length-drop (index + 1) blocks ∙ ap (λ n. n - (index + 1)) six in
    let more : 6 - index ≡ suc (6 - (index + 1)) = omega (arith, six) in
    one_more_bit pattern bit (2 ^ (6 - (index + 1))) (number_of bits)
    ∙ ap₂ (λ x b. pattern * x + (b * 2 ^ (6 - (index + 1)) + number_of bits)) (sym (pow-suc 2 (6 - (index + 1))) ∙ ap (λ n. 2 ^ n) (sym more)) is
    ∙ ap (λ n. pattern * 2 ^ (6 - index) + (bit_of (get_or blocks index d) * 2 ^ n + number_of bits)) (sym left)
    ∙ ap (λ xs. pattern * 2 ^ (6 - index) + pattern_of xs) (sym cut)
    ∙ rest

pub bit_of-most : (block : Block) → bit_of block ≤ 1
bit_of-most block = by_empty (is_empty_block block)
  where
    by_empty : (e : Bool) → flag (not e) ≤ 1
    by_empty true = omega arith
    by_empty false = omega arith

pub one_bit_more : (pattern bit index : ℕ) → pattern < 2 ^ index → bit ≤ 1 → 2 * pattern + bit < 2 ^ (index + 1)
one_bit_more pattern bit index small one = rw (add-one, pow-suc) (omega arith)

pub only_pattern : (pattern index : ℕ) (blocks : List Block) (all : ℕ) → length blocks ≤ index → length blocks ≡ 6
    → pattern * 2 ^ (6 - index) + pattern_of (drop index blocks) ≡ all → pattern ≡ all
unfolding number_of
only_pattern pattern index blocks all past six rest =
    let none : 6 - index ≡ 0 = omega (arith, six) in
    let one : pattern * 2 ^ 0 + 0 ≡ pattern = omega arith in
    sym one ∙ ap₂ (λ n xs. pattern * 2 ^ n + pattern_of xs) (sym none) (sym (drop_all index blocks past)) ∙ rest
