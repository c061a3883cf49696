-- The blocks of a macroblock counted one after the other.
use Rattle.std.proofs.Common.{◌≡◌, ℕ, zero, suc, ◌+◌, ◌-◌, ◌*◌, ◌^◌, ◌<◌, ◌≤◌, ℤ, List, [], ◌∷◌, true, false, refl, sym, ◌∙◌, ap, ap₂, subst, ◌⊎◌, inl, inr, arith, length, drop, get_or}
use Rattle.std.specs.Prelude.{not, slice_set, if◌then◌else◌}
use Rattle.std.proofs.lemmas.Bool.{cases_order}
use Rattle.std.proofs.lemmas.List.{get_or-set_same, get_or-set_other}
use Rattle.std.proofs.lemmas.List.FromFn.{length-map-range_with_len}
use Rattle.bit_lists.specs.Fields.{flag}
use Rattle.quant_math.specs.Scales.{IsMappedCode}
use Rattle.syntax_types.specs.declared.block.Block.{Block}
use Rattle.syntax_types.specs.declared.block.BlockWay.{BlockWay}
use Rattle.syntax_types.specs.declared.block.RunLevel.{RunLevel}
use Rattle.syntax_types.specs.declared.macroblock.Kind.{Kind}
use Rattle.syntax_types.specs.declared.macroblock.Macroblock.{Macroblock}
use Rattle.syntax_types.specs.declared.picture.PicCoding.{PicCoding}
use Rattle.syntax_types.specs.declared.picture.SeqState.{SeqState}
use Rattle.picture_grammar.specs.Block.{first_place}
use Rattle.picture_grammar.specs.Macroblock.{block_way, no_block}
use Rattle.requantiser.specs.declared.tally.Tally.{Tally}
use Rattle.requantiser.specs.Distortion.{difference_of}
use Rattle.requantiser.specs.Levels.{scale_of}
use Rattle.requantiser.specs.Macroblocks.{pattern_of}
use Rattle.requantiser.specs.Tallies.{IsTallyOf, bits_beyond}
use Rattle.requantiser.specs.Private.Changes.{block_change, change_in, coefficient_of_blocks, new_level_in}
use Rattle.requantiser.specs.Private.Shapes.{FitBlock}
use Rattle.requantiser.specs.Private.Sums.{sum_from}
use Rattle.requantiser.specs.Private.Tallies.{AreBlocksTallied, IsBlockTallied, IsStart, StartsBlock, bits_of_block, block_distortion, has_none}
use Rattle.requantiser.specs.Private.Walk.{coarsened_block, coarsened_blocks, coarsened_pairs, mapped_code, new_level}
use Rattle.requantiser.proofs.BlockChanges.{block_changes-are}
use Rattle.requantiser.proofs.Macroblocks.{coarsened_blocks-are, get_or-coarsened, one_block}
use Rattle.requantiser.proofs.MappedCodes.{mapped_code-is}
use Rattle.requantiser.proofs.Patterns.{bit_of, one_bit_more, one_block_bit, bit_of-most, only_pattern}
use Rattle.requantiser.proofs.Sums.{difference_of-blocks, one_more_number, no_more_number}

-- one more item of a list, each with its number
pub one_more_is : {A : Type 0} (Q : ℕ → A → Type 0) (now : List A) (k : ℕ) (x : A) → k < length now → Q k x → ((j : ℕ) (d : A) → j < k → Q j (get_or now j d))
    → (j : ℕ) (d : A) → j < k + 1 → Q j (get_or (slice_set now k x) j d)
one_more_is Q now k x within is each j d below = by_place (cases_order j k)
  where
    by_place : (j ≡ k) ⊎ ((j < k) ⊎ (k < j)) → Q j (get_or (slice_set now k x) j d)
    by_place (inl here) = subst (λ n. Q n (get_or (slice_set now k x) n d)) (sym here) (subst (Q k) (sym (get_or-set_same now k x d within)) is)
    by_place (inr (inl there)) = subst (Q j) (sym (get_or-set_other now k j x d (λ e. absurd (omega arith)))) (each j d there)
    by_place (inr (inr past)) = absurd (omega arith)

-- a block by its codes
pub rescaled_tally : (seq : SeqState) (coding : PicCoding) (way : BlockWay) (code mapped from to : ℕ) (weights : List ℕ) (pairs : List RunLevel) (before behind : Tally)
    → weights ≡ (if way.intra then seq.intra else seq.non_intra) → from ≡ scale_of coding code → to ≡ scale_of coding mapped
    → IsBlockTallied way (new_level_in weights coding.alternate_scan way.intra from to) (change_in weights coding.alternate_scan way.intra from to) pairs before behind
    → IsBlockTallied way (new_level seq coding way code mapped) (block_change seq coding way code mapped) pairs before behind
rescaled_tally seq coding way code mapped from to weights pairs before behind w f t is =
    let matrix : List ℕ = if way.intra then seq.intra else seq.non_intra in
    subst (λ n. IsBlockTallied way (new_level_in matrix coding.alternate_scan way.intra (scale_of coding code) n) (change_in matrix coding.alternate_scan way.intra (scale_of coding code) n)
    pairs before behind) t
    (subst (λ n. IsBlockTallied way (new_level_in matrix coding.alternate_scan way.intra n to) (change_in matrix coding.alternate_scan way.intra n to) pairs before behind) f
    (subst (λ ws. IsBlockTallied way (new_level_in ws coding.alternate_scan way.intra from to) (change_in ws coding.alternate_scan way.intra from to) pairs before behind) w is))

shown-none : (items : List RunLevel) → flag (not (has_none items)) ≡ flag (not (elim items [ [] ↦ true | pair ∷ pairs ↦ false ]))
shown-none [] = refl
shown-none (pair ∷ pairs) = refl

beyond-is : (all none before behind : ℕ) → behind + none ≡ before + all → before ≤ behind → behind ≡ before + (all - none)
beyond-is all none before behind is less = omega (arith, is, less)

-- one more block was counted
pub one_more_tallied : (seq : SeqState) (coding : PicCoding) (kind : Kind) (code : ℕ) (blocks : List Block) (i : ℕ) (d : Block) (start before behind : Tally) → i < 6
    → (let block : Block = get_or blocks i d in block ≡ get_or blocks i no_block)
    → (let block : Block = get_or blocks i no_block in FitBlock (first_place (block_way coding kind i)) block.pairs.items)
    → (let block : Block = get_or blocks i d in IsBlockTallied (block_way coding kind i) (new_level seq coding (block_way coding kind i) code before.target.code)
    (block_change seq coding (block_way coding kind i) code before.target.code) block.pairs.items before behind)
    → AreBlocksTallied seq coding kind code blocks i start before → AreBlocksTallied seq coding kind code blocks (i + 1) start behind
one_more_tallied seq coding kind code blocks i d start before behind below same fit is was =
    let way : BlockWay = block_way coding kind i in
    let mapped : ℕ = start.target.code in
    let made : List Block = coarsened_blocks seq coding kind code mapped blocks in
    let source : Block = get_or blocks i no_block in
    let here : IsBlockTallied way (new_level seq coding way code mapped) (block_change seq coding way code mapped) source.pairs.items before behind =
    subst (λ n. IsBlockTallied way (new_level seq coding way code n) (block_change seq coding way code n) source.pairs.items before behind) (ap (λ t. t.code) was.target)
    (subst (λ (b : Block). IsBlockTallied way (new_level seq coding way code before.target.code) (block_change seq coding way code before.target.code) b.pairs.items before behind) same is) in
    let block : get_or made i no_block ≡ coarsened_block seq coding way code mapped source = get_or-coarsened seq coding kind code mapped blocks i below in
    let six : length made ≡ 6 = length-map-range_with_len (one_block seq coding kind code mapped blocks) 0 6 in
    let bit : flag (not (has_none (coarsened_pairs (new_level seq coding way code mapped) (first_place way) 0 source.pairs.items))) ≡ bit_of (get_or made i no_block) =
    shown-none (coarsened_pairs (new_level seq coding way code mapped) (first_place way) 0 source.pairs.items) ∙ ap bit_of (sym block) in
    let shown : behind.pattern ≡ 2 * before.pattern + flag (not (has_none (coarsened_pairs (new_level seq coding way code mapped) (first_place way) 0 source.pairs.items))) = here.pattern in
    let bits : behind.bits ≡ before.bits + bits_of_block coding kind made i =
    beyond-is _ _ before.bits behind.bits here.bits here.no_less ∙ ap (λ (b : Block). before.bits + bits_beyond way b.pairs.items) (sym block) in
    let f : ℕ → ℕ → ℤ = coefficient_of_blocks seq coding kind code blocks in
    let g : ℕ → ℕ → ℤ = coefficient_of_blocks seq coding kind mapped made in
    let moved : behind.distortion ≡ before.distortion + block_distortion f g i =
    here.distortion ∙ ap (λ n. before.distortion + n) (block_changes-are seq coding kind code mapped blocks i below fit) in
    record {
      target = here.target ∙ was.target;
      next = here.next;
      pattern = ap (λ n. n * 2 ^ (6 - (i + 1)) + pattern_of (drop (i + 1) made)) shown
          ∙ one_block_bit before.pattern (flag (not (has_none (coarsened_pairs (new_level seq coding way code mapped) (first_place way) 0 source.pairs.items)))) i made no_block _
          (omega (arith, six, below)) six bit was.pattern;
      bits = ap (λ n. n + sum_from (bits_of_block coding kind made) (i + 1) (6 - (i + 1))) bits
          ∙ one_more_number (bits_of_block coding kind made) before.bits i 6 (bits_of_block coding kind made i) _ below refl was.bits;
      distortion = ap (λ n. n + sum_from (block_distortion f g) (i + 1) (6 - (i + 1))) moved
          ∙ one_more_number (block_distortion f g) before.distortion i 6 (block_distortion f g i) _ below refl was.distortion;
      small_pattern = subst (λ n. n < 2 ^ (i + 1)) (sym shown) (one_bit_more before.pattern _ i was.small_pattern (omega (arith, bit, bit_of-most (get_or made i no_block))));
      few = omega (arith, here.few, was.few);
      small = omega (arith, here.small, was.small);
    }

-- nothing was counted
pub none_tallied : (seq : SeqState) (coding : PicCoding) (kind : Kind) (code : ℕ) (blocks : List Block) (start : Tally) → IsStart coding kind.intra start
    → AreBlocksTallied seq coding kind code blocks 0 start start
none_tallied seq coding kind code blocks start is = record {
  target = refl;
  next = is.next;
  pattern = omega (arith, is.pattern, ap (λ n. n * 2 ^ 6) is.pattern);
  bits = omega (arith, is.bits);
  distortion = omega (arith, is.distortion);
  small_pattern = omega (arith, is.pattern);
  few = omega (arith, is.bits);
  small = omega (arith, is.distortion);
}

-- there is room for one more block
pub room_for_block : (seq : SeqState) (coding : PicCoding) (kind : Kind) (code : ℕ) (blocks : List Block) (i : ℕ) (start tally : Tally) (way : BlockWay) → i < 6 → way.intra ≡ kind.intra
    → AreBlocksTallied seq coding kind code blocks i start tally → StartsBlock way tally
room_for_block seq coding kind code blocks i start tally way below intra was = record {
  next = was.next ∙ ap (λ b. if b then 1 else 0) (sym intra);
  bits = omega (arith, was.few, below);
  distortion = omega (arith, was.small, below);
  pattern = omega (arith, was.small_pattern, power i below);
}
  where
    power : (i : ℕ) → i < 6 → 2 ^ i ≤ 32
    power zero below = omega arith
    power (suc zero) below = omega arith
    power (suc (suc zero)) below = omega arith
    power (suc (suc (suc zero))) below = omega arith
    power (suc (suc (suc (suc zero)))) below = omega arith
    power (suc (suc (suc (suc (suc zero))))) below = omega arith
    power (suc (suc (suc (suc (suc (suc i)))))) below = absurd (omega arith)

-- all blocks were counted
pub all_tallied : (seq : SeqState) (coding : PicCoding) (m code : ℕ) (from : Macroblock) (start tally : Tally) → length from.blocks ≡ 6
    → start.target.code ≡ mapped_code coding.q_scale_type m code → AreBlocksTallied seq coding from.kind code from.blocks 6 start tally → IsTallyOf seq coding code m from tally
unfolding sum_from
all_tallied seq coding m code from start tally six mapped was =
    let target : tally.target.code ≡ start.target.code = ap (λ t. t.code) was.target in
    let f : ℕ → ℕ → ℤ = coefficient_of_blocks seq coding from.kind code from.blocks in
    let made : List Block = coarsened_blocks seq coding from.kind code tally.target.code from.blocks in
    let before : List Block = coarsened_blocks seq coding from.kind code start.target.code from.blocks in
    let same : before ≡ made = ap (λ n. coarsened_blocks seq coding from.kind code n from.blocks) (sym target) in
    let g : ℕ → ℕ → ℤ = coefficient_of_blocks seq coding from.kind start.target.code before in
    let length_is : length before ≡ 6 = length-map-range_with_len (one_block seq coding from.kind code start.target.code from.blocks) 0 6 in
    record {
      mapped = subst (IsMappedCode coding.q_scale_type code m) (sym (target ∙ mapped)) (mapped_code-is coding.q_scale_type m code);
      blocks = made;
      coarser = coarsened_blocks-are seq coding from.kind code tally.target.code from.blocks six;
      pattern = only_pattern tally.pattern 6 before _ (omega (arith, length_is)) length_is was.pattern ∙ ap pattern_of same;
      bits = no_more_number (bits_of_block coding from.kind before) tally.bits 6 6 _ (omega arith) was.bits ∙ ap (λ bs. sum_from (bits_of_block coding from.kind bs) 0 6) same;
      few = omega (arith, was.few);
      distortion = no_more_number (block_distortion f g) tally.distortion 6 6 _ (omega arith) was.distortion ∙ difference_of-blocks f g
          ∙ ap₂ (λ n bs. difference_of f (coefficient_of_blocks seq coding from.kind n bs)) (sym target) same;
      small = omega (arith, was.small);
    }
