-- Each macroblock that is drawn is one that some bits spell.
use Rattle.std.proofs.Common.{
  ◌≡◌,
  ◌⊎◌,
  ◌+◌,
  ◌*◌,
  ◌/◌,
  ◌<◌,
  ◌≤◌,
  ◌^◌,
  ◌==◌,
  ◌&&◌,
  ◌||◌,
  ℕ,
  zero,
  suc,
  unsigned_abs,
  nat_lt,
  not,
  is_some,
  Option,
  Some,
  None,
  List,
  [],
  ◌∷◌,
  ◌++◌,
  length,
  slice_index_or,
  Bool,
  true,
  false,
  cond,
  refl,
  sym,
  ap,
  subst,
  ◌∙◌,
  inl,
  inr,
  arith,
}
use Rattle.std.specs.List.{AllByRecursion, list_all, range_with_len, sum_by}
use Rattle.std.proofs.lemmas.Nat.{mod_below}
use Rattle.std.proofs.lemmas.Bool.{and_parts, cases_lt, le-leb, ne_eqb}
use Rattle.std.proofs.lemmas.List.Sums.{sum_by-cons}
use Rattle.prefix_codes.proofs.Computing.{tables}
use Rattle.prefix_codes.specs.TableName.{code_in}
use Rattle.prefix_codes.specs.declared.table_name.TableName.TheVariants.{Pattern}
use Rattle.bit_lists.specs.Bits.{bits_of}
use Rattle.syntax_types.specs.declared.block.RunLevel.{RunLevel}
use Rattle.syntax_types.specs.declared.macroblock.Kind.{Kind}
use Rattle.syntax_types.specs.declared.macroblock.Macroblock.{Macroblock}
use Rattle.picture_grammar.specs.Refusal.Refusal.{BadPattern}
use Rattle.picture_grammar.specs.Grammar.{optional, when}
use Rattle.picture_grammar.specs.Element.{vlclbf}
use Rattle.picture_grammar.specs.Block.{dc_coefficient, first_place, signed}
use Rattle.picture_grammar.specs.Motion.{motion_vectors}
use Rattle.picture_grammar.specs.Macroblock.{
  address_increment,
  most_increment,
  macroblock_type,
  motion_type,
  dct_type,
  quantiser_scale_code,
  has_forward,
  f_codes,
  motion_format,
  block_way,
  is_coded,
  no_block,
  macroblock,
  type_table,
  type_symbol,
}
use Rattle.picture_grammar.specs.Written.{written_macroblock}
use Rattle.picture_grammar.proofs.WrittenBlock.{unsigned_abs-signed}
use Rattle.picture_laws.specs.Spellable.{IsSpellable, HasSpellableCoefficients, IsSpellableBlock, AreSpellableBlocks, HasSpellableParts}
use Rattle.picture_laws.proofs.Computing.{said, answers}
use Rattle.picture_laws.proofs.DecidedPictures.{decided-vectors, decided-dc}
use Rattle.picture_laws.proofs.ReadBack.{spellable}
use Rattle.picture_laws.proofs.WrittenBlocks.{of_blocks}
use Rattle.picture_laws.proofs.WrittenMacroblock.{anywhere-macroblock}
use Rattle.program_maker.specs.Draws.{Drawn, state_after, pick, draw_each}
use Rattle.program_maker.specs.Heads.{coding_of}
use Rattle.program_maker.specs.Macroblocks.{
  run_level,
  number_of_pairs,
  coded_block,
  block_at,
  intra_kind,
  predicted,
  drawn_kind,
  code_by_chance,
  quantiser_code,
  coded_pattern,
  drawn_blocks,
  still,
  macroblock_of,
  drawn_macroblock,
}
use Rattle.program_maker.proofs.Drawing.{number-each}

-- ---- numbers that are drawn

pub pick-below : (n state : ℕ) → 0 < n → (pick n state).0 < n
unfolding pick
pick-below n state some = mod_below (state_after state / 2 ^ 32) n some

-- ---- blocks

-- a run below 4 and a level of 1 to 6, with either sign
pub record IsSmall (pair : RunLevel) : Type 0 where
  pub run : pair.run < 4
  pub least : 0 < unsigned_abs pair.level
  pub most : unsigned_abs pair.level < 7

small : (state : ℕ) → IsSmall (run_level state).0
unfolding run_level
small state =
    let behind_run = (pick 4 state).1 in
    let behind_size = (pick 6 behind_run).1 in
    let size = (pick 6 behind_run).0 in
    let below : size < 6 = pick-below 6 behind_run (omega arith) in
    let is : unsigned_abs (signed (1 + size) ((pick 2 behind_size).0 == 1)) ≡ 1 + size = unsigned_abs-signed (1 + size) ((pick 2 behind_size).0 == 1) in
    record {
      run = pick-below 4 state (omega arith);
      least = omega (arith, is);
      most = omega (arith, is, below);
    }

smalls : (n a state : ℕ) → AllByRecursion IsSmall (draw_each (range_with_len a n) (λ _. run_level) state).0
smalls zero a state = tt
smalls (suc n) a state = (small state, smalls n (a + 1) (run_level state).1)

places : (pairs : List RunLevel) → AllByRecursion IsSmall pairs → sum_by (λ (pair : RunLevel). pair.run + 1) pairs ≤ 4 * length pairs
places [] are = omega arith
places (pair ∷ pairs) (is, are) =
    let others = places pairs are in
    let run = is.run in
    let sum : sum_by (λ (p : RunLevel). p.run + 1) (pair ∷ pairs) ≡ pair.run + 1 + sum_by (λ (p : RunLevel). p.run + 1) pairs = sum_by-cons (λ (p : RunLevel). p.run + 1) pair pairs in
    omega (arith, others, run, sum)

levels : (pairs : List RunLevel) → AllByRecursion IsSmall pairs
    → AllByRecursion (λ pair. (0 < unsigned_abs pair.level) × (unsigned_abs pair.level < 2 ^ 11)) pairs
levels [] are = tt
levels (pair ∷ pairs) (is, are) = ((is.least, omega (arith, is.most)), levels pairs are)

few : (intra : Bool) (state : ℕ) → (number_of_pairs intra state).0 < 8
few true state = pick-below 8 state (omega arith)
few false state = let below = pick-below 7 state (omega arith) in omega (arith, below)

some-pairs : (intra : Bool) (state : ℕ) → (intra ≡ true) ⊎ (0 < (number_of_pairs intra state).0)
some-pairs true state = inl refl
some-pairs false state = inr (omega arith)

dc-spelled : (intra luma : Bool) → IsSpellable (optional intra (dc_coefficient (record { intra = intra; luma = luma; vlc_one = false })))
    (cond intra (Some (record { size = 0; bits = 0 })) None)
unfolding answers
dc-spelled true true =
    let bits : List ℕ = 1 ∷ 0 ∷ 0 ∷ [] in
    spellable _ _ bits [] (record { size = 0; bits = 0 }, [], (said (decided-dc (record { intra = true; luma = true; vlc_one = false })) bits refl).0, (refl, refl))
dc-spelled true false =
    let bits : List ℕ = 0 ∷ 0 ∷ [] in
    spellable _ _ bits [] (record { size = 0; bits = 0 }, [], (said (decided-dc (record { intra = true; luma = false; vlc_one = false })) bits refl).0, (refl, refl))
dc-spelled false luma = spellable _ _ [] [] (refl, refl)

first-most : (intra luma : Bool) → first_place (record { intra = intra; luma = luma; vlc_one = false }) ≤ 1
first-most true luma = omega arith
first-most false luma = omega arith

block-spelled : (intra luma : Bool) (state : ℕ) → HasSpellableCoefficients (record { intra = intra; luma = luma; vlc_one = false }) (coded_block intra state).0
unfolding coded_block
block-spelled intra luma state =
    let number = (number_of_pairs intra state).0 in
    let behind = (number_of_pairs intra state).1 in
    let pairs : List RunLevel = (draw_each (range_with_len 0 number) (λ _. run_level) behind).0 in
    let are : AllByRecursion IsSmall pairs = smalls number 0 behind in
    let count : length pairs ≡ number = number-each (λ _. run_level) number behind in
    let least = few intra state in
    let sum = places pairs are in
    let first : first_place (record { intra = intra; luma = luma; vlc_one = false }) ≤ 1 = first-most intra luma in
    record {
      dc = dc-spelled intra luma;
      places = omega (arith, count, least, sum, first);
      levels = levels pairs are;
      some = elim (some-pairs intra state) [ inl is ↦ inl is | inr more ↦ inr (omega (arith, count, more)) ];
    }

where_coded : (predicted coded : Bool) (kind : Kind) (i state : ℕ) → IsSpellableBlock coded (block_way (coding_of predicted) kind i)
    (cond coded (coded_block kind.intra) (λ (s : ℕ). (no_block, s)) state).0
where_coded predicted true kind i state = block-spelled kind.intra (nat_lt i 4) state
where_coded predicted false kind i state = refl

at-spelled : (predicted : Bool) (kind : Kind) (pattern i state : ℕ)
    → IsSpellableBlock (is_coded kind pattern i) (block_way (coding_of predicted) kind i) (block_at kind pattern i state).0
unfolding block_at
at-spelled predicted kind pattern i state = where_coded predicted (is_coded kind pattern i) kind i state

-- the thing at a place is drawn from some state
thing-at : {A : Type 0} (thing : ℕ → Drawn A) (n a i start : ℕ) (default : A) → i < n
    → (state : ℕ) × (slice_index_or (draw_each (range_with_len a n) thing start).0 i default ≡ (thing (a + i) state).0)
thing-at thing zero a i start default lt = absurd (omega (arith, lt))
thing-at thing (suc n) a zero start default lt = (start, ap (λ k. (thing k start).0) (let e : a ≡ a + 0 = omega arith in e))
thing-at thing (suc n) a (suc i) start default lt =
    let (state, e) = thing-at thing n (a + 1) i (thing a start).1 default (omega (arith, lt)) in
    (state, e ∙ ap (λ k. (thing k state).0) (let f : a + 1 + i ≡ a + suc i = omega arith in f))

blocks-spelled : (predicted : Bool) (kind : Kind) (pattern state : ℕ) → AreSpellableBlocks (coding_of predicted) kind pattern (drawn_blocks kind pattern state).0
blocks-spelled predicted kind pattern state = record {
  six = number-each (block_at kind pattern) 6 state;
  each = λ i lt.
      let (from, e) = thing-at (block_at kind pattern) 6 0 i state no_block lt in
      let way = block_way (coding_of predicted) kind i in
      let at : 0 + i ≡ i = omega arith in
      subst (IsSpellableBlock (is_coded kind pattern i) way) (sym (e ∙ ap (λ k. (block_at kind pattern k from).0) at)) (at-spelled predicted kind pattern i from);
}

-- ---- macroblocks

abbrev has_code : ℕ → Bool
has_code pattern = is_some (code_in Pattern pattern)

have_codes : list_all has_code (range_with_len 1 63) ≡ true
unfolding tables
have_codes = refl

within_range : (test : ℕ → Bool) (n a p : ℕ) → list_all test (range_with_len a n) ≡ true → a ≤ p → p < a + n → test p ≡ true
within_range test zero a p all least most = absurd (omega (arith, least, most))
within_range test (suc n) a p all least most =
    let parts = and_parts (test a) (list_all test (range_with_len (a + 1) n)) all in
    elim (cases_lt a p) [
      | inl below ↦ within_range test n (a + 1) p parts.1 (omega (arith, below)) (omega (arith, most))
      | inr above ↦ (let e : a ≡ p = omega (arith, above, least) in subst (λ k. test k ≡ true) e parts.0)
    ]

the_code : (o : Option (List ℕ)) → is_some o ≡ true → (code : List ℕ) × (o ≡ Some code)
the_code (Some code) e = (code, refl)
the_code None e = absurd (let f : false ≡ true = e in cc)

pattern-spelled : (stands : Bool) (state : ℕ) → IsSpellable (when stands (vlclbf Pattern BadPattern []) 0) (coded_pattern stands state).0
unfolding coded_pattern
pattern-spelled true state =
    let below = pick-below 63 state (omega arith) in
    let p = 1 + (pick 63 state).0 in
    let (code, listed) = the_code (code_in Pattern p) (within_range has_code 63 1 p have_codes (omega arith) (omega (arith, below))) in
    spellable (vlclbf Pattern BadPattern []) p (code ++ []) [] (code, listed, refl, refl)
pattern-spelled false state = spellable (when false (vlclbf Pattern BadPattern []) 0) 0 [] [] (refl, refl)

-- the parts of a macroblock before its pattern are spelled
record IsFrontSpelled (p : Bool) (kind : Kind) (code : Option ℕ) : Type 0 where
  kind_is : IsSpellable (macroblock_type (coding_of p)) (record kind { quant = is_some code })
  motion_type_is : IsSpellable (motion_type (coding_of p) (record kind { quant = is_some code })) 2
  field_dct_is : IsSpellable (dct_type (coding_of p) (record kind { quant = is_some code })) false
  code_is : IsSpellable (optional (is_some code) quantiser_scale_code) code
  forward_is : IsSpellable (when (has_forward (coding_of p) kind) (motion_vectors (f_codes (coding_of p) 0) (motion_format (coding_of p) 2)) [])
      (cond kind.forward (still ∷ []) [])
  backward_is : IsSpellable (when kind.backward (motion_vectors (f_codes (coding_of p) 1) (motion_format (coding_of p) 2)) []) []

one-more : (most : ℕ) → 1 ≤ most → IsSpellable (address_increment most) 1
unfolding tables
one-more most some = spellable (address_increment most) 1 (1 ∷ []) []
    (([], 1), [], (1, [], (1 ∷ [], refl, ap (λ (b : Bool). b && true) (le-leb (33 * 0 + 1) most (omega (arith, some))), refl), (refl, refl)), (refl, refl))

most-one : (p first : Bool) (columns : ℕ) → 1 ≤ columns → 1 ≤ most_increment (coding_of p) first columns
most-one true first columns some = some
most-one false true columns some = some
most-one false false columns some = omega (arith, some)

-- a macroblock of a kind behind its code
abbrev made : Kind → Option ℕ × ℕ → Macroblock
made kind drawn =
    let pattern = coded_pattern kind.pattern drawn.1 in
    macroblock_of kind drawn.0 pattern.0 (drawn_blocks kind pattern.0 pattern.1).0

abbrev HasParts : Bool → Bool → ℕ → Macroblock → Type 0
HasParts p first columns m = HasSpellableParts (coding_of p) first columns m

motion-usual : (forward : Bool) → IsSpellable (motion_type (coding_of true) (predicted forward false)) 2
motion-usual true = spellable _ _ [] [] (refl, refl)
motion-usual false = spellable _ _ [] [] (refl, refl)

parts-made : (p first : Bool) (columns : ℕ) → 1 ≤ columns → (kind : Kind) (drawn : Option ℕ × ℕ) → IsFrontSpelled p kind drawn.0 → HasParts p first columns (made kind drawn)
parts-made p first columns some kind drawn front =
    let pattern = coded_pattern kind.pattern drawn.1 in
    record {
      increment = one-more (most_increment (coding_of p) first columns) (most-one p first columns some);
      kind = front.kind_is;
      motion_type = front.motion_type_is;
      field_dct = front.field_dct_is;
      code = front.code_is;
      forward = front.forward_is;
      backward = front.backward_is;
      pattern = pattern-spelled kind.pattern drawn.1;
      blocks = of_blocks (coding_of p) kind pattern.0 (drawn_blocks kind pattern.0 pattern.1).0 (blocks-spelled p kind pattern.0 pattern.1);
    }

no-code : IsSpellable (optional false quantiser_scale_code) None
no-code = spellable (optional false quantiser_scale_code) None [] [] (refl, refl)

some-code : (code : ℕ) → code < 31 → IsSpellable (optional true quantiser_scale_code) (Some (1 + code))
some-code code below =
    let n = 1 + code in
    spellable (optional true quantiser_scale_code) (Some n) (bits_of 5 n ++ []) []
    (n, [], (bits_of 5 n, (omega (arith, below), refl), ap (λ (b : Bool). not b && true) (ne_eqb n 0 (λ e. omega (arith, e))), refl), (refl, refl))

vectors-spelled : IsSpellable (when true (motion_vectors (f_codes (coding_of true) 0) (motion_format (coding_of true) 2)) []) (still ∷ [])
unfolding answers
vectors-spelled = spellable _ _ (1 ∷ 1 ∷ []) []
    (said (decided-vectors true (f_codes (coding_of true) 0) (motion_format (coding_of true) 2)) (1 ∷ 1 ∷ []) refl).0

-- a macroblock_type by its bits
type-spelled : (p : Bool) (kind : Kind) (code : List ℕ) → code_in (type_table (coding_of p)) (type_symbol kind) ≡ Some code → IsSpellable (macroblock_type (coding_of p)) kind
type-spelled p kind code listed = spellable (macroblock_type (coding_of p)) kind (code ++ []) [] (code, listed, refl, refl)

-- with intra macroblocks no vectors stand
intra-front : (p : Bool) (code : Option ℕ) → IsSpellable (macroblock_type (coding_of p)) (record intra_kind { quant = is_some code })
    → IsSpellable (optional (is_some code) quantiser_scale_code) code → IsFrontSpelled p intra_kind code
intra-front p code kind_is code_is = record {
  kind_is = kind_is;
  motion_type_is = spellable _ _ [] [] (refl, refl);
  field_dct_is = spellable _ _ [] [] (refl, refl);
  code_is = code_is;
  forward_is = spellable _ _ [] [] (refl, refl);
  backward_is = spellable _ _ [] [] (refl, refl);
}

vectors-front : (forward : Bool) → IsSpellable (when forward (motion_vectors (f_codes (coding_of true) 0) (motion_format (coding_of true) 2)) []) (cond forward (still ∷ []) [])
vectors-front true = vectors-spelled
vectors-front false = spellable _ _ [] [] (refl, refl)

or-false : (b : Bool) → (b || false) ≡ b
or-false true = refl
or-false false = refl

predicted-front : (forward pattern : Bool) (code : Option ℕ) → IsSpellable (macroblock_type (coding_of true)) (record (predicted forward pattern) { quant = is_some code })
    → IsSpellable (optional (is_some code) quantiser_scale_code) code → IsFrontSpelled true (predicted forward pattern) code
predicted-front forward pattern code kind_is code_is = record {
  kind_is = kind_is;
  motion_type_is = motion-usual forward;
  field_dct_is = spellable _ _ [] [] (refl, refl);
  code_is = code_is;
  forward_is =
      subst (λ (stands : Bool). IsSpellable (when stands (motion_vectors (f_codes (coding_of true) 0) (motion_format (coding_of true) 2)) []) (cond forward (still ∷ []) []))
      (sym (or-false forward)) (vectors-front forward);
  backward_is = spellable _ _ [] [] (refl, refl);
}

intra-types : (p : Bool) (quant : Bool) → IsSpellable (macroblock_type (coding_of p)) (record intra_kind { quant = quant })
unfolding tables
intra-types false false = type-spelled false _ (1 ∷ []) refl
intra-types false true = type-spelled false _ (0 ∷ 1 ∷ []) refl
intra-types true false = type-spelled true _ (0 ∷ 0 ∷ 0 ∷ 1 ∷ 1 ∷ []) refl
intra-types true true = type-spelled true _ (0 ∷ 0 ∷ 0 ∷ 0 ∷ 0 ∷ 1 ∷ []) refl

moved-type : IsSpellable (macroblock_type (coding_of true)) (predicted true false)
unfolding tables
moved-type = type-spelled true _ (0 ∷ 0 ∷ 1 ∷ []) refl

patterned-types : (forward quant : Bool) → IsSpellable (macroblock_type (coding_of true)) (record (predicted forward true) { quant = quant })
unfolding tables
patterned-types false false = type-spelled true _ (0 ∷ 1 ∷ []) refl
patterned-types false true = type-spelled true _ (0 ∷ 0 ∷ 0 ∷ 0 ∷ 1 ∷ []) refl
patterned-types true false = type-spelled true _ (1 ∷ []) refl
patterned-types true true = type-spelled true _ (0 ∷ 0 ∷ 0 ∷ 1 ∷ 0 ∷ []) refl

either : {A : Type 0} (P : A → Type 0) (b : Bool) (x y : A) → P x → P y → P (cond b x y)
either P true x y px py = px
either P false x y px py = py

module _ (p first : Bool) (columns : ℕ) (some : 1 ≤ columns) where
  -- whatever code is drawn
  any-code : (kind : Kind) → ((quant : Bool) → IsSpellable (macroblock_type (coding_of p)) (record kind { quant = quant }))
      → ((code : Option ℕ) → IsSpellable (macroblock_type (coding_of p)) (record kind { quant = is_some code })
      → IsSpellable (optional (is_some code) quantiser_scale_code) code → IsFrontSpelled p kind code)
      → (state : ℕ) → HasParts p first columns (made kind (code_by_chance (pick 8 state).0 (pick 8 state).1))
  any-code kind types front state =
      let behind = (pick 8 state).1 in
      let code = pick 31 behind in
      either (λ (make : ℕ → Option ℕ × ℕ). HasParts p first columns (made kind (make behind))) ((pick 8 state).0 == 0)
      (λ s. (Some (1 + (pick 31 s).0), (pick 31 s).1)) (λ s. (None, s))
      (parts-made p first columns some kind (Some (1 + code.0), code.1) (front (Some (1 + code.0)) (types true) (some-code code.0 (pick-below 31 behind (omega arith)))))
      (parts-made p first columns some kind (None, behind) (front None (types false) no-code))

  intra-parts : (state : ℕ) → HasParts p first columns (made intra_kind (quantiser_code intra_kind state))
  unfolding quantiser_code
  intra-parts state = any-code intra_kind (intra-types p) (intra-front p) state

module _ (first : Bool) (columns : ℕ) (some : 1 ≤ columns) where
  moved-parts : (state : ℕ) → HasParts true first columns (made (predicted true false) (quantiser_code (predicted true false) state))
  unfolding quantiser_code
  moved-parts state = parts-made true first columns some (predicted true false) (None, state) (predicted-front true false None moved-type no-code)

  patterned-parts : (forward : Bool) (state : ℕ) → HasParts true first columns (made (predicted forward true) (quantiser_code (predicted forward true) state))
  unfolding quantiser_code
  patterned-parts forward state = any-code true first columns some (predicted forward true) (patterned-types forward) (predicted-front forward true) state

pub drawn-parts : (p first : Bool) (columns state : ℕ) → 1 ≤ columns → HasSpellableParts (coding_of p) first columns (drawn_macroblock p state).0
unfolding drawn_macroblock drawn_kind
drawn-parts true first columns state some =
    let behind = (pick 4 state).1 in
    let choice = (pick 4 state).0 in
    let P : Kind → Type 0 = λ kind. HasParts true first columns (made kind (quantiser_code kind behind)) in
    either P (choice == 0) (predicted true false) _ (moved-parts first columns some behind)
    (either P (choice == 1) (predicted false true) _ (patterned-parts first columns some false behind)
    (either P (choice == 2) (predicted true true) intra_kind (patterned-parts first columns some true behind) (intra-parts true first columns some behind)))
drawn-parts false first columns state some = intra-parts false first columns some state

-- some bits spell it
pub drawn-spelled : (p first : Bool) (columns state : ℕ) → 1 ≤ columns → IsSpellable (macroblock (coding_of p) first columns) (drawn_macroblock p state).0
drawn-spelled p first columns state some =
    spellable (macroblock (coding_of p) first columns) (drawn_macroblock p state).0 (written_macroblock (coding_of p) (drawn_macroblock p state).0 ++ []) []
    ((anywhere-macroblock (coding_of p) first columns (drawn_macroblock p state).0 (drawn-parts p first columns state some)).before [])
