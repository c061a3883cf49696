-- A block that some bits spell is spelled by its written spelling, whatever follows it.
use Rattle.std.proofs.Common.{
  ◌≡◌,
  ℕ,
  zero,
  suc,
  ℤ,
  pos,
  negsuc,
  neg_ℤ,
  unsigned_abs,
  ◌+◌,
  ◌-◌,
  ◌^◌,
  ◌<◌,
  ◌&&◌,
  List,
  [],
  ◌∷◌,
  ◌++◌,
  Option,
  Some,
  None,
  unwrap_or,
  Bool,
  true,
  false,
  cond,
  nat_lt,
  int_lt,
  if◌then◌else◌,
  refl,
  sym,
  ap,
  ap₂,
  subst,
  ◌∙◌,
  inl,
  inr,
  append_assoc,
  add-zero,
  arith,
}
use Rattle.std.specs.Option.{option_map_or}
use Rattle.std.proofs.lemmas.Bool.{and_parts, and_from, cases_lt, lt-ltb, le-ltb}
use Rattle.std.proofs.lemmas.List.Sums.{sum_by-append}
use Rattle.bit_lists.specs.Bits.{bits_of}
use Rattle.bit_lists.specs.Fields.{flag}
use Rattle.prefix_codes.specs.declared.symbol.TheConstants.{END_OF_BLOCK, ESCAPE}
use Rattle.prefix_codes.specs.declared.table_name.TableName.{TableName}
use Rattle.prefix_codes.specs.TableName.{code_in, coefficient_code, code_for}
use Rattle.syntax_types.specs.declared.block.BlockWay.{BlockWay}
use Rattle.syntax_types.specs.declared.block.Block.{Block}
use Rattle.syntax_types.specs.declared.block.Dc.{Dc}
use Rattle.syntax_types.specs.declared.block.RunLevel.{RunLevel}
use Rattle.picture_grammar.specs.Grammar.{SpellsList, optional}
use Rattle.picture_grammar.specs.Grammar.Next.{more, last}
use Rattle.picture_grammar.specs.Refusal.Refusal.{NoCode, TooMany, BadEscape}
use Rattle.picture_grammar.specs.Element.{rule, passes, element}
use Rattle.picture_grammar.specs.Block.{
  dc_table,
  dc_coefficient,
  Coefficient,
  CoefficientCode,
  after_code,
  is_level,
  signed,
  escape_level,
  fits_in_block,
  next_place,
  coefficient_table,
  coefficient,
  block,
}
use Rattle.picture_grammar.specs.Block.Coefficient.{end_of_block, run_size, escape}
use Rattle.picture_grammar.specs.Written.{if_any, written_dc, level_bits, written_escape, written_coefficient, written_coefficients, written_block}

-- ---- signs and levels

pub unsigned_abs-signed : (size : ℕ) (negative : Bool) → unsigned_abs (signed size negative) ≡ size
unsigned_abs-signed size false = refl
unsigned_abs-signed zero true = refl
unsigned_abs-signed (suc n) true = refl

signed-unsigned_abs : (level : ℤ) → signed (unsigned_abs level) (int_lt level (pos 0)) ≡ level
signed-unsigned_abs (pos n) = ap (λ b. cond b (neg_ℤ (pos n)) (pos n)) (le-ltb n 0 (omega arith))
signed-unsigned_abs (negsuc n) = refl

level_bits-escape_level : (n : ℕ) → n < 2 ^ 12 → level_bits (escape_level n) ≡ n
level_bits-escape_level n lt = elim (cases_lt n 2048) [
  | inl small ↦ ap (λ b. level_bits (cond b (pos n) (neg_ℤ (pos (4096 - n))))) (lt-ltb n 2048 small)
  | inr large ↦
      let size : 4096 - n ≡ suc (4095 - n) = omega arith in
      ap (λ b. level_bits (cond b (pos n) (neg_ℤ (pos (4096 - n))))) (le-ltb n 2048 large)
      ∙ ap (λ k. level_bits (neg_ℤ (pos k))) size ∙ omega arith
]

-- the code of a symbol that has one
pub code_for-listed : (table : TableName) (symbol : ℕ) (code : List ℕ) → code_in table symbol ≡ Some code → code_for table symbol ≡ code
code_for-listed table symbol code listed = ap (λ o. unwrap_or o []) listed

module _ (way : BlockWay) (before : List RunLevel) where
  -- the pair is spelled as it is written, whatever follows
  abbrev pub Written : RunLevel → List ℕ → Type 0
  Written pair other = (coefficient way before).Spells (more pair) (written_coefficient (coefficient_table way (next_place way before)) pair ++ other) other

  -- by a code of the table
  pub by_table : (pair : RunLevel) (code other : List ℕ) → coefficient_code (coefficient_table way (next_place way before)) pair.run (unsigned_abs pair.level) ≡ Some code
      → nat_lt (next_place way before + pair.run) 64 ≡ true → Written pair other
  by_table pair code other listed within =
      let negative = int_lt pair.level (pos 0) in
      let written = ap (λ o. option_map_or (λ c. c ++ flag negative ∷ []) o (written_escape (coefficient_table way (next_place way before)) pair)) listed in
      let split : written_coefficient (coefficient_table way (next_place way before)) pair ++ other ≡ code ++ (flag negative ∷ other) =
      ap (λ c. c ++ other) written ∙ append_assoc code (flag negative ∷ []) other in (
        run_size pair.run (unsigned_abs pair.level),
        flag negative ∷ other,
        (code, listed, and_from (nat_lt (next_place way before + pair.run) 64) true within refl, split),
        (negative, other, (flag negative ∷ [], refl, refl, refl), (ap (λ (l : ℤ). more (record { run = pair.run; level = l })) (sym (signed-unsigned_abs pair.level)), refl)),
      )

  -- by an escape where the table has no code
  pub by_escape : (pair : RunLevel) (level : ℕ) (front other : List ℕ) → coefficient_code (coefficient_table way (next_place way before)) pair.run (unsigned_abs pair.level) ≡ None
      → code_in (coefficient_table way (next_place way before)) ESCAPE ≡ Some front → pair.run < 2 ^ 6 → level < 2 ^ 12 → escape_level level ≡ pair.level
      → passes (rule TooMany (fits_in_block (next_place way before)) ∷ rule BadEscape is_level ∷ []) (escape pair.run level) ≡ true → Written pair other
  by_escape pair level front other none listed run_fits level_fits level_is passing =
      let table = coefficient_table way (next_place way before) in
      let negative = int_lt pair.level (pos 0) in
      let bits : level_bits pair.level ≡ level = ap level_bits (sym level_is) ∙ level_bits-escape_level level level_fits in
      let written : written_coefficient table pair ≡ front ++ bits_of 6 pair.run ++ bits_of 12 level =
      ap (λ o. option_map_or (λ c. c ++ flag negative ∷ []) o (written_escape table pair)) none
      ∙ ap₂ (λ f n. f ++ bits_of 6 pair.run ++ bits_of 12 n) (code_for-listed table ESCAPE front listed) bits in (
        escape pair.run level,
        other,
        (front ++ bits_of 6 pair.run ++ bits_of 12 level, (front, listed, run_fits, level_fits, refl), passing, ap (λ c. c ++ other) written),
        (ap (λ (l : ℤ). more (record { run = pair.run; level = l })) (sym level_is), refl),
      )

  -- a coefficient that some bits spell is spelled as it is written
  pub coefficient_written : (pair : RunLevel) (bits middle other : List ℕ) → (coefficient way before).Spells (more pair) bits middle → Written pair other
  coefficient_written pair bits middle other (c, m, s, t) = by_code c m s t where
    either : (p : RunLevel) → ((code : List ℕ) → coefficient_code (coefficient_table way (next_place way before)) p.run (unsigned_abs p.level) ≡ Some code → Written p other)
        → (coefficient_code (coefficient_table way (next_place way before)) p.run (unsigned_abs p.level) ≡ None → Written p other) → Written p other
    either p some none = go (coefficient_code (coefficient_table way (next_place way before)) p.run (unsigned_abs p.level)) refl where
      go : (o : Option (List ℕ)) → coefficient_code (coefficient_table way (next_place way before)) p.run (unsigned_abs p.level) ≡ o → Written p other
      go (Some code) e = some code e
      go None e = none e

    by_code : (c : Coefficient) (m : List ℕ) → (element (CoefficientCode (coefficient_table way (next_place way before))) NoCode
        (rule TooMany (fits_in_block (next_place way before)) ∷ rule BadEscape is_level ∷ [])).Spells c bits m
        → (after_code c).Spells (more pair) m middle → Written pair other
    by_code end_of_block m s (e, f) = absurd (let e' : more pair ≡ last tt = e in cc)
    by_code (run_size run size) m (code, listed, passing, split) (negative, m', s', (e, f)) =
        let same : pair ≡ record { run = run; level = signed size negative } = cc in
        subst (λ p. Written p other) (sym same) (by_table (record { run = run; level = signed size negative }) code other
        (ap (λ n. coefficient_code (coefficient_table way (next_place way before)) run n) (unsigned_abs-signed size negative) ∙ listed)
        (and_parts (nat_lt (next_place way before + run) 64) true passing).0)
    by_code (escape run level) m (code, (front, listed, run_fits, level_fits, is), passing, split) (e, f) =
        let same : pair ≡ record { run = run; level = escape_level level } = cc in
        subst (λ p. Written p other) (sym same) (either (record { run = run; level = escape_level level })
        (λ code' found. by_table (record { run = run; level = escape_level level }) code' other found
        (and_parts (nat_lt (next_place way before + run) 64) (is_level (escape run level) && true) passing).0)
        (λ none. by_escape (record { run = run; level = escape_level level }) level front other none listed run_fits level_fits refl passing))

  -- and so is the end of block
  end_written : (bits middle other : List ℕ) → (coefficient way before).Spells (last tt) bits middle
      → (coefficient way before).Spells (last tt) (code_for (coefficient_table way (next_place way before)) END_OF_BLOCK ++ other) other
  end_written bits middle other (c, m, s, t) = by_code c m s t where
    by_code : (c : Coefficient) (m : List ℕ) → (element (CoefficientCode (coefficient_table way (next_place way before))) NoCode
        (rule TooMany (fits_in_block (next_place way before)) ∷ rule BadEscape is_level ∷ [])).Spells c bits m
        → (after_code c).Spells (last tt) m middle → (coefficient way before).Spells (last tt) (code_for (coefficient_table way (next_place way before)) END_OF_BLOCK ++ other) other
    by_code end_of_block m (code, listed, passing, split) (e, f) =
        (end_of_block, other, (code, listed, refl, ap (λ c. c ++ other) (code_for-listed (coefficient_table way (next_place way before)) END_OF_BLOCK code listed)), (refl, refl))
    by_code (run_size run size) m s (negative, m', s', (e, f)) = absurd (let e' : last tt ≡ more (record { run = run; level = signed size negative }) = e in cc)
    by_code (escape run level) m s (e, f) = absurd (let e' : last tt ≡ more (record { run = run; level = escape_level level }) = e in cc)

pub next_place-push : (way : BlockWay) (before : List RunLevel) (pair : RunLevel) → next_place way (before ++ pair ∷ []) ≡ next_place way before + (pair.run + 1)
next_place-push way before pair =
    ap (λ n. (if way.intra then 1 else 0) + n) (sum_by-append (λ (p : RunLevel). p.run + 1) before (pair ∷ [])) ∙ omega arith

list_written : (way : BlockWay) (before pairs : List RunLevel) (bits rest other : List ℕ) → SpellsList (coefficient way) before pairs tt bits rest
    → SpellsList (coefficient way) before pairs tt (written_coefficients way (next_place way before) pairs ++ other) other
list_written way before [] bits rest other s = end_written way before bits rest other s
list_written way before (pair ∷ pairs) bits rest other (middle, s, t) =
    let later = written_coefficients way (next_place way (before ++ pair ∷ [])) pairs ++ other in
    let split : written_coefficients way (next_place way before) (pair ∷ pairs) ++ other ≡ written_coefficient (coefficient_table way (next_place way before)) pair ++ later =
    append_assoc (written_coefficient (coefficient_table way (next_place way before)) pair) (written_coefficients way (next_place way before + (pair.run + 1)) pairs) other
    ∙ ap (λ n. written_coefficient (coefficient_table way (next_place way before)) pair ++ (written_coefficients way n pairs ++ other)) (sym (next_place-push way before pair)) in (
      later,
      subst (λ b. (coefficient way before).Spells (more pair) b later) (sym split) (coefficient_written way before pair bits middle later s),
      list_written way (before ++ pair ∷ []) pairs middle rest other t,
    )

-- the DC coefficient
dc_written : (way : BlockWay) (dc : Dc) (bits middle other : List ℕ) → (dc_coefficient way).Spells dc bits middle → (dc_coefficient way).Spells dc (written_dc way dc ++ other) other
dc_written way dc bits middle other (size, m, (code, listed, p, split), (number, m', (number_code, (fits, number_is), p', split'), (e, f))) =
    let size_is : dc.size ≡ size = ap (λ (d : Dc). d.size) e in
    let bits_are : dc.bits ≡ number = ap (λ (d : Dc). d.bits) e in
    let table = dc_table way.luma in
    let written : written_dc way dc ++ other ≡ code ++ (bits_of size number ++ other) =
    ap₂ (λ n b. (code_for table n ++ bits_of n b) ++ other) size_is bits_are ∙ ap (λ c. (c ++ bits_of size number) ++ other) (code_for-listed table size code listed)
    ∙ append_assoc code (bits_of size number) other in
    (size, bits_of size number ++ other, (code, listed, refl, written), (number, other, (bits_of size number, (fits, refl), refl, refl), (e, refl)))

pub optional_written : (present : Bool) (way : BlockWay) (dc : Option Dc) (bits middle other : List ℕ) → (optional present (dc_coefficient way)).Spells dc bits middle
    → (optional present (dc_coefficient way)).Spells dc (if_any (written_dc way) dc ++ other) other
optional_written true way dc bits middle other (v, m, s, (e, f)) =
    (v, other, subst (λ d. (dc_coefficient way).Spells v (if_any (written_dc way) d ++ other) other) (sym e) (dc_written way v bits m other s), (e, refl))
optional_written false way dc bits middle other (e, f) = (e, ap (λ d. if_any (written_dc way) d ++ other) e)

pub block_written : (way : BlockWay) (b : Block) (bits rest other : List ℕ) → (block way).Spells b bits rest → (block way).Spells b (written_block way b ++ other) other
unfolding block written_block
block_written way b bits rest other (dc, m, s, (found, m', t, (e, f))) =
    let first = if way.intra then 1 else 0 in
    let dc_is : b.dc ≡ dc = ap (λ (x : Block). x.dc) e in
    let pairs_are : b.pairs.items ≡ found.0 = ap (λ (x : Block). x.pairs.items) e in
    let middle = written_coefficients way first found.0 ++ other in
    let split : written_block way b ++ other ≡ if_any (written_dc way) dc ++ middle =
    ap₂ (λ d ps. (if_any (written_dc way) d ++ written_coefficients way first ps) ++ other) dc_is pairs_are
    ∙ append_assoc (if_any (written_dc way) dc) (written_coefficients way first found.0) other in
    let place : next_place way [] ≡ first = add-zero first in (
      dc,
      middle,
      subst (λ x. (optional way.intra (dc_coefficient way)).Spells dc x middle) (sym split) (optional_written way.intra way dc bits m middle s),
      (found, other, subst (λ n. SpellsList (coefficient way) [] found.0 tt (written_coefficients way n found.0 ++ other) other) place (list_written way [] found.0 m m' other t), (e, refl)),
    )
