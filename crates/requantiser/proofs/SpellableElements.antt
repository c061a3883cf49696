-- Elements of a macroblock that some bits spell.
use Rattle.std.proofs.Common.{
  ◌≡◌,
  ◌+◌,
  ◌-◌,
  ◌*◌,
  ◌/◌,
  ◌<◌,
  ◌≤◌,
  ◌==◌,
  ◌&&◌,
  ◌||◌,
  ℕ,
  zero,
  suc,
  nat_le,
  not,
  Option,
  Some,
  None,
  List,
  [],
  ◌∷◌,
  ◌++◌,
  length,
  Bool,
  true,
  false,
  if◌then◌else◌,
  refl,
  sym,
  ◌∙◌,
  ap,
  subst,
  inl,
  inr,
  arith,
}
use Rattle.std.specs.Prelude.{is_some}
use Rattle.std.specs.List.{list_all, range_with_len}
use Rattle.std.proofs.lemmas.Bool.{and_parts, and_from, le-leb, ne_eqb, cases_Bool}
use Rattle.std.proofs.lemmas.List.{length-append}
use Rattle.bit_lists.specs.Bits.{bits_of}
use Rattle.bit_lists.specs.Fields.{flag}
use Rattle.prefix_codes.specs.declared.symbol.TheConstants.{ADDRESS_ESCAPE}
use Rattle.prefix_codes.specs.declared.table_name.TableName.{TableName}
use Rattle.prefix_codes.specs.declared.table_name.TableName.TheVariants.{Address, TypeI, TypeP, TypeB, Pattern}
use Rattle.prefix_codes.specs.TableName.{code_in}
use Rattle.prefix_codes.proofs.Computing.{tables}
use Rattle.quant_math.specs.Scales.{IsCode}
use Rattle.syntax_types.specs.declared.macroblock.Kind.{Kind}
use Rattle.syntax_types.specs.declared.picture.PicCoding.{PicCoding}
use Rattle.syntax_types.specs.declared.picture.TheConstants.{I_PICTURE, P_PICTURE}
use Rattle.picture_grammar.specs.Refusal.Refusal.{BadPattern}
use Rattle.picture_grammar.specs.Grammar.{SpellsList}
use Rattle.picture_grammar.specs.Grammar.Next.{more, last}
use Rattle.picture_grammar.specs.Element.{vlclbf}
use Rattle.picture_grammar.specs.Macroblock.{escape_increment, address_code, address_increment, macroblock_type, type_table, type_symbol, quantiser_scale_code}
use Rattle.picture_laws.specs.Spellable.{IsSpellable}
use Rattle.picture_heads.proofs.Ones.{all_at}

abbrev listed : TableName → ℕ → Bool
listed table symbol = is_some (code_in table symbol)

some_of : {A : Type 0} (o : Option A) → is_some o ≡ true → (x : A) × (o ≡ Some x)
some_of None e = absurd (let e' : false ≡ true = e in cc)
some_of (Some x) e = (x, refl)

-- ---- addresses

addresses : list_all (listed Address) (range_with_len 1 34) ≡ true
unfolding tables
addresses = refl

address_of : (symbol : ℕ) → 1 ≤ symbol → symbol ≤ 34 → (code : List ℕ) × (code_in Address symbol ≡ Some code)
address_of symbol low high = some_of (code_in Address symbol) (all_at (listed Address) 34 1 symbol low (omega (arith, high)) addresses)

module _ (most : ℕ) where
  spelled_addresses : (escapes last_code : ℕ) (before : List (Unit {0})) → 1 ≤ last_code → last_code ≤ 33 → escape_increment * (length before + escapes) + last_code ≤ most
      → (values : List (Unit {0})) × (length values ≡ escapes) × (bits : List ℕ) × SpellsList (address_code most) before values last_code bits []
  spelled_addresses zero symbol before low high within =
      let (code, is) = address_of symbol low (omega (arith, high)) in
      let passing = and_from (nat_le (escape_increment * length before + symbol) most) true (le-leb _ _ (omega (arith, within))) refl in
      let last_one = ap (λ (b : Bool). if b then more (tt {0}) else last symbol) (sym (ne_eqb symbol ADDRESS_ESCAPE (λ e. absurd (omega (arith, high, e))))) in
      ([], refl, code ++ [], (symbol, [], (code, is, passing, refl), (last_one, refl)))
  spelled_addresses (suc escapes) symbol before low high within =
      let (code, is) = address_of ADDRESS_ESCAPE (omega arith) (omega arith) in
      let passing = and_from (nat_le (escape_increment * length before + ADDRESS_ESCAPE) most) true (le-leb _ _ (omega (arith, within, low))) refl in
      let (values, count, bits, s) = spelled_addresses escapes symbol (before ++ tt ∷ []) low high (omega (arith, within, length-append before (tt {0} ∷ []))) in
      (tt ∷ values, omega (arith, count), code ++ bits, (bits, (ADDRESS_ESCAPE, bits, (code, is, passing, refl), (refl, refl)), s))

  pub increment-spelled : (increment : ℕ) → 1 ≤ increment → increment ≤ most → IsSpellable (address_increment most) increment
  increment-spelled increment low high =
      let escapes : ℕ = (increment - 1) / 33 in
      let symbol : ℕ = increment - 33 * escapes in
      let (values, count, bits, s) = spelled_addresses escapes symbol [] (omega (arith, low)) (omega (arith, low)) (omega (arith, low, high)) in
      record { bits = bits; rest = []; spelled = ((values, symbol), [], s, ((omega (arith, count, low)), refl)) }

-- ---- quantiser_scale_code and the pattern

pub code-spelled : (code : ℕ) → IsCode code → IsSpellable quantiser_scale_code code
code-spelled code is = record {
  bits = bits_of 5 code ++ [];
  rest = [];
  spelled = (bits_of 5 code, (omega (arith, is.1), refl), and_from (not (code == 0)) true (ap not (ne_eqb code 0 (λ e. absurd (omega (arith, e, is.0))))) refl, refl);
}

patterns : list_all (listed Pattern) (range_with_len 1 63) ≡ true
unfolding tables
patterns = refl

pub pattern-spelled : (pattern : ℕ) → 0 < pattern → pattern < 64 → IsSpellable (vlclbf Pattern BadPattern []) pattern
pattern-spelled pattern some small =
    let (code, is) = some_of (code_in Pattern pattern) (all_at (listed Pattern) 63 1 pattern (omega (arith, some)) (omega (arith, small)) patterns) in
    record { bits = code ++ []; rest = []; spelled = (code, is, refl, refl) }

-- ---- macroblock types

symbol_of : Bool → Bool → Bool → Bool → Bool → ℕ
symbol_of q f b p i = 16 * flag q + 8 * flag f + 4 * flag b + 2 * flag p + 1 * flag i

-- the flags for a code and for a pattern that a version may have, where these were
abbrev pub may_be : Bool → Bool → Bool → Bool → Bool → Bool → Bool
may_be f b p i q' p' = if i then not p' else (if p' then p else (not q' && (f || b)))

abbrev both : (Bool → Bool) → Bool
both p = p true && p false

both_of : (p : Bool → Bool) → both p ≡ true → (b : Bool) → p b ≡ true
both_of p e true = (and_parts (p true) (p false) e).0
both_of p e false = (and_parts (p true) (p false) e).1

abbrev is_closed : TableName → Bool → Bool → Bool → Bool → Bool → Bool → Bool → Bool
is_closed table q f b p i q' p' = not (listed table (symbol_of q f b p i)) || (not (may_be f b p i q' p') || listed table (symbol_of q' f b p' i))

abbrev all_closed : TableName → Bool
all_closed table = both (λ q. both (λ f. both (λ b. both (λ p. both (λ i. both (λ q'. both (λ p'. is_closed table q f b p i q' p')))))))

closed_i : all_closed TypeI ≡ true
unfolding tables symbol_of
closed_i = refl

closed_p : all_closed TypeP ≡ true
unfolding tables symbol_of
closed_p = refl

closed_b : all_closed TypeB ≡ true
unfolding tables symbol_of
closed_b = refl

by_two : (P : TableName → Type 0) (a b : Bool) → P TypeI → P TypeP → P TypeB → P (if a then TypeI else (if b then TypeP else TypeB))
by_two P true b i p q = i
by_two P false true i p q = p
by_two P false false i p q = q

or_next : (a b : Bool) → (not a || b) ≡ true → a ≡ true → b ≡ true
or_next true b e is = e
or_next false b e is = absurd (let e' : false ≡ true = is in cc)

closed-of : (table : TableName) → all_closed table ≡ true → (q f b p i q' p' : Bool) → listed table (symbol_of q f b p i) ≡ true → may_be f b p i q' p' ≡ true
    → listed table (symbol_of q' f b p' i) ≡ true
closed-of table all q f b p i q' p' is may =
    let a1 = both_of (λ q. both (λ f. both (λ b. both (λ p. both (λ i. both (λ q'. both (λ p'. is_closed table q f b p i q' p'))))))) all q in
    let a2 = both_of (λ f. both (λ b. both (λ p. both (λ i. both (λ q'. both (λ p'. is_closed table q f b p i q' p')))))) a1 f in
    let a3 = both_of (λ b. both (λ p. both (λ i. both (λ q'. both (λ p'. is_closed table q f b p i q' p'))))) a2 b in
    let a4 = both_of (λ p. both (λ i. both (λ q'. both (λ p'. is_closed table q f b p i q' p')))) a3 p in
    let a5 = both_of (λ i. both (λ q'. both (λ p'. is_closed table q f b p i q' p'))) a4 i in
    let a6 = both_of (λ q'. both (λ p'. is_closed table q f b p i q' p')) a5 q' in
    let a7 = both_of (λ p'. is_closed table q f b p i q' p') a6 p' in
    or_next (may_be f b p i q' p') (listed table (symbol_of q' f b p' i)) (or_next (listed table (symbol_of q f b p i)) (not (may_be f b p i q' p') || listed table (symbol_of q' f b p' i)) a7 is) may

listed-some : (table : TableName) (symbol : ℕ) (code : List ℕ) → code_in table symbol ≡ Some code → listed table symbol ≡ true
listed-some table symbol code is = ap is_some is

-- a type of a version's macroblock is one of the table
pub kind-spelled : (coding : PicCoding) (kind : Kind) (q' p' : Bool) → IsSpellable (macroblock_type coding) kind → may_be kind.forward kind.backward kind.pattern kind.intra q' p' ≡ true
    → IsSpellable (macroblock_type coding) (record kind { quant = q'; pattern = p' })
unfolding symbol_of
kind-spelled coding kind q' p' s may =
    let (code, is, passing, split) = s.spelled in
    let closed : all_closed (type_table coding) ≡ true = by_two (λ t. all_closed t ≡ true) (coding.kind == I_PICTURE) (coding.kind == P_PICTURE) closed_i closed_p closed_b in
    let other = closed-of (type_table coding) closed kind.quant kind.forward kind.backward kind.pattern kind.intra q' p' (listed-some (type_table coding) (type_symbol kind) code is) may in
    let (code', is') = some_of (code_in (type_table coding) (symbol_of q' kind.forward kind.backward p' kind.intra)) other in
    record { bits = code' ++ []; rest = []; spelled = (code', is', refl, refl) }

no_pattern_i : both (λ q. both (λ f. both (λ b. both (λ i. not (listed TypeI (symbol_of q f b true i)))))) ≡ true
unfolding tables symbol_of
no_pattern_i = refl

-- macroblocks of I-pictures have no pattern
pub no-pattern : (coding : PicCoding) (kind : Kind) → IsSpellable (macroblock_type coding) kind → kind.pattern ≡ true → (coding.kind == I_PICTURE) ≡ false
unfolding symbol_of
no-pattern coding kind s pattern = elim (cases_Bool (coding.kind == I_PICTURE)) [
  | inl is ↦
      let (code, found, passing, split) = s.spelled in
      let table : type_table coding ≡ TypeI = ap (λ (b : Bool). if b then TypeI else (if coding.kind == P_PICTURE then TypeP else TypeB)) is in
      let one : listed TypeI (symbol_of kind.quant kind.forward kind.backward true kind.intra) ≡ true =
      sym (ap (λ (t : TableName). listed t (symbol_of kind.quant kind.forward kind.backward true kind.intra)) table)
      ∙ ap (λ (p : Bool). listed (type_table coding) (symbol_of kind.quant kind.forward kind.backward p kind.intra)) (sym pattern) ∙ listed-some (type_table coding) (type_symbol kind) code found in
      let none = both_of (λ i. not (listed TypeI (symbol_of kind.quant kind.forward kind.backward true i)))
      (both_of (λ b. both (λ i. not (listed TypeI (symbol_of kind.quant kind.forward b true i))))
      (both_of (λ f. both (λ b. both (λ i. not (listed TypeI (symbol_of kind.quant f b true i)))))
      (both_of (λ q. both (λ f. both (λ b. both (λ i. not (listed TypeI (symbol_of q f b true i)))))) no_pattern_i kind.quant) kind.forward) kind.backward) kind.intra in
      absurd (let clash : not true ≡ true = ap not (sym one) ∙ none in cc)
  | inr other ↦ other
]

nothing_none : TableName → Bool
nothing_none table = both (λ q. not (listed table (symbol_of q false false false false)))

none_i : nothing_none TypeI ≡ true
unfolding tables symbol_of nothing_none
none_i = refl

none_p : nothing_none TypeP ≡ true
unfolding tables symbol_of nothing_none
none_p = refl

none_b : nothing_none TypeB ≡ true
unfolding tables symbol_of nothing_none
none_b = refl

-- a macroblock that isn't intra and has no motion has a pattern
pub no-nothing : (coding : PicCoding) (kind : Kind) → IsSpellable (macroblock_type coding) kind → kind.intra ≡ false → kind.forward ≡ false → kind.backward ≡ false → kind.pattern ≡ true
unfolding symbol_of nothing_none
no-nothing coding kind s intra forward backward = elim (cases_Bool kind.pattern) [
  | inl is ↦ is
  | inr none ↦
      let (code, found, passing, split) = s.spelled in
      let all : nothing_none (type_table coding) ≡ true = by_two (λ t. nothing_none t ≡ true) (coding.kind == I_PICTURE) (coding.kind == P_PICTURE) none_i none_p none_b in
      let one : listed (type_table coding) (symbol_of kind.quant kind.forward kind.backward kind.pattern kind.intra) ≡ true = listed-some (type_table coding) (type_symbol kind) code found in
      let same : listed (type_table coding) (symbol_of kind.quant false false false false) ≡ true =
      subst (λ (b : Bool). listed (type_table coding) (symbol_of kind.quant false false false b) ≡ true) intra
      (subst (λ (b : Bool). listed (type_table coding) (symbol_of kind.quant false false b kind.intra) ≡ true) none
      (subst (λ (b : Bool). listed (type_table coding) (symbol_of kind.quant false b kind.pattern kind.intra) ≡ true) backward
      (subst (λ (b : Bool). listed (type_table coding) (symbol_of kind.quant b kind.backward kind.pattern kind.intra) ≡ true) forward one))) in
      let no' = both_of (λ q. not (listed (type_table coding) (symbol_of q false false false false))) all kind.quant in
      absurd (let clash : not true ≡ true = ap not (sym same) ∙ no' in cc)
]
