-- No code of an element begins another one of it.
use Rattle.std.proofs.Common.{
  ◌≡◌,
  ℕ,
  zero,
  suc,
  ℤ,
  pos,
  negsuc,
  unsigned_abs,
  ◌+◌,
  ◌*◌,
  ◌^◌,
  ◌<◌,
  ◌≤◌,
  ◌⊎◌,
  ◌&&◌,
  List,
  [],
  ◌∷◌,
  ◌++◌,
  length,
  get_or,
  Option,
  Some,
  None,
  cond,
  append_assoc,
  Bool,
  true,
  false,
  nat_lt,
  refl,
  sym,
  ap,
  ap₂,
  subst,
  ◌∙◌,
  inl,
  inr,
  arith,
}
use Rattle.std.proofs.lemmas.Bool.{and_parts, ltb-true}
use Rattle.std.proofs.lemmas.Option.{none-some}
use Rattle.std.proofs.lemmas.List.{length-append, append_cancel_left}
use Rattle.bit_lists.specs.Bits.{IsPrefix, bits_of}
use Rattle.bit_lists.specs.Fields.{flag}
use Rattle.bit_lists.proofs.BitLemmas.{length-bits_of, bits_of-one}
use Rattle.bit_lists.proofs.PrefixLemmas.{IsPrefix-append, IsPrefix-whole, IsPrefix-either, IsPrefix-self, IsPrefix-through, same_front}
use Rattle.bit_lists.proofs.FieldLemmas.{flag-same}
use Rattle.prefix_codes.specs.declared.symbol.TheConstants.{END_OF_BLOCK, ESCAPE, RUNS, LEVELS_PER_RUN}
use Rattle.prefix_codes.specs.declared.table_name.TableName.{TableName}
use Rattle.prefix_codes.specs.TableName.{code_in, coefficient_code}
use Rattle.prefix_codes.proofs.TableLemmas.{prefix_free}
use Rattle.picture_grammar.specs.Block.{Coefficient, CoefficientCode}
use Rattle.picture_grammar.specs.Block.Coefficient.{end_of_block, run_size, escape}
use Rattle.picture_grammar.specs.Motion.{dmvector_code}
use Rattle.syntax_types.specs.declared.macroblock.Kind.{Kind}
use Rattle.picture_grammar.specs.Macroblock.{type_symbol}
use Rattle.picture_grammar.proofs.ElementLaws.{IsPrefixFree}

-- ---- codes of a table

pub free-table : (table : TableName) → IsPrefixFree (λ (symbol : ℕ) (code : List ℕ). code_in table symbol ≡ Some code)
free-table table v w c d p q begins =
    let symbol : v ≡ w = prefix_free table v w c d p q begins in
    let both : Some c ≡ Some d = sym p ∙ ap (code_in table) symbol ∙ q in
    (symbol, cc)

-- ---- numbers and flags

pub free-number : (n : ℕ) → IsPrefixFree (λ (number : ℕ) (code : List ℕ). (number < 2 ^ n) × (code ≡ bits_of n number))
free-number n v w c d (lt, p) (lt', q) begins =
    let lengths : length c ≡ length d = ap length p ∙ length-bits_of n v ∙ sym (length-bits_of n w) ∙ sym (ap length q) in
    let same : c ≡ d = IsPrefix-whole c d lengths begins in
    (bits_of-one n v w lt lt' (sym p ∙ same ∙ q), same)

flag-le : (a : Bool) → flag a ≤ 1
flag-le true = omega arith
flag-le false = omega arith

pub free-flag : IsPrefixFree (λ (is_set : Bool) (code : List ℕ). code ≡ flag is_set ∷ [])
free-flag v w c d p q begins =
    let same : c ≡ d = IsPrefix-whole c d (ap length p ∙ sym (ap length q)) begins in
    let both : flag v ∷ [] ≡ flag w ∷ [] = sym p ∙ same ∙ q in
    let bit : flag v ≡ flag w = cc in
    (flag-same v w bit, same)

-- numbers behind a fixed front
pub free-behind : (front : List ℕ) (n : ℕ) → IsPrefixFree (λ (number : ℕ) (code : List ℕ). (number < 2 ^ n) × (code ≡ front ++ bits_of n number))
free-behind front n v w c d (lt, p) (lt', q) begins =
    let lengths : length c ≡ length d = ap length p ∙ length-append front (bits_of n v) ∙ ap (λ k. length front + k) (length-bits_of n v ∙ sym (length-bits_of n w))
    ∙ sym (length-append front (bits_of n w)) ∙ sym (ap length q) in
    let same : c ≡ d = IsPrefix-whole c d lengths begins in
    (bits_of-one n v w lt lt' (append_cancel_left front (bits_of n v) (bits_of n w) (sym p ∙ same ∙ q)), same)

-- ---- dmvector

-- a value of dmvector
IsDmvector : ℤ → Type 0
IsDmvector v = (v ≡ pos 0) ⊎ (v ≡ pos 1) ⊎ (v ≡ negsuc 0)

small : (v : ℤ) → unsigned_abs v ≤ 1 → IsDmvector v
unfolding IsDmvector
small (pos zero) le = inl refl
small (pos (suc n)) le = inr (inl (let none : n ≡ 0 = omega arith in ap (λ k. pos (suc k)) none))
small (negsuc n) le = inr (inr (let none : n ≡ 0 = omega arith in ap negsuc none))

abbrev head : List ℕ → ℕ
head bits = get_or bits 0 2

abbrev second : List ℕ → ℕ
second bits = get_or bits 1 2

-- a fact of two values, at what they equal
differ : (v w x y : ℤ) → v ≡ x → w ≡ y → IsPrefix (dmvector_code v) (dmvector_code w) → (IsPrefix (dmvector_code x) (dmvector_code y) → ⊥) → ⊥
differ v w x y e f begins no_way = no_way (subst (λ z. IsPrefix (dmvector_code x) (dmvector_code z)) f (subst (λ z. IsPrefix (dmvector_code z) (dmvector_code w)) e begins))

dmvector-same : (v w : ℤ) → IsDmvector v → IsDmvector w → IsPrefix (dmvector_code v) (dmvector_code w) → v ≡ w
unfolding IsDmvector
dmvector-same v w (inl e) (inl f) begins = e ∙ sym f
dmvector-same v w (inl e) (inr (inl f)) begins = absurd (differ v w (pos 0) (pos 1) e f begins (λ b. omega (arith, ap head b)))
dmvector-same v w (inl e) (inr (inr f)) begins = absurd (differ v w (pos 0) (negsuc 0) e f begins (λ b. omega (arith, ap head b)))
dmvector-same v w (inr (inl e)) (inl f) begins = absurd (differ v w (pos 1) (pos 0) e f begins (λ b. omega (arith, ap head b)))
dmvector-same v w (inr (inl e)) (inr (inl f)) begins = e ∙ sym f
dmvector-same v w (inr (inl e)) (inr (inr f)) begins = absurd (differ v w (pos 1) (negsuc 0) e f begins (λ b. omega (arith, ap second b)))
dmvector-same v w (inr (inr e)) (inl f) begins = absurd (differ v w (negsuc 0) (pos 0) e f begins (λ b. omega (arith, ap head b)))
dmvector-same v w (inr (inr e)) (inr (inl f)) begins = absurd (differ v w (negsuc 0) (pos 1) e f begins (λ b. omega (arith, ap second b)))
dmvector-same v w (inr (inr e)) (inr (inr f)) begins = e ∙ sym f

pub free-dmvector : IsPrefixFree (λ (value : ℤ) (code : List ℕ). (unsigned_abs value ≤ 1) × (code ≡ dmvector_code value))
free-dmvector v w c d (le, p) (le', q) begins =
    let same : v ≡ w = dmvector-same v w (small v le) (small w le') (subst (λ x. IsPrefix x (dmvector_code w)) p (subst (IsPrefix c) q begins)) in
    (same, p ∙ ap dmvector_code same ∙ sym q)

-- ---- macroblock_type

type_symbol-same : (v w : Kind) → type_symbol v ≡ type_symbol w → v ≡ w
type_symbol-same v w e = λ i. record { quant = quant i; forward = forward i; backward = backward i; pattern = pattern i; intra = intra i } where
  quant : v.quant ≡ w.quant
  quant = flag-same v.quant w.quant (omega (
    arith,
    flag-le v.quant,
    flag-le w.quant,
    flag-le v.forward,
    flag-le w.forward,
    flag-le v.backward,
    flag-le w.backward,
    flag-le v.pattern,
    flag-le w.pattern,
    flag-le v.intra,
    flag-le w.intra,
  ))

  forward : v.forward ≡ w.forward
  forward = flag-same v.forward w.forward (omega (
    arith,
    ap flag quant,
    flag-le v.forward,
    flag-le w.forward,
    flag-le v.backward,
    flag-le w.backward,
    flag-le v.pattern,
    flag-le w.pattern,
    flag-le v.intra,
    flag-le w.intra,
  ))

  backward : v.backward ≡ w.backward
  backward = flag-same v.backward w.backward (omega (
    arith,
    ap flag quant,
    ap flag forward,
    flag-le v.backward,
    flag-le w.backward,
    flag-le v.pattern,
    flag-le w.pattern,
    flag-le v.intra,
    flag-le w.intra,
  ))

  pattern : v.pattern ≡ w.pattern
  pattern = flag-same v.pattern w.pattern (omega (arith, ap flag quant, ap flag forward, ap flag backward, flag-le v.pattern, flag-le w.pattern, flag-le v.intra, flag-le w.intra))

  intra : v.intra ≡ w.intra
  intra = flag-same v.intra w.intra (omega (arith, ap flag quant, ap flag forward, ap flag backward, ap flag pattern, flag-le v.intra, flag-le w.intra))

pub free-type : (table : TableName) → IsPrefixFree (λ (kind : Kind) (code : List ℕ). code_in table (type_symbol kind) ≡ Some code)
free-type table v w c d p q begins =
    let found = free-table table (type_symbol v) (type_symbol w) c d p q begins in
    (type_symbol-same v w found.0, found.1)

-- ---- coefficients

-- the symbol of a coefficient's code
unfoldable pub symbol_of : Coefficient → ℕ
symbol_of end_of_block = END_OF_BLOCK
symbol_of (run_size run size) = LEVELS_PER_RUN * run + size
symbol_of (escape run level) = ESCAPE

cond_found : {A : Type 0} (b : Bool) (o : Option A) (y : A) → cond b o None ≡ Some y → (b ≡ true) × (o ≡ Some y)
cond_found true o y e = (refl, e)
cond_found false o y e = absurd (none-some y e)

-- the code of a run and a level is one of the table, within the limits of runs and levels
pub coefficient_code-listed : (table : TableName) (run size : ℕ) (code : List ℕ) → coefficient_code table run size ≡ Some code → (run < RUNS)
    × (0 < size) × (size < LEVELS_PER_RUN) × (code_in table (LEVELS_PER_RUN * run + size) ≡ Some code)
unfolding coefficient_code
coefficient_code-listed table run size code found =
    let parts = cond_found (nat_lt run RUNS && nat_lt 0 size && nat_lt size LEVELS_PER_RUN) (code_in table (LEVELS_PER_RUN * run + size)) code found in
    let tests = and_parts (nat_lt run RUNS && nat_lt 0 size) (nat_lt size LEVELS_PER_RUN) parts.0 in
    let firsts = and_parts (nat_lt run RUNS) (nat_lt 0 size) tests.0 in
    (ltb-true run RUNS firsts.0, ltb-true 0 size firsts.1, ltb-true size LEVELS_PER_RUN tests.1, parts.1)

-- a coefficient's code begins with that of its symbol
pub fronts : (table : TableName) (v : Coefficient) (c : List ℕ) → CoefficientCode table v c → (front : List ℕ) × (code_in table (symbol_of v) ≡ Some front) × IsPrefix front c
unfolding symbol_of
fronts table end_of_block c p = (c, p, IsPrefix-self c)
fronts table (run_size run size) c p = (c, (coefficient_code-listed table run size c p).3, IsPrefix-self c)
fronts table (escape run level) c (front, listed, r, l, p) = (
  front,
  listed,
  subst (IsPrefix front) (sym (p ∙ append_assoc front (bits_of 6 run) (bits_of 12 level)))
      (IsPrefix-append front (bits_of 6 run ++ bits_of 12 level)),
)

symbol-same : (table : TableName) (v w : Coefficient) (c d : List ℕ) → CoefficientCode table v c → CoefficientCode table w d → IsPrefix c d → symbol_of v ≡ symbol_of w
symbol-same table v w c d p q begins =
    let f = fronts table v c p in
    let g = fronts table w d q in
    let through : IsPrefix f.0 d = IsPrefix-through f.0 c d f.2 begins in
    elim (IsPrefix-either f.0 g.0 d through g.2) [
      | inl b ↦ prefix_free table (symbol_of v) (symbol_of w) f.0 g.0 f.1 g.1 b
      | inr b ↦ sym (prefix_free table (symbol_of w) (symbol_of v) g.0 f.0 g.1 f.1 b)
    ]

length-fields : (front : List ℕ) (run level : ℕ) → length (front ++ (bits_of 6 run ++ bits_of 12 level)) ≡ length front + 18
length-fields front run level =
    length-append front (bits_of 6 run ++ bits_of 12 level)
    ∙ ap (λ n. length front + n) (length-append (bits_of 6 run) (bits_of 12 level) ∙ ap₂ (λ a b. a + b) (length-bits_of 6 run) (length-bits_of 12 level))

coefficient-same : (table : TableName) (v w : Coefficient) (c d : List ℕ) → CoefficientCode table v c → CoefficientCode table w d → IsPrefix c d → symbol_of v ≡ symbol_of w → (v ≡ w) × (c ≡ d)
unfolding symbol_of
coefficient-same table end_of_block end_of_block c d p q begins e = (refl, (let both : Some c ≡ Some d = sym p ∙ q in cc))
coefficient-same table end_of_block (run_size run size) c d p q begins e = let l = coefficient_code-listed table run size d q in absurd (omega (arith, l.0, l.2))
coefficient-same table end_of_block (escape run level) c d p q begins e = absurd (omega arith)
coefficient-same table (run_size run size) end_of_block c d p q begins e = let l = coefficient_code-listed table run size c p in absurd (omega (arith, l.0, l.2))
coefficient-same table (run_size run size) (run_size run' size') c d p q begins e =
    let l = coefficient_code-listed table run size c p in
    let m = coefficient_code-listed table run' size' d q in
    let runs : run ≡ run' = omega (arith, l.1, l.2, m.1, m.2) in
    let sizes : size ≡ size' = omega (arith, l.1, l.2, m.1, m.2) in
    let both : Some c ≡ Some d = sym l.3 ∙ ap (code_in table) e ∙ m.3 in
    (ap₂ run_size runs sizes, cc)
coefficient-same table (run_size run size) (escape run' level) c d p q begins e = let l = coefficient_code-listed table run size c p in absurd (omega (arith, l.0, l.2))
coefficient-same table (escape run level) end_of_block c d p q begins e = absurd (omega arith)
coefficient-same table (escape run level) (run_size run' size) c d p q begins e = let l = coefficient_code-listed table run' size d q in absurd (omega (arith, l.0, l.2))
coefficient-same table (escape run level) (escape run' level') c d (front, listed, r, l, p) (front', listed', r', l', q) begins e =
    let fronts : Some front ≡ Some front' = sym listed ∙ listed' in
    let front-same : front ≡ front' = cc in
    let p' : c ≡ front ++ (bits_of 6 run ++ bits_of 12 level) = p ∙ append_assoc front (bits_of 6 run) (bits_of 12 level) in
    let q' : d ≡ front ++ (bits_of 6 run' ++ bits_of 12 level') = q ∙ append_assoc front' (bits_of 6 run') (bits_of 12 level')
    ∙ ap (λ f. f ++ (bits_of 6 run' ++ bits_of 12 level')) (sym front-same) in
    let same : c ≡ d = IsPrefix-whole c d (ap length p' ∙ length-fields front run level ∙ sym (length-fields front run' level') ∙ sym (ap length q')) begins in
    let fields : bits_of 6 run ++ bits_of 12 level ≡ bits_of 6 run' ++ bits_of 12 level' =
    append_cancel_left front (bits_of 6 run ++ bits_of 12 level) (bits_of 6 run' ++ bits_of 12 level') (sym p' ∙ same ∙ q') in
    let runs : bits_of 6 run ≡ bits_of 6 run' =
    same_front (bits_of 6 run) (bits_of 6 run') (bits_of 12 level) (bits_of 12 level') (length-bits_of 6 run ∙ sym (length-bits_of 6 run')) fields in
    let levels : bits_of 12 level ≡ bits_of 12 level' =
    append_cancel_left (bits_of 6 run) (bits_of 12 level) (bits_of 12 level') (fields ∙ ap (λ x. x ++ bits_of 12 level') (sym runs)) in
    (ap₂ escape (bits_of-one 6 run run' r r' runs) (bits_of-one 12 level level' l l' levels), same)

pub free-coefficient : (table : TableName) → IsPrefixFree (CoefficientCode table)
free-coefficient table v w c d p q begins = coefficient-same table v w c d p q begins (symbol-same table v w c d p q begins)
