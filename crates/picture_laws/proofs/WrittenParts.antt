-- What is written of a macroblock's address and vectors is read as these parts, whatever follows.
use Rattle.std.proofs.Common.{
  ◌≡◌,
  ℕ,
  zero,
  suc,
  ℤ,
  pos,
  ◌+◌,
  ◌-◌,
  ◌*◌,
  ◌/◌,
  ◌≤◌,
  ◌==◌,
  ◌&&◌,
  eq-eqb,
  nat_le,
  nat_eq,
  not,
  int_lt,
  List,
  [],
  ◌∷◌,
  ◌++◌,
  length,
  slice_index,
  slice_index_or,
  Option,
  Some,
  None,
  Bool,
  true,
  false,
  cond,
  if◌then◌else◌,
  refl,
  sym,
  ap,
  ap₂,
  ◌∙◌,
  inl,
  inr,
  arith,
  append_assoc,
}
use Rattle.std.specs.List.{flat_map, range_with_len, list_all}
use Rattle.std.proofs.lemmas.Bool.{and_parts, eqb-true, cases_Bool, leb-true, le-ltb, both_ways}
use Rattle.bit_lists.specs.Bits.{bits_of}
use Rattle.bit_lists.specs.Fields.{flag}
use Rattle.prefix_codes.specs.declared.symbol.TheConstants.{ADDRESS_ESCAPE}
use Rattle.prefix_codes.specs.declared.table_name.TableName.TheVariants.{Address, Motion}
use Rattle.prefix_codes.specs.Entry.{Entry}
use Rattle.prefix_codes.specs.TableName.{entries, code_in, code_for}
use Rattle.prefix_codes.proofs.Computing.{tables}
use Rattle.prefix_codes.proofs.TableLemmas.{code_in-passes}
use Rattle.syntax_types.specs.declared.macroblock.Vector.{Vector}
use Rattle.picture_grammar.specs.Refusal.Refusal.{NoCode, BadAddress}
use Rattle.picture_grammar.specs.Grammar.{when, many, SpellsList, Next}
use Rattle.picture_grammar.specs.Grammar.Next.{more, last}
use Rattle.picture_grammar.specs.Element.{vlclbf, uimsbf, one_flag, rule}
use Rattle.picture_grammar.specs.Block.{signed}
use Rattle.picture_grammar.specs.Motion.{MotionFormat, Part, dmvector, dmvector_code, has_residual, vector_part, motion_vector, motion_vectors}
use Rattle.picture_grammar.specs.Macroblock.{escape_increment, address_code, address_increment}
use Rattle.picture_grammar.specs.Written.{if_any, written_increment, written_part, written_vector}
use Rattle.picture_grammar.proofs.WrittenBlock.{unsigned_abs-signed}
use Rattle.picture_laws.specs.Spellable.{IsSpellable}
use Rattle.picture_laws.proofs.ReadBack.{
  SpellsAnywhere,
  IsReadBack,
  spellable,
  anywhere-code,
  anywhere-value,
  anywhere-bind,
  anywhere-made,
  back-element,
  back-vlclbf,
  back-uimsbf,
  back-flag,
  back-when,
  back-optional,
  back-repeated,
  back-many,
}

-- ---- the address

abbrev is_address : Entry → Bool
is_address e = nat_le 1 e.0 && nat_le e.0 34

are_addresses : list_all is_address (entries Address) ≡ true
unfolding tables
are_addresses = refl

address_symbol : (symbol : ℕ) (code : List ℕ) → code_in Address symbol ≡ Some code → (1 ≤ symbol) × (symbol ≤ 34)
address_symbol symbol code listed =
    let parts = and_parts (nat_le 1 symbol) (nat_le symbol 34) (code_in-passes is_address Address symbol code are_addresses listed) in
    (leb-true 1 symbol parts.0, leb-true symbol 34 parts.1)

-- what a symbol of Table B-1 says
abbrev said : ℕ → Next (Unit {0}) ℕ
said symbol = if symbol == ADDRESS_ESCAPE then more tt else last symbol

said-more : (symbol : ℕ) (v : Unit {0}) → more v ≡ said symbol → symbol ≡ ADDRESS_ESCAPE
said-more symbol v e = elim (cases_Bool (nat_eq symbol ADDRESS_ESCAPE)) [
  | inl is ↦ eqb-true symbol ADDRESS_ESCAPE is
  | inr other ↦ absurd (let e' : more v ≡ last symbol = e ∙ ap (λ (b : Bool). cond b (more tt) (last symbol)) other in cc)
]

said-last : (symbol end : ℕ) → last end ≡ said symbol → (symbol ≡ end) × (nat_eq symbol ADDRESS_ESCAPE ≡ false)
said-last symbol end e = elim (cases_Bool (nat_eq symbol ADDRESS_ESCAPE)) [
  | inl is ↦ absurd (let e' : last end ≡ more tt = e ∙ ap (λ (b : Bool). cond b (more tt) (last symbol)) is in cc)
  | inr other ↦ (let e' : last end ≡ last symbol = e ∙ ap (λ (b : Bool). cond b (more tt) (last symbol)) other in cc, other)
]

module _ (most : ℕ) where
  address_back : (before : List (Unit {0})) (value : Next (Unit {0}) ℕ) (written : List ℕ) → ((symbol : ℕ) → value ≡ said symbol → code_for Address symbol ≡ written)
      → IsSpellable (address_code most before) value → SpellsAnywhere (address_code most before) value written
  address_back before value written one s =
      let (symbol, m, t, (e, f)) = s.spelled in
      let rules = rule BadAddress (λ symbol. nat_le (escape_increment * length before + symbol) most) ∷ [] in
      anywhere-code (address_code most before) value (code_for Address symbol) written (one symbol e)
      (anywhere-made (vlclbf Address BadAddress rules) said symbol value (code_for Address symbol) e
      ((back-vlclbf Address BadAddress rules).again symbol (spellable (vlclbf Address BadAddress rules) symbol s.bits m t)))

  addresses_back : IsReadBack (many (address_code most)) (λ found. flat_map (λ _. code_for Address ADDRESS_ESCAPE) found.0 ++ code_for Address found.1)
  addresses_back = back-many (address_code most) (λ _. code_for Address ADDRESS_ESCAPE) (code_for Address)
      (λ before v s. address_back before (more v) (code_for Address ADDRESS_ESCAPE) (λ symbol e. ap (code_for Address) (said-more symbol v e)) s)
      (λ before end s. address_back before (last end) (code_for Address end) (λ symbol e. ap (code_for Address) (said-last symbol end e).0) s)

  -- the code behind the escapes is none
  address_end : (before values : List (Unit {0})) (end : ℕ) (bits rest : List ℕ) → SpellsList (address_code most) before values end bits rest → (1 ≤ end) × (end ≤ 33)
  address_end before [] end bits rest (symbol, m, (code, listed, passing, split), (e, f)) =
      let parts = said-last symbol end e in
      let bounds = address_symbol symbol code listed in
      let other : (symbol ≡ 34) → ⊥ = λ is. both_ways (nat_eq symbol 34) parts.1 (eq-eqb symbol 34 is) in
      (omega arith, omega arith)
  address_end before (v ∷ vs) end bits rest (m, s, t) = address_end (before ++ v ∷ []) vs end m rest t

units-written : (code : List ℕ) (units : List (Unit {0})) (n : ℕ) → flat_map (λ _. code) units ≡ flat_map (λ _. code) (range_with_len n (length units))
units-written code [] n = refl
units-written code (u ∷ us) n = ap (λ b. code ++ b) (units-written code us (n + 1))

pub back-increment : (most : ℕ) → IsReadBack (address_increment most) written_increment
back-increment most = record {
  again = λ increment s.
      let (codes, m, t, (e, f)) = s.spelled in
      let bounds = address_end most [] codes.0 codes.1 s.bits m t in
      let escapes : (increment - 1) / 33 ≡ length codes.0 = omega (arith, e, bounds.0, bounds.1) in
      let code : increment - 33 * length codes.0 ≡ codes.1 = omega (arith, e) in
      let written : flat_map (λ _. code_for Address ADDRESS_ESCAPE) codes.0 ++ code_for Address codes.1 ≡ written_increment increment =
      ap₂ (λ a b. a ++ code_for Address b) (units-written (code_for Address ADDRESS_ESCAPE) codes.0 0) (sym code)
      ∙ ap (λ (k : ℕ). flat_map (λ _. code_for Address ADDRESS_ESCAPE) (range_with_len 0 k) ++ code_for Address (increment - 33 * k)) (sym escapes) in
      anywhere-code (address_increment most) increment (flat_map (λ _. code_for Address ADDRESS_ESCAPE) codes.0 ++ code_for Address codes.1) (written_increment increment) written
      (anywhere-made (many (address_code most)) (λ codes. escape_increment * length codes.0 + codes.1) codes increment
      (flat_map (λ _. code_for Address ADDRESS_ESCAPE) codes.0 ++ code_for Address codes.1) e
      ((addresses_back most).again codes (spellable (many (address_code most)) codes s.bits m t)));
}

pub some-increment : (most increment : ℕ) → IsSpellable (address_increment most) increment → 1 ≤ increment
some-increment most increment s =
    let (codes, m, t, (e, f)) = s.spelled in
    let bounds = address_end most [] codes.0 codes.1 s.bits m t in
    omega (arith, e, bounds.0)

-- ---- motion vectors

sign-of : (size : ℕ) (negative : Bool) → nat_eq size 0 ≡ false → int_lt (signed size negative) (pos 0) ≡ negative
sign-of zero negative other = absurd (let e : true ≡ false = other in cc)
sign-of (suc n) true other = refl
sign-of (suc n) false other = le-ltb (suc n) 0 (omega arith)

-- the sign bit stands where the code isn't 0
written-sign : (size : ℕ) (negative : Bool)
    → (if size == 0 then [] else flag (int_lt (signed size negative) (pos 0)) ∷ []) ≡ (if not (size == 0) then flag negative ∷ [] else [])
written-sign size negative = elim (cases_Bool (nat_eq size 0)) [
  | inl none ↦
      ap (λ (b : Bool). cond b [] (flag (int_lt (signed size negative) (pos 0)) ∷ [])) none ∙ sym (ap (λ (b : Bool). cond (not b) (flag negative ∷ []) []) none)
  | inr other ↦
      ap (λ (b : Bool). cond b [] (flag (int_lt (signed size negative) (pos 0)) ∷ [])) other ∙ ap (λ (b : Bool). flag b ∷ []) (sign-of size negative other)
      ∙ sym (ap (λ (b : Bool). cond (not b) (flag negative ∷ []) []) other)
]

back-dmvector : IsReadBack dmvector dmvector_code
back-dmvector = back-element _ _ [] dmvector_code (λ value code coded. sym coded.1)

-- the motion code of a part, and what its sign bit says
written-part : (f_code size residual : ℕ) (negative : Bool)
    → written_part f_code (signed size negative) residual
    ≡ code_for Motion size ++ ((if not (size == 0) then flag negative ∷ [] else []) ++ (if has_residual f_code size then bits_of (f_code - 1) residual else []))
written-part f_code size residual negative =
    ap (λ (n : ℕ). code_for Motion n ++ (if n == 0 then [] else flag (int_lt (signed size negative) (pos 0)) ∷ [])
    ++ (if has_residual f_code n then bits_of (f_code - 1) residual else [])) (unsigned_abs-signed size negative)
    ∙ ap (λ (b : List ℕ). code_for Motion size ++ b ++ (if has_residual f_code size then bits_of (f_code - 1) residual else [])) (written-sign size negative)
    ∙ append_assoc (code_for Motion size) (if not (size == 0) then flag negative ∷ [] else []) (if has_residual f_code size then bits_of (f_code - 1) residual else [])

-- a part of a vector as it is written
abbrev pub written_of_part : ℕ → Bool → Part → List ℕ
written_of_part f_code dual part = written_part f_code part.code part.residual ++ (if dual then dmvector_code part.difference else [])

back-part : (f_code : ℕ) (dual : Bool) → IsReadBack (vector_part f_code dual) (written_of_part f_code dual)
back-part f_code dual = record {
  again = λ part s.
      let (size, m, s1, (negative, m', s2, (residual, m'', s3, (difference, m''', s4, (e, f))))) = s.spelled in
      let made : Part = record { code = signed size negative; residual = residual; difference = difference } in
      let sign = if not (size == 0) then flag negative ∷ [] else [] in
      let rest = if has_residual f_code size then bits_of (f_code - 1) residual else [] in
      let dm = if dual then dmvector_code difference else [] in
      let inner = anywhere-bind _ _ size made (code_for Motion size) (sign ++ (rest ++ dm)) ((back-vlclbf Motion NoCode []).again size (spellable _ size s.bits m s1))
      (anywhere-bind _ _ negative made sign (rest ++ dm) ((back-when (not (size == 0)) one_flag false _ (back-flag [])).again negative (spellable _ negative m m' s2))
      (anywhere-bind _ _ residual made rest dm ((back-when (has_residual f_code size) (uimsbf (f_code - 1) []) 0 _ (back-uimsbf (f_code - 1) [])).again residual (spellable _ residual m' m'' s3))
      (anywhere-made (when dual dmvector (pos 0)) (λ difference. record { code = signed size negative; residual = residual; difference = difference }) difference made dm refl
      ((back-when dual dmvector (pos 0) _ back-dmvector).again difference (spellable _ difference m'' m''' s4))))) in
      let split : code_for Motion size ++ (sign ++ (rest ++ dm)) ≡ written_of_part f_code dual made =
      ap (λ b. code_for Motion size ++ b) (sym (append_assoc sign rest dm)) ∙ sym (append_assoc (code_for Motion size) (sign ++ rest) dm)
      ∙ ap (λ b. b ++ dm) (sym (written-part f_code size residual negative)) in
      anywhere-value (vector_part f_code dual) made part (written_of_part f_code dual part) (sym e)
      (anywhere-code (vector_part f_code dual) made (code_for Motion size ++ (sign ++ (rest ++ dm))) (written_of_part f_code dual part)
      (split ∙ ap (written_of_part f_code dual) (sym e)) inner);
}

-- the dmvector of a part stands where the format has dmvectors
written-dual : (dual : Bool) (horizontal vertical : ℤ) (i : ℕ)
    → if_any (λ both. dmvector_code (slice_index_or both i (pos 0))) (if dual then Some (horizontal ∷ vertical ∷ []) else None)
    ≡ (if dual then dmvector_code (slice_index_or (horizontal ∷ vertical ∷ []) i (pos 0)) else [])
written-dual true horizontal vertical i = refl
written-dual false horizontal vertical i = refl

abbrev vector_of : Bool → Option Bool → Part → Part → Vector
vector_of dual select horizontal vertical = record {
  select = select;
  code = horizontal.code ∷ vertical.code ∷ [];
  residual = horizontal.residual ∷ vertical.residual ∷ [];
  dual = if dual then Some (horizontal.difference ∷ vertical.difference ∷ []) else None;
}

back-vector : (codes : List ℕ) (format : MotionFormat) → IsReadBack (motion_vector codes format) (written_vector codes)
back-vector codes format = record {
  again = λ vector s.
      let (select, m, s1, (horizontal, m', s2, (vertical, m'', s3, (e, f)))) = s.spelled in
      let made = vector_of format.dual select horizontal vertical in
      let front = if_any (λ (field : Bool). flag field ∷ []) select in
      let first = written_of_part (slice_index codes 0) format.dual horizontal in
      let second = written_of_part (slice_index codes 1) format.dual vertical in
      let inner = anywhere-bind _ _ select made front (first ++ second) ((back-optional format.select one_flag _ (back-flag [])).again select (spellable _ select s.bits m s1))
      (anywhere-bind _ _ horizontal made first second ((back-part (slice_index codes 0) format.dual).again horizontal (spellable _ horizontal m m' s2))
      (anywhere-made (vector_part (slice_index codes 1) format.dual) (vector_of format.dual select horizontal) vertical made second refl
      ((back-part (slice_index codes 1) format.dual).again vertical (spellable _ vertical m' m'' s3)))) in
      let duals = λ (i : ℕ). written-dual format.dual horizontal.difference vertical.difference i in
      let split : front ++ (first ++ second) ≡ written_vector codes made =
      sym (append_assoc front first second)
      ∙ ap₂ (λ (a b : List ℕ). front ++ (written_part (slice_index codes 0) horizontal.code horizontal.residual ++ a) ++ (written_part (slice_index codes 1) vertical.code vertical.residual ++ b))
      (sym (duals 0)) (sym (duals 1)) in
      anywhere-value (motion_vector codes format) made vector (written_vector codes vector) (sym e)
      (anywhere-code (motion_vector codes format) made (front ++ (first ++ second)) (written_vector codes vector) (split ∙ ap (written_vector codes) (sym e)) inner);
}

-- vectors, where they stand
pub back-vectors : (stand : Bool) (codes : List ℕ) (format : MotionFormat) → IsReadBack (when stand (motion_vectors codes format) []) (flat_map (written_vector codes))
back-vectors true codes format = back-repeated format.count (motion_vector codes format) (written_vector codes) (back-vector codes format)
back-vectors false codes format = record {
  again = λ value s. record { before = λ following. (s.spelled.0, ap (λ (vs : List Vector). flat_map (written_vector codes) vs ++ following) s.spelled.0) };
}
