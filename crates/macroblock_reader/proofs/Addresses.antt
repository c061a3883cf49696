-- The address of a macroblock (ISO/IEC 13818-2, 6.3.17), and its type.
use Rattle.std.proofs.Common.{◌≡◌, ◌==◌, ◌+◌, ◌*◌, ◌<◌, nat_eq, nat_le, ℕ, List, [], ◌∷◌, ◌++◌, length, Some, Ok, Err, Bool, true, false, if◌then◌else◌, refl, sym, ap, subst, ◌∙◌, inl, inr, arith}
use Rattle.std.specs.List.{list_all}
use Rattle.std.proofs.lemmas.Bool.{cases_Bool, eqb-true, ne_eqb, leb-true, leb-false, le-leb, lt-leb}
use Rattle.std.proofs.lemmas.List.{length-append}
use Rattle.shelf_io.specs.declared.source.Source.{Ghosts}
use Rattle.bit_cursor.specs.declared.bit_reader.BitReader.{BitReader}
use Rattle.prefix_codes.specs.Entry.{Entry}
use Rattle.prefix_codes.specs.declared.table_name.TableName.{TableName}
use Rattle.prefix_codes.specs.declared.table_name.TableName.TheVariants.{Address, TypeI, TypeP, TypeB}
use Rattle.prefix_codes.specs.TableName.{entries, code_in}
use Rattle.prefix_codes.proofs.Computing.{tables}
use Rattle.prefix_codes.proofs.TableLemmas.{code_in-passes}
use Rattle.syntax_types.specs.declared.picture.TheConstants.{I_PICTURE, P_PICTURE}
use Rattle.syntax_types.specs.declared.picture.PicCoding.{PicCoding}
use Rattle.picture_grammar.specs.Refusal.{Refusal}
use Rattle.picture_grammar.specs.Refusal.Refusal.{BadAddress, BadType}
use Rattle.picture_grammar.specs.Grammar.{Grammar, done, many, Next}
use Rattle.picture_grammar.specs.Grammar.Next.{more, last}
use Rattle.picture_grammar.specs.Element.{Rule, rule, vlclbf}
use Rattle.picture_grammar.specs.Macroblock.{address_code, address_increment, macroblock_type, type_table, type_symbol}
use Rattle.picture_grammar.proofs.LocalLaws.{local-bind, local-element, local-done}
use Rattle.grammar_reading.specs.Symbol.{symbol_up_to}
use Rattle.grammar_reading.specs.Several.{several}
use Rattle.grammar_reading.proofs.BitsRead.{StandsBefore, stands-before}
use Rattle.grammar_reading.proofs.Several.{local-several}
use Rattle.macroblock_reader.specs.declared.fault.SliceFault.{SliceFault}
use Rattle.macroblock_reader.specs.Private.Answers.{Answers, Listed}
use Rattle.macroblock_reader.specs.Private.Parts.{kind_by}
use Rattle.macroblock_reader.proofs.Codes.{any-refuses, of-answer}
use Rattle.macroblock_reader.proofs.Courses.{answers-as, answers-first}
use Rattle.macroblock_reader.proofs.Lists.{listed-more, listed-end, listed-err}

-- ---- an address code behind escapes

-- how far it may rise behind them
le-shift : (e left most symbol : ℕ) → 33 * e + left ≡ most → nat_le symbol left ≡ nat_le (33 * e + symbol) most
le-shift e left most symbol is = elim (cases_Bool (nat_le symbol left)) [
  | inl le ↦ (let small = leb-true symbol left le in le ∙ sym (le-leb (33 * e + symbol) most (omega arith)))
  | inr past ↦ (let great = leb-false symbol left past in past ∙ sym (lt-leb (33 * e + symbol) most (omega arith)))
]

abbrev made_code : ℕ → Next (Unit {0}) ℕ
made_code symbol = if symbol == 34 then more tt else last symbol

same-rule : (e left most : ℕ) → 33 * e + left ≡ most → symbol_up_to Address left BadAddress BadAddress ≡ vlclbf Address BadAddress (rule BadAddress (λ symbol. nat_le (33 * e + symbol) most) ∷ [])
same-rule e left most is = λ i. vlclbf Address BadAddress (rule BadAddress (λ symbol. le-shift e left most symbol is i) ∷ [])

stands : (most : ℕ) (escapes : List (Unit {0})) (v : Next (Unit {0}) ℕ) → StandsBefore (several (address_code most)) escapes (address_code most escapes) v
stands most escapes v = stands-before (address_code most escapes) escapes v (local-several (address_code most) (λ before. local-bind _ _ (local-element _ _ _) (λ symbol. local-done _)))

module _ {S : Type 0} {g : Ghosts S} (keeps_on : (x y z : S) → g.keeps x y → g.keeps y z → g.keeps x z) (most left : ℕ) (escapes : List (Unit {0})) (counted : 33 * length escapes + left ≡ most)
    {old middle new : BitReader S g} (so_far : Listed (address_code most) escapes old middle) where
  -- the answer of a symbol is one of the grammar behind these escapes
  code-ok : (symbol : ℕ) → Answers ⊥ (symbol_up_to Address left BadAddress BadAddress) (Ok symbol) middle new → Answers ⊥ (address_code most escapes) (Ok (made_code symbol)) middle new
  code-ok symbol a =
      let b = subst (λ (grammar : Grammar ℕ). Answers ⊥ grammar (Ok symbol) middle new) (same-rule (length escapes) left most counted) a in
      answers-as (vlclbf Address BadAddress (rule BadAddress (λ s. nat_le (33 * length escapes + s) most) ∷ [])) (address_code most escapes) made_code middle new
      (λ v bits rest s. (v, rest, s, (refl, refl))) (λ bits others refusal r. inl r) (Ok symbol) b

  code-err : (fault : SliceFault) → Answers ⊥ (symbol_up_to Address left BadAddress BadAddress) (Err fault) middle new → Answers ⊥ (address_code most escapes) (Err fault) middle new
  code-err fault a =
      let b = subst (λ (grammar : Grammar ℕ). Answers ⊥ grammar (Err fault) middle new) (same-rule (length escapes) left most counted) a in
      answers-first (vlclbf Address BadAddress (rule BadAddress (λ s. nat_le (33 * length escapes + s) most) ∷ [])) (λ symbol. done (made_code symbol)) b

  pub escape-read : (symbol : ℕ) → symbol ≡ 34 → Answers ⊥ (symbol_up_to Address left BadAddress BadAddress) (Ok symbol) middle new → Listed (address_code most) (escapes ++ tt ∷ []) old new
  escape-read symbol is a =
      let code : made_code symbol ≡ more tt = ap made_code is in
      listed-more (address_code most) keeps_on escapes so_far tt (stands most escapes (more tt))
      (subst (λ (v : Next (Unit {0}) ℕ). Answers ⊥ (address_code most escapes) (Ok v) middle new) code (code-ok symbol a))

  pub increment-read : (symbol increment : ℕ) → (symbol ≡ 34 → ⊥) → increment ≡ 33 * length escapes + symbol
      → Answers ⊥ (symbol_up_to Address left BadAddress BadAddress) (Ok symbol) middle new → Answers ⊥ (address_increment most) (Ok increment) old new
  increment-read symbol increment other is a =
      let test : (symbol == 34) ≡ false = ne_eqb symbol 34 other in
      let code : made_code symbol ≡ last symbol = ap (λ (b : Bool). if b then more tt else last symbol) test in
      let b = listed-end (address_code most) keeps_on escapes so_far symbol (stands most escapes (last symbol))
      (subst (λ (v : Next (Unit {0}) ℕ). Answers ⊥ (address_code most escapes) (Ok v) middle new) code (code-ok symbol a)) in
      subst (λ n. Answers ⊥ (address_increment most) (Ok n) old new) (sym is)
      (answers-as (many (address_code most)) (address_increment most) (λ codes. 33 * length codes.0 + codes.1) old new
      (λ v bits rest s. (v, rest, s, (refl, refl))) (λ bits others refusal r. inl r) (Ok (escapes, symbol)) b)

  pub increment-err : (fault : SliceFault) → Answers ⊥ (symbol_up_to Address left BadAddress BadAddress) (Err fault) middle new → Answers ⊥ (address_increment most) (Err fault) old new
  increment-err fault a = answers-first (many (address_code most)) (λ codes. done (33 * length codes.0 + codes.1)) (listed-err (address_code most) keeps_on escapes so_far (code-err fault a))

-- a symbol is at least 1
some-codes : list_all (λ (e : Entry). nat_le 1 e.0) (entries Address) ≡ true
unfolding tables
some-codes = refl

address-some : (most symbol : ℕ) (bits rest : List ℕ) → (symbol_up_to Address most BadAddress BadAddress).Spells symbol bits rest → 0 < symbol
address-some most symbol bits rest (code, listed, passing, split) = let one = leb-true 1 symbol (code_in-passes (λ (e : Entry). nat_le 1 e.0) Address symbol code some-codes listed) in omega arith

pub address-of_answer : {S : Type 0} {g : Ghosts S} (most symbol : ℕ) (old new : BitReader S g) → Answers ⊥ (symbol_up_to Address most BadAddress BadAddress) (Ok symbol) old new → 0 < symbol
address-of_answer most symbol old new a =
    let (bits, rest, s) = of-answer (symbol_up_to Address most BadAddress BadAddress) symbol old new a in address-some most symbol bits rest s

-- ---- macroblock_type

abbrev is_kind : Entry → Bool
is_kind e = nat_eq (type_symbol (kind_by e.0)) e.0

kinds-i : list_all is_kind (entries TypeI) ≡ true
unfolding tables
kinds-i = refl

kinds-p : list_all is_kind (entries TypeP) ≡ true
unfolding tables
kinds-p = refl

kinds-b : list_all is_kind (entries TypeB) ≡ true
unfolding tables
kinds-b = refl

small-i : list_all (λ (e : Entry). nat_le e.0 31) (entries TypeI) ≡ true
unfolding tables
small-i = refl

small-p : list_all (λ (e : Entry). nat_le e.0 31) (entries TypeP) ≡ true
unfolding tables
small-p = refl

small-b : list_all (λ (e : Entry). nat_le e.0 31) (entries TypeB) ≡ true
unfolding tables
small-b = refl

by_type : (P : TableName → Type 0) → P TypeI → P TypeP → P TypeB → (i p : Bool) → P (if i then TypeI else (if p then TypeP else TypeB))
by_type P i p b true other = i
by_type P i p b false true = p
by_type P i p b false false = b

module _ (coding : PicCoding) where
  kinds : list_all is_kind (entries (type_table coding)) ≡ true
  kinds = by_type (λ t. list_all is_kind (entries t) ≡ true) kinds-i kinds-p kinds-b (coding.kind == I_PICTURE) (coding.kind == P_PICTURE)

  small-kinds : list_all (λ (e : Entry). nat_le e.0 31) (entries (type_table coding)) ≡ true
  small-kinds = by_type (λ t. list_all (λ (e : Entry). nat_le e.0 31) (entries t) ≡ true) small-i small-p small-b (coding.kind == I_PICTURE) (coding.kind == P_PICTURE)

  -- the flags of a symbol give it back
  same-symbol : (symbol : ℕ) (code : List ℕ) → code_in (type_table coding) symbol ≡ Some code → type_symbol (kind_by symbol) ≡ symbol
  same-symbol symbol code listed = eqb-true (type_symbol (kind_by symbol)) symbol (code_in-passes is_kind (type_table coding) symbol code kinds listed)

  kind-coded : (symbol : ℕ) (code : List ℕ) → code_in (type_table coding) symbol ≡ Some code → code_in (type_table coding) (type_symbol (kind_by symbol)) ≡ Some code
  kind-coded symbol code listed = subst (λ s. code_in (type_table coding) s ≡ Some code) (sym (same-symbol symbol code listed)) listed

  pub kind-spells : (symbol : ℕ) (bits rest : List ℕ) → (symbol_up_to (type_table coding) 31 BadType BadType).Spells symbol bits rest → (macroblock_type coding).Spells (kind_by symbol) bits rest
  kind-spells symbol bits rest (code, listed, passing, split) = (code, kind-coded symbol code listed, refl, split)

  none-first : (before after : List (Rule ℕ)) (broken : Rule ℕ) → [] ≡ before ++ broken ∷ after → ⊥
  none-first before after broken e = omega (arith, ap length e, length-append before (broken ∷ after))

  of-symbols : (bits left : List ℕ) (refusal : Refusal) → (vlclbf (type_table coding) BadType []).Refuses bits refusal left → (macroblock_type coding).Refuses bits refusal left
  of-symbols bits left refusal (e, inl (none, is)) =
      (e, inl ((λ m. none (record { value = type_symbol m.value; code = m.code; coded = m.coded; passing = refl; agrees = m.agrees })), is))
  of-symbols bits left refusal (e, inr (inl b)) = absurd (none-first b.before b.after b.broken b.order)
  of-symbols bits left refusal (e, inr (inr (may, none, is))) = (
    e,
    inr (inr (
      record { value = kind_by may.value; code = may.code; coded = kind-coded may.value may.code may.coded; passing = refl; agrees = may.agrees },
      (λ s. none (record { value = type_symbol s.value; code = s.code; coded = s.coded; passing = refl; first = s.first })),
      is,
    )),
  )

  pub kind-refuses : (bits left : List ℕ) (refusal : Refusal) → (symbol_up_to (type_table coding) 31 BadType BadType).Refuses bits refusal left → (macroblock_type coding).Refuses bits refusal left
  kind-refuses bits left refusal r = of-symbols bits left refusal (any-refuses (type_table coding) 31 BadType small-kinds bits left refusal r)
