-- A block is spelled by some bits where its coefficients are within its places and have levels that bits may say.
use Rattle.std.proofs.Common.{
  ◌≡◌,
  ◌⊎◌,
  ℕ,
  suc,
  ℤ,
  pos,
  negsuc,
  neg_ℤ,
  unsigned_abs,
  ◌+◌,
  ◌-◌,
  ◌<◌,
  ◌≤◌,
  ◌==◌,
  ◌&&◌,
  nat_eq,
  nat_lt,
  not,
  List,
  [],
  ◌∷◌,
  ◌++◌,
  length,
  Option,
  Some,
  None,
  Bool,
  true,
  false,
  cond,
  if◌then◌else◌,
  refl,
  sym,
  ap,
  subst,
  ◌∙◌,
  inl,
  inr,
  arith,
  append_assoc,
  append-nil,
  ◌≢◌,
}
use Rattle.std.specs.List.{AllByRecursion}
use Rattle.std.proofs.lemmas.Bool.{and_parts, and_from, cases_Bool, cases_lt, lt-ltb, le-ltb, ltb-true, both_ways, eq-eqb, eqb-true, not-true}
use Rattle.std.proofs.lemmas.List.Sums.{sum_by-append, sum_by-cons}
use Rattle.prefix_codes.specs.declared.symbol.TheConstants.{END_OF_BLOCK, ESCAPE}
use Rattle.prefix_codes.specs.declared.table_name.TableName.{TableName}
use Rattle.prefix_codes.specs.declared.table_name.TableName.TheVariants.{CoeffZero, CoeffFirst, CoeffOne}
use Rattle.prefix_codes.specs.TableName.{code_in, coefficient_code}
use Rattle.prefix_codes.proofs.Computing.{tables}
use Rattle.syntax_types.specs.declared.block.Block.{Block}
use Rattle.syntax_types.specs.declared.block.BlockWay.{BlockWay}
use Rattle.syntax_types.specs.declared.block.RunLevel.{RunLevel}
use Rattle.picture_grammar.specs.Grammar.{SpellsList, optional}
use Rattle.picture_grammar.specs.Grammar.Next.{more, last}
use Rattle.picture_grammar.specs.Block.{dc_coefficient, signed, escape_level, next_place, coefficient_table, coefficient, block}
use Rattle.picture_grammar.specs.Block.Coefficient.{end_of_block, run_size, escape}
use Rattle.picture_grammar.specs.Written.{level_bits, if_any, written_dc, written_coefficient, written_coefficients}
use Rattle.picture_grammar.proofs.Codes.{coefficient_code-listed}
use Rattle.picture_grammar.proofs.WrittenBlock.{by_table, by_escape, next_place-push, unsigned_abs-signed, code_for-listed, optional_written}
use Rattle.picture_laws.specs.Spellable.{IsSpellable, HasSpellableCoefficients}
use Rattle.picture_laws.proofs.ReadBack.{IsReadBack, spellable}

-- ---- codes that stand in the tables

-- each table of coefficients has an escape
escape_listed : (way : BlockWay) (place : ℕ) → (code : List ℕ) × (code_in (coefficient_table way place) ESCAPE ≡ Some code)
unfolding tables
escape_listed way place = by_intra way.intra way.vlc_one (place == 0) where
  by_intra : (intra vlc_one none : Bool) → (code : List ℕ) × (code_in (if intra then (if vlc_one then CoeffOne else CoeffZero) else (if none then CoeffFirst else CoeffZero)) ESCAPE ≡ Some code)
  by_intra true true none = (_, refl)
  by_intra true false none = (_, refl)
  by_intra false vlc_one true = (_, refl)
  by_intra false vlc_one false = (_, refl)

-- and an end of block, but that of the first coefficient of a non-intra block
end_listed : (way : BlockWay) (place : ℕ) → (way.intra ≡ true) ⊎ (0 < place) → (code : List ℕ) × (code_in (coefficient_table way place) END_OF_BLOCK ≡ Some code)
unfolding tables
end_listed way place some = by_intra way.intra way.vlc_one (place == 0) (elim some [
  | inl intra ↦ inl intra
  | inr lt ↦ inr (elim (cases_Bool (nat_eq place 0)) [
    | inl none ↦ absurd (let e = eqb-true place 0 none in omega arith)
    | inr other ↦ other
  ])
]) where
  by_intra : (intra vlc_one none : Bool) → (intra ≡ true) ⊎ (none ≡ false)
      → (code : List ℕ) × (code_in (if intra then (if vlc_one then CoeffOne else CoeffZero) else (if none then CoeffFirst else CoeffZero)) END_OF_BLOCK ≡ Some code)
  by_intra true true none e = (_, refl)
  by_intra true false none e = (_, refl)
  by_intra false vlc_one true (inl e) = absurd cc
  by_intra false vlc_one true (inr e) = absurd cc
  by_intra false vlc_one false e = (_, refl)

-- ---- levels behind an escape

abbrev IsLevel : ℤ → Type 0
IsLevel level = (0 < unsigned_abs level) × (unsigned_abs level < 2048)

escaped : (level : ℤ) → IsLevel level → (level_bits level < 4096) × (escape_level (level_bits level) ≡ level) × (level_bits level ≢ 0) × (level_bits level ≢ 2048)
escaped (pos n) (some, lt) = (omega arith, ap (λ (b : Bool). cond b (pos n) (neg_ℤ (pos (4096 - n)))) (lt-ltb n 2048 lt), omega arith, omega arith)
escaped (negsuc n) (some, lt) =
    let large : 2048 ≤ 4096 - suc n = omega arith in
    let back : 4096 - (4096 - suc n) ≡ suc n = omega arith in (
      omega arith,
      ap (λ (b : Bool). cond b (pos (4096 - suc n)) (neg_ℤ (pos (4096 - (4096 - suc n))))) (le-ltb (4096 - suc n) 2048 large)
          ∙ ap (λ (k : ℕ). neg_ℤ (pos k)) back,
      omega arith,
      omega arith,
    )

differs : (m n : ℕ) → m ≢ n → not (nat_eq m n) ≡ true
differs m n other = elim (cases_Bool (nat_eq m n)) [
  | inl same ↦ absurd (other (eqb-true m n same))
  | inr apart ↦ ap not apart
]

-- ---- coefficients

next_place-append : (way : BlockWay) (before pairs : List RunLevel) → next_place way before ≤ next_place way (before ++ pairs)
next_place-append way before pairs = omega (arith, sum_by-append (λ (p : RunLevel). p.run + 1) before pairs)

some_place : (way : BlockWay) (before : List RunLevel) → 0 < length before → 0 < next_place way before
some_place way [] lt = absurd (omega arith)
some_place way (pair ∷ pairs) lt = omega (arith, sum_by-cons (λ (p : RunLevel). p.run + 1) pair pairs)

back-dc : (way : BlockWay) → IsReadBack (optional way.intra (dc_coefficient way)) (if_any (written_dc way))
back-dc way = record { again = λ dc s. record { before = λ following. optional_written way.intra way dc s.bits s.rest following s.spelled } }

module _ (way : BlockWay) where
  -- a coefficient that may stand behind these is spelled by its code or an escape
  one_written : (before : List RunLevel) (pair : RunLevel) (following : List ℕ) → next_place way before + pair.run < 64 → IsLevel pair.level
      → (coefficient way before).Spells (more pair) (written_coefficient (coefficient_table way (next_place way before)) pair ++ following) following
  one_written before pair following lt level = by_code (coefficient_code (coefficient_table way (next_place way before)) pair.run (unsigned_abs pair.level)) refl where
    within : nat_lt (next_place way before + pair.run) 64 ≡ true
    within = lt-ltb (next_place way before + pair.run) 64 lt

    by_code : (o : Option (List ℕ)) → coefficient_code (coefficient_table way (next_place way before)) pair.run (unsigned_abs pair.level) ≡ o
        → (coefficient way before).Spells (more pair) (written_coefficient (coefficient_table way (next_place way before)) pair ++ following) following
    by_code (Some code) listed = by_table way before pair code following listed within
    by_code None none =
        let code = escape_listed way (next_place way before) in
        let (fits, back, some, least) = escaped pair.level level in
        by_escape way before pair (level_bits pair.level) code.0 following none code.1 (omega arith) fits back
        (and_from (nat_lt (next_place way before + pair.run) 64) ((not (nat_eq (level_bits pair.level) 0) && not (nat_eq (level_bits pair.level) 2048)) && true) within
        (and_from (not (nat_eq (level_bits pair.level) 0) && not (nat_eq (level_bits pair.level) 2048)) true
        (and_from (not (nat_eq (level_bits pair.level) 0)) (not (nat_eq (level_bits pair.level) 2048)) (differs (level_bits pair.level) 0 some) (differs (level_bits pair.level) 2048 least)) refl))

  list_written : (before pairs : List RunLevel) (following : List ℕ) → next_place way (before ++ pairs) ≤ 64 → AllByRecursion (λ pair. IsLevel pair.level) pairs
      → (way.intra ≡ true) ⊎ (0 < length (before ++ pairs))
      → SpellsList (coefficient way) before pairs tt (written_coefficients way (next_place way before) pairs ++ following) following
  list_written before [] following places levels some =
      let same : before ++ [] ≡ before = append-nil before in
      let (code, listed) = end_listed way (next_place way before) (elim some [
        | inl intra ↦ inl intra
        | inr lt ↦ inr (some_place way before (subst (λ (b : List RunLevel). 0 < length b) same lt))
      ]) in
      (end_of_block, following, (code, listed, refl, ap (λ (c : List ℕ). c ++ following) (code_for-listed (coefficient_table way (next_place way before)) END_OF_BLOCK code listed)), (refl, refl))
  list_written before (pair ∷ pairs) following places levels some =
      let later = written_coefficients way (next_place way (before ++ pair ∷ [])) pairs ++ following in
      let same : before ++ pair ∷ pairs ≡ (before ++ pair ∷ []) ++ pairs = sym (append_assoc before (pair ∷ []) pairs) in
      let split : written_coefficients way (next_place way before) (pair ∷ pairs) ++ following ≡ written_coefficient (coefficient_table way (next_place way before)) pair ++ later =
      append_assoc (written_coefficient (coefficient_table way (next_place way before)) pair) (written_coefficients way (next_place way before + (pair.run + 1)) pairs) following
      ∙ ap (λ (n : ℕ). written_coefficient (coefficient_table way (next_place way before)) pair ++ (written_coefficients way n pairs ++ following)) (sym (next_place-push way before pair)) in
      let lt : next_place way before + pair.run < 64 = omega (arith, places, next_place-append way (before ++ pair ∷ []) pairs, next_place-push way before pair, ap (next_place way) same) in (
        later,
        subst (λ (b : List ℕ). (coefficient way before).Spells (more pair) b later) (sym split) (one_written before pair later lt levels.0),
        list_written (before ++ pair ∷ []) pairs following (subst (λ (b : List RunLevel). next_place way b ≤ 64) same places) levels.1
            (elim some [ inl intra ↦ inl intra | inr n ↦ inr (subst (λ (b : List RunLevel). 0 < length b) same n) ]),
      )

pub of_coefficients : (way : BlockWay) (b : Block) → HasSpellableCoefficients way b → IsSpellable (block way) b
unfolding block
of_coefficients way b has =
    let dc = (back-dc way).again b.dc has.dc in
    let list = list_written way [] b.pairs.items [] has.places has.levels has.some in
    let bits = written_coefficients way (next_place way []) b.pairs.items ++ [] in
    spellable (block way) b (if_any (written_dc way) b.dc ++ bits) [] (b.dc, bits, dc.before bits, ((b.pairs.items, tt), [], list, (refl, refl)))

-- ---- no other coefficients

first_within : (way : BlockWay) → next_place way [] ≤ 64
first_within way = by_intra way.intra where
  by_intra : (intra : Bool) → cond intra 1 0 + 0 ≤ 64
  by_intra true = omega arith
  by_intra false = omega arith

no_end_first : (code : List ℕ) → code_in CoeffFirst END_OF_BLOCK ≡ Some code → ⊥
unfolding tables
no_end_first code listed = let none : None ≡ Some code = listed in cc

-- an end of block stands behind a coefficient, or in an intra block
end_some : (way : BlockWay) (before : List RunLevel) (code : List ℕ) → code_in (coefficient_table way (next_place way before)) END_OF_BLOCK ≡ Some code → (way.intra ≡ true) ⊎ (0 < length before)
end_some way (pair ∷ pairs) code listed = inr (omega arith)
end_some way [] code listed = by_intra way.intra refl where
  by_intra : (intra : Bool) → way.intra ≡ intra → (way.intra ≡ true) ⊎ (0 < length {A = RunLevel} [])
  by_intra true is = inl is
  by_intra false is =
      let place : next_place way [] ≡ 0 = ap (λ (b : Bool). cond b 1 0 + 0) is in
      absurd (no_end_first code (ap (λ (t : TableName). code_in t END_OF_BLOCK) (sym (ap (λ (b : Bool). cond b (cond way.vlc_one CoeffOne CoeffZero) CoeffFirst) is))
      ∙ ap (λ (n : ℕ). code_in (coefficient_table way n) END_OF_BLOCK) (sym place) ∙ listed))

level-escaped : (level : ℕ) → level < 4096 → level ≢ 0 → level ≢ 2048 → IsLevel (escape_level level)
level-escaped level fits some least = elim (cases_lt level 2048) [
  | inl small ↦ subst IsLevel (sym (ap (λ (b : Bool). cond b (pos level) (neg_ℤ (pos (4096 - level)))) (lt-ltb level 2048 small))) (omega arith, small)
  | inr large ↦
      let size : 4096 - level ≡ suc (4095 - level) = omega arith in
      subst IsLevel (sym (ap (λ (b : Bool). cond b (pos level) (neg_ℤ (pos (4096 - level)))) (le-ltb level 2048 large) ∙ ap (λ (k : ℕ). neg_ℤ (pos k)) size)) (omega arith, omega arith)
]

apart : (m n : ℕ) → not (nat_eq m n) ≡ true → m ≢ n
apart m n test = λ same. both_ways (nat_eq m n) (not-true (nat_eq m n) test) (eq-eqb m n same)

module _ (way : BlockWay) where
  one_spelled : (before : List RunLevel) (pair : RunLevel) (bits middle : List ℕ) → (coefficient way before).Spells (more pair) bits middle
      → (next_place way before + pair.run < 64) × IsLevel pair.level
  one_spelled before pair bits middle (end_of_block, m, s, (e, f)) = absurd (let e' : more pair ≡ last tt = e in cc)
  one_spelled before pair bits middle (run_size run size, m, (code, coded, passing, split), (negative, m', s, (e, f))) =
      let same : pair ≡ record { run = run; level = signed size negative } = cc in
      let bounds = coefficient_code-listed (coefficient_table way (next_place way before)) run size code coded in
      subst (λ (p : RunLevel). (next_place way before + p.run < 64) × IsLevel p.level) (sym same) (
        ltb-true (next_place way before + run) 64 (and_parts (nat_lt (next_place way before + run) 64) true passing).0,
        subst (λ (n : ℕ). (0 < n) × (n < 2048)) (sym (unsigned_abs-signed size negative)) (bounds.1, omega (arith, bounds.2)),
      )
  one_spelled before pair bits middle (escape run level, m, (code, (front, listed, run_fits, level_fits, is), passing, split), (e, f)) =
      let same : pair ≡ record { run = run; level = escape_level level } = cc in
      let rules = and_parts (nat_lt (next_place way before + run) 64) ((not (nat_eq level 0) && not (nat_eq level 2048)) && true) passing in
      let levels = and_parts (not (nat_eq level 0)) (not (nat_eq level 2048)) (and_parts (not (nat_eq level 0) && not (nat_eq level 2048)) true rules.1).0 in
      subst (λ (p : RunLevel). (next_place way before + p.run < 64) × IsLevel p.level) (sym same)
      (ltb-true (next_place way before + run) 64 rules.0, level-escaped level level_fits (apart level 0 levels.0) (apart level 2048 levels.1))

  list_spelled : (before pairs : List RunLevel) (bits rest : List ℕ) → next_place way before ≤ 64 → SpellsList (coefficient way) before pairs tt bits rest
      → (next_place way (before ++ pairs) ≤ 64) × AllByRecursion (λ pair. IsLevel pair.level) pairs × ((way.intra ≡ true) ⊎ (0 < length (before ++ pairs)))
  list_spelled before [] bits rest places (end_of_block, m, (code, listed, passing, split), u) =
      let same : before ++ [] ≡ before = append-nil before in
      (subst (λ (b : List RunLevel). next_place way b ≤ 64) (sym same) places, tt, subst (λ (b : List RunLevel). (way.intra ≡ true) ⊎ (0 < length b)) (sym same) (end_some way before code listed))
  list_spelled before [] bits rest places (run_size run size, m, s, (negative, m', t, (e, f))) = absurd (let e' : last tt ≡ more (record { run = run; level = signed size negative }) = e in cc)
  list_spelled before [] bits rest places (escape run level, m, s, (e, f)) = absurd (let e' : last tt ≡ more (record { run = run; level = escape_level level }) = e in cc)
  list_spelled before (pair ∷ pairs) bits rest places (middle, s, t) =
      let one = one_spelled before pair bits middle s in
      let same : before ++ pair ∷ pairs ≡ (before ++ pair ∷ []) ++ pairs = sym (append_assoc before (pair ∷ []) pairs) in
      let later = list_spelled (before ++ pair ∷ []) pairs middle rest (omega (arith, next_place-push way before pair, one.0)) t in
      (subst (λ (b : List RunLevel). next_place way b ≤ 64) (sym same) later.0, (one.1, later.1), subst (λ (b : List RunLevel). (way.intra ≡ true) ⊎ (0 < length b)) (sym same) later.2)

pub coefficients-of : (way : BlockWay) (b : Block) → IsSpellable (block way) b → HasSpellableCoefficients way b
unfolding block
coefficients-of way b s =
    let (dc, m, s1, (found, m', t, (e, f))) = s.spelled in
    let first : next_place way [] ≤ 64 = first_within way in
    let list = list_spelled way [] found.0 m m' first t in
    subst (HasSpellableCoefficients way) (sym e) (record { dc = spellable _ dc s.bits m s1; places = list.0; levels = list.1; some = list.2 })
