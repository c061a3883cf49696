-- Slices that some bits spell have the shape that the walk needs.
use Rattle.std.proofs.Common.{◌≡◌, ℕ, ◌+◌, ◌-◌, ◌*◌, ◌<◌, ◌≤◌, min, Some, List, [], ◌∷◌, ◌++◌, Bool, true, false, refl, sym, ap, subst, inl, inr, length, arith, append_assoc, append-nil}
use Rattle.std.specs.Prelude.{◌==◌, ◌&&◌, not, nat_le, nat_lt, if◌then◌else◌}
use Rattle.std.specs.List.{sum_by}
use Rattle.std.proofs.lemmas.Bool.{and_parts, ltb-true, leb-true}
use Rattle.std.proofs.lemmas.List.Sums.{sum_by-append, sum_by-cons}
use Rattle.prefix_codes.specs.declared.symbol.TheConstants.{ADDRESS_ESCAPE}
use Rattle.prefix_codes.specs.declared.table_name.TableName.TheVariants.{Address}
use Rattle.prefix_codes.specs.TableName.{code_in}
use Rattle.prefix_codes.specs.MacroblockTables.{macroblock_address_increment}
use Rattle.prefix_codes.proofs.TableLemmas.{code_in-passes}
use Rattle.syntax_types.specs.declared.macroblock.Macroblock.{Macroblock}
use Rattle.syntax_types.specs.declared.picture.PicCoding.{PicCoding}
use Rattle.syntax_types.specs.declared.picture.SeqState.{SeqState}
use Rattle.syntax_types.specs.declared.picture.TheConstants.{I_PICTURE}
use Rattle.syntax_types.specs.declared.slice.Slice.{Slice}
use Rattle.picture_grammar.specs.Grammar.{SpellsList, Next}
use Rattle.picture_grammar.specs.Grammar.Next.{more, last}
use Rattle.picture_grammar.specs.Macroblock.{address_code, address_increment, most_increment, escape_increment, macroblock}
use Rattle.picture_grammar.specs.Picture.{first_column}
use Rattle.picture_grammar.specs.Slice.{columns, columns_left, next_macroblock, slice}
use Rattle.requantiser.specs.Private.Shapes.{IsWalkable, AreWalkable, IsWalkableSlice}
use Rattle.requantiser.proofs.MacroblockSteps.{span_of}
use Rattle.requantiser.proofs.Spelled.{spelled-walkable, is_code}

-- ---- how far an address rises

-- an increment is at least 1 and stays within its bound
pub record IsIncrement (most increment : ℕ) : Type 0 where
  pub some : 1 ≤ increment
  pub within : increment ≤ most

symbol_some : (symbol : ℕ) (code : List ℕ) → code_in Address symbol ≡ Some code → 0 < symbol
unfolding macroblock_address_increment
symbol_some symbol code listed = ltb-true 0 symbol (code_in-passes (λ e. nat_lt 0 e.0) Address symbol code refl listed)

last_increment : (most symbol n : ℕ) (escapes : ℕ) (code : List ℕ) (is_escape : Bool) → code_in Address symbol ≡ Some code → nat_le (escape_increment * escapes + symbol) most ≡ true
    → last n ≡ (if is_escape then more (tt {0}) else last symbol) → IsIncrement most (escape_increment * escapes + n)
last_increment most symbol n escapes code true listed passing e = absurd (let e' : last n ≡ more (tt {0}) = e in cc)
last_increment most symbol n escapes code false listed passing e =
    let same : (let x : Next (Unit {0}) ℕ = last n in x) ≡ last symbol = e in
    let is : n ≡ symbol = cc in
    record { some = omega (arith, symbol_some symbol code listed, is); within = omega (arith, leb-true (escape_increment * escapes + symbol) most passing, is) }

increments : (most n : ℕ) (before escapes : List (Unit {0})) (bits rest : List ℕ) → SpellsList (address_code most) before escapes n bits rest
    → IsIncrement most (escape_increment * length (before ++ escapes) + n)
increments most n before [] bits rest (symbol, m, (code, listed, passing, split), (e, f)) =
    subst (λ (xs : List (Unit {0})). IsIncrement most (escape_increment * length xs + n)) (sym (append-nil before))
    (last_increment most symbol n (length before) code (symbol == ADDRESS_ESCAPE) listed (and_parts (nat_le (escape_increment * length before + symbol) most) true passing).0 e)
increments most n before (x ∷ escapes) bits rest (middle, s, t) =
    subst (λ (xs : List (Unit {0})). IsIncrement most (escape_increment * length xs + n)) (append_assoc before (x ∷ []) escapes) (increments most n (before ++ x ∷ []) escapes middle rest t)

pub increment_is : (most increment : ℕ) (bits rest : List ℕ) → (address_increment most).Spells increment bits rest → IsIncrement most increment
increment_is most increment bits rest (codes, m, s, (e, f)) = subst (IsIncrement most) (sym e) (increments most codes.1 [] codes.0 bits m s)

pub most_within : (coding : PicCoding) (first : Bool) (columns_left : ℕ) → most_increment coding first columns_left ≤ columns_left
most_within coding first columns_left = by_test (coding.kind == I_PICTURE && not first)
  where
    by_test : (b : Bool) → (if b then min 1 columns_left else columns_left) ≤ columns_left
    by_test true = omega arith
    by_test false = omega arith

-- a macroblock stands within the columns that are left
pub record IsMacroblockWithin (columns_left : ℕ) (m : Macroblock) : Type 0 where
  pub walkable : IsWalkable m
  pub within : span_of m ≤ columns_left

span_within : (coding : PicCoding) (first : Bool) (left : ℕ) (m : Macroblock) (bits rest : List ℕ) → (macroblock coding first left).Spells m bits rest → span_of m ≤ left
unfolding macroblock
span_within coding first left v bits rest
    (increment, m1, s1, (kind, m2, s2, (motion, m3, s3, (dct, m4, s4, (code, m5, s5, (forward, m6, s6, (backward, m7, s7, (marker, m8, s8, (pattern, m9, s9, (blocks, m10, s10, (e, f))))))))))) =
    let is : IsIncrement (most_increment coding first left) increment = increment_is (most_increment coding first left) increment bits m1 s1 in
    let skipped : v.skipped_before ≡ increment - 1 = ap (λ (x : Macroblock). x.skipped_before) e in
    omega (arith, is.some, is.within, most_within coding first left, skipped)

macroblock_within : (coding : PicCoding) (first : Bool) (left : ℕ) (m : Macroblock) (bits rest : List ℕ) → (macroblock coding first left).Spells m bits rest → IsMacroblockWithin left m
macroblock_within coding first left m bits rest s = record {
  walkable = spelled-walkable coding first left m bits rest s;
  within = span_within coding first left m bits rest s;
}

-- ---- the macroblocks of a slice

module _ (seq : SeqState) (coding : PicCoding) where
  next_is : (before : List Macroblock) (m : Macroblock) (bits middle : List ℕ) → sum_by span_of before ≤ columns seq → (next_macroblock seq coding before).Spells (more m) bits middle
      → IsMacroblockWithin (columns seq - sum_by span_of before) m
  next_is [] m bits middle fits (v, n, s, (e, f)) =
      let same : more m ≡ more v = e in
      let is : v ≡ m = cc in
      let all : columns seq ≡ columns seq - sum_by span_of [] = omega arith in
      subst (λ left. IsMacroblockWithin left m) all (subst (IsMacroblockWithin (columns seq)) is (macroblock_within coding true (columns seq) v bits n s))
  next_is (b ∷ bs) m bits middle fits (inl (closes, (e, f))) = absurd (let e' : more m ≡ last tt = e in cc)
  next_is (b ∷ bs) m bits middle fits (inr (open_slice, (v, n, s, (e, f)))) =
      let same : more m ≡ more v = e in
      let is : v ≡ m = cc in
      subst (IsMacroblockWithin (columns_left seq (b ∷ bs))) is (macroblock_within coding false (columns_left seq (b ∷ bs)) v bits n s)

  -- the macroblocks behind some, and where they end
  pub record AreWithin (before ms : List Macroblock) : Type 0 where
    pub walkable : AreWalkable ms
    pub within : sum_by span_of (before ++ ms) ≤ columns seq

  macroblocks_within : (before ms : List Macroblock) (bits rest : List ℕ) → sum_by span_of before ≤ columns seq → SpellsList (next_macroblock seq coding) before ms tt bits rest → AreWithin before ms
  macroblocks_within before [] bits rest fits s = record { walkable = tt; within = subst (λ (xs : List Macroblock). sum_by span_of xs ≤ columns seq) (sym (append-nil before)) fits }
  macroblocks_within before (m ∷ ms) bits rest fits (middle, s, t) =
      let here : IsMacroblockWithin (columns seq - sum_by span_of before) m = next_is before m bits middle fits s in
      let spans : sum_by span_of (before ++ m ∷ []) ≡ sum_by span_of before + sum_by span_of (m ∷ []) = sum_by-append span_of before (m ∷ []) in
      let one : sum_by span_of (m ∷ []) ≡ span_of m + 0 = sum_by-cons span_of m [] in
      let more_fit : sum_by span_of (before ++ m ∷ []) ≤ columns seq = omega (arith, spans, one, here.within, fits) in
      let others : AreWithin (before ++ m ∷ []) ms = macroblocks_within (before ++ m ∷ []) ms middle rest more_fit t in
      record {
        walkable = (here.walkable, others.walkable);
        within = subst (λ (xs : List Macroblock). sum_by span_of xs ≤ columns seq) (append_assoc before (m ∷ []) ms) others.within;
      }

  -- a slice has a macroblock
  has_macroblock : (ms : List Macroblock) (bits rest : List ℕ) → SpellsList (next_macroblock seq coding) [] ms tt bits rest → first_column ms < sum_by span_of ms
  has_macroblock [] bits rest (v, n, s, (e, f)) = absurd (let clash : last tt ≡ more v = e in cc)
  has_macroblock (m ∷ ms) bits rest s = omega (arith, sum_by-cons span_of m ms)

  pub spelled_slice-walkable : (row : ℕ) (v : Slice) (bits rest : List ℕ) → (slice seq coding row).Spells v bits rest → IsWalkableSlice (columns seq) v
  unfolding slice
  spelled_slice-walkable row v bits rest (code, m1, s1, (info, m2, s2, (ms, m3, s3, (e, f)))) =
      let all : AreWithin [] ms.0 = macroblocks_within [] ms.0 m2 m3 (omega arith) s3 in
      subst (IsWalkableSlice (columns seq)) (sym e) (record {
        code = is_code code bits m1 s1;
        macroblocks = all.walkable;
        within = all.within;
        some = has_macroblock ms.0 m2 m3 s3;
      })
