-- What is written of a slice is read as that slice, where what follows closes it.
use Rattle.std.proofs.Common.{
  ◌≡◌,
  ℕ,
  zero,
  suc,
  ◌+◌,
  ◌*◌,
  ◌^◌,
  ◌<◌,
  ◌==◌,
  ◌&&◌,
  nat_eq,
  nat_le,
  not,
  List,
  [],
  ◌∷◌,
  ◌++◌,
  length,
  replicate,
  take,
  Option,
  Some,
  None,
  Bool,
  true,
  false,
  refl,
  sym,
  ap,
  subst,
  ◌∙◌,
  inl,
  inr,
  arith,
  append_assoc,
  append-nil,
}
use Rattle.std.specs.List.{flat_map, list_all}
use Rattle.std.proofs.lemmas.Bool.{and_parts, cases_Bool, leb-true, both_ways, eq-eqb, eqb-true, not-true}
use Rattle.bit_lists.specs.Bits.{IsPrefix, bits_of, number_of}
use Rattle.bit_lists.specs.Fields.{flag}
use Rattle.bit_lists.proofs.PrefixLemmas.{IsPrefix-append, IsPrefix-shorter}
use Rattle.prefix_codes.specs.declared.table_name.TableName.TheVariants.{Address}
use Rattle.prefix_codes.specs.Entry.{Entry}
use Rattle.prefix_codes.specs.TableName.{entries, code_in}
use Rattle.prefix_codes.proofs.Computing.{tables}
use Rattle.prefix_codes.proofs.TableLemmas.{code_in-passes}
use Rattle.syntax_types.specs.declared.macroblock.Macroblock.{Macroblock}
use Rattle.syntax_types.specs.declared.picture.PicCoding.{PicCoding}
use Rattle.syntax_types.specs.declared.picture.SeqState.{SeqState}
use Rattle.syntax_types.specs.declared.slice.Slice.{Slice}
use Rattle.syntax_types.specs.declared.slice.SliceInfo.{SliceInfo}
use Rattle.picture_grammar.specs.declared.limits.TheConstants.{SLICE_CLOSING_BITS}
use Rattle.picture_grammar.specs.Grammar.{Grammar, done, ◌>>=◌, optional, many, SpellsList, Next, more_of}
use Rattle.picture_grammar.specs.Grammar.Next.{more, last}
use Rattle.picture_grammar.specs.Element.{uimsbf, one_flag}
use Rattle.picture_grammar.specs.Macroblock.{address_code, most_increment, quantiser_scale_code, macroblock}
use Rattle.picture_grammar.specs.Slice.{extra_information, slice_extension, slice_info, columns, columns_left, ClosesSlice, next_macroblock, slice}
use Rattle.picture_grammar.specs.Written.{written_macroblock, written_slice_info, written_slice}
use Rattle.picture_laws.specs.Spellable.{IsSpellable, HasSpellableParts, HasSpellableMacroblocks}
use Rattle.picture_laws.proofs.ReadBack.{SpellsAnywhere, IsReadBack, spellable, anywhere-code, anywhere-bind, anywhere-made, anywhere-done, anywhere-element, back-uimsbf, back-many}
use Rattle.picture_laws.proofs.WrittenMacroblock.{anywhere-macroblock, parts-of_macroblock}

-- ---- the header

anywhere-flag : (is_set : Bool) → SpellsAnywhere one_flag is_set (flag is_set ∷ [])
anywhere-flag is_set = anywhere-element _ _ [] is_set (flag is_set ∷ []) refl refl

abbrev after_flag : Bool → Grammar (Next ℕ (Unit {0}))
after_flag another = optional another (uimsbf 8 []) >>= λ byte. done (more_of byte)

pub extra-more : (before : List ℕ) (v : ℕ) → IsSpellable (extra_information before) (more v) → SpellsAnywhere (extra_information before) (more v) (1 ∷ bits_of 8 v)
extra-more before v s = let (another, m, s1, (byte, m', t, (e, f))) = s.spelled in by_flag another byte m m' t e where
  by_flag : (another : Bool) (byte : Option ℕ) (m m' : List ℕ) → (optional another (uimsbf 8 [])).Spells byte m m' → more v ≡ more_of byte
      → SpellsAnywhere (extra_information before) (more v) (1 ∷ bits_of 8 v)
  by_flag true byte m m' (number, m'', u, (d, d')) e =
      let value : v ≡ number = (let e' : more v ≡ more number = e ∙ ap more_of d in cc) in
      subst (λ (n : ℕ). SpellsAnywhere (extra_information before) (more n) (1 ∷ bits_of 8 n)) (sym value)
      (anywhere-bind one_flag after_flag true (more number) (1 ∷ []) (bits_of 8 number) (anywhere-flag true)
      (anywhere-made (optional true (uimsbf 8 [])) more_of (Some number) (more number) (bits_of 8 number) refl
      (anywhere-made (uimsbf 8 []) (λ n. Some n) number (Some number) (bits_of 8 number) refl ((back-uimsbf 8 []).again number (spellable (uimsbf 8 []) number m m'' u)))))
  by_flag false byte m m' (d, d') e = absurd (let e' : more v ≡ last tt = e ∙ ap more_of d in cc)

pub extra-end : (before : List ℕ) (end : Unit {0}) → IsSpellable (extra_information before) (last end) → SpellsAnywhere (extra_information before) (last end) (0 ∷ [])
extra-end before end s =
    anywhere-bind one_flag after_flag false (last end) (0 ∷ []) [] (anywhere-flag false) (anywhere-made (optional false (uimsbf 8 [])) more_of None (last end) [] refl (anywhere-done None))

-- extra information, and the bit 0 behind it
abbrev pub written_information : List ℕ → List ℕ
written_information bytes = flat_map (λ byte. 1 ∷ bits_of 8 byte) bytes ++ 0 ∷ []

pub back-information : IsReadBack (many extra_information) (λ found. written_information found.0)
back-information = back-many extra_information (λ byte. 1 ∷ bits_of 8 byte) (λ _. 0 ∷ []) extra-more extra-end

anywhere-extension : (info : SliceInfo) → IsSpellable slice_extension info
    → SpellsAnywhere slice_extension info (flag info.intra_slice ∷ [] ++ (bits_of 7 info.reserved ++ written_information info.bytes))
anywhere-extension info s =
    let (intra, m, s1, (reserved, m', s2, (found, m'', s3, (e, f)))) = s.spelled in
    let made : SliceInfo = record { intra_slice = intra; reserved = reserved; bytes = found.0 } in
    subst (λ (i : SliceInfo). SpellsAnywhere slice_extension i (flag i.intra_slice ∷ [] ++ (bits_of 7 i.reserved ++ written_information i.bytes))) (sym e)
    (anywhere-bind _ _ intra made (flag intra ∷ []) (bits_of 7 reserved ++ written_information found.0) (anywhere-flag intra)
    (anywhere-bind _ _ reserved made (bits_of 7 reserved) (written_information found.0) ((back-uimsbf 7 []).again reserved (spellable (uimsbf 7 []) reserved m m' s2))
    (anywhere-made (many extra_information) (λ (found : List ℕ × Unit {0}). record { intra_slice = intra; reserved = reserved; bytes = found.0 }) found made (written_information found.0) refl
    (back-information.again found (spellable (many extra_information) found m' m'' s3)))))

pub back-info : IsReadBack slice_info written_slice_info
back-info = record { again = λ info s. let (extended, m, s1, t) = s.spelled in by_flag info extended m s.rest t } where
  by_flag : (info : Option SliceInfo) (extended : Bool) (m rest : List ℕ) → (optional extended slice_extension).Spells info m rest → SpellsAnywhere slice_info info (written_slice_info info)
  by_flag info true m rest (i, m', u, (e, f)) =
      let code = flag i.intra_slice ∷ [] ++ (bits_of 7 i.reserved ++ written_information i.bytes) in
      let split : 1 ∷ [] ++ code ≡ written_slice_info (Some i) =
      ap (λ (b : List ℕ). 1 ∷ flag i.intra_slice ∷ b) (sym (append_assoc (bits_of 7 i.reserved) (flat_map (λ byte. 1 ∷ bits_of 8 byte) i.bytes) (0 ∷ []))) in
      subst (λ (o : Option SliceInfo). SpellsAnywhere slice_info o (written_slice_info o)) (sym e)
      (anywhere-code slice_info (Some i) (1 ∷ [] ++ code) (written_slice_info (Some i)) split
      (anywhere-bind one_flag (λ extended. optional extended slice_extension) true (Some i) (1 ∷ []) code (anywhere-flag true)
      (anywhere-made slice_extension (λ i. Some i) i (Some i) code refl (anywhere-extension i (spellable slice_extension i m m' u)))))
  by_flag info false m rest (e, f) =
      subst (λ (o : Option SliceInfo). SpellsAnywhere slice_info o (written_slice_info o)) (sym e)
      (anywhere-bind one_flag (λ extended. optional extended slice_extension) false None (0 ∷ []) [] (anywhere-flag false) (anywhere-done None))

-- ---- a macroblock doesn't close its slice

abbrev is_some_address : Entry → Bool
is_some_address e = not (nat_eq (number_of e.1) 0) && nat_le (length e.1) SLICE_CLOSING_BITS

are_some_addresses : list_all is_some_address (entries Address) ≡ true
unfolding tables number_of
are_some_addresses = refl

zeros-number : (code : List ℕ) (n : ℕ) → IsPrefix code (replicate n 0) → number_of code ≡ 0
unfolding number_of
zeros-number [] n p = refl
zeros-number (bit ∷ bits) zero p = absurd (let e : [] ≡ bit ∷ bits = p in cc)
zeros-number (bit ∷ bits) (suc n) p =
    let e : 0 ∷ take (length bits) (replicate n 0) ≡ bit ∷ bits = p in
    let first : bit ≡ 0 = cc in
    let later : take (length bits) (replicate n 0) ≡ bits = cc in
    ap (λ (b : ℕ). b * 2 ^ length bits + number_of bits) first ∙ omega (arith, zeros-number bits n later)

address-closes : (symbol : ℕ) (code rest : List ℕ) → code_in Address symbol ≡ Some code → ClosesSlice (code ++ rest) → ⊥
address-closes symbol code rest listed closes =
    let parts = and_parts (not (nat_eq (number_of code) 0)) (nat_le (length code) SLICE_CLOSING_BITS) (code_in-passes is_some_address Address symbol code are_some_addresses listed) in
    let some : number_of code ≡ 0 → ⊥ = λ none. both_ways (nat_eq (number_of code) 0) (not-true (nat_eq (number_of code) 0) parts.0) (eq-eqb (number_of code) 0 none) in
    elim closes [
      | inl p ↦ some (zeros-number code 23 (IsPrefix-shorter code (replicate 23 0) (code ++ rest) (leb-true (length code) 23 parts.1) (IsPrefix-append code rest) p))
      | inr e ↦ some (zeros-number code (length (code ++ rest)) (subst (IsPrefix code) e (IsPrefix-append code rest)))
    ]

addresses-close : (most : ℕ) (values : List (Unit {0})) (end : ℕ) (bits rest : List ℕ) → SpellsList (address_code most) [] values end bits rest → ClosesSlice bits → ⊥
addresses-close most [] end bits rest (symbol, m, (code, listed, passing, split), u) closes = address-closes symbol code m listed (subst ClosesSlice split closes)
addresses-close most (v ∷ vs) end bits rest (middle, (symbol, m, (code, listed, passing, split), u), t) closes = address-closes symbol code m listed (subst ClosesSlice split closes)

pub macroblock-closes : (coding : PicCoding) (first : Bool) (columns_left : ℕ) (m : Macroblock) (bits rest : List ℕ) → (macroblock coding first columns_left).Spells m bits rest → ClosesSlice bits → ⊥
unfolding macroblock
macroblock-closes coding first columns_left m bits rest (increment, m1, (codes, m2, s, u), t) closes =
    addresses-close (most_increment coding first columns_left) codes.0 codes.1 bits m2 s closes

-- ---- the macroblocks of a slice

none_left : (seq : SeqState) → columns seq ≡ columns_left seq []
none_left seq = omega arith

-- there is one before: the place is no first one
behind : (m : Macroblock) (ms : List Macroblock) → (length (m ∷ ms) == 0) ≡ false
behind m ms = elim (cases_Bool (length (m ∷ ms) == 0)) [
  | inl none ↦ absurd (let e = eqb-true (length (m ∷ ms)) 0 none in omega arith)
  | inr other ↦ other
]

module _ (seq : SeqState) (coding : PicCoding) where
  -- a macroblock behind these, with such parts
  abbrev Fits : List Macroblock → Macroblock → Type 0
  Fits before m = HasSpellableParts coding (length before == 0) (columns_left seq before) m

  fitting : (before : List Macroblock) (m : Macroblock) (bits rest : List ℕ) → (next_macroblock seq coding before).Spells (more m) bits rest → Fits before m
  fitting [] m bits rest (m', mid, s, (e, f)) =
      let same : m ≡ m' = cc in
      subst (λ (n : ℕ). HasSpellableParts coding true n m) (none_left seq)
      (parts-of_macroblock coding true (columns seq) m bits mid (subst (λ (x : Macroblock). (macroblock coding true (columns seq)).Spells x bits mid) (sym same) s))
  fitting (b ∷ bs) m bits rest (inl (c, (e, f))) = absurd (let e' : more m ≡ last tt = e in cc)
  fitting (b ∷ bs) m bits rest (inr (c, (m', mid, s, (e, f)))) =
      let same : m ≡ m' = cc in
      subst (λ (first : Bool). HasSpellableParts coding first (columns_left seq (b ∷ bs)) m) (sym (behind b bs))
      (parts-of_macroblock coding false (columns_left seq (b ∷ bs)) m bits mid (subst (λ (x : Macroblock). (macroblock coding false (columns_left seq (b ∷ bs))).Spells x bits mid) (sym same) s))

  one_written : (before : List Macroblock) (m : Macroblock) (following : List ℕ) → Fits before m
      → (next_macroblock seq coding before).Spells (more m) (written_macroblock coding m ++ following) following
  one_written [] m following fits =
      (m, following, (anywhere-macroblock coding true (columns seq) m (subst (λ (n : ℕ). HasSpellableParts coding true n m) (sym (none_left seq)) fits)).before following, (refl, refl))
  one_written (b ∷ bs) m following fits =
      let s = (anywhere-macroblock coding false (columns_left seq (b ∷ bs)) m
      (subst (λ (first : Bool). HasSpellableParts coding first (columns_left seq (b ∷ bs)) m) (behind b bs) fits)).before following in
      inr (macroblock-closes coding false (columns_left seq (b ∷ bs)) m (written_macroblock coding m ++ following) following s, (m, following, s, (refl, refl)))

  list_fits : (before values : List Macroblock) (bits rest : List ℕ) → SpellsList (next_macroblock seq coding) before values tt bits rest
      → (front back : List Macroblock) (m : Macroblock) → values ≡ front ++ m ∷ back → Fits (before ++ front) m
  list_fits before [] bits rest s [] back m e = absurd (let e' : [] ≡ m ∷ back = e in cc)
  list_fits before [] bits rest s (x ∷ front) back m e = absurd (let e' : [] ≡ x ∷ (front ++ m ∷ back) = e in cc)
  list_fits before (v ∷ vs) bits rest (mid, s, t) [] back m e =
      let same : v ≡ m = (let e' : v ∷ vs ≡ m ∷ back = e in cc) in
      subst (λ (b : List Macroblock). Fits b m) (sym (append-nil before)) (subst (Fits before) same (fitting before v bits mid s))
  list_fits before (v ∷ vs) bits rest (mid, s, t) (x ∷ front) back m e =
      let same : v ≡ x = (let e' : v ∷ vs ≡ x ∷ (front ++ m ∷ back) = e in cc) in
      let later : vs ≡ front ++ m ∷ back = (let e' : v ∷ vs ≡ x ∷ (front ++ m ∷ back) = e in cc) in
      subst (λ (b : List Macroblock). Fits b m) (append_assoc before (v ∷ []) front ∙ ap (λ (y : Macroblock). before ++ y ∷ front) same)
      (list_fits (before ++ v ∷ []) vs mid rest t front back m later)

  list_written : (before values : List Macroblock) (following : List ℕ) → ((front back : List Macroblock) (m : Macroblock) → values ≡ front ++ m ∷ back → Fits (before ++ front) m)
      → 0 < length (before ++ values) → ClosesSlice following → SpellsList (next_macroblock seq coding) before values tt (flat_map (written_macroblock coding) values ++ following) following
  list_written [] [] following each some closes = absurd (omega arith)
  list_written (b ∷ bs) [] following each some closes = inl (closes, (refl, refl))
  list_written before (v ∷ vs) following each some closes =
      let later = flat_map (written_macroblock coding) vs ++ following in
      let same : before ++ v ∷ vs ≡ (before ++ v ∷ []) ++ vs = sym (append_assoc before (v ∷ []) vs) in
      let split : flat_map (written_macroblock coding) (v ∷ vs) ++ following ≡ written_macroblock coding v
      ++ later = append_assoc (written_macroblock coding v) (flat_map (written_macroblock coding) vs) following in (
        later,
        subst (λ (b : List ℕ). (next_macroblock seq coding before).Spells (more v) b later) (sym split)
            (one_written before v later (subst (λ (b : List Macroblock). Fits b v) (append-nil before) (each [] vs v refl))),
        list_written (before ++ v ∷ []) vs following
            (λ front back m e. subst (λ (b : List Macroblock). Fits b m) (sym (append_assoc before (v ∷ []) front)) (each (v ∷ front) back m (ap (λ (ms : List Macroblock). v ∷ ms) e)))
            (subst (λ (b : List Macroblock). 0 < length b) same some) closes,
      )

  list_some : (values : List Macroblock) (bits rest : List ℕ) → SpellsList (next_macroblock seq coding) [] values tt bits rest → 0 < length values
  list_some [] bits rest (m, mid, s, (e, f)) = absurd (let e' : last tt ≡ more m = e in cc)
  list_some (v ∷ vs) bits rest s = omega arith

  pub slice-written : (s : Slice) (following : List ℕ) → HasSpellableMacroblocks seq coding s → ClosesSlice following
      → (slice seq coding s.row).Spells s (written_slice coding s ++ following) following
  unfolding slice written_slice
  slice-written s following has closes =
      let list = list_written [] s.macroblocks following has.each has.some closes in
      let later = flat_map (written_macroblock coding) s.macroblocks ++ following in
      let info = (back-info.again s.info has.info).before later in
      let code = ((back-uimsbf 5 _).again s.code has.code).before (written_slice_info s.info ++ later) in
      let split : bits_of 5 s.code ++ written_slice_info s.info ++ flat_map (written_macroblock coding) s.macroblocks ++ following ≡ bits_of 5 s.code ++ (written_slice_info s.info ++ later) =
      append_assoc (bits_of 5 s.code ++ written_slice_info s.info) (flat_map (written_macroblock coding) s.macroblocks) following
      ∙ append_assoc (bits_of 5 s.code) (written_slice_info s.info) later in (
        s.code,
        written_slice_info s.info ++ later,
        subst (λ (b : List ℕ). quantiser_scale_code.Spells s.code b (written_slice_info s.info ++ later)) (sym split) code,
        (s.info, later, info, ((s.macroblocks, tt), following, list, (refl, refl))),
      )

  pub macroblocks-of_slice : (row : ℕ) (s : Slice) (bits rest : List ℕ) → (slice seq coding row).Spells s bits rest → (s.row ≡ row) × HasSpellableMacroblocks seq coding s
  unfolding slice
  macroblocks-of_slice row s bits rest (code, m, s1, (info, m', s2, (found, m'', s3, (e, f)))) = (
    ap (λ (x : Slice). x.row) e,
    subst (HasSpellableMacroblocks seq coding) (sym e) (record {
      code = spellable quantiser_scale_code code bits m s1;
      info = spellable slice_info info m m' s2;
      some = list_some found.0 m' m'' s3;
      each = list_fits [] found.0 m' m'' s3;
    }),
  )
