-- A coefficient decides all bits, by the codes that may stand there.
use Rattle.std.proofs.Common.{
  ◌≡◌,
  ℕ,
  ◌+◌,
  ◌*◌,
  ◌/◌,
  ◌%◌,
  ◌^◌,
  ◌<◌,
  ◌⊎◌,
  ◌&&◌,
  nat_lt,
  List,
  [],
  ◌∷◌,
  ◌++◌,
  map,
  Option,
  Some,
  None,
  Bool,
  true,
  cond,
  append_assoc,
  refl,
  sym,
  ap,
  ap₂,
  subst,
  ◌∙◌,
  inl,
  inr,
  arith,
}
use Rattle.std.proofs.lemmas.Bool.{and_parts, and_from, lt-ltb}
use Rattle.std.proofs.lemmas.Nat.{pow_pos}
use Rattle.std.proofs.Math.Nat.{mod-lt, div-add-mod, mul_comm}
use Rattle.bit_lists.specs.Bits.{bits_of}
use Rattle.bit_lists.proofs.JoinedLemmas.{bits_of-put}
use Rattle.bit_lists.proofs.NumberLemmas.{AreBits}
use Rattle.prefix_codes.specs.declared.symbol.TheConstants.{END_OF_BLOCK, ESCAPE, RUNS, LEVELS_PER_RUN}
use Rattle.prefix_codes.specs.declared.table_name.TableName.{TableName}
use Rattle.prefix_codes.specs.Entry.{Entry}
use Rattle.prefix_codes.specs.TableName.{entries, code_in, coefficient_code}
use Rattle.picture_grammar.specs.Refusal.{Refusal}
use Rattle.picture_grammar.specs.Element.{Rule, element}
use Rattle.picture_grammar.specs.Block.{Coefficient, CoefficientCode}
use Rattle.picture_grammar.specs.Block.Coefficient.{end_of_block, run_size, escape}
use Rattle.picture_grammar.proofs.Codes.{coefficient_code-listed}
use Rattle.picture_laws.proofs.Answers.{IsDecided}
use Rattle.picture_laws.proofs.Candidates.{In, kept, kept-in, in-kept, agree, agree-true, agree-from, Agrees, AreCandidates}
use Rattle.picture_laws.proofs.Numbers.{numbers_behind, are-behind, in-map, map-in}
use Rattle.picture_laws.proofs.DecidedElements.{decided-by, in-table, table-in}

-- ---- joined lists

in-first : {X : Type 0} (x : X) (xs ys : List X) → In x xs → In x (xs ++ ys)
in-first x [] ys i = absurd i
in-first x (z ∷ xs) ys (inl e) = inl e
in-first x (z ∷ xs) ys (inr i) = inr (in-first x xs ys i)

in-second : {X : Type 0} (x : X) (xs ys : List X) → In x ys → In x (xs ++ ys)
in-second x [] ys i = i
in-second x (z ∷ xs) ys i = inr (in-second x xs ys i)

in-either : {X : Type 0} (x : X) (xs ys : List X) → In x (xs ++ ys) → In x xs ⊎ In x ys
in-either x [] ys i = inr i
in-either x (z ∷ xs) ys (inl e) = inl (inl e)
in-either x (z ∷ xs) ys (inr i) = elim (in-either x xs ys i) [ inl j ↦ inl (inr j) | inr j ↦ inr j ]

-- ---- the candidates

abbrev pub end_codes : Option (List ℕ) → List (Coefficient × List ℕ)
end_codes None = []
end_codes (Some c) = (end_of_block, c) ∷ []

-- the run and the size of a symbol within the limits of both
abbrev pub is_pair : Entry → Bool
is_pair e = nat_lt (e.0 / LEVELS_PER_RUN) RUNS && nat_lt 0 (e.0 % LEVELS_PER_RUN)

abbrev pub pair_of : Entry → Coefficient × List ℕ
pair_of e = (run_size (e.0 / LEVELS_PER_RUN) (e.0 % LEVELS_PER_RUN), e.1)

-- an escape by the number of its 18 bits
abbrev pub escape_of : List ℕ → ℕ → Coefficient × List ℕ
escape_of front k = (escape (k / 2 ^ 12) (k % 2 ^ 12), front ++ bits_of 6 (k / 2 ^ 12) ++ bits_of 12 (k % 2 ^ 12))

abbrev pub escape_codes : Option (List ℕ) → List ℕ → List (Coefficient × List ℕ)
escape_codes None bits = []
escape_codes (Some front) bits = map (escape_of front) (numbers_behind front 18 bits)

abbrev pub coefficient_candidates : TableName → List ℕ → List (Coefficient × List ℕ)
coefficient_candidates table bits =
    kept (λ e. agree e.1 bits) (end_codes (code_in table END_OF_BLOCK) ++ map pair_of (kept is_pair (kept (λ e. agree e.1 bits) (entries table))))
    ++ escape_codes (code_in table ESCAPE) bits

-- ---- each of them is one

end-sound : (v : Coefficient) (c : List ℕ) (o : Option (List ℕ)) → In (v, c) (end_codes o) → (v ≡ end_of_block) × (o ≡ Some c)
end-sound v c None i = absurd i
end-sound v c (Some d) (inl e) = (sym (ap (λ (p : Coefficient × List ℕ). p.0) e), ap (λ (p : Coefficient × List ℕ). Some p.1) e)
end-sound v c (Some d) (inr i) = absurd i

end-complete : (c : List ℕ) (o : Option (List ℕ)) → o ≡ Some c → In (end_of_block, c) (end_codes o)
end-complete c None e = cc
end-complete c (Some d) e = inl (let same : d ≡ c = cc in ap (λ (x : List ℕ). (end_of_block, x)) same)

-- a run and a size within the limits are those of the one symbol
pair-code : (table : TableName) (s : ℕ) (c : List ℕ) → code_in table s ≡ Some c → is_pair (s, c) ≡ true → coefficient_code table (s / 64) (s % 64) ≡ Some c
unfolding coefficient_code
pair-code table s c listed test =
    let parts = and_parts (nat_lt (s / 64) RUNS) (nat_lt 0 (s % 64)) test in
    let below : nat_lt (s % 64) 64 ≡ true = lt-ltb (s % 64) 64 (mod-lt s (omega arith)) in
    let guard = and_from (nat_lt (s / 64) RUNS && nat_lt 0 (s % 64)) (nat_lt (s % 64) 64) test below in
    ap (λ b. cond b (code_in table (64 * (s / 64) + s % 64)) None) guard ∙ ap (code_in table) (div-add-mod s 64) ∙ listed

split-number : (front : List ℕ) (n : ℕ) → front ++ bits_of 6 (n / 2 ^ 12) ++ bits_of 12 (n % 2 ^ 12) ≡ front ++ bits_of 18 n
split-number front n =
    let whole : n / 2 ^ 12 * 2 ^ 12 + n % 2 ^ 12 ≡ n = ap (λ m. m + n % 2 ^ 12) (mul_comm (n / 2 ^ 12) (2 ^ 12)) ∙ div-add-mod n (2 ^ 12) in
    append_assoc front (bits_of 6 (n / 2 ^ 12)) (bits_of 12 (n % 2 ^ 12))
    ∙ ap (λ x. front ++ x) (sym (bits_of-put 6 12 (n / 2 ^ 12) (n % 2 ^ 12) (mod-lt n (pow_pos 12))) ∙ ap (bits_of 18) whole)

module _ (table : TableName) (bits : List ℕ) (are : AreBits bits) where
  abbrev Right : Coefficient → List ℕ → Type 0
  Right v c = CoefficientCode table v c × (true ≡ true) × Agrees c bits

  escape-sound : (v : Coefficient) (c : List ℕ) (o : Option (List ℕ)) → code_in table ESCAPE ≡ o → In (v, c) (escape_codes o bits) → Right v c
  escape-sound v c None listed i = absurd i
  escape-sound v c (Some front) listed i =
      let (k, there, e) = map-in (escape_of front) (v, c) (numbers_behind front 18 bits) i in
      let h = (are-behind front 18 bits are).0 k there in
      let small = h.0 in
      let high : k / 2 ^ 12 < 2 ^ 6 = omega arith in
      subst (λ (p : Coefficient × List ℕ). Right p.0 p.1) e
      ((front, listed, high, mod-lt k (pow_pos 12), refl), refl, subst (λ d. Agrees d bits) (sym (split-number front k)) h.1)

  sound : (v : Coefficient) (c : List ℕ) → In (v, c) (coefficient_candidates table bits) → Right v c
  sound v c i = elim (in-either (v, c) _ (escape_codes (code_in table ESCAPE) bits) i) [
    | inr j ↦ escape-sound v c (code_in table ESCAPE) refl j
    | inl j ↦
        let k = kept-in (λ (e : Coefficient × List ℕ). agree e.1 bits) (v, c) _ j in
        let agrees = agree-true c bits k.1 in
        elim (in-either (v, c) (end_codes (code_in table END_OF_BLOCK)) _ k.0) [
          | inl e ↦ let h = end-sound v c (code_in table END_OF_BLOCK) e in (subst (λ w. CoefficientCode table w c) (sym h.0) h.1, refl, agrees)
          | inr p ↦
              let (e, there, same) = map-in pair_of (v, c) (kept is_pair (kept (λ (e : Entry). agree e.1 bits) (entries table))) p in
              let h = kept-in is_pair e (kept (λ (e : Entry). agree e.1 bits) (entries table)) there in
              let h' = kept-in (λ (e : Entry). agree e.1 bits) e (entries table) h.0 in
              (subst (λ (q : Coefficient × List ℕ). CoefficientCode table q.0 q.1) same (pair-code table e.0 e.1 (in-table table e.0 e.1 h'.0) h.1), refl, agrees)
        ]
  ]

  -- ---- and each is among them

  escape-complete : (run level : ℕ) (front : List ℕ) (o : Option (List ℕ)) → o ≡ Some front → run < 2 ^ 6 → level < 2 ^ 12
      → Agrees (front ++ bits_of 6 run ++ bits_of 12 level) bits → In (escape run level, front ++ bits_of 6 run ++ bits_of 12 level) (escape_codes o bits)
  escape-complete run level front None e r l a = cc
  escape-complete run level front (Some d) e r l a =
      let same : d ≡ front = cc in
      let number = run * 2 ^ 12 + level in
      let high : number / 2 ^ 12 ≡ run = omega (arith, l) in
      let low : number % 2 ^ 12 ≡ level = omega (arith, l) in
      let fits : number < 2 ^ 18 = omega (arith, r, l) in
      let there : In number (numbers_behind front 18 bits) =
      (are-behind front 18 bits are).1 number fits (subst (λ x. Agrees x bits) (append_assoc front (bits_of 6 run) (bits_of 12 level) ∙ ap (λ x. front ++ x) (sym (bits_of-put 6 12 run level l))) a) in
      let it : escape_of front number ≡ (escape run level, front ++ bits_of 6 run ++ bits_of 12 level) =
      ap₂ (λ (x y : ℕ). (escape x y, front ++ bits_of 6 x ++ bits_of 12 y)) high low in
      subst (λ x. In (escape run level, front ++ bits_of 6 run ++ bits_of 12 level) (map (escape_of x) (numbers_behind x 18 bits))) (sym same)
      (subst (λ (p : Coefficient × List ℕ). In p (map (escape_of front) (numbers_behind front 18 bits))) it (in-map (escape_of front) number (numbers_behind front 18 bits) there))

  complete : (v : Coefficient) (c : List ℕ) → CoefficientCode table v c → Agrees c bits → In (v, c) (coefficient_candidates table bits)
  complete end_of_block c coded a =
      in-first (end_of_block, c) _ (escape_codes (code_in table ESCAPE) bits)
      (in-kept (λ (e : Coefficient × List ℕ). agree e.1 bits) (end_of_block, c) _
      (in-first (end_of_block, c) (end_codes (code_in table END_OF_BLOCK)) _ (end-complete c (code_in table END_OF_BLOCK) coded))
      (agree-from c bits a))
  complete (run_size run size) c coded a =
      let (r, z, s, listed) = coefficient_code-listed table run size c coded in
      let symbol = 64 * run + size in
      let high : symbol / 64 ≡ run = omega (arith, s) in
      let low : symbol % 64 ≡ size = omega (arith, s) in
      let test : is_pair (symbol, c) ≡ true =
      and_from (nat_lt (symbol / 64) RUNS) (nat_lt 0 (symbol % 64)) (ap (λ n. nat_lt n RUNS) high ∙ lt-ltb run RUNS r) (ap (λ n. nat_lt 0 n) low ∙ lt-ltb 0 size z) in
      let there : In (symbol, c) (kept is_pair (kept (λ (e : Entry). agree e.1 bits) (entries table))) =
      in-kept is_pair (symbol, c) _ (in-kept (λ (e : Entry). agree e.1 bits) (symbol, c) (entries table) (table-in table symbol c listed) (agree-from c bits a)) test in
      let it : pair_of (symbol, c) ≡ (run_size run size, c) = ap₂ (λ (x y : ℕ). (run_size x y, c)) high low in
      in-first (run_size run size, c) _ (escape_codes (code_in table ESCAPE) bits)
      (in-kept (λ (e : Coefficient × List ℕ). agree e.1 bits) (run_size run size, c) _ (in-second (run_size run size, c) (end_codes (code_in table END_OF_BLOCK)) _
      (subst (λ (p : Coefficient × List ℕ). In p (map pair_of (kept is_pair (kept (λ (e : Entry). agree e.1 bits) (entries table))))) it (in-map pair_of (symbol, c) _ there))) (agree-from c bits a))
  complete (escape run level) c (front, listed, r, l, is) a =
      in-second (escape run level, c) _ (escape_codes (code_in table ESCAPE) bits)
      (subst (λ d. In (escape run level, d) (escape_codes (code_in table ESCAPE) bits)) (sym is)
      (escape-complete run level front (code_in table ESCAPE) listed r l (subst (λ d. Agrees d bits) is a)))

  pub are-coefficients : AreCandidates (CoefficientCode table) [] bits (coefficient_candidates table bits)
  are-coefficients = record { sound = sound; complete = λ v c coded passing a. complete v c coded a }

abbrev pub decided-coefficient_code : (table : TableName) (none_kind : Refusal) (rules : List (Rule Coefficient)) → IsDecided (element (CoefficientCode table) none_kind rules)
decided-coefficient_code table none_kind rules = decided-by (CoefficientCode table) none_kind rules (coefficient_candidates table) (are-coefficients table)
