-- Each kind of element decides all bits, by the codes that may stand there.
use Rattle.std.proofs.Common.{
  ◌≡◌,
  ℕ,
  zero,
  suc,
  ℤ,
  pos,
  negsuc,
  unsigned_abs,
  ◌/◌,
  ◌%◌,
  ◌^◌,
  ◌<◌,
  ◌≤◌,
  nat_eq,
  List,
  [],
  ◌∷◌,
  ◌++◌,
  map,
  Some,
  slice_get,
  Bool,
  true,
  false,
  refl,
  sym,
  ap,
  subst,
  ◌∙◌,
  inl,
  inr,
  arith,
  eq-eqb,
}
use Rattle.std.proofs.lemmas.Bool.{eqb-true}
use Rattle.bit_lists.specs.Bits.{bits_of}
use Rattle.bit_lists.specs.Fields.{flag}
use Rattle.bit_lists.proofs.NumberLemmas.{AreBits}
use Rattle.prefix_codes.specs.Entry.{Entry}
use Rattle.prefix_codes.specs.declared.symbol.TheConstants.{QUANT, FORWARD, BACKWARD, PATTERN, INTRA}
use Rattle.prefix_codes.specs.declared.table_name.TableName.{TableName}
use Rattle.prefix_codes.specs.TableName.{entries, code_in}
use Rattle.prefix_codes.proofs.TableLemmas.{code_in-entry, entry-code_in}
use Rattle.picture_grammar.specs.Refusal.{Refusal}
use Rattle.picture_grammar.specs.Refusal.Refusal.{End}
use Rattle.syntax_types.specs.declared.macroblock.Kind.{Kind}
use Rattle.picture_grammar.specs.Motion.{dmvector_code, dmvector}
use Rattle.picture_grammar.specs.Macroblock.{type_symbol}
use Rattle.picture_grammar.specs.Element.{Rule, element, vlclbf, uimsbf, flag_where}
use Rattle.picture_laws.proofs.Answers.{IsDecided}
use Rattle.picture_laws.proofs.Candidates.{In, kept, kept-in, in-kept, agree, agree-true, agree-from, Agrees, AreCandidates, by_candidates, right-candidates}
use Rattle.picture_laws.proofs.Numbers.{numbers_behind, are-behind, in-map, map-in}

-- ---- an element by its candidates

abbrev pub decided-by : {A : Type 0} (Codes : A → List ℕ → Type 0) (none_kind : Refusal) (rules : List (Rule A)) (candidates : List ℕ → List (A × List ℕ))
    → ((bits : List ℕ) → AreBits bits → AreCandidates Codes [] bits (candidates bits)) → IsDecided (element Codes none_kind rules)
decided-by Codes none_kind rules candidates are = record {
  answer = λ bits. by_candidates Codes none_kind rules (candidates bits) bits;
  right = λ bits are_bits. right-candidates Codes none_kind bits are_bits rules (candidates bits) (are bits are_bits);
}

-- those of a list of all codes
module _ {A : Type 0} (Codes : A → List ℕ → Type 0) (all : List (A × List ℕ)) where
  abbrev pub of_all : List ℕ → List (A × List ℕ)
  of_all bits = kept (λ e. agree e.1 bits) all

  pub are-of_all : ((v : A) (c : List ℕ) → In (v, c) all → Codes v c) → ((v : A) (c : List ℕ) → Codes v c → In (v, c) all) → (bits : List ℕ) → AreCandidates Codes [] bits (of_all bits)
  are-of_all sound complete bits = record {
    sound = λ v c i. let k = kept-in (λ (e : A × List ℕ). agree e.1 bits) (v, c) all i in (sound v c k.0, refl, agree-true c bits k.1);
    complete = λ v c coded passing agrees. in-kept (λ (e : A × List ℕ). agree e.1 bits) (v, c) all (complete v c coded) (agree-from c bits agrees);
  }

-- ---- code tables

in-place : {X : Type 0} (x : X) (xs : List X) → In x xs → (i : ℕ) × (slice_get xs i ≡ Some x)
in-place x [] i = absurd i
in-place x (y ∷ ys) (inl e) = (0, ap Some e)
in-place x (y ∷ ys) (inr i) = let h = in-place x ys i in (suc h.0, h.1)

place-in : {X : Type 0} (x : X) (xs : List X) (i : ℕ) → slice_get xs i ≡ Some x → In x xs
place-in x [] i e = cc
place-in x (y ∷ ys) zero e = inl cc
place-in x (y ∷ ys) (suc i) e = inr (place-in x ys i e)

pub in-table : (table : TableName) (s : ℕ) (c : List ℕ) → In (s, c) (entries table) → code_in table s ≡ Some c
in-table table s c i = let h = in-place (s, c) (entries table) i in code_in-entry table h.0 (s, c) h.1

pub table-in : (table : TableName) (s : ℕ) (c : List ℕ) → code_in table s ≡ Some c → In (s, c) (entries table)
table-in table s c e = let h = entry-code_in table s c e in place-in (s, c) (entries table) h.0 h.1

abbrev pub decided-vlclbf : (table : TableName) (none_kind : Refusal) (rules : List (Rule ℕ)) → IsDecided (vlclbf table none_kind rules)
decided-vlclbf table none_kind rules =
    decided-by (λ symbol code. code_in table symbol ≡ Some code) none_kind rules (of_all (λ symbol code. code_in table symbol ≡ Some code) (entries table))
    (λ bits are. are-of_all (λ symbol code. code_in table symbol ≡ Some code) (entries table) (in-table table) (table-in table) bits)

-- ---- numbers and flags

module _ (front : List ℕ) (n : ℕ) where
  abbrev pub Behind : ℕ → List ℕ → Type 0
  Behind number code = (number < 2 ^ n) × (code ≡ front ++ bits_of n number)

  abbrev pub numbers : List ℕ → List (ℕ × List ℕ)
  numbers bits = map (λ k. (k, front ++ bits_of n k)) (numbers_behind front n bits)

  pub are-numbers_behind : (bits : List ℕ) → AreBits bits → AreCandidates Behind [] bits (numbers bits)
  are-numbers_behind bits are = record {
    sound = λ v c i.
        let (k, there, e) = map-in (λ (k : ℕ). (k, front ++ bits_of n k)) (v, c) (numbers_behind front n bits) i in
        let h = (are-behind front n bits are).0 k there in
        let value : k ≡ v = ap (λ (p : ℕ × List ℕ). p.0) e in
        let code : front ++ bits_of n k ≡ c = ap (λ (p : ℕ × List ℕ). p.1) e in
        ((subst (λ m. m < 2 ^ n) value h.0, sym code ∙ ap (λ m. front ++ bits_of n m) value), refl, subst (λ d. Agrees d bits) code h.1);
    complete = λ v c coded passing agrees.
        let there = (are-behind front n bits are).1 v coded.0 (subst (λ d. Agrees d bits) coded.1 agrees) in
        subst (λ d. In (v, d) (numbers bits)) (sym coded.1) (in-map (λ (k : ℕ). (k, front ++ bits_of n k)) v (numbers_behind front n bits) there);
  }

  abbrev pub decided-behind : (none_kind : Refusal) (rules : List (Rule ℕ)) → IsDecided (element Behind none_kind rules)
  decided-behind none_kind rules = decided-by Behind none_kind rules numbers are-numbers_behind

abbrev pub decided-uimsbf : (n : ℕ) (rules : List (Rule ℕ)) → IsDecided (uimsbf n rules)
decided-uimsbf n rules = decided-behind [] n End rules

abbrev pub flags : List (Bool × List ℕ)
flags = (true, 1 ∷ []) ∷ (false, 0 ∷ []) ∷ []

pub flag-in : (v : Bool) (c : List ℕ) → In (v, c) flags → c ≡ flag v ∷ []
flag-in v c (inl e) = sym (ap (λ (p : Bool × List ℕ). p.1) e) ∙ ap (λ (p : Bool × List ℕ). flag p.0 ∷ []) e
flag-in v c (inr (inl e)) = sym (ap (λ (p : Bool × List ℕ). p.1) e) ∙ ap (λ (p : Bool × List ℕ). flag p.0 ∷ []) e
flag-in v c (inr (inr i)) = absurd i

pub in-flag : (v : Bool) (c : List ℕ) → c ≡ flag v ∷ [] → In (v, c) flags
in-flag true c e = inl (ap (λ (d : List ℕ). (true, d)) (sym e))
in-flag false c e = inr (inl (ap (λ (d : List ℕ). (false, d)) (sym e)))

abbrev pub decided-flag_where : (rules : List (Rule Bool)) → IsDecided (flag_where rules)
decided-flag_where rules =
    decided-by (λ is_set code. code ≡ flag is_set ∷ []) End rules (of_all (λ is_set code. code ≡ flag is_set ∷ []) flags)
    (λ bits are. are-of_all (λ is_set code. code ≡ flag is_set ∷ []) flags flag-in in-flag bits)

-- ---- dmvector

abbrev pub dmvectors : List (ℤ × List ℕ)
dmvectors = (pos 0, 0 ∷ []) ∷ (pos 1, 1 ∷ 0 ∷ []) ∷ (negsuc 0, 1 ∷ 1 ∷ []) ∷ []

abbrev IsDmvector : ℤ × List ℕ → Type 0
IsDmvector p = (unsigned_abs p.0 ≤ 1) × (p.1 ≡ dmvector_code p.0)

pub dmvector-in : (v : ℤ) (c : List ℕ) → In (v, c) dmvectors → (unsigned_abs v ≤ 1) × (c ≡ dmvector_code v)
dmvector-in v c (inl e) = subst IsDmvector e (omega arith, refl)
dmvector-in v c (inr (inl e)) = subst IsDmvector e (omega arith, refl)
dmvector-in v c (inr (inr (inl e))) = subst IsDmvector e (omega arith, refl)
dmvector-in v c (inr (inr (inr i))) = absurd i

pub in-dmvector : (v : ℤ) (c : List ℕ) → (unsigned_abs v ≤ 1) × (c ≡ dmvector_code v) → In (v, c) dmvectors
in-dmvector (pos zero) c (le, e) = inl (ap (λ (d : List ℕ). (pos 0, d)) (sym e))
in-dmvector (pos (suc zero)) c (le, e) = inr (inl (ap (λ (d : List ℕ). (pos 1, d)) (sym e)))
in-dmvector (pos (suc (suc n))) c (le, e) = absurd (omega (arith, le))
in-dmvector (negsuc zero) c (le, e) = inr (inr (inl (ap (λ (d : List ℕ). (negsuc 0, d)) (sym e))))
in-dmvector (negsuc (suc n)) c (le, e) = absurd (omega (arith, le))

abbrev pub decided-dmvector : IsDecided dmvector
decided-dmvector =
    decided-by (λ value code. (unsigned_abs value ≤ 1) × (code ≡ dmvector_code value)) End [] (of_all (λ value code. (unsigned_abs value ≤ 1) × (code ≡ dmvector_code value)) dmvectors)
    (λ bits are. are-of_all (λ value code. (unsigned_abs value ≤ 1) × (code ≡ dmvector_code value)) dmvectors dmvector-in in-dmvector bits)

-- ---- macroblock_type

-- the flags of a symbol
abbrev pub kind_of : ℕ → Kind
kind_of symbol = record {
  quant = nat_eq (symbol / QUANT % 2) 1;
  forward = nat_eq (symbol / FORWARD % 2) 1;
  backward = nat_eq (symbol / BACKWARD % 2) 1;
  pattern = nat_eq (symbol / PATTERN % 2) 1;
  intra = nat_eq (symbol / INTRA % 2) 1;
}

is_kind : (quant forward backward pattern intra : Bool) → let kind : Kind = record
    { quant = quant; forward = forward; backward = backward; pattern = pattern; intra = intra } in kind_of (type_symbol kind) ≡ kind
is_kind false false false false false = refl
is_kind false false false false true = refl
is_kind false false false true false = refl
is_kind false false false true true = refl
is_kind false false true false false = refl
is_kind false false true false true = refl
is_kind false false true true false = refl
is_kind false false true true true = refl
is_kind false true false false false = refl
is_kind false true false false true = refl
is_kind false true false true false = refl
is_kind false true false true true = refl
is_kind false true true false false = refl
is_kind false true true false true = refl
is_kind false true true true false = refl
is_kind false true true true true = refl
is_kind true false false false false = refl
is_kind true false false false true = refl
is_kind true false false true false = refl
is_kind true false false true true = refl
is_kind true false true false false = refl
is_kind true false true false true = refl
is_kind true false true true false = refl
is_kind true false true true true = refl
is_kind true true false false false = refl
is_kind true true false false true = refl
is_kind true true false true false = refl
is_kind true true false true true = refl
is_kind true true true false false = refl
is_kind true true true false true = refl
is_kind true true true true false = refl
is_kind true true true true true = refl

module _ (table : TableName) where
  abbrev pub IsType : Kind → List ℕ → Type 0
  IsType kind code = code_in table (type_symbol kind) ≡ Some code

  -- the entries whose symbols are those of flags
  abbrev pub kinds : List (Kind × List ℕ)
  kinds = map (λ e. (kind_of e.0, e.1)) (kept (λ e. nat_eq (type_symbol (kind_of e.0)) e.0) (entries table))

  pub kind-in : (v : Kind) (c : List ℕ) → In (v, c) kinds → IsType v c
  kind-in v c i =
      let (e, there, same) = map-in (λ (e : Entry). (kind_of e.0, e.1)) (v, c) (kept (λ (e : Entry). nat_eq (type_symbol (kind_of e.0)) e.0) (entries table)) i in
      let h = kept-in (λ (e : Entry). nat_eq (type_symbol (kind_of e.0)) e.0) e (entries table) there in
      let kind : kind_of e.0 ≡ v = ap (λ (p : Kind × List ℕ). p.0) same in
      let code : e.1 ≡ c = ap (λ (p : Kind × List ℕ). p.1) same in
      ap (code_in table) (ap type_symbol (sym kind) ∙ eqb-true (type_symbol (kind_of e.0)) e.0 h.1) ∙ in-table table e.0 e.1 h.0 ∙ ap Some code

  pub in-kind : (v : Kind) (c : List ℕ) → IsType v c → In (v, c) kinds
  in-kind v c listed =
      let flags_of = is_kind v.quant v.forward v.backward v.pattern v.intra in
      let there = in-kept (λ (e : Entry). nat_eq (type_symbol (kind_of e.0)) e.0) (type_symbol v, c) (entries table) (table-in table (type_symbol v) c listed)
      (eq-eqb (type_symbol (kind_of (type_symbol v))) (type_symbol v) (ap type_symbol flags_of)) in
      subst (λ (k : Kind). In (k, c) kinds) flags_of (in-map (λ (e : Entry). (kind_of e.0, e.1)) (type_symbol v, c)
      (kept (λ (e : Entry). nat_eq (type_symbol (kind_of e.0)) e.0) (entries table)) there)

  abbrev pub decided-type : (none_kind : Refusal) → IsDecided (element IsType none_kind [])
  decided-type none_kind = decided-by IsType none_kind [] (of_all IsType kinds) (λ bits are. are-of_all IsType kinds kind-in in-kind bits)
