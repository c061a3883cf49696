-- What the tables of macroblock types say of flags.
use Rattle.std.proofs.Common.{◌≡◌, ◌≢◌, ◌⊎◌, ◌||◌, ◌/◌, ◌%◌, ◌<◌, ℕ, nat_eq, List, Some, Bool, true, false, cond, refl, sym, ap, ◌∙◌, subst, inl, inr, arith, eq-eqb}
use Rattle.std.specs.List.{list_all}
use Rattle.std.proofs.lemmas.Bool.{cases_Bool, eqb-true, both_ways}
use Rattle.bit_lists.specs.Fields.{flag}
use Rattle.bit_lists.proofs.FieldLemmas.{flag_below, flag-same}
use Rattle.prefix_codes.specs.declared.table_name.TableName.{TableName}
use Rattle.prefix_codes.specs.declared.table_name.TableName.TheVariants.{TypeI, TypeP, TypeB}
use Rattle.prefix_codes.specs.Entry.{Entry}
use Rattle.prefix_codes.specs.TableName.{entries, code_in}
use Rattle.prefix_codes.proofs.Computing.{tables}
use Rattle.prefix_codes.proofs.TableLemmas.{code_in-passes}
use Rattle.syntax_types.specs.declared.macroblock.Kind.{Kind}
use Rattle.syntax_types.specs.declared.picture.TheConstants.{I_PICTURE, P_PICTURE}
use Rattle.syntax_types.specs.declared.picture.PicCoding.{PicCoding}
use Rattle.picture_grammar.specs.Macroblock.{type_table, type_symbol}
use Rattle.picture_laws.proofs.ZeroRuns.{is_short_entry}

-- a table by the type of the picture
by_type : (P : TableName → Type 0) (coding : PicCoding) → (coding.kind ≡ 1 → P TypeI) → (coding.kind ≡ 2 → P TypeP) → (coding.kind ≢ 1 → coding.kind ≢ 2 → P TypeB) → P (type_table coding)
by_type P coding i p b = elim (cases_Bool (nat_eq coding.kind 1)) [
  | inl is ↦ subst P (sym (ap (λ (t : Bool). cond t TypeI (cond (nat_eq coding.kind 2) TypeP TypeB)) is)) (i (eqb-true coding.kind 1 is))
  | inr other ↦ elim (cases_Bool (nat_eq coding.kind 2)) [
    | inl is ↦ subst P (sym (ap (λ (t : Bool). cond t TypeI (cond (nat_eq coding.kind 2) TypeP TypeB)) other ∙ ap (λ (t : Bool). cond t TypeP TypeB) is)) (p (eqb-true coding.kind 2 is))
    | inr neither ↦
        subst P (sym (ap (λ (t : Bool). cond t TypeI (cond (nat_eq coding.kind 2) TypeP TypeB)) other ∙ ap (λ (t : Bool). cond t TypeP TypeB) neither))
        (b (λ e. both_ways (nat_eq coding.kind 1) other (eq-eqb coding.kind 1 e)) (λ e. both_ways (nat_eq coding.kind 2) neither (eq-eqb coding.kind 2 e)))
  ]
]

-- an intra macroblock has no other flag but that of its quantiser_scale_code
abbrev is_alone : Entry → Bool
is_alone e = nat_eq (e.0 % 16) 1 || nat_eq (e.0 % 2) 0

abbrev has_no_backward : Entry → Bool
has_no_backward e = nat_eq (e.0 / 4 % 2) 0

abbrev has_no_forward : Entry → Bool
has_no_forward e = nat_eq (e.0 / 8 % 2) 0

alone_i : list_all is_alone (entries TypeI) ≡ true
unfolding tables
alone_i = refl

alone_p : list_all is_alone (entries TypeP) ≡ true
unfolding tables
alone_p = refl

alone_b : list_all is_alone (entries TypeB) ≡ true
unfolding tables
alone_b = refl

backward_i : list_all has_no_backward (entries TypeI) ≡ true
unfolding tables
backward_i = refl

backward_p : list_all has_no_backward (entries TypeP) ≡ true
unfolding tables
backward_p = refl

forward_i : list_all has_no_forward (entries TypeI) ≡ true
unfolding tables
forward_i = refl

short_i : list_all (is_short_entry 5 (λ _. 1)) (entries TypeI) ≡ true
unfolding tables
short_i = refl

short_p : list_all (is_short_entry 5 (λ _. 1)) (entries TypeP) ≡ true
unfolding tables
short_p = refl

short_b : list_all (is_short_entry 5 (λ _. 1)) (entries TypeB) ≡ true
unfolding tables
short_b = refl

pub short_types : (coding : PicCoding) → list_all (is_short_entry 5 (λ _. 1)) (entries (type_table coding)) ≡ true
short_types coding = by_type (λ t. list_all (is_short_entry 5 (λ _. 1)) (entries t) ≡ true) coding (λ _. short_i) (λ _. short_p) (λ _ _. short_b)

pub or_cases : (a b : Bool) → (a || b) ≡ true → (a ≡ true) ⊎ (b ≡ true)
or_cases true b e = inl refl
or_cases false b e = inr e

-- what the flags of a macroblock type of this picture allow
pub record HasKind (coding : PicCoding) (kind : Kind) : Type 0 where
  pub alone : kind.intra ≡ true → (kind.forward ≡ false) × (kind.backward ≡ false) × (kind.pattern ≡ false)
  pub forward : kind.forward ≡ true → coding.kind ≢ I_PICTURE
  pub backward : kind.backward ≡ true → (coding.kind ≢ I_PICTURE) × (coding.kind ≢ P_PICTURE)

module _ (kind : Kind) where
  bits_below : (flag kind.quant < 2) × (flag kind.forward < 2) × (flag kind.backward < 2) × (flag kind.pattern < 2) × (flag kind.intra < 2)
  bits_below = (flag_below kind.quant, flag_below kind.forward, flag_below kind.backward, flag_below kind.pattern, flag_below kind.intra)

  alone_of : (table : TableName) (code : List ℕ) → list_all is_alone (entries table) ≡ true → code_in table (type_symbol kind) ≡ Some code → kind.intra ≡ true
      → (kind.forward ≡ false) × (kind.backward ≡ false) × (kind.pattern ≡ false)
  alone_of table code all listed intra =
      let below = bits_below in
      let set : flag kind.intra ≡ 1 = ap flag intra in
      let symbol : type_symbol kind % 16 ≡ 1 = elim (or_cases (nat_eq (type_symbol kind % 16) 1) (nat_eq (type_symbol kind % 2) 0) (code_in-passes is_alone table (type_symbol kind) code all listed)) [
        | inl e ↦ eqb-true (type_symbol kind % 16) 1 e
        | inr e ↦ absurd (let even : type_symbol kind % 2 ≡ 0 = eqb-true (type_symbol kind % 2) 0 e in omega (arith, even, set, below.0, below.1, below.2, below.3))
      ] in
      let forward : flag kind.forward ≡ 0 = omega (arith, symbol, set, below.0, below.1, below.2, below.3) in
      let backward : flag kind.backward ≡ 0 = omega (arith, symbol, set, below.0, below.1, below.2, below.3) in
      let pattern : flag kind.pattern ≡ 0 = omega (arith, symbol, set, below.0, below.1, below.2, below.3) in
      (flag-same kind.forward false forward, flag-same kind.backward false backward, flag-same kind.pattern false pattern)

  backward_of : (table : TableName) (code : List ℕ) → list_all has_no_backward (entries table) ≡ true → code_in table (type_symbol kind) ≡ Some code → kind.backward ≡ true → ⊥
  backward_of table code all listed set =
      let below = bits_below in
      let none : type_symbol kind / 4 % 2 ≡ 0 = eqb-true (type_symbol kind / 4 % 2) 0 (code_in-passes has_no_backward table (type_symbol kind) code all listed) in
      let one : flag kind.backward ≡ 1 = ap flag set in
      omega (arith, none, one, below.0, below.1, below.3, below.4)

  forward_of : (table : TableName) (code : List ℕ) → list_all has_no_forward (entries table) ≡ true → code_in table (type_symbol kind) ≡ Some code → kind.forward ≡ true → ⊥
  forward_of table code all listed set =
      let below = bits_below in
      let none : type_symbol kind / 8 % 2 ≡ 0 = eqb-true (type_symbol kind / 8 % 2) 0 (code_in-passes has_no_forward table (type_symbol kind) code all listed) in
      let one : flag kind.forward ≡ 1 = ap flag set in
      omega (arith, none, one, below.0, below.2, below.3, below.4)

  pub kind-of : (coding : PicCoding) (code : List ℕ) → code_in (type_table coding) (type_symbol kind) ≡ Some code → HasKind coding kind
  kind-of coding code = by_type (λ t. code_in t (type_symbol kind) ≡ Some code → HasKind coding kind) coding
      (λ is listed. record {
        alone = alone_of TypeI code alone_i listed;
        forward = λ set. absurd (forward_of TypeI code forward_i listed set);
        backward = λ set. absurd (backward_of TypeI code backward_i listed set);
      })
      (λ is listed. record {
        alone = alone_of TypeP code alone_p listed;
        forward = λ set e. omega (arith, is, e);
        backward = λ set. absurd (backward_of TypeP code backward_p listed set);
      })
      (λ other neither listed. record { alone = alone_of TypeB code alone_b listed; forward = λ set. other; backward = λ set. (other, neither) })
