-- Bits that spell a value whatever follows them, by the ways of putting grammars together.
use Rattle.std.proofs.Common.{◌≡◌, ℕ, zero, suc, List, [], ◌∷◌, ◌++◌, Option, Some, None, Bool, true, false, if◌then◌else◌, unwrap_or, refl, sym, ap, subst, ◌∙◌, append_assoc}
use Rattle.std.specs.List.{flat_map}
use Rattle.bit_lists.specs.Bits.{bits_of}
use Rattle.bit_lists.specs.Fields.{flag}
use Rattle.prefix_codes.specs.declared.table_name.TableName.{TableName}
use Rattle.picture_grammar.specs.Refusal.{Refusal}
use Rattle.picture_grammar.specs.Grammar.{Grammar, done, ◌>>=◌, optional, when, repeated, each, many, SpellsList, Next}
use Rattle.picture_grammar.specs.Grammar.Next.{more, last}
use Rattle.picture_grammar.specs.Element.{Rule, passes, element, vlclbf, uimsbf, flag_where}
use Rattle.picture_grammar.specs.Written.{if_any}
use Rattle.prefix_codes.specs.TableName.{code_for}
use Rattle.picture_laws.specs.Spellable.{IsSpellable}

-- the bits spell the value, whatever follows
pub record SpellsAnywhere {A : Type 0} (grammar : Grammar A) (value : A) (code : List ℕ) : Type 0 where
  pub before : (following : List ℕ) → grammar.Spells value (code ++ following) following

-- what is written of a value that some bits spell spells it, whatever follows
pub record IsReadBack {A : Type 0} (grammar : Grammar A) (written : A → List ℕ) : Type 0 where
  pub again : (value : A) → IsSpellable grammar value → SpellsAnywhere grammar value (written value)

pub spellable : {A : Type 0} (grammar : Grammar A) (value : A) (bits rest : List ℕ) → grammar.Spells value bits rest → IsSpellable grammar value
spellable grammar value bits rest s = record { bits = bits; rest = rest; spelled = s }

-- ---- bits before all that follows

pub anywhere-code : {A : Type 0} (grammar : Grammar A) (value : A) (code other : List ℕ) → code ≡ other → SpellsAnywhere grammar value code → SpellsAnywhere grammar value other
anywhere-code grammar value code other e s = subst (λ (c : List ℕ). SpellsAnywhere grammar value c) e s

pub anywhere-value : {A : Type 0} (grammar : Grammar A) (value other : A) (code : List ℕ) → value ≡ other → SpellsAnywhere grammar value code → SpellsAnywhere grammar other code
anywhere-value {A} grammar value other code e s = subst (λ (v : A). SpellsAnywhere grammar v code) e s

pub anywhere-done : {A : Type 0} (value : A) → SpellsAnywhere (done value) value []
anywhere-done value = record { before = λ following. (refl, refl) }

pub anywhere-element : {A : Type 0} (Codes : A → List ℕ → Type 0) (refusal : Refusal) (rules : List (Rule A)) (value : A) (code : List ℕ)
    → Codes value code → passes rules value ≡ true → SpellsAnywhere (element Codes refusal rules) value code
anywhere-element Codes refusal rules value code coded passing = record { before = λ following. (code, coded, passing, refl) }

pub anywhere-bind : {A B : Type 0} (first : Grammar A) (next : A → Grammar B) (a : A) (value : B) (code other : List ℕ)
    → SpellsAnywhere first a code → SpellsAnywhere (next a) value other → SpellsAnywhere (first >>= next) value (code ++ other)
anywhere-bind first next a value code other s t = record {
  before = λ following. (a, other ++ following, subst (λ b. first.Spells a b (other ++ following)) (sym (append_assoc code other following)) (s.before (other ++ following)), t.before following);
}

-- a value made of one that was read
pub anywhere-made : {A B : Type 0} (first : Grammar A) (make : A → B) (a : A) (value : B) (code : List ℕ) → value ≡ make a
    → SpellsAnywhere first a code → SpellsAnywhere (first >>= λ x. done (make x)) value code
anywhere-made first make a value code e s = record { before = λ following. (a, following, s.before following, (e, refl)) }

-- ---- what is written of a value

pub back-done : {A : Type 0} (value : A) → IsReadBack (done value) (λ _. [])
back-done value = record { again = λ v s. record { before = λ following. (s.spelled.0, refl) } }

pub back-element : {A : Type 0} (Codes : A → List ℕ → Type 0) (refusal : Refusal) (rules : List (Rule A)) (written : A → List ℕ)
    → ((value : A) (code : List ℕ) → Codes value code → written value ≡ code) → IsReadBack (element Codes refusal rules) written
back-element Codes refusal rules written one = record {
  again = λ value s.
      let (code, coded, passing, split) = s.spelled in
      anywhere-code (element Codes refusal rules) value code (written value) (sym (one value code coded)) (anywhere-element Codes refusal rules value code coded passing);
}

pub back-vlclbf : (table : TableName) (refusal : Refusal) (rules : List (Rule ℕ)) → IsReadBack (vlclbf table refusal rules) (code_for table)
back-vlclbf table refusal rules = back-element _ refusal rules (code_for table) (λ symbol code listed. ap (λ (o : Option (List ℕ)). unwrap_or o []) listed)

pub back-uimsbf : (n : ℕ) (rules : List (Rule ℕ)) → IsReadBack (uimsbf n rules) (bits_of n)
back-uimsbf n rules = back-element _ _ rules (bits_of n) (λ number code coded. sym coded.1)

pub back-flag : (rules : List (Rule Bool)) → IsReadBack (flag_where rules) (λ is_set. flag is_set ∷ [])
back-flag rules = back-element _ _ rules (λ is_set. flag is_set ∷ []) (λ is_set code coded. sym coded)

pub back-when : {A : Type 0} (test : Bool) (grammar : Grammar A) (absent : A) (written : A → List ℕ) → IsReadBack grammar written
    → IsReadBack (when test grammar absent) (λ value. if test then written value else [])
back-when true grammar absent written back = back
back-when false grammar absent written back = back-done absent

pub back-optional : {A : Type 0} (test : Bool) (grammar : Grammar A) (written : A → List ℕ) → IsReadBack grammar written → IsReadBack (optional test grammar) (if_any written)
back-optional {A} true grammar written back = record {
  again = λ value s.
      let (v, m, t, (e, f)) = s.spelled in
      anywhere-value (optional true grammar) (Some v) value (if_any written value) (sym e)
      (anywhere-code (optional true grammar) (Some v) (written v) (if_any written value) (ap (if_any written) (sym e))
      (anywhere-made grammar (λ x. Some x) v (Some v) (written v) refl (back.again v (spellable grammar v s.bits m t))));
}
back-optional {A} false grammar written back = record {
  again = λ value s.
      let (e, f) = s.spelled in
      anywhere-value (optional false grammar) None value (if_any written value) (sym e)
      (anywhere-code (optional false grammar) None [] (if_any written value) (ap (if_any written) (sym e)) (anywhere-done None));
}

pub back-repeated : {A : Type 0} (n : ℕ) (grammar : Grammar A) (written : A → List ℕ) → IsReadBack grammar written → IsReadBack (repeated n grammar) (flat_map written)
back-repeated zero grammar written back = record {
  again = λ value s.
      let (e, f) = s.spelled in
      anywhere-value (repeated zero grammar) [] value (flat_map written value) (sym e)
      (anywhere-code (repeated zero grammar) [] [] (flat_map written value) (ap (flat_map written) (sym e)) (anywhere-done []));
}
back-repeated (suc n) grammar written back = record {
  again = λ value s.
      let (v, m, t, (vs, m', t', (e, f))) = s.spelled in
      let whole = anywhere-bind grammar (λ x. repeated n grammar >>= λ xs. done (x ∷ xs)) v (v ∷ vs) (written v) (flat_map written vs) (back.again v (spellable grammar v s.bits m t))
      (anywhere-made (repeated n grammar) (λ xs. v ∷ xs) vs (v ∷ vs) (flat_map written vs) refl
      ((back-repeated n grammar written back).again vs (spellable (repeated n grammar) vs m m' t'))) in
      anywhere-value (repeated (suc n) grammar) (v ∷ vs) value (flat_map written value) (sym e)
      (anywhere-code (repeated (suc n) grammar) (v ∷ vs) (written v ++ flat_map written vs) (flat_map written value) (ap (flat_map written) (sym e)) whole);
}

-- the values of a list of items in order, each as it is written for its item
abbrev pub written_each : {I A : Type 0} → (I → A → List ℕ) → List I → List A → List ℕ
written_each written [] values = []
written_each written (i ∷ is) [] = []
written_each written (i ∷ is) (value ∷ values) = written i value ++ written_each written is values

pub back-each : {I A : Type 0} (is : List I) (grammar : I → Grammar A) (written : I → A → List ℕ) → ((i : I) → IsReadBack (grammar i) (written i))
    → IsReadBack (each is grammar) (written_each written is)
back-each [] grammar written back = back-done []
back-each (i ∷ is) grammar written back = record {
  again = λ value s.
      let (v, m, t, (vs, m', t', (e, f))) = s.spelled in
      let whole = anywhere-bind (grammar i) (λ x. each is grammar >>= λ xs. done (x ∷ xs)) v (v ∷ vs) (written i v) (written_each written is vs) ((back i).again v (spellable (grammar i) v s.bits m t))
      (anywhere-made (each is grammar) (λ xs. v ∷ xs) vs (v ∷ vs) (written_each written is vs) refl
      ((back-each is grammar written back).again vs (spellable (each is grammar) vs m m' t'))) in
      anywhere-value (each (i ∷ is) grammar) (v ∷ vs) value (written_each written (i ∷ is) value) (sym e)
      (anywhere-code (each (i ∷ is) grammar) (v ∷ vs) (written i v ++ written_each written is vs) (written_each written (i ∷ is) value) (ap (written_each written (i ∷ is)) (sym e)) whole);
}

-- a list whose items don't look ahead, each written by itself
module _ {A B : Type 0} (next : List A → Grammar (Next A B)) (written : A → List ℕ) (written_end : B → List ℕ)
    (back : (before : List A) (value : A) → IsSpellable (next before) (more value) → SpellsAnywhere (next before) (more value) (written value))
    (back_end : (before : List A) (end : B) → IsSpellable (next before) (last end) → SpellsAnywhere (next before) (last end) (written_end end)) where
  list-back : (before values : List A) (end : B) (bits rest following : List ℕ) → SpellsList next before values end bits rest
      → SpellsList next before values end ((flat_map written values ++ written_end end) ++ following) following
  list-back before [] end bits rest following s = (back_end before end (spellable (next before) (last end) bits rest s)).before following
  list-back before (v ∷ vs) end bits rest following (m, s, t) =
      let later = (flat_map written vs ++ written_end end) ++ following in
      let split : (flat_map written (v ∷ vs) ++ written_end end) ++ following ≡ written v ++ later =
      ap (λ b. b ++ following) (append_assoc (written v) (flat_map written vs) (written_end end)) ∙ append_assoc (written v) (flat_map written vs ++ written_end end) following in (
        later,
        subst (λ b. (next before).Spells (more v) b later) (sym split) ((back before v (spellable (next before) (more v) bits m s)).before later),
        list-back (before ++ v ∷ []) vs end m rest following t,
      )

  pub back-many : IsReadBack (many next) (λ found. flat_map written found.0 ++ written_end found.1)
  back-many = record { again = λ found s. record { before = λ following. list-back [] found.0 found.1 s.bits s.rest following s.spelled } }
