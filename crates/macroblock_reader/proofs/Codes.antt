-- Numbers, flags and codes of tables, as a reader of bits and windows gives them.
use Rattle.std.proofs.Common.{
  ◌≡◌,
  ◌==◌,
  ◌+◌,
  ◌-◌,
  ◌*◌,
  ◌^◌,
  ◌<◌,
  ◌≤◌,
  nat_le,
  ℕ,
  List,
  [],
  ◌∷◌,
  ◌++◌,
  length,
  replicate,
  Option,
  Some,
  None,
  IfSome,
  Ok,
  Err,
  true,
  not,
  refl,
  sym,
  ap,
  subst,
  ◌∙◌,
  inl,
  inr,
  arith,
}
use Rattle.std.specs.List.{list_all}
use Rattle.std.proofs.lemmas.Bool.{and_from, and_parts, ne_eqb, leb-true}
use Rattle.std.proofs.lemmas.List.{length-append, length-replicate}
use Rattle.std.proofs.lemmas.Nat.{pow-add}
use Rattle.shelf_io.specs.declared.source.Source.{Ghosts}
use Rattle.shelf_io.specs.declared.fault.Fault.TheVariants.{Failed, Missing}
use Rattle.shelf_io.specs.Counts.{Rose}
use Rattle.bit_lists.specs.Bits.{IsPrefix, bits_of, number_of}
use Rattle.bit_lists.proofs.JoinedLemmas.{bits_of-put}
use Rattle.bit_lists.proofs.NumberLemmas.{AreBits, AreBits-append, AreBits-zeros, number_of-below, bits_of-number_of}
use Rattle.bit_lists.proofs.PrefixLemmas.{IsPrefix-append, IsPrefix-through}
use Rattle.prefix_codes.specs.Entry.{Entry}
use Rattle.prefix_codes.specs.declared.table_name.TableName.{TableName}
use Rattle.prefix_codes.specs.declared.table_name.TableName.TheVariants.{Pattern, Motion}
use Rattle.prefix_codes.specs.TableName.{entries, code_in}
use Rattle.prefix_codes.proofs.Computing.{tables}
use Rattle.prefix_codes.proofs.TableLemmas.{code_in-passes}
use Rattle.bit_cursor.specs.declared.bit_reader.BitReader.{BitReader}
use Rattle.bit_cursor.specs.declared.fault.BitFault.{BitFault}
use Rattle.bit_cursor.specs.declared.fault.BitFault.TheVariants as bits
use Rattle.bit_cursor.specs.Shown.{IsFirstNumber}
use Rattle.bit_cursor.specs.BitReader.{bits_left, place, faults_of, absences_of, KeepsSource}
use Rattle.shelf_io.specs.Source.{without_front}
use Rattle.picture_grammar.specs.Refusal.{Refusal}
use Rattle.picture_grammar.specs.Refusal.Refusal.{BadType, End}
use Rattle.picture_grammar.specs.Grammar.{Grammar}
use Rattle.picture_grammar.specs.Element.{Rule, rule, passes, MayStand, uimsbf, vlclbf}
use Rattle.grammar_reading.specs.declared.window.BitWindow.{BitWindow}
use Rattle.grammar_reading.specs.Window.{ShowsFront}
use Rattle.grammar_reading.specs.Symbol.{symbol_up_to}
use Rattle.grammar_reading.specs.BitsRead.{IsSpelled, ExplainsFrom, Explains, Advances}
use Rattle.grammar_reading.proofs.ReadElements.{reads-number, explains-rule, explains-cut}
use Rattle.macroblock_reader.specs.declared.fault.SliceFault.TheVariants as fault
use Rattle.macroblock_reader.specs.declared.why.Why.{Why}
use Rattle.macroblock_reader.specs.declared.why.Why.TheVariants as why
use Rattle.macroblock_reader.specs.SliceFault.{refusal_told}
use Rattle.macroblock_reader.specs.Private.Answers.{Answers}
use Rattle.macroblock_reader.specs.Private.Why.{refusal_of, fault_at, fault_of_bits}
use Rattle.macroblock_reader.proofs.Courses.{advances-kept, answers-read, answers-told}

-- ---- a reader of bits that gives none

pub answers-bit_fault : {M A S : Type 0} {g : Ghosts S} (grammar : Grammar A) (fault : BitFault) (old new : BitReader S g)
    → (fault ≡ bits.End → Explains grammar old (Some (record { refusal = End; at = place old }))) → Advances old new
    → (fault ≡ bits.Outside Failed → Rose (faults_of old) (faults_of new)) → (fault ≡ bits.Outside Missing → Rose (absences_of old) (absences_of new)) → KeepsSource old new
    → Answers M grammar (Err (fault_of_bits fault (place old))) old new
answers-bit_fault grammar bits.End old new end advances failed missing keeps = answers-told grammar (fault.End (place old)) _ old new refl (end refl) advances keeps
answers-bit_fault grammar (bits.Outside outside) old new end advances failed missing keeps = record {
  ok = tt;
  refused = nothing (bits_left old);
  advances = advances;
  failed = λ is. failed (ap bits.Outside (let e = is in cc));
  missing = λ is. missing (ap bits.Outside (let e = is in cc));
  memory = λ is. absurd (let e = is in cc);
  keeps = keeps;
} where
  nothing : (told : Option (List ℕ)) → IfSome told (λ b. ExplainsFrom grammar None b (place old))
  nothing None = tt
  nothing (Some b) = tt

-- ---- numbers with a rule

-- bits that end within a number that isn't 0 begin one
not_zero-completed : (n : ℕ) (front : List ℕ) → 0 < n → AreBits front → length front < n → (number : ℕ) × (number < 2 ^ n)
    × (passes (rule BadType (λ k. not (k == 0)) ∷ []) number ≡ true) × IsPrefix front (bits_of n number)
not_zero-completed n front some are short =
    let zeros = replicate (n - 1 - length front) 0 in
    let filled = front ++ zeros in
    let all : AreBits filled = AreBits-append front zeros are (AreBits-zeros (n - 1 - length front)) in
    let count : length filled ≡ n - 1 = omega (arith, length-append front zeros, length-replicate {A = ℕ} (n - 1 - length front) 0) in
    let high = number_of filled in
    let below : high < 2 ^ (n - 1) = subst (λ k. high < 2 ^ k) count (number_of-below filled all) in
    let whole : bits_of (n - 1) high ≡ filled = ap (λ k. bits_of k high) (sym count) ∙ bits_of-number_of filled all in
    let size : n - 1 + 1 ≡ n = omega arith in
    let number = high * 2 ^ 1 + 1 in
    let put : bits_of n number ≡ bits_of (n - 1) high ++ bits_of 1 1 = ap (λ k. bits_of k number) (sym size) ∙ bits_of-put (n - 1) 1 high 1 (omega arith) in
    let double : 2 ^ n ≡ 2 ^ (n - 1) * 2 = ap (λ k. 2 ^ k) (sym size) ∙ pow-more (n - 1) in (
      number,
      omega arith,
      and_from (not (number == 0)) true (ap not (ne_eqb number 0 (omega arith))) refl,
      subst (IsPrefix front) (sym put) (IsPrefix-through front filled (bits_of (n - 1) high ++ bits_of 1 1) (IsPrefix-append front zeros)
          (subst (λ x. IsPrefix x (bits_of (n - 1) high ++ bits_of 1 1)) whole (IsPrefix-append (bits_of (n - 1) high) (bits_of 1 1)))),
    ) where
      pow-more : (k : ℕ) → 2 ^ (k + 1) ≡ 2 ^ k * 2
      pow-more k = pow-add 2 k 1

pub explains-not_zero_cut : (n : ℕ) (told : Option (List ℕ)) (at : ℕ) → 0 < n → IfSome told AreBits → IfSome told (λ bits. length bits < n)
    → IfSome told (λ bits. ExplainsFrom (uimsbf n (rule BadType (λ k. not (k == 0)) ∷ [])) (Some (record { refusal = End; at = at })) bits at)
explains-not_zero_cut n None at some are short = tt
explains-not_zero_cut n (Some bits) at some are short =
    explains-cut n (Some bits) at (rule BadType (λ k. not (k == 0)) ∷ []) short (not_zero-completed n bits some are short)

module _ {S : Type 0} {g : Ghosts S} (n value : ℕ) (old new : BitReader S g)
    (front : IfSome (bits_left old) (λ bits. IsFirstNumber n bits value)) (below : value < 2 ^ n)
    (left : bits_left new ≡ without_front (bits_left old) n) (moved : place new ≡ place old + n) (keeps : KeepsSource old new) where
  abbrev not_zero : List (Rule ℕ)
  not_zero = rule BadType (λ k. not (k == 0)) ∷ []

  abbrev marker : List (Rule ℕ)
  marker = rule BadType (λ k. k == 1) ∷ []

  taken : Advances old new
  taken = let r = reads-number n value (bits_left old) (bits_left new) (place old) (place new) [] front below left moved refl in record { front = r.front; left = r.left; moved = r.moved }

  pub not_zero-read : (value ≡ 0 → ⊥) → Answers ⊥ (uimsbf n not_zero) (Ok value) old new
  not_zero-read some =
      answers-read (uimsbf n not_zero) value old new
      (reads-number n value (bits_left old) (bits_left new) (place old) (place new) not_zero front below left moved (and_from (not (value == 0)) true (ap not (ne_eqb value 0 some)) refl)) keeps

  pub not_zero-broken : value ≡ 0 → Answers ⊥ (uimsbf n not_zero) (Err (fault.BadType (place old))) old new
  not_zero-broken none =
      answers-told (uimsbf n not_zero) (fault.BadType (place old)) (record { refusal = BadType; at = place old }) old new refl
      (explains-rule n value (bits_left old) (place old) [] [] (rule BadType (λ k. not (k == 0))) front below refl (ap (λ k. not (k == 0)) none)) taken keeps

  pub marker-read : n ≡ 1 → (value ≡ 0 → ⊥) → Answers ⊥ (uimsbf n marker) (Ok 1) old new
  marker-read one some =
      let two : 2 ^ n ≡ 2 = ap (λ k. 2 ^ k) one in
      let is : value ≡ 1 = omega arith in
      subst (λ v. Answers ⊥ (uimsbf n marker) (Ok v) old new) is
      (answers-read (uimsbf n marker) value old new (reads-number n value (bits_left old) (bits_left new) (place old) (place new) marker front below left moved (ap (λ v. passes marker v) is)) keeps)

  pub marker-broken : value ≡ 0 → Answers ⊥ (uimsbf n marker) (Err (fault.BadType (place old))) old new
  marker-broken none =
      answers-told (uimsbf n marker) (fault.BadType (place old)) (record { refusal = BadType; at = place old }) old new refl
      (explains-rule n value (bits_left old) (place old) [] [] (rule BadType (λ k. k == 1)) front below refl (ap (λ k. k == 1) none)) taken keeps

-- ---- codes of tables

refused-here : {A : Type 0} (grammar : Grammar A) (refusal : Refusal) (told : Option (List ℕ)) (window : BitWindow) (at : ℕ) → IfSome told (ShowsFront window)
    → ((bits : List ℕ) → ShowsFront window bits → grammar.Refuses bits refusal bits) → IfSome told (λ bits. ExplainsFrom grammar (Some (record { refusal = refusal; at = at })) bits at)
refused-here grammar refusal None window at shows refused = tt
refused-here grammar refusal (Some bits) window at shows refused = record { front = []; left = bits; split = refl; refused = refused bits shows; moved = omega arith }

why-told : (reason : Why) (at : ℕ) → refusal_told (fault_at reason at) ≡ Some (record { refusal = refusal_of reason; at = at })
why-told why.NoCode at = refl
why-told why.BadType at = refl
why-told why.BadAddress at = refl
why-told why.BadPattern at = refl
why-told why.End at = refl

-- no code of the table at the front of a window
pub answers-none : {A S : Type 0} {g : Ghosts S} (grammar : Grammar A) (reason : Why) (window : BitWindow) (at : ℕ) (old new : BitReader S g) → IfSome (bits_left old) (ShowsFront window)
    → ((bits : List ℕ) → ShowsFront window bits → grammar.Refuses bits (refusal_of reason) bits) → bits_left new ≡ bits_left old → place new ≡ place old → at ≡ place new → KeepsSource old new
    → Answers ⊥ grammar (Err (fault_at reason at)) old new
answers-none grammar reason window at old new shows refused left moved is keeps =
    let here : at ≡ place old = is ∙ moved in
    subst (λ p. Answers ⊥ grammar (Err (fault_at reason p)) old new) (sym here)
    (answers-told grammar (fault_at reason (place old)) _ old new (why-told reason (place old))
    (refused-here grammar (refusal_of reason) (bits_left old) window (place old) shows refused) (advances-kept (bits_left old) (bits_left new) (place old) (place new) left moved) keeps)

-- where all symbols of a table are up to this one, that is no rule
module _ (table : TableName) (most : ℕ) (kind : Refusal) (all : list_all (λ (e : Entry). nat_le e.0 most) (entries table) ≡ true) where
  abbrev Codes : ℕ → List ℕ → Type 0
  Codes symbol code = code_in table symbol ≡ Some code

  abbrev rules_up_to : List (Rule ℕ)
  rules_up_to = rule kind (λ symbol. nat_le symbol most) ∷ []

  small : (symbol : ℕ) (code : List ℕ) → Codes symbol code → passes rules_up_to symbol ≡ true
  small symbol code listed = and_from (nat_le symbol most) true (code_in-passes (λ (e : Entry). nat_le e.0 most) table symbol code all listed) refl

  only-rule : (r : Rule ℕ) (before after : List (Rule ℕ)) (broken : Rule ℕ) → r ∷ [] ≡ before ++ broken ∷ after → before ++ broken ∷ [] ≡ r ∷ []
  only-rule r [] after broken e = let same : r ≡ broken = cc in ap (λ x. x ∷ []) (sym same)
  only-rule r (b ∷ bs) after broken e = absurd (let count = ap length e in omega (arith, length-append bs (broken ∷ after)))

  pub any-spells : (symbol : ℕ) (bits rest : List ℕ) → (symbol_up_to table most kind kind).Spells symbol bits rest → (vlclbf table kind []).Spells symbol bits rest
  any-spells symbol bits rest (code, listed, passing, split) = (code, listed, refl, split)

  pub any-refuses : (bits left : List ℕ) (refusal : Refusal) → (symbol_up_to table most kind kind).Refuses bits refusal left → (vlclbf table kind []).Refuses bits refusal left
  any-refuses bits left refusal (e, inl p) = (e, inl p)
  any-refuses bits left refusal (e, inr (inl b)) =
      let may = b.so_far in
      absurd (subst (λ rules. MayStand Codes rules bits → ⊥) (only-rule (rule kind (λ symbol. nat_le symbol most)) b.before b.after b.broken b.order) b.none
      (record { value = may.value; code = may.code; coded = may.coded; passing = small may.value may.code may.coded; agrees = may.agrees }))
  any-refuses bits left refusal (e, inr (inr (may, none, is))) = (
    e,
    inr (inr (
      record { value = may.value; code = may.code; coded = may.coded; passing = refl; agrees = may.agrees },
      (λ s. none (record { value = s.value; code = s.code; coded = s.coded; passing = small s.value s.code s.coded; first = s.first })),
      is,
    )),
  )

pub motion-small : list_all (λ (e : Entry). nat_le e.0 16) (entries Motion) ≡ true
unfolding tables
motion-small = refl

pub pattern-small : list_all (λ (e : Entry). nat_le e.0 63) (entries Pattern) ≡ true
unfolding tables
pattern-small = refl

-- the symbol of a code is one that may stand
pub symbol-most : (table : TableName) (most : ℕ) (kind past : Refusal) (symbol : ℕ) (bits rest : List ℕ) → (symbol_up_to table most kind past).Spells symbol bits rest → symbol ≤ most
symbol-most table most kind past symbol bits rest (code, listed, passing, split) = leb-true symbol most (and_parts (nat_le symbol most) true passing).0

-- what was spelled, whatever follows it
pub of-answer : {M A S : Type 0} {g : Ghosts S} (grammar : Grammar A) (value : A) (old new : BitReader S g) → Answers M grammar (Ok value) old new
    → (bits : List ℕ) × (rest : List ℕ) × grammar.Spells value bits rest
of-answer grammar value old new a = by_bits (bits_left new) a.ok.spelled where
  by_bits : (after : Option (List ℕ)) → IsSpelled grammar value a.ok.front after → (bits : List ℕ) × (rest : List ℕ) × grammar.Spells value bits rest
  by_bits None (rest, s) = (a.ok.front ++ rest, rest, s)
  by_bits (Some rest) s = (a.ok.front ++ rest, rest, s)

pub answers-most : {S : Type 0} {g : Ghosts S} (table : TableName) (most : ℕ) (kind : Refusal) (symbol : ℕ) (old new : BitReader S g)
    → Answers ⊥ (symbol_up_to table most kind kind) (Ok symbol) old new → symbol ≤ most
answers-most table most kind symbol old new a =
    let (bits, rest, s) = of-answer (symbol_up_to table most kind kind) symbol old new a in symbol-most table most kind kind symbol bits rest s
