-- Each way to put grammars together decides all bits where its parts do.
use Rattle.std.proofs.Common.{◌≡◌, ℕ, zero, suc, ◌<◌, ◌≤◌, List, [], ◌∷◌, ◌++◌, length, Some, None, Bool, true, false, refl, inl, inr, arith}
use Rattle.bit_lists.proofs.NumberLemmas.{AreBits}
use Rattle.picture_grammar.specs.Refusal.Refusal.{End}
use Rattle.picture_grammar.specs.Grammar.{Grammar, done, ◌>>=◌, ◌>>◌, optional, when, if_next, at_bits, ahead, repeated, each, many, one_item_more, SpellsList, RefusesAfter, Next}
use Rattle.picture_grammar.specs.Grammar.Next.{more, last}
use Rattle.picture_laws.proofs.Answers.{Answer, IsRight, IsDecided}
use Rattle.picture_laws.proofs.Answers.Answer.{found, refused}

-- ---- one thing behind another

abbrev pub decided-done : {A : Type 0} (value : A) → IsDecided (done value)
decided-done value = record { answer = λ bits. found value bits; right = λ bits are. ((refl, refl), are) }

abbrev pub next_answer : {A B : Type 0} → Answer A → (A → List ℕ → Answer B) → Answer B
next_answer (found a rest) next = next a rest
next_answer (refused r left) next = refused r left

module _ {A B : Type 0} (first : Grammar A) (next : A → Grammar B) (each_next : (a : A) → IsDecided (next a)) where
  right-behind : (bits : List ℕ) (a : A) (middle : List ℕ) → first.Spells a bits middle → (answer : Answer B) → IsRight (next a) middle answer → IsRight (first >>= next) bits answer
  right-behind bits a middle s (found v rest) (t, are) = ((a, middle, s, t), are)
  right-behind bits a middle s (refused r left) t = inr (a, middle, s, t)

  pub right-bind : (bits : List ℕ) (answer : Answer A) → IsRight first bits answer → IsRight (first >>= next) bits (next_answer answer (λ a. (each_next a).answer))
  right-bind bits (found a middle) (s, are) = right-behind bits a middle s ((each_next a).answer middle) ((each_next a).right middle are)
  right-bind bits (refused r left) s = inl s

abbrev pub decided-bind : {A B : Type 0} (first : Grammar A) (next : A → Grammar B) → IsDecided first → ((a : A) → IsDecided (next a)) → IsDecided (first >>= next)
decided-bind first next decided each_next = record {
  answer = λ bits. next_answer (decided.answer bits) (λ a. (each_next a).answer);
  right = λ bits are. right-bind first next each_next bits (decided.answer bits) (decided.right bits are);
}

abbrev pub decided-then : {A B : Type 0} (first : Grammar A) (next : Grammar B) → IsDecided first → IsDecided next → IsDecided (first >> next)
decided-then first next decided then = decided-bind first (λ _. next) decided (λ _. then)

-- ---- what stands in some cases only

abbrev pub decided-optional : {A : Type 0} (test : Bool) (grammar : Grammar A) → IsDecided grammar → IsDecided (optional test grammar)
decided-optional true grammar decided = decided-bind grammar (λ value. done (Some value)) decided (λ value. decided-done (Some value))
decided-optional false grammar decided = decided-done None

abbrev pub decided-when : {A : Type 0} (test : Bool) (grammar : Grammar A) (absent : A) → IsDecided grammar → IsDecided (when test grammar absent)
decided-when true grammar absent decided = decided
decided-when false grammar absent decided = decided-done absent

-- a test of bits, and what it says
pub record IsTested (IsSuch : List ℕ → Type 0) : Type 0 where
  pub test : List ℕ → Bool
  pub such : (bits : List ℕ) → AreBits bits → test bits ≡ true → IsSuch bits
  pub other : (bits : List ℕ) → AreBits bits → test bits ≡ false → IsSuch bits → ⊥

abbrev pub chosen : {A : Type 0} → Bool → (List ℕ → Answer A) → (List ℕ → Answer A) → List ℕ → Answer A
chosen true f g bits = f bits
chosen false f g bits = g bits

module _ {A : Type 0} (IsSuch : List ℕ → Type 0) (then else : Grammar A) (tested : IsTested IsSuch) (decided : IsDecided then) (other_decided : IsDecided else) where
  right-such : (bits : List ℕ) → IsSuch bits → (answer : Answer A) → IsRight then bits answer → IsRight (if_next IsSuch then else) bits answer
  right-such bits such (found v rest) (s, are) = (inl (such, s), are)
  right-such bits such (refused r left) s = inl (such, s)

  right-other : (bits : List ℕ) → (IsSuch bits → ⊥) → (answer : Answer A) → IsRight else bits answer → IsRight (if_next IsSuch then else) bits answer
  right-other bits none (found v rest) (s, are) = (inr (none, s), are)
  right-other bits none (refused r left) s = inr (none, s)

  pub right-if_next : (bits : List ℕ) → AreBits bits → (b : Bool) → tested.test bits ≡ b → IsRight (if_next IsSuch then else) bits (chosen b decided.answer other_decided.answer bits)
  right-if_next bits are true e = right-such bits (tested.such bits are e) (decided.answer bits) (decided.right bits are)
  right-if_next bits are false e = right-other bits (tested.other bits are e) (other_decided.answer bits) (other_decided.right bits are)

  abbrev pub decided-if_next : IsDecided (if_next IsSuch then else)
  decided-if_next = record {
    answer = λ bits. chosen (tested.test bits) decided.answer other_decided.answer bits;
    right = λ bits are. right-if_next bits are (tested.test bits) refl;
  }

pub right-at_bits : {A : Type 0} (grammar : List ℕ → Grammar A) (bits : List ℕ) (answer : Answer A) → IsRight (grammar bits) bits answer → IsRight (at_bits grammar) bits answer
right-at_bits grammar bits (found v rest) s = s
right-at_bits grammar bits (refused r left) s = s

abbrev pub decided-at_bits : {A : Type 0} (grammar : List ℕ → Grammar A) → ((bits : List ℕ) → IsDecided (grammar bits)) → IsDecided (at_bits grammar)
decided-at_bits grammar decided = record {
  answer = λ bits. (decided bits).answer bits;
  right = λ bits are. right-at_bits grammar bits ((decided bits).answer bits) ((decided bits).right bits are);
}

abbrev pub seen_ahead : {A : Type 0} → List ℕ → Answer A → Answer A
seen_ahead bits (found v rest) = found v bits
seen_ahead bits (refused r left) = refused r left

pub right-ahead : {A : Type 0} (grammar : Grammar A) (bits : List ℕ) → AreBits bits → (answer : Answer A) → IsRight grammar bits answer → IsRight (ahead grammar) bits (seen_ahead bits answer)
right-ahead grammar bits are (found v rest) (s, are') = ((refl, rest, s), are)
right-ahead grammar bits are (refused r left) s = s

abbrev pub decided-ahead : {A : Type 0} (grammar : Grammar A) → IsDecided grammar → IsDecided (ahead grammar)
decided-ahead grammar decided = record {
  answer = λ bits. seen_ahead bits (decided.answer bits);
  right = λ bits are. right-ahead grammar bits are (decided.answer bits) (decided.right bits are);
}

-- ---- what stands several times

abbrev pub decided-repeated : {A : Type 0} (n : ℕ) (grammar : Grammar A) → IsDecided grammar → IsDecided (repeated n grammar)
decided-repeated zero grammar decided = decided-done []
decided-repeated (suc n) grammar decided =
    decided-bind grammar (λ value. repeated n grammar >>= λ values. done (value ∷ values)) decided
    (λ value. decided-bind (repeated n grammar) (λ values. done (value ∷ values)) (decided-repeated n grammar decided) (λ values. decided-done (value ∷ values)))

abbrev pub decided-each : {I A : Type 0} (is : List I) (grammar : I → Grammar A) → ((i : I) → IsDecided (grammar i)) → IsDecided (each is grammar)
decided-each [] grammar decided = decided-done []
decided-each (i ∷ is) grammar decided =
    decided-bind (grammar i) (λ value. each is grammar >>= λ values. done (value ∷ values)) (decided i)
    (λ value. decided-bind (each is grammar) (λ values. done (value ∷ values)) (decided-each is grammar decided) (λ values. decided-done (value ∷ values)))

abbrev pub decided-one_more : {A B : Type 0} (grammar : Grammar A) → IsDecided grammar → IsDecided (one_item_more {A = A} {B = B} grammar)
decided-one_more {A} {B} grammar decided =
    let another : A → Grammar (Next A B) = λ value. done (more value) in
    decided-bind grammar another decided (λ value. decided-done (more value))

-- a list that takes a bit for each value
pub record TakesBits {A B : Type 0} (next : List A → Grammar (Next A B)) : Type 0 where
  pub fewer : (before : List A) (value : A) (bits middle : List ℕ) → (next before).Spells (more value) bits middle → length middle < length bits

module _ {A B : Type 0} (next : List A → Grammar (Next A B)) (decided : (before : List A) → IsDecided (next before)) where
  abbrev pub with_first : A → Answer (List A × B) → Answer (List A × B)
  with_first value (found list rest) = found (value ∷ list.0, list.1) rest
  with_first value (refused r left) = refused r left

  -- by as many steps as there may be
  abbrev pub list_answer : ℕ → List A → Answer (Next A B) → Answer (List A × B)
  list_answer steps before (refused r left) = refused r left
  list_answer steps before (found (last end) rest) = found ([], end) rest
  list_answer zero before (found (more value) middle) = refused End middle
  list_answer (suc steps) before (found (more value) middle) =
      with_first value (list_answer steps (before ++ value ∷ []) ((decided (before ++ value ∷ [])).answer middle))

  abbrev IsRightList : List A → List ℕ → Answer (List A × B) → Type 0
  IsRightList before bits (found list rest) = SpellsList next before list.0 list.1 bits rest × AreBits rest
  IsRightList before bits (refused r left) = (values : List A) × RefusesAfter next before values bits r left

  right-first : (before : List A) (value : A) (bits middle : List ℕ) → (next before).Spells (more value) bits middle → (answer : Answer (List A × B))
      → IsRightList (before ++ value ∷ []) middle answer → IsRightList before bits (with_first value answer)
  right-first before value bits middle s (found list rest) (t, are) = ((middle, s, t), are)
  right-first before value bits middle s (refused r left) (values, t) = (value ∷ values, (middle, s, t))

  right-list : (takes : TakesBits next) (steps : ℕ) (before : List A) (bits : List ℕ) → length bits ≤ steps → (answer : Answer (Next A B)) → IsRight (next before) bits answer
      → IsRightList before bits (list_answer steps before answer)
  right-list takes steps before bits le (refused r left) s = ([], s)
  right-list takes steps before bits le (found (last end) rest) s = s
  right-list takes zero before bits le (found (more value) middle) (s, are) = absurd (omega (arith, takes.fewer before value bits middle s))
  right-list takes (suc steps) before bits le (found (more value) middle) (s, are) =
      right-first before value bits middle s (list_answer steps (before ++ value ∷ []) ((decided (before ++ value ∷ [])).answer middle))
      (right-list takes steps (before ++ value ∷ []) middle (omega (arith, takes.fewer before value bits middle s))
      ((decided (before ++ value ∷ [])).answer middle) ((decided (before ++ value ∷ [])).right middle are))

  right-many : (bits : List ℕ) (answer : Answer (List A × B)) → IsRightList [] bits answer → IsRight (many next) bits answer
  right-many bits (found list rest) s = s
  right-many bits (refused r left) s = s

  pub right-whole : TakesBits next → (bits : List ℕ) → AreBits bits → IsRight (many next) bits (list_answer (length bits) [] ((decided []).answer bits))
  right-whole takes bits are =
      right-many bits (list_answer (length bits) [] ((decided []).answer bits)) (right-list takes (length bits) [] bits (omega arith) ((decided []).answer bits) ((decided []).right bits are))

  abbrev pub decided-many : TakesBits next → IsDecided (many next)
  decided-many takes = record { answer = λ bits. list_answer (length bits) [] ((decided []).answer bits); right = right-whole takes }
