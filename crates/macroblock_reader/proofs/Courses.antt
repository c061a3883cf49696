-- Answers of readers put together, as the parts of a grammar are.
use Rattle.std.proofs.Common.{
  ◌≡◌,
  ℕ,
  ◌+◌,
  ◌-◌,
  ◌^◌,
  ◌≤◌,
  nat_lt,
  List,
  [],
  ◌++◌,
  length,
  Option,
  Some,
  None,
  IfSome,
  IsErrOf,
  Result,
  Ok,
  Err,
  Bool,
  true,
  if◌then◌else◌,
  refl,
  sym,
  ap,
  subst,
  ◌∙◌,
  inl,
  inr,
  arith,
  append_assoc,
}
use Rattle.std.specs.Option.{option_map}
use Rattle.std.proofs.lemmas.Bool.{cases_Bool, ltb-true, ltb-false}
use Rattle.std.proofs.lemmas.List.{length-append}
use Rattle.shelf_io.specs.declared.source.Source.{Ghosts}
use Rattle.shelf_io.specs.declared.fault.Fault.TheVariants.{Failed, Missing}
use Rattle.shelf_io.specs.Counts.{Rose}
use Rattle.bit_cursor.specs.declared.bit_reader.BitReader.{BitReader}
use Rattle.bit_cursor.specs.BitReader.{bits_left, place, faults_of, absences_of, KeepsSource}
use Rattle.bit_cursor.proofs.Source.{keeps_then}
use Rattle.picture_grammar.specs.Refusal.{Refusal}
use Rattle.picture_grammar.specs.Grammar.{Grammar, done, ◌>>=◌, optional}
use Rattle.picture_grammar.specs.Exact.{IsLocal}
use Rattle.grammar_reading.specs.BitsRead.{PlacedRefusal, AdvancesFrom, IsSpelled, ExplainsFrom, Reads, Explains, Advances}
use Rattle.grammar_reading.proofs.BitsRead.{anywhere, advances-on, advances-none, reads-advances, explains-first}
use Rattle.macroblock_reader.specs.declared.fault.SliceFault.{SliceFault}
use Rattle.macroblock_reader.specs.declared.fault.SliceFault.TheVariants.{Outside, OutOfMemory}
use Rattle.macroblock_reader.specs.SliceFault.{refusal_told}
use Rattle.macroblock_reader.specs.Private.Answers.{Answers, Course, answer_as}

-- ---- bits and counts

-- what a reader took, where it took nothing
pub advances-kept : (bits after : Option (List ℕ)) (at at_after : ℕ) → after ≡ bits → at_after ≡ at → AdvancesFrom bits after at at_after
advances-kept bits after at at_after e f = subst (λ b. AdvancesFrom bits b at at_after) (sym e) (subst (λ p. AdvancesFrom bits bits at p) (sym f) (advances-none bits at))

pub rose-on : (a b c : ℕ) → a ≤ b → b ≤ c → Rose b c → Rose a c
rose-on a b c le le' rose few = elim (cases_Bool (nat_lt b (2 ^ 64 - 1))) [
  | inl is ↦ (let lt = rose (ltb-true b (2 ^ 64 - 1) is) in omega arith)
  | inr past ↦ (let ge = ltb-false b (2 ^ 64 - 1) past in omega arith)
]

-- a fault is the same, whatever else might have been answered
pub err-same : {A B E : Type 0} (x y : E) → IsErrOf {T = A} (Err x) y → IsErrOf {T = B} (Err x) y
err-same x y e = let same : x ≡ y = cc in ap Err same

local-any : {A : Type 0} {grammar : Grammar A} → IsLocal grammar → (value : A) (front : List ℕ) (after : Option (List ℕ))
    → IsSpelled grammar value front after → (following : List ℕ) → grammar.Spells value (front ++ following) following
local-any local value front None (rest, s) following = anywhere local value front rest following s
local-any local value front (Some rest) s following = anywhere local value front rest following s

pub no-front : (bits : Option (List ℕ)) → bits ≡ option_map (λ (others : List ℕ). [] ++ others) bits
no-front None = refl
no-front (Some bits) = refl

left-on : (bits middle after : Option (List ℕ)) (f h : List ℕ) → bits ≡ option_map (λ others. f ++ others) middle
    → middle ≡ option_map (λ others. h ++ others) after → bits ≡ option_map (λ others. (f ++ h) ++ others) after
left-on bits middle None f h p q = p ∙ ap (option_map (λ others. f ++ others)) q
left-on bits middle (Some rest) f h p q = p ∙ ap (option_map (λ x. f ++ x)) q ∙ ap Some (sym (append_assoc f h rest))

-- ---- one answer

pub answers-read : {M A S : Type 0} {g : Ghosts S} (grammar : Grammar A) (value : A) (old new : BitReader S g) → Reads grammar value old new
    → KeepsSource old new → Answers M grammar (Ok value) old new
answers-read grammar value old new r keeps = record {
  ok = r;
  refused = tt;
  advances = reads-advances r;
  failed = λ is. absurd (let never = is in cc);
  missing = λ is. absurd (let never = is in cc);
  memory = λ is. absurd (let never = is in cc);
  keeps = keeps;
}

-- a refusal that is told, behind bits that were taken
pub answers-told : {M A S : Type 0} {g : Ghosts S} (grammar : Grammar A) (fault : SliceFault) (said : PlacedRefusal) (old new : BitReader S g) → refusal_told fault ≡ Some said
    → Explains grammar old (Some said) → Advances old new → KeepsSource old new → Answers M grammar (Err fault) old new
answers-told grammar fault said old new told explains advances keeps = record {
  ok = tt;
  refused = subst (Explains grammar old) (sym told) explains;
  advances = advances;
  failed = λ is. absurd (never (Outside Failed) (let e = is in cc) refl);
  missing = λ is. absurd (never (Outside Missing) (let e = is in cc) refl);
  memory = λ is. absurd (never OutOfMemory (let e = is in cc) refl);
  keeps = keeps;
} where
  never : (other : SliceFault) → fault ≡ other → refusal_told other ≡ None → ⊥
  never other is none = let e : Some said ≡ None = sym told ∙ ap refusal_told is ∙ none in cc

-- the answer of another grammar, which spells and refuses what this one does
pub answers-as : {M A B S : Type 0} {g : Ghosts S} (grammar : Grammar A) (other : Grammar B) (made : A → B) (old new : BitReader S g)
    → ((v : A) (bits rest : List ℕ) → grammar.Spells v bits rest → other.Spells (made v) bits rest)
    → ((bits left : List ℕ) (refusal : Refusal) → grammar.Refuses bits refusal left → other.Refuses bits refusal left)
    → (result : Result A SliceFault) → Answers M grammar result old new → Answers M other (answer_as made result) old new
answers-as grammar other made old new spells refuses (Ok value) a = answers-read other (made value) old new (record {
  front = a.ok.front;
  spelled = by_bits (bits_left new) a.ok.spelled;
  left = a.ok.left;
  moved = a.ok.moved;
}) a.keeps where
  by_bits : (after : Option (List ℕ)) → IsSpelled grammar value a.ok.front after → IsSpelled other (made value) a.ok.front after
  by_bits None (rest, s) = (rest, spells value (a.ok.front ++ rest) rest s)
  by_bits (Some rest) s = spells value (a.ok.front ++ rest) rest s
answers-as grammar other made old new spells refuses (Err fault) a = record {
  ok = tt;
  refused = by_bits (bits_left old) (refusal_told fault) a.refused;
  advances = a.advances;
  failed = λ is. a.failed (err-same _ _ is);
  missing = λ is. a.missing (err-same _ _ is);
  memory = λ is. a.memory (err-same _ _ is);
  keeps = a.keeps;
} where
  by_bits : (bits : Option (List ℕ)) (told : Option PlacedRefusal) → IfSome bits (λ b. ExplainsFrom grammar told b (place old)) → IfSome bits (λ b. ExplainsFrom other told b (place old))
  by_bits None told e = tt
  by_bits (Some bits) None e = tt
  by_bits (Some bits) (Some said) r = record { front = r.front; left = r.left; split = r.split; refused = refuses bits r.left said.refusal r.refused; moved = r.moved }

-- where something stands it is there
pub answers-some : {M A S : Type 0} {g : Ghosts S} (grammar : Grammar A) (old new : BitReader S g) (stands : Bool) → stands ≡ true → (result : Result A SliceFault)
    → Answers M grammar result old new → Answers M (optional stands grammar) (answer_as Some result) old new
answers-some {M} grammar old new stands e result a =
    subst (λ (b : Bool). Answers M (optional b grammar) (answer_as Some result) old new) (sym e)
    (answers-as grammar (optional true grammar) Some old new (λ v bits rest s. (v, rest, s, (refl, refl))) (λ bits left refusal r. inl r) result a)

-- ... also where its value isn't kept
pub answers-there : {M A T S : Type 0} {g : Ghosts S} (grammar : Grammar A) (value : A) (old new : BitReader S g) (stands : Bool) → stands ≡ true → (result : Result T SliceFault)
    → Answers M grammar (answer_as (λ _. value) result) old new → Answers M (optional stands grammar) (answer_as (λ _. if stands then Some value else None) result) old new
answers-there {M} grammar value old new stands e (Ok x) a =
    subst (λ (b : Bool). Answers M (optional b grammar) (Ok (if b then Some value else None)) old new) (sym e) (answers-some grammar old new true refl (Ok value) a)
answers-there {M} grammar value old new stands e (Err fault) a = answers-some grammar old new stands e (Err fault) a

-- ---- several answers, one behind the other

pub course-start : {A S : Type 0} {g : Ghosts S} (whole : Grammar A) (reader : BitReader S g) → KeepsSource reader reader → Course whole whole reader reader
course-start whole reader keeps = record {
  front = [];
  left = no-front (bits_left reader);
  moved = omega arith;
  spelled = λ value middle after s. s;
  refused = λ refusal middle others r. r;
  keeps = keeps;
}

pub course-advances : {A S : Type 0} {g : Ghosts S} {whole rest : Grammar A} {old now : BitReader S g} → Course whole rest old now → Advances old now
course-advances c = record { front = c.front; left = c.left; moved = c.moved }

pub course-on : {A B S : Type 0} {g : Ghosts S} {whole : Grammar B} {old middle new : BitReader S g}
    → ((x y z : S) → g.keeps x y → g.keeps y z → g.keeps x z) → (first : Grammar A) (next : A → Grammar B) → IsLocal first → {a : A}
    → Course whole (first >>= next) old middle → {M : Type 0} → Answers M first (Ok a) middle new → Course whole (next a) old new
course-on {whole = whole} {old = old} {middle = m} {new = new} keeps_on first next local {a} c answer =
    let r = answer.ok in
    record {
      front = c.front ++ r.front;
      left = left-on (bits_left old) (bits_left m) (bits_left new) c.front r.front c.left r.left;
      moved = omega (arith, c.moved, r.moved, length-append c.front r.front);
      spelled = λ value middle after s. subst (λ bits. whole.Spells value bits after) (sym (append_assoc c.front r.front middle))
          (c.spelled value (r.front ++ middle) after (a, middle, local-any local a r.front (bits_left new) r.spelled middle, s));
      refused = λ refusal middle others s. subst (λ bits. whole.Refuses bits refusal others) (sym (append_assoc c.front r.front middle))
          (c.refused refusal (r.front ++ middle) others (inr (a, middle, local-any local a r.front (bits_left new) r.spelled middle, s)));
      keeps = keeps_then keeps_on c.keeps answer.keeps;
    }

refused-told : {A : Type 0} (whole rest : Grammar A) (told : Option PlacedRefusal) (bits middle : Option (List ℕ)) (at at_middle : ℕ) (front : List ℕ)
    → bits ≡ option_map (λ others. front ++ others) middle → at_middle ≡ at + length front
    → ((refusal : Refusal) (middle others : List ℕ) → rest.Refuses middle refusal others → whole.Refuses (front ++ middle) refusal others)
    → IfSome middle (λ b. ExplainsFrom rest told b at_middle) → IfSome bits (λ b. ExplainsFrom whole told b at)
refused-told whole rest told bits None at at_middle front left moved refused e = subst (λ o. IfSome o (λ b. ExplainsFrom whole told b at)) (sym left) tt
refused-told whole rest None bits (Some middle) at at_middle front left moved refused e = subst (λ o. IfSome o (λ b. ExplainsFrom whole None b at)) (sym left) tt
refused-told whole rest (Some said) bits (Some middle) at at_middle front left moved refused r =
    subst (λ o. IfSome o (λ b. ExplainsFrom whole (Some said) b at)) (sym left) (record {
      front = front ++ r.front;
      left = r.left;
      split = ap (λ x. front ++ x) r.split ∙ sym (append_assoc front r.front r.left);
      refused = refused said.refusal middle r.left r.refused;
      moved = omega (arith, r.moved, moved, length-append front r.front);
    })

pub course-explains : {A S : Type 0} {g : Ghosts S} {whole rest : Grammar A} {old middle : BitReader S g} (told : Option PlacedRefusal)
    → Course whole rest old middle → Explains rest middle told → Explains whole old told
course-explains {whole = whole} {rest = rest} {old = old} {middle = middle} told c e = refused-told whole rest told (bits_left old) (bits_left middle)
    (place old) (place middle) c.front c.left c.moved c.refused e

-- a part that isn't answered ends the whole
pub course-fails : {A S : Type 0} {g : Ghosts S} {whole rest : Grammar A} {old middle new : BitReader S g}
    → ((x y z : S) → g.keeps x y → g.keeps y z → g.keeps x z) → {M N : Type 0} → (M → N) → {fault : SliceFault}
    → Course whole rest old middle → Answers M rest (Err fault) middle new → Answers N whole (Err fault) old new
course-fails {old = old} {middle = middle} {new = new} keeps_on may {fault} c a = record {
  ok = tt;
  refused = course-explains (refusal_told fault) c a.refused;
  advances = advances-on (course-advances c) a.advances;
  failed = λ is. rose-on (faults_of old) (faults_of middle) (faults_of new) c.keeps.faults a.keeps.faults (a.failed (err-same _ _ is));
  missing = λ is. rose-on (absences_of old) (absences_of middle) (absences_of new) c.keeps.absences a.keeps.absences (a.missing (err-same _ _ is));
  memory = λ is. may (a.memory (err-same _ _ is));
  keeps = keeps_then keeps_on c.keeps a.keeps;
}

pub answers-first : {A B S : Type 0} {g : Ghosts S} {M : Type 0} {old new : BitReader S g} (first : Grammar A) (next : A → Grammar B)
    {fault : SliceFault} → Answers M first (Err fault) old new → Answers M (first >>= next) (Err fault) old new
answers-first {old = old} first next {fault} a = record {
  ok = tt;
  refused = explains-first first next (refusal_told fault) (bits_left old) (place old) a.refused;
  advances = a.advances;
  failed = λ is. a.failed (err-same _ _ is);
  missing = λ is. a.missing (err-same _ _ is);
  memory = λ is. a.memory (err-same _ _ is);
  keeps = a.keeps;
}

pub course-err : {A B S : Type 0} {g : Ghosts S} {whole : Grammar B} {old middle new : BitReader S g}
    → ((x y z : S) → g.keeps x y → g.keeps y z → g.keeps x z) → (first : Grammar A) (next : A → Grammar B) → {M : Type 0} {fault : SliceFault}
    → Course whole (first >>= next) old middle → Answers M first (Err fault) middle new → Answers M whole (Err fault) old new
course-err keeps_on first next c a = course-fails keeps_on (λ m. m) c (answers-first first next a)

-- the whole is read once nothing is left of it
pub course-end : {M A S : Type 0} {g : Ghosts S} (whole : Grammar A) (value : A) {old new : BitReader S g} → Course whole (done value) old new → Answers M whole (Ok value) old new
course-end whole value {old} {new} c = answers-read whole value old new (record {
  front = c.front;
  spelled = by_bits (bits_left new);
  left = c.left;
  moved = c.moved;
}) c.keeps where
  by_bits : (after : Option (List ℕ)) → IsSpelled whole value c.front after
  by_bits None = ([], c.spelled value [] [] (refl, refl))
  by_bits (Some rest) = c.spelled value rest rest (refl, refl)

-- the last part is answered as it is
pub course-last : {M A B S : Type 0} {g : Ghosts S} {whole : Grammar B} {old middle new : BitReader S g}
    → ((x y z : S) → g.keeps x y → g.keeps y z → g.keeps x z) → (last : Grammar A) (made : A → B) → IsLocal last → (result : Result A SliceFault)
    → Course whole (last >>= λ v. done (made v)) old middle → Answers M last result middle new → Answers M whole (answer_as made result) old new
course-last {whole = whole} keeps_on last made local (Ok value) c a = course-end whole (made value) (course-on keeps_on last (λ v. done (made v)) local c a)
course-last keeps_on last made local (Err fault) c a = course-err keeps_on last (λ v. done (made v)) c a

-- ... also where nothing is made of it
pub course-rest : {M A S : Type 0} {g : Ghosts S} {whole rest : Grammar A} {old middle new : BitReader S g} → ((x y z : S) → g.keeps x y → g.keeps y z → g.keeps x z) → (result : Result A SliceFault)
    → Course whole rest old middle → Answers M rest result middle new → Answers M whole result old new
course-rest {whole = whole} {rest = rest} {old = old} {middle = m} {new = new} keeps_on (Ok value) c a =
    answers-read whole value old new (record {
      front = c.front ++ a.ok.front;
      spelled = by_bits (bits_left new) a.ok.spelled;
      left = left-on (bits_left old) (bits_left m) (bits_left new) c.front a.ok.front c.left a.ok.left;
      moved = omega (arith, c.moved, a.ok.moved, length-append c.front a.ok.front);
    }) (keeps_then keeps_on c.keeps a.keeps) where
      by_bits : (after : Option (List ℕ)) → IsSpelled rest value a.ok.front after → IsSpelled whole value (c.front ++ a.ok.front) after
      by_bits None (others, s) = (others, subst (λ b. whole.Spells value b others) (sym (append_assoc c.front a.ok.front others)) (c.spelled value (a.ok.front ++ others) others s))
      by_bits (Some others) s = subst (λ b. whole.Spells value b others) (sym (append_assoc c.front a.ok.front others)) (c.spelled value (a.ok.front ++ others) others s)
course-rest keeps_on (Err fault) c a = course-fails keeps_on (λ m. m) c a
