-- Each way to put grammars together keeps what the bits decide.
use Rattle.std.proofs.Common.{◌≡◌, ℕ, zero, suc, List, [], ◌∷◌, ◌++◌, Some, None, Bool, true, false, refl, sym, ap, ap₂, subst, ◌∙◌, inl, inr, append_assoc}
use Rattle.std.proofs.lemmas.List.{append_cancel_right}
use Rattle.bit_lists.specs.Fields.{bit_list}
use Rattle.bit_lists.proofs.PrefixLemmas.{bit_list-same}
use Rattle.picture_grammar.specs.Refusal.{Refusal}
use Rattle.picture_grammar.specs.Grammar.{Grammar, done, ◌>>=◌, ◌>>◌, optional, when, if_next, at_bits, ahead, repeated, each, many, one_item_more, SpellsList, RefusesAfter, Next, with_spelling}
use Rattle.picture_grammar.specs.Grammar.Next.{more, last}
use Rattle.picture_grammar.specs.Exact.{IsExact, EndsWith}

-- ---- one thing behind another

pub exact-done : {A : Type 0} (value : A) → IsExact (done value)
exact-done value = record {
  one_value = λ v w bits rest other s t. (s.0 ∙ sym t.0, sym s.1 ∙ t.1);
  not_both = λ v bits rest left refusal s r. r;
  one_refusal = λ bits left other r s p q. absurd p;
  spelled_front = λ v bits rest s. ([], s.1);
  refused_front = λ bits left refusal r. absurd r;
}

-- what ends with something that ends with these ends with these
pub EndsWith-through : (bits middle rest : List ℕ) → EndsWith bits middle → EndsWith middle rest → EndsWith bits rest
EndsWith-through bits middle rest (f, p) (g, q) = (f ++ g, p ∙ ap (λ m. f ++ m) q ∙ sym (append_assoc f g rest))

-- a fact about a value and the bits behind it, at equal ones
pub moved : {A : Type 0} (P : A → List ℕ → Type 0) (a b : A) (middle other : List ℕ) → (a ≡ b) × (middle ≡ other) → P a middle → P b other
moved P a b middle other same p = subst (λ bits. P b bits) same.1 (subst (λ x. P x middle) same.0 p)

module _ {A B : Type 0} (first : Grammar A) (next : A → Grammar B) (exact : IsExact first) (each_next : (a : A) → IsExact (next a)) where
  bind_both : (v : B) (bits rest left : List ℕ) (refusal : Refusal) → (first >>= next).Spells v bits rest → (first >>= next).Refuses bits refusal left → ⊥
  bind_both v bits rest left refusal (a, middle, s, t) (inl r) = exact.not_both a bits middle left refusal s r
  bind_both v bits rest left refusal (a, middle, s, t) (inr (b, middle', s', r)) =
      (each_next b).not_both v middle' rest left refusal
      (moved (λ x m. (next x).Spells v m rest) a b middle middle' (exact.one_value a b bits middle middle' s s') t) r

  bind_refusal : (bits left other : List ℕ) (r s : Refusal) → (first >>= next).Refuses bits r left → (first >>= next).Refuses bits s other → (r ≡ s) × (left ≡ other)
  bind_refusal bits left other r s (inl p) (inl q) = exact.one_refusal bits left other r s p q
  bind_refusal bits left other r s (inl p) (inr (b, middle, t, q)) = absurd (exact.not_both b bits middle left r t p)
  bind_refusal bits left other r s (inr (a, middle, t, p)) (inl q) = absurd (exact.not_both a bits middle other s t q)
  bind_refusal bits left other r s (inr (a, middle, t, p)) (inr (b, middle', t', q)) =
      (each_next b).one_refusal middle' left other r s
      (moved (λ x m. (next x).Refuses m r left) a b middle middle' (exact.one_value a b bits middle middle' t t') p) q

  bind_front : (bits left : List ℕ) (refusal : Refusal) → (first >>= next).Refuses bits refusal left → EndsWith bits left
  bind_front bits left refusal (inl r) = exact.refused_front bits left refusal r
  bind_front bits left refusal (inr (a, middle, s, r)) =
      EndsWith-through bits middle left (exact.spelled_front a bits middle s) ((each_next a).refused_front middle left refusal r)

  pub exact-bind : IsExact (first >>= next)
  exact-bind = record {
    one_value = λ v w bits rest other (a, middle, s, t) (b, middle', s', t').
        (each_next b).one_value v w middle' rest other
        (moved (λ x m. (next x).Spells v m rest) a b middle middle' (exact.one_value a b bits middle middle' s s') t) t';
    not_both = bind_both;
    one_refusal = bind_refusal;
    spelled_front = λ v bits rest (a, middle, s, t). EndsWith-through bits middle rest (exact.spelled_front a bits middle s) ((each_next a).spelled_front v middle rest t);
    refused_front = bind_front;
  }

pub exact-then : {A B : Type 0} (first : Grammar A) (next : Grammar B) → IsExact first → IsExact next → IsExact (first >> next)
exact-then first next exact then = exact-bind first (λ _. next) exact (λ _. then)

-- ---- what stands in some cases only

pub exact-optional : {A : Type 0} (test : Bool) (grammar : Grammar A) → IsExact grammar → IsExact (optional test grammar)
exact-optional true grammar exact = exact-bind grammar (λ value. done (Some value)) exact (λ value. exact-done (Some value))
exact-optional false grammar exact = exact-done None

pub exact-when : {A : Type 0} (test : Bool) (grammar : Grammar A) (absent : A) → IsExact grammar → IsExact (when test grammar absent)
exact-when true grammar absent exact = exact
exact-when false grammar absent exact = exact-done absent

module _ {A : Type 0} (IsSuch : List ℕ → Type 0) (then else : Grammar A) (exact : IsExact then) (other_exact : IsExact else) where
  if_value : (v w : A) (bits rest other : List ℕ) → (if_next IsSuch then else).Spells v bits rest → (if_next IsSuch then else).Spells w bits other → (v ≡ w) × (rest ≡ other)
  if_value v w bits rest other (inl (c, s)) (inl (d, t)) = exact.one_value v w bits rest other s t
  if_value v w bits rest other (inl (c, s)) (inr (d, t)) = absurd (d c)
  if_value v w bits rest other (inr (c, s)) (inl (d, t)) = absurd (c d)
  if_value v w bits rest other (inr (c, s)) (inr (d, t)) = other_exact.one_value v w bits rest other s t

  if_both : (v : A) (bits rest left : List ℕ) (refusal : Refusal) → (if_next IsSuch then else).Spells v bits rest → (if_next IsSuch then else).Refuses bits refusal left → ⊥
  if_both v bits rest left refusal (inl (c, s)) (inl (d, t)) = exact.not_both v bits rest left refusal s t
  if_both v bits rest left refusal (inl (c, s)) (inr (d, t)) = d c
  if_both v bits rest left refusal (inr (c, s)) (inl (d, t)) = c d
  if_both v bits rest left refusal (inr (c, s)) (inr (d, t)) = other_exact.not_both v bits rest left refusal s t

  if_refusal : (bits left other : List ℕ) (r s : Refusal) → (if_next IsSuch then else).Refuses bits r left → (if_next IsSuch then else).Refuses bits s other → (r ≡ s) × (left ≡ other)
  if_refusal bits left other r s (inl (c, p)) (inl (d, q)) = exact.one_refusal bits left other r s p q
  if_refusal bits left other r s (inl (c, p)) (inr (d, q)) = absurd (d c)
  if_refusal bits left other r s (inr (c, p)) (inl (d, q)) = absurd (c d)
  if_refusal bits left other r s (inr (c, p)) (inr (d, q)) = other_exact.one_refusal bits left other r s p q

  if_spelled : (v : A) (bits rest : List ℕ) → (if_next IsSuch then else).Spells v bits rest → EndsWith bits rest
  if_spelled v bits rest (inl (c, s)) = exact.spelled_front v bits rest s
  if_spelled v bits rest (inr (c, s)) = other_exact.spelled_front v bits rest s

  if_refused : (bits left : List ℕ) (refusal : Refusal) → (if_next IsSuch then else).Refuses bits refusal left → EndsWith bits left
  if_refused bits left refusal (inl (c, r)) = exact.refused_front bits left refusal r
  if_refused bits left refusal (inr (c, r)) = other_exact.refused_front bits left refusal r

  pub exact-if_next : IsExact (if_next IsSuch then else)
  exact-if_next = record { one_value = if_value; not_both = if_both; one_refusal = if_refusal; spelled_front = if_spelled; refused_front = if_refused }

pub exact-at_bits : {A : Type 0} (grammar : List ℕ → Grammar A) → ((bits : List ℕ) → IsExact (grammar bits)) → IsExact (at_bits grammar)
exact-at_bits grammar exact = record {
  one_value = λ v w bits. (exact bits).one_value v w bits;
  not_both = λ v bits. (exact bits).not_both v bits;
  one_refusal = λ bits. (exact bits).one_refusal bits;
  spelled_front = λ v bits. (exact bits).spelled_front v bits;
  refused_front = λ bits. (exact bits).refused_front bits;
}

pub exact-ahead : {A : Type 0} (grammar : Grammar A) → IsExact grammar → IsExact (ahead grammar)
exact-ahead grammar exact = record {
  one_value = λ v w bits rest other (e, after, s) (d, after', t). ((exact.one_value v w bits after after' s t).0, sym e ∙ d);
  not_both = λ v bits rest left refusal (e, after, s) r. exact.not_both v bits after left refusal s r;
  one_refusal = exact.one_refusal;
  spelled_front = λ v bits rest s. ([], s.0);
  refused_front = exact.refused_front;
}

-- ---- what stands several times

pub exact-repeated : {A : Type 0} (n : ℕ) (grammar : Grammar A) → IsExact grammar → IsExact (repeated n grammar)
exact-repeated zero grammar exact = exact-done []
exact-repeated (suc n) grammar exact =
    exact-bind grammar (λ value. repeated n grammar >>= λ values. done (value ∷ values)) exact
    (λ value. exact-bind (repeated n grammar) (λ values. done (value ∷ values)) (exact-repeated n grammar exact) (λ values. exact-done (value ∷ values)))

pub exact-each : {I A : Type 0} (is : List I) (grammar : I → Grammar A) → ((i : I) → IsExact (grammar i)) → IsExact (each is grammar)
exact-each [] grammar exact = exact-done []
exact-each (i ∷ is) grammar exact =
    exact-bind (grammar i) (λ value. each is grammar >>= λ values. done (value ∷ values)) (exact i)
    (λ value. exact-bind (each is grammar) (λ values. done (value ∷ values)) (exact-each is grammar exact) (λ values. exact-done (value ∷ values)))

pub exact-one_more : {A B : Type 0} (grammar : Grammar A) → IsExact grammar → IsExact (one_item_more {A = A} {B = B} grammar)
exact-one_more {A} {B} grammar exact =
    let another : A → Grammar (Next A B) = λ value. done (more value) in
    exact-bind grammar another exact (λ value. exact-done (more value))

module _ {A B : Type 0} (next : List A → Grammar (Next A B)) (exact : (before : List A) → IsExact (next before)) where
  list_value : (before values others : List A) (end end' : B) (bits rest other : List ℕ) → SpellsList next before values end bits rest
      → SpellsList next before others end' bits other → (values ≡ others) × (end ≡ end') × (rest ≡ other)
  list_value before [] [] end end' bits rest other s t =
      let same = (exact before).one_value (last end) (last end') bits rest other s t in
      (refl, (let e = same.0 in cc), same.1)
  list_value before [] (w ∷ ws) end end' bits rest other s (middle, t, t') =
      absurd (let same = (exact before).one_value (last end) (more w) bits rest middle s t in let e = same.0 in cc)
  list_value before (v ∷ vs) [] end end' bits rest other (middle, s, s') t =
      absurd (let same = (exact before).one_value (more v) (last end') bits middle other s t in let e = same.0 in cc)
  list_value before (v ∷ vs) (w ∷ ws) end end' bits rest other (middle, s, s') (middle', t, t') =
      let same = (exact before).one_value (more v) (more w) bits middle middle' s t in
      let value : v ≡ w = (let e = same.0 in cc) in
      let later = list_value (before ++ w ∷ []) vs ws end end' middle' rest other (moved (λ x m. SpellsList next (before ++ x ∷ []) vs end m rest) v w middle middle' (value, same.1) s') t' in
      (ap₂ (λ x xs. x ∷ xs) value later.0, later.1, later.2)

  list_both : (before values others : List A) (end : B) (bits rest left : List ℕ) (refusal : Refusal) → SpellsList next before values end bits rest
      → RefusesAfter next before others bits refusal left → ⊥
  list_both before [] [] end bits rest left refusal s r = (exact before).not_both (last end) bits rest left refusal s r
  list_both before [] (w ∷ ws) end bits rest left refusal s (middle, t, r) =
      let same = (exact before).one_value (last end) (more w) bits rest middle s t in let e = same.0 in cc
  list_both before (v ∷ vs) [] end bits rest left refusal (middle, s, s') r = (exact before).not_both (more v) bits middle left refusal s r
  list_both before (v ∷ vs) (w ∷ ws) end bits rest left refusal (middle, s, s') (middle', t, r) =
      let same = (exact before).one_value (more v) (more w) bits middle middle' s t in
      let value : v ≡ w = (let e = same.0 in cc) in
      list_both (before ++ w ∷ []) vs ws end middle' rest left refusal (moved (λ x m. SpellsList next (before ++ x ∷ []) vs end m rest) v w middle middle' (value, same.1) s') r

  list_refusal : (before values others : List A) (bits left other : List ℕ) (r s : Refusal) → RefusesAfter next before values bits r left
      → RefusesAfter next before others bits s other → (r ≡ s) × (left ≡ other)
  list_refusal before [] [] bits left other r s p q = (exact before).one_refusal bits left other r s p q
  list_refusal before [] (w ∷ ws) bits left other r s p (middle, t, q) = absurd ((exact before).not_both (more w) bits middle left r t p)
  list_refusal before (v ∷ vs) [] bits left other r s (middle, t, p) q = absurd ((exact before).not_both (more v) bits middle other s t q)
  list_refusal before (v ∷ vs) (w ∷ ws) bits left other r s (middle, t, p) (middle', t', q) =
      let same = (exact before).one_value (more v) (more w) bits middle middle' t t' in
      let value : v ≡ w = (let e = same.0 in cc) in
      list_refusal (before ++ w ∷ []) vs ws middle' left other r s (moved (λ x m. RefusesAfter next (before ++ x ∷ []) vs m r left) v w middle middle' (value, same.1) p) q

  list_spelled : (before values : List A) (end : B) (bits rest : List ℕ) → SpellsList next before values end bits rest → EndsWith bits rest
  list_spelled before [] end bits rest s = (exact before).spelled_front (last end) bits rest s
  list_spelled before (v ∷ vs) end bits rest (middle, s, t) =
      EndsWith-through bits middle rest ((exact before).spelled_front (more v) bits middle s) (list_spelled (before ++ v ∷ []) vs end middle rest t)

  list_refused : (before values : List A) (bits left : List ℕ) (refusal : Refusal) → RefusesAfter next before values bits refusal left → EndsWith bits left
  list_refused before [] bits left refusal r = (exact before).refused_front bits left refusal r
  list_refused before (v ∷ vs) bits left refusal (middle, s, r) =
      EndsWith-through bits middle left ((exact before).spelled_front (more v) bits middle s) (list_refused (before ++ v ∷ []) vs middle left refusal r)

  pub exact-many : IsExact (many next)
  exact-many = record {
    one_value = λ v w bits rest other s t.
        let same = list_value [] v.0 w.0 v.1 w.1 bits rest other s t in
        (ap₂ (λ (x : List A) (y : B). (x, y)) same.0 same.1, same.2);
    not_both = λ v bits rest left refusal s (values, r). list_both [] v.0 values v.1 bits rest left refusal s r;
    one_refusal = λ bits left other r s (values, p) (others, q). list_refusal [] values others bits left other r s p q;
    spelled_front = λ v bits rest s. list_spelled [] v.0 v.1 bits rest s;
    refused_front = λ bits left refusal (values, r). list_refused [] values bits left refusal r;
  }

-- ---- bytes

pub exact-with_bytes : {A : Type 0} (grammar : Grammar A) → IsExact grammar → IsExact (with_spelling grammar)
exact-with_bytes {A} grammar exact = record {
  one_value = λ v w bits rest other (s, are, p) (t, are', q).
      let same = exact.one_value v.0 w.0 bits rest other s t in
      let bytes : bit_list v.1 ++ rest ≡ bit_list w.1 ++ rest = sym p ∙ q ∙ ap (λ r. bit_list w.1 ++ r) (sym same.1) in
      let taken : v.1 ≡ w.1 = bit_list-same v.1 w.1 are are' (append_cancel_right (bit_list v.1) (bit_list w.1) rest bytes) in
      (ap₂ (λ (x : A) (y : List ℕ). (x, y)) same.0 taken, same.1);
  not_both = λ v bits rest left refusal (s, are, p) r. exact.not_both v.0 bits rest left refusal s r;
  one_refusal = exact.one_refusal;
  spelled_front = λ v bits rest (s, are, p). exact.spelled_front v.0 bits rest s;
  refused_front = exact.refused_front;
}
