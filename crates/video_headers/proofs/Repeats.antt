-- Items read one at a time, so many of them.
use Rattle.std.proofs.Common.{◌≡◌, ◌<◌, ℕ, zero, suc, List, [], ◌∷◌, ◌++◌, length, Result, Ok, Err, IsErrAnd, refl, sym, ap, subst, inl, inr, arith}
use Rattle.std.proofs.lemmas.List.{length-append}
use Rattle.shelf_io.specs.declared.source.Source.{Ghosts}
use Rattle.bit_cursor.specs.declared.bit_reader.BitReader.{BitReader}
use Rattle.picture_grammar.specs.Refusal.{Refusal}
use Rattle.picture_grammar.specs.Grammar.{Grammar, repeated}
use Rattle.video_headers.specs.declared.fault.HeadFault.{HeadFault}
use Rattle.video_headers.specs.Private.Reading.{Goes, Answers}
use Rattle.video_headers.proofs.Reading.{joined, joined_exit, answers-done}

module _ {A : Type 0} (item : Grammar A) where
  more-spelled : (vs : List A) (v : A) (bits m rest : List ℕ) → (repeated (length vs) item).Spells vs bits m → item.Spells v m rest → (repeated (suc (length vs)) item).Spells (vs ++ v ∷ []) bits rest
  more-spelled [] v bits m rest (e, e') s = (v, rest, subst (λ (b : List ℕ). item.Spells v b rest) (sym e') s, ([], rest, (refl, refl), (refl, refl)))
  more-spelled (w ∷ ws) v bits m rest (x, m1, s, (xs, m2, t, (e, e'))) u =
      let first : w ≡ x = cc in
      let others : xs ≡ ws = cc in
      let t' = subst (λ (b : List ℕ). (repeated (length ws) item).Spells ws m1 b) e' (subst (λ (ys : List A). (repeated (length ws) item).Spells ys m1 m2) others t) in
      (x, m1, s, (ws ++ v ∷ [], rest, more-spelled ws v m1 m rest t' u, (ap (λ (y : A). y ∷ (ws ++ v ∷ [])) first, refl)))

  later-refused : (vs : List A) (n : ℕ) (bits m left : List ℕ) (r : Refusal) → length vs < n → (repeated (length vs) item).Spells vs bits m
      → item.Refuses m r left → (repeated n item).Refuses bits r left
  later-refused vs zero bits m left r lt s u = absurd (omega arith)
  later-refused [] (suc n) bits m left r lt (e, e') u = inl (subst (λ (b : List ℕ). item.Refuses b r left) (sym e') u)
  later-refused (w ∷ ws) (suc n) bits m left r lt (x, m1, s, (xs, m2, t, (e, e'))) u =
      let others : xs ≡ ws = cc in
      let t' = subst (λ (b : List ℕ). (repeated (length ws) item).Spells ws m1 b) e' (subst (λ (ys : List A). (repeated (length ws) item).Spells ys m1 m2) others t) in
      let lt' : length ws < n = omega (arith, lt) in
      inr (x, m1, s, inl (later-refused ws n m1 m left r lt' t' u))

module _ {A : Type 0} (item : Grammar A) {S : Type 0} {g : Ghosts S} (keeps_on : (x y z : S) → g.keeps x y → g.keeps y z → g.keeps x z)
    {from middle to : ℕ → List ℕ → Type 0} {old mid new : BitReader S g} where
  pub answers-more : (vs : List A) (v : A) → Answers (repeated (length vs) item) (λ (x : List A). x) (Ok vs) from (λ _. middle) old mid → Answers item (λ (x : A). x) (Ok v) middle (λ _. to) mid new
      → Answers (repeated (suc (length vs)) item) (λ (x : List A). x) (Ok (vs ++ v ∷ [])) from (λ _. to) old new
  answers-more vs v a b = joined keeps_on vs v (vs ++ v ∷ []) (λ bits m rest s t. more-spelled item vs v bits m rest s t) a b refl refl refl

  pub answers-no_more : {W : Type 0} (vs : List A) (n : ℕ) → length vs < n
      → {value : W → List A} {last : W → ℕ → List ℕ → Type 0} {e : HeadFault} (result : Result W HeadFault) → IsErrAnd result (λ f. f ≡ e)
      → Answers (repeated (length vs) item) (λ (x : List A). x) (Ok vs) from (λ _. middle) old mid → Answers item (λ (x : A). x) (Err e) middle (λ _. to) mid new
      → Answers (repeated n item) value result from last old new
  answers-no_more vs n lt result is a b = joined_exit keeps_on vs result is (λ bits m left r s u. later-refused item vs n bits m left r lt s u) a b refl

module _ {A : Type 0} (item : Grammar A) {S : Type 0} {g : Ghosts S} {from to : ℕ → List ℕ → Type 0} {old new : BitReader S g} where
  pub answers-all : {W : Type 0} {make : W → List A} (vs : List A) (n : ℕ) (w : W) → length vs ≡ n → make w ≡ vs
      → Answers (repeated (length vs) item) (λ (x : List A). x) (Ok vs) from (λ _. to) old new
      → Answers (repeated n item) make (Ok w) from (λ _. to) old new
  answers-all {make = make} vs n w count is a = record {
    gives = subst (λ (k : ℕ). Goes (repeated k item) (make w) from to) count (subst (λ (x : List A). Goes (repeated (length vs) item) x from to) (sym is) a.gives);
    runs = a.runs;
    failed = λ is. cc;
    missing = λ is. cc;
  }

  pub answers-pushed : (vs ws : List A) (v : A) → ws ≡ vs ++ v ∷ [] → Answers (repeated (suc (length vs)) item) (λ (x : List A). x) (Ok (vs ++ v ∷ [])) from (λ _. to) old new
      → Answers (repeated (length ws) item) (λ (x : List A). x) (Ok ws) from (λ _. to) old new
  answers-pushed vs ws v is a =
      let count : suc (length vs) ≡ length ws = omega (arith, ap length is, length-append vs (v ∷ [])) in
      subst (λ (x : List A). Answers (repeated (length ws) item) (λ (x : List A). x) (Ok x) from (λ _. to) old new) (sym is)
      (subst (λ (k : ℕ). Answers (repeated k item) (λ (x : List A). x) (Ok (vs ++ v ∷ [])) from (λ _. to) old new) count a)

pub repeats-none : {A : Type 0} (item : Grammar A) (vs : List A) {S : Type 0} {g : Ghosts S} {from : ℕ → List ℕ → Type 0} (reader : BitReader S g) → ((x : S) → g.keeps x x) → vs ≡ []
    → Answers (repeated (length vs) item) (λ (x : List A). x) (Ok vs) from (λ _. from) reader reader
repeats-none {A} item vs {from = from} reader itself is =
    subst (λ (x : List A). Answers (repeated (length x) item) (λ (x : List A). x) (Ok x) from (λ _. from) reader reader) (sym is) (answers-done [] [] reader itself refl)
