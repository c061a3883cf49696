-- Where bytes are refused as the beginning of texts, one behind the other.
use Rattle.std.proofs.Common.{◌≡◌, ℕ, zero, suc, ◌+◌, ◌<◌, ◌≤◌, List, [], ◌∷◌, ◌++◌, length, get_or, drop, refl, sym, ap, ap₂, subst, ◌∙◌, arith, length-append, append_assoc, ◌⊎◌, inl, inr}
use Rattle.std.proofs.lemmas.Bool.{cases_lt}
use Rattle.std.proofs.lemmas.List.{append-nil}
use Rattle.bit_lists.specs.Fields.{AreBytes}
use Rattle.bound_certificate.specs.declared.fault.Stop.{Stop}
use Rattle.bound_certificate.specs.declared.fault.Stop.TheVariants.{At, OutOfMemory}
use Rattle.bound_certificate.specs.Private.Texts.{Then, AreTexts, IsRefused, IsStop}

-- ---- lists of bytes that are one

-- a front that is no longer begins the other one
pub longer : (a b c d : List ℕ) → a ++ b ≡ c ++ d → length a ≤ length c → (w : List ℕ) × (c ≡ a ++ w) × (b ≡ w ++ d)
longer [] b c d same few = (c, refl, same)
longer (x ∷ a) b [] d same few = absurd (omega (arith, few))
longer (x ∷ a) b (y ∷ c) d same few =
    let first : x ≡ y = ap (λ (xs : List ℕ). get_or xs 0 0) same in
    let others : a ++ b ≡ c ++ d = ap (λ (xs : List ℕ). drop 1 xs) same in
    let rest = longer a b c d others (omega (arith, few)) in
    (rest.0, ap₂ (λ (z : ℕ) (zs : List ℕ). z ∷ zs) (sym first) rest.1, rest.2)

pub same_parts : (a b c d : List ℕ) → a ++ b ≡ c ++ d → length a ≡ length c → (a ≡ c) × (b ≡ d)
same_parts [] b [] d same size = (refl, same)
same_parts [] b (y ∷ c) d same size = absurd (omega (arith, size))
same_parts (x ∷ a) b [] d same size = absurd (omega (arith, size))
same_parts (x ∷ a) b (y ∷ c) d same size =
    let first : x ≡ y = ap (λ (xs : List ℕ). get_or xs 0 0) same in
    let others : a ++ b ≡ c ++ d = ap (λ (xs : List ℕ). drop 1 xs) same in
    let rest = same_parts a b c d others (omega (arith, size)) in
    (ap₂ (λ (z : ℕ) (zs : List ℕ). z ∷ zs) first rest.0, rest.1)

pub are_bytes_behind : (xs ys : List ℕ) → AreBytes (xs ++ ys) → AreBytes ys
are_bytes_behind [] ys are = are
are_bytes_behind (x ∷ xs) ys are = are_bytes_behind xs ys are.1

pub are_bytes_front : (xs ys : List ℕ) → AreBytes (xs ++ ys) → AreBytes xs
are_bytes_front [] ys are = tt
are_bytes_front (x ∷ xs) ys are = (are.0, are_bytes_front xs ys are.1)

-- ---- texts that tell where they end

abbrev pub Ends : (List ℕ → Type 0) → Type 0
Ends text = (a b s t : List ℕ) → a ++ s ≡ b ++ t → text a → text b → length a ≡ length b

pub ends_then : (first : List ℕ → Type 0) (second : List ℕ → List ℕ → Type 0) → Ends first → ((x : List ℕ) → first x → Ends (second x)) → Ends (Then first second)
ends_then first second ends behind a b s t same x y =
    let whole : x.front ++ (x.behind ++ s) ≡ y.front ++ (y.behind ++ t) =
    sym (append_assoc x.front x.behind s) ∙ ap (λ (xs : List ℕ). xs ++ s) (sym x.joined) ∙ same ∙ ap (λ (xs : List ℕ). xs ++ t) y.joined ∙ append_assoc y.front y.behind t in
    let size : length x.front ≡ length y.front = ends x.front y.front (x.behind ++ s) (y.behind ++ t) whole x.first_is y.first_is in
    let parts = same_parts x.front (x.behind ++ s) y.front (y.behind ++ t) whole size in
    let rest : length x.behind ≡ length y.behind =
    behind x.front x.first_is x.behind y.behind s t parts.1 x.second_is (subst (λ (front : List ℕ). second front y.behind) (sym parts.0) y.second_is) in
    omega (arith, size, rest, ap length x.joined, ap length y.joined, length-append x.front x.behind, length-append y.front y.behind)

pub ends_texts : (n : ℕ) (text : List ℕ → Type 0) → Ends text → Ends (AreTexts n text)
ends_texts zero text ends a b s t same x y = ap length x ∙ sym (ap length y)
ends_texts (suc n) text ends a b s t same x y = ends_then text (λ _ rest. AreTexts n text rest) ends (λ _ _. ends_texts n text ends) a b s t same x y

-- ---- refused in the first text

refused_first : (first : List ℕ → Type 0) (second : List ℕ → List ℕ → Type 0) (bytes : List ℕ) (left : ℕ) → ((x : List ℕ) → first x → (more : List ℕ) × second x more)
    → IsRefused first bytes left → IsRefused (Then first second) bytes left
refused_first first second bytes left goes_on r =
    let start : List ℕ = r.before ++ r.more in
    let go = goes_on start r.begun in
    record {
      before = r.before;
      rest = r.rest;
      parts = r.parts;
      left_is = r.left_is;
      more = r.more ++ go.0;
      begun = record { front = start; behind = go.0; joined = sym (append_assoc r.before r.more go.0); first_is = r.begun; second_is = go.1 };
      byte = λ next behind others at text. refused_byte next behind others at text (cases_lt (length r.before) (length text.front));
      whole = λ front others same text.
          r.whole text.front (text.behind ++ others) (same ∙ ap (λ (xs : List ℕ). xs ++ others) text.joined ∙ append_assoc text.front text.behind others) text.first_is;
    }
  where
    refused_byte : (next : ℕ) (behind others : List ℕ) → r.rest ≡ next ∷ behind → (text : Then first second (r.before ++ next ∷ others))
        → (length r.before < length text.front) ⊎ (length text.front ≤ length r.before) → ⊥
    refused_byte next behind others at text (inl more) =
        let parts = longer (r.before ++ next ∷ []) others text.front text.behind (append_assoc r.before (next ∷ []) others ∙ text.joined) (omega (arith, more, length-append r.before (next ∷ []))) in
        r.byte next behind parts.0 at (subst first (parts.1 ∙ append_assoc r.before (next ∷ []) parts.0) text.first_is)
    refused_byte next behind others at text (inr few) =
        let parts = longer text.front text.behind r.before (next ∷ others) (sym text.joined) few in
        r.whole text.front (parts.0 ++ r.rest) (r.parts ∙ ap (λ (xs : List ℕ). xs ++ r.rest) parts.1 ∙ append_assoc text.front parts.0 r.rest) text.first_is

pub stop_first : (first : List ℕ → Type 0) (second : List ℕ → List ℕ → Type 0) (bytes : List ℕ) (stop : Stop) → ((x : List ℕ) → first x → (more : List ℕ) × second x more)
    → IsStop first bytes stop → IsStop (Then first second) bytes stop
stop_first first second bytes OutOfMemory goes_on is = tt
stop_first first second bytes (At left) goes_on is = λ are. refused_first first second bytes left goes_on (is are)

-- ---- refused behind the first text

behind_front : (first : List ℕ → Type 0) (second : List ℕ → List ℕ → Type 0) (front xs ys s : List ℕ) → Ends first → first front → (text : Then first second xs) → xs ++ s ≡ front ++ ys
    → (z : List ℕ) × (xs ≡ front ++ z) × (z ++ s ≡ ys) × second front z
behind_front first second front xs ys s ends is text same =
    let whole : front ++ ys ≡ text.front ++ (text.behind ++ s) = sym same ∙ ap (λ (zs : List ℕ). zs ++ s) text.joined ∙ append_assoc text.front text.behind s in
    let parts = same_parts front ys text.front (text.behind ++ s) whole (ends front text.front ys (text.behind ++ s) whole is text.first_is) in
    (text.behind, text.joined ∙ ap (λ (zs : List ℕ). zs ++ text.behind) (sym parts.0), sym parts.1, subst (λ (zs : List ℕ). second zs text.behind) (sym parts.0) text.second_is)

refused_next : (first : List ℕ → Type 0) (second : List ℕ → List ℕ → Type 0) (bytes front rest : List ℕ) (left : ℕ) → Ends first → first front → bytes ≡ front ++ rest
    → IsRefused (second front) rest left → IsRefused (Then first second) bytes left
refused_next first second bytes front rest left ends is same r = record {
  before = front ++ r.before;
  rest = r.rest;
  parts = same ∙ ap (λ (xs : List ℕ). front ++ xs) r.parts ∙ sym (append_assoc front r.before r.rest);
  left_is = r.left_is;
  more = r.more;
  begun = record { front = front; behind = r.before ++ r.more; joined = append_assoc front r.before r.more; first_is = is; second_is = r.begun };
  byte = λ next behind others at text.
      let start : List ℕ = r.before ++ next ∷ others in
      let parts = behind_front first second front ((front ++ r.before) ++ next ∷ others) start [] ends is text
      (append-nil ((front ++ r.before) ++ next ∷ others) ∙ append_assoc front r.before (next ∷ others)) in
      r.byte next behind others at (subst (second front) (sym (append-nil parts.0) ∙ parts.2) parts.3);
  whole = λ start others at text.
      let parts = behind_front first second front start rest others ends is text (sym at ∙ same) in
      r.whole parts.0 others (sym parts.2) parts.3;
}

pub stop_next : (first : List ℕ → Type 0) (second : List ℕ → List ℕ → Type 0) (bytes front rest : List ℕ) (stop : Stop) → Ends first → first front → bytes ≡ front ++ rest
    → IsStop (second front) rest stop → IsStop (Then first second) bytes stop
stop_next first second bytes front rest OutOfMemory ends is same refused = tt
stop_next first second bytes front rest (At left) ends is same refused = λ are.
    refused_next first second bytes front rest left ends is same (refused (are_bytes_behind front rest (subst AreBytes same are)))

-- the same, where the first one is such a text only as far as it is bytes
pub stop_next_bytes : (first : List ℕ → Type 0) (second : List ℕ → List ℕ → Type 0) (bytes front rest : List ℕ) (stop : Stop) → Ends first → (AreBytes front → first front)
    → bytes ≡ front ++ rest → IsStop (second front) rest stop → IsStop (Then first second) bytes stop
stop_next_bytes first second bytes front rest OutOfMemory ends is same refused = tt
stop_next_bytes first second bytes front rest (At left) ends is same refused = λ are.
    let all = subst AreBytes same are in
    refused_next first second bytes front rest left ends (is (are_bytes_front front rest all)) same (refused (are_bytes_behind front rest all))

-- behind some of so many texts
pub stop_texts : (i n all : ℕ) (text : List ℕ → Type 0) (bytes front rest : List ℕ) (stop : Stop) → all ≡ i + n → Ends text → AreTexts i text front → bytes ≡ front ++ rest
    → IsStop (AreTexts n text) rest stop → IsStop (AreTexts all text) bytes stop
stop_texts zero n all text bytes front rest stop sum ends are same refused =
    let count : n ≡ all = omega (arith, sum) in
    let bytes_are : bytes ≡ rest = same ∙ ap (λ (xs : List ℕ). xs ++ rest) are in
    subst (λ (xs : List ℕ). IsStop (AreTexts all text) xs stop) (sym bytes_are) (subst (λ (m : ℕ). IsStop (AreTexts m text) rest stop) count refused)
stop_texts (suc i) n all text bytes front rest stop sum ends are same refused =
    let whole : bytes ≡ are.front ++ (are.behind ++ rest) = same ∙ ap (λ (xs : List ℕ). xs ++ rest) are.joined ∙ append_assoc are.front are.behind rest in
    let count : suc (i + n) ≡ all = omega (arith, sum) in
    subst (λ (m : ℕ). IsStop (AreTexts m text) bytes stop) count
    (stop_next text (λ _ xs. AreTexts (i + n) text xs) bytes are.front (are.behind ++ rest) stop ends are.first_is whole
    (stop_texts i n (i + n) text (are.behind ++ rest) are.behind rest stop refl ends are.second_is refl refused))

-- one text more
pub texts_push : (i : ℕ) (text : List ℕ → Type 0) (front last : List ℕ) → AreTexts i text front → text last → AreTexts (suc i) text (front ++ last)
texts_push zero text front last are is =
    record { front = last; behind = []; joined = ap (λ (xs : List ℕ). xs ++ last) are ∙ sym (append-nil last); first_is = is; second_is = refl }
texts_push (suc i) text front last are is = record {
  front = are.front;
  behind = are.behind ++ last;
  joined = ap (λ (xs : List ℕ). xs ++ last) are.joined ∙ append_assoc are.front are.behind last;
  first_is = are.first_is;
  second_is = texts_push i text are.behind last are.second_is is;
}
