-- What a head holds is read the same before another one of certain start codes, as that of the first slice.
use Rattle.std.proofs.Common.{◌≡◌, ◌+◌, ◌%◌, ◌^◌, ◌<◌, ◌*◌, ℕ, List, [], ◌∷◌, ◌++◌, length, replicate, Some, None, Bool, true, false, refl, sym, ap, subst, ◌∙◌, inl, inr, arith, append_assoc}
use Rattle.std.proofs.lemmas.List.{length-append}
use Rattle.bit_lists.specs.Bits.{IsPrefix, bits_of}
use Rattle.bit_lists.proofs.BitLemmas.{length-bits_of}
use Rattle.picture_grammar.specs.Refusal.{Refusal}
use Rattle.picture_grammar.specs.Grammar.{Grammar, done, ◌>>=◌, ◌>>◌, optional, when, if_next, at_bits, many, SpellsList, Next, one_item_more}
use Rattle.picture_grammar.specs.Grammar.Next.{more, last}
use Rattle.picture_grammar.specs.Element.{Rule, uimsbf}
use Rattle.picture_grammar.specs.Exact.{IsLocal}
use Rattle.picture_grammar.specs.StartCode.{start_code_prefix, start_code_bits, start_code, zero_bits, StartCodeComes}
use Rattle.picture_grammar.specs.Head.{unread}
use Rattle.picture_grammar.proofs.LocalLaws.{local-done}
use Rattle.picture_laws.proofs.StartCodes.{code-taken, code-made, comes-spelled}
use Rattle.picture_laws.proofs.Tails.{AreAlike, alike-behind, alike-length, prefix-behind, prefix-end, comes-moved}

-- what is spelled before some bits is spelled before those that are alike
pub record IsSteady {A : Type 0} (is_last : ℕ → Bool) (grammar : Grammar A) : Type 0 where
  pub moved : (v : A) (bits rest : List ℕ) → grammar.Spells v bits rest
      → (front : List ℕ) × (bits ≡ front ++ rest) × ((other : List ℕ) → AreAlike is_last rest other → grammar.Spells v (front ++ other) other)

pub steady-local : {is_last : ℕ → Bool} → {A : Type 0} (grammar : Grammar A) → IsLocal grammar → IsSteady is_last grammar
steady-local {is_last} grammar local = record { moved = λ v bits rest s. let (f, p, q) = local.anywhere v bits rest s in (f, p, λ other alike. q other) }

pub steady-done : {is_last : ℕ → Bool} → {A : Type 0} (value : A) → IsSteady is_last (done value)
steady-done {is_last} value = steady-local (done value) (local-done value)

pub steady-bind : {is_last : ℕ → Bool} → {A B : Type 0} (first : Grammar A) (next : A → Grammar B) → IsSteady is_last first → ((a : A) → IsSteady is_last (next a)) → IsSteady is_last (first >>= next)
steady-bind {is_last} first next steady each = record {
  moved = λ v bits rest (a, middle, s, t).
      let (f, p, q) = steady.moved a bits middle s in
      let (g, p', q') = (each a).moved v middle rest t in (
        f ++ g,
        p ∙ ap (λ m. f ++ m) p' ∙ sym (append_assoc f g rest),
        λ other alike. (
          a,
          g ++ other,
          subst (λ b. first.Spells a b (g ++ other)) (sym (append_assoc f g other)) (q (g ++ other) (subst (λ m. AreAlike is_last m (g ++ other)) (sym p') (alike-behind is_last g rest other alike))),
          q' other alike,
        ),
      );
}

pub steady-then : {is_last : ℕ → Bool} → {A B : Type 0} (first : Grammar A) (next : Grammar B) → IsSteady is_last first → IsSteady is_last next → IsSteady is_last (first >> next)
steady-then {is_last} first next steady then = steady-bind first (λ _. next) steady (λ _. then)

pub steady-optional : {is_last : ℕ → Bool} → {A : Type 0} (test : Bool) (grammar : Grammar A) → IsSteady is_last grammar → IsSteady is_last (optional test grammar)
steady-optional {is_last} true grammar steady = steady-bind grammar (λ value. done (Some value)) steady (λ value. steady-done (Some value))
steady-optional {is_last} false grammar steady = steady-done None

pub steady-when : {is_last : ℕ → Bool} → {A : Type 0} (test : Bool) (grammar : Grammar A) (absent : A) → IsSteady is_last grammar → IsSteady is_last (when test grammar absent)
steady-when {is_last} true grammar absent steady = steady
steady-when {is_last} false grammar absent steady = steady-done absent

module _ {is_last : ℕ → Bool} {A B : Type 0} (next : List A → Grammar (Next A B)) (steady : (before : List A) → IsSteady is_last (next before)) where
  list_steady : (before values : List A) (end : B) (bits rest : List ℕ) → SpellsList next before values end bits rest
      → (front : List ℕ) × (bits ≡ front ++ rest) × ((other : List ℕ) → AreAlike is_last rest other → SpellsList next before values end (front ++ other) other)
  list_steady before [] end bits rest s = (steady before).moved (last end) bits rest s
  list_steady before (value ∷ values) end bits rest (middle, s, t) =
      let (f, p, q) = (steady before).moved (more value) bits middle s in
      let (g, p', q') = list_steady (before ++ value ∷ []) values end middle rest t in (
        f ++ g,
        p ∙ ap (λ m. f ++ m) p' ∙ sym (append_assoc f g rest),
        λ other alike. (
          g ++ other,
          subst (λ b. (next before).Spells (more value) b (g ++ other)) (sym (append_assoc f g other))
              (q (g ++ other) (subst (λ m. AreAlike is_last m (g ++ other)) (sym p') (alike-behind is_last g rest other alike))),
          q' other alike,
        ),
      )

  pub steady-many : IsSteady is_last (many next)
  steady-many = record { moved = λ v bits rest s. list_steady [] v.0 v.1 bits rest s }

-- ---- bits to a whole byte

-- a number of as many bits as the bits left are past whole bytes
steady-past_bytes : {is_last : ℕ → Bool} → (rules : List (Rule ℕ)) → IsSteady is_last (at_bits (λ bits. uimsbf (length bits % 8) rules))
steady-past_bytes {is_last} rules = record {
  moved = λ v bits rest (code, (fits, is), passing, split). (
    code,
    split,
    λ other alike.
        let lengths : length rest % 8 ≡ length other % 8 = alike-length is_last rest other alike in
        let old : length bits ≡ length code + length rest = ap length split ∙ length-append code rest in
        let count : length bits % 8 ≡ length (code ++ other) % 8 = omega (arith, lengths, old, length-append code other) in
        (code, (subst (λ (n : ℕ). v < 2 ^ n) count fits, is ∙ ap (λ (n : ℕ). bits_of n v) count), passing, refl),
  );
}

pub steady-zero_bits : {is_last : ℕ → Bool} → (refusal : Refusal) → IsSteady is_last (zero_bits refusal)
steady-zero_bits {is_last} refusal = steady-past_bytes _

-- ---- start codes

pub local-start_code : (refusal : Refusal) (may_come : ℕ → Bool) → IsLocal (start_code refusal may_come)
local-start_code refusal may_come = record {
  anywhere = λ byte bits rest s.
      let (n, split, fits, comes) = code-taken refusal may_come byte bits rest s in (
        replicate (8 * n) 0 ++ start_code_bits byte,
        split ∙ sym (append_assoc (replicate (8 * n) 0) (start_code_bits byte) rest),
        λ following. subst (λ b. (start_code refusal may_come).Spells byte b following) (sym (append_assoc (replicate (8 * n) 0) (start_code_bits byte) following))
            (code-made refusal may_come byte n following fits comes),
      );
}

pub steady-start_code : {is_last : ℕ → Bool} → (refusal : Refusal) (may_come : ℕ → Bool) → IsSteady is_last (start_code refusal may_come)
steady-start_code {is_last} refusal may_come = steady-local _ (local-start_code refusal may_come)

-- a part that begins with a start code, where one comes that isn't one of the last ones
pub steady-comes : {is_last : ℕ → Bool} → {A : Type 0} (refusal : Refusal) (codes : ℕ → Bool) (next : ℕ → Grammar A) (absent : A) → ((byte : ℕ) → codes byte ≡ true → is_last byte ≡ true → ⊥)
    → ((byte : ℕ) → IsSteady is_last (next byte)) → IsSteady is_last (if_next (StartCodeComes codes) (start_code refusal codes >>= next) (done absent))
steady-comes {is_last} {A} refusal codes next absent none each = record { moved = moved } where
  moved : (v : A) (bits rest : List ℕ) → (if_next (StartCodeComes codes) (start_code refusal codes >>= next) (done absent)).Spells v bits rest
      → (front : List ℕ) × (bits ≡ front ++ rest) × ((other : List ℕ) → AreAlike is_last rest other
      → (if_next (StartCodeComes codes) (start_code refusal codes >>= next) (done absent)).Spells v (front ++ other) other)
  moved v bits rest (inl (c, s)) =
      let (f, p, q) = (steady-bind (start_code refusal codes) next (steady-start_code refusal codes) each).moved v bits rest s in
      (f, p, λ other alike. let t = q other alike in inl (comes-spelled refusal codes t.0 (f ++ other) t.1 t.2, t))
  moved v bits rest (inr (n, (e, f))) = (
    [],
    f,
    λ other alike. inr (
      λ c.
          n (subst (StartCodeComes codes) (sym (f ∙ alike.first))
          (comes-moved is_last alike.old alike.new alike.old_tail alike.new_tail codes none alike.front
          (subst (StartCodeComes codes) alike.second c))),
      (e, refl),
    ),
  )

-- ---- bits that nobody reads

abbrev pub unread_item : List ℕ → Grammar (Next ℕ (Unit {0}))
unread_item before = if_next (IsPrefix start_code_prefix) (done (last tt)) (one_item_more (uimsbf 8 []))

unread_steady : (is_last : ℕ → Bool) (before values bits rest : List ℕ) → SpellsList unread_item before values tt bits rest
    → (front : List ℕ) × (bits ≡ front ++ rest) × ((other : List ℕ) → AreAlike is_last rest other → SpellsList unread_item before values tt (front ++ other) other)
unread_steady is_last before [] bits rest (inl (p, (e, f))) = (
  [],
  f,
  λ other alike.
      inl (
        subst (IsPrefix start_code_prefix) (sym alike.second)
            (prefix-end is_last alike.old alike.new alike.old_tail alike.new_tail alike.front (subst (IsPrefix start_code_prefix) (f ∙ alike.first) p)),
        (refl, refl),
      ),
)
unread_steady is_last before [] bits rest (inr (n, (v, m, s, (e, f)))) = absurd (let e' : last tt ≡ more v = e in cc)
unread_steady is_last before (v ∷ vs) bits rest (middle, inl (p, (e, f)), t) = absurd (let e' : more v ≡ last tt = e in cc)
unread_steady is_last before (v ∷ vs) bits rest (middle, inr (n, (v', m, (code, (fits, is), passing, split), (e, f))), t) =
    let (g, p', q') = unread_steady is_last (before ++ v ∷ []) vs middle rest t in
    let whole : bits ≡ code ++ (g ++ rest) = split ∙ ap (λ (x : List ℕ). code ++ x) (f ∙ p') in (
      code ++ g,
      whole ∙ sym (append_assoc code g rest),
      λ other alike.
          let h = (code ++ g) ++ alike.front in
          let some : 0 < length h = omega (arith, length-append (code ++ g) alike.front, length-append code g, ap length is, length-bits_of 8 v') in
          let none : IsPrefix start_code_prefix ((code ++ g) ++ other) → ⊥ = λ p. n (subst (IsPrefix start_code_prefix)
          (append_assoc (code ++ g) alike.front alike.old ∙ ap (λ (x : List ℕ). (code ++ g) ++ x) (sym alike.first) ∙ append_assoc code g rest ∙ sym whole)
          (prefix-behind is_last alike.old alike.new alike.old_tail alike.new_tail h some
          (subst (IsPrefix start_code_prefix) (ap (λ (x : List ℕ). (code ++ g) ++ x) alike.second ∙ sym (append_assoc (code ++ g) alike.front alike.new)) p))) in
          (g ++ other, inr (none, (v', g ++ other, (code, (fits, is), passing, append_assoc code g other), (e, refl))), q' other alike),
    )

pub steady-unread : {is_last : ℕ → Bool} → IsSteady is_last unread
steady-unread {is_last} = steady-then _ _ (steady-past_bytes []) (record { moved = λ found bits rest s. unread_steady is_last [] found.0 bits rest s })
