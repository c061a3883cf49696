-- Grammars that don't look ahead.
use Rattle.std.proofs.Common.{◌≡◌, ℕ, List, [], ◌∷◌, ◌++◌, Some, None, Bool, true, false, refl, sym, ap, subst, ◌∙◌, append_assoc, append-nil}
use Rattle.syntax_types.specs.declared.block.BlockWay.{BlockWay}
use Rattle.syntax_types.specs.declared.block.Block.{Block}
use Rattle.syntax_types.specs.declared.block.RunLevel.{RunLevel}
use Rattle.picture_grammar.specs.Refusal.{Refusal}
use Rattle.picture_grammar.specs.Grammar.{Grammar, done, ◌>>=◌, optional, many, SpellsList, Next}
use Rattle.picture_grammar.specs.Grammar.Next.{more, last}
use Rattle.picture_grammar.specs.Element.{Rule, element, one_flag}
use Rattle.picture_grammar.specs.Exact.{IsLocal}
use Rattle.picture_grammar.specs.Block.{Coefficient, dc_coefficient, after_code, coefficient, block}
use Rattle.picture_grammar.specs.Block.Coefficient.{end_of_block, run_size, escape}
use Rattle.picture_grammar.proofs.PictureLaws.{exact-block}

pub local-done : {A : Type 0} (value : A) → IsLocal (done value)
local-done value = record { anywhere = λ v bits rest (e, f). ([], f, λ following. (e, refl)) }

pub local-element : {A : Type 0} (Codes : A → List ℕ → Type 0) (refusal : Refusal) (rules : List (Rule A)) → IsLocal (element Codes refusal rules)
local-element Codes refusal rules = record { anywhere = λ v bits rest (code, coded, passing, split). (code, split, λ following. (code, coded, passing, refl)) }

pub local-bind : {A B : Type 0} (first : Grammar A) (next : A → Grammar B) → IsLocal first → ((a : A) → IsLocal (next a)) → IsLocal (first >>= next)
local-bind first next local each = record {
  anywhere = λ v bits rest (a, middle, s, t).
      let (f, p, q) = local.anywhere a bits middle s in
      let (g, p', q') = (each a).anywhere v middle rest t in (
        f ++ g,
        p ∙ ap (λ m. f ++ m) p' ∙ sym (append_assoc f g rest),
        λ following. (a, g ++ following, subst (λ b. first.Spells a b (g ++ following)) (sym (append_assoc f g following)) (q (g ++ following)), q' following),
      );
}

pub local-optional : {A : Type 0} (test : Bool) (grammar : Grammar A) → IsLocal grammar → IsLocal (optional test grammar)
local-optional true grammar local = local-bind grammar (λ value. done (Some value)) local (λ value. local-done (Some value))
local-optional false grammar local = local-done None

module _ {A B : Type 0} (next : List A → Grammar (Next A B)) (local : (before : List A) → IsLocal (next before)) where
  list_local : (before values : List A) (end : B) (bits rest : List ℕ) → SpellsList next before values end bits rest
      → (front : List ℕ) × (bits ≡ front ++ rest) × ((following : List ℕ) → SpellsList next before values end (front ++ following) following)
  list_local before [] end bits rest s = (local before).anywhere (last end) bits rest s
  list_local before (value ∷ values) end bits rest (middle, s, t) =
      let (f, p, q) = (local before).anywhere (more value) bits middle s in
      let (g, p', q') = list_local (before ++ value ∷ []) values end middle rest t in (
        f ++ g,
        p ∙ ap (λ m. f ++ m) p' ∙ sym (append_assoc f g rest),
        λ following. (g ++ following, subst (λ b. (next before).Spells (more value) b (g ++ following)) (sym (append_assoc f g following)) (q (g ++ following)), q' following),
      )

  pub local-many : IsLocal (many next)
  local-many = record { anywhere = λ v bits rest s. list_local [] v.0 v.1 bits rest s }

-- ---- blocks

local-after_code : (c : Coefficient) → IsLocal (after_code c)
local-after_code end_of_block = local-done _
local-after_code (run_size run size) = local-bind one_flag _ (local-element _ _ _) (λ negative. local-done _)
local-after_code (escape run level) = local-done _

-- the DC coefficient, where there is one
pub local-dc : (way : BlockWay) → IsLocal (optional way.intra (dc_coefficient way))
local-dc way = local-optional way.intra (dc_coefficient way) (local-bind _ _ (local-element _ _ _) (λ size. local-bind _ _ (local-element _ _ _) (λ bits. local-done _)))

pub local-coefficient : (way : BlockWay) (before : List RunLevel) → IsLocal (coefficient way before)
local-coefficient way before = local-bind _ after_code (local-element _ _ _) local-after_code

pub local-block : (way : BlockWay) → IsLocal (block way)
unfolding block
local-block way =
    local-bind _ _ (local-dc way) (λ dc. local-bind _ _ (local-many (coefficient way) (local-coefficient way)) (λ coefficients. local-done _))

-- no block's spelling begins another one's
pub block-one : (way : BlockWay) (a b : Block) (bits more : List ℕ) → (block way).Spells a bits [] → (block way).Spells b (bits ++ more) [] → (a ≡ b) × (more ≡ [])
block-one way a b bits tail s t =
    let (front, p, q) = (local-block way).anywhere a bits [] s in
    let same : bits ≡ front = p ∙ append-nil front in
    (exact-block way).one_value a b (bits ++ tail) tail [] (subst (λ f. (block way).Spells a (f ++ tail) tail) (sym same) (q tail)) t
