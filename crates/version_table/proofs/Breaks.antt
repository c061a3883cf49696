-- The first line that breaks a limit, where one does.
use Rattle.std.proofs.Common.{◌≡◌, ◌⊎◌, List, [], ◌∷◌, ◌++◌, Option, Some, None, refl, sym, ap, subst, ◌∙◌, append_assoc, inl, inr}
use Rattle.std.proofs.lemmas.List.{append-nil}
use Rattle.version_table.specs.declared.fault.Limit.{Limit}
use Rattle.version_table.specs.declared.line.Line.{Line}
use Rattle.version_table.specs.Limits.{first_limit, KeepLimits, BreakFirst}
use Rattle.version_table.proofs.Openings.{kept_push}

-- two places in a list: one is before the other, or they are one
pub record SamePlace (b : List Line) (k : Line) (c : List Line) (l : Line) : Type 0 where
  pub before : b ≡ c
  pub line : k ≡ l

pub record IsBefore (b : List Line) (k : Line) (c : List Line) : Type 0 where
  pub between : List Line
  pub parts : c ≡ b ++ k ∷ between

places : (b : List Line) (k : Line) (x : List Line) (c : List Line) (l : Line) (y : List Line) → b ++ k ∷ x ≡ c ++ l ∷ y → SamePlace b k c l ⊎ (IsBefore b k c ⊎ IsBefore c l b)
places [] k x [] l y e = inl (record { before = refl; line = cc })
places [] k x (h ∷ c) l y e =
    let same : k ≡ h = cc in
    inr (inl (record { between = c; parts = ap (λ (line : Line). line ∷ c) (sym same) }))
places (g ∷ b) k x [] l y e =
    let same : g ≡ l = cc in
    inr (inr (record { between = b; parts = ap (λ (line : Line). line ∷ b) same }))
places (g ∷ b) k x (h ∷ c) l y e =
    let same : g ≡ h = cc in
    let rest : b ++ k ∷ x ≡ c ++ l ∷ y = cc in
    elim (places b k x c l y rest) [
      | inl one ↦ let before = one.before in inl (record { before = cc; line = one.line })
      | inr (inl first) ↦ let parts = first.parts in inr (inl (record { between = first.between; parts = cc }))
      | inr (inr second) ↦ let parts = second.parts in inr (inr (record { between = second.between; parts = cc }))
    ]

-- lines break one limit first
pub one_break : (lines : List Line) (a b : Limit) → BreakFirst lines a → BreakFirst lines b → a ≡ b
one_break lines a b f g =
    elim (places f.before f.line f.after g.before g.line g.after (sym f.parts ∙ g.parts)) [
      | inl same ↦
          let moved : first_limit g.before g.line ≡ Some a = subst (λ (l : Line). first_limit g.before l ≡ Some a) same.line
          (subst (λ (ls : List Line). first_limit ls f.line ≡ Some a) same.before f.broken) in
          let other = g.broken in
          cc
      | inr (inl first) ↦
          let kept = g.kept f.before f.line first.between first.parts in
          let broken = f.broken in
          absurd cc
      | inr (inr second) ↦
          let kept = f.kept g.before g.line second.between second.parts in
          let broken = g.broken in
          absurd cc
    ]

-- lines that keep all limits break none
pub no_break : (lines : List Line) (a : Limit) → KeepLimits lines → BreakFirst lines a → ⊥
no_break lines a kept f =
    let here = kept f.before f.line f.after f.parts in
    let broken = f.broken in
    absurd cc

-- a break stays the first when lines follow
pub break_push : (lines : List Line) (line : Line) (a : Limit) → BreakFirst lines a → BreakFirst (lines ++ line ∷ []) a
break_push lines line a f = record {
  before = f.before;
  line = f.line;
  after = f.after ++ line ∷ [];
  parts = ap (λ (ls : List Line). ls ++ line ∷ []) f.parts ∙ append_assoc f.before (f.line ∷ f.after) (line ∷ []);
  kept = f.kept;
  broken = f.broken;
}

pub break_here : (lines : List Line) (line : Line) (a : Limit) → KeepLimits lines → first_limit lines line ≡ Some a → BreakFirst (lines ++ line ∷ []) a
break_here lines line a kept broken = record { before = lines; line = line; after = []; parts = refl; kept = kept; broken = broken }

-- lines keep all limits, or there is the first that doesn't
pub kept_or_broken : (before lines : List Line) → KeepLimits before → KeepLimits (before ++ lines) ⊎ ((a : Limit) × BreakFirst (before ++ lines) a)
kept_or_broken before [] kept = inl (subst KeepLimits (sym (append-nil before)) kept)
kept_or_broken before (line ∷ lines) kept =
    by (first_limit before line) refl (λ here. subst (λ (ls : List Line). KeepLimits ls ⊎ ((a : Limit) × BreakFirst ls a))
    (append_assoc before (line ∷ []) lines) (kept_or_broken (before ++ line ∷ []) lines (kept_push before line kept here)))
  where
    by : (o : Option Limit) → first_limit before line ≡ o → (first_limit before line ≡ None → KeepLimits (before ++ line ∷ lines)
        ⊎ ((a : Limit) × BreakFirst (before ++ line ∷ lines) a)) → KeepLimits (before ++ line ∷ lines)
        ⊎ ((a : Limit) × BreakFirst (before ++ line ∷ lines) a)
    by (Some a) broken go = inr (a, record { before = before; line = line; after = lines; parts = refl; kept = kept; broken = broken })
    by None here go = go here
