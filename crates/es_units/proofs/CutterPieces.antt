-- A piece of a stream behind those before it, for a caller of a cutter.
use Rattle.std.proofs.Common.{◌≡◌, ℕ, ◌+◌, ◌-◌, ◌≤◌, List, ◌++◌, length, take, drop, ap, ◌∙◌, arith}
use Rattle.std.proofs.lemmas.List.{length-take, take-take}
use Rattle.es_units.proofs.CutterKeeps.{take_sum}

-- a piece of a stream is taken behind those before it
pub next_piece : (es : List ℕ) (at end count : ℕ) → at ≤ length es → count ≤ length (take (end - at) (drop at es))
    → take at es ++ take count (take (end - at) (drop at es)) ≡ take (at + count) es
next_piece es at end count within few =
    ap (λ (xs : List ℕ). take at es ++ xs) (take-take count (end - at) (drop at es) (omega (arith, few, length-take (end - at) (drop at es)))) ∙ take_sum at count es within
