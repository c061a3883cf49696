-- The kinds of nodes.
use Rattle.std.proofs.Common.{◌≢◌, ◌<◌, ◌^◌, ℕ, zero, suc, refl, lit<, Result, Ok, Err, IfErr}
use Rattle.bound_certificate.specs.declared.read_node.Kind.{Kind}
use Rattle.bound_certificate.specs.declared.read_node.Kind.TheVariants.{Branch, Dual, Run, Open, Window, BufferWindow}
use Rattle.bound_certificate.specs.Private.Texts.{IsKind, code_of}

pub no_kind : (version kind : ℕ) → (kind ≢ 1) × (kind ≢ 2) × (kind ≢ 3) × (kind ≢ 4) × (kind ≢ 5) × (kind ≢ 6) → IsKind version kind → ⊥
no_kind version zero other is = is
no_kind version (suc zero) other is = other.0 refl
no_kind version (suc (suc zero)) other is = other.1 refl
no_kind version (suc (suc (suc zero))) other is = other.2 refl
no_kind version (suc (suc (suc (suc zero)))) other is = other.3 refl
no_kind version (suc (suc (suc (suc (suc zero))))) other is = other.4 refl
no_kind version (suc (suc (suc (suc (suc (suc zero)))))) other is = other.5 refl
no_kind version (suc (suc (suc (suc (suc (suc (suc kind))))))) other is = is

pub code_fits : (kind : Kind) → code_of kind < 2 ^ 8
code_fits Branch = lit< tt
code_fits Dual = lit< tt
code_fits Run = lit< tt
code_fits Open = lit< tt
code_fits Window = lit< tt
code_fits BufferWindow = lit< tt

-- what an error says more weakly
pub if_err_more : {T E : Type 0} (r : Result T E) (P Q : E → Type 0) → ((e : E) → P e → Q e) → IfErr r P → IfErr r Q
if_err_more (Ok value) P Q more is = tt
if_err_more (Err e) P Q more is = more e is
