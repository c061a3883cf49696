-- What is said where something is told.
use Rattle.std.proofs.Common.{Option, Some, None}
use Rattle.std.specs.Prelude.{Result, Ok, Err, IfSome, OnErr}

-- two facts on what is told give a third
pub told-both : {X : Type 0} (told : Option X) {P Q R : X → Type 0} → IfSome told P → IfSome told Q → ((x : X) → P x → Q x → R x) → IfSome told R
told-both None p q give = tt
told-both (Some x) p q give = give x p q

-- what holds of all holds of what is told
pub told-all : {X : Type 0} (told : Option X) {P : X → Type 0} → ((x : X) → P x) → IfSome told P
told-all None all = tt
told-all (Some x) all = all x

pub on_err : {X E P : Type 0} (result : Result X E) → P → OnErr result P
on_err (Ok x) p = tt
on_err (Err e) p = p
