-- The content of a file once one of them was written.
use Rattle.std.proofs.Common.{◌≡◌, ℕ, List, Some, Bool, true, false, cond, refl, ap, ◌∙◌}
use Rattle.std.specs.Ordering.{nat_cmp, eq_by_cmp}
use Rattle.std.specs.Cmp.{Equal-is, eq_by_cmp_equiv}
use Rattle.std.specs.Cmp.Lexicographic.{slice_cmp, nat_list_cmp_total}
use Rattle.std.specs.FinMap.{get, insert, get-insert, slice_cmp-IsAntisymmetric, nat_cmp-IsAntisymmetric}
use Rattle.shelf_io.specs.Files.{Files}

-- a file that isn't the one that got a content is as it was
pub get_other : (files : Files) (name content other : List ℕ) → (other ≡ name → ⊥) → get (insert files name content) other ≡ get files other
get_other files name content other apart =
    get-insert nat_list_cmp_total files name content other ∙ chosen (eq_by_cmp (slice_cmp nat_cmp) other name) refl
  where
    chosen : (b : Bool) → eq_by_cmp (slice_cmp nat_cmp) other name ≡ b → cond b (Some content) (get files other) ≡ get files other
    chosen true e = absurd (apart (slice_cmp-IsAntisymmetric nat_cmp-IsAntisymmetric other name ((Equal-is _).0 e)))
    chosen false e = refl

-- and that one has it
pub get_own : (files : Files) (name content : List ℕ) → get (insert files name content) name ≡ Some content
get_own files name content =
    get-insert nat_list_cmp_total files name content name
    ∙ ap (λ b. cond b (Some content) (get files name)) ((eq_by_cmp_equiv nat_list_cmp_total).refl name)

pub stays : (files after : Files) (name : List ℕ) → after ≡ files → get after name ≡ get files name
stays files after name same = ap (λ (f : Files). get f name) same
