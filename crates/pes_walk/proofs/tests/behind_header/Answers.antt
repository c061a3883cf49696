use Rattle.std.proofs.Common.{◌≡◌, ℕ, true, false, List, [], ◌∷◌, ◌++◌, None, refl, sym, ap, ◌∙◌}
use Rattle.pes_units.specs.PesPackets.{gathered}
use Rattle.pes_walk.specs.Walk.{carried_as, closed_behind, open_behind, all_data}
use Rattle.pes_walk.proofs.tests.behind_header.Goals as goal

pub returns : goal.returns
returns c =
    let first = carried_as 0 true c.args.first.now in
    let of_first : all_data (gathered (first ∷ [])) ≡ c.in_ok-add.field-0.now = c.in_ok-add.ensures.behind [] [] None c.new-walk.ensures.walked in
    let of_both : all_data (gathered (first ∷ carried_as 188 false c.args.second.now ∷ [])) ≡ all_data (gathered (first ∷ [])) ++ c.in_ok-add-2.field-0.now =
    c.in_ok-add-2.ensures.behind (first ∷ []) (closed_behind [] None first) (open_behind None first) (c.in_ok-add.ensures.walked [] [] None c.new-walk.ensures.walked) in
    let copied : c.in_ok-bytes.bytes.items ≡ c.in_ok-add.field-0.now = c.in_ok-bytes.ensures.items_if_clones_equal (λ x y same. same) in
    c.in_ok-extend_from_slice.ensures.items ∙ ap (λ (bytes : List ℕ). bytes ++ c.in_ok-add-2.field-0.now) (copied ∙ sym of_first) ∙ sym of_both
