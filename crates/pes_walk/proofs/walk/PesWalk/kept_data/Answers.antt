use Rattle.std.proofs.Common.{◌≡◌, ℕ, min, List, length, drop, ap, arith, ◌∙◌}
use Rattle.std.proofs.lemmas.List.{take_rest, drop_min}
use Rattle.pes_units.specs.PesHeader.{header_length}
use Rattle.pes_walk.proofs.Data.{kept_data_is}
use Rattle.pes_walk.proofs.walk.PesWalk.kept_data.Goals as goal

pub returns : goal.returns
returns c = λ carried closed last has.
    (let front = c.as_slice-front.result.now in
    let behind : c.min.result ≡ min (header_length front) (length front) = omega (arith, c.min.ensures, c.header_bytes.ensures) in
    take_rest front c.min.result ∙ ap (λ (n : ℕ). drop n front) behind ∙ drop_min (header_length front) front
    ∙ ap (λ (kept : List ℕ). drop (header_length kept) kept) c.as_slice-front.ensures.value
    ∙ kept_data_is carried closed last c.args.self.now has)
