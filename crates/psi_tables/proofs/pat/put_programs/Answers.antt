use Rattle.std.proofs.Common.{ℕ, ◌<◌, ◌^◌, ◌++◌, List, length, get_or, take, sym, ap, ◌∙◌, arith, length-append, length-take}
use Rattle.std.specs.List.{flat_map}
use Rattle.std.proofs.lemmas.List.{flat_map_more, take_more}
use Rattle.std.proofs.lemmas.List.Elements.{All-more}
use Rattle.psi_tables.specs.Pat.{written_program}
use Rattle.psi_tables.proofs.WrittenPat.{length-written_programs}
use Rattle.psi_tables.proofs.pat.put_programs.Goals as goal

pub put_program-requires-clause-room : goal.put_program-requires-clause-room
put_program-requires-clause-room c =
    let before : List (ℕ × ℕ) = take c.loop-number.number-index c.args.programs.now in
    omega (
      arith,
      c.requires.room,
      c.requires.few,
      ap length c.loop-number.invariant.bytes,
      length-append c.args.into.now.items (flat_map written_program before),
      length-written_programs before,
      length-take c.loop-number.number-index c.args.programs.now,
    )

pub loop-number-preserved : goal.loop-number-preserved
loop-number-preserved c =
    let programs : List (ℕ × ℕ) = c.args.programs.now in
    let n : ℕ = c.loop-number.number-index in
    let program : ℕ × ℕ = get_or programs n (0, 0) in
    record {
      bytes =
          c.put_program.ensures.bytes
          ∙ ap (λ (bytes : List ℕ). bytes ++ written_program program) c.loop-number.invariant.bytes
          ∙ flat_map_more written_program c.args.into.now.items (take n programs) program
          ∙ ap (λ (front : List (ℕ × ℕ)). c.args.into.now.items ++ flat_map written_program front) (sym (take_more programs n (0, 0) c.loop-number-test.true));
      numbers = All-more (λ (p : ℕ × ℕ). p.0 < 2 ^ 16) programs n (0, 0) c.loop-number-test.true c.loop-number.invariant.numbers c.put_program.ensures.number;
    }
