use Rattle.std.specs.Option.{option_map}
use Rattle.std.proofs.Common.{rules, ℤ, w16, SFits, to_z, of_z, ◌≡◌, ◌+◌, drop, IfSome, sym, ap, subst, ◌∙◌, refl, arith}
use Rattle.std.proofs.lemmas.Int.{to_z-of_z}
use Rattle.bit_cursor.specs.BitReader.{bits_left, bits_held, place}
use Rattle.shelf_io.specs.Source.{without_front}
use Rattle.bit_cursor.proofs.Source.{keeps_then}
use Rattle.picture_grammar.specs.Block.{coefficient_table}
use Rattle.grammar_reading.specs.Window.{ShowsFront}
use Rattle.grammar_reading.proofs.BitsRead.{advances-on, advances-none}
use Rattle.block_coeffs.proofs.Blocks.{later-table}
use Rattle.block_coeffs.specs.Private.ShortCodes.{level_of}
use Rattle.block_coeffs.specs.Private.Standing.{ShowsKnown, StandsNext}
use Rattle.block_coeffs.specs.declared.standing.Standing.TheVariants.{EndOfBlock, Pair, Refused}
use Rattle.block_coeffs.proofs.Coefficients.{more-behind, pair-read, end-read, refused-read}
use Rattle.block_coeffs.proofs.Steps.{advances-known}
use Rattle.block_coeffs.proofs.reading.read_others.Goals as goal

pub coefficients-init : goal.coefficients-init
coefficients-init g c = record {
  so_far = λ bits at r. r;
  advanced = advances-none (bits_left c.args.from.now) (place c.args.from.now);
  behind = c.requires.behind;
  place = c.requires.place;
  keeps = search rules;
}

pub coefficients-preserved : goal.coefficients-preserved
coefficients-preserved g c =
    let way = c.args.way in
    let before = c.coefficients.into.items in
    let table = c.args.table in
    let index = c.coefficients.index in
    let here = c.coefficients.from in
    let stands : StandsNext table index (bits_left c.stands_next.new.from) (bits_held c.stands_next.new.from) (Pair c.in-Pair.word c.in-Pair.next) =
    subst (λ standing. StandsNext table index (bits_left c.stands_next.new.from) (bits_held c.stands_next.new.from) standing) c.in-Pair.is c.in_ok-standing.ensures.found in
    let window = stands.window in
    let shows : IfSome (bits_left here) (ShowsKnown window) = subst (λ told. IfSome told (ShowsKnown window)) c.in_ok-standing.ensures.left stands.shows in
    let table_is : table ≡ coefficient_table way index = c.requires.table ∙ sym (later-table way index c.coefficients.invariant.behind) in
    let after = c.skip-in-Pair.new.self in
    let len = c.length_in.result in
    let fits : SFits w16 c.level_in.result = search rules in
    let held : ℤ = to_z w16 (of_z w16 c.level_in.result) in
    let level : held ≡ level_of c.in-Pair.word = to_z-of_z w16 c.level_in.result fits ∙ c.level_in.ensures in
    let left : bits_left after ≡ without_front (bits_left here) len = c.skip-in-Pair.ensures.left ∙ ap (λ told. option_map (drop len) told) c.in_ok-standing.ensures.left in
    let moved : place after ≡ place here + len = c.skip-in-Pair.ensures.place ∙ ap (λ n. n + len) c.in_ok-standing.ensures.stays in
    let kept = keeps_then g.met.S.Source.keeps_on c.coefficients.invariant.keeps c.in_ok-standing.ensures.keeps in
    record {
      so_far = λ bits at r. pair-read way before table index table_is c.coefficients.invariant.place.is window (bits_left here) (bits_left after)
          (place here) (place after) shows bits at c.in-Pair.word c.in-Pair.next c.run_in.result held len c.push.new.self.items
          (stands.found.0, stands.found.1) c.run_in.ensures.place level c.length_in.ensures left moved c.push.ensures.items (c.coefficients.invariant.so_far bits at r);
      advanced = advances-on c.coefficients.invariant.advanced (advances-known (bits_left here) (bits_left after) window len (place here) (place after) shows (omega (arith, stands.found.1.0, c.length_in.ensures)) left moved);
      behind = omega (arith, stands.found.0);
      place = more-behind way before c.push.new.self.items (record { run = c.run_in.result; level = held }) index c.run_in.result
          c.in-Pair.next c.coefficients.invariant.place (omega (arith, stands.found.1.1, c.run_in.ensures.place)) refl (omega (arith, stands.found.0, c.run_in.ensures.place)) c.push.ensures.items;
      keeps = search rules;
    }

pub returns-in-EndOfBlock-clause-ok : goal.returns-in-EndOfBlock-clause-ok
returns-in-EndOfBlock-clause-ok g c = λ bits at r.
    let way = c.args.way in
    let before = c.coefficients.into.items in
    let table = c.args.table in
    let index = c.coefficients.index in
    let here = c.coefficients.from in
    let stands : StandsNext table index (bits_left c.stands_next.new.from) (bits_held c.stands_next.new.from) (EndOfBlock c.in-EndOfBlock.len) =
    subst (λ standing. StandsNext table index (bits_left c.stands_next.new.from) (bits_held c.stands_next.new.from) standing) c.in-EndOfBlock.is c.in_ok-standing.ensures.found in
    let window = stands.window in
    let shows : IfSome (bits_left here) (ShowsKnown window) = subst (λ told. IfSome told (ShowsKnown window)) c.in_ok-standing.ensures.left stands.shows in
    let table_is : table ≡ coefficient_table way index = c.requires.table ∙ sym (later-table way index c.coefficients.invariant.behind) in
    let after = c.skip.new.self in
    let len = c.in-EndOfBlock.len in
    end-read way before table index table_is c.coefficients.invariant.place.is window (bits_left here) (bits_left after) (place here)
    (place after) shows bits at len (stands.found.0, stands.found.1)
    (c.skip.ensures.left ∙ ap (λ told. option_map (drop len) told) c.in_ok-standing.ensures.left)
    (c.skip.ensures.place ∙ ap (λ n. n + len) c.in_ok-standing.ensures.stays) (c.coefficients.invariant.so_far bits at r)

pub returns-in-Refused-clause-refused : goal.returns-in-Refused-clause-refused
returns-in-Refused-clause-refused g c = λ bits at r.
    let way = c.args.way in
    let before = c.coefficients.into.items in
    let table = c.args.table in
    let index = c.coefficients.index in
    let here = c.coefficients.from in
    let stands : StandsNext table index (bits_left c.stands_next.new.from) (bits_held c.stands_next.new.from) (Refused c.in-Refused.why c.in-Refused.behind) =
    subst (λ standing. StandsNext table index (bits_left c.stands_next.new.from) (bits_held c.stands_next.new.from) standing) c.in-Refused.is c.in_ok-standing.ensures.found in
    let window = stands.window in
    let shows : IfSome (bits_left here) (ShowsFront window) = subst (λ told. IfSome told (ShowsFront window)) c.in_ok-standing.ensures.left stands.shows in
    let table_is : table ≡ coefficient_table way index = c.requires.table ∙ sym (later-table way index c.coefficients.invariant.behind) in
    refused-read way before table index table_is c.coefficients.invariant.place.is window (bits_left here) (bits_left here) (place here)
    (place here) shows bits at c.in-Refused.why c.in-Refused.behind _ c.at.result
    (stands.found.0, stands.found.1) c.at.ensures (omega arith) (c.coefficients.invariant.so_far bits at r)
