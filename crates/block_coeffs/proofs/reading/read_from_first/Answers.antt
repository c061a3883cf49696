use Rattle.std.specs.Option.{option_map}
use Rattle.std.proofs.Common.{rules, ℤ, w16, SFits, to_z, of_z, ◌≡◌, ◌+◌, drop, IfSome, ap, subst, ◌∙◌, arith}
use Rattle.std.proofs.lemmas.Int.{to_z-of_z}
use Rattle.prefix_codes.specs.declared.table_name.TableName.TheVariants.{CoeffFirst}
use Rattle.bit_cursor.specs.BitReader.{bits_left, bits_held, place}
use Rattle.shelf_io.specs.Source.{without_front}
use Rattle.grammar_reading.specs.Window.{ShowsFront}
use Rattle.block_coeffs.specs.Private.Pairs.{IsBehind}
use Rattle.block_coeffs.specs.Private.ShortCodes.{level_of}
use Rattle.block_coeffs.specs.Private.Standing.{ShowsKnown, StandsNext}
use Rattle.block_coeffs.specs.declared.standing.Standing.TheVariants.{EndOfBlock, Pair, Refused}
use Rattle.block_coeffs.proofs.Coefficients.{none-read, none-behind, inter-place, inter-first, pair-read, end-read, refused-read, advances-result}
use Rattle.block_coeffs.proofs.Steps.{advances-known}
use Rattle.block_coeffs.proofs.reading.read_from_first.Goals as goal

pub returns-in-EndOfBlock-clause-ok : goal.returns-in-EndOfBlock-clause-ok
returns-in-EndOfBlock-clause-ok g c =
    let way = c.args.way in
    let items = c.args.into.now.items in
    let here = c.args.from.now in
    let stands : StandsNext CoeffFirst 0 (bits_left c.stands_next.new.from) (bits_held c.stands_next.new.from) (EndOfBlock c.in-EndOfBlock.len) =
    subst (λ standing. StandsNext CoeffFirst 0 (bits_left c.stands_next.new.from) (bits_held c.stands_next.new.from) standing) c.in-EndOfBlock.is c.in_ok-standing.ensures.found in
    let window = stands.window in
    let shows : IfSome (bits_left here) (ShowsKnown window) = subst (λ told. IfSome told (ShowsKnown window)) c.in_ok-standing.ensures.left stands.shows in
    let behind : IsBehind way 0 items = none-behind way items 0 (inter-place way c.requires.way) (omega arith) c.requires.none in
    let len = c.in-EndOfBlock.len in
    end-read way items CoeffFirst 0 (inter-first way c.requires.way) behind.is window (bits_left here) (bits_left c.skip.new.self) (place here)
    (place c.skip.new.self) shows (bits_left here) (place here) len (stands.found.0, stands.found.1)
    (c.skip.ensures.left ∙ ap (λ told. option_map (drop len) told) c.in_ok-standing.ensures.left)
    (c.skip.ensures.place ∙ ap (λ n. n + len) c.in_ok-standing.ensures.stays) (none-read way items (bits_left here) (place here) c.requires.none)

pub returns-in-Refused-clause-refused : goal.returns-in-Refused-clause-refused
returns-in-Refused-clause-refused g c =
    let way = c.args.way in
    let items = c.args.into.now.items in
    let here = c.args.from.now in
    let stands : StandsNext CoeffFirst 0 (bits_left c.stands_next.new.from) (bits_held c.stands_next.new.from) (Refused c.in-Refused.why c.in-Refused.behind) =
    subst (λ standing. StandsNext CoeffFirst 0 (bits_left c.stands_next.new.from) (bits_held c.stands_next.new.from) standing) c.in-Refused.is c.in_ok-standing.ensures.found in
    let window = stands.window in
    let shows : IfSome (bits_left here) (ShowsFront window) = subst (λ told. IfSome told (ShowsFront window)) c.in_ok-standing.ensures.left stands.shows in
    let behind : IsBehind way 0 items = none-behind way items 0 (inter-place way c.requires.way) (omega arith) c.requires.none in
    refused-read way items CoeffFirst 0 (inter-first way c.requires.way) behind.is window (bits_left here) (bits_left here) (place here)
    (place here) shows (bits_left here) (place here) c.in-Refused.why c.in-Refused.behind _ c.at.result
    (stands.found.0, stands.found.1) c.at.ensures (omega arith) (none-read way items (bits_left here) (place here) c.requires.none)

pub returns-in-Pair-clause-ok : goal.returns-in-Pair-clause-ok
returns-in-Pair-clause-ok g c =
    let way = c.args.way in
    let items = c.args.into.now.items in
    let here = c.args.from.now in
    let after = c.skip-in-Pair.new.self in
    let stands : StandsNext CoeffFirst 0 (bits_left c.stands_next.new.from) (bits_held c.stands_next.new.from) (Pair c.in-Pair.word c.in-Pair.next) =
    subst (λ standing. StandsNext CoeffFirst 0 (bits_left c.stands_next.new.from) (bits_held c.stands_next.new.from) standing) c.in-Pair.is c.in_ok-standing.ensures.found in
    let window = stands.window in
    let shows : IfSome (bits_left here) (ShowsKnown window) = subst (λ told. IfSome told (ShowsKnown window)) c.in_ok-standing.ensures.left stands.shows in
    let behind : IsBehind way 0 items = none-behind way items 0 (inter-place way c.requires.way) (omega arith) c.requires.none in
    let len = c.length_in.result in
    let fits : SFits w16 c.level_in.result = search rules in
    let held : ℤ = to_z w16 (of_z w16 c.level_in.result) in
    let level : held ≡ level_of c.in-Pair.word = to_z-of_z w16 c.level_in.result fits ∙ c.level_in.ensures in
    let left : bits_left after ≡ without_front (bits_left here) len = c.skip-in-Pair.ensures.left ∙ ap (λ told. option_map (drop len) told) c.in_ok-standing.ensures.left in
    let moved : place after ≡ place here + len = c.skip-in-Pair.ensures.place ∙ ap (λ n. n + len) c.in_ok-standing.ensures.stays in
    c.read_others.ensures.ok (bits_left here) (place here)
    (pair-read way items CoeffFirst 0 (inter-first way c.requires.way) behind.is window (bits_left here) (bits_left after) (place here)
    (place after) shows (bits_left here) (place here) c.in-Pair.word c.in-Pair.next c.run_in.result held len c.push.new.self.items
    (stands.found.0, stands.found.1) c.run_in.ensures.place level c.length_in.ensures left moved c.push.ensures.items (none-read way items (bits_left here) (place here) c.requires.none))

pub returns-in-Pair-clause-refused : goal.returns-in-Pair-clause-refused
returns-in-Pair-clause-refused g c =
    let way = c.args.way in
    let items = c.args.into.now.items in
    let here = c.args.from.now in
    let after = c.skip-in-Pair.new.self in
    let stands : StandsNext CoeffFirst 0 (bits_left c.stands_next.new.from) (bits_held c.stands_next.new.from) (Pair c.in-Pair.word c.in-Pair.next) =
    subst (λ standing. StandsNext CoeffFirst 0 (bits_left c.stands_next.new.from) (bits_held c.stands_next.new.from) standing) c.in-Pair.is c.in_ok-standing.ensures.found in
    let window = stands.window in
    let shows : IfSome (bits_left here) (ShowsKnown window) = subst (λ told. IfSome told (ShowsKnown window)) c.in_ok-standing.ensures.left stands.shows in
    let behind : IsBehind way 0 items = none-behind way items 0 (inter-place way c.requires.way) (omega arith) c.requires.none in
    let len = c.length_in.result in
    let fits : SFits w16 c.level_in.result = search rules in
    let held : ℤ = to_z w16 (of_z w16 c.level_in.result) in
    let level : held ≡ level_of c.in-Pair.word = to_z-of_z w16 c.level_in.result fits ∙ c.level_in.ensures in
    let left : bits_left after ≡ without_front (bits_left here) len = c.skip-in-Pair.ensures.left ∙ ap (λ told. option_map (drop len) told) c.in_ok-standing.ensures.left in
    let moved : place after ≡ place here + len = c.skip-in-Pair.ensures.place ∙ ap (λ n. n + len) c.in_ok-standing.ensures.stays in
    c.read_others.ensures.refused (bits_left here) (place here)
    (pair-read way items CoeffFirst 0 (inter-first way c.requires.way) behind.is window (bits_left here) (bits_left after) (place here)
    (place after) shows (bits_left here) (place here) c.in-Pair.word c.in-Pair.next c.run_in.result held len c.push.new.self.items
    (stands.found.0, stands.found.1) c.run_in.ensures.place level c.length_in.ensures left moved c.push.ensures.items (none-read way items (bits_left here) (place here) c.requires.none))

pub returns-in-Pair-clause-advances : goal.returns-in-Pair-clause-advances
returns-in-Pair-clause-advances g c =
    let way = c.args.way in
    let items = c.args.into.now.items in
    let here = c.args.from.now in
    let after = c.skip-in-Pair.new.self in
    let stands : StandsNext CoeffFirst 0 (bits_left c.stands_next.new.from) (bits_held c.stands_next.new.from) (Pair c.in-Pair.word c.in-Pair.next) =
    subst (λ standing. StandsNext CoeffFirst 0 (bits_left c.stands_next.new.from) (bits_held c.stands_next.new.from) standing) c.in-Pair.is c.in_ok-standing.ensures.found in
    let window = stands.window in
    let shows : IfSome (bits_left here) (ShowsKnown window) = subst (λ told. IfSome told (ShowsKnown window)) c.in_ok-standing.ensures.left stands.shows in
    let behind : IsBehind way 0 items = none-behind way items 0 (inter-place way c.requires.way) (omega arith) c.requires.none in
    let len = c.length_in.result in
    let left : bits_left after ≡ without_front (bits_left here) len = c.skip-in-Pair.ensures.left ∙ ap (λ told. option_map (drop len) told) c.in_ok-standing.ensures.left in
    let moved : place after ≡ place here + len = c.skip-in-Pair.ensures.place ∙ ap (λ n. n + len) c.in_ok-standing.ensures.stays in
    advances-result (bits_left here) (bits_left after) (bits_left c.read_others.new.from) (place here) (place after)
    (place c.read_others.new.from) c.read_others.result (advances-known (bits_left here) (bits_left after) window len (place here)
    (place after) shows (omega (arith, stands.found.1.0, c.length_in.ensures)) left moved) c.read_others.ensures.advances
