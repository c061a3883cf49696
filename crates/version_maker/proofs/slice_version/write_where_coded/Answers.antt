use Rattle.std.proofs.Common.{◌≡◌, OnOk, true, false, ap, sym, subst, ◌∙◌, append-nil}
use Rattle.std.specs.List.{flat_map}
use Rattle.std.specs.Option.{option_to_list}
use Rattle.picture_grammar.specs.Written.{written_macroblock}
use Rattle.requantiser.specs.VersionState.{made_of}
use Rattle.macroblock_writer.specs.Private.Going.{GoesOn}
use Rattle.macroblock_writer.proofs.Going.{goes-as, goes-nowhere}
use Rattle.version_maker.proofs.MadeSlices.{goes-when}
use Rattle.version_maker.proofs.slice_version.write_where_coded.Goals as goal

pub returns-then-not-coded : goal.returns-then-not-coded
returns-then-not-coded g c =
    let coded : c.args.coded ≡ false = c.if-not-coded.true in
    goes-as (goes-nowhere c.args.to.now c.requires.goes)
    (ap (λ b. flat_map (written_macroblock c.args.coding.now) (option_to_list (made_of b c.args.made.now))) (sym coded))

pub write_macroblock-requires-clause-spelled : goal.write_macroblock-requires-clause-spelled
write_macroblock-requires-clause-spelled g c =
    let s = c.requires.spelled c.if-not-coded.false in
    (s.first, s.columns_left, record { bits = s.bits; rest = s.rest; spelled = s.spelled })

pub returns : goal.returns
returns g c =
    let coded : c.args.coded ≡ true = c.if-not-coded.false in
    subst (λ bits. OnOk c.in_memory.result (GoesOn g.K.Sink.written c.args.to.now c.write_macroblock.new.to bits))
    (sym (append-nil (written_macroblock c.args.coding.now c.args.made.now)) ∙ ap (λ b. flat_map (written_macroblock c.args.coding.now) (option_to_list (made_of b c.args.made.now))) (sym coded))
    (goes-when c.write_macroblock.result c.in_memory.result c.in_memory.ensures c.write_macroblock.ensures.writes)
