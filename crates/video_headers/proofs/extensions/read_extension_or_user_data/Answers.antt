use Rattle.std.proofs.Common.{refl, sym, ◌∙◌}
use Rattle.video_headers.proofs.Items.{has-extension, item-extension, item-no_extension, item-user_data, item-no_user_data}
use Rattle.video_headers.proofs.extensions.read_extension_or_user_data.Goals as goal

pub read_extension-requires : goal.read_extension-requires
read_extension-requires g c = has-extension c.args.part c.args.next.comes c.requires (sym c.is.ensures ∙ c.if-is.true)

pub returns-in_err-loaded-clause-answers : goal.returns-in_err-loaded-clause-answers
returns-in_err-loaded-clause-answers g c =
    item-no_extension c.args.part c.args.next c.requires g.met.S.Source.keeps_on g.met.S.Source.keeps_itself
    (sym c.is.ensures ∙ c.if-is.true) c.from_residual.result c.from_residual.ensures.1 c.in_err-loaded.ensures.answers

pub returns-then-is-clause-answers : goal.returns-then-is-clause-answers
returns-then-is-clause-answers g c =
    item-extension c.args.part c.args.next c.requires g.met.S.Source.keeps_on g.met.S.Source.keeps_itself (sym c.is.ensures ∙ c.if-is.true) c.in_ok-loaded.loaded c.in_ok-loaded.ensures.answers

pub returns-in_err-read_unread-clause-answers : goal.returns-in_err-read_unread-clause-answers
returns-in_err-read_unread-clause-answers g c =
    item-no_user_data c.args.part c.args.next c.requires g.met.S.Source.keeps_on g.met.S.Source.keeps_itself
    (sym c.is.ensures ∙ c.if-is.false) c.from_residual-in_err-read_unread.result c.from_residual-in_err-read_unread.ensures.1
    c.in_err-read_unread.ensures

pub returns-clause-answers : goal.returns-clause-answers
returns-clause-answers g c =
    item-user_data c.args.part c.args.next c.requires g.met.S.Source.keeps_on g.met.S.Source.keeps_itself (sym c.is.ensures ∙ c.if-is.false) _ refl c.in_ok-read_unread.ensures
