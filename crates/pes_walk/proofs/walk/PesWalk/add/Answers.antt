use Rattle.std.proofs.Common.{◌≡◌, ℕ, ◌-◌, Bool, [], Option, Some, IsSome, cond, length, drop, ap, sym, subst, ◌∙◌, arith}
use Rattle.pes_units.specs.PesHeader.{header_length}
use Rattle.pes_walk.specs.Walk.{carried_as}
use Rattle.pes_walk.proofs.Walking.{walked}
use Rattle.pes_walk.proofs.Data.{data_comes}
use Rattle.pes_walk.proofs.walk.PesWalk.add.Goals as goal

pub returns-clause-walked : goal.returns-clause-walked
returns-clause-walked c = λ carried closed last has.
    (let old = c.args.self.now in
    let x = carried_as c.args.at c.args.start c.args.payload.now in
    walked carried closed last x old c.go_on.new.self c.turn.new.self.begun c.turn.new.self.front.items has (record {
      turned = c.turn.ensures.begun ∙ ap (λ (s : Bool). cond s (Some c.args.at) old.begun) c.begins.ensures;
      cleared = c.turn.ensures.front ∙ ap (λ (s : Bool). cond s [] old.front.items) c.begins.ensures;
      place = c.go_on.ensures.begun;
      none = c.go_on.ensures.none;
      more = c.in_ok-go_on.ensures.front;
    }))

pub returns-clause-behind : goal.returns-clause-behind
returns-clause-behind c = λ carried closed last has.
    (let old = c.args.self.now in
    let x = carried_as c.args.at c.args.start c.args.payload.now in
    let new = c.go_on.new.self in
    let before = c.turn.new.self in
    let count : c.len-before.result ≡ length before.front.items = omega (arith, c.len-before.ensures) in
    data_comes carried closed last x old new before.begun before.front.items c.data_in.result.now has (record {
      turned = c.turn.ensures.begun ∙ ap (λ (s : Bool). cond s (Some c.args.at) old.begun) c.begins.ensures;
      cleared = c.turn.ensures.front ∙ ap (λ (s : Bool). cond s [] old.front.items) c.begins.ensures;
      place = c.go_on.ensures.begun;
      none = c.go_on.ensures.none;
      more = c.in_ok-go_on.ensures.front;
    }) (record {
      none = λ no. c.data_in.ensures.none (c.go_on.ensures.begun ∙ no);
      some = λ some. c.data_in.ensures.some (subst (λ (begun : Option ℕ). IsSome begun) (sym c.go_on.ensures.begun) some)
          ∙ ap (λ (n : ℕ). drop (header_length new.front.items - n) c.args.payload.now) count;
    }))
