use Rattle.std.proofs.Common.{List, ap, subst, subst₂, sym, ◌∙◌, arith}
use Rattle.file_pieces.specs.declared.lane.Lane.{Lane}
use Rattle.file_pieces.specs.declared.lane_state.LaneState.{LaneState}
use Rattle.file_pieces.specs.FilePieces.{AreServed, IsServed, LaneHas}
use Rattle.file_pieces.specs.Private.Calls.{IsSentOf, stop_for}
use Rattle.file_pieces.proofs.Lanes.{have_at, have_within, sent_in, served_at, served_many, served_set}
use Rattle.file_pieces.proofs.ReadsLemmas.{err_reads, ok_reads}
use Rattle.file_pieces.proofs.Served.{ends_served, gives_served}
use Rattle.file_pieces.proofs.kept_pieces.FilePieces.piece.Goals as goal

pub index_mut-state-requires : goal.index_mut-state-requires
index_mut-state-requires g c =
    let number = c.args.number in
    let within = have_within c.args.lanes.now number.stream number.item number.piece c.requires.piece in
    let many = served_many (g.K.Shelf.files c.args.shelf.now) c.args.lanes.now c.args.self.now.states.items c.requires.served in
    let size = c.args.self.now.states.ok.0 in
    omega (arith, within, many, size)

pub lane_piece-requires-clause-served : goal.lane_piece-requires-clause-served
lane_piece-requires-clause-served g c =
    let number = c.args.number in
    let told = g.K.Shelf.files c.args.shelf.now in
    let lane = c.index-lanes-stream.result in
    let state = c.index_mut-state.result.now in
    let within = have_within c.args.lanes.now number.stream number.item number.piece c.requires.piece in
    subst₂ (λ (l : Lane) (s : LaneState). IsServed told l s) (sym c.index-lanes-stream.is) (sym c.index_mut-state.ensures.value)
    (served_at told c.args.lanes.now c.args.self.now.states.items number.stream lane state c.requires.served within)

pub lane_piece-requires-clause-piece : goal.lane_piece-requires-clause-piece
lane_piece-requires-clause-piece g c =
    let number = c.args.number in
    subst (λ (l : Lane). LaneHas l number.item number.piece) (sym c.index-lanes-stream.is)
    (have_at c.args.lanes.now number.stream number.item number.piece c.index-lanes-stream.result c.requires.piece)

pub returns-in-Ok-clause-served : goal.returns-in-Ok-clause-served
returns-in-Ok-clause-served g c =
    let number = c.args.number in
    let told = g.K.Shelf.files c.args.shelf.now in
    let within = have_within c.args.lanes.now number.stream number.item number.piece c.requires.piece in
    served_set told c.args.lanes.now c.args.self.now.states.items number.stream c.index-lanes-stream.result c.lane_piece.new.state c.requires.served within
    (subst (λ (l : Lane). IsServed told l c.lane_piece.new.state) c.index-lanes-stream.is c.in-Ok.ensures.served)

pub returns-in-Ok-clause-piece : goal.returns-in-Ok-clause-piece
returns-in-Ok-clause-piece g c =
    let number = c.args.number in
    let told = g.K.Shelf.files c.args.shelf.now in
    sent_in told c.args.lanes.now number.stream number.item number.piece c.index-lanes-stream.result c.lane_piece.new.into c.in-Ok.filled c.requires.piece
    (subst (λ (l : Lane). IsSentOf told l number.item number.piece c.lane_piece.new.into c.in-Ok.filled) c.index-lanes-stream.is c.in-Ok.ensures.piece)

pub returns-in-Ok-clause-shelf : goal.returns-in-Ok-clause-shelf
returns-in-Ok-clause-shelf g c =
    let number = c.args.number in
    let within = have_within c.args.lanes.now number.stream number.item number.piece c.requires.piece in
    gives_served c.args.lanes.now number.stream c.args.self.now.stop c.index-lanes-stream.result _ _ _ _ _ _ _ c.requires.going c.index-lanes-stream.is within
    (ok_reads c.in-Ok.filled _ _ _ _ _ _ _ _ c.in-Ok.ensures.reads)

pub returns-in-Err-clause-served : goal.returns-in-Err-clause-served
returns-in-Err-clause-served g c =
    let number = c.args.number in
    let told = g.K.Shelf.files c.args.shelf.now in
    let within = have_within c.args.lanes.now number.stream number.item number.piece c.requires.piece in
    subst (λ (ss : List LaneState). AreServed told c.args.lanes.now ss) (sym {A = List LaneState} c.end.ensures.states)
    (served_set told c.args.lanes.now c.args.self.now.states.items number.stream c.index-lanes-stream.result c.lane_piece.new.state c.requires.served within
    (subst (λ (l : Lane). IsServed told l c.lane_piece.new.state) c.index-lanes-stream.is c.in-Err.ensures.served))

pub returns-in-Err-clause-shelf : goal.returns-in-Err-clause-shelf
returns-in-Err-clause-shelf g c =
    let number = c.args.number in
    let within = have_within c.args.lanes.now number.stream number.item number.piece c.requires.piece in
    ends_served c.args.lanes.now number.stream c.in-Err.fault c.end.new.self.stop c.index-lanes-stream.result _ _ _ _ _ _ _ _ _ _ _
    (c.end.ensures.stop ∙ ap (stop_for number.stream c.in-Err.fault) c.requires.going) c.index-lanes-stream.is within
    (err_reads c.in-Err.fault _ _ _ _ _ _ _ _ c.in-Err.ensures.reads) c.end.ensures.files c.end.ensures.counts c.end.ensures.asked c.end.ensures.last c.end.ensures.since
