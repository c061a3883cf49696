use Rattle.std.proofs.Common.{true, false, sym, subst}
use Rattle.picture_grammar.specs.Picture.{AreWeights}
use Rattle.bench_pictures.proofs.Weights.{default_are}
use Rattle.bench_pictures.proofs.coarsen.way.sequence.Goals as goal

pub returns : goal.returns
returns c = record {
  intra = subst AreWeights (sym c.default_matrix.ensures) (default_are true);
  non_intra = subst AreWeights (sym c.default_matrix-2.ensures) (default_are false);
}
