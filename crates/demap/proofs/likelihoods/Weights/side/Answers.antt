-- `side` asks ln for the sum, which is a NaN or at least 1, also where the shared exponentials give it.
use mathlib.Core.Path.{sym, ◌∙◌}
use Rattle.demap.specs.Demap.{side_of}
use Rattle.demap.proofs.Sums.{ln_asked}
use Rattle.demap.proofs.Sharing.{picked_is}
use Rattle.demap.proofs.likelihoods.Weights.side.Goals as goal

pub ln-requires : goal.ln-requires
ln-requires c =
    let w = c.args.self.now in
    let own = picked_is w.d.at w.d.bps c.args.b c.args.bit w.most w.e.at w.shared (sym c.top-m.ensures ∙ c.same.ensures c.if-same.true) in
    rw (c.sum.ensures, w.alike, own) (ln_asked _ _ _ _ c.requires.0 w.d.few c.requires.1)

pub returns-then-same : goal.returns-then-same
unfolding side_of
returns-then-same c =
    let w = c.args.self.now in
    let own = picked_is w.d.at w.d.bps c.args.b c.args.bit w.most w.e.at w.shared (sym c.top-m.ensures ∙ c.same.ensures c.if-same.true) in
    rw (c.top-m.ensures, c.ln.ensures, c.sum.ensures, w.alike, own)
