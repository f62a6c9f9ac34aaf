-- `pick` meets its contract, by the two ways that it goes.
use mathlib.Core.Path.{◌∙◌}
use native.Mathlib.Omega.{arith}
use Rattle.near.specs.Searched.{skips_of, keys_of}
use Rattle.near.proofs.Gathered.{few}
use Rattle.near.proofs.Selected.{many}
use Rattle.near.proofs.query.Search.pick.Goals as goal

pub returns-then-n-self : goal.returns-then-n-self
returns-then-n-self c =
    let s = c.args.self.now in
    record { most = omega arith; same = few s.w.k (skips_of s) (keys_of s) s.lo s.hi _ _ (omega arith) c.gather-n.ensures }

pub returns : goal.returns
returns c =
    let s = c.args.self.now in
    let p = s.span in
    let r = c.select-near in
    let u = c.unpack in
    record {
      most = omega (arith, u.ensures.0, r.ensures.few);
      same = u.ensures.1 ∙ many s.w.k (skips_of s) (keys_of s) s.lo s.mid s.hi p.few p.below p.above _ (c.gather-n.ensures.many c.if-n-self.false) r.ensures.nearest;
    }
