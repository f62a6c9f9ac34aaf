-- refine.rs, `refine`: the loop that fills slot_llr.
use Rattle.std.specs.Prelude.{ℕ, ◌+◌, ◌*◌, ◌/◌, ◌%◌, cond, List, get_or, Float}
use Rattle.std.specs.Float.{nan}
use Rattle.seq.specs.Cat.{cat}
use Rattle.seq.specs.Tab.{tab}
use Rattle.ieee.specs.Num.{◌⊞◌, ◌⊠◌, zero32}
use Rattle.dsp.specs.Arithmetic.{complex}
use Rattle.spread.specs.Flat.{complex_at, flat}
use Rattle.spread.specs.Spreader.{twiddles_of}
use Rattle.load.specs.declared.found.Source.{Source}
use Rattle.est.specs.declared.combine.Estimate.{Estimate}
use Rattle.demap.specs.Demap.{likelihoods}
use Rattle.expect.specs.declared.Shape.{Shape}
use Rattle.expect.specs.Expect.{row_means, row_variance}
use Rattle.equalize.specs.declared.filter.Equalized.{Equalized}
use Rattle.equalize.specs.Answer.{Answer}
use Rattle.equalize.specs.Sic.{sic_of}
use Rattle.judge.specs.Cells.{sample_of}

-- est::demap(y, hbuf[cell], mbuf[cell], self.cell_s2[cell], &pts_s, ..)
-- e is the estimate at the cell, and pts are scaled
unfoldable pub demapped : Source → List Float → ℕ → List Float → List Float → ℕ → Estimate → List Float
demapped s pts bps grid cells cell e = likelihoods (record { y = sample_of s grid cell; h = e.h; mse = e.mse; sigma2 = get_or cells cell nan }) pts bps

-- ---- symbol t of a spread burst: row j is hbuf[base + j] and mbuf[base + j], with base = t * dc;
-- pts are not scaled

-- ya[j] = y
unfoldable pub ya : Source → List Float → ℕ → List Float
ya s grid t = cat s.dc (λ j. flat (sample_of s grid (t * s.dc + j)))

-- &hbuf[base..base + dc]
unfoldable pub ha : ℕ → (ℕ → Estimate) → List Float
ha dc row = cat dc (λ j. flat (row j).h)

-- va[j] = self.cell_s2[cell] + mbuf[cell] * g2
unfoldable pub va : ℕ → Float → List Float → (ℕ → Estimate) → ℕ → List Float
va dc gain cells row t = tab dc (λ j. get_or cells (t * dc + j) nan ⊞ (row j).mse ⊠ (gain ⊠ gain))

-- let (mu, var) = sic(&ya[..dc], &hbuf[base..base + dc], &va[..dc], gain, &em[base..base + dc], ev[g - pre], z, &mut sp);
-- soft has em and what ev is made of
unfoldable pub equalized : Source → Float → List Float → List Float → List Float → (ℕ → Estimate) → ℕ → Answer Equalized
equalized s gain soft grid cells row t =
    sic_of s.dc (twiddles_of s.dc) (ya s grid t) (ha s.dc row) (va s.dc gain cells row t) gain (row_means s.dc soft t) (row_variance s.dc soft t)

-- (mu, var) and z
abbrev pub answer_of : Equalized → List Float → Answer Equalized
answer_of e z = record { result = e; z = z }

-- est::demap(zm, Complex::new(mu, 0.0), 0.0, var, &pts, ..)
unfoldable pub despread : List Float → ℕ → Answer Equalized → ℕ → List Float
despread pts bps a j = likelihoods (record { y = complex_at a.z j; h = complex a.result.mu zero32; mse = zero32; sigma2 = a.result.var }) pts bps

-- ---- the cell's stretch of slot_llr; est is hbuf and mbuf
unfoldable pub judged : Source → Shape → List Float → List Float → List Float → List Float → (ℕ → Estimate) → ℕ → List Float
judged s m pts soft grid cells est cell =
    let t = cell / s.dc in
    cond m.spread (despread pts m.bps (equalized s m.gain soft grid cells (λ j. est (t * s.dc + j)) t) (cell % s.dc))
    (demapped s pts m.bps grid cells cell (est cell))
