-- What the callers and the loops use of the definitions. Assumes nothing.
use Prim.Native.Nat.{ℕ, ◌%◌}
use mathlib.Core.Path.{◌≡◌, ap, ap₂, ◌∙◌}
use mathlib.Core.Bool.{Bool, true, false, cond}
use mathlib.Core.List.{List, ◌++◌}
use lib.ListN.{length, drop, get_or}
use lib.Ieee.{Float, nan}
use Rattle.seq.specs.Tab.Laws.{length_tab}
use Rattle.seq.specs.Cat.Laws.{cat-none}
use Rattle.ieee.specs.Num.{zero32}
use Rattle.dsp.specs.declared.Complex.{Complex}
use Rattle.dsp.specs.Arithmetic.{complex}
use Rattle.spread.specs.Flat.{complex_at}
use Rattle.load.specs.declared.pilot.Pilot.{Pilot}
use Rattle.load.specs.declared.found.Source.{Source}
use Rattle.est.specs.declared.combine.Estimate.{Estimate}
use Rattle.demap.specs.declared.metrics.Cell.{Cell}
use Rattle.demap.specs.Demap.{likelihood_of, metrics_of, likelihoods}
use Rattle.expect.specs.declared.Shape.{Shape}
use Rattle.equalize.specs.declared.filter.Equalized.{Equalized}
use Rattle.equalize.specs.Answer.{Answer}
use Rattle.judge.specs.declared.estimates.Fitted.{Fitted}
use Rattle.judge.specs.Upto.{Upto}
use Rattle.judge.specs.Cells.{sample_of}
use Rattle.judge.specs.Judge.{demapped, answer_of, despread, judged}
use Rattle.judge.proofs.Rows.{whole}

pub length_likelihoods : (c : Cell) (pts : List Float) (bps : ℕ) → length (likelihoods c pts bps) ≡ bps
unfolding likelihoods
length_likelihoods c pts bps = length_tab (likelihood_of (metrics_of c pts bps) bps) bps

pub length_demapped : (s : Source) (pts : List Float) (bps : ℕ) (grid cells : List Float) (cell : ℕ) (e : Estimate) → length (demapped s pts bps grid cells cell e) ≡ bps
unfolding demapped
length_demapped s pts bps grid cells cell e = length_likelihoods _ pts bps

pub length_despread : (pts : List Float) (bps : ℕ) (a : Answer Equalized) (j : ℕ) → length (despread pts bps a j) ≡ bps
unfolding despread
length_despread pts bps a j = length_likelihoods _ pts bps

pub length_judged : (s : Source) (m : Shape) (pts soft grid cells : List Float) (est : ℕ → Estimate) (cell : ℕ) → length (judged s m pts soft grid cells est cell) ≡ m.bps
unfolding judged
length_judged s m pts soft grid cells est cell = go m.spread _ _ (length_despread pts m.bps _ (cell % s.dc)) (length_demapped s pts m.bps grid cells cell (est cell))
  where
    go : (b : Bool) (x y : List Float) → length x ≡ m.bps → length y ≡ m.bps → length (cond b x y) ≡ m.bps
    go true x y e f = e
    go false x y e f = f

-- a cell demapped into a list of bps numbers
pub demapped_by : (s : Source) (pts : List Float) (bps : ℕ) (grid cells : List Float) (cell : ℕ) (e : Estimate) (y : Complex) (out : List Float) → y ≡ sample_of s grid cell → length out ≡ bps
    → likelihoods (record { y = y; h = e.h; mse = e.mse; sigma2 = get_or cells cell nan }) pts bps ++ drop bps out ≡ demapped s pts bps grid cells cell e
unfolding demapped
demapped_by s pts bps grid cells cell e y out q l =
    whole bps _ out l ∙ ap (λ (z : Complex). likelihoods (record { y = z; h = e.h; mse = e.mse; sigma2 = get_or cells cell nan }) pts bps) q

pub despread_by : (pts : List Float) (bps : ℕ) (e : Equalized) (z : List Float) (j : ℕ) (y h : Complex) (out : List Float) → y ≡ complex_at z j → h ≡ complex e.mu zero32 → length out ≡ bps
    → likelihoods (record { y = y; h = h; mse = zero32; sigma2 = e.var }) pts bps ++ drop bps out ≡ despread pts bps (answer_of e z) j
unfolding despread
despread_by pts bps e z j y h out q q' l =
    whole bps _ out l ∙ ap₂ (λ (u v : Complex). likelihoods (record { y = u; h = v; mse = zero32; sigma2 = e.var }) pts bps) q q'

-- nothing is judged yet
pub start_upto : (s : Source) (m : Shape) (f : Fitted) (ps : List Pilot) (start : List ℕ) (rf rt pts soft grid cells e a : List Float) → Upto s m f ps start rf rt pts soft grid cells 0 e a e a
start_upto s m f ps start rf rt pts soft grid cells e a = record { channel = cat-none 3 _ e; answer = cat-none m.bps _ a }
