-- Every model of the nine layouts is one that `set_model` may be asked for: a test of their grids.
use Prim.{tt}
use Rattle.std.proofs.Common.{ℕ, zero, suc, ◌+◌, ◌<◌, Bool, true, false, cond, ◌&&◌, T, ltb, List, get_or, refl, arith, lit<, ltb→lt}
use lib.Ieee.{Float, nan, le, lt, eq, div, mul, of_int, of_bits}
use lib.Ieee.Fits.{and_l, and_r}
use Rattle.ieee.specs.Num.{◌⊗◌, ◌⊘◌, f64_of}
use Rattle.ieee.specs.Order.{abs_of}
use Rattle.layout.specs.declared.layouts.Layout.{Layout}
use Rattle.layout.specs.Layouts.{normal, long, normal_wide, long_wide, slice, slim, half, quarter, sixth, layouts, layout_of}
use Rattle.layout.proofs.Each.{each}
use Rattle.layout.proofs.Fits.{layout_fits}
use Rattle.layout.proofs.Bounds.{bounds}
use Rattle.est.specs.Constants.{fs, two, half as a_half}
use Rattle.model.specs.Laws.{RobustFallback}
use Rattle.model.specs.Values.{fd_grid, fd_value, tm_value, FitModels}

delay : Layout → Float → Bool
delay l tm = le (abs_of (tm ⊘ f64_of l.n)) a_half

doppler : Layout → Float → Bool
doppler l fd = le (abs_of (two ⊗ fd ⊗ (f64_of (l.n + l.cp) ⊘ fs))) a_half

-- all three of a grid
three : (Float → Bool) → List Float → Bool
three f xs = f (get_or xs 0 nan) && (f (get_or xs 1 nan) && f (get_or xs 2 nan))

fits : Layout → Bool
fits l = three (delay l) l.tm && (three (doppler l) l.fd && three (doppler l) l.fd_sparse)

tested : (number : ℕ) → T (fits (layout_of number))
unfolding layouts normal long normal_wide long_wide slice slim half quarter sixth fits three delay doppler le lt eq abs_of div mul of_int of_bits
tested = each (λ (l : Layout). T (fits l)) (tt, (tt, (tt, (tt, (tt, (tt, (tt, (tt, (tt, tt))))))))) tt

one : (f : Float → Bool) (xs : List Float) → T (three f xs) → (i : ℕ) → i < 3 → T (f (get_or xs i nan))
unfolding three
one f xs t zero h = and_l (f (get_or xs 0 nan)) _ t
one f xs t (suc zero) h = and_l (f (get_or xs 1 nan)) _ (and_r (f (get_or xs 0 nan)) _ t)
one f xs t (suc (suc zero)) h = and_r (f (get_or xs 1 nan)) _ (and_r (f (get_or xs 0 nan)) _ t)
one f xs t (suc (suc (suc i))) h = absurd (omega arith)

-- an index of one grid, or past its end the last of another
value : (f : Float → Bool) (xs ys : List Float) → T (three f xs) → T (three f ys) → (i : ℕ) → T (f (cond (ltb i 3) (get_or xs i nan) (get_or ys 2 nan)))
value f xs ys t u i = go (ltb i 3) (ltb→lt i 3)
  where
    go : (b : Bool) → (T b → i < 3) → T (f (cond b (get_or xs i nan) (get_or ys 2 nan)))
    go true h = one f xs t i (h tt)
    go false h = one f ys u 2 (lit< tt)

choice : (f : Float → Bool) (b : Bool) (xs ys : List Float) → T (three f xs) → T (three f ys) → T (three f (cond b xs ys))
choice f true xs ys t u = t
choice f false xs ys t u = u

pub models_fit : (number : ℕ) → FitModels (layout_of number)
unfolding FitModels fd_value tm_value fd_grid fits delay doppler
models_fit number sparse i j =
    let l = layout_of number in
    let t = tested number in
    let sizes = (layout_fits number).sizes in
    let delays = and_l (three (delay l) l.tm) _ t in
    let dopplers = and_r (three (delay l) l.tm) _ t in
    let robust = and_l (three (doppler l) l.fd) _ dopplers in
    let thin = and_r (three (doppler l) l.fd) _ dopplers in
    record {
      n = omega (arith, sizes.long);
      cp = omega (arith, sizes.prefix);
      nc = sizes.few;
      gw = omega (arith, (bounds.layout number sparse).gw_is);
      delay = value (delay l) l.tm l.tm delays delays j;
      doppler = value (doppler l) (cond sparse l.fd_sparse l.fd) l.fd (choice (doppler l) sparse l.fd_sparse l.fd thin robust) robust i;
    }

pub robust_fallback : (l : Layout) (sparse : Bool) → RobustFallback l sparse
unfolding fd_value tm_value
robust_fallback l sparse = record { fd = refl; tm = refl }
