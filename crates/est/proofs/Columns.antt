-- The columns of a list of pilots: an element is that of its pilot.
use Rattle.std.proofs.Common.{◌≡◌, ℕ, zero, suc, ◌+◌, ◌<◌, ◌≤◌, List, [], ◌∷◌, map, length, get_or, slice_index, refl, arith}
use lib.Ieee.{Float, nan}
use Rattle.dsp.specs.Arithmetic.{complex}
use Rattle.load.specs.declared.pilot.Pilot.{Pilot}
use Rattle.load.specs.Load.{nothing}
use Rattle.std.proofs.lemmas.List.{length-map}
use Rattle.solve.specs.Solve.{at}
use Rattle.near.specs.declared.query.Query.{Query}
use Rattle.est.specs.Columns.{carriers, symbols, variances, reals, imaginaries}
use Rattle.est.specs.Covariance.{Usable}
use Rattle.est.specs.declared.neighbours.Field.{Field}

pub nth_map : {A B : Type 0} (f : A → B) (l : List A) (i : ℕ) (z : A) (y : B) → i < length l → get_or (map f l) i y ≡ f (get_or l i z)
nth_map f [] i z y h = absurd (omega arith)
nth_map f (x ∷ xs) zero z y h = refl
nth_map f (x ∷ xs) (suc i) z y h = nth_map f xs i z y (omega arith)

module _ (ps : List Pilot) where
  pub long : length (carriers ps) ≡ length ps
  long = length-map ps (λ (p : Pilot). p.c)

  pub long_symbols : length (symbols ps) ≡ length ps
  long_symbols = length-map ps (λ (p : Pilot). p.g)

  module _ (i : ℕ) (h : i < length ps) where
    pub carrier_of : slice_index (carriers ps) i ≡ (get_or ps i nothing).c
    carrier_of = nth_map (λ (p : Pilot). p.c) ps i nothing 0 h

    pub symbol_of : slice_index (symbols ps) i ≡ (get_or ps i nothing).g
    symbol_of = nth_map (λ (p : Pilot). p.g) ps i nothing 0 h

    pub variance_of : at (variances ps) i ≡ (get_or ps i nothing).var
    variance_of = nth_map (λ (p : Pilot). p.var) ps i nothing nan h

    pub gain_of : (get_or ps i nothing).h ≡ complex (at (reals ps) i) (at (imaginaries ps) i)
    gain_of = rw (nth_map (λ (p : Pilot). p.h.re) ps i nothing nan h, nth_map (λ (p : Pilot). p.h.im) ps i nothing nan h) refl

-- what `covary` asks: of the cell and a pilot, and of two pilots
module _ (m : Field) (rf rt : List Float) (q : Query) (ps : List Pilot) (u : Usable m rf rt q (carriers ps) (symbols ps)) where
  pub near_cell : (i : ℕ) → i < length ps → (q.c < m.nc) × ((get_or ps i nothing).c < m.nc) × (q.g < 65536) × (q.g ≤ (get_or ps i nothing).g + m.gw2) × ((get_or ps i nothing).g ≤ q.g + m.gw2)
  near_cell i h =
      let k : i < length (carriers ps) = omega (arith, long ps) in
      let c = carrier_of ps i h in
      let g = symbol_of ps i h in
      (u.cell_c, omega (arith, c, u.carrier i k), u.cell_g, omega (arith, g, u.near i k), omega (arith, g, u.near i k))

  pub near_pilots : (i j : ℕ) → i < length ps → j < length ps
      → ((get_or ps i nothing).c < m.nc) × ((get_or ps j nothing).c < m.nc) × ((get_or ps i nothing).g < 65536) × ((get_or ps i nothing).g ≤ (get_or ps j nothing).g + m.gw2) × ((get_or ps j nothing).g ≤ (get_or ps i nothing).g + m.gw2)
  near_pilots i j h h' =
      let k : i < length (carriers ps) = omega (arith, long ps) in
      let k' : j < length (carriers ps) = omega (arith, long ps) in
      let g = symbol_of ps i h in
      let g' = symbol_of ps j h' in
      (omega (arith, carrier_of ps i h, u.carrier i k), omega (arith, carrier_of ps j h', u.carrier j k'), omega (arith, g, u.symbol i k), omega (arith, g, g', u.apart i j k k'), omega (arith, g, g', u.apart j i k' k))
