-- The list of pilots: how long it is, that the starts ascend, and where each pilot stands. Assumes nothing.
use Prim.Native.Nat.{ℕ, zero, suc, ◌+◌, ◌-◌, ◌*◌, ◌≤◌, ◌<◌}
use mathlib.Core.Path.{◌≡◌, refl, sym, ap, ◌∙◌}
use mathlib.Core.List.{List, [], ◌++◌}
use native.Mathlib.Nat.{mul-one}
use native.Mathlib.Omega.{arith}
use lib.ListN.{length, get_or}
use lib.Ieee.{Float}
use Rattle.seq.specs.Cat.{cat}
use Rattle.seq.specs.Cat.Laws.{stretch, length_cat_le, cat_next, cat_order, place, cat_for}
use Rattle.seq.specs.Loop.Laws.{for_none, for_next}
use Rattle.seq.specs.Tab.Laws.{length_tab}
use Rattle.dsp.specs.declared.Complex.{Complex}
use Rattle.load.specs.declared.pilot.Pilot.{Pilot}
use Rattle.load.specs.declared.found.Found.{Found}
use Rattle.load.specs.declared.found.Source.{Source}
use Rattle.load.specs.declared.found.Found.TheVariants.{Known, Soft, Blank}
use Rattle.load.specs.Load.{sample_at, pilot_of, pushed, nothing, loaded_at, loaded_row, loaded, start_of}
use Rattle.load.specs.Laws.{Sits}
use Rattle.load.specs.Fit.{places}
use Rattle.load.specs.Work.{Loads}

-- a list and the parts that a loop appends to it: none yet, one more
pub none_more : {A : Type 0} (f : ℕ → List A) (l : List A) → l ≡ l ++ cat 0 f
none_more f l = for_none (λ i r. r ++ f i) 0 l ∙ cat_for f 0 l

pub one_more : {A : Type 0} (f : ℕ → List A) (k : ℕ) (l : List A) → l ++ cat (k + 1) f ≡ (l ++ cat k f) ++ f k
one_more {A} f k l = sym (cat_for f (k + 1) l) ∙ (for_next (λ (i : ℕ) (r : List A). r ++ f i) 0 k l (omega arith) ∙ ap (λ (r : List A). r ++ f k) (cat_for f k l))

at_most_one : (c g : ℕ) (y : Complex) (f : Found) → length (pushed c g y f) ≤ 1
at_most_one c g y (Known x v) = omega arith
at_most_one c g y (Soft x v) = omega arith
at_most_one c g y Blank = omega arith

record At (c g : ℕ) (p : Pilot) : Type 0 where
  carrier : p.c ≡ c
  symbol : p.g ≡ g

at_place : (c g : ℕ) (y : Complex) (f : Found) (t : ℕ) → t < length (pushed c g y f) → At c g (get_or (pushed c g y f) t nothing)
unfolding pilot_of
at_place c g y (Known x v) zero h = record { carrier = refl; symbol = refl }
at_place c g y (Known x v) (suc t) h = absurd (omega arith)
at_place c g y (Soft x v) zero h = record { carrier = refl; symbol = refl }
at_place c g y (Soft x v) (suc t) h = absurd (omega arith)
at_place c g y Blank t h = absurd (omega arith)

module _ (nc : ℕ) (grid : List Float) (value : ℕ → ℕ → Found) where
  -- the pilots of a symbol's carriers below n
  pub row_le : (g n : ℕ) → length (cat n (loaded_at nc grid value g)) ≤ n
  row_le g n = rw mul-one at (length_cat_le 1 (loaded_at nc grid value g) (λ c. at_most_one c g (sample_at grid (g * nc + c)) (value c g)) n)

  pub carrier_below : (g n k : ℕ) → k < length (cat n (loaded_at nc grid value g)) → (get_or (cat n (loaded_at nc grid value g)) k nothing).c < n
  carrier_below g n k h =
      let s = place (loaded_at nc grid value g) nothing n k h in
      rw s.same (omega (arith, s.part, (at_place s.k g (sample_at grid (g * nc + s.k)) (value s.k g) s.t s.element).carrier))

  pub length_loaded : (g : ℕ) → length (loaded nc grid value g) ≤ g * nc
  unfolding loaded loaded_row
  length_loaded g = length_cat_le nc (loaded_row nc grid value) (λ k. row_le k nc) g

  pub loaded_next : (g : ℕ) → loaded nc grid value (g + 1) ≡ loaded nc grid value g ++ cat nc (loaded_at nc grid value g)
  unfolding loaded loaded_row
  loaded_next g = one_more (loaded_row nc grid value) g []

  pub start_none : start_of nc grid value 0 ≡ 0
  unfolding start_of
  start_none = omega (arith, length_loaded 0)

  pub start_next : (g : ℕ) → start_of nc grid value (g + 1) ≡ start_of nc grid value g + length (cat nc (loaded_at nc grid value g))
  unfolding start_of loaded loaded_row
  start_next g = cat_next (loaded_row nc grid value) g

  pub starts_ascend : (a b : ℕ) → a ≤ b → start_of nc grid value a ≤ start_of nc grid value b
  unfolding start_of loaded
  starts_ascend a b h = let e : a + (b - a) ≡ b = omega arith in rw e at (cat_order (loaded_row nc grid value) a (b - a))

  pub start_within : (g ng : ℕ) → g ≤ ng → start_of nc grid value g ≤ ng * nc
  unfolding start_of
  start_within g ng h = omega (arith, starts_ascend g ng h, length_loaded ng)

  -- there is room for one more
  pub room_left : (ng g c : ℕ) → g < ng → c < nc → start_of nc grid value g + length (cat c (loaded_at nc grid value g)) < ng * nc
  unfolding start_of
  room_left ng g c hg hc = omega (arith, length_loaded g, row_le g c, stretch g ng nc (ng * nc) hg (omega arith))

  pub sits : (ng i : ℕ) → i < length (loaded nc grid value ng) → Sits nc grid value ng i (get_or (loaded nc grid value ng) i nothing)
  unfolding start_of loaded loaded_row
  sits ng i h =
      let p = place (loaded_row nc grid value) nothing ng i h in
      let q = place (loaded_at nc grid value p.k) nothing nc p.t p.element in
      let a = at_place q.k p.k (sample_at grid (p.k * nc + q.k)) (value q.k p.k) q.t q.element in
      rw (p.same, q.same) (record { carrier = rw a.carrier q.part; symbol = rw a.symbol p.part; from = rw a.symbol p.from; upto = rw a.symbol p.upto })

-- no more pilots than places
pub few_loaded : (s : Source) (grid : List Float) (v : ℕ → ℕ → Found) (w : List ℕ) (pf : List Float) (np : ℕ) → Loads s grid v w pf np → np ≤ places s
few_loaded s grid v w pf np l = omega (arith, sym (length_tab _ np) ∙ ap length l.same, length_loaded s.map.nc grid v s.ng)
