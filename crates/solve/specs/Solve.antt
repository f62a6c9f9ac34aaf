-- est.rs, `solve_spd`, line by line. A 40 x 40 matrix is a list of 1600 numbers, row by row.
use Rattle.std.specs.Prelude.{ℕ, ◌+◌, ◌*◌, List, get_or, set, replicate, Float}
use Rattle.std.specs.Float.{nan, binary64}
use Rattle.std.specs.Float.Ieee.{of_bits}
use Rattle.seq.specs.Loop.{for, back}
use Rattle.ieee.specs.Num.{◌⊖◌, ◌⊗◌, ◌⊘◌, zero64}
use Rattle.ieee.specs.Order.{max_of, abs_of}
use Rattle.ieee.specs.Root.{rooted}

-- v[i]
abbrev pub at : List Float → ℕ → Float
at v i = get_or v i nan

-- a[i][j], and a[i][j] = x
abbrev pub at2 : List Float → ℕ → ℕ → Float
at2 a i j = get_or a (i * 40 + j) nan

abbrev pub put2 : List Float → ℕ → ℕ → Float → List Float
put2 a i j x = set a (i * 40 + j) x

-- [0f64; KMAX]
abbrev pub zeros : List Float
zeros = replicate 40 zero64

-- 1e-12 and 1e-300
abbrev pub e_12 : Float
e_12 = of_bits binary64 0x3d71_9799_812d_ea11

abbrev pub e_300 : Float
e_300 = of_bits binary64 0x01a5_6e1f_c2f8_f359

-- s -= a[i][p] * a[j][p]
abbrev pub minus_rows : List Float → ℕ → ℕ → ℕ → Float → Float
minus_rows a i j p s = s ⊖ at2 a i p ⊗ at2 a j p

-- let mut s = a[i][j]; for p in 0..j { s -= a[i][p] * a[j][p]; } and, with i = j, the same of d
unfoldable pub reduced : List Float → ℕ → ℕ → Float
reduced a i j = for 0 j (minus_rows a i j) (at2 a i j)

-- let d = d.max(1e-12 * a[j][j].abs().max(1e-300)).sqrt()
unfoldable pub diagonal : List Float → ℕ → Float
diagonal a j = rooted binary64 (max_of (reduced a j j) (e_12 ⊗ max_of (abs_of (at2 a j j)) e_300))

-- a[i][j] = s / d
abbrev pub below : ℕ → Float → ℕ → List Float → List Float
below j d i a = put2 a i j (reduced a i j ⊘ d)

-- a[j][j] = d; for i in j + 1..k { a[i][j] = s / d; }
unfoldable pub column : ℕ → ℕ → List Float → List Float
column k j a = for (j + 1) k (below j (diagonal a j)) (put2 a j j (diagonal a j))

-- for j in 0..k { .. }
unfoldable pub factor : ℕ → List Float → List Float
factor k a = for 0 k (column k) a

-- s -= a[i][p] * y[p]
abbrev pub minus_forward : List Float → List Float → ℕ → ℕ → Float → Float
minus_forward a y i p s = s ⊖ at2 a i p ⊗ at y p

-- let mut s = b[i]; for p in 0..i { s -= a[i][p] * y[p]; }
unfoldable pub forward_sum : List Float → List Float → List Float → ℕ → Float
forward_sum a b y i = for 0 i (minus_forward a y i) (at b i)

-- y[i] = s / a[i][i]
abbrev pub forward_row : List Float → List Float → ℕ → List Float → List Float
forward_row a b i y = set y i (forward_sum a b y i ⊘ at2 a i i)

-- let mut y = [0f64; KMAX]; for i in 0..k { .. }
unfoldable pub forward : ℕ → List Float → List Float → List Float
forward k a b = for 0 k (forward_row a b) zeros

-- s -= a[p][i] * w[p]
abbrev pub minus_backward : List Float → List Float → ℕ → ℕ → Float → Float
minus_backward a w i p s = s ⊖ at2 a p i ⊗ at w p

-- let mut s = y[i]; for p in i + 1..k { s -= a[p][i] * w[p]; }
unfoldable pub backward_sum : ℕ → List Float → List Float → List Float → ℕ → Float
backward_sum k a y w i = for (i + 1) k (minus_backward a w i) (at y i)

-- w[i] = s / a[i][i]
abbrev pub backward_row : ℕ → List Float → List Float → ℕ → List Float → List Float
backward_row k a y i w = set w i (backward_sum k a y w i ⊘ at2 a i i)

-- let mut w = [0f64; KMAX]; for i in (0..k).rev() { .. }
unfoldable pub backward : ℕ → List Float → List Float → List Float
backward k a y = back k (backward_row k a y) zeros

-- the weights w
unfoldable pub solve_spd : ℕ → List Float → List Float → List Float
solve_spd k a b = backward k (factor k a) (forward k (factor k a) b)
