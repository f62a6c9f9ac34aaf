-- Labels that begin alike share what they begin with; and no logarithm of a probability is above zero. Assumes nothing.
use Prim.Native.Nat.{ℕ, zero, suc, ◌+◌, ◌-◌, ◌*◌, ◌/◌, ◌%◌, ◌^◌, ◌≤◌, ◌<◌}
use mathlib.Core.Path.{◌≡◌, refl, sym, ap, ap₂, ◌∙◌}
use mathlib.Core.Bool.{true, cond}
use mathlib.Core.List.{List, ◌++◌}
use native.Mathlib.Nat.{div-one, pow-suc, mul_comm}
use native.Mathlib.Numerals.{add-one}
use native.Mathlib.Omega.{arith}
use lib.Dec.{T, eqb}
use lib.ListN.{length, get_or, set, take, drop, get_or-append}
use Rattle.std.proofs.lemmas.List.{length-take, length-take-le, get_or-take}
use lib.Pow.{pow_mono, shr-shr}
use lib.Ieee.{Float, nan, neg, lt, of_bits}
use Rattle.seq.specs.Loop.Laws.{for_none, for_next, for_same, for_all}
use Rattle.seq.specs.Tab.{tab}
use Rattle.seq.specs.Tab.Laws.{length_tab, tab_step, get_d_tab}
use Rattle.ieee.specs.Num.{◌⊟◌, zero32}
use Rattle.ieee.specs.Order.{clamp_of}
use Rattle.soft.specs.Soft.{limit, bit_of, cost_of, prior_at, bit_turn, log_probability}
use Rattle.soft.specs.Tree.{page, child, Children, Level}
use Rattle.soft.proofs.Signs.{side, sub_side}
use Rattle.soft.proofs.Costs.{softplus_side}

-- ---- one bit more

pub at_most_32 : (b : ℕ) → b < 6 → 2 ^ b ≤ 32
at_most_32 b h = pow_mono {j = 5} (omega arith)

last_bit : (b j : ℕ) → bit_of (b + 1) j b ≡ j % 2
last_bit b j =
    let e : b + 1 - 1 - b ≡ 0 = omega arith in
    ap (λ (n : ℕ). j / 2 ^ n % 2) e ∙ ap (λ (n : ℕ). n % 2) (div-one j)

earlier_bit : (b j i : ℕ) → i < b → bit_of (b + 1) j i ≡ bit_of b (j / 2) i
earlier_bit b j i h =
    let e : b + 1 - 1 - i ≡ 1 + (b - 1 - i) = omega arith in
    ap (λ (n : ℕ). j / 2 ^ n % 2) e ∙ ap (λ (n : ℕ). n % 2) (sym (shr-shr j 1 (b - 1 - i)))

picked : (lam : Float) (bit : ℕ) → bit < 2 → cond (eqb bit 0) (cost_of lam 0) (cost_of lam 1) ≡ cost_of lam bit
picked lam zero h = refl
picked lam (suc zero) h = refl
picked lam (suc (suc n)) h = absurd (omega arith)

module _ (llr : List Float) where
  prefix_none : zero32 ≡ log_probability llr 0 0
  unfolding log_probability
  prefix_none = for_none (bit_turn llr 0 0) 0 zero32

  prefix_more : (b j : ℕ) → log_probability llr b (j / 2) ⊟ cost_of (prior_at llr b) (j % 2) ≡ log_probability llr (b + 1) j
  unfolding log_probability bit_turn
  prefix_more b j =
      sym
      (for_next (bit_turn llr (b + 1) j) 0 b zero32 (omega arith)
      ∙ ap₂ (λ (lp : Float) (n : ℕ). lp ⊟ cost_of (prior_at llr b) n)
      (for_same (bit_turn llr (b + 1) j) (bit_turn llr b (j / 2)) 0 b zero32
      (λ i lp p q. ap (λ (n : ℕ). lp ⊟ cost_of (prior_at llr i) n) (earlier_bit b j i (omega arith))))
      (last_bit b j))

  pub level_none : Level llr 0 page
  unfolding page
  level_none k h =
      let e : k ≡ 0 = omega arith in
      rw e prefix_none

  -- the first n = 2 ^ b of l are split
  pub level_more : (b n : ℕ) (lam z o : Float) (l r : List Float) → n ≡ 2 ^ b → n ≤ length l → lam ≡ prior_at llr b → z ≡ cost_of lam 0 → o ≡ cost_of lam 1
      → Level llr b l → Children (take n l) (length (take n l)) z o r → Level llr (b + 1) r
  unfolding child
  level_more b n lam z o l r en within el ez eo before split j h =
      let e : 2 ^ (b + 1) ≡ 2 * 2 ^ b = rw (add-one b) (pow-suc 2 b ∙ mul_comm (2 ^ b) 2) in
      let all : length (take n l) ≡ n = length-take-le n l within in
      split j (omega arith)
      ∙ rw (get_or-take n l (j / 2) nan (omega arith), before (j / 2) (omega arith), ez, eo, picked lam (j % 2) (omega arith), el) (prefix_more b j)

  -- ---- not above zero

  pub log_side : (bps k : ℕ) → T (side true (log_probability llr bps k))
  unfolding log_probability bit_turn cost_of of_bits lt
  log_side bps k =
      for_all (λ (lp : Float). T (side true lp)) (bit_turn llr bps k) 0 bps zero32
      (λ i lp p q h. sub_side lp (cost_of (prior_at llr i) (bit_of bps k i)) h (softplus_side _))
      tt

-- ---- of the first bps numbers alone

pub own_logs : (llr llr' : List Float) (bps : ℕ) → ((b : ℕ) → b < bps → get_or llr b nan ≡ get_or llr' b nan) → (k : ℕ) → log_probability llr bps k ≡ log_probability llr' bps k
unfolding log_probability bit_turn prior_at
own_logs llr llr' bps same k =
    for_same (bit_turn llr bps k) (bit_turn llr' bps k) 0 bps zero32
    (λ b lp p q. ap (λ (x : Float). lp ⊟ cost_of (clamp_of x (neg limit) limit) (bit_of bps k b)) (same b (omega arith)))

-- the logarithms of the first bps likelihoods, at the first n = 2 ^ bps labels
pub log_read : (llr lp : List Float) (bps n k : ℕ) → bps ≤ length llr → n ≡ 2 ^ bps → k < length (take n lp) → Level (take bps llr) (length (take bps llr)) lp → get_or (take n lp) k nan ≡ log_probability llr bps k
log_read llr lp bps n k within e h level =
    let all : length (take bps llr) ≡ bps = length-take-le bps llr within in
    let below : k < n = omega (arith, length-take n lp) in
    get_or-take n lp k nan below
    ∙ (rw all at level) k (omega arith)
    ∙ own_logs (take bps llr) llr bps (λ b h. get_or-take bps llr b nan h) k

-- ---- a level is written by twos

pub length_page : length page ≡ 64
unfolding page
length_page = refl

module _ (up : List Float) (z o : Float) where
  child_even : (i : ℕ) → get_or up i nan ⊟ z ≡ child up z o (2 * i)
  unfolding child
  child_even i =
      let e : 2 * i / 2 ≡ i = omega arith in
      let e' : 2 * i % 2 ≡ 0 = omega arith in
      rw (e, e')

  child_odd : (i : ℕ) → get_or up i nan ⊟ o ≡ child up z o (2 * i + 1)
  unfolding child
  child_odd i =
      let e : (2 * i + 1) / 2 ≡ i = omega arith in
      let e' : (2 * i + 1) % 2 ≡ 1 = omega arith in
      rw (e, e')

  pub two_more : (i : ℕ) (l₀ l : List Float) → 2 * i + 1 < length l₀ → l ≡ tab (2 * i) (child up z o) ++ drop (2 * i) l₀
      → set (set l (2 * i) (get_or up i nan ⊟ z)) (2 * i + 1) (get_or up i nan ⊟ o) ≡ tab (2 * (i + 1)) (child up z o) ++ drop (2 * (i + 1)) l₀
  two_more i l₀ l h e =
      let n : 2 * (i + 1) ≡ 2 * i + 1 + 1 = omega arith in
      let f = child up z o in
      rw n
      (tab_step f (2 * i + 1) l₀ (set l (2 * i) (get_or up i nan ⊟ z)) (get_or up i nan ⊟ o) h
      (tab_step f (2 * i) l₀ l (get_or up i nan ⊟ z) (omega arith) e (child_even i)) (child_odd i))

  pub written : (i n : ℕ) (l₀ l : List Float) → i ≤ n → n ≤ i → l ≡ tab (2 * i) (child up z o) ++ drop (2 * i) l₀ → Children up n z o l
  written i n l₀ l u v e j h =
      let f = child up z o in
      rw e (get_or-append (tab (2 * i) f) (drop (2 * i) l₀) nan j (omega (arith, length_tab f (2 * i))) ∙ get_d_tab f (2 * i) j nan (omega arith))
