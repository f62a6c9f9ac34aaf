-- The sum of a half's exponentials lies in 1..2 ^ bps, or a difference is a NaN and so is the sum. Assumes nothing.
use Prim.Native.Nat.{ℕ, ◌+◌, ◌-◌, ◌*◌, ◌/◌, ◌%◌, ◌^◌, ◌≤◌, ◌<◌}
use mathlib.Core.Path.{◌≡◌, refl, sym, ap, ◌∙◌, subst}
use mathlib.Core.Bool.{Bool, true, false, not, cond, true≢false}
use mathlib.Core.List.{List}
use mathlib.Core.Logic.{◌⊎◌, inl, inr}
use native.Mathlib.Nat.{le_trans, mul-le-mul_right, mul-pos, zero-lt-suc, mul-div_cancel, mul-lt-mul_of_pos_right}
use native.Mathlib.Omega.{arith}
use lib.Arith.{le→nltb}
use lib.Dec.{T, eqb}
use lib.Pow.{pow_pos, pow-add, pow_mono}
use lib.Ieee.{Float, nan, inf, fin, binary32, up, down, lt, add, is_nan, of_bits}
use lib.Ieee.Positive.{den}
use borrow.Author.Tests.{eq-eqb}
use Rattle.ieee.specs.Num.{◌⊞◌, ◌⊟◌, zero32}
use Rattle.ieee.specs.Nearest.{sign}
use Rattle.ieee.proofs.RoundNearest.{ties_to_even}
use Rattle.elementary.specs.Constants.{zero+, unit, least}
use Rattle.elementary.specs.Domain.{FromLeast}
use Rattle.elementary.specs.FixedPoint.{M, L, whole_of}
use Rattle.elementary.specs.Exp.{exp_at, exp_fixed, exp_sum}
use Rattle.elementary.proofs.ExpCases.{exp_fixed_lem}
use Rattle.elementary.proofs.Laws.{exp_laws}
use Rattle.points.proofs.Counts.{at_most_64}
use Rattle.soft.specs.Soft.{bit_of}
use Rattle.demap.specs.Demap.{at, top_of, sum_turn, sum_of}
use Rattle.ieee.proofs.Transitive.{not_below}
use Rattle.demap.proofs.Difference.{from_itself, from_lowest}
use Rattle.demap.proofs.Bounds.{Lies, le_lies, add_lies}
use Rattle.demap.proofs.Top.{Own, Taken, Found, found, last, for_each}

-- ---- an exponential lies in 0..1

exp_plus : (x : Float) → sign (exp_at x) ≡ false
unfolding exp_at of_bits
exp_plus nan = refl
exp_plus (inf s) = refl
exp_plus (fin s m e) = go (lt (fin s m e) _) (whole_of M (fin s m e))
  where
    go : (b : Bool) (Q : ℕ) → sign (cond b zero+ (exp_fixed Q)) ≡ false
    go true Q = refl
    go false Q =
        rw (exp_fixed_lem Q) (ties_to_even binary32 false (exp_sum (Q - Q / L * L)) (M * 2 ^ (Q / L)) (mul-pos (zero-lt-suc 4294967295) (pow_pos (Q / L)))).signed

-- x lies there, or it is a NaN for a cause
abbrev pub Sum : Type 0 → ℕ → ℕ → Float → Type 0
Sum Cause lo hi x = (Cause × (x ≡ nan)) ⊎ Lies lo hi x

add_nan : (x : Float) → x ⊞ nan ≡ nan
unfolding add
add_nan nan = refl
add_nan (inf s) = refl
add_nan (fin s m e) = refl

nan_add : (x : Float) → nan ⊞ x ≡ nan
unfolding add
nan_add x = refl

module _ {Cause : Type 0} where
  add_sum : {a b c d : ℕ} {x y : Float} → Sum Cause a b x → Sum Cause c d y → b + d ≤ 2 ^ 24 → Sum Cause (a + c) (b + d) (x ⊞ y)
  add_sum {y = y} (inl p) q h = inl (p.0, rw p.1 (nan_add y))
  add_sum {x = x} (inr p) (inl q) h = inl (q.0, rw q.1 (add_nan x))
  add_sum (inr p) (inr q) h = inr (add_lies p q h)

  pub wider : {a b c : ℕ} {x : Float} → b ≤ c → Sum Cause a b x → Sum Cause a c x
  wider h (inl p) = inl p
  wider {b = b} {c = c} {x = x} h (inr p) = inr (record { held = p.held; plus = p.plus; from = p.from; to = le_trans p.to (mul-le-mul_right (den x) h) })

  exp_sum_lem : (z : Float) → (z ≡ nan → Cause) → Sum Cause 0 1 (exp_at z)
  unfolding exp_at is_nan
  exp_sum_lem nan f = inl (f refl, refl)
  exp_sum_lem (inf s) f = inr (le_lies (exp_at (inf s)) (exp_plus (inf s)) (exp_laws.high (inf s) tt))
  exp_sum_lem (fin s m e) f = inr (le_lies (exp_at (fin s m e)) (exp_plus (fin s m e)) (exp_laws.high (fin s m e) tt))

unit_lies : Lies 1 1 unit
unfolding of_bits
unit_lies = record { held = tt; plus = refl; from = omega arith; to = omega arith }

zero_lies : Lies 0 0 zero32
unfolding of_bits
zero_lies = record { held = tt; plus = refl; from = omega arith; to = omega arith }

-- ---- the label of a bit alone has the bit

module _ (bps b bit : ℕ) (B : b < bps) (two : bit < 2) where
  pub label : ℕ
  label = bit * 2 ^ (bps - 1 - b)

  pub label_below : label < 2 ^ bps
  unfolding label
  label_below =
      let n : bps ≡ b + 1 + (bps - 1 - b) = omega arith in
      let e : 2 ^ bps ≡ 2 ^ (b + 1) * 2 ^ (bps - 1 - b) = ap (λ (k : ℕ). 2 ^ k) n ∙ pow-add 2 (b + 1) (bps - 1 - b) in
      let h : bit < 2 ^ (b + 1) = omega (arith, pow_mono {i = 1} {j = b + 1} (omega arith)) in
      rw e (mul-lt-mul_of_pos_right h (pow_pos (bps - 1 - b)))

  pub label_own : Own bps b bit label
  unfolding label
  label_own = eq-eqb (bit * 2 ^ (bps - 1 - b) / 2 ^ (bps - 1 - b) % 2) bit (ap (λ (n : ℕ). n % 2) (mul-div_cancel bit (pow_pos (bps - 1 - b))) ∙ omega arith)

from_one : {n : ℕ} (s : Float) → Lies 1 n s → T (not (lt s unit))
unfolding lt of_bits
from_one nan l = absurd l.held
from_one (inf u) l = absurd l.held
from_one (fin true m e) l = absurd (true≢false l.plus)
from_one (fin false m e) l = le→nltb (m * up e * 1) (1 * 1 * down e) (omega (arith, l.from))

module _ (d : List Float) (bps b bit : ℕ) where
  -- a difference that is a NaN
  abbrev pub Cause : Type 0
  Cause = (k : ℕ) × (k < 2 ^ bps) × (at d k ⊟ top_of d bps b bit ≡ nan)

  -- one difference is nothing, and its exponential is 1, or it is a NaN
  Reached : Type 0
  Reached = (j : ℕ) × (j < 2 ^ bps) × Own bps b bit j × Sum Cause 1 1 (exp_at (at d j ⊟ top_of d bps b bit))

  reached : b < bps → bit < 2 → Reached
  unfolding Reached
  reached B two = go f.taken
    where
      m : Float
      m = top_of d bps b bit

      f : Found d bps b bit (2 ^ bps) m
      f = found d bps b bit

      spoilt : (j : ℕ) → j < 2 ^ bps → at d j ⊟ m ≡ nan → Sum Cause 1 1 (exp_at (at d j ⊟ m))
      spoilt j h e = inl ((j, h, e), ap exp_at e ∙ exp_laws.at_nan)

      go : Taken d bps b bit (2 ^ bps) m → Reached
      go (inl e) =
          let j = label bps b bit B two in
          let h = label_below bps b bit B two in
          let o = label_own bps b bit B two in
          let x = at d j in
          (j, h, o, spoilt j h (ap (λ (z : Float). x ⊟ z) e ∙ from_lowest x (subst (λ (z : Float). T (not (lt z x))) e (f.most j h o))))
      go (inr q) =
          let e : at d q.0 ⊟ m ≡ m ⊟ m = ap (λ (z : Float). z ⊟ m) (sym q.3) in (
            q.0,
            q.1,
            q.2,
            elim (from_itself m f.number) [
              | inl n ↦ spoilt q.0 q.1 (e ∙ n)
              | inr z ↦ inr (subst (λ (w : Float). Lies 1 1 w) (sym (ap exp_at (e ∙ z) ∙ exp_laws.at_zero false)) unit_lies)
            ],
          )

  -- after n turns, with the turn j among them or not
  abbrev Turned : ℕ → ℕ → Float → Type 0
  Turned j n s = Sum Cause 0 n s × (j < n → Sum Cause 1 n s)

  turn : (j : ℕ) → Own bps b bit j → Sum Cause 1 1 (exp_at (at d j ⊟ top_of d bps b bit)) → (i : ℕ) (s : Float) → i < 2 ^ bps → i < 64
      → Turned j i s → Turned j (i + 1) (sum_turn d bps b bit (top_of d bps b bit) i s)
  unfolding sum_turn
  turn j own r i s h few p = go (eqb (bit_of bps i b) bit) refl
    where
      m : Float
      m = top_of d bps b bit

      z : Float
      z = at d i ⊟ m

      e : Sum Cause 0 1 (exp_at z)
      e = exp_sum_lem z (λ q. (i, h, q))

      go : (o : Bool) → eqb (bit_of bps i b) bit ≡ o → Turned j (i + 1) (cond o (s ⊞ exp_at z) s)
      go true q = (
        add_sum p.0 e (omega arith),
        λ l. elim (last i j l) [
          | inl c ↦ add_sum p.0 (subst (λ (k : ℕ). Sum Cause 1 1 (exp_at (at d k ⊟ m))) c r) (omega arith)
          | inr c ↦ add_sum (p.1 c) e (omega arith)
        ],
      )
      go false q = (
        wider (omega arith) p.0,
        λ l. elim (last i j l) [
          | inl c ↦ absurd (true≢false (sym own ∙ ap (λ (k : ℕ). eqb (bit_of bps k b) bit) c ∙ q))
          | inr c ↦ wider (omega arith) (p.1 c)
        ],
      )

  pub sum_range : b < bps → bps ≤ 6 → bit < 2 → Sum Cause 1 (2 ^ bps) (sum_of d bps b bit)
  unfolding sum_of Reached
  sum_range B six two =
      let r = reached B two in
      (for_each (Turned r.0) (sum_turn d bps b bit (top_of d bps b bit)) (2 ^ bps) zero32 (inr zero_lies, λ h. absurd (omega arith))
      (λ i s h p. turn r.0 r.2 r.3 i s h (omega (arith, at_most_64 bps six)) p)).1
      r.1

  -- so ln may be asked for it
  pub ln_asked : b < bps → bps ≤ 6 → bit < 2 → FromLeast (sum_of d bps b bit)
  unfolding lt is_nan of_bits
  ln_asked B six two = go (sum_of d bps b bit) (sum_range B six two)
    where
      go : (s : Float) → Sum Cause 1 (2 ^ bps) s → FromLeast s
      go s (inl p) = rw p.1 tt
      go s (inr l) = not_below unit s least tt tt (from_one s l)
