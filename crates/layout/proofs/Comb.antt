-- A comb has a tooth at s, at s + step, and so on. How many numbers stand between its teeth before c, and which is the
-- j-th. Assumes nothing.
use Rattle.std.proofs.Common.{◌≡◌, ℕ, zero, suc, ◌+◌, ◌-◌, ◌*◌, ◌/◌, ◌%◌, ◌<◌, ◌≤◌, min, Bool, true, false, eqb, List, [], length, sym, ap, ◌∙◌, mul-le-mul_right, mod-lt, mod-eq_of_lt, suc-mul, div-lt_iff_lt-mul, add-mul, div-add-mod', mul-suc, add-one, arith, length-append, eq-eqb, ne_eqb}
use native.Mathlib.Nat.{mul-add-mod_self_right, div-eq_of_lt, div-eq_of_lt-le}
use native.Mathlib.Decide.{dec_lt}
use Rattle.seq.specs.Cat.{cat}
use Rattle.seq.specs.Cat.Laws.{cat-none, cat_next, cat_add, cat_rows, length_cat}
use Rattle.layout.proofs.Kept.{kept, kept_length}

-- ---- within one step: of the first b numbers those that are no tooth, and the t-th of them

held : ℕ → ℕ → ℕ
held s b = b - min 1 (b - s)

held_low : (s b : ℕ) → b ≤ s → held s b ≡ b
unfolding held
held_low s b h = omega arith

held_high : (s b : ℕ) → s < b → held s b ≡ b - 1
unfolding held
held_high s b h = omega arith

lifted : ℕ → ℕ → ℕ
lifted s t = t + min 1 (suc t - s)

lifted_low : (s t : ℕ) → t < s → lifted s t ≡ t
unfolding lifted
lifted_low s t h = omega arith

lifted_high : (s t : ℕ) → s ≤ t → lifted s t ≡ suc t
unfolding lifted
lifted_high s t h = omega arith

held_lifted : (s t : ℕ) → held s (lifted s t) ≡ t
unfolding held lifted
held_lifted s t = omega arith

-- ---- step by step

none : (f : ℕ → List ℕ) → length (cat 0 f) ≡ 0
none f = omega (arith, simp length-append at (ap length (cat-none 0 f [])))

quotient : (d q m : ℕ) → q * d ≤ m → m < q * d + d → m / d ≡ q
quotient d q m lo hi = div-eq_of_lt-le d lo (omega (arith, add-mul q 1 d))

-- the j-th number that is no tooth: with step - 1 of them to a step, it is in step j / (step - 1)
pub spot : ℕ → ℕ → ℕ → ℕ
spot step s j = j / (step - 1) * step + lifted s (j % (step - 1))

abbrev pub tooth : ℕ → ℕ → ℕ → Bool
tooth step s c = eqb (c % step) s

module _ (step s : ℕ) (two : 2 ≤ step) (low : s < step) where
  abbrev gaps : ℕ → List ℕ
  gaps = kept (tooth step s)

  -- a step less its tooth
  abbrev w : ℕ
  w = step - 1

  pub times : (a : ℕ) → a * step ≡ a * w + a
  times a = ap (λ (z : ℕ). a * z) (let e : step ≡ suc w = omega arith in e) ∙ mul-suc a w

  rest : (a b : ℕ) → b < step → (a * step + b) % step ≡ b
  rest a b h = mul-add-mod_self_right a step b ∙ mod-eq_of_lt h

  row : (a b : ℕ) → b ≤ step → length (cat b (λ i. gaps (a * step + i))) ≡ held s b
  row a zero h = none (λ i. gaps (a * step + i)) ∙ sym (held_low s 0 (omega arith))
  row a (suc b) h = more (row a b (omega arith)) (dec_lt b s) (dec_lt s b)
    where
      f : ℕ → List ℕ
      f i = gaps (a * step + i)

      next : length (cat (suc b) f) ≡ length (cat b f) + length (f b)
      next = ap (λ (n : ℕ). length (cat n f)) (sym (add-one b)) ∙ cat_next f b

      gap : (b ≡ s → ⊥) → length (f b) ≡ 1
      gap o = kept_length (tooth step s) (a * step + b) false (ne_eqb ((a * step + b) % step) s (λ q. o (sym (rest a b h) ∙ q)))

      more : length (cat b f) ≡ held s b → Dec (b < s) → Dec (s < b) → length (cat (suc b) f) ≡ held s (suc b)
      more r (yes l) u = omega (arith, next, gap (λ q. omega arith), held_low s b (omega arith), held_low s (suc b) l)
      more r (no l) (yes u) = omega (arith, next, gap (λ q. omega arith), held_high s b u, held_high s (suc b) (omega arith))
      more r (no l) (no u) =
          let e : b ≡ s = omega arith in
          omega (arith, next, kept_length (tooth step s) (a * step + b) true (eq-eqb ((a * step + b) % step) s (rest a b h ∙ e)), held_low s b (omega arith), held_high s (suc b) (omega arith))

  -- before the number at b in step a
  before : (a b : ℕ) → b ≤ step → length (cat (a * step + b) gaps) ≡ a * w + held s b
  before a b h =
      let rows : length (cat (a * step) gaps) ≡ a * w =
      ap length (cat_rows gaps a step) ∙ length_cat w (λ r. cat step (λ i. gaps (r * step + i))) (λ r. row r step (omega arith) ∙ held_high s step low) a in
      ap length (cat_add gaps (a * step) b) ∙ length-append (cat (a * step) gaps) (cat b (λ i. gaps (a * step + i))) ∙ omega (arith, rows, row a b h)

  pub whole_steps : (k : ℕ) → length (cat (k * step) gaps) ≡ k * w
  whole_steps k = let z : k * step + 0 ≡ k * step = omega arith in rw z at (before k 0 (omega arith)) ∙ omega (arith, held_low s 0 (omega arith))

  -- ---- by the number: c, less the teeth before it

  pub index_low : (c : ℕ) → c < s → length (cat c gaps) ≡ c
  index_low c h = let z : 0 * step + c ≡ c = omega arith in rw z at (before 0 c (omega arith)) ∙ omega (arith, held_low s c (omega arith))

  high : (a b : ℕ) → b < step → (b ≡ s → ⊥) → Dec (s < b) → s ≤ a * step + b → length (cat (a * step + b) gaps) ≡ a * step + b - 1 - (a * step + b - s) / step
  high a b hb o (yes l) h = omega (arith, before a b (omega arith), held_high s b l, times a, quotient step a (a * step + b - s) (omega arith) (omega arith))
  high zero b hb o (no l) h = absurd (omega arith)
  high (suc a) b hb o (no l) h =
      omega
      (arith, before (suc a) b (omega arith), held_low s b (omega arith), times (suc a), quotient step a (suc a * step + b - s) (omega (arith, suc-mul a step)) (omega (arith, suc-mul a step)))

  pub index_high : (c : ℕ) → s ≤ c → (c % step ≡ s → ⊥) → length (cat c gaps) ≡ c - 1 - (c - s) / step
  index_high c h o =
      let e : c / step * step + c % step ≡ c = div-add-mod' c step in
      rw e at (high (c / step) (c % step) (mod-lt c (omega arith)) o (dec_lt s (c % step)) (omega arith))

  -- ---- by the place: j, and the teeth before it

  lifted_below : (t : ℕ) → t < w → lifted s t < step
  unfolding lifted
  lifted_below t h = omega arith

  inside : (j : ℕ) → j % w < w
  inside j = mod-lt j (omega arith)

  pub spot_low : (j : ℕ) → j < s → spot step s j ≡ j
  unfolding spot
  spot_low j h = let l : j < w = omega arith in rw (div-eq_of_lt l, mod-eq_of_lt l) (omega (arith, lifted_low s j h))

  beyond : (a t : ℕ) → t < w → Dec (t < s) → s ≤ a * w + t → a * step + lifted s t ≡ a * w + t + 1 + (a * w + t - s) / w
  beyond a t ht (no l) h = omega (arith, times a, lifted_high s t (omega arith), quotient w a (a * w + t - s) (omega arith) (omega arith))
  beyond zero t ht (yes l) h = absurd (omega arith)
  beyond (suc a) t ht (yes l) h =
      omega (arith, times (suc a), lifted_low s t l, quotient w a (suc a * w + t - s) (omega (arith, suc-mul a w)) (omega (arith, suc-mul a w)))

  pub spot_high : (j : ℕ) → s ≤ j → spot step s j ≡ j + 1 + (j - s) / w
  unfolding spot
  spot_high j h =
      let e : j / w * w + j % w ≡ j = div-add-mod' j w in
      rw e at (beyond (j / w) (j % w) (inside j) (dec_lt (j % w) s) (omega arith))

  pub spot_index : (j : ℕ) → length (cat (spot step s j) gaps) ≡ j
  unfolding spot
  spot_index j = before (j / w) (lifted s (j % w)) (omega (arith, lifted_below (j % w) (inside j))) ∙ omega (arith, held_lifted s (j % w), div-add-mod' j w)

  pub spot_off : (j : ℕ) → spot step s j % step ≡ s → ⊥
  unfolding spot lifted
  spot_off j e = omega (arith, rest (j / w) (lifted s (j % w)) (lifted_below (j % w) (inside j)))

  pub spot_below : (k j : ℕ) → j < k * w → spot step s j < k * step
  unfolding spot
  spot_below k j h =
      let l : j / w < k = (div-lt_iff_lt-mul {k = w} (omega arith)).1 h in
      omega (arith, suc-mul (j / w) step, mul-le-mul_right step l, lifted_below (j % w) (inside j))
