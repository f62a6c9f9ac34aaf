-- Both ways of a burst, with its symbols spread or not, leave what the contracts say. Assumes nothing.
use Prim.Native.Nat.{ℕ, ◌*◌}
use mathlib.Core.Path.{◌≡◌, refl, sym, ap, ◌∙◌}
use mathlib.Core.Bool.{true, false, true≢false}
use mathlib.Core.List.{List, ◌++◌}
use native.Mathlib.Nat.{mul_assoc}
use native.Mathlib.Omega.{arith}
use lib.ListN.{length, take, drop}
use lib.Seq.{take_at, drop_at}
use lib.Ieee.{Float}
use Rattle.expect.specs.declared.Shape.{Shape}
use Rattle.expect.specs.Expect.{soft_cells, respread, expected_of}
use Rattle.expect.specs.Contract.{Expects}
use Rattle.expect.proofs.Front.{respread_front}
use Rattle.expect.proofs.Laws.{length_soft}

-- out₁ is the list with the soft points in it, made of points of the burst's bits
module _ (s : Shape) (unit slots out₀ out₁ : List Float) (bps : ℕ) (bits : bps ≡ s.bps) where
  abbrev points : List Float
  points = soft_cells unit s.bps (s.nsym * s.dc) slots

  module _ (made : out₁ ≡ soft_cells unit bps (s.nsym * s.dc) slots ++ drop (s.nsym * s.dc * 3) out₀) where
    e : out₁ ≡ points ++ drop (s.nsym * s.dc * 3) out₀
    e = rw bits at made

    pub not_spread : s.spread ≡ false → out₁ ≡ expected_of s unit slots ++ drop (s.nsym * s.dc * 3) out₀
    unfolding expected_of
    not_spread h = e ∙ rw h

    pub spread_again : (out₂ : List Float) → s.spread ≡ true → out₂ ≡ respread s.dc s.gain s.nsym out₁ ++ drop (s.nsym * (s.dc * 3)) out₁
        → out₂ ≡ expected_of s unit slots ++ drop (s.nsym * s.dc * 3) out₀
    unfolding expected_of
    spread_again out₂ h e' =
        let n = mul_assoc s.nsym s.dc 3 in
        let rest = drop (s.nsym * (s.dc * 3)) out₀ in
        let e'' = rw n at e in
        let long : length points ≡ s.nsym * (s.dc * 3) = length_soft unit s.bps slots (s.nsym * s.dc) ∙ n in
        e'
        ∙ rw (h, n, e'', respread_front s.dc points rest s.gain s.nsym (omega (arith, long)), drop_at points rest (s.nsym * (s.dc * 3)) long) refl

    -- the front of the list is copied to soft
    pub expects_spread : (soft₀ soft₁ out₂ : List Float) → s.spread ≡ true → soft₁ ≡ take (s.nsym * s.dc * 3) out₁ ++ drop (s.nsym * s.dc * 3) soft₀
        → out₂ ≡ respread s.dc s.gain s.nsym out₁ ++ drop (s.nsym * (s.dc * 3)) out₁ → Expects s unit slots soft₀ soft₁ out₀ out₂
    expects_spread soft₀ soft₁ out₂ h c e' =
        let n = s.nsym * s.dc * 3 in
        let front : take n out₁ ≡ points = ap (take n) e ∙ take_at points (drop n out₀) n (length_soft unit s.bps slots (s.nsym * s.dc)) in
        record { expected = spread_again out₂ h e'; points = λ _. c ∙ ap (λ (l : List Float). l ++ drop n soft₀) front; kept = λ h'. absurd (true≢false (sym h ∙ h')) }

    pub expects_plain : (soft₀ : List Float) → s.spread ≡ false → Expects s unit slots soft₀ soft₀ out₀ out₁
    expects_plain soft₀ h = record { expected = not_spread h; points = λ h'. absurd (true≢false (sym h' ∙ h)); kept = λ _. refl }
