-- A refinement with its own work area, and what is told of it in bytes. Assumes nothing.
use Prim.Native.Nat.{ℕ, ◌+◌, ◌*◌, ◌≤◌}
use mathlib.Core.Path.{◌≡◌, refl, sym, ap, ◌∙◌}
use mathlib.Core.Bool.{true}
use mathlib.Core.Logic.{◌⊎◌, inl, inr}
use mathlib.Core.List.{List, ◌++◌}
use native.Mathlib.Omega.{arith}
use borrow.Author.Tests.{le-leb}
use lib.ListN.{length, take, drop, length-append, length-drop}
use lib.Seq.{take_at}
use lib.Ieee.{Float}
use Rattle.ieee.specs.Num.{one32}
use Rattle.model.specs.declared.select.Model.{Model}
use Rattle.model.specs.Select as select
use Rattle.model.specs.Laws.{OfGrid, InRange}
use Rattle.model.proofs.First.{in_range}
use Rattle.refine.specs.declared.settings.Settings.{Settings}
use Rattle.refine.specs.declared.whole.Refined.{Refined}
use Rattle.refine.specs.Refine.{Burst, setting, pilots, starts, model, nbits, ncell, refined_of, answer_of, channel_of}
use Rattle.std.specs.Prelude.{Result, Ok, Some}
use Rattle.cause.specs.declared.Cause.{Cause}
use Rattle.cause.specs.Causes.{cause_number}
use Rattle.table.specs.declared.sizes.Lent.{Lent}
use Rattle.table.specs.Rows.{holds, room_for}
use Rattle.table.specs.Refusals.{lent, refusal_of}
use Rattle.phy.specs.Entry as phy
use Rattle.wire.specs.Bytes.{number_bytes, report_bytes}
use Rattle.wire.proofs.Rows.{some_number}
use Rattle.record.specs.Judging.{Short, Refining, Judges}

-- ---- with its own work area

roomy : (s : Settings) (l : Lent) → Short s → l.answer ≡ Some 4086 → l.channel ≡ Some 2043 → l.wf ≡ 12258 → l.wu ≡ 12258 → room_for s l ≡ true
unfolding room_for holds
roomy s l h a c f u = rw (a, c, f, u, le-leb _ _ h.bits, le-leb _ _ h.cells, le-leb _ _ h.work) refl

pub alone : (b : Burst) (prior : List Float) (r : Result Refined Cause) (answer₀ answer₁ channel₀ channel₁ wf₀ wf₁ : List Float) (wu₀ wu₁ : List ℕ)
    → Short b.settings → length answer₀ ≡ 4086 → length channel₀ ≡ 2043 → length wf₀ ≡ 12258 → length wu₀ ≡ 12258
    → phy.Refining b prior r answer₀ answer₁ channel₀ channel₁ wf₀ wf₁ wu₀ wu₁ → Refining b prior r answer₀ answer₁ channel₀ channel₁
alone b prior r answer₀ answer₁ channel₀ channel₁ wf₀ wf₁ wu₀ wu₁ h a c f u p =
    let e = roomy b.settings (lent answer₀ channel₀ wf₀ wu₀) h (ap Some a) (ap Some c) f u in
    record { number = rw e at p.number; accepted = rw e at p.accepted }

-- ---- each index is a byte

low : (m : Model) → OfGrid m ⊎ (m ≡ select.model 3 3 one32) → (m.fd ≤ 255) × (m.tm ≤ 255)
low m (inl g) = (omega (arith, g.fd), omega (arith, g.tm))
low m (inr e) = rw e (omega arith, omega arith)

indices : (b : Burst) (prior : List Float) → ((refined_of b prior).model.fd ≤ 255) × ((refined_of b prior).model.tm ≤ 255)
unfolding refined_of model InRange
indices b prior = low _ (in_range (setting b) (pilots b prior) (starts b prior))

-- ---- in bytes

same_Ok : {m n : Refined} → ◌≡◌ {A = Result Refined Cause} (Ok m) (Ok n) → m ≡ n
same_Ok e = grind arith

module _ (b : Burst) (prior : List Float) (answer₀ answer₁ channel₀ channel₁ : List Float) where
  module _ (r : Result Refined Cause) (m : Refined) (q : r ≡ Ok m) (p : Refining b prior r answer₀ answer₁ channel₀ channel₁) where
    passed : refusal_of b prior true ≡ 0
    passed = sym (rw q at p.number)

    told : m ≡ refined_of b prior
    told = same_Ok (sym q ∙ (p.accepted passed).result)

    pub in_bytes : (m.model.fd ≤ 255) × (m.model.tm ≤ 255)
    in_bytes = rw told (indices b prior)

    -- a list written in front of an old one, whose length it kept, is the front
    front : (k n : ℕ) (xs l₀ l₁ : List Float) → l₁ ≡ xs ++ drop n l₀ → length l₁ ≡ length l₀ → n ≤ length l₀ → k ≡ n → (length xs ≡ n) × (take k l₁ ≡ xs)
    front k n xs l₀ l₁ e long h q =
        let lx : length xs ≡ n = omega (arith, sym (ap length e) ∙ long, length-append xs (drop n l₀), length-drop n l₀) in
        (lx, rw (e, q) (take_at xs (drop n l₀) n lx))

    pub judges : (k n : ℕ) (out₀ out₁ bytes₀ bytes₁ : List ℕ) → length answer₁ ≡ length answer₀ → length channel₁ ≡ length channel₀
        → nbits b ≤ length answer₀ → 3 * ncell b ≤ length channel₀ → k ≡ nbits b → n ≡ 3 * ncell b
        → out₁ ≡ (report_bytes m ++ number_bytes (length (take k answer₁)) (take k answer₁)) ++ drop (10 + 4 * length (take k answer₁)) out₀
        → bytes₁ ≡ number_bytes (length (take n channel₁)) (take n channel₁) ++ drop (4 * length (take n channel₁)) bytes₀
        → Judges b prior 0 out₀ out₁ bytes₀ bytes₁
    judges k n out₀ out₁ bytes₀ bytes₁ la lc ha hc ek en eo eb =
        let w = p.accepted passed in
        let a = front k (nbits b) (answer_of b prior) answer₀ answer₁ w.answer la ha ek in
        let c = front n (3 * ncell b) (channel_of b prior) channel₀ channel₁ w.channel lc hc en in
        record {
          result = sym passed;
          accepted = λ z. (eo ∙ rw (told, a.1, a.0) refl, eb ∙ rw (c.1, c.0) refl);
          refused = λ z. absurd (z refl);
        }
