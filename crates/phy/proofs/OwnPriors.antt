-- Demand 3 of two calls, from refine's theorem: acceptance gives what that asks. Assumes nothing.
use Prim.Native.Nat.{◌≤◌}
use mathlib.Core.Path.{◌≡◌, sym, subst}
use mathlib.Core.List.{List}
use lib.Ieee.{Float}
use Rattle.refine.specs.declared.whole.Refined.{Refined}
use Rattle.refine.specs.declared.settings.Settings.{Settings}
use Rattle.refine.specs.Refine as core
use Rattle.refine.specs.Refine.{Burst, burst, nsym, refined_of}
use Rattle.refine.specs.Independence as core-independence
use Rattle.refine.proofs.Independence.{independence}
use Rattle.phy.specs.Independence.{Shared, Accepts, Independence}
use Rattle.table.proofs.Passing.{accepted_fits}

pub same_burst : (b b' : Burst) → Shared b b' → b ≡ b'
same_burst b b' s = parts s.settings s.grid s.sigma s.cells
  where
    parts : {s s' : Settings} {g g' m m' c c' : List Float} → s ≡ s' → g ≡ g' → m ≡ m' → c ≡ c' → burst s g m c ≡ burst s' g' m' c'
    parts es eg em ec = cc

module _ {b : Burst} {p : List Float} {r : Refined} {answer channel : List Float} (a : Accepts b p r answer channel) where
  promised : core.Refines b p r a.answer₀ answer a.channel₀ channel
  promised =
      let c = a.call.accepted (sym a.call.number) in
      record { result = (cc); answer = c.answer; channel = c.channel }

  few : nsym b ≤ 1023
  few = (accepted_fits b p a.answer₀ a.channel₀ a.wf₀ a.wu₀ (sym a.call.number)).most

pub two_calls : Independence
unfolding Independence core-independence.Independence
two_calls b b' shared off j hj p q same r r' answer answer' channel channel' a a' report =
    independence b (few a) off j hj p q same r r' a.answer₀ answer a.channel₀ channel a'.answer₀ answer' a'.channel₀ channel'
    (promised a)
    (subst (λ (x : Burst). core.Refines x q r' a'.answer₀ answer' a'.channel₀ channel') (sym (same_burst b b' shared)) (promised a'))
    report
