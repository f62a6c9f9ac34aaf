-- What a call is handed fixes what it gives. Assumes nothing.
use Prim.Native.Nat.{ℕ}
use mathlib.Core.Path.{◌≡◌, refl, sym, ap, ◌∙◌}
use mathlib.Core.Bool.{Bool, true, false}
use mathlib.Core.List.{[], ◌∷◌}
use lib.ListN.{get_or}
use lib.Dec.{eqb}
use borrow.Author.Tests.{eqb-true, eqb-false}
use Rattle.std.specs.Prelude.{Result, Ok, Err}
use Rattle.cause.specs.declared.Cause.{Cause}
use Rattle.cause.specs.declared.Cause.TheVariants.{Layout, Codes, Symbols, Grid, Lengths, Room, Numbers, Check, NoSymbols, Fields, Place, Record}
use Rattle.cause.specs.Causes.{cause_number, number_of}
use Rattle.phy.specs.Entry.{Fixed}
use Rattle.table.specs.Refusals.{refusal_in}

-- the cause of a number; 0 is none
abbrev named : ℕ → Cause
named n = get_or (Layout ∷ Layout ∷ Codes ∷ Symbols ∷ Grid ∷ Lengths ∷ Room ∷ Numbers ∷ Check ∷ NoSymbols ∷ Fields ∷ Place ∷ Record ∷ []) n Layout

named_number : (cause : Cause) → named (cause_number cause) ≡ cause
named_number Layout = refl
named_number Codes = refl
named_number Symbols = refl
named_number Grid = refl
named_number Lengths = refl
named_number Room = refl
named_number Numbers = refl
named_number Check = refl
named_number NoSymbols = refl
named_number Fields = refl
named_number Place = refl
named_number Record = refl

-- a refusal is known by its number
by_number : {A : Type 0} → (r r' : Result A Cause) → (number_of r ≡ 0 → ⊥) → number_of r ≡ number_of r' → r ≡ r'
by_number (Ok x) r' n e = absurd (n refl)
by_number (Err cause) (Ok x) n e = absurd (n e)
by_number (Err cause) (Err cause') n e = ap Err (sym (named_number cause) ∙ ap named e ∙ named_number cause')

zero_or_not : {X : Type 0} (q : ℕ) → (q ≡ 0 → X) → ((q ≡ 0 → ⊥) → X) → X
zero_or_not {X} q zero other = go (eqb q 0) refl
  where
    go : (t : Bool) → eqb q 0 ≡ t → X
    go true e = zero (eqb-true q 0 e)
    go false e = other (eqb-false q 0 e)

pub fixed : Fixed
unfolding Fixed
fixed b prior r r' answer₀ answer₁ answer₁' channel₀ channel₁ channel₁' wf₀ wf₁ wf₁' wu₀ wu₁ wu₁' c c' =
    zero_or_not (refusal_in b prior answer₀ channel₀ wf₀ wu₀)
    (λ e.
    let a = c.accepted e in
    let a' = c'.accepted e in
    (a.result ∙ sym a'.result, a.answer ∙ sym a'.answer, a.channel ∙ sym a'.channel))
    (λ n.
    let k = c.refused n in
    let k' = c'.refused n in
    (by_number r r' (λ z. n (sym c.number ∙ z)) (c.number ∙ sym c'.number), k.answer ∙ sym k'.answer, k.channel ∙ sym k'.channel))
