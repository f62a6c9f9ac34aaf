-- What callers use of slots: each slot is one bit's, the slot of the next bit, and the elements of the lists in slot order and in bit order.
use Rattle.std.proofs.Common.{◌≡◌, ℕ, ◌+◌, ◌*◌, ◌%◌, ◌<◌, ◌≤◌, List, ◌++◌, length, get_or, take, drop, replicate, sym, ap, ◌∙◌, mod-lt, mod-eq_of_lt, mul_comm, mul-one, mul-add, arith, append-nil, length-drop, length-take, get_or-drop, get_or-take, ext_get_or}
use native.Mathlib.Nat.{mod-add-mod}
use lib.ListN.{length-replicate}
use Rattle.std.proofs.lemmas.List.{drop_all}
use lib.Ieee.{Float}
use Rattle.seq.specs.Fill.{fill, EachOnce}
use Rattle.seq.specs.Fill.Laws.{length_fill, fill_at, filled, fill_none, fill_step, fill_end}
use Rattle.seq.specs.Tab.Laws.{length_tab, get_d_tab, tab_none, tab_step, tab_whole}
use Rattle.bits.specs.Mix.{signed}
use Rattle.bits.specs.Step.{step_of}
use Rattle.bits.specs.Slots.{longest, slot_of, nought, prior_bit, slot_priors, bit_of, bit_order, SlotsOnce}
use Rattle.bits.proofs.Divisors.{gcd_coprime}
use Rattle.bits.proofs.Inverse.{inverse, undone}
use Rattle.bits.proofs.Search.{step_good}

pub slots_once : SlotsOnce
unfolding SlotsOnce slot_of
slots_once n h hn =
    let a = step_of n in
    let v = inverse (step_of n) n h (gcd_coprime (step_of n) n (step_good n (omega arith)).0) in
    let w = v.0 in
    record {
      within = λ i b. mod-lt (a * i) h;
      once = λ i j b b' e. sym (mod-eq_of_lt b) ∙ sym (undone n a w i v.1) ∙ ap (λ (z : ℕ). w * z % n) e ∙ undone n a w j v.1 ∙ mod-eq_of_lt b';
      taken = λ s b. (w * s % n, mod-lt (w * s) h, undone n w a s (rw mul_comm v.1) ∙ mod-eq_of_lt b);
    }

pub length_slot_priors : (n : ℕ) (prior : List Float) → length (slot_priors n prior) ≡ n
unfolding slot_priors
length_slot_priors n prior = length_fill (slot_of n) (prior_bit prior) n (replicate n nought) ∙ length-replicate n nought

pub length_bit_order : (n : ℕ) (slots : List Float) → length (bit_order n slots) ≡ n
unfolding bit_order
length_bit_order n slots = length_tab (bit_of n slots) n

pub bit_order_at : (n : ℕ) (slots : List Float) (i : ℕ) (d : Float) → i < n → get_or (bit_order n slots) i d ≡ bit_of n slots i
unfolding bit_order
bit_order_at n slots i d h = get_d_tab (bit_of n slots) n i d h

module _ (n : ℕ) (h : 0 < n) (hn : n ≤ longest) where
  each : EachOnce n (slot_of n)
  unfolding SlotsOnce
  each = slots_once n h hn

  pub slot_prior : (prior : List Float) (i : ℕ) (d : Float) → i < n → get_or (slot_priors n prior) (slot_of n i) d ≡ prior_bit prior i
  unfolding slot_priors
  slot_prior prior i d b = fill_at n (slot_of n) (prior_bit prior) each d (replicate n nought) n i (omega (arith, length-replicate n nought)) (omega arith) b

  -- a list of n with each prior put at its slot: of what it held nothing is left
  pub slots_filled : (prior out : List Float) → length out ≡ n → fill (slot_of n) (prior_bit prior) n out ≡ slot_priors n prior
  unfolding slot_priors
  slots_filled prior out b =
      filled n (slot_of n) (prior_bit prior) each nought out (replicate n nought) (omega arith) (length-replicate n nought)
      ∙ (ap (λ (t : List Float). slot_priors n prior ++ t) (drop_all n out (omega arith)) ∙ append-nil (slot_priors n prior))

  module _ (p q : List Float) where
    -- a slot holds the prior of its own bit and of no other
    pub slot_same : (s : ℕ) (d : Float) → s < n → ((i : ℕ) → i < n → slot_of n i ≡ s → get_or p i nought ≡ get_or q i nought) → get_or (slot_priors n p) s d ≡ get_or (slot_priors n q) s d
    unfolding prior_bit
    slot_same s d b same =
        let t = each.taken s b in
        rw (← t.2, slot_prior p t.0 d t.1, slot_prior q t.0 d t.1) (ap (signed t.0) (same t.0 t.1 t.2))

    -- nor does a stretch of slots
    pub stretch_same : (from w : ℕ) → ((i : ℕ) → i < n → from ≤ slot_of n i → slot_of n i < from + w → get_or p i nought ≡ get_or q i nought)
        → take w (drop from (slot_priors n p)) ≡ take w (drop from (slot_priors n q))
    stretch_same from w same =
        ext_get_or nought (take w (drop from (slot_priors n p))) (take w (drop from (slot_priors n q))) (simp (length-take, length-drop, length_slot_priors))
        (λ s b.
        let b' = simp (length-take, length-drop, length_slot_priors) at b in
        let at : (r : List Float) → get_or (take w (drop from r)) s nought ≡ get_or r (from + s) nought = λ r. get_or-take w (drop from r) s nought (omega arith) ∙ get_or-drop from r s nought in
        at (slot_priors n p) ∙ slot_same (from + s) nought (omega arith) (λ i v e. same i v (omega arith) (omega arith)) ∙ sym (at (slot_priors n q)))

-- ---- what the check uses of the two loops
pub ruleset filling = (fill_none, fill_step, fill_end, slots_filled)

pub ruleset tabbing = (tab_none, tab_step, tab_whole)
