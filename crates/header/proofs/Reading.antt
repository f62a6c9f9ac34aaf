-- The 48 bits as the code reads them, and what is known of those that read as a header. Assumes nothing.
use Prim.Native.Nat.{ℕ, ◌≤◌, ◌<◌}
use mathlib.Core.Path.{◌≡◌, refl, sym, ap, ap₂, ◌∙◌}
use mathlib.Core.Bool.{Bool, true, false, cond, not, ◌&&◌}
use mathlib.Core.List.{List}
use mathlib.Core.Logic.{◌⊎◌, inl, inr}
use Rattle.std.specs.Prelude.{Ok, Err}
use native.Mathlib.Omega.{arith}
use lib.Bits.{bit_xor}
use lib.Dec.{ltb, eqb}
use lib.ListN.{take, drop}
use borrow.Author.Tests.{lt-ltb, le-ltb, ltb-false, eq-eqb, ne_eqb, eqb-false}
use Rattle.header.specs.declared.fields.Header.{Header}
use Rattle.cause.specs.declared.Cause.TheVariants.{Layout, Fields, NoSymbols, Check}
use Rattle.header.specs.declared.parse.Parsed.TheVariants.{Data, HeaderOnly}
use Rattle.header.specs.Bits.{are_bits, value}
use Rattle.header.specs.Poly.{◌⊕◌}
use Rattle.header.specs.Check.{crc16_of}
use Rattle.header.specs.Masks.{data_mask, only_mask}
use Rattle.header.specs.Fields.{nsym_in, data_from, only_from}
use Rattle.header.specs.Frame.{info_in, fits, read_refusal, parse_of, Parses}

-- ---- parse_bits, an answer a lemma
module _ (layout : ℕ) (bits : List ℕ) where
  pub no_layout : 8 < layout → Parses layout bits (Err Layout)
  unfolding parse_of read_refusal
  no_layout a = record { number = rw (lt-ltb 8 layout a) refl; answer = rw (lt-ltb 8 layout a) refl }

  pub no_bits : layout ≤ 8 → are_bits bits ≡ false → Parses layout bits (Err Fields)
  unfolding parse_of read_refusal
  no_bits a b = record { number = rw (le-ltb 8 layout a, b) refl; answer = rw (le-ltb 8 layout a, b) refl }

  module _ (a : layout ≤ 8) (b : are_bits bits ≡ true) (info : ℕ) (i : info ≡ info_in bits) where
    pub no_symbols : fits (data_mask layout) bits ≡ true → nsym_in info ≡ 0 → Parses layout bits (Err NoSymbols)
    unfolding parse_of read_refusal
    no_symbols f n = record { number = rw (le-ltb 8 layout a, b, f, sym i, eq-eqb _ 0 n) refl; answer = rw (le-ltb 8 layout a, b, f, sym i, eq-eqb _ 0 n) refl }

    pub some_data : (h : Header) → fits (data_mask layout) bits ≡ true → (nsym_in info ≡ 0 → ⊥) → h ≡ data_from info → Parses layout bits (Ok (Data h))
    unfolding parse_of read_refusal
    some_data h f n e = record { number = rw (le-ltb 8 layout a, b, f, sym i, ne_eqb _ 0 n) refl; answer = rw (le-ltb 8 layout a, b, f, sym i, ne_eqb _ 0 n, e) refl }

    pub header_only_lem : (h : Header) → fits (data_mask layout) bits ≡ false → fits (only_mask layout) bits ≡ true → h ≡ only_from info → Parses layout bits (Ok (HeaderOnly h))
    unfolding parse_of read_refusal
    header_only_lem h f g e = record { number = rw (le-ltb 8 layout a, b, f, g) refl; answer = rw (le-ltb 8 layout a, b, f, g, sym i, e) refl }

    pub no_check : fits (data_mask layout) bits ≡ false → fits (only_mask layout) bits ≡ false → Parses layout bits (Err Check)
    unfolding parse_of read_refusal
    no_check f g = record { number = rw (le-ltb 8 layout a, b, f, g) refl; answer = rw (le-ltb 8 layout a, b, f, g) refl }

-- ---- its test of a check, under the mask m
module _ (bits front back : List ℕ) (check calc mask m x : ℕ) (f : front ≡ take 32 bits) (g : back ≡ drop 32 bits)
    (k : check ≡ value back) (c : calc ≡ crc16_of front) (e : m ≡ mask) (q : x ≡ bit_xor calc m) where
  last : check ≡ value (drop 32 bits)
  last = k ∙ ap value g

  sides : x ≡ crc16_of (take 32 bits) ⊕ mask
  unfolding ◌⊕◌
  sides = q ∙ ap₂ bit_xor (c ∙ ap crc16_of f) e

  pub does_fit : check ≡ x → fits mask bits ≡ true
  unfolding fits
  does_fit h = eq-eqb _ _ (sym last ∙ h ∙ sides)

  pub no_fit : (check ≡ x → ⊥) → fits mask bits ≡ false
  unfolding fits
  no_fit h = ne_eqb _ _ (λ z. h (last ∙ z ∙ sym sides))

-- ---- bits that no row turns away
pub record AsData (layout : ℕ) (bits : List ℕ) : Type 0 where
  pub layout_is : layout ≤ 8
  pub bits_are : are_bits bits ≡ true
  pub check : fits (data_mask layout) bits ≡ true
  pub some : nsym_in (info_in bits) ≡ 0 → ⊥

pub record AsOnly (layout : ℕ) (bits : List ℕ) : Type 0 where
  pub layout_is : layout ≤ 8
  pub bits_are : are_bits bits ≡ true
  pub no_data : fits (data_mask layout) bits ≡ false
  pub check : fits (only_mask layout) bits ≡ true

pub either : (layout : ℕ) (bits : List ℕ) → read_refusal layout bits ≡ 0 → AsData layout bits ⊎ AsOnly layout bits
unfolding read_refusal
either layout bits e = go (ltb 8 layout) refl (are_bits bits) refl (fits (data_mask layout) bits) refl (eqb (nsym_in (info_in bits)) 0) refl (fits (only_mask layout) bits) refl e
  where
    go : (a : Bool) → ltb 8 layout ≡ a → (b : Bool) → are_bits bits ≡ b → (c : Bool) → fits (data_mask layout) bits ≡ c → (d : Bool) → eqb (nsym_in (info_in bits)) 0 ≡ d
        → (f : Bool) → fits (only_mask layout) bits ≡ f → ◌≡◌ {A = ℕ} (cond a 1 (cond (not b) 10 (cond (c && d) 9 (cond (not c && not f) 8 0)))) 0 → AsData layout bits ⊎ AsOnly layout bits
    go true qa b qb c qc d qd f qf e = absurd (omega arith)
    go false qa false qb c qc d qd f qf e = absurd (omega arith)
    go false qa true qb true qc true qd f qf e = absurd (omega arith)
    go false qa true qb true qc false qd f qf e = inl (record { layout_is = ltb-false 8 layout qa; bits_are = qb; check = qc; some = eqb-false _ 0 qd })
    go false qa true qb false qc d qd true qf e = inr (record { layout_is = ltb-false 8 layout qa; bits_are = qb; no_data = qc; check = qf })
    go false qa true qb false qc d qd false qf e = absurd (omega arith)
