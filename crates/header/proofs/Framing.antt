-- The 48 bits as the code writes them. Assumes nothing.
use Prim.Native.Nat.{ℕ, ◌+◌, ◌≤◌}
use mathlib.Core.Path.{◌≡◌, refl, sym, ap, ◌∙◌}
use mathlib.Core.Bool.{Bool, true, false, cond, not}
use mathlib.Core.List.{List, ◌++◌}
use native.Mathlib.Omega.{arith}
use lib.Bits.{bit_xor}
use lib.Dec.{ltb}
use borrow.Author.Tests.{ltb-false, eq-eqb, ne_eqb}
use Rattle.layout.specs.declared.layouts.Layout.{Layout}
use Rattle.layout.specs.Layouts.{layout_of}
use Rattle.header.specs.declared.fields.Header.{Header}
use Rattle.header.specs.Bits.{digits}
use Rattle.header.specs.Poly.{◌⊕◌}
use Rattle.header.specs.Check.{crc16_of}
use Rattle.header.specs.Masks.{data_mask, only_mask}
use Rattle.header.specs.Fields.{accepted, data_info, only_info, info_of}
use Rattle.header.specs.Frame.{frame_of, mask_of, bits_of, write_refusal, Writes}

-- ---- put_frame: the first 32 bytes are p afterwards, and the other 16 q
pub framed : (p q : List ℕ) (n m info mask crc x : ℕ) → n ≡ 32 → m + 32 ≡ 48 → p ≡ digits n info
    → crc ≡ crc16_of p → x ≡ bit_xor crc mask → q ≡ digits m x → p ++ q ≡ frame_of info mask
unfolding frame_of ◌⊕◌
framed p q n m info mask crc x hn hm a c e b =
    let k : m ≡ 16 = omega arith in
    let f : p ≡ digits 32 info = rw hn at a in
    rw (b, k, e, c, f) refl

-- ---- header_bits

pub passed : (layout : ℕ) (h : Header) → write_refusal layout h ≡ 0 → (layout ≤ 8) × (accepted h ≡ true)
unfolding write_refusal
passed layout h e = go (ltb 8 layout) refl (accepted h) e
  where
    go : (a : Bool) → ltb 8 layout ≡ a → (b : Bool) → ◌≡◌ {A = ℕ} (cond a 1 (cond (not b) 10 0)) 0 → (layout ≤ 8) × (b ≡ true)
    go true q b e = absurd (omega arith)
    go false q true e = (ltb-false 8 layout q, refl)
    go false q false e = absurd (omega arith)

module _ (layout : ℕ) (h : Header) (old : List ℕ) where
  module _ (bits : List ℕ) (masks : Layout) (z : 0 ≡ write_refusal layout h) (e : masks ≡ layout_of layout) where
    wrote : bits ≡ bits_of layout h → Writes layout h 0 old bits
    wrote b = record { answer = z; out = rw (sym z) b }

    pub wrote_only : h.nsym ≡ 0 → bits ≡ frame_of (only_info h) masks.crc_ho → Writes layout h 0 old bits
    unfolding bits_of info_of mask_of only_mask
    wrote_only n b = wrote (b ∙ rw (e, eq-eqb h.nsym 0 n) refl)

    pub wrote_data : (h.nsym ≡ 0 → ⊥) → bits ≡ frame_of (data_info h) masks.crc_data → Writes layout h 0 old bits
    unfolding bits_of info_of mask_of data_mask
    wrote_data n b = wrote (b ∙ rw (e, ne_eqb h.nsym 0 n) refl)

-- for `grind`, of `header_bits`
pub ruleset writing = (passed, wrote_only, wrote_data)
