-- The register holds the remainder of what it has been fed. Assumes nothing.
use Prim.Native.Nat.{ℕ, zero, suc, ◌+◌, ◌*◌, ◌/◌, ◌%◌, ◌^◌, ◌≤◌, ◌<◌, zero-le}
use mathlib.Core.Path.{◌≡◌, refl, sym, ap, ap₂, subst, ◌∙◌}
use mathlib.Core.Bool.{Bool, true, false, cond}
use mathlib.Core.List.{List, [], ◌∷◌, ◌++◌, append-nil, append_assoc}
use Rattle.std.specs.List.{fold}
use native.Mathlib.Nat.{pow-suc, add_comm}
use native.Mathlib.Omega.{arith}
use lib.Dec.{lit<, eqb}
use lib.ListN.{length, take, get_or, length-append}
use lib.Seq.{take-suc, take_all}
use lib.Bits.{bit_xor, bit_and, and_mask}
use lib.Pow.{shl_lt}
use borrow.Author.Tests.{le-leb, lt-leb, eq-eqb, ne_eqb, eqb-true, eqb-false}
use Rattle.seq.specs.Loop.{for}
use Rattle.seq.specs.Loop.Laws.{for_none, for_next}
use Rattle.header.specs.Bits.{value}
use Rattle.header.specs.Poly.{◌⊕◌, Multiple, G, Remainder, divide}
use Rattle.header.specs.Check.{dividend, crc16_of, shifted, register, V41}
use Rattle.header.proofs.Xor.{xors, ⊕-lt, ⊕-twice, ⊕-shift, ⊕-apart, ⊕-block, ⊕-self, ⊕-zero, ⊕-lowest}
use Rattle.header.proofs.Division.{divided, unique, sum, twice}
use Rattle.header.proofs.Digits.{value_lt, value_next}

dividend_lt : (l : List ℕ) → dividend l < 2 ^ (16 + length l)
unfolding dividend
dividend_lt l =
    ⊕-lt (16 + length l)
    (subst (λ (n : ℕ). value l * 2 ^ 16 < 2 ^ n) (add_comm (length l) 16) (shl_lt (length l) 16 (value_lt l)))
    (shl_lt 16 (length l) (lit< tt))

-- the check bits are THE remainder
pub check : (l : List ℕ) → Remainder (dividend l) (crc16_of l)
unfolding crc16_of
check l = divided (length l) (dividend l) (dividend_lt l)

pub crc_lt : (l : List ℕ) → crc16_of l < 2 ^ 16
crc_lt l = (check l).small

-- ---- one bit more

dividend_next : (l : List ℕ) (b : ℕ) → dividend (l ++ b ∷ []) ≡ dividend l * 2 ⊕ b % 2 * 2 ^ 16
unfolding dividend
dividend_next l b =
    let n = length l in
    let v : value (l ++ b ∷ []) ≡ value l * 2 ⊕ b % 2 = value_next l b ∙ sym (⊕-apart 1 (value l) (b % 2) (omega arith)) in
    let k : length (l ++ b ∷ []) ≡ suc n = length-append l (b ∷ []) ∙ omega arith in
    let w : (value l * 2 ⊕ b % 2) * 2 ^ 16 ≡ value l * 2 ^ 16 * 2 ⊕ b % 2 * 2 ^ 16 =
    ⊕-shift 16 (value l * 2) (b % 2) ∙ ap (λ (x : ℕ). x ⊕ b % 2 * 2 ^ 16) (let e : value l * 2 * 2 ^ 16 ≡ value l * 2 ^ 16 * 2 = omega arith in e) in
    let u : 0xFFFF * 2 ^ suc n ≡ 0xFFFF * 2 ^ n * 2 = omega (arith, pow-suc 2 n) in
    ap₂ (λ (x m : ℕ). x * 2 ^ 16 ⊕ 0xFFFF * 2 ^ m) v k ∙ ap₂ ◌⊕◌ w u ∙ simp (⊕-twice, xors)

-- the register's step is a division of what it holds, shifted, with the bit above
module _ (r b : ℕ) (h : r < 2 ^ 16) where
  fed : r * 2 ⊕ b % 2 * 2 ^ 16 ≡ (r / 2 ^ 15 ⊕ b % 2) * 2 ^ 16 + r * 2 % 2 ^ 16
  fed =
      let e : r * 2 ≡ r / 2 ^ 15 * 2 ^ 16 + r * 2 % 2 ^ 16 = omega arith in
      let f : b % 2 * 2 ^ 16 ≡ b % 2 * 2 ^ 16 + 0 = omega arith in
      ap₂ ◌⊕◌ e f ∙ ⊕-block 16 (r / 2 ^ 15) (b % 2) (r * 2 % 2 ^ 16) 0 (omega arith) (lit< tt) ∙ ap (λ (x : ℕ). (r / 2 ^ 15 ⊕ b % 2) * 2 ^ 16 + x) (⊕-zero (r * 2 % 2 ^ 16))

  -- the bit that leaves at the top, with the one that is fed
  top : (r / 2 ^ 15 ⊕ b) % 2 ≡ r / 2 ^ 15 ⊕ b % 2
  top = ⊕-lowest (r / 2 ^ 15) b ∙ ap (λ (x : ℕ). x ⊕ b % 2) (let e : r / 2 ^ 15 % 2 ≡ r / 2 ^ 15 = omega arith in e)

  divides : shifted r b ≡ divide 1 (r * 2 ⊕ b % 2 * 2 ^ 16)
  unfolding shifted divide
  divides = go (eqb ((r / 2 ^ 15 ⊕ b) % 2) 1) refl
    where
      m : ℕ
      m = r * 2 % 2 ^ 16

      go : (t : Bool) → eqb ((r / 2 ^ 15 ⊕ b) % 2) 1 ≡ t → cond t (m ⊕ 0x1021) m ≡ divide 1 (r * 2 ⊕ b % 2 * 2 ^ 16)
      go true e =
          let z : r * 2 ⊕ b % 2 * 2 ^ 16 ≡ 1 * 2 ^ 16 + m = fed ∙ ap (λ (x : ℕ). x * 2 ^ 16 + m) (sym top ∙ eqb-true _ 1 e) in
          let w : (1 * 2 ^ 16 + m) ⊕ (1 * 2 ^ 16 + 0x1021) ≡ m ⊕ 0x1021 =
          ⊕-block 16 1 1 m 0x1021 (omega arith) (lit< tt) ∙ ap (λ (x : ℕ). x * 2 ^ 16 + (m ⊕ 0x1021)) (⊕-self 1) ∙ omega arith in
          rw (z, le-leb (2 ^ 16) (1 * 2 ^ 16 + m) (omega arith)) (sym w)
      go false e =
          let l : r / 2 ^ 15 ⊕ b % 2 < 2 = ⊕-lt 1 (omega arith) (omega arith) in
          let n : r / 2 ^ 15 ⊕ b % 2 ≡ 1 → ⊥ = λ q. eqb-false _ 1 e (top ∙ q) in
          let z : r * 2 ⊕ b % 2 * 2 ^ 16 ≡ m = fed ∙ omega arith in
          rw (z, lt-leb (2 ^ 16) m (omega arith)) refl

  step : Remainder (r * 2 ⊕ b % 2 * 2 ^ 16) (shifted r b)
  step = subst (Remainder (r * 2 ⊕ b % 2 * 2 ^ 16)) (sym divides) (divided 1 (r * 2 ⊕ b % 2 * 2 ^ 16) (⊕-lt 17 (omega arith) (omega arith)))

crc_next : (l : List ℕ) (b : ℕ) → shifted (crc16_of l) b ≡ crc16_of (l ++ b ∷ [])
crc_next l b =
    let c = check l in
    let s = step (crc16_of l) b c.small in
    let e : (dividend l ⊕ crc16_of l) * 2 ⊕ (crc16_of l * 2 ⊕ b % 2 * 2 ^ 16 ⊕ shifted (crc16_of l) b) ≡ dividend (l ++ b ∷ []) ⊕ shifted (crc16_of l) b =
    rw (dividend_next l b) (simp (⊕-twice, xors)) in
    unique (record { small = s.small; rest = subst (Multiple G) e (sum (twice c.rest) s.rest) }) (check (l ++ b ∷ []))

-- ---- the loop

crc_none : 0xFFFF ≡ crc16_of []
unfolding crc16_of dividend divide value ◌⊕◌
crc_none = refl

so_far : (l : List ℕ) (n : ℕ) → n ≤ length l → register l n ≡ crc16_of (take n l)
unfolding register
so_far l zero h = sym (for_none _ 0 0xFFFF) ∙ crc_none
so_far l (suc n) h =
    let f : ℕ → ℕ → ℕ = λ i crc. shifted crc (get_or l i 0) in
    ap (λ (k : ℕ). for 0 k f 0xFFFF) (let e : suc n ≡ n + 1 = omega arith in e)
    ∙ for_next f 0 n 0xFFFF zero-le
    ∙ ap (λ (crc : ℕ). shifted crc (get_or l n 0)) (so_far l n (omega arith))
    ∙ crc_next (take n l) (get_or l n 0)
    ∙ ap crc16_of (sym (take-suc l n 0 h))

pub registered : (l : List ℕ) → register l (length l) ≡ crc16_of l
registered l = so_far l (length l) (omega arith) ∙ ap crc16_of (take_all (length l) l (omega arith))

-- the same from what a list in front has left
folded : (l m : List ℕ) → fold shifted (crc16_of l) m ≡ crc16_of (l ++ m)
folded l [] = ap crc16_of (sym (append-nil l))
folded l (b ∷ m) = rw (crc_next l b) (folded (l ++ b ∷ []) m ∙ ap crc16_of (append_assoc l (b ∷ []) m))

pub folded_all : (l : List ℕ) → fold shifted 0xFFFF l ≡ crc16_of l
folded_all l = rw crc_none (folded [] l)

-- ---- the register's step as the code makes it

module _ (r b : ℕ) where
  bit : bit_and (bit_xor (r / 32768) b) 1 ≡ (r / 2 ^ 15 ⊕ b) % 2
  unfolding ◌⊕◌
  bit = and_mask (bit_xor (r / 32768) b) 1

  pub on : bit_and (bit_xor (r / 32768) b) 1 ≡ 1 → bit_xor (r * 2 % 65536) 0x1021 ≡ shifted r b
  unfolding shifted ◌⊕◌
  on e = rw (eq-eqb _ 1 (sym bit ∙ e)) refl

  pub off : (bit_and (bit_xor (r / 32768) b) 1 ≡ 1 → ⊥) → r * 2 % 65536 ≡ shifted r b
  unfolding shifted
  off ne = rw (ne_eqb _ 1 (λ q. ne (bit ∙ q))) refl

pub v41 : V41
unfolding crc16_of dividend divide value ◌⊕◌
v41 = record { remainder = check; registered = registered; zero_bit = refl; one_to_nine = refl }
