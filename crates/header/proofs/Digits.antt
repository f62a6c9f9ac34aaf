-- Numbers as lists of bits, and back. Assumes nothing.
use Prim.Native.Nat.{ℕ, zero, suc, ◌+◌, ◌-◌, ◌*◌, ◌/◌, ◌%◌, ◌^◌, ◌≤◌, ◌<◌}
use mathlib.Core.Path.{◌≡◌, refl, sym, ap, ap₂, ◌∙◌}
use mathlib.Core.Bool.{Bool, true, ◌&&◌}
use mathlib.Core.List.{List, [], ◌∷◌, ◌++◌, append-nil}
use native.Mathlib.Nat.{pow-suc, mod-one, mod-eq_of_lt}
use native.Mathlib.Numerals.{add-one}
use native.Mathlib.Omega.{arith}
use lib.Dec.{ltb, lit<}
use lib.ListN.{length, take, drop, get_or, drop_of_length-le, length-append}
use lib.Seq.{take-suc, length-take-le}
use lib.Pow.{pow-add, pow_mono, high, low, mod-pow-add}
use borrow.Author.Tests.{ltb-true, lt-ltb}
use Rattle.std.specs.List.{list_all}
use Rattle.std.proofs.lemmas.Bool.{and_parts}
use Rattle.seq.specs.Tab.{tab}
use Rattle.seq.specs.Tab.Laws.{tab_only, tab_end}
use Rattle.header.specs.Bits.{are_bits, value, digits}

-- ---- bits or not

pub as_list_all : (l : List ℕ) → list_all (λ b. ltb b 2) l ≡ are_bits l
unfolding are_bits
as_list_all [] = refl
as_list_all (b ∷ l) = ap (λ (t : Bool). ltb b 2 && t) (as_list_all l)

pub bits_append : (l m : List ℕ) → are_bits l ≡ true → are_bits m ≡ true → are_bits (l ++ m) ≡ true
unfolding are_bits
bits_append [] m p q = q
bits_append (b ∷ l) m p q = let r = and_parts (ltb b 2) (are_bits l) p in rw r.0 (bits_append l m r.1 q)

pub bits_take : (n : ℕ) (l : List ℕ) → are_bits l ≡ true → are_bits (take n l) ≡ true
unfolding are_bits
bits_take zero l p = refl
bits_take (suc n) [] p = refl
bits_take (suc n) (b ∷ l) p = let r = and_parts (ltb b 2) (are_bits l) p in rw r.0 (bits_take n l r.1)

pub bits_drop : (n : ℕ) (l : List ℕ) → are_bits l ≡ true → are_bits (drop n l) ≡ true
unfolding are_bits
bits_drop zero l p = p
bits_drop (suc n) [] p = refl
bits_drop (suc n) (b ∷ l) p = bits_drop n l (and_parts (ltb b 2) (are_bits l) p).1

-- ---- read

pub value_lt : (l : List ℕ) → value l < 2 ^ length l
unfolding value
value_lt [] = lit< tt
value_lt (b ∷ l) = bound (b % 2) (2 ^ length l) (value l) (omega arith) (value_lt l) (pow-suc 2 (length l))
  where
    bound : (d k v : ℕ) → d < 2 → v < k → {m : ℕ} → m ≡ k * 2 → d * k + v < m
    bound zero k v hd hv e = omega arith
    bound (suc zero) k v hd hv e = omega arith
    bound (suc (suc d)) k v hd hv e = absurd (omega arith)

value_append : (l r : List ℕ) → value (l ++ r) ≡ value l * 2 ^ length r + value r
unfolding value
value_append [] r = omega arith
value_append (b ∷ l) r =
    ap₂ (λ (x y : ℕ). b % 2 * x + y) (ap (λ (n : ℕ). 2 ^ n) (length-append l r) ∙ pow-add 2 (length l) (length r)) (value_append l r)
    ∙ omega arith

-- one bit more
pub value_next : (l : List ℕ) (b : ℕ) → value (l ++ b ∷ []) ≡ value l * 2 + b % 2
unfolding value
value_next l b = value_append l (b ∷ []) ∙ omega arith

module _ (l : List ℕ) (i v : ℕ) where
  pub read_more : (d : ℕ) → i < length l → v ≡ value (take i l) → d ≡ get_or l i 0 % 2 → v * 2 + d ≡ value (take (i + 1) l)
  read_more d h e f =
      let t : take (i + 1) l ≡ take i l ++ get_or l i 0 ∷ [] = rw add-one (take-suc l i 0 h) in
      sym (ap value t ∙ value_next (take i l) (get_or l i 0) ∙ omega (arith, e, f))

  pub read_lt : i < length l → length l ≤ 32 → v ≡ value (take i l) → v < 2 ^ 31
  read_lt h k e =
      let n : length (take i l) ≡ i = length-take-le i l (omega arith) in
      let b : 2 ^ i ≤ 2 ^ 31 = pow_mono {i = i} {j = 31} (omega arith) in
      omega (arith, e, rw n at (value_lt (take i l)))

-- ---- written

pub length_digits : (n v : ℕ) → length (digits n v) ≡ n
unfolding digits
length_digits zero v = refl
length_digits (suc n) v = ap suc (length_digits n v)

-- the digit at place i, the highest first
abbrev pub digit : ℕ → ℕ → ℕ → ℕ
digit n v i = v / 2 ^ (n - 1 - i) % 2

digit_at : (n v i : ℕ) → i < n → get_or (digits n v) i 0 ≡ digit n v i
unfolding digits
digit_at zero v i h = absurd (omega arith)
digit_at (suc n) v zero h = ap (λ (k : ℕ). v / 2 ^ k % 2) (let e : n ≡ suc n - 1 - 0 = omega arith in e)
digit_at (suc n) v (suc i) h = digit_at n v i (omega arith) ∙ ap (λ (k : ℕ). v / 2 ^ k % 2) (let e : n - 1 - i ≡ suc n - 1 - suc i = omega arith in e)

-- a list of n bytes, all n digits written
pub push_end : (n v i : ℕ) (l₀ l : List ℕ) → i ≤ n → n ≤ i → n ≡ length l₀ → l ≡ tab i (digit n v) ++ drop i l₀ → l ≡ digits (length l₀) v
push_end n v i l₀ l h h' e f =
    tab_end (digit n v) i n l₀ l h h' f
    ∙ ap (λ (r : List ℕ). tab n (digit n v) ++ r) (drop_of_length-le l₀ {i = n} (omega arith))
    ∙ append-nil (tab n (digit n v))
    ∙ sym (tab_only (digit n v) n 0 (digits n v) (length_digits n v) (λ j b. digit_at n v j b))
    ∙ ap (λ (k : ℕ). digits k v) e

-- ---- there and back

pub bits_digits : (n v : ℕ) → are_bits (digits n v) ≡ true
unfolding are_bits digits
bits_digits zero v = refl
bits_digits (suc n) v = rw (lt-ltb (v / 2 ^ n % 2) 2 (omega arith)) (bits_digits n v)

value_mod : (n v : ℕ) → value (digits n v) ≡ v % 2 ^ n
unfolding value digits
value_mod zero v = sym (mod-one v)
value_mod (suc n) v =
    rw (length_digits n v, value_mod n v)
    (ap (λ (d : ℕ). d * 2 ^ n + v % 2 ^ n) (let e : v / 2 ^ n % 2 % 2 ≡ v / 2 ^ n % 2 = omega arith in e)
    ∙ sym (mod-pow-add v 1 n)
    ∙ ap (λ (k : ℕ). v % 2 ^ k) (let e : 1 + n ≡ suc n = omega arith in e))

pub value_digits : (n v : ℕ) → v < 2 ^ n → value (digits n v) ≡ v
value_digits n v h = value_mod n v ∙ mod-eq_of_lt h

-- bits with the same value are the same
same : (l m : List ℕ) → length l ≡ length m → are_bits l ≡ true → are_bits m ≡ true → value l ≡ value m → l ≡ m
unfolding value are_bits
same [] [] n p q e = refl
same [] (c ∷ m) n p q e = absurd (omega arith)
same (b ∷ l) [] n p q e = absurd (omega arith)
same (b ∷ l) (c ∷ m) n p q e =
    let n' : length m ≡ length l = omega arith in
    let e' : b % 2 * 2 ^ length l + value l ≡ c % 2 * 2 ^ length l + value m = e ∙ ap (λ (k : ℕ). c % 2 * 2 ^ k + value m) n' in
    let lm : value m < 2 ^ length l = rw n' at (value_lt m) in
    let hi : b % 2 ≡ c % 2 = sym (high (b % 2) (length l) (value_lt l)) ∙ ap (λ (k : ℕ). k / 2 ^ length l) e' ∙ high (c % 2) (length l) lm in
    let lo : value l ≡ value m = sym (low (b % 2) (length l) (value_lt l)) ∙ ap (λ (k : ℕ). k % 2 ^ length l) e' ∙ low (c % 2) (length l) lm in
    let pb = and_parts (ltb b 2) (are_bits l) p in
    let qc = and_parts (ltb c 2) (are_bits m) q in
    let bl = ltb-true b 2 pb.0 in
    let cl = ltb-true c 2 qc.0 in
    ap₂ (λ (x : ℕ) (t : List ℕ). x ∷ t) (omega (arith, hi, bl, cl)) (same l m (sym n') pb.1 qc.1 lo)

pub digits_value : (n : ℕ) (l : List ℕ) → length l ≡ n → are_bits l ≡ true → digits n (value l) ≡ l
digits_value n l h b =
    same (digits n (value l)) l (length_digits n (value l) ∙ sym h) (bits_digits n (value l)) b (value_digits n (value l) (rw h at (value_lt l)))

-- for `grind`, of the loop that reads
pub ruleset reading = (read_more, read_lt)
