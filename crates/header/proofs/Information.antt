-- The fields that are accepted, and their 32 bits of information, there and back. Assumes nothing.
use Prim.Native.Nat.{ℕ, zero, suc, ◌+◌, ◌*◌, ◌/◌, ◌%◌, ◌^◌, ◌≤◌, ◌<◌}
use mathlib.Core.Path.{◌≡◌, refl, sym, ap, ◌∙◌}
use mathlib.Core.Bool.{Bool, true, false}
use native.Mathlib.Omega.{arith}
use lib.Dec.{eqb}
use lib.Pow.{split, shr-shr}
use borrow.Author.Tests.{leb-true, le-leb, eq-eqb, ne_eqb, eqb-true, not-true}
use Rattle.header.specs.declared.fields.Header.{Header}
use Rattle.header.specs.Fields.{bit, mode_bits, mode_from, is_plain, narrow, accepted, data_info, only_info, nsym_in, data_from, only_from}
use Rattle.std.proofs.lemmas.Bool.{and_parts}

-- ---- bits of a flag and of the mode

pub bit_le : (b : Bool) → bit b ≤ 1
bit_le true = omega arith
bit_le false = omega arith

bit_back : (b : Bool) (n : ℕ) → n ≡ bit b → eqb n 1 ≡ b
bit_back true n e = eq-eqb n 1 e
bit_back false n e = ne_eqb n 1 (λ z. omega arith)

bit_forth : (n : ℕ) → n < 2 → bit (eqb n 1) ≡ n
bit_forth zero h = refl
bit_forth (suc zero) h = refl
bit_forth (suc (suc n)) h = absurd (omega arith)

-- ---- accepted fields

pub record Narrow (h : Header) : Type 0 where
  pub constellation : h.constellation ≤ 3
  pub nsym : h.nsym ≤ 1023
  pub gain : h.mode.gain_code ≤ 3

pub narrow_fields : (h : Header) → accepted h ≡ true → Narrow h
unfolding accepted
narrow_fields h e =
    let a = and_parts _ _ (and_parts (narrow h) _ e).0 in
    let b = and_parts _ _ a.0 in
    record { constellation = leb-true _ 3 b.0; nsym = leb-true _ 1023 b.1; gain = leb-true _ 3 a.1 }

pub mode_le : (h : Header) → Narrow h → mode_bits h.mode ≤ 14
unfolding mode_bits
mode_le h w = omega (arith, w.gain, bit_le h.mode.spread)

-- that fields which are accepted have room, for `grind`
pub ruleset roomy = (narrow_fields, mode_le, bit_le)

no_extra : (h : Header) → accepted h ≡ true → (h.nsym ≡ 0 → ⊥) → h.extra ≡ 0
unfolding accepted
no_extra h e n = eqb-true _ 0 (and_parts (narrow h) _ (rw (ne_eqb h.nsym 0 n) at e)).1

record Bare (h : Header) : Type 0 where
  constellation : h.constellation ≡ 0
  sparse : h.sparse ≡ false
  spread : h.mode.spread ≡ false
  gain : h.mode.gain_code ≡ 0

bare : (h : Header) → accepted h ≡ true → h.nsym ≡ 0 → Bare h
unfolding accepted
bare h e n =
    let a = and_parts _ (is_plain h.mode) (and_parts (narrow h) _ (rw (eq-eqb h.nsym 0 n) at e)).1 in
    let b = and_parts _ _ a.0 in
    let c = and_parts _ _ a.1 in
    record { constellation = eqb-true _ 0 b.0; sparse = not-true _ b.1; spread = not-true _ c.0; gain = eqb-true _ 0 c.1 }

-- ---- data, there and back

same : (h k : Header) → h.constellation ≡ k.constellation → h.nsym ≡ k.nsym → h.user ≡ k.user → h.extra ≡ k.extra
    → h.sparse ≡ k.sparse → h.mode.spread ≡ k.mode.spread → h.mode.gain_code ≡ k.mode.gain_code → h ≡ k
same h k c n u e s p g =
    λ i. record { constellation = c i; nsym = n i; user = u i; extra = e i; sparse = s i; mode = record { spread = p i; gain_code = g i } }

module _ (h : Header) (ok : accepted h ≡ true) (user : h.user < 2 ^ 16) where
  pub data_info_lt : data_info h < 2 ^ 32
  unfolding data_info
  data_info_lt = let w = narrow_fields h ok in omega (arith, w, mode_le h w, bit_le h.sparse)

  module _ (n : h.nsym ≡ 0 → ⊥) where
    pub data_back : data_from (data_info h) ≡ h
    unfolding data_from mode_from data_info mode_bits
    data_back =
        let w = narrow_fields h ok in
        let s = bit_le h.sparse in
        let p = bit_le h.mode.spread in
        same _ h (omega arith) (omega arith) (omega arith) (sym (no_extra h ok n)) (bit_back h.sparse (data_info h % 2) (omega arith)) (bit_back h.mode.spread (data_info h / 2 % 2) (omega arith)) (omega arith)

    pub data_nsym : nsym_in (data_info h) ≡ h.nsym
    unfolding data_from
    data_nsym = ap (λ (k : Header). k.nsym) data_back

-- ---- header-only, there and back

-- the places of the fields, read back
extra_at : (c m u r : ℕ) → m < 1024 → u < 65536 → r < 16
    → (c * 2 ^ 30 + m * 2 ^ 20 + u * 2 ^ 4 + r) / 2 ^ 30 * 2 ^ 14 + (c * 2 ^ 30 + m * 2 ^ 20 + u * 2 ^ 4 + r) / 2 ^ 20 % 2 ^ 10 * 2 ^ 4 + (c * 2 ^ 30 + m * 2 ^ 20 + u * 2 ^ 4 + r) % 2 ^ 4
    ≡ c * 2 ^ 14 + m * 2 ^ 4 + r
extra_at c m u r hm hu hr =
    let x = c * 2 ^ 30 + m * 2 ^ 20 + u * 2 ^ 4 + r in
    let a : x / 2 ^ 30 ≡ c = omega arith in
    let b : x / 2 ^ 20 % 2 ^ 10 ≡ m = omega arith in
    let d : x % 2 ^ 4 ≡ r = omega arith in
    rw (a, b, d) refl

extra_whole : (e : ℕ) → e / 2 ^ 14 * 2 ^ 14 + e / 2 ^ 4 % 2 ^ 10 * 2 ^ 4 + e % 2 ^ 4 ≡ e
extra_whole e = omega (arith, shr-shr e 4 10)

module _ (h : Header) (ok : accepted h ≡ true) (user : h.user < 2 ^ 16) (extra : h.extra < 2 ^ 16) where
  pub only_info_lt : only_info h < 2 ^ 32
  unfolding only_info
  only_info_lt = omega arith

  pub only_back : h.nsym ≡ 0 → only_from (only_info h) ≡ h
  unfolding only_from only_info
  only_back n =
      let b = bare h ok n in
      same _ h (sym b.constellation) (sym n) (omega arith)
      (extra_at (h.extra / 2 ^ 14) (h.extra / 2 ^ 4 % 2 ^ 10) h.user (h.extra % 2 ^ 4) (omega arith) user (omega arith) ∙ extra_whole h.extra)
      (sym b.sparse) (sym b.spread) (sym b.gain)

-- ---- from the number, and back to it

-- a number is its fields, laid end to end
joined : (n r a u b m c : ℕ) → a * 16 + r ≡ n → b * 65536 + u ≡ a → c * 1024 + m ≡ b → c * 2 ^ 30 + m * 2 ^ 20 + u * 2 ^ 4 + r ≡ n
joined n r a u b m c e f g = omega arith

whole : (n : ℕ) → n / 2 ^ 30 * 2 ^ 30 + nsym_in n * 2 ^ 20 + n / 2 ^ 4 % 2 ^ 16 * 2 ^ 4 + n % 2 ^ 4 ≡ n
whole n =
    joined n (n % 2 ^ 4) (n / 2 ^ 4) (n / 2 ^ 4 % 2 ^ 16) (n / 2 ^ 20) (nsym_in n) (n / 2 ^ 30) (split n 4)
    (ap (λ (k : ℕ). k * 2 ^ 16 + n / 2 ^ 4 % 2 ^ 16) (sym (shr-shr n 4 16)) ∙ split (n / 2 ^ 4) 16)
    (ap (λ (k : ℕ). k * 2 ^ 10 + n / 2 ^ 20 % 2 ^ 10) (sym (shr-shr n 20 10)) ∙ split (n / 2 ^ 20) 10)

last_four : (n : ℕ) → n / 2 % 2 * 2 + n / 4 % 4 * 4 + n % 2 ≡ n % 2 ^ 4
last_four n = omega (arith, shr-shr n 1 1, shr-shr n 2 2)

places : (c m r u : ℕ) → m < 1024 → r < 16
    → (c * 2 ^ 14 + m * 2 ^ 4 + r) / 2 ^ 14 * 2 ^ 30 + (c * 2 ^ 14 + m * 2 ^ 4 + r) / 2 ^ 4 % 2 ^ 10 * 2 ^ 20 + u * 2 ^ 4 + (c * 2 ^ 14 + m * 2 ^ 4 + r) % 2 ^ 4
    ≡ c * 2 ^ 30 + m * 2 ^ 20 + u * 2 ^ 4 + r
places c m r u hm hr =
    let x = c * 2 ^ 14 + m * 2 ^ 4 + r in
    let a : x / 2 ^ 14 ≡ c = omega arith in
    let b : x / 2 ^ 4 % 2 ^ 10 ≡ m = omega arith in
    let d : x % 2 ^ 4 ≡ r = omega arith in
    rw (a, b, d) refl

module _ (n : ℕ) where
  pub data_again : data_info (data_from n) ≡ n
  unfolding data_info data_from mode_bits mode_from
  data_again =
      rw (bit_forth (n % 2) (omega arith), bit_forth (n / 2 % 2) (omega arith), last_four n) (whole n)

  pub data_accepted : n < 2 ^ 32 → (nsym_in n ≡ 0 → ⊥) → accepted (data_from n) ≡ true
  unfolding accepted data_from mode_from
  data_accepted l z = rw (le-leb (n / 2 ^ 30) 3 (omega arith), le-leb (nsym_in n) 1023 (omega arith), le-leb (n / 4 % 4) 3 (omega arith), ne_eqb _ 0 z) refl

  pub data_kind : (nsym_in n ≡ 0 → ⊥) → eqb (data_from n).nsym 0 ≡ false
  unfolding data_from
  data_kind z = ne_eqb _ 0 z

  pub only_again : only_info (only_from n) ≡ n
  unfolding only_info only_from
  only_again = places (n / 2 ^ 30) (nsym_in n) (n % 2 ^ 4) (n / 2 ^ 4 % 2 ^ 16) (omega arith) (omega arith) ∙ whole n

  pub only_accepted : accepted (only_from n) ≡ true
  unfolding accepted only_from
  only_accepted = refl

  pub only_kind : eqb (only_from n).nsym 0 ≡ true
  unfolding only_from
  only_kind = refl
