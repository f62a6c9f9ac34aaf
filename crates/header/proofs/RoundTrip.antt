-- The round trips. Assumes nothing.
use Prim.Native.Nat.{ℕ, ◌^◌, ◌≤◌, ◌<◌}
use mathlib.Core.Path.{◌≡◌, refl, sym, ap, ap₂, ◌∙◌}
use mathlib.Core.Bool.{Bool, true, false, cond}
use mathlib.Core.List.{List, ◌++◌}
use mathlib.Core.Logic.{◌⊎◌, inl, inr}
use Rattle.std.specs.Prelude.{Ok}
use native.Mathlib.Omega.{arith}
use lib.Dec.{eqb}
use lib.ListN.{length, take, drop, length-drop, take-append-drop}
use lib.Seq.{length-take-le, take_at, drop_at}
use borrow.Author.Tests.{le-ltb, eq-eqb, ne_eqb, eqb-true, eqb-false}
use Rattle.header.specs.declared.fields.Header.{Header}
use Rattle.header.specs.declared.parse.Parsed.TheVariants.{Data, HeaderOnly}
use Rattle.header.specs.Bits.{are_bits, value, digits}
use Rattle.header.specs.Poly.{◌⊕◌}
use Rattle.header.specs.Check.{crc16_of}
use Rattle.header.specs.Masks.{data_mask, only_mask}
use Rattle.header.specs.Fields.{accepted, data_info, only_info, info_of, data_from, only_from}
use Rattle.header.specs.Frame.{frame_of, mask_of, bits_of, write_refusal, info_in, fits, parse_of}
use Rattle.header.specs.RoundTrip.{as_kind, Rewritten, RoundTrip}
use Rattle.header.proofs.Xor.{⊕-lt, ⊕-back}
use Rattle.header.proofs.Register.{crc_lt}
use Rattle.header.proofs.Digits.{value_lt, length_digits, bits_digits, value_digits, digits_value, bits_append, bits_take, bits_drop}
use Rattle.header.proofs.Masks.{data_small, only_small, masks_differ}
use Rattle.header.proofs.Information.{data_info_lt, data_back, data_nsym, only_info_lt, only_back, data_again, data_accepted, data_kind, only_again, only_accepted, only_kind}
use Rattle.header.proofs.Framing.{passed}
use Rattle.header.proofs.Reading.{AsData, AsOnly, either, some_data, header_only_lem}

-- ---- the frame of 32 bits of information
module _ (info mask : ℕ) (small : info < 2 ^ 32) (small_mask : mask < 2 ^ 16) where
  abbrev F : List ℕ
  F = frame_of info mask

  first : take 32 F ≡ digits 32 info
  unfolding frame_of
  first = take_at (digits 32 info) (digits 16 _) 32 (length_digits 32 info)

  last : value (drop 32 F) ≡ crc16_of (digits 32 info) ⊕ mask
  unfolding frame_of
  last =
      ap value (drop_at (digits 32 info) (digits 16 _) 32 (length_digits 32 info))
      ∙ value_digits 16 _ (⊕-lt 16 (crc_lt (digits 32 info)) small_mask)

  frame_info : info_in F ≡ info
  frame_info = ap value first ∙ value_digits 32 info small

  frame_fits : fits mask F ≡ true
  unfolding fits
  frame_fits = eq-eqb _ _ (last ∙ ap (λ (l : List ℕ). crc16_of l ⊕ mask) (sym first))

  -- it fits under no other mask
  frame_no_other : (other : ℕ) → (mask ≡ other → ⊥) → fits other F ≡ false
  unfolding fits
  frame_no_other other ne =
      let c = crc16_of (digits 32 info) in
      ne_eqb _ _ (λ z.
      let e : c ⊕ mask ≡ c ⊕ other = sym last ∙ z ∙ ap (λ (l : List ℕ). crc16_of l ⊕ other) first in
      ne (sym (⊕-back c mask) ∙ ap (λ (t : ℕ). c ⊕ t) e ∙ ⊕-back c other))

  frame_bits : are_bits F ≡ true
  unfolding frame_of
  frame_bits = bits_append (digits 32 info) (digits 16 _) (bits_digits 32 info) (bits_digits 16 _)

-- bits that a check fits are the frame of their first 32
frame_of_lem : (mask : ℕ) (bits : List ℕ) → length bits ≡ 48 → are_bits bits ≡ true → fits mask bits ≡ true → frame_of (info_in bits) mask ≡ bits
unfolding frame_of fits
frame_of_lem mask bits len b f =
    let t = digits_value 32 (take 32 bits) (length-take-le 32 bits (omega arith)) (bits_take 32 bits b) in
    let d = digits_value 16 (drop 32 bits) (length-drop 32 bits ∙ omega arith) (bits_drop 32 bits b) in
    ap₂ ◌++◌ t (ap (λ (l : List ℕ). digits 16 (crc16_of l ⊕ mask)) t ∙ ap (digits 16) (sym (eqb-true _ _ f)) ∙ d) ∙ take-append-drop 32 bits

-- ---- written, then read
write_read : (layout : ℕ) (h : Header) → h.user < 2 ^ 16 → h.extra < 2 ^ 16 → write_refusal layout h ≡ 0 → parse_of layout (bits_of layout h) ≡ Ok (as_kind h)
unfolding bits_of info_of mask_of
write_read layout h u x e = go (eqb h.nsym 0) refl
  where
    a : layout ≤ 8
    a = (passed layout h e).0

    ok : accepted h ≡ true
    ok = (passed layout h e).1

    go : (o : Bool) → eqb h.nsym 0 ≡ o → parse_of layout (frame_of (cond o (only_info h) (data_info h)) (cond o (only_mask layout) (data_mask layout))) ≡ Ok (cond o (HeaderOnly h) (Data h))
    go true q =
        let s = only_info_lt h ok u x in
        let m = only_small layout in
        sym (header_only_lem layout _ a (frame_bits _ _ s m) (only_info h) (sym (frame_info _ _ s m)) h
        (frame_no_other _ _ s m (data_mask layout) (masks_differ layout)) (frame_fits _ _ s m) (sym (only_back h ok u x (eqb-true _ 0 q)))).answer
    go false q =
        let n = eqb-false _ 0 q in
        let s = data_info_lt h ok u in
        let m = data_small layout in
        sym (some_data layout _ a (frame_bits _ _ s m) (data_info h) (sym (frame_info _ _ s m)) h
        (frame_fits _ _ s m) (λ z. n (sym (data_nsym h ok u n) ∙ z)) (sym (data_back h ok u n))).answer

-- ---- read, then written
info_lt : (bits : List ℕ) → length bits ≡ 48 → info_in bits < 2 ^ 32
info_lt bits len = let n : length (take 32 bits) ≡ 32 = length-take-le 32 bits (omega arith) in rw n at (value_lt (take 32 bits))

module _ (layout : ℕ) (bits : List ℕ) (len : length bits ≡ 48) where
  abbrev n : ℕ
  n = info_in bits

  data_rewritten : AsData layout bits → Rewritten layout bits (data_from n)
  unfolding bits_of info_of mask_of write_refusal
  data_rewritten p =
      let o = data_kind n p.some in
      record {
        kind = rw o (sym (some_data layout bits p.layout_is p.bits_are n refl (data_from n) p.check p.some refl).answer);
        accepted = rw (le-ltb 8 layout p.layout_is, data_accepted n (info_lt bits len) p.some) refl;
        bits_again = rw (o, data_again n) (frame_of_lem (data_mask layout) bits len p.bits_are p.check);
      }

  only_rewritten : AsOnly layout bits → Rewritten layout bits (only_from n)
  unfolding bits_of info_of mask_of write_refusal
  only_rewritten p =
      let o = only_kind n in
      record {
        kind = rw o (sym (header_only_lem layout bits p.layout_is p.bits_are n refl (only_from n) p.no_data p.check refl).answer);
        accepted = rw (le-ltb 8 layout p.layout_is, only_accepted n) refl;
        bits_again = rw (o, only_again n) (frame_of_lem (only_mask layout) bits len p.bits_are p.check);
      }

  rewritten : AsData layout bits ⊎ AsOnly layout bits → (h : Header) × Rewritten layout bits h
  rewritten (inl p) = (data_from n, data_rewritten p)
  rewritten (inr p) = (only_from n, only_rewritten p)

pub round_trip : RoundTrip
round_trip = record { write_read = write_read; read_write = λ layout bits len e. rewritten layout bits len (either layout bits e) }
