-- What is written is the lines of what was read. Assumes nothing.
use Rattle.std.proofs.Common.{◌≡◌, ℕ, ◌<◌, true, List, length, take, None, Some, Result, Ok, Err, IfSome, OnOk, arith, refl, sym, ap, ◌∙◌, subst, length-take-le, take_all, lt-ltb, le-ltb}
use Rattle.std.specs.declared.option.Option.{Option}
use native.Mathlib.Decide.{dec_lt}
use Rattle.wire.specs.Shape.{bad_record, shape_refusal}
use Rattle.record.specs.Refusals.{refusal_in}
use Rattle.burst.specs.Lines.{refused_of, lines_of}

-- ---- a record of more than 8,192 bytes is refused, whatever its bytes

module _ (rec : List ℕ) (h : 8192 < length rec) where
  too_long : bad_record rec ≡ true
  unfolding bad_record
  too_long = rw (le-ltb (length rec) 6 (omega arith), lt-ltb 8192 (length rec) h) refl

  by_shape : shape_refusal rec ≡ 12
  unfolding shape_refusal
  by_shape = rw too_long refl

  refused : refusal_in rec true ≡ 12
  unfolding refusal_in
  refused = rw by_shape refl

  long_lines : lines_of rec ≡ refused_of 12
  unfolding lines_of
  long_lines = rw refused refl

-- so what comes after the first 8,193 bytes decides nothing
cut : (rec : List ℕ) → lines_of (take 8193 rec) ≡ lines_of rec
cut rec = go (dec_lt 8193 (length rec))
  where
    go : Dec (8193 < length rec) → lines_of (take 8193 rec) ≡ lines_of rec
    go (yes u) = long_lines (take 8193 rec) (omega (arith, length-take-le 8193 rec (omega arith))) ∙ sym (long_lines rec (omega arith))
    go (no u) = ap lines_of (take_all 8193 rec (omega arith))

pub written : {T E : Type 0} (result : Result T E) (input : Option (List ℕ)) (Writes : List ℕ → Type 0) (page : List ℕ) (n : ℕ)
    → IfSome input (λ xs. take n page ≡ take (length page) xs) → length page ≡ 8193 → OnOk result (Writes (lines_of (take n page)))
    → OnOk result (IfSome input (λ rec. Writes (lines_of rec)))
written (Err e) input Writes page n read size out = tt
written (Ok x) None Writes page n read size out = tt
written (Ok x) (Some rec) Writes page n read size out = subst Writes (ap lines_of (read ∙ ap (λ m. take m rec) size) ∙ cut rec) out
