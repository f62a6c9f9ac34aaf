-- What the program `burst` prints of a record: document 01's lines.
use Rattle.std.specs.Prelude.{ℕ, ◌+◌, ◌*◌, ◌^◌, true, cond, List, [], ◌∷◌, ◌++◌, get_or, eqb, Float}
use Rattle.std.specs.Float.{binary32, nan}
use Rattle.std.specs.Float.Ieee.{to_bits}
use Rattle.seq.specs.Cat.{cat}
use Rattle.refine.specs.declared.whole.Refined.{Refined}
use Rattle.refine.specs.Refine.{nbits, refined_of, answer_of}
use Rattle.words.specs.Bytes.{word_at}
use Rattle.wire.specs.Record.{burst_of, prior_of}
use Rattle.record.specs.Refusals.{refusal_in}
use Rattle.burst.specs.Digits.{decimal, hex8}

-- "bits ", " model ", " ", " scale ", " spoilt ", "refused " and a line's end
abbrev pub bits_word : List ℕ
bits_word = 98 ∷ 105 ∷ 116 ∷ 115 ∷ 32 ∷ []

abbrev pub model_word : List ℕ
model_word = 32 ∷ 109 ∷ 111 ∷ 100 ∷ 101 ∷ 108 ∷ 32 ∷ []

abbrev pub space : List ℕ
space = 32 ∷ []

abbrev pub scale_word : List ℕ
scale_word = 32 ∷ 115 ∷ 99 ∷ 97 ∷ 108 ∷ 101 ∷ 32 ∷ []

abbrev pub spoilt_word : List ℕ
spoilt_word = 32 ∷ 115 ∷ 112 ∷ 111 ∷ 105 ∷ 108 ∷ 116 ∷ 32 ∷ []

abbrev pub refused_word : List ℕ
refused_word = 114 ∷ 101 ∷ 102 ∷ 117 ∷ 115 ∷ 101 ∷ 100 ∷ 32 ∷ []

abbrev pub line_end : List ℕ
line_end = 10 ∷ []

-- Either zero is shown as 00000000. (A not-a-number's pattern is 7FC00000 already.)
unfoldable pub shown_zero : ℕ → ℕ
shown_zero x = cond (eqb x (2 ^ 31)) 0 x

abbrev pub shown : ℕ → List ℕ
shown x = hex8 (shown_zero x)

-- `bits N model FD TM`
unfoldable pub model_of : (bits fd tm : ℕ) → List ℕ
model_of bits fd tm = (bits_word ++ decimal bits) ++ ((model_word ++ decimal fd) ++ (space ++ decimal tm))

-- and ` scale HEX spoilt M`
unfoldable pub heading_of : (bits fd tm scale spoilt : ℕ) → List ℕ
heading_of bits fd tm scale spoilt = model_of bits fd tm ++ (scale_word ++ (shown scale ++ ((spoilt_word ++ decimal spoilt) ++ line_end)))

-- one likelihood
unfoldable pub line_of : ℕ → List ℕ
line_of x = shown x ++ line_end

-- `refused N`
unfoldable pub refused_of : ℕ → List ℕ
refused_of q = (refused_word ++ decimal q) ++ line_end

abbrev pub heading : ℕ → Refined → List ℕ
heading bits r = heading_of bits r.model.fd r.model.tm (to_bits binary32 r.model.scale) r.spoilt

abbrev pub likelihood_lines : ℕ → List Float → List ℕ
likelihood_lines n xs = cat n (λ i. line_of (to_bits binary32 (get_or xs i nan)))

-- the same two, read from the bytes that `refine_record` writes
unfoldable pub answer_lines : (answer : List ℕ) → ℕ → List ℕ
answer_lines answer n =
    heading_of n (get_or answer 0 0) (get_or answer 1 0) (word_at answer 2) (word_at answer 6) ++ cat n (λ i. line_of (word_at answer (10 + 4 * i)))

-- the heading and each likelihood in bit order, or the refusal; the answer has room enough
unfoldable pub lines_of : (rec : List ℕ) → List ℕ
lines_of rec =
    let b = burst_of rec in
    let p = prior_of rec in
    cond (eqb (refusal_in rec true) 0)
    (heading (nbits b) (refined_of b p) ++ likelihood_lines (nbits b) (answer_of b p))
    (refused_of (refusal_in rec true))
