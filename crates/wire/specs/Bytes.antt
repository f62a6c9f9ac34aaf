-- Numbers in bytes: a list of them, and the report in front of an answer's likelihoods.
use Rattle.std.specs.Prelude.{ℕ, List, ◌∷◌, ◌++◌, get_or, Float}
use Rattle.std.specs.Float.{nan}
use Rattle.seq.specs.Cat.{cat}
use Rattle.refine.specs.declared.whole.Refined.{Refined}
use Rattle.words.specs.Bytes.{word, number}

-- the first n numbers in bytes
abbrev pub number_bytes : (n : ℕ) → List Float → List ℕ
number_bytes n xs = cat n (λ i. number (get_or xs i nan))

-- two model indices of a byte, scale and spoilt count of four
unfoldable pub report_bytes : Refined → List ℕ
report_bytes r = r.model.fd ∷ r.model.tm ∷ (number r.model.scale ++ word r.spoilt)
