use Rattle.std.proofs.Common.{subst, T, sym, arith}
use Rattle.std.specs.Float.{binary32}
use lib.Ieee.Bits.{to_bits-lt}
use Rattle.ieee.proofs.binary.F32Binary.to_pattern.Goals as goal

pub overflow_cast-result : goal.overflow_cast-result
overflow_cast-result c = omega (arith, to_bits-lt binary32 c.args.self (subst T (sym c.well_formed.0.1) tt))
