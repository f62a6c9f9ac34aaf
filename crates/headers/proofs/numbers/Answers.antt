-- `numbers` meets its contract.
use Rattle.std.proofs.Common.{◌≡◌, Bool, true, false, cond, refl}
use mir.Val.{bool_byte}
use Rattle.headers.specs.Shown.{numbers_of}
use Rattle.headers.proofs.numbers.Goals as goal

-- a flag's number, as `u32::from` gives it
flag : (b : Bool) → bool_byte b ≡ cond b 1 0
flag true = refl
flag false = refl

pub returns : goal.returns
unfolding numbers_of
returns c =
    rw (c.from.ensures, c.from-2.ensures, c.from-3.ensures, c.from-4.ensures, c.from-5.ensures, c.from-6.ensures, c.from-7.ensures, flag c.args.h.sparse, flag c.args.h.mode.spread) refl
