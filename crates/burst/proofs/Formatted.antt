-- The decimal digits of std are those of the definitions. Assumes nothing.
use Rattle.std.proofs.Common.{◌≡◌, ℕ, ◌+◌, ◌%◌, ◌^◌, ◌<◌, refl, sym, arith, lt-ltb, le-ltb}
use Rattle.std.specs.Fmt.{decimal as std_decimal}
use Rattle.std.proofs.lemmas.Fmt.{decimal_from_appends, length-decimal-le_succ}
use Rattle.burst.specs.Digits.{digit_of, digits, decimal}

pub decimal_is : (n : ℕ) → n < 2 ^ 64 → std_decimal n ≡ decimal n
unfolding decimal digits digit_of
decimal_is n h =
    sym (decimal_from_appends digits
    (record {
      one = λ k m l. rw (lt-ltb m 10 l) refl;
      more = λ k m l. let d : m % 10 < 10 = omega arith in rw (le-ltb m 10 l, lt-ltb (m % 10) 10 d) refl;
    })
    (n + 1) n h (length-decimal-le_succ n h))
