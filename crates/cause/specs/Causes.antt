-- The number of each cause in the table of causes, and of a call's answer: 0 where no cause turned the call away.
use Rattle.std.specs.Prelude.{ℕ, Result, Ok, Err}
use Rattle.cause.specs.declared.Cause.{Cause}
use Rattle.cause.specs.declared.Cause.TheVariants.{Layout, Codes, Symbols, Grid, Lengths, Room, Numbers, Check, NoSymbols, Fields, Place, Record}

abbrev pub cause_number : Cause → ℕ
cause_number Layout = 1
cause_number Codes = 2
cause_number Symbols = 3
cause_number Grid = 4
cause_number Lengths = 5
cause_number Room = 6
cause_number Numbers = 7
cause_number Check = 8
cause_number NoSymbols = 9
cause_number Fields = 10
cause_number Place = 11
cause_number Record = 12

abbrev pub number_of : {A : Type 0} → Result A Cause → ℕ
number_of (Ok _) = 0
number_of (Err cause) = cause_number cause
