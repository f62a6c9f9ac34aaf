-- Laws of the definitions, for the proofs here.
mod Equalizing
