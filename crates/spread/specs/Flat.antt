-- The definitions of dsp's `Flat`, for crates that know them by this name.
pub use Rattle.dsp.specs.Flat.{complex_at, flat}
