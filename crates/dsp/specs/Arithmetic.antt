-- dsp/mod.rs, `Complex`: each part as the source rounds it.
use Rattle.std.specs.Prelude.{Float}
use Rattle.std.specs.Float.Ieee.{neg}
use Rattle.ieee.specs.Num.{◌⊞◌, ◌⊟◌, ◌⊠◌, zero32}
use Rattle.dsp.specs.declared.Complex.{Complex}

infixl 6 ◌+ᶜ◌ ◌-ᶜ◌
infixl 7 ◌*ᶜ◌
abbrev pub complex : Float → Float → Complex
complex re im = record { re = re; im = im }

-- ZERO
abbrev pub zeroᶜ : Complex
zeroᶜ = complex zero32 zero32

-- (re, -im)
unfoldable pub conjᶜ : Complex → Complex
conjᶜ a = complex a.re (neg a.im)

-- re * re + im * im
unfoldable pub norm_sqr : Complex → Float
norm_sqr a = a.re ⊠ a.re ⊞ a.im ⊠ a.im

-- (re * k, im * k)
unfoldable pub scaleᶜ : Complex → Float → Complex
scaleᶜ a k = complex (a.re ⊠ k) (a.im ⊠ k)

unfoldable pub ◌+ᶜ◌ : Complex → Complex → Complex
a +ᶜ b = complex (a.re ⊞ b.re) (a.im ⊞ b.im)

unfoldable pub ◌-ᶜ◌ : Complex → Complex → Complex
a -ᶜ b = complex (a.re ⊟ b.re) (a.im ⊟ b.im)

-- (ac - bd, ad + bc)
unfoldable pub ◌*ᶜ◌ : Complex → Complex → Complex
a *ᶜ b = complex (a.re ⊠ b.re ⊟ a.im ⊠ b.im) (a.re ⊠ b.im ⊞ a.im ⊠ b.re)

unfoldable pub negᶜ : Complex → Complex
negᶜ a = complex (neg a.re) (neg a.im)
