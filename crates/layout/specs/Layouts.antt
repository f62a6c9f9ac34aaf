-- frame.rs: the nine layouts, with the constants that the path of a burst reads, and their order.
use Rattle.std.specs.Prelude.{ℕ, List, [], ◌∷◌, slice_index_or, Float}
use Rattle.ieee.specs.Num.{one32}
use Rattle.layout.specs.Constants.{d0·3, d1, d2, d2·5, d8, d16, d32, d40, d48, d80, lg0·15}
use Rattle.layout.specs.declared.pattern.Pattern.{Pattern}
use Rattle.layout.specs.declared.layouts.Layout.{Layout}

-- ---- Pattern, P12

abbrev pub pattern : ℕ → ℕ → ℕ → Pattern
pattern step shift period = record { step = step; shift = shift; period = period }

abbrev pub p12 : Pattern
p12 = pattern 12 3 4

abbrev pub three : Float → Float → Float → List Float
three a b c = a ∷ b ∷ c ∷ []

-- ---- NORMAL .. SIXTH

unfoldable pub normal : Layout
normal = record {
  n = 160;
  cp = 32;
  nc = 49;
  robust = p12;
  sparse = pattern 24 3 8;
  hdr_syms = 4;
  crc_data = 0;
  crc_ho = 0xB7E1;
  fd = three d0·3 d1 d2·5;
  fd_sparse = three d0·3 d1 d2;
  tm = three d8 d16 d48;
  gw = 12;
  cw = 12;
  est_lg = one32;
}

unfoldable pub long : Layout
long = record {
  n = 320;
  cp = 80;
  nc = 97;
  robust = p12;
  sparse = p12;
  hdr_syms = 2;
  crc_data = 0x5A0F;
  crc_ho = 0xE45B;
  fd = three d0·3 d1 d2;
  fd_sparse = three d0·3 d1 d2;
  tm = three d16 d40 d80;
  gw = 12;
  cw = 24;
  est_lg = one32;
}

unfoldable pub normal_wide : Layout
normal_wide = record {
  n = 160;
  cp = 32;
  nc = 55;
  robust = pattern 18 3 6;
  sparse = pattern 27 3 9;
  hdr_syms = 4;
  crc_data = 0x3C96;
  crc_ho = 0x8D2B;
  fd = three d0·3 d1 d2·5;
  fd_sparse = three d0·3 d1 d2;
  tm = three d8 d16 d48;
  gw = 12;
  cw = 12;
  est_lg = one32;
}

unfoldable pub long_wide : Layout
long_wide = record {
  n = 320;
  cp = 80;
  nc = 109;
  robust = p12;
  sparse = p12;
  hdr_syms = 2;
  crc_data = 0xC3A5;
  crc_ho = 0x71D8;
  fd = three d0·3 d1 d2;
  fd_sparse = three d0·3 d1 d2;
  tm = three d16 d40 d80;
  gw = 12;
  cw = 24;
  est_lg = one32;
}

unfoldable pub slice : Layout
slice = record {
  n = 160;
  cp = 32;
  nc = 13;
  robust = pattern 6 3 2;
  sparse = p12;
  hdr_syms = 18;
  crc_data = 0x6E3A;
  crc_ho = 0x1BC7;
  fd = three d0·3 d1 d2·5;
  fd_sparse = three d0·3 d1 d2·5;
  tm = three d8 d16 d32;
  gw = 12;
  cw = 12;
  est_lg = lg0·15;
}

unfoldable pub slim : Layout
slim = record {
  n = 300;
  cp = 80;
  nc = 25;
  robust = p12;
  sparse = p12;
  hdr_syms = 8;
  crc_data = 0x96E3;
  crc_ho = 0x2B5C;
  fd = three d0·3 d1 d2;
  fd_sparse = three d0·3 d1 d2;
  tm = three d16 d40 d80;
  gw = 12;
  cw = 12;
  est_lg = one32;
}

unfoldable pub half : Layout
half = record {
  n = 160;
  cp = 32;
  nc = 7;
  robust = pattern 6 3 2;
  sparse = pattern 6 3 2;
  hdr_syms = 36;
  crc_data = 0x4D27;
  crc_ho = 0xA9C3;
  fd = three d0·3 d1 d2·5;
  fd_sparse = three d0·3 d1 d2·5;
  tm = three d8 d16 d32;
  gw = 12;
  cw = 12;
  est_lg = lg0·15;
}

unfoldable pub quarter : Layout
quarter = record {
  n = 160;
  cp = 32;
  nc = 5;
  robust = pattern 4 2 2;
  sparse = pattern 4 2 2;
  hdr_syms = 60;
  crc_data = 0x3B95;
  crc_ho = 0xD64E;
  fd = three d0·3 d1 d2·5;
  fd_sparse = three d0·3 d1 d2·5;
  tm = three d8 d16 d32;
  gw = 12;
  cw = 12;
  est_lg = lg0·15;
}

unfoldable pub sixth : Layout
sixth = record {
  n = 320;
  cp = 80;
  nc = 13;
  robust = pattern 6 3 2;
  sparse = pattern 6 3 2;
  hdr_syms = 18;
  crc_data = 0x5C71;
  crc_ho = 0xE2B9;
  fd = three d0·3 d1 d2;
  fd_sparse = three d0·3 d1 d2;
  tm = three d16 d40 d80;
  gw = 12;
  cw = 12;
  est_lg = lg0·15;
}

-- LAYOUTS, where QUARTER stands before SIXTH
unfoldable pub layouts : List Layout
layouts = normal ∷ long ∷ normal_wide ∷ long_wide ∷ slice ∷ slim ∷ half ∷ quarter ∷ sixth ∷ []

-- LAYOUTS[number]; from 9 on, which is refused before it is asked, the last
unfoldable pub layout_of : ℕ → Layout
unfolding layouts
layout_of number = slice_index_or layouts number sixth
