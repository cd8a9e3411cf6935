-- The compressor's tables, and how a parameter's byte finds its entry. Definitions only.
use Rattle.std.specs.Prelude.{ℕ, min, List, [], ◌∷◌, get_or, Float}
use Rattle.std.specs.Float.{nan}
use Rattle.float.specs.Consts.{k0, k1, k2, k3, k6, k10, k64, k127, k0p03, k0p1, k0p3}
use Rattle.comp.specs.Consts.{k30, k40, k52, k76, k88, k100, k112, k124, k0p2, k0p4, k0p6, k2p5, k3p5, k_m10p85, k_m8p3, k_m6p38, k_m4p85, k_m3p44, k_m2p2, k_m1p13, k_m0p21, k_m16p57, k_m14p18, k_m12p35, k_m10p86, k_m9p59, k_m8p42, k_m7p38, k_m6p34, k_m6p26}
use Rattle.comp.specs.declared.VolRow.{VolRow}

-- "attack 0.03, 0.1, 0.3, 1, 3, 10, 30 ms"; in each table a byte past the end means the last entry
unfoldable pub attacks : List Float
attacks = k0p03 ∷ k0p1 ∷ k0p3 ∷ k1 ∷ k3 ∷ k10 ∷ k30 ∷ []

unfoldable pub attack_of : ℕ → Float
attack_of b = get_or attacks (min b 6) nan

-- "release 0.1, 0.2, 0.4, 0.6, 1, 2, 0.4, 0.6 s"
unfoldable pub releases : List Float
releases = k0p1 ∷ k0p2 ∷ k0p4 ∷ k0p6 ∷ k1 ∷ k2 ∷ k0p4 ∷ k0p6 ∷ []

unfoldable pub release_of : ℕ → Float
release_of b = get_or releases (min b 7) nan

-- "ratio 10, 6, 3.5, 2.5"
unfoldable pub ratios : List Float
ratios = k10 ∷ k6 ∷ k3p5 ∷ k2p5 ∷ []

unfoldable pub ratio_of : ℕ → Float
ratio_of b = get_or ratios (min b 3) nan

-- "VOL nine rows": the dry gain in dB, and wet minus dry, which the source carries and does not use
unfoldable pub vol_rows : List VolRow
vol_rows =
    record { vol = k40; dry = k_m10p85; wet = k_m16p57 }
    ∷ record { vol = k52; dry = k_m8p3; wet = k_m14p18 }
    ∷ record { vol = k64; dry = k_m6p38; wet = k_m12p35 }
    ∷ record { vol = k76; dry = k_m4p85; wet = k_m10p86 }
    ∷ record { vol = k88; dry = k_m3p44; wet = k_m9p59 }
    ∷ record { vol = k100; dry = k_m2p2; wet = k_m8p42 }
    ∷ record { vol = k112; dry = k_m1p13; wet = k_m7p38 }
    ∷ record { vol = k124; dry = k_m0p21; wet = k_m6p34 }
    ∷ record { vol = k127; dry = k0; wet = k_m6p26 }
    ∷ []

unfoldable pub vol_row : ℕ → VolRow
vol_row i = get_or vol_rows (min i 8) (record { vol = nan; dry = nan; wet = nan })
