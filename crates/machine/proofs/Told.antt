-- Which bits are a NaN's.
use Rattle.std.proofs.Common.{◌≡◌, ℕ, ◌%◌, ◌^◌, ◌<◌, ◌≤◌, true, false, ◌∙◌, lt-ltb, le-ltb}
use lib.Ieee.{binary64, nan_bits}
use lib.Ieee.Bits.{nan_bits_above}

pub no_nan : (v : ℕ) → v % 2 ^ 63 ≤ 9218868437227405312 → nan_bits binary64 v ≡ false
no_nan v h = nan_bits_above binary64 v ∙ le-ltb 9218868437227405312 (v % 2 ^ 63) h

pub nan : (v : ℕ) → 9218868437227405312 < v % 2 ^ 63 → nan_bits binary64 v ≡ true
nan v h = nan_bits_above binary64 v ∙ lt-ltb 9218868437227405312 (v % 2 ^ 63) h
