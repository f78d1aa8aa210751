-- The choices that meet Cat, by the length of their first string. Assumes nothing.
use Rattle.std.specs.Prelude.{◌≡◌, false, List, ◌++◌, ℕ, length}
use Rattle.model.specs.Words.{bit}
use Rattle.model.specs.Solutions.{text_bit}
use Rattle.laws.specs.Supported.{InRow, Supports}

-- a string for each of three rows
pub record Three : Type 0 where
  pub first : List ℕ
  pub second : List ℕ
  pub third : List ℕ

-- the third is the first, of p symbols, followed by the second
pub record Split (x y z : List ℕ) (p : ℕ) (v : Three) : Type 0 where
  pub in_first : InRow x v.first
  pub in_second : InRow y v.second
  pub in_third : InRow z v.third
  pub long : length v.first ≡ p
  pub followed : v.third ≡ v.first ++ v.second

-- the third is the first, whose length is none of rest, followed by the second
abbrev pub Outside : List ℕ → List ℕ → List ℕ → ℕ → Three → Type 0
Outside x y z rest v = (p : ℕ) × (bit rest p ≡ false) × Split x y z p v

-- each row has the support of the choices that count
pub record Supported (Ok : Three → Type 0) (rx ry rz : List ℕ) : Type 0 where
  pub firsts : Supports Ok (λ v. text_bit v.first) 64 rx
  pub seconds : Supports Ok (λ v. text_bit v.second) 64 ry
  pub thirds : Supports Ok (λ v. text_bit v.third) 64 rz
