-- The table of the standard normal distribution function, and the chords between its values.
use Rattle.std.specs.Prelude.{◌≡◌, ℕ, ◌+◌, ◌-◌, ◌<◌, ◌≤◌, List, [], ◌∷◌, slice_index}

-- the published values at 0, 0.1, .. 4 standard uncertainties, in hundred-thousandths
abbrev pub published : List ℕ
published =
    50000 ∷ 53983 ∷ 57926 ∷ 61791 ∷ 65542 ∷ 69146 ∷ 72575 ∷ 75804 ∷ 78814 ∷ 81594
    ∷ 84134 ∷ 86433 ∷ 88493 ∷ 90320 ∷ 91924 ∷ 93319 ∷ 94520 ∷ 95543 ∷ 96407 ∷ 97128
    ∷ 97725 ∷ 98214 ∷ 98610 ∷ 98928 ∷ 99180 ∷ 99379 ∷ 99534 ∷ 99653 ∷ 99744 ∷ 99813
    ∷ 99865 ∷ 99903 ∷ 99931 ∷ 99952 ∷ 99966 ∷ 99977 ∷ 99984 ∷ 99989 ∷ 99993 ∷ 99995 ∷ 99997 ∷ []

-- the value at k tenths
abbrev pub value : ℕ → ℕ
value k = slice_index published k

-- the gap from the value at k tenths to the next
abbrev pub gap : ℕ → ℕ
gap k = value (k + 1) - value k

-- a chord over the tenth k: from its value to the next, and no steeper than any chord before it
pub record ChordOver (k start rise : ℕ) : Type 0 where
  pub within : k < 40
  pub starts : start ≡ value k
  pub ends : start + rise ≡ value (k + 1)
  pub no_steeper : (j : ℕ) → j ≤ k → rise ≤ gap j
