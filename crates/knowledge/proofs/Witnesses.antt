-- Distributions over a million parts that a state of knowledge admits: any rising function between floor and ceiling is one.
use Rattle.std.proofs.Common.{◌≡◌, ℕ, ◌≤◌, cond, ℤ, ◌≤ℤ◌, ◌<ℤ◌, arith}
use lib.Signed.{le_z}
use Rattle.std.proofs.lemmas.Int.{ints}
use Rattle.std.proofs.lemmas.Bool.{cond_both, cond-true, cond-false}
use Rattle.knowledge.specs.Millionths.{million}
use Rattle.knowledge.specs.Knowledge.{Answers, Rules}
use Rattle.knowledge.specs.Distributions.{Distribution, Admitted}

-- f rises, and lies from the floor to the ceiling
pub record Between (k : Answers) (f : ℤ → ℕ) : Type 0 where
  pub over : (x : ℤ) → k.floor x ≤ f x
  pub under : (x : ℤ) → f x ≤ k.ceiling x
  pub rises : (x y : ℤ) → x ≤ℤ y → f x ≤ f y

-- the one function up to the offset a, the other beyond it
abbrev pub spliced : (f g : ℤ → ℕ) → ℤ → ℤ → ℕ
spliced f g a x = cond (le_z x a) (f x) (g x)

pub spliced_at : (f g : ℤ → ℕ) (a : ℤ) → spliced f g a a ≡ f a
spliced_at f g a = cond-true (le_z a a) (f a) (g a) (grind (arith, ints))

pub spliced_beyond : (f g : ℤ → ℕ) (a x : ℤ) → a <ℤ x → spliced f g a x ≡ g x
spliced_beyond f g a x h = cond-false (le_z x a) (f x) (g x) (grind (arith, ints))

module _ (k : Answers) (r : Rules k) where
  -- such a function, as the distribution that has f x of a million parts up to x
  abbrev pub over_million : (f : ℤ → ℕ) → Between k f → Distribution
  over_million f b =
      record {
        parts = million;
        at_most = f;
        some = omega arith;
        bounded = λ x o. omega (arith, b.under x, r.capped x);
        rises = λ x y o p le. b.rises x y le;
      }

  pub is_admitted : (f : ℤ → ℕ) (b : Between k f) → Admitted k (over_million f b)
  is_admitted f b =
      record {
        over_floor = λ x o. omega (arith, b.over x);
        under_ceiling = λ x o. omega (arith, b.under x);
      }

  pub floor_is_between : Between k k.floor
  floor_is_between = record { over = λ x. omega arith; under = r.ordered; rises = r.floor_rises }

  pub ceiling_is_between : Between k k.ceiling
  ceiling_is_between = record { over = r.ordered; under = λ x. omega arith; rises = r.ceiling_rises }

  pub spliced_between : (f g : ℤ → ℕ) (a : ℤ) → Between k f → ((x : ℤ) → a <ℤ x → k.floor x ≤ g x) → ((x : ℤ) → a <ℤ x → g x ≤ k.ceiling x)
      → ((x y : ℤ) → x ≤ℤ y → g x ≤ g y) → ((y : ℤ) → a <ℤ y → f a ≤ g y) → Between k (spliced f g a)
  spliced_between f g a b over under rises joins =
      record {
        over = λ x. cond_both (le_z x a) (f x) (g x) (λ n. k.floor x ≤ n) (λ e. b.over x) (λ e. over x (omega (arith, ints)));
        under = λ x. cond_both (le_z x a) (f x) (g x) (λ n. n ≤ k.ceiling x) (λ e. b.under x) (λ e. under x (omega (arith, ints)));
        rises = λ x y le.
            cond_both (le_z x a) (f x) (g x) (λ n. n ≤ spliced f g a y)
            (λ e.
            cond_both (le_z y a) (f y) (g y) (λ n. f x ≤ n) (λ e'. b.rises x y le)
            (λ e'. let far : a <ℤ y = omega (arith, ints) in let near : x ≤ℤ a = omega (arith, ints) in omega (arith, joins y far, b.rises x a near)))
            (λ e.
            cond_both (le_z y a) (f y) (g y) (λ n. g x ≤ n) (λ e'. omega (arith, ints)) (λ e'. rises x y le));
      }
