-- Answers that are mirrored about the reading keep the rules, if those above it do.
use Rattle.std.proofs.Common.{◌≡◌, ℕ, zero, suc, ◌+◌, ◌-◌, ◌≤◌, ℤ, pos, negsuc, nat_abs, ◌≤ℤ◌, ◌<ℤ◌, refl, ap, ◌∙◌, ⊎_elim, arith}
use Rattle.std.proofs.lemmas.Int.{ints, clamps}
use Rattle.std.proofs.lemmas.Bool.{cases_lt}
use Rattle.knowledge.specs.Millionths.{million}
use Rattle.knowledge.specs.Offsets.{nearest}
use Rattle.knowledge.specs.Knowledge.{Rules}
use Rattle.normal.specs.Normal.{mirrored}

-- one end of the answers above the reading: from one half to one, never falling, and the same from the farthest offset on
pub record Upper (f : ℕ → ℕ) : Type 0 where
  pub over_half : (n : ℕ) → 500000 ≤ f n
  pub capped : (n : ℕ) → f n ≤ million
  pub climbs : (m n : ℕ) → m ≤ n → f m ≤ f n
  pub settles : (m n : ℕ) → 2000000 ≤ m → 2000000 ≤ n → f m ≡ f n

above_half : (f g : ℕ → ℕ) → Upper f → (n : ℕ) → 500000 ≤ mirrored f g (pos n)
above_half f g u zero = omega arith
above_half f g u (suc n) = u.over_half (suc n)

climbs_above : (f g : ℕ → ℕ) → Upper f → (m n : ℕ) → m ≤ n → mirrored f g (pos m) ≤ mirrored f g (pos n)
climbs_above f g u zero n le = above_half f g u n
climbs_above f g u (suc m) zero le = absurd (omega arith)
climbs_above f g u (suc m) (suc n) le = u.climbs (suc m) (suc n) le

pub mirrored_climbs : (f g : ℕ → ℕ) → Upper f → Upper g → (x y : ℤ) → x ≤ℤ y → mirrored f g x ≤ mirrored f g y
mirrored_climbs f g u v (pos m) (pos n) le = climbs_above f g u m n (omega (arith, ints))
mirrored_climbs f g u v (pos m) (negsuc n) le = absurd (omega (arith, ints))
mirrored_climbs f g u v (negsuc m) (pos n) le = omega (arith, v.over_half (suc m), above_half f g u n)
mirrored_climbs f g u v (negsuc m) (negsuc n) le = omega (arith, v.climbs (suc n) (suc m) (omega (arith, ints)))

pub mirrored_capped : (f g : ℕ → ℕ) → Upper f → (x : ℤ) → mirrored f g x ≤ million
mirrored_capped f g u (pos zero) = omega arith
mirrored_capped f g u (pos (suc n)) = u.capped (suc n)
mirrored_capped f g u (negsuc n) = omega arith

at_positive : (f g : ℕ → ℕ) (x : ℤ) → pos 0 <ℤ x → mirrored f g x ≡ f (nat_abs x)
at_positive f g (pos zero) above = absurd (omega (arith, ints))
at_positive f g (pos (suc n)) above = refl
at_positive f g (negsuc n) above = absurd (omega (arith, ints))

at_negative : (f g : ℕ → ℕ) (x : ℤ) → x <ℤ pos 0 → mirrored f g x ≡ million - g (nat_abs x)
at_negative f g (pos n) below = absurd (omega (arith, ints))
at_negative f g (negsuc n) below = refl

settled_above : (f g : ℕ → ℕ) → Upper f → (n : ℕ) → 2000000 ≤ n → mirrored f g (pos n) ≡ mirrored f g (pos 2000000)
settled_above f g u zero le = absurd (omega arith)
settled_above f g u (suc n) le = u.settles (suc n) 2000000 le (omega arith)

-- an offset out of range is answered as the nearer end
pub mirrored_ends : (f g : ℕ → ℕ) → Upper f → Upper g → (x : ℤ) → mirrored f g x ≡ mirrored f g (nearest x)
mirrored_ends f g u v (pos n) =
    ⊎_elim (λ inside. let same : pos n ≡ nearest (pos n) = omega (arith, ints, clamps) in ap (mirrored f g) same)
    (λ outside. let end : pos 2000000 ≡ nearest (pos n) = omega (arith, ints, clamps) in settled_above f g u n outside ∙ ap (mirrored f g) end)
    (cases_lt n 2000000)
mirrored_ends f g u v (negsuc n) =
    ⊎_elim (λ inside. let same : negsuc n ≡ nearest (negsuc n) = omega (arith, ints, clamps) in ap (mirrored f g) same)
    (λ outside.
    let end : negsuc 1999999 ≡ nearest (negsuc n) = omega (arith, ints, clamps) in
    ap (λ p. million - p) (v.settles (suc n) 2000000 (omega arith) (omega arith)) ∙ ap (mirrored f g) end) (cases_lt n 2000000)

-- the answer at an offset from the distance of its nearest one, on either side of the reading
pub answered_above : (f g : ℕ → ℕ) → Upper f → Upper g → (x : ℤ) → pos 0 <ℤ nearest x → mirrored f g x ≡ f (nat_abs (nearest x))
answered_above f g u v x above = mirrored_ends f g u v x ∙ at_positive f g (nearest x) above

pub answered_below : (f g : ℕ → ℕ) → Upper f → Upper g → (x : ℤ) → nearest x <ℤ pos 0 → mirrored f g x ≡ million - g (nat_abs (nearest x))
answered_below f g u v x below = mirrored_ends f g u v x ∙ at_negative f g (nearest x) below

-- one end is never above the other, nor further above it than they are apart above the reading
pub mirrored_ordered : (f g : ℕ → ℕ) → ((n : ℕ) → f n ≤ g n) → (x : ℤ) → mirrored f g x ≤ mirrored g f x
mirrored_ordered f g le (pos zero) = omega arith
mirrored_ordered f g le (pos (suc n)) = le (suc n)
mirrored_ordered f g le (negsuc n) = omega (arith, le (suc n))

pub mirrored_narrow : (f g : ℕ → ℕ) (w : ℕ) → Upper f → Upper g → ((n : ℕ) → g n ≤ f n + w) → (x : ℤ) → mirrored g f x ≤ mirrored f g x + w
mirrored_narrow f g w u v le (pos zero) = omega arith
mirrored_narrow f g w u v le (pos (suc n)) = le (suc n)
mirrored_narrow f g w u v le (negsuc n) = omega (arith, le (suc n), v.capped (suc n))

pub mirrored_rules :
    (f g : ℕ → ℕ) (w : ℕ) → w ≤ million → Upper f → Upper g → ((n : ℕ) → f n ≤ g n) → ((n : ℕ) → g n ≤ f n + w)
    → Rules (record { floor = mirrored f g; ceiling = mirrored g f; width = w })
mirrored_rules f g w small u v ordered narrow =
    record {
      ordered = mirrored_ordered f g ordered;
      capped = mirrored_capped g f v;
      floor_rises = mirrored_climbs f g u v;
      ceiling_rises = mirrored_climbs g f v u;
      narrow = mirrored_narrow f g w u v narrow;
      width_capped = small;
      floor_ends = mirrored_ends f g u v;
      ceiling_ends = mirrored_ends g f v u;
    }
