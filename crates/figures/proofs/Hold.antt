-- The figures hold, each by computing it.
use Rattle.std.proofs.Common.{◌≡◌, ℤ, pos, ◌-ℤ◌, Some, None, refl, ap, ◌∙◌, lit<, lit≤}
use Rattle.faults.specs.declared.Refusal.TheVariants.{NoOffset, NothingAcceptable}
use Rattle.knowledge.specs.Knowledge.{Rules}
use Rattle.rectangular.specs.Rectangular.{rectangular}
use Rattle.rectangular.specs.Rules.{rectangular_rules}
use Rattle.normal.specs.Normal.{normal}
use Rattle.normal.specs.Rules.{normal_rules}
use Rattle.requirement.specs.declared.rules.Rule.TheVariants.{Multiple, Shares}
use Rattle.requirement.specs.declared.rules.Mode.TheVariants.{Two, Four}
use Rattle.acceptance.specs.Acceptance.{share_limit, both_limits, by_rule}
use Rattle.acceptance.specs.declared.search.Side.TheVariants.{Lower, Upper}
use Rattle.judging.specs.declared.answers.Verdict.{Verdict}
use Rattle.judging.specs.declared.answers.Verdict.TheVariants.{Pass, ConditionalPass, ConditionalFail, Fail}
use Rattle.figures.specs.Figures.{Holds, AllHold, accepting, refusing, verdict_on, figures, four_way, upper_share, two_shares}
use Rattle.figures.proofs.Places.{limit_after, no_limit}
use Rattle.figures.proofs.Made.{bracket_holds, limits_hold, refusal_holds, Judges, verdict_holds}

R100 : Rules (rectangular 100)
R100 = rectangular_rules 100 (lit≤ tt) (lit≤ tt)

N100 : Rules (normal 100)
N100 = normal_rules 100 (lit≤ tt) (lit≤ tt)

pub accepts_to_910 : Holds (accepting (rectangular 100) (upper_share (pos 50000)) None (Some (pos 910)))
accepts_to_910 =
    limits_hold (upper_share (pos 50000)) (Shares 0 50000) Two refl refl refl (rectangular 100) None (Some (pos 910))
    (ap (both_limits (Some None)) (limit_after (rectangular 100) R100 Upper (pos 1000) 50000 2000089 (lit< tt) refl refl)) refl

accepts_to_835 : Holds (accepting (normal 100) (upper_share (pos 50000)) None (Some (pos 835)))
accepts_to_835 =
    limits_hold (upper_share (pos 50000)) (Shares 0 50000) Two refl refl refl (normal 100) None (Some (pos 835))
    (ap (both_limits (Some None)) (limit_after (normal 100) N100 Upper (pos 1000) 50000 2000164 (lit< tt) refl refl)) refl

accepts_to_600 : Holds (accepting (normal 100) (upper_share (pos 35)) None (Some (pos 600)))
accepts_to_600 =
    limits_hold (upper_share (pos 35)) (Shares 0 35) Two refl refl refl (normal 100) None (Some (pos 600))
    (ap (both_limits (Some None)) (limit_after (normal 100) N100 Upper (pos 1000) 35 2000399 (lit< tt) refl refl)) refl

no_offset : Holds (refusing (normal 100) (upper_share (pos 34)) NoOffset)
no_offset =
    refusal_holds (upper_share (pos 34)) (Shares 0 34) Two refl refl refl (normal 100) None NoOffset
    (ap (both_limits (Some None)) (no_limit (normal 100) N100 Upper (pos 1000) 34 refl)) refl

-- both sides move by 95
both_sides : (u : ℤ) → by_rule (Shares 25000 25000) (Some (pos 0)) (Some u) (pos 0) (rectangular 100) ≡ Some (record { lower = Some (pos 95); upper = Some (u -ℤ pos 95) })
both_sides u =
    ap (λ o. both_limits o (share_limit (rectangular 100) Upper (Some u) 25000)) (limit_after (rectangular 100) R100 Lower (pos 0) 25000 2000094 (lit< tt) refl refl)
    ∙ ap (both_limits (Some (Some (pos 95)))) (limit_after (rectangular 100) R100 Upper u 25000 2000094 (lit< tt) refl refl)

accepts_from_95_to_905 : Holds (accepting (rectangular 100) (two_shares (pos 1000)) (Some (pos 95)) (Some (pos 905)))
accepts_from_95_to_905 =
    limits_hold (two_shares (pos 1000)) (Shares 25000 25000) Two refl refl refl (rectangular 100) (Some (pos 95)) (Some (pos 905)) (both_sides (pos 1000)) refl

nothing_acceptable : Holds (refusing (rectangular 100) (two_shares (pos 150)) NothingAcceptable)
nothing_acceptable =
    refusal_holds (two_shares (pos 150)) (Shares 25000 25000) Two refl refl refl (rectangular 100) (Some (record { lower = Some (pos 95); upper = Some (pos 55) })) NothingAcceptable
    (both_sides (pos 150)) refl

-- a verdict by the four-way rule
four : (y : ℤ) (v : Verdict) → Judges (pos 10) y v (Multiple (pos 100)) (Some (pos 4950)) (Some (pos 5030)) Four → Holds (verdict_on four_way (pos 10) y v)
four = verdict_holds four_way (Multiple (pos 100)) Four refl refl refl (pos 10)

infixr 4 ◌also◌
◌also◌ : {P Q : Type 0} → P → Q → P × Q
p also q = (p, q)

pub hold : AllHold figures
hold =
    (refl, refl)
    also (refl, refl)
    also (refl, refl)
    also (refl, refl)
    also (refl, refl)
    also bracket_holds four_way (Multiple (pos 100)) Four refl refl refl (normal 5) (pos 5020) 977210 977558 refl refl
    also accepts_to_910
    also accepts_to_835
    also accepts_to_600
    also no_offset
    also accepts_from_95_to_905
    also nothing_acceptable
    also four (pos 5020) Pass (λ k. (refl, refl))
    also four (pos 5021) ConditionalPass (λ k. (refl, refl))
    also four (pos 5030) ConditionalPass (λ k. (refl, refl))
    also four (pos 5031) ConditionalFail (λ k. (refl, refl))
    also four (pos 5040) ConditionalFail (λ k. (refl, refl))
    also four (pos 5041) Fail (λ k. (refl, refl))
    also refl
    also refl
    also tt
