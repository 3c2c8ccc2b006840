-- The notes of a lot's book: what stands in the lot, by the arguments that brought it there.
use Rattle.std.specs.Prelude.{◌≡◌, ℕ, Bool, true, false, cond, ◌&&◌, List, [], ◌∷◌, None, ◌==◌, unsigned_abs}
use Rattle.knowledge.specs.Knowledge.{Answers, Rules}
use Rattle.requirement.specs.declared.requirements.Requirement.{Requirement}
use Rattle.judging.specs.Verdicts.{judged, judge_refusal}
use Rattle.judging.specs.declared.answers.Verdict.{Verdict}
use Rattle.judging.specs.declared.answers.Verdict.TheVariants.{Pass, ConditionalPass, ConditionalFail, Fail}
use Rattle.judging.specs.declared.answers.Judgement.{Judgement}
use Rattle.lot.specs.declared.items.Item.{Item}
use Rattle.lot.specs.declared.items.ItemFields.{ItemFields}

-- a note: what was entered, the requirement that the sheet had for it, and the answers of its state of knowledge
pub record Note : Type 0 where
  pub fields : ItemFields
  pub requirement : Requirement
  pub knowledge : Answers
  pub rules : Rules knowledge

-- how the rules judge a note
abbrev pub judgement : Note → Judgement
judgement n = judged n.requirement n.fields.expanded n.fields.reading n.knowledge

-- judging does not refuse it
abbrev pub Judgeable : Note → Type 0
Judgeable n = judge_refusal n.requirement n.fields.expanded n.fields.reading n.knowledge ≡ None

-- what a lot stores of an item with these fields and this judgement
abbrev pub item_of : ItemFields → Judgement → Item
item_of f j = record { number = unsigned_abs f.number; class = unsigned_abs f.class; characteristic = unsigned_abs f.characteristic; reading = f.reading; judgement = j }

abbrev pub stored : Note → Item
stored n = item_of n.fields (judgement n)

-- a verdict is a pass
abbrev pub is_pass : Verdict → Bool
is_pass Pass = true
is_pass ConditionalPass = false
is_pass ConditionalFail = false
is_pass Fail = false

-- the passes that stand in a class: its notes that the rules judge a pass
abbrev pub passing : ℕ → List Note → List Note
passing c [] = []
passing c (n ∷ ns) = cond (unsigned_abs n.fields.class == c && is_pass (judgement n).verdict) (n ∷ passing c ns) (passing c ns)
