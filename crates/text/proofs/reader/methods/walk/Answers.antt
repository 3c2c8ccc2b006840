use Rattle.std.proofs.Common.{refl, rules}
use Rattle.text.specs.Fronts.{form, Leads}
use Rattle.text.proofs.Gathered.{one_more, last_one, all_numbered, all_counted, laid_on}
use Rattle.text.proofs.reader.methods.walk.Goals as goal
use Rattle.text.proofs.reader.methods.walk.Goals.{In_ok-front}

leads_on : (c : In_ok-front) → Leads (form c.in_ok-front.front.field) c.in_ok-front.front.ending c.in_ok-front.front.rest.now c.loop-front.rest.now
leads_on c = search rules

pub loop-front-preserved : goal.loop-front-preserved
loop-front-preserved c = (
  _,
  one_more _ _ _ _ _ c.loop-front.invariant.1 _ _ _ refl refl (leads_on (goal.at.loop-front-preserved c).In_ok-front) c.in-Comma.is,
  laid_on _ _ _ _ _ _ c.loop-front.invariant.2 c.loop-front.invariant.1.count c.put.ensures,
)

pub returns-in-Line : goal.returns-in-Line
returns-in-Line c =
    let so = c.loop-front.invariant.1 in
    let leads = leads_on (goal.at.returns-in-Line c).In_ok-front in (
      _,
      all_numbered _ _ _ _ _ so _ _ _ refl refl leads,
      last_one _ _ _ _ _ so _ _ _ refl refl leads c.in-Line.is c.requires.some,
      all_counted _ _ _ _ _ so _ _ _ refl refl leads,
      laid_on _ _ _ _ _ _ c.loop-front.invariant.2 so.count c.put.ensures,
    )
