-- A text reads in one way.
use Rattle.std.proofs.Common.{◌≡◌, ℕ, ◌+◌, List, [], ◌∷◌, map, Some, Option, sym, refl, subst, arith}
use Rattle.faults.specs.declared.Fault.{Fault}
use Rattle.text.specs.Content.{saying}
use Rattle.text.proofs.Rows.{begins_once, not_empty}
use Rattle.report.specs.Reading.{ReadsOn, at_end, breaks_off, goes_on, Reads, too_long, from_start}

abbrev Same : List (List (List ℕ)) → Option Fault → List (List (List ℕ)) → Option Fault → Type 0
Same rs e ss d = (ss ≡ rs) × (d ≡ e)

on_once : {n : ℕ} {bs : List ℕ} {rs ss : List (List (List ℕ))} {e d : Option Fault} → ReadsOn n bs rs e → ReadsOn n bs ss d → Same rs e ss d
on_once at_end at_end = (refl, refl)
on_once at_end (breaks_off d j b) = absurd (not_empty d j [] b.breaks refl)
on_once at_end (goes_on gs f rest) = absurd (omega (arith, f.begins.some))
on_once (breaks_off e k b) at_end = absurd (not_empty e k [] b.breaks refl)
on_once {n} (breaks_off e k b) (breaks_off d j b') =
    let same = b.only d j b'.breaks in
    (refl, λ i. Some (record { refusal = same.0 i; «record» = n + 1; field = same.1 i }))
on_once (breaks_off e k b) (goes_on gs f rest) = absurd (f.unbroken e k b.breaks)
on_once (goes_on fs f rest) at_end = absurd (omega (arith, f.begins.some))
on_once (goes_on fs f rest) (breaks_off d j b) = absurd (f.unbroken d j b.breaks)
on_once {n} {bs} (goes_on {n = m} {after} {rs} {end} fs f rest) (goes_on {after = beyond} {rs = ss} {end = end'} gs g rest') =
    let same = begins_once fs gs after beyond bs f.begins g.begins in
    let on = on_once rest (subst (λ (cs : List ℕ). ReadsOn (n + 1) cs ss end') (sym same.1) rest') in
    (λ i. map saying (sym same.0 i) ∷ on.0 i, on.1)

pub reads_once : {text : List ℕ} {rs ss : List (List (List ℕ))} {e d : Option Fault} → Reads text rs e → Reads text ss d → Same rs e ss d
reads_once (too_long h) (too_long h') = (refl, refl)
reads_once (too_long h) (from_start h' r) = absurd (omega (arith, h, h'))
reads_once (from_start h r) (too_long h') = absurd (omega (arith, h, h'))
reads_once (from_start h r) (from_start h' r') = on_once r r'
