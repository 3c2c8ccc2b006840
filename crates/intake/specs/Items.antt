-- What an item's record gives to be judged: its kind by letter and spread, with the bias as a layer over it.
use Rattle.std.specs.Prelude.{ℕ, ◌*◌, cond, pos, ◌==◌, unsigned_abs}
use Rattle.knowledge.specs.Knowledge.{Answers}
use Rattle.normal.specs.Normal.{normal}
use Rattle.rectangular.specs.Rectangular.{rectangular}
use Rattle.bias.specs.Bias.{kept, shifted}
use Rattle.expanded.specs.Expanded.{first_reaching}
use Rattle.records.specs.Entries.{ItemMeaning}
use Rattle.lot.specs.declared.items.ItemFields.{ItemFields}

-- the kind of a letter, 78 for N and else R, with the spread s
abbrev pub kind_by : ℕ → ℕ → Answers
kind_by letter s = cond (letter == 78) (normal s) (rectangular s)

-- its expanded uncertainty: 2s under N, the least n with 3n² ≥ 4s² under R
abbrev pub expanded_by : ℕ → ℕ → ℕ
expanded_by letter s = cond (letter == 78) (2 * s) (first_reaching s)

-- what is known of an item's reading
abbrev pub knowledge_of : ItemMeaning → Answers
knowledge_of m = shifted (kept m.item_bias) (kind_by m.kind_letter (unsigned_abs m.kind_spread))

-- what is entered of it
abbrev pub fields_of : ItemMeaning → ItemFields
fields_of m =
    record {
      number = m.item_number;
      class = m.item_class;
      characteristic = m.item_characteristic;
      expanded = pos (expanded_by m.kind_letter (unsigned_abs m.kind_spread));
      reading = m.item_reading;
    }
