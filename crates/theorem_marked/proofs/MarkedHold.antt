-- The marked examples hold: antt computes each.
use Rattle.laws.proofs.{refl}
use Rattle.laws.specs.{some, sum_by}
use Rattle.units.specs.{tenths_of, tonnes, nearest_tonne}
use Rattle.refusals.specs.{weighed, weigh_all, smallest}
use Rattle.forest.specs.{beside, letter_names, named}
use Rattle.rates.specs.{share_after}
use Rattle.text.specs.{width_to, holds, extend, split}
use Rattle.text_number.specs.{append, more, headed, number_in}
use Rattle.text_decimal.specs.{with_decimals, decimal_in, hectares_in}
use Rattle.line_entry.specs.{letter_in, parsed, add_rule}
use Rattle.line.specs.{body_of, letter_of, rule_of, line_rule, conditions, entry_of}
use Rattle.land_groups.specs.{species_area, weights_of, half_up, mean_age}
use Rattle.land_predominance.specs.{leading, predominant_of}
use Rattle.land_ages.specs.{hectare_age}
use Rattle.land_trees.specs.{cases, answer_of, held_of, hectare_of}
use Rattle.theorem_marked.specs.{Every, marked}

pub marked_hold : Every marked
unfolding some sum_by tenths_of tonnes nearest_tonne weighed weigh_all smallest beside letter_names named share_after extend split append more headed number_in width_to holds with_decimals decimal_in hectares_in letter_in parsed add_rule body_of letter_of rule_of line_rule conditions entry_of species_area weights_of half_up mean_age leading predominant_of hectare_age cases answer_of held_of hectare_of
marked_hold =
    (refl, (refl, (refl, (refl, (refl, (refl, (refl, (refl, (refl, (refl, (refl, (refl, (refl, (refl, tt))))))))))))))
