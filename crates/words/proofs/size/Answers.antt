use Rattle.std.proofs.Common.{arith, rules, length, refl, sym, ◌∙◌}
use Rattle.std.proofs.lemmas.Iterator.{YieldsList-from_slice}
use Rattle.std.proofs.lemmas.Iterator.Adapters.{at_most_from_yields_List, fits_from_length}
use Rattle.std.proofs.lemmas.List.Recursion.{is_sum_by}
use Rattle.model.specs.Words.{bits, size}
use Rattle.laws.proofs.TableLaws.{bits_most}
use Rattle.words.proofs.size.Goals as goal

pub sum-requires-clause-fits : goal.sum-requires-clause-fits
sum-requires-clause-fits c =
    fits_from_length _ _ 1040 _ (at_most_from_yields_List (YieldsList-from_slice c.args.table.now cc) c.requires) c.map.ensures.closure (omega arith) (λ x r q k. search (rules, bits_most))

pub returns : goal.returns
unfolding size
returns c = search rules ∙ sym (is_sum_by size (λ w. length (bits w)) refl (λ w ws. refl) c.args.table.now)
