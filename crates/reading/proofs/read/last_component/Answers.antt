-- `reading::read::last_component` meets its contract. Assumes nothing.
use Rattle.std.proofs.Common.{rules, tests, ◌∙◌}
use Rattle.std.proofs.lemmas.Iterator.{YieldsList-from_slice}
use Rattle.std.proofs.lemmas.Iterator.Consumers.{count_from_yields_List, YieldsList-from_filter}
use Rattle.lookup.proofs.Splits.{is_slash}
use Rattle.reading.proofs.Readings.{last_is}
use Rattle.reading.proofs.read.last_component.Goals as goal

pub returns : goal.returns
returns c =
    count_from_yields_List _ c.count.result c.count.ensures.ran
    (YieldsList-from_filter _ is_slash (YieldsList-from_slice c.args.path.now cc) (cc)
    (λ x b q k. search (rules, tests)))
    ∙ last_is c.args.path.now
