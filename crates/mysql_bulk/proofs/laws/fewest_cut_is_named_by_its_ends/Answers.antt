use Rattle.mysql_cuts.proofs.Weighed.{weigh, ends_to, fewest_weighed}
use Rattle.mysql_bulk.specs.Row.{first_length}
use Rattle.mysql_bulk.specs.Row.{rows_packing}
use Rattle.mysql_bulk.proofs.laws.fewest_cut_is_named_by_its_ends.Goals as goal

pub returns : goal.returns
returns c = λ rule limit rows cut f.
    let k = rows_packing rule limit (first_length rows) in
    (weigh k cut, ends_to k 0 cut, fewest_weighed k rows cut f)
