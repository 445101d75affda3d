use Rattle.std.proofs.Common.{rules, ◌≡◌, []}
use Rattle.mysql_auth.proofs.PairsRead.{no-pair}
use Rattle.mysql_auth.proofs.attributes.read_pairs.Goals as goal

pub returns-then-is_empty : goal.returns-then-is_empty
returns-then-is_empty c =
    let none : c.args.inside ≡ [] = search rules in
    let empty : c.new.result.items ≡ [] = search rules in
    record { value = rw (none, empty) (no-pair []) }
