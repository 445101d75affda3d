use Rattle.std.proofs.Common.{◌≡◌, ◌<◌, List, [], ◌∷◌, String, Global, None, length, map, string_bytes, refl, arith}
use Rattle.mysql_program.specs.BulkCall.{bulk_call}
use Rattle.mysql_program.proofs.bulk_call.BulkCall.of.Goals as goal

-- one word, or none, is no call
few : (words : List (String Global)) → length words < 2 → None ≡ bulk_call (map string_bytes words)
few [] short = refl
few (word ∷ []) short = refl
few (word ∷ next ∷ words) short = absurd (omega (arith, short))

pub returns-in_default : goal.returns-in_default
returns-in_default c = record { value = few c.args.arguments.now c.in_default.len_below }
