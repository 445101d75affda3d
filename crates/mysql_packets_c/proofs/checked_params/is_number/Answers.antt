use Rattle.std.proofs.Common.{◌≡◌, ◌⊎◌, rules}
use Rattle.mysql_packets_c.proofs.SentNumbers.{number-length, number-may}
use Rattle.mysql_packets_c.proofs.checked_params.is_number.Goals as goal

pub returns-in-2 : goal.returns-in-2
returns-in-2 c = λ h.
    let p = c.args.parameter.now in
    let plain : p.has_type ≡ 0 = search rules in
    let here : p.is_sent_ahead ≡ 0 = search rules in
    let kind : (p.value.kind ≡ 2) ⊎ (p.value.kind ≡ 3) = search rules in
    (number-may p plain here kind, number-length p plain here kind)
