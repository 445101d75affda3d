use Rattle.std.proofs.Common.{rules, ◌<◌, ◌^◌, ℕ, List, [], refl, subst}
use Rattle.std.proofs.lemmas.List.{append-nil}
use Rattle.mysql_repl.specs.SemiSyncAck.{semi_sync_ack, position}
use Rattle.mysql_repl.proofs.Fits.{semi_sync_ack-fits}
use Rattle.mysql_repl.proofs.laws.values.this_semi_sync_ack_round_trips.Goals as goal

pub returns : goal.returns
returns c =
    let p = c.args.ack.now in
    let width : position p < 2 ^ 64 = search rules in
    let spelled = semi_sync_ack.again tt p [] (semi_sync_ack-fits p [] (record { position = width; filename = refl })) in
    record { spelled = subst (λ (t : List ℕ). (semi_sync_ack.form tt).Spells p t []) (append-nil (semi_sync_ack.bytes p)) spelled }
