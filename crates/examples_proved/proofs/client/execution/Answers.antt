use Rattle.std.proofs.Common.{Bool, ◌≡◌, ◌++◌, None, Ok, [], true, sym, subst, ap, arith}
use Rattle.std.proofs.lemmas.List.{length-map}
use Rattle.mysql_packets.specs.Execution.{Execution}
use Rattle.mysql_packets.specs.ExecuteHead.{head_without_cursor}
use Rattle.mysql_packets.specs.ExecuteRead as read
use Rattle.mysql_packets.specs.ReadAgain.{KnowsAll, bytes_after_head, params_as_read}
use Rattle.mysql_packets.specs.SentParam.{sent_param, sent_params}
use Rattle.examples_proved.proofs.client.execution.Goals as goal

pub returns-clause-read : goal.returns-clause-read
returns-clause-read g c = λ caps bound rest agreed known.
    let made = c.in_ok-made.made in
    let param = g.V.AsExecuteParam.param in
    let named_type = g.V.AsExecuteParam.named_type in
    let sent = sent_params param named_type c.args.params.now in
    let is = sym c.in_ok-made.ensures.made in
    let long = ap (λ (e : Execution). e.as_long_data) c.in_ok-made.ensures.made in
    subst (λ (e : Execution). (read.execution caps 0 bound).reads (bytes_after_head e ++ rest) ≡ Ok ((params_as_read e, []), rest)) is
    (c.execution_round_trips.ensures.read caps bound (head_without_cursor c.args.statement_id) sent None true c.in_ok-made._as_long_data rest (record {
      agreed = agreed;
      counted = λ none some. absurd cc;
      few = omega (arith, c.requires.few, length-map c.args.params.now (sent_param param named_type));
      fit = c.requires.fit;
      attributes_fit = λ k d lt. absurd (omega (arith, lt));
      known = subst (λ (l : Bool). KnowsAll true l bound sent) long known;
    }))
