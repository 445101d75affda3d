use Rattle.std.proofs.Common.{◌∙◌, ◌++◌, ℕ, List, [], ap, subst, sym}
use Rattle.mysql_auth.specs.Attributes.{attributes}
use Rattle.mysql_auth.specs.HandshakeResponse.{before_attributes, level_bytes}
use Rattle.mysql_auth.specs.declared.handshake_response.HandshakeResponse.{HandshakeResponse}
use Rattle.mysql_packets_c.specs.Attributes.{merged_pairs}
use Rattle.mysql_packets_c.specs.Login.{IsLogin, with_attributes}
use Rattle.mysql_packets_c.specs.Output.{PutsUnlessTooLong}
use Rattle.mysql_packets_c.proofs.Logins.{login-ends, login-without}
use Rattle.mysql_packets_c.proofs.login.myp_write_login.Goals as goal

pub returns-then-login-eq0-clause-value : goal.returns-then-login-eq0-clause-value
returns-then-login-eq0-clause-value c =
    let login = c.args.login.now in
    let given = c.args.attributes.now in
    let response = c.response_of-response.result in
    let whole = login-without login given response c.if-login-eq0.true c.response_of-response.ensures.attributes in
    λ texts. (response, subst (λ p. IsLogin login given p) whole (c.response_of-response.ensures.value given), c.put_packet.ensures)

pub returns-clause-value : goal.returns-clause-value
returns-clause-value c =
    let login = c.args.login.now in
    let given = c.args.attributes.now in
    let response = c.response_of-response.result in
    let value = c.response_of-response.ensures.value given in
    let level = c.written_level-level.result in
    let bytes =
    ap (λ (p : HandshakeResponse). before_attributes p ++ (attributes.bytes (merged_pairs given) ++ (level_bytes level ++ []))) c.before_attributes-before.ensures
    ∙ login-ends login given response level c.if-login-eq0.false (c.written_level-level.ensures ∙ sym value.zstd_level) in
    λ texts. (with_attributes login given response, value, subst (λ (b : List ℕ). PutsUnlessTooLong b c.put_packet-2.result c.args.out.now c.put_packet-2.new.out c.put_packet-2.new.written) bytes c.put_packet-2.ensures)
