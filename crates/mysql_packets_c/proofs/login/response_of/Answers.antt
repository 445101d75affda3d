use Rattle.std.proofs.Common.{rules, ◌∙◌, ap}
use Rattle.mysql_auth.specs.HandshakeResponse.{zstd_level}
use Rattle.mysql_packets_c.proofs.Logins.{level-held}
use Rattle.mysql_packets_c.proofs.login.response_of.Goals as goal

pub returns-clause-value : goal.returns-clause-value
returns-clause-value c = λ given. record {
  user = search rules;
  auth_response = search rules;
  database = search rules;
  auth_plugin = search rules;
  attributes = search rules;
  zstd_level = ap (λ p. zstd_level p) c.with_zstd_level.ensures.value ∙ level-held c.level_of.result ∙ c.level_of.ensures;
  max_packet_size = search rules;
  collation = search rules;
  mariadb_capabilities = search rules;
  database_flag = search rules;
  plugin_flag = search rules;
  attributes_flag = search rules;
  other_flags = search rules;
}
