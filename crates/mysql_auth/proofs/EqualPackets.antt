-- Packets and their parts compare equal exactly if they are equal.
use Rattle.std.proofs.Common.{◌≡◌, ◌&&◌, ℕ, List, Bool, true, nat_eq, Decides, IsTrue, refl, ap, subst}
use Rattle.std.proofs.lemmas.Bool.Decides.{Decides-and}
use Rattle.std.proofs.lemmas.Slice.Eq.{slice_eq-Decides}
use Rattle.std.specs.Cmp.Lexicographic.{pointwise}
use Rattle.std.specs.Option.{option_eq}
use borrow.Author.Tests.{clash}
use Rattle.mysql_wire.proofs.Same.{and-true, numbers-same, bytes-same, options-same, parts-same}
use Rattle.mysql_wire.specs.declared.int.RawInt.{RawInt}
use Rattle.mysql_auth.specs.contracts.auth_more_data.AuthMoreDataPartialEq.TheImpl as derived_more
use Rattle.mysql_auth.specs.contracts.auth_plugin.AuthPluginPartialEq.TheImpl as derived_plugin
use Rattle.mysql_auth.specs.contracts.auth_plugin_data.AuthPluginDataPartialEq.TheImpl as derived_answer
use Rattle.mysql_auth.specs.contracts.auth_reply.AuthReplyPartialEq.TheImpl as derived_reply
use Rattle.mysql_auth.specs.contracts.com_change_user.ComChangeUserPartialEq.TheImpl as derived_change
use Rattle.mysql_auth.specs.contracts.com_change_user_more_data.ComChangeUserMoreDataPartialEq.TheImpl as derived_change_data
use Rattle.mysql_auth.specs.contracts.handshake_response.HandshakeResponsePartialEq.TheImpl as derived_response
use Rattle.mysql_auth.specs.contracts.public_key_response.PublicKeyResponsePartialEq.TheImpl as derived_key
use Rattle.mysql_auth.specs.contracts.ssl_request.SslRequestPartialEq.TheImpl as derived_ssl
use Rattle.mysql_auth.specs.declared.auth_more_data.AuthMoreData.{AuthMoreData}
use Rattle.mysql_auth.specs.declared.auth_plugin.AuthPlugin.{AuthPlugin}
use Rattle.mysql_auth.specs.declared.auth_plugin.AuthPlugin.TheVariants as plugin
use Rattle.mysql_auth.specs.declared.auth_plugin_data.AuthPluginData.{AuthPluginData}
use Rattle.mysql_auth.specs.declared.auth_plugin_data.AuthPluginData.TheVariants as answer
use Rattle.mysql_auth.specs.declared.auth_reply.AuthReply.{AuthReply}
use Rattle.mysql_auth.specs.declared.auth_reply.AuthReply.TheVariants as reply
use Rattle.mysql_auth.specs.declared.com_change_user.ComChangeUser.{ComChangeUser}
use Rattle.mysql_auth.specs.declared.com_change_user_more_data.ComChangeUserMoreData.{ComChangeUserMoreData}
use Rattle.mysql_auth.specs.Handshake.{HandshakePacket, Head}
use Rattle.mysql_auth.specs.declared.handshake_response.HandshakeResponse.{HandshakeResponse}
use Rattle.mysql_auth.specs.declared.public_key_response.PublicKeyResponse.{PublicKeyResponse}
use Rattle.mysql_auth.specs.declared.ssl_request.SslRequest.{SslRequest}
use Rattle.mysql_auth.specs.Attributes.{Attribute, attribute_eq}
use Rattle.mysql_auth.specs.AuthMoreData as more
use Rattle.mysql_auth.specs.PluginRequest.{PluginRequest, plugin_name, plugin_data, request_of, request_eq}
use Rattle.mysql_auth.specs.PublicKeyResponse as key

-- ---- fields

-- a number in a field's wrapper type
number : (m n : ℕ) → Decides (nat_eq m n && true) (m ≡ n)
number m n = and-true _ (numbers-same m n)

bytes_in_packets-same : (m n : RawInt ℕ ℕ) → Decides (nat_eq m.0 n.0 && true) (m ≡ n)
bytes_in_packets-same =
    parts-same (λ m n. nat_eq m.0 n.0 && true) (λ m n. m.0 ≡ n.0) (λ m n. number m.0 n.0) (λ m n s i. record { 0 = s i; 1 = record {} }) (λ m. refl)

-- a word of flags
word : (m n : ℕ) → Decides ((nat_eq m n && true) && true) (m ≡ n)
word m n = and-true _ (number m n)

attributes-same : (p q : Attribute) → Decides (attribute_eq p q) (p ≡ q)
attributes-same =
    parts-same attribute_eq (λ p q. (p.0 ≡ q.0) × (p.1 ≡ q.1))
    (λ p q. Decides-and _ _ (bytes-same p.0 q.0) (bytes-same p.1 q.1))
    (λ p q s i. (s.0 i, s.1 i))
    (λ p. (refl, refl))

pub attribute_lists-same : (ps qs : List Attribute) → Decides (pointwise attribute_eq ps qs) (ps ≡ qs)
attribute_lists-same ps qs = slice_eq-Decides attributes-same ps qs _ refl

-- ---- plugins

abbrev SameSalt : (m n : ℕ) (xs ys : List ℕ) → Type 0
SameSalt m n xs ys = (m ≡ n) × (xs ≡ ys)

salts : (m n : ℕ) (xs ys : List ℕ) → Decides (nat_eq m n && pointwise nat_eq xs ys) (SameSalt m n xs ys)
salts m n xs ys = Decides-and _ _ (numbers-same m n) (bytes-same xs ys)

plugin-equals_itself : (a : AuthPlugin) → IsTrue (derived_plugin.ghosts.eq a a)
plugin-equals_itself plugin.MysqlOldPassword = refl
plugin-equals_itself plugin.MysqlClearPassword = refl
plugin-equals_itself plugin.MysqlNativePassword = refl
plugin-equals_itself plugin.CachingSha2Password = refl
plugin-equals_itself plugin.Ed25519 = refl
plugin-equals_itself (plugin.MariadbParsec m xs) = (salts m m xs xs).1 (refl, refl)
plugin-equals_itself (plugin.Other a) = (bytes-same a a).1 refl

equal-plugins : (a b : AuthPlugin) → IsTrue (derived_plugin.ghosts.eq a b) → a ≡ b
equal-plugins plugin.MysqlOldPassword plugin.MysqlOldPassword e = refl
equal-plugins plugin.MysqlClearPassword plugin.MysqlClearPassword e = refl
equal-plugins plugin.MysqlNativePassword plugin.MysqlNativePassword e = refl
equal-plugins plugin.CachingSha2Password plugin.CachingSha2Password e = refl
equal-plugins plugin.Ed25519 plugin.Ed25519 e = refl
equal-plugins (plugin.MariadbParsec m xs) (plugin.MariadbParsec n ys) e = let s = (salts m n xs ys).0 e in λ i. plugin.MariadbParsec (s.0 i) (s.1 i)
equal-plugins (plugin.Other a) (plugin.Other b) e = ap plugin.Other ((bytes-same a b).0 e)
equal-plugins _ _ e = absurd (clash e)

pub plugins-same : (a b : AuthPlugin) → Decides (derived_plugin.ghosts.eq a b) (a ≡ b)
plugins-same a b = (equal-plugins a b, λ e. subst (λ (c : AuthPlugin). IsTrue (derived_plugin.ghosts.eq a c)) e (plugin-equals_itself a))

answer-equals_itself : (a : AuthPluginData) → IsTrue (derived_answer.ghosts.eq a a)
answer-equals_itself (answer.Old a) = (bytes-same a a).1 refl
answer-equals_itself (answer.Native a) = (bytes-same a a).1 refl
answer-equals_itself (answer.Sha2 a) = (bytes-same a a).1 refl
answer-equals_itself (answer.Clear a) = (bytes-same a a).1 refl
answer-equals_itself (answer.Ed25519 a) = (bytes-same a a).1 refl
answer-equals_itself (answer.Parsec a) = (bytes-same a a).1 refl

equal-answers : (a b : AuthPluginData) → IsTrue (derived_answer.ghosts.eq a b) → a ≡ b
equal-answers (answer.Old a) (answer.Old b) e = ap answer.Old ((bytes-same a b).0 e)
equal-answers (answer.Native a) (answer.Native b) e = ap answer.Native ((bytes-same a b).0 e)
equal-answers (answer.Sha2 a) (answer.Sha2 b) e = ap answer.Sha2 ((bytes-same a b).0 e)
equal-answers (answer.Clear a) (answer.Clear b) e = ap answer.Clear ((bytes-same a b).0 e)
equal-answers (answer.Ed25519 a) (answer.Ed25519 b) e = ap answer.Ed25519 ((bytes-same a b).0 e)
equal-answers (answer.Parsec a) (answer.Parsec b) e = ap answer.Parsec ((bytes-same a b).0 e)
equal-answers _ _ e = absurd (clash e)

pub answers-same : (a b : AuthPluginData) → Decides (derived_answer.ghosts.eq a b) (a ≡ b)
answers-same a b = (equal-answers a b, λ e. subst (λ (c : AuthPluginData). IsTrue (derived_answer.ghosts.eq a c)) e (answer-equals_itself a))

-- ---- what a server sends

pub more_data-same : (a b : AuthMoreData) → Decides (derived_more.ghosts.eq a b) (a ≡ b)
more_data-same =
    parts-same derived_more.ghosts.eq (λ a b. a.«data» ≡ b.«data») (λ a b. bytes-same a.«data» b.«data») (λ a b s i. more.more_data_of (s i)) (λ a. refl)

pub keys-same : (a b : PublicKeyResponse) → Decides (derived_key.ghosts.eq a b) (a ≡ b)
keys-same =
    parts-same derived_key.ghosts.eq (λ a b. a.rsa_key ≡ b.rsa_key) (λ a b. bytes-same a.rsa_key b.rsa_key) (λ a b s i. key.response_of (s i)) (λ a. refl)

pub requests-same : {T : Type 0} {first : ℕ} (a b : PluginRequest T first) → Decides (request_eq a b) (a ≡ b)
requests-same =
    parts-same request_eq (λ a b. (plugin_name a ≡ plugin_name b) × (plugin_data a ≡ plugin_data b))
    (λ a b. Decides-and _ _ (bytes-same (plugin_name a) (plugin_name b)) (bytes-same (plugin_data a) (plugin_data b)))
    (λ a b s i. request_of (s.0 i) (s.1 i))
    (λ a. (refl, refl))

reply-equals_itself : (a : AuthReply) → IsTrue (derived_reply.ghosts.eq a a)
reply-equals_itself (reply.OkPacket a) = (bytes-same a a).1 refl
reply-equals_itself (reply.ErrPacket a) = (bytes-same a a).1 refl
reply-equals_itself (reply.Switch a) = (requests-same a a).1 refl
reply-equals_itself reply.OldSwitch = refl
reply-equals_itself (reply.MoreData a) = (more_data-same a a).1 refl
reply-equals_itself (reply.NextFactor a) = (requests-same a a).1 refl
reply-equals_itself (reply.PluginData a) = (bytes-same a a).1 refl

equal-replies : (a b : AuthReply) → IsTrue (derived_reply.ghosts.eq a b) → a ≡ b
equal-replies (reply.OkPacket a) (reply.OkPacket b) e = ap reply.OkPacket ((bytes-same a b).0 e)
equal-replies (reply.ErrPacket a) (reply.ErrPacket b) e = ap reply.ErrPacket ((bytes-same a b).0 e)
equal-replies (reply.Switch a) (reply.Switch b) e = ap reply.Switch ((requests-same a b).0 e)
equal-replies reply.OldSwitch reply.OldSwitch e = refl
equal-replies (reply.MoreData a) (reply.MoreData b) e = ap reply.MoreData ((more_data-same a b).0 e)
equal-replies (reply.NextFactor a) (reply.NextFactor b) e = ap reply.NextFactor ((requests-same a b).0 e)
equal-replies (reply.PluginData a) (reply.PluginData b) e = ap reply.PluginData ((bytes-same a b).0 e)
equal-replies _ _ e = absurd (clash e)

pub replies-same : (a b : AuthReply) → Decides (derived_reply.ghosts.eq a b) (a ≡ b)
replies-same a b = (equal-replies a b, λ e. subst (λ (c : AuthReply). IsTrue (derived_reply.ghosts.eq a c)) e (reply-equals_itself a))

-- what the derived equality computes, in both forms
abbrev head_eq : Head → Head → Bool
head_eq a b =
    (nat_eq a.protocol_version.0 b.protocol_version.0 && true) && (pointwise nat_eq a.server_version b.server_version
    && ((nat_eq a.connection_id.0 b.connection_id.0 && true) && (pointwise nat_eq a.scramble_1 b.scramble_1
    && ((nat_eq a.capabilities_low.0 b.capabilities_low.0 && true) && ((nat_eq a.default_collation.0 b.default_collation.0 && true)
    && (((nat_eq a.status_flags.0.0 b.status_flags.0.0 && true) && true) && ((nat_eq a.capabilities_high.0 b.capabilities_high.0 && true)
    && ((nat_eq a.mariadb_capabilities.0.0 b.mariadb_capabilities.0.0 && true) && true))))))))

abbrev handshake_eq : HandshakePacket → HandshakePacket → Bool
handshake_eq a b =
    head_eq a.head b.head && (option_eq (pointwise nat_eq) a.scramble_2 b.scramble_2 && option_eq (pointwise nat_eq) a.auth_plugin_name b.auth_plugin_name)

heads-same : (a b : Head) → Decides (head_eq a b) (a ≡ b)
heads-same =
    parts-same head_eq
    (λ a b. (a.protocol_version.0 ≡ b.protocol_version.0) × ((a.server_version ≡ b.server_version) × ((a.connection_id.0 ≡ b.connection_id.0) × ((a.scramble_1 ≡ b.scramble_1)
    × ((a.capabilities_low.0 ≡ b.capabilities_low.0) × ((a.default_collation.0 ≡ b.default_collation.0) × ((a.status_flags.0.0 ≡ b.status_flags.0.0)
    × ((a.capabilities_high.0 ≡ b.capabilities_high.0) × (a.mariadb_capabilities.0.0 ≡ b.mariadb_capabilities.0.0)))))))))
    (λ a b. Decides-and _ _ (number a.protocol_version.0 b.protocol_version.0) (Decides-and _ _ (bytes-same a.server_version b.server_version)
    (Decides-and _ _ (number a.connection_id.0 b.connection_id.0) (Decides-and _ _ (bytes-same a.scramble_1 b.scramble_1)
    (Decides-and _ _ (number a.capabilities_low.0 b.capabilities_low.0) (Decides-and _ _ (number a.default_collation.0 b.default_collation.0)
    (Decides-and _ _ (word a.status_flags.0.0 b.status_flags.0.0) (Decides-and _ _ (number a.capabilities_high.0 b.capabilities_high.0)
    (word a.mariadb_capabilities.0.0 b.mariadb_capabilities.0.0)))))))))
    (λ a b s i. record {
      protocol_version = record { 0 = s.0 i; 1 = record {} };
      server_version = s.1.0 i;
      connection_id = record { 0 = s.1.1.0 i; 1 = record {} };
      scramble_1 = s.1.1.1.0 i;
      filler = record {};
      capabilities_low = record { 0 = s.1.1.1.1.0 i; 1 = record {} };
      default_collation = record { 0 = s.1.1.1.1.1.0 i; 1 = record {} };
      status_flags = record { 0 = record { 0 = s.1.1.1.1.1.1.0 i; 1 = record {} }; 1 = record {} };
      capabilities_high = record { 0 = s.1.1.1.1.1.1.1.0 i; 1 = record {} };
      reserved = record {};
      mariadb_capabilities = record { 0 = record { 0 = s.1.1.1.1.1.1.1.1 i; 1 = record {} }; 1 = record {} };
    })
    (λ a. (refl, (refl, (refl, (refl, (refl, (refl, (refl, (refl, refl)))))))))

pub handshakes-same : (a b : HandshakePacket) → Decides (handshake_eq a b) (a ≡ b)
handshakes-same =
    parts-same handshake_eq (λ a b. (a.head ≡ b.head) × ((a.scramble_2 ≡ b.scramble_2) × (a.auth_plugin_name ≡ b.auth_plugin_name)))
    (λ a b. Decides-and _ _ (heads-same a.head b.head) (Decides-and _ _ (options-same bytes-same a.scramble_2 b.scramble_2) (options-same bytes-same a.auth_plugin_name b.auth_plugin_name)))
    (λ a b s i. record { head = s.0 i; scramble_2 = s.1.0 i; auth_plugin_name = s.1.1 i })
    (λ a. (refl, (refl, refl)))

-- ---- what a client sends

pub ssl_requests-same : (a b : SslRequest) → Decides (derived_ssl.ghosts.eq a b) (a ≡ b)
ssl_requests-same =
    parts-same derived_ssl.ghosts.eq
    (λ a b. (a.capabilities.0.0 ≡ b.capabilities.0.0) × ((a.max_packet_size.0 ≡ b.max_packet_size.0) × ((a.character_set.0 ≡ b.character_set.0) × (a.mariadb_capabilities.0.0 ≡ b.mariadb_capabilities.0.0))))
    (λ a b. Decides-and _ _ (word a.capabilities.0.0 b.capabilities.0.0) (Decides-and _ _ (number a.max_packet_size.0 b.max_packet_size.0)
    (Decides-and _ _ (number a.character_set.0 b.character_set.0) (word a.mariadb_capabilities.0.0 b.mariadb_capabilities.0.0))))
    (λ a b s i. record {
      capabilities = record { 0 = record { 0 = s.0 i; 1 = record {} }; 1 = record {} };
      max_packet_size = record { 0 = s.1.0 i; 1 = record {} };
      character_set = record { 0 = s.1.1.0 i; 1 = record {} };
      skipped = record {};
      mariadb_capabilities = record { 0 = record { 0 = s.1.1.1 i; 1 = record {} }; 1 = record {} };
    })
    (λ a. (refl, (refl, (refl, refl))))

pub responses-same : (a b : HandshakeResponse) → Decides (derived_response.ghosts.eq a b) (a ≡ b)
responses-same =
    parts-same derived_response.ghosts.eq
    (λ a b. (a.head ≡ b.head) × ((a.user ≡ b.user) × ((a.scramble_buf ≡ b.scramble_buf) × ((a.db_name ≡ b.db_name) × ((a.auth_plugin ≡ b.auth_plugin)
    × ((a.connect_attributes ≡ b.connect_attributes) × (a.zstd_level ≡ b.zstd_level)))))))
    (λ a b. Decides-and _ _ (ssl_requests-same a.head b.head) (Decides-and _ _ (bytes-same a.user b.user) (Decides-and _ _ (bytes-same a.scramble_buf b.scramble_buf)
    (Decides-and _ _ (options-same bytes-same a.db_name b.db_name) (Decides-and _ _ (options-same plugins-same a.auth_plugin b.auth_plugin)
    (Decides-and _ _ (options-same attribute_lists-same a.connect_attributes b.connect_attributes) (options-same bytes_in_packets-same a.zstd_level b.zstd_level)))))))
    (λ a b s i. record {
      head = s.0 i;
      user = s.1.0 i;
      scramble_buf = s.1.1.0 i;
      db_name = s.1.1.1.0 i;
      auth_plugin = s.1.1.1.1.0 i;
      connect_attributes = s.1.1.1.1.1.0 i;
      zstd_level = s.1.1.1.1.1.1 i;
    })
    (λ a. (refl, (refl, (refl, (refl, (refl, (refl, refl)))))))

pub change_data-same : (a b : ComChangeUserMoreData) → Decides (derived_change_data.ghosts.eq a b) (a ≡ b)
change_data-same =
    parts-same derived_change_data.ghosts.eq (λ a b. (a.character_set.0 ≡ b.character_set.0) × ((a.auth_plugin ≡ b.auth_plugin) × (a.connect_attributes ≡ b.connect_attributes)))
    (λ a b. Decides-and _ _ (number a.character_set.0 b.character_set.0) (Decides-and _ _ (options-same plugins-same a.auth_plugin b.auth_plugin)
    (options-same attribute_lists-same a.connect_attributes b.connect_attributes)))
    (λ a b s i. record { character_set = record { 0 = s.0 i; 1 = record {} }; auth_plugin = s.1.0 i; connect_attributes = s.1.1 i })
    (λ a. (refl, (refl, refl)))

pub changes-same : (a b : ComChangeUser) → Decides (derived_change.ghosts.eq a b) (a ≡ b)
changes-same =
    parts-same derived_change.ghosts.eq (λ a b. (a.user ≡ b.user) × ((a.auth_plugin_data ≡ b.auth_plugin_data) × ((a.database ≡ b.database) × (a.more_data ≡ b.more_data))))
    (λ a b. Decides-and _ _ (bytes-same a.user b.user) (Decides-and _ _ (bytes-same a.auth_plugin_data b.auth_plugin_data)
    (Decides-and _ _ (bytes-same a.database b.database) (options-same change_data-same a.more_data b.more_data))))
    (λ a b s i. record { header = record { 0 = record {} }; user = s.0 i; auth_plugin_data = s.1.0 i; database = s.1.1.0 i; more_data = s.1.1.1 i })
    (λ a. (refl, (refl, (refl, refl))))

pub ruleset equal_packets = (plugins-same, answers-same, more_data-same, keys-same, requests-same, replies-same, handshakes-same, ssl_requests-same, responses-same, change_data-same, changes-same)
