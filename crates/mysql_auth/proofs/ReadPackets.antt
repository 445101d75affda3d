-- The parts of packets that were read fit, up to conditions on their lengths.
use Rattle.std.proofs.Common.{◌≡◌, ℕ, List, Option, Some, None, Bool, true, false, refl, sym, subst, ap, ◌∙◌}
use Rattle.std.specs.Option.{option_map}
use Rattle.mysql_wire.specs.declared.int.RawInt.{RawInt}
use Rattle.mysql_wire.specs.Codecs.{one_of, string_null, string_u8, string_lenenc}
use Rattle.mysql_wire.specs.Flags.{CapabilityFlags}
use Rattle.mysql_wire.specs.Form.{when}
use Rattle.mysql_wire.specs.Null.{HasNoZero, null_string}
use Rattle.mysql_auth.specs.Attributes.{Attribute, AreShort, AreShortIn, attributes}
use Rattle.mysql_auth.specs.ComChangeUser as change
use Rattle.mysql_auth.specs.ComChangeUser.{change_user, last_part, more_data, named_plugin, sent_attributes as change_attributes, GivenFits, NamedFits, MoreDataPartsFit, MoreIsShort, MoreFits, ChangeUserIsShort, ChangeUserPartsFit, SessionMoreDataPartsFit, SessionChangeUserPartsFit}
use Rattle.mysql_auth.specs.Handshake.{HandshakePacket, handshake, handshake_head, handshake_block, server_version}
use Rattle.mysql_auth.specs.HandshakeResponse.{handshake_response, scramble, database, plugin, sent_attributes, counts_by_lenenc, counts_by_byte, sends_database, sends_plugin, sends_attributes, sends_zstd_level, sent_zstd_level, level_codec, LevelFits, LevelIsByte, PartFits, ScrambleFits, ScrambleIsShort, ResponseIsShort, ResponsePartsFit}
use Rattle.mysql_auth.specs.PluginName.{PluginFits, plugin_null, plugin_null_or_eof}
use Rattle.mysql_auth.specs.declared.auth_plugin.AuthPlugin.{AuthPlugin}
use Rattle.mysql_auth.specs.declared.com_change_user.ComChangeUser.{ComChangeUser}
use Rattle.mysql_auth.specs.declared.com_change_user_more_data.ComChangeUserMoreData.{ComChangeUserMoreData}
use Rattle.mysql_auth.specs.declared.handshake_response.HandshakeResponse.{HandshakeResponse}
use Rattle.mysql_auth.proofs.ReadParts.{null-no_zero, to-zero-fits, to-zero-or-end-fits, read-part}

-- ---- the handshake

pub version-no_zero : (p : HandshakePacket) (bytes rest : List ℕ) → (handshake.form tt).Spells p bytes rest → HasNoZero (server_version p)
unfolding handshake handshake_head handshake_block
version-no_zero p bytes rest s =
    let version = s.2.3 in
    let fixed = version.3 in
    let fields = fixed.2.2 in
    let made = fields.3.3.3.3.3.3.3.3.3.3.0 in
    let whole = s.3.3.3.0 in
    let same : server_version p ≡ version.0 = ap server_version whole ∙ ap (λ x. x.0.server_version) (fixed.3.0 ∙ made) in
    subst HasNoZero (sym same) (null-no_zero version.0 s.2.1 version.1 version.2)

-- ---- the response

scramble-fits : (by_lenenc by_byte : Bool) (content bytes rest : List ℕ) → ((one_of {C = Unit {0}} by_lenenc string_lenenc (one_of by_byte string_u8 string_null)).form tt).Spells content bytes rest
    → ScrambleIsShort by_lenenc by_byte content → ScrambleFits by_lenenc by_byte content
scramble-fits true by_byte content bytes rest s h = h
scramble-fits false true content bytes rest s h = h
scramble-fits false false content bytes rest s h = null-no_zero content bytes rest s

attributes-fit : (sent : Bool) (given : Option (List Attribute)) (bytes rest : List ℕ) → (when sent (attributes.form tt)).Spells given bytes rest → AreShortIn given → PartFits AreShort sent given
attributes-fit true given bytes rest s = subst (λ (o : Option (List Attribute)). AreShortIn o → PartFits AreShort true o) s.1 (λ short. (refl, short))
attributes-fit false given bytes rest s = subst (λ (o : Option (List Attribute)). AreShortIn o → PartFits AreShort false o) (sym s.0) (λ short. refl)

-- a level is read only if it was sent
level-fits : (sent : Bool) (level : Option (RawInt ℕ ℕ)) (bytes rest more : List ℕ) → ((level_codec sent).form tt).Spells level bytes rest
    → LevelIsByte sent (option_map (λ n. n.0) level) more → LevelFits sent (option_map (λ n. n.0) level) more
level-fits true None bytes rest more s h = h
level-fits false None bytes rest more s h = h
level-fits true (Some level) bytes rest more s h = (refl, h)
level-fits false (Some level) bytes rest more s h = absurd (cc s.0)

pub response-parts : (p : HandshakeResponse) (bytes rest more : List ℕ) → (handshake_response.form tt).Spells p bytes rest → ResponseIsShort p more → ResponsePartsFit p more
unfolding handshake_response scramble database plugin sent_attributes sent_zstd_level
response-parts p bytes rest more s =
    let user = s.3 in
    let answer = user.3 in
    let name = answer.3 in
    let named = name.3 in
    let given = named.3 in
    let level = given.3 in
    let head = s.0 in
    let made : HandshakeResponse = record {
      head = head;
      user = user.0;
      scramble_buf = answer.0;
      db_name = name.0;
      auth_plugin = named.0;
      connect_attributes = given.0;
      zstd_level = level.0;
    } in
    let parts : ResponseIsShort made more → ResponsePartsFit made more = λ short. record {
      user = null-no_zero user.0 s.1 user.1 user.2;
      scramble_buf = scramble-fits (counts_by_lenenc head) (counts_by_byte head) answer.0 user.1 answer.1 answer.2 short.scramble_buf;
      db_name = read-part null_string HasNoZero null-no_zero (sends_database head) name.0 answer.1 name.1 name.2;
      auth_plugin = read-part (plugin_null_or_eof.form tt) PluginFits to-zero-or-end-fits (sends_plugin head) named.0 name.1 named.1 named.2;
      connect_attributes = attributes-fit (sends_attributes head) given.0 named.1 given.1 given.2 short.connect_attributes;
      zstd_level = level-fits (sends_zstd_level head) level.0 given.1 level.1 more level.2 short.zstd_level;
    } in
    let whole : p ≡ made = level.3.0 in
    subst (λ (q : HandshakeResponse). ResponseIsShort q more → ResponsePartsFit q more) (sym whole) parts

-- ---- the change of user

named-fits : (sent : Bool) (o : Option AuthPlugin) (bytes rest : List ℕ) → (when sent (plugin_null.form tt)).Spells o bytes rest → NamedFits sent o
named-fits true o bytes rest s = subst (λ (q : Option AuthPlugin). NamedFits true q) s.1 (refl, to-zero-fits s.0 bytes rest s.2)
named-fits false o bytes rest s = subst (λ (q : Option AuthPlugin). NamedFits false q) (sym s.0) refl

pub more_data-parts : (c : CapabilityFlags) (p : ComChangeUserMoreData) (bytes rest : List ℕ) → (more_data.form c).Spells p bytes rest
    → AreShortIn (change.connect_attributes p) → SessionMoreDataPartsFit c p
unfolding more_data named_plugin change_attributes
more_data-parts c p bytes rest s h =
    let named = s.3 in
    let fits : NamedFits (change.sends_plugin c) named.0 = named-fits (change.sends_plugin c) named.0 s.1 named.1 named.2 in
    let same : change.auth_plugin p ≡ named.0 = ap change.auth_plugin named.3.3.0 in
    let given = named.3 in
    let fit : AreShortIn given.0 → PartFits AreShort (change.sends_attributes c) given.0 = attributes-fit (change.sends_attributes c) given.0 named.1 given.1 given.2 in
    let is : change.connect_attributes p ≡ given.0 = ap change.connect_attributes given.3.0 in
    record {
      auth_plugin = subst (NamedFits (change.sends_plugin c)) (sym same) fits;
      connect_attributes = subst (λ (o : Option (List Attribute)). AreShortIn o → PartFits AreShort (change.sends_attributes c) o) (sym is) fit h;
    }

more-parts : (c : CapabilityFlags) (there : Bool) (o : Option ComChangeUserMoreData) (bytes rest more : List ℕ) → (when there (more_data.form c)).Spells o bytes rest
    → MoreIsShort o more → MoreFits (SessionMoreDataPartsFit c) o more
more-parts c true o bytes rest more s =
    subst (λ (q : Option ComChangeUserMoreData). MoreIsShort q more → MoreFits (SessionMoreDataPartsFit c) q more) s.1 (λ short. more_data-parts c s.0 bytes rest s.2 short)
more-parts c false o bytes rest more s = subst (λ (q : Option ComChangeUserMoreData). MoreIsShort q more → MoreFits (SessionMoreDataPartsFit c) q more) (sym s.0) (λ none. none)

pub change-parts : (c : CapabilityFlags) (p : ComChangeUser) (bytes rest more : List ℕ) → (change_user.form c).Spells p bytes rest → ChangeUserIsShort p more → SessionChangeUserPartsFit c p more
unfolding change_user last_part
change-parts c p bytes rest more s =
    let user = s.3 in
    let answer = user.3 in
    let base = answer.3 in
    let given = base.3 in
    let made : ComChangeUser = record { header = s.0; user = user.0; auth_plugin_data = answer.0; database = base.0; more_data = given.0 } in
    let parts : ChangeUserIsShort made more → SessionChangeUserPartsFit c made more = λ short. record {
      user = null-no_zero user.0 s.1 user.1 user.2;
      auth_plugin_data = short.auth_plugin_data;
      database = null-no_zero base.0 answer.1 base.1 base.2;
      more_data = more-parts c _ given.0 base.1 given.1 more given.2 short.more_data;
    } in
    let whole : p ≡ made = given.3.0 in
    subst (λ (q : ComChangeUser). ChangeUserIsShort q more → SessionChangeUserPartsFit c q more) (sym whole) parts

-- ---- attributes are present if they are sent

given-there : (sent : Bool) (given : Option (List Attribute)) → sent ≡ true → PartFits AreShort sent given → GivenFits AreShort sent given
given-there sent None is_sent h = let none : ◌≡◌ {A = Bool} true false = sym is_sent ∙ h in absurd cc
given-there sent (Some pairs) is_sent h = h

data-there : (c : CapabilityFlags) (p : ComChangeUserMoreData) → change.sends_attributes c ≡ true → SessionMoreDataPartsFit c p → MoreDataPartsFit c p
data-there c p is_sent h = record {
  auth_plugin = h.auth_plugin;
  connect_attributes = given-there (change.sends_attributes c) (change.connect_attributes p) is_sent h.connect_attributes;
}

more-there : (c : CapabilityFlags) (more : Option ComChangeUserMoreData) (rest : List ℕ) → change.sends_attributes c ≡ true → MoreFits (SessionMoreDataPartsFit c) more rest → MoreFits (MoreDataPartsFit c) more rest
more-there c None rest is_sent h = h
more-there c (Some p) rest is_sent h = data-there c p is_sent h

pub more_data-parts_there : (c : CapabilityFlags) (p : ComChangeUserMoreData) (bytes rest : List ℕ) → (more_data.form c).Spells p bytes rest
    → AreShortIn (change.connect_attributes p) → change.sends_attributes c ≡ true → MoreDataPartsFit c p
more_data-parts_there c p bytes rest s h is_sent = data-there c p is_sent (more_data-parts c p bytes rest s h)

pub change-parts_there : (c : CapabilityFlags) (p : ComChangeUser) (bytes rest more : List ℕ) → (change_user.form c).Spells p bytes rest → ChangeUserIsShort p more
    → change.sends_attributes c ≡ true → ChangeUserPartsFit c p more
change-parts_there c p bytes rest more s h is_sent =
    let parts = change-parts c p bytes rest more s h in
    record {
      user = parts.user;
      auth_plugin_data = parts.auth_plugin_data;
      database = parts.database;
      more_data = more-there c (change.more_data_in p) more is_sent parts.more_data;
    }

pub ruleset read_packets = (version-no_zero, response-parts, more_data-parts, change-parts, more_data-parts_there, change-parts_there)
