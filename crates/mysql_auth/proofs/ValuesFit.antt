-- For a packet value, its type's invariants and the plain conditions on its parts imply that it fits.
use Rattle.std.proofs.Common.{◌≡◌, ℕ, ◌<◌, ◌^◌, List, ◌++◌, length, Option, Some, None, Bool, refl}
use Rattle.mysql_wire.specs.Flags.{CapabilityFlags}
use Rattle.mysql_auth.specs.Attributes.{Attribute, AreShort, AttributesFit, merged}
use Rattle.mysql_auth.specs.ComChangeUser as change
use Rattle.mysql_auth.specs.ComChangeUser.{change_user, more_data, session_change_user, session_more_data, ChangeFits, GivenFits, MoreFieldsFit, MoreFits, MoreDataPartsFit, ChangeUserPartsFit, SessionMoreDataPartsFit, SessionChangeUserPartsFit}
use Rattle.mysql_auth.specs.Handshake as greeting
use Rattle.mysql_auth.specs.Handshake.{HandshakePacket, handshake, HalvesFit, HandshakePartsFit}
use Rattle.mysql_auth.specs.HandshakeResponse as response
use Rattle.mysql_auth.specs.HandshakeResponse.{handshake_response, PartFits, ResponsePartsFit, HandshakeResponseFits}
use Rattle.mysql_auth.specs.SslRequest.{SslRequestFits}
use Rattle.mysql_auth.specs.declared.com_change_user.ComChangeUser.{ComChangeUser}
use Rattle.mysql_auth.specs.declared.com_change_user_more_data.ComChangeUserMoreData.{ComChangeUserMoreData}
use Rattle.mysql_auth.specs.declared.handshake_response.HandshakeResponse.{HandshakeResponse}
use Rattle.mysql_auth.proofs.ChangeUserFits.{more_data-fits, change-fits, session_data-again, session_change-again}
use Rattle.mysql_auth.proofs.HandshakeFits.{handshake-fits}
use Rattle.mysql_auth.proofs.HandshakeResponseFits.{response-fits}

-- if there are attributes, their keys are distinct
abbrev Once : Option (List Attribute) → Type 0
Once given = (pairs : List Attribute) → given ≡ Some pairs → merged pairs ≡ pairs

-- ---- the handshake

pub handshake-spelled : (p : HandshakePacket) (rest : List ℕ) → greeting.protocol_version p < 2 ^ 8 → greeting.connection_id p < 2 ^ 32 → length (greeting.scramble_1 p) ≡ 8 → HalvesFit p
    → greeting.default_collation p < 2 ^ 8 → (greeting.status_flags p).0 < 2 ^ 16 → (greeting.mariadb_ext_capabilities p).0 < 2 ^ 32
    → HandshakePartsFit p rest → (handshake.form tt).Spells p (handshake.bytes p ++ rest) rest
handshake-spelled p rest version connection scramble halves collation status mariadb h =
    handshake.again tt p rest (handshake-fits p rest (record {
      protocol_version = version;
      server_version = h.server_version;
      connection_id = connection;
      scramble_1 = scramble;
      capabilities_low = halves.0;
      default_collation = collation;
      status_flags = status;
      capabilities_high = halves.1;
      mariadb_ext_capabilities = mariadb;
      scramble_2 = h.scramble_2;
      auth_plugin_name = h.auth_plugin_name;
    }))

-- ---- the response

given-fit : (sent : Bool) (given : Option (List Attribute)) → Once given → PartFits AreShort sent given → PartFits AttributesFit sent given
given-fit sent None once h = h
given-fit sent (Some pairs) once h = (h.0, record { once = once pairs refl; short = h.1 })

pub response-spelled : (p : HandshakeResponse) (rest : List ℕ) → SslRequestFits p.head → Once (response.connect_attributes p) → ResponsePartsFit p rest
    → (handshake_response.form tt).Spells p (handshake_response.bytes p ++ rest) rest
response-spelled p rest widths once h =
    handshake_response.again tt p rest (response-fits p rest (record {
      capabilities = widths.capabilities;
      max_packet_size = widths.max_packet_size;
      collation = widths.character_set;
      mariadb_ext_capabilities = widths.mariadb_capabilities;
      user = h.user;
      scramble_buf = h.scramble_buf;
      db_name = h.db_name;
      auth_plugin = h.auth_plugin;
      connect_attributes = given-fit (response.sends_attributes p.head) (response.connect_attributes p) once h.connect_attributes;
      zstd_level = h.zstd_level;
    }))

-- ---- the change of user

given-full : (sent : Bool) (given : Option (List Attribute)) → Once given → GivenFits AreShort sent given → GivenFits AttributesFit sent given
given-full sent None once h = h
given-full sent (Some pairs) once h = (h.0, record { once = once pairs refl; short = h.1 })

-- the character set has two bytes, and the keys are distinct
record IsWhole (p : ComChangeUserMoreData) : Type 0 where
  width : change.character_set p < 2 ^ 16
  once : Once (change.connect_attributes p)

abbrev Given : Type 1
Given = (List Attribute → Type 0) → Bool → Option (List Attribute) → Type 0

-- if the attributes fit, so do the fields
module _ (G : Given) (fit : (sent : Bool) (given : Option (List Attribute)) → Once given → G AreShort sent given → G AttributesFit sent given) (c : CapabilityFlags) where
  abbrev Parts : ComChangeUserMoreData → Type 0
  Parts = MoreFieldsFit G AreShort c

  abbrev Fits : ComChangeUserMoreData → Type 0
  Fits p = (change.character_set p < 2 ^ 16) × MoreFieldsFit G AttributesFit c p

  data-fit : (p : ComChangeUserMoreData) → IsWhole p → Parts p → Fits p
  data-fit p whole h = (whole.width, record { auth_plugin = h.auth_plugin; connect_attributes = fit (change.sends_attributes c) (change.connect_attributes p) whole.once h.connect_attributes })

  more-fit : (more : Option ComChangeUserMoreData) (rest : List ℕ) → ((given : ComChangeUserMoreData) → more ≡ Some given → IsWhole given) → MoreFits Parts more rest → MoreFits Fits more rest
  more-fit None rest whole h = h
  more-fit (Some given) rest whole h = data-fit given (whole given refl) h

  change-fit : (p : ComChangeUser) (rest : List ℕ) → ((given : ComChangeUserMoreData) → change.more_data_in p ≡ Some given → IsWhole given) → ChangeFits Parts p rest → ChangeFits Fits p rest
  change-fit p rest whole h = record {
    user = h.user;
    auth_plugin_data = h.auth_plugin_data;
    database = h.database;
    more_data = more-fit (change.more_data_in p) rest whole h.more_data;
  }

pub more_data-spelled : (c : CapabilityFlags) (p : ComChangeUserMoreData) (rest : List ℕ) → change.character_set p < 2 ^ 16 → Once (change.connect_attributes p) → MoreDataPartsFit c p
    → (more_data.form c).Spells p (more_data.bytes p ++ rest) rest
more_data-spelled c p rest width once h = more_data.again c p rest (more_data-fits c p rest (data-fit GivenFits given-full c p (record { width = width; once = once }) h))

pub session_data-spelled : (c : CapabilityFlags) (p : ComChangeUserMoreData) (rest : List ℕ) → change.character_set p < 2 ^ 16 → Once (change.connect_attributes p) → SessionMoreDataPartsFit c p
    → (more_data.form c).Spells p ((session_more_data c).bytes p ++ rest) rest
session_data-spelled c p rest width once h = session_data-again c p rest (data-fit PartFits given-fit c p (record { width = width; once = once }) h)

module _ (c : CapabilityFlags) (p : ComChangeUser) (rest : List ℕ) (width : (given : ComChangeUserMoreData) → change.more_data_in p ≡ Some given → change.character_set given < 2 ^ 16)
    (once : (given : ComChangeUserMoreData) (pairs : List Attribute) → change.more_data_in p ≡ Some given → change.connect_attributes given ≡ Some pairs → merged pairs ≡ pairs) where
  whole : (given : ComChangeUserMoreData) → change.more_data_in p ≡ Some given → IsWhole given
  whole given e = record { width = width given e; once = λ pairs there. once given pairs e there }

  pub change-spelled : ChangeUserPartsFit c p rest → (change_user.form c).Spells p (change_user.bytes p ++ rest) rest
  change-spelled h = change_user.again c p rest (change-fits c p rest (change-fit GivenFits given-full c p rest whole h))

  pub session_change-spelled : SessionChangeUserPartsFit c p rest → (change_user.form c).Spells p ((session_change_user c).bytes p ++ rest) rest
  session_change-spelled h = session_change-again c p rest (change-fit PartFits given-fit c p rest whole h)

pub ruleset values_fit = (handshake-spelled, response-spelled, more_data-spelled, session_data-spelled, change-spelled, session_change-spelled)
