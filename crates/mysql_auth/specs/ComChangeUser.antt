-- The change of a session's user.
use Rattle.std.specs.Prelude.{◌≡◌, ℕ, ◌<◌, ◌^◌, List, [], ◌++◌, length, Option, Some, None, IfSome, Bool, true, false, if◌then◌else◌, refl}
use Rattle.mysql_wire.specs.Codec.{Codec, Fields}
use Rattle.mysql_wire.specs.CodecAgain.{some-then, option-again}
use Rattle.mysql_wire.specs.CodecFits.{option_fits}
use Rattle.mysql_wire.specs.Codecs.{◌>>=◌, give, field, packet, when, without_context, if_bytes_left, const_u8, u16, string_null, string_u8}
use Rattle.mysql_wire.specs.CommandCodes.{COM_CHANGE_USER}
use Rattle.mysql_wire.specs.FlagMasks.{CLIENT_PLUGIN_AUTH, CLIENT_CONNECT_ATTRS}
use Rattle.mysql_wire.specs.Flags.{CapabilityFlags, has}
use Rattle.mysql_wire.specs.Form as form
use Rattle.mysql_wire.specs.Int.{raw_int}
use Rattle.mysql_wire.specs.Null.{HasNoZero}
use Rattle.std.specs.Option.{option_map, option_map_or, unwrap_or}
use Rattle.std.proofs.Common.{arith}
use Rattle.mysql_auth.specs.Attributes.{Attribute, AreShort, AreShortIn, AttributesFit, attributes, attributes_as_sent, merged}
use Rattle.mysql_auth.specs.AuthPlugin.{kept_name, plugin_of}
use Rattle.mysql_auth.specs.HandshakeResponse.{PartFits}
use Rattle.mysql_auth.specs.PluginName.{PluginFits, plugin_null}
use Rattle.mysql_auth.specs.declared.auth_plugin.AuthPlugin.{AuthPlugin}
use Rattle.mysql_auth.specs.declared.com_change_user.ComChangeUser.{ComChangeUser}
use Rattle.mysql_auth.specs.declared.com_change_user_more_data.ComChangeUserMoreData.{ComChangeUserMoreData}

abbrev pub sends_plugin : CapabilityFlags → Bool
sends_plugin capabilities = has capabilities.0 CLIENT_PLUGIN_AUTH

abbrev pub sends_attributes : CapabilityFlags → Bool
sends_attributes capabilities = has capabilities.0 CLIENT_CONNECT_ATTRS

-- ---- more data: values

abbrev pub character_set : ComChangeUserMoreData → ℕ
character_set p = p.character_set.0

abbrev pub auth_plugin : ComChangeUserMoreData → Option AuthPlugin
auth_plugin p = p.auth_plugin

abbrev pub connect_attributes : ComChangeUserMoreData → Option (List Attribute)
connect_attributes p = p.connect_attributes

-- it stores neither a plugin name nor attributes: no bytes
abbrev pub HasNoTexts : ComChangeUserMoreData → Type 0
HasNoTexts p = (option_map_or kept_name (auth_plugin p) [] ≡ []) × (unwrap_or (connect_attributes p) [] ≡ [])

abbrev pub with_auth_plugin : Option AuthPlugin → ComChangeUserMoreData → ComChangeUserMoreData
with_auth_plugin plugin p = record p { auth_plugin = plugin }

abbrev pub with_connect_attributes : Option (List Attribute) → ComChangeUserMoreData → ComChangeUserMoreData
with_connect_attributes given p = record p { connect_attributes = given }

-- more data with each key once among its attributes, at its first place and with its last value
abbrev pub more_with_each_key_once : ComChangeUserMoreData → ComChangeUserMoreData
more_with_each_key_once p = with_connect_attributes (option_map merged (connect_attributes p)) p

-- more data with these fields
abbrev pub more_data_of : ℕ → Option AuthPlugin → Option (List Attribute) → ComChangeUserMoreData
more_data_of number plugin given = record { character_set = raw_int number; auth_plugin = plugin; connect_attributes = given }

-- ---- more data: layout

-- the plugin name, terminated by a zero, under CLIENT_PLUGIN_AUTH
unfoldable pub named_plugin : Codec CapabilityFlags (Option AuthPlugin)
named_plugin = when sends_plugin (without_context plugin_null)

-- a part that is written exactly if it is requested; a missing one as this default
abbrev pub asked_bytes : {A : Type 0} → (asked : Bool) (other : A) → (A → List ℕ) → Option A → List ℕ
asked_bytes asked other of_part given = if asked then of_part (unwrap_or given other) else []

-- it is present, and the flag allows it
abbrev pub GivenFits : {A : Type 0} → (A → Type 0) → (sent : Bool) → Option A → Type 0
GivenFits Fits sent None = ⊥
GivenFits Fits sent (Some part) = (sent ≡ true) × Fits part

pub always-again : (sent : Bool) (given : Option (List Attribute)) (rest : List ℕ) → GivenFits AttributesFit sent given
    → (form.when sent (attributes.form tt)).Spells given (asked_bytes true [] attributes.bytes given ++ rest) rest
unfolding attributes
always-again sent None rest h = absurd h
always-again sent (Some pairs) rest h = option-again attributes sent tt (Some pairs) rest h

-- The attributes, under CLIENT_CONNECT_ATTRS. A writer doesn't know the flags: it always writes them, as an empty list if they are missing.
unfoldable pub sent_attributes : Codec CapabilityFlags (Option (List Attribute))
sent_attributes = record {
  form = λ c. form.when (sends_attributes c) (attributes.form tt);
  bytes = asked_bytes true [] attributes.bytes;
  len = λ given. length (asked_bytes true [] attributes.bytes given);
  fits = λ c given rest. GivenFits AttributesFit (sends_attributes c) given;
  exact = λ c given rest h. refl;
  again = λ c given rest h. always-again (sends_attributes c) given rest h;
}

-- the attributes as they were sent: a key may be repeated
unfoldable pub pairs_as_sent : Codec CapabilityFlags (Option (List Attribute))
pairs_as_sent = when sends_attributes (without_context attributes_as_sent)

-- character set, plugin, attributes
abbrev pub more_data_fields : {C : Type 0} → Codec C (Option AuthPlugin) → Codec C (Option (List Attribute)) → Fields C ComChangeUserMoreData ComChangeUserMoreData
more_data_fields named given = do
  character_set ← field (λ p. p.character_set) u16
  auth_plugin ← field auth_plugin named
  connect_attributes ← field connect_attributes given
  give (record { character_set = character_set; auth_plugin = auth_plugin; connect_attributes = connect_attributes })

unfoldable pub more_data : Codec CapabilityFlags ComChangeUserMoreData
more_data = packet (more_data_fields named_plugin sent_attributes) (λ p. refl)

-- more data as it was sent: a key may be repeated among its attributes
unfoldable pub more_data_as_sent : Codec CapabilityFlags ComChangeUserMoreData
more_data_as_sent = packet (more_data_fields named_plugin pairs_as_sent) (λ p. refl)

pub size-more_data : (capabilities : CapabilityFlags) → (more_data.form capabilities).size ≡ None
unfolding more_data
size-more_data capabilities = refl

pub size-more_data_as_sent : (capabilities : CapabilityFlags) → (more_data_as_sent.form capabilities).size ≡ None
unfolding more_data_as_sent
size-more_data_as_sent capabilities = refl

-- ---- values

abbrev pub user : ComChangeUser → List ℕ
user p = p.user

abbrev pub auth_plugin_data : ComChangeUser → List ℕ
auth_plugin_data p = p.auth_plugin_data

abbrev pub database : ComChangeUser → List ℕ
database p = p.database

abbrev pub more_data_in : ComChangeUser → Option ComChangeUserMoreData
more_data_in p = p.more_data

-- all byte strings are empty, and more data stores no text
abbrev pub HasNoBytes : ComChangeUser → Type 0
HasNoBytes p = (p.user ≡ []) × (p.auth_plugin_data ≡ []) × (p.database ≡ []) × IfSome (more_data_in p) HasNoTexts

-- the packet with these fields
abbrev pub change_of : List ℕ → List ℕ → List ℕ → Option ComChangeUserMoreData → ComChangeUser
change_of user answer database more = record {
  header = record { 0 = record {} };
  user = user;
  auth_plugin_data = answer;
  database = database;
  more_data = more;
}

abbrev pub with_user : List ℕ → ComChangeUser → ComChangeUser
with_user user p = record p { user = user }

abbrev pub with_auth_plugin_data : List ℕ → ComChangeUser → ComChangeUser
with_auth_plugin_data answer p = record p { auth_plugin_data = answer }

abbrev pub with_database : List ℕ → ComChangeUser → ComChangeUser
with_database database p = record p { database = database }

abbrev pub with_more_data : Option ComChangeUserMoreData → ComChangeUser → ComChangeUser
with_more_data more p = record p { more_data = more }

-- the change with each key once among its attributes, at its first place and with its last value
abbrev pub with_each_key_once : ComChangeUser → ComChangeUser
with_each_key_once p = with_more_data (option_map more_with_each_key_once (more_data_in p)) p

-- ---- layout

pub some-more_data : (p : ComChangeUserMoreData) → 0 < more_data.len p
unfolding more_data
some-more_data p = some-then _ (omega arith)

-- more data, if bytes are left
unfoldable pub last_part : Codec CapabilityFlags (Option ComChangeUserMoreData)
last_part = if_bytes_left more_data some-more_data

pub some-more_data_as_sent : (p : ComChangeUserMoreData) → 0 < more_data_as_sent.len p
unfolding more_data_as_sent
some-more_data_as_sent p = some-then _ (omega arith)

unfoldable pub last_part_as_sent : Codec CapabilityFlags (Option ComChangeUserMoreData)
last_part_as_sent = if_bytes_left more_data_as_sent some-more_data_as_sent

-- 11; the user; the authentication data, after a length of one byte; the database; more data if bytes are left
abbrev pub change_user_fields : {C : Type 0} → Codec C (Option ComChangeUserMoreData) → Fields C ComChangeUser ComChangeUser
change_user_fields last = do
  header ← field (λ p. p.header) (const_u8 COM_CHANGE_USER)
  user ← field user string_null
  auth_plugin_data ← field auth_plugin_data string_u8
  database ← field database string_null
  more_data ← field more_data_in last
  give (record { header = header; user = user; auth_plugin_data = auth_plugin_data; database = database; more_data = more_data })

unfoldable pub change_user : Codec CapabilityFlags ComChangeUser
change_user = packet (change_user_fields last_part) (λ p. refl)

-- the change as it was sent: a key may be repeated among its attributes
unfoldable pub change_user_as_sent : Codec CapabilityFlags ComChangeUser
change_user_as_sent = packet (change_user_fields last_part_as_sent) (λ p. refl)

pub size-change_user : (capabilities : CapabilityFlags) → (change_user.form capabilities).size ≡ None
unfolding change_user
size-change_user capabilities = refl

pub size-change_user_as_sent : (capabilities : CapabilityFlags) → (change_user_as_sent.form capabilities).size ≡ None
unfolding change_user_as_sent
size-change_user_as_sent capabilities = refl

-- ---- in a session: exactly the fields that its flags ask for are written

module _ {A : Type 0} (other : A) (f : Codec (Unit {0}) A) where
  pub asked-again : (sent : Bool) (given : Option A) (rest : List ℕ) → option_fits f sent tt given rest
      → (form.when sent (f.form tt)).Spells given (asked_bytes sent other f.bytes given ++ rest) rest
  asked-again sent None rest h = rw h (refl, refl)
  asked-again sent (Some part) rest h = rw h.0 (part, refl, f.again tt part rest h.1)

-- a part that is present, and is written, exactly if it is requested
abbrev pub asked : {A : Type 0} → (sent : Bool) (other : A) → Codec (Unit {0}) A → Codec (Unit {0}) (Option A)
asked sent other f = record {
  form = λ c. form.when sent (f.form tt);
  bytes = asked_bytes sent other f.bytes;
  len = λ given. length (asked_bytes sent other f.bytes given);
  fits = λ c given rest. option_fits f sent tt given rest;
  exact = λ c given rest h. refl;
  again = λ c given rest h. asked-again other f sent given rest h;
}

-- a missing plugin is written as an empty name, and missing attributes as an empty list
unfoldable pub session_more_data : CapabilityFlags → Codec (Unit {0}) ComChangeUserMoreData
session_more_data capabilities =
    packet (more_data_fields (asked (sends_plugin capabilities) (plugin_of []) plugin_null) (asked (sends_attributes capabilities) [] attributes)) (λ p. refl)

pub some-session_more_data : (capabilities : CapabilityFlags) (p : ComChangeUserMoreData) → 0 < (session_more_data capabilities).len p
unfolding session_more_data
some-session_more_data capabilities p = some-then _ (omega arith)

unfoldable pub session_last_part : CapabilityFlags → Codec (Unit {0}) (Option ComChangeUserMoreData)
session_last_part capabilities = if_bytes_left (session_more_data capabilities) (some-session_more_data capabilities)

unfoldable pub session_change_user : CapabilityFlags → Codec (Unit {0}) ComChangeUser
session_change_user capabilities = packet (change_user_fields (session_last_part capabilities)) (λ p. refl)

-- ---- when these are read back, in plain words

-- the plugin is named exactly under its flag, and its name identifies it
abbrev pub NamedFits : Bool → Option AuthPlugin → Type 0
NamedFits sent None = sent ≡ false
NamedFits sent (Some p) = (sent ≡ true) × PluginFits p

-- Plugin and attributes under the flags. `Given` says when attributes are present: always, as `change_user` writes them (`GivenFits`), or
-- exactly under their flag, as in a session (`PartFits`).
pub record MoreFieldsFit (Given : (List Attribute → Type 0) → Bool → Option (List Attribute) → Type 0) (Fits : List Attribute → Type 0) (capabilities : CapabilityFlags) (p : ComChangeUserMoreData) : Type 0 where
  pub auth_plugin : NamedFits (sends_plugin capabilities) (auth_plugin p)
  pub connect_attributes : Given Fits (sends_attributes capabilities) (connect_attributes p)

-- what remains to be shown for given more data
abbrev pub MoreDataPartsFit : CapabilityFlags → ComChangeUserMoreData → Type 0
MoreDataPartsFit = MoreFieldsFit GivenFits AreShort

abbrev pub SessionMoreDataPartsFit : CapabilityFlags → ComChangeUserMoreData → Type 0
SessionMoreDataPartsFit = MoreFieldsFit PartFits AreShort

abbrev pub MoreDataFits : CapabilityFlags → ComChangeUserMoreData → Type 0
MoreDataFits capabilities p = (character_set p < 2 ^ 16) × MoreFieldsFit GivenFits AttributesFit capabilities p

abbrev pub SessionMoreDataFits : CapabilityFlags → ComChangeUserMoreData → Type 0
SessionMoreDataFits capabilities p = (character_set p < 2 ^ 16) × MoreFieldsFit PartFits AttributesFit capabilities p

-- if more data is missing, nothing follows
abbrev pub MoreFits : (ComChangeUserMoreData → Type 0) → Option ComChangeUserMoreData → List ℕ → Type 0
MoreFits Fits None rest = rest ≡ []
MoreFits Fits (Some p) rest = Fits p

-- texts that their forms can encode, and more data that fits
pub record ChangeFits (Fits : ComChangeUserMoreData → Type 0) (p : ComChangeUser) (rest : List ℕ) : Type 0 where
  pub user : HasNoZero (user p)
  pub auth_plugin_data : length (auth_plugin_data p) < 2 ^ 8
  pub database : HasNoZero (database p)
  pub more_data : MoreFits Fits (more_data_in p) rest

abbrev pub ChangeUserFits : CapabilityFlags → ComChangeUser → List ℕ → Type 0
ChangeUserFits capabilities = ChangeFits (MoreDataFits capabilities)

abbrev pub SessionChangeUserFits : CapabilityFlags → ComChangeUser → List ℕ → Type 0
SessionChangeUserFits capabilities = ChangeFits (SessionMoreDataFits capabilities)

-- what remains to be shown for a given change of user
abbrev pub ChangeUserPartsFit : CapabilityFlags → ComChangeUser → List ℕ → Type 0
ChangeUserPartsFit capabilities = ChangeFits (MoreDataPartsFit capabilities)

abbrev pub SessionChangeUserPartsFit : CapabilityFlags → ComChangeUser → List ℕ → Type 0
SessionChangeUserPartsFit capabilities = ChangeFits (SessionMoreDataPartsFit capabilities)

-- what remains to be shown for a change of user that was read
abbrev pub MoreIsShort : Option ComChangeUserMoreData → List ℕ → Type 0
MoreIsShort None rest = rest ≡ []
MoreIsShort (Some p) rest = AreShortIn (connect_attributes p)

pub record ChangeUserIsShort (p : ComChangeUser) (rest : List ℕ) : Type 0 where
  pub auth_plugin_data : length (auth_plugin_data p) < 2 ^ 8
  pub more_data : MoreIsShort (more_data_in p) rest
