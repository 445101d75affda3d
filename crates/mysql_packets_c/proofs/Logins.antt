-- A login and a change of user end with their attributes.
use Rattle.std.proofs.Common.{◌≡◌, ◌≢◌, ◌==◌, ◌&&◌, ℕ, Bool, true, false, not, List, [], ◌∷◌, ◌++◌, Option, Some, None, if◌then◌else◌, append_assoc, refl, subst, sym, ap, ◌∙◌}
use Rattle.std.proofs.lemmas.Bool.{ne_eqb}
use Rattle.std.proofs.lemmas.List.{append-nil}
use Rattle.std.specs.Option.{option_map}
use Rattle.mysql_auth.proofs.ResponseEnds.{response-ends}
use Rattle.mysql_auth.specs.Attributes.{Attribute, attributes}
use Rattle.mysql_auth.specs.ConnectAttributesRef.{ArePairs}
use Rattle.mysql_wire.specs.Many.{many}
use Rattle.mysql_auth.specs.AuthPlugin.{plugin_of}
use Rattle.mysql_auth.specs.PluginName.{plugin_null}
use Rattle.mysql_wire.specs.CountedBytes.{u8_string_bytes}
use Rattle.mysql_wire.specs.Null.{null_bytes}
use Rattle.mysql_wire.specs.Writing.{le_bytes}
use Rattle.mysql_auth.specs.ComChangeUser.{asked_bytes, change_of, more_data_of, session_change_user, session_last_part, session_more_data}
use Rattle.mysql_auth.specs.declared.com_change_user.ComChangeUser.{ComChangeUser}
use Rattle.mysql_auth.specs.HandshakeResponse.{before_attributes, connect_attributes, handshake_response, level_bytes, zstd_level}
use Rattle.mysql_auth.specs.declared.auth_plugin.AuthPlugin.{AuthPlugin}
use Rattle.mysql_auth.specs.declared.com_change_user_more_data.ComChangeUserMoreData.{ComChangeUserMoreData}
use Rattle.mysql_auth.specs.declared.handshake_response.HandshakeResponse.{HandshakeResponse}
use Rattle.mysql_wire.specs.FlagMasks.{CLIENT_CONNECT_ATTRS, CLIENT_PLUGIN_AUTH}
use Rattle.mysql_wire.specs.Int.{raw_int}
use Rattle.mysql_wire.specs.declared.int.RawInt.{RawInt}
use Rattle.mysql_wire.specs.Flags.{CapabilityFlags, has}
use Rattle.mysql_packets_c.specs.Attributes.{merged_pairs}
use Rattle.mysql_packets_c.specs.ChangeUser.{change_with, named_plugin, sends_attributes, change_of as sent_change}
use Rattle.mysql_packets_c.specs.Given.{if_set, is_set}
use Rattle.mysql_packets_c.specs.Login.{with_attributes}
use Rattle.mysql_packets_c.specs.declared.attributes.CAttribute.{CAttribute}
use Rattle.mysql_packets_c.specs.declared.change_user.CChangeUser.{CChangeUser}
use Rattle.mysql_packets_c.specs.declared.login.CLogin.{CLogin}

-- the bytes that a session writes
abbrev session : CapabilityFlags → ComChangeUser → List ℕ
session flags p = (session_change_user flags).bytes p

joined : (h u a d c n p : List ℕ) → (h ++ (u ++ (a ++ (d ++ ((c ++ (n ++ ([] ++ []))) ++ []))))) ++ (p ++ []) ≡ h ++ (u ++ (a ++ (d ++ ((c ++ (n ++ (p ++ []))) ++ []))))
joined h u a d c n p = simp (append-nil, append_assoc)

-- What follows the schema ends with the attributes. The other flags are those of a session without attributes.
more-ends : (flags others : CapabilityFlags) (user auth database : List ℕ) (set : ℕ) (plugin : Option AuthPlugin) (pairs : List Attribute) → has others.0 CLIENT_PLUGIN_AUTH ≡ has flags.0 CLIENT_PLUGIN_AUTH
    → has others.0 CLIENT_CONNECT_ATTRS ≡ false → has flags.0 CLIENT_CONNECT_ATTRS ≡ true
    → session others (change_of user auth database (Some (more_data_of set plugin None))) ++ (attributes.bytes pairs ++ []) ≡ session flags (change_of user auth database (Some (more_data_of set plugin (Some pairs))))
unfolding session_change_user session_last_part session_more_data
more-ends flags others user auth database set plugin pairs named none sent =
    rw (named, none, sent)
    (joined (17 ∷ []) (null_bytes user) (u8_string_bytes auth) (null_bytes database) (le_bytes 2 set) (asked_bytes (has flags.0 CLIENT_PLUGIN_AUTH) (plugin_of []) plugin_null.bytes plugin) (attributes.bytes pairs))

-- attributes are sent after a character set
has-set : (none has : Bool) → not none && has ≡ true → (none ≡ false) × (has ≡ true)
has-set false has h = (refl, h)
has-set true has h = absurd cc

module _ (n : ℕ) (others : CapabilityFlags) (named : has others.0 CLIENT_PLUGIN_AUTH ≡ has n CLIENT_PLUGIN_AUTH) (none : has others.0 CLIENT_CONNECT_ATTRS ≡ false) (c : CChangeUser) where
  abbrev flags : CapabilityFlags
  flags = record { 0 = n; 1 = record {} }

  ends : (pairs : List Attribute) → sends_attributes n c ≡ true
      → session others (change_with n c None) ++ (attributes.bytes pairs ++ []) ≡ session flags (change_with n c (Some pairs))
  ends pairs sent =
      let more : Option (List Attribute) → ComChangeUserMoreData = more_data_of c.character_set (named_plugin n c) in
      let change : Bool → Option (List Attribute) → ComChangeUser = λ none given. change_of c.user.now c.auth_response.now c.database.now (if none then None else Some (more given)) in
      let there = has-set (c.has_character_set == 0) (has n CLIENT_CONNECT_ATTRS) sent in
      subst (λ (none : Bool). session others (change none None) ++ (attributes.bytes pairs ++ []) ≡ session flags (change none (Some pairs))) (sym there.0)
      (more-ends flags others c.user.now c.auth_response.now c.database.now c.character_set (named_plugin n c) pairs named none there.1)

  pub change-ends : (given : List CAttribute) → sends_attributes n c ≡ true
      → session others (change_with n c None) ++ (attributes.bytes (merged_pairs given) ++ []) ≡ session flags (sent_change n given c)
  change-ends given sent = ends (merged_pairs given) sent ∙ ap (λ (b : Bool). session flags (change_with n c (if b then Some (merged_pairs given) else None))) (sym sent)

pub change-without : (n : ℕ) (c : CChangeUser) (given : List CAttribute) → sends_attributes n c ≡ false → sent_change n given c ≡ change_with n c None
change-without n c given none = ap (λ (b : Bool). change_with n c (if b then Some (merged_pairs given) else None)) none

pub ruleset changes = (change-ends, change-without)

-- a number that is present
set-is : (n : ℕ) → n ≢ 0 → is_set n ≡ true
set-is n some = ap not (ne_eqb n 0 some)

-- a level that is the same number is the same
same_level : (a b : Option (RawInt ℕ ℕ)) → option_map (λ n. n.0) a ≡ option_map (λ n. n.0) b → a ≡ b
same_level None None e = refl
same_level None (Some n) e = absurd cc
same_level (Some m) None e = absurd cc
same_level (Some m) (Some n) e = let h : m.0 ≡ n.0 = cc in ap (λ (k : ℕ). Some (record { 0 = k; 1 = record {} })) h

pub login-ends : (c : CLogin) (given : List CAttribute) (p : HandshakeResponse) (level : Option (RawInt ℕ ℕ)) → c.has_attributes ≢ 0 → option_map (λ n. n.0) level ≡ zstd_level p
    → before_attributes p ++ (attributes.bytes (merged_pairs given) ++ (level_bytes level ++ [])) ≡ handshake_response.bytes (with_attributes c given p)
login-ends c given p level some is =
    let pairs = merged_pairs given in
    ap (λ (l : List ℕ). before_attributes p ++ (attributes.bytes pairs ++ l)) (append-nil (level_bytes level) ∙ ap level_bytes (same_level level p.zstd_level is)) ∙ sym (response-ends p pairs)
    ∙ ap (λ (b : Bool). handshake_response.bytes (record p { connect_attributes = if b then Some pairs else None })) (sym (set-is c.has_attributes some))

pub login-without : (c : CLogin) (given : List CAttribute) (p : HandshakeResponse) → c.has_attributes ≡ 0 → connect_attributes p ≡ if_set c.has_attributes []
    → with_attributes c given p ≡ p
login-without c given p none is =
    let empty : connect_attributes p ≡ None = is ∙ ap (λ (n : ℕ). if_set n []) none in
    ap (λ (a : Option (List Attribute)). record p { connect_attributes = a }) (ap (λ (n : ℕ). if_set n (merged_pairs given)) none ∙ sym empty)

-- a level that is present is that number
pub level-held : (level : Option ℕ) → option_map (λ (n : RawInt ℕ ℕ). n.0) (option_map raw_int level) ≡ level
level-held None = refl
level-held (Some n) = refl

-- no bytes are no pairs
pub no-pairs : (bytes : List ℕ) → bytes ≡ [] → ArePairs bytes
unfolding many
no-pairs bytes none = rw none refl

pub ruleset pairs = (no-pairs)

pub ruleset logins = (login-ends, login-without)
