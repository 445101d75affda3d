-- A change of user ends in its optional fields, and these end in the attributes.
use Rattle.std.proofs.Common.{◌≡◌, ℕ, List, Ok, Option, Some, Bool, true, false, refl, sym, ap, ◌∙◌}
use Rattle.mysql_wire.specs.declared.fault.FaultOf.{FaultOf}
use Rattle.mysql_wire.specs.CountedBytes.{u8_string}
use Rattle.mysql_wire.specs.Codec.{Codec}
use Rattle.mysql_wire.specs.Codecs.{packet}
use Rattle.mysql_wire.specs.Flags.{CapabilityFlags}
use Rattle.mysql_wire.specs.Int.{le_u16}
use Rattle.mysql_wire.specs.Null.{null_string}
use Rattle.mysql_wire.specs.Reading.{Reading, Faults, then_read}
use Rattle.mysql_wire.specs.Seq.{counts_any}
use Rattle.mysql_auth.specs.Attributes.{Attribute, merged}
use Rattle.mysql_auth.specs.AttributeBytes.{in_change_user, in_last_part, in_more_data, sent_room}
use Rattle.std.specs.Option.{option_map}
use Rattle.mysql_wire.specs.CodecFits.{is_there}
use Rattle.mysql_wire.specs.Form.{when}
use Rattle.mysql_auth.specs.ComChangeUser.{change_user, change_user_as_sent, change_user_fields, last_part, last_part_as_sent, more_data, more_data_as_sent, more_data_fields, more_with_each_key_once, named_plugin, pairs_as_sent, sends_attributes, sent_attributes, with_connect_attributes, with_each_key_once, with_more_data}
use Rattle.mysql_auth.specs.ComChangeUserRef.{before_attributes, before_more_data, change_header}
use Rattle.mysql_auth.specs.declared.com_change_user.ComChangeUser.{ComChangeUser}
use Rattle.mysql_auth.specs.declared.com_change_user_more_data.ComChangeUserMoreData.{ComChangeUserMoreData}
use Rattle.mysql_auth.proofs.EachKeyOnce.{made, after-front, last-put, given-once}
use Rattle.mysql_auth.proofs.LastPart.{step, front-fault, last-fault}

-- ---- more data, whose attributes are read so

module _ (given : Codec CapabilityFlags (Option (List Attribute))) (c : CapabilityFlags) where
  abbrev data_of : Codec CapabilityFlags ComChangeUserMoreData
  data_of = packet (more_data_fields named_plugin given) (λ p. refl)

  abbrev attributes_after : ComChangeUserMoreData → List ℕ → Reading ComChangeUserMoreData
  attributes_after p mid = made (λ found. with_connect_attributes found p) ((given.form c).reads mid)

  data-parts : (bytes : List ℕ) → (data_of.form c).reads bytes ≡ then_read ((before_attributes c).reads bytes) attributes_after
  data-parts bytes =
      step (le_u16.reads bytes) _ attributes_after _ (λ number b1.
      step ((named_plugin.form c).reads b1) _ attributes_after _ (λ named b2. refl))

  pub data-read : (p : ComChangeUserMoreData) (found : Option (List Attribute)) (bytes mid rest : List ℕ) → (before_attributes c).reads bytes ≡ Ok (p, mid)
      → (given.form c).reads mid ≡ Ok (found, rest) → (data_of.form c).reads bytes ≡ Ok (with_connect_attributes found p, rest)
  data-read p found bytes mid rest e h = data-parts bytes ∙ rw (e, h) refl

  pub data-front_fault : (takes_memory : Bool) (e : FaultOf) (bytes : List ℕ) → Faults false e ((before_attributes c).reads bytes) → Faults takes_memory e ((data_of.form c).reads bytes)
  data-front_fault takes_memory e bytes h = rw (data-parts bytes) (front-fault takes_memory e ((before_attributes c).reads bytes) attributes_after h)

  pub data-last_fault : (takes_memory : Bool) (e : FaultOf) (p : ComChangeUserMoreData) (bytes mid : List ℕ) → (before_attributes c).reads bytes ≡ Ok (p, mid)
      → Faults takes_memory e ((given.form c).reads mid) → Faults takes_memory e ((data_of.form c).reads bytes)
  data-last_fault takes_memory e p bytes mid same h = rw (data-parts bytes, same) (last-fault takes_memory e ((given.form c).reads mid) _ h)

module _ (c : CapabilityFlags) where
  pub more-attributes_fault : (e : FaultOf) (p : ComChangeUserMoreData) (bytes mid : List ℕ) → (before_attributes c).reads bytes ≡ Ok (p, mid)
      → Faults (counts_any ((sent_room (sends_attributes c)).reads mid)) e ((sent_attributes.form c).reads mid)
      → Faults (counts_any ((in_more_data c).reads bytes)) e ((more_data.form c).reads bytes)
  unfolding more_data
  more-attributes_fault e p bytes mid same h = rw same (data-last_fault sent_attributes c (counts_any ((sent_room (sends_attributes c)).reads mid)) e p bytes mid same h)

  -- both agree, except for repeated keys
  attributes-once : (mid : List ℕ) → made (option_map merged) ((pairs_as_sent.form c).reads mid) ≡ (sent_attributes.form c).reads mid
  unfolding pairs_as_sent sent_attributes
  attributes-once mid = given-once (sends_attributes c) mid

  after-once : (p : ComChangeUserMoreData) (mid : List ℕ) → made more_with_each_key_once (attributes_after pairs_as_sent c p mid) ≡ attributes_after sent_attributes c p mid
  after-once p mid =
      last-put (option_map merged) more_with_each_key_once (λ found. with_connect_attributes found p) ((pairs_as_sent.form c).reads mid) (λ found. refl)
      ∙ ap (λ (read : Reading (Option (List Attribute))). made (λ found. with_connect_attributes found p) read) (attributes-once mid)

  pub more_data-once : (bytes : List ℕ) → made more_with_each_key_once ((more_data_as_sent.form c).reads bytes) ≡ (more_data.form c).reads bytes
  unfolding more_data more_data_as_sent
  more_data-once bytes =
      ap (λ (read : Reading ComChangeUserMoreData). made more_with_each_key_once read) (data-parts pairs_as_sent c bytes)
      ∙ after-front more_with_each_key_once ((before_attributes c).reads bytes) _ _ after-once
      ∙ sym (data-parts sent_attributes c bytes)

pub ruleset more_data_parts = (data-read, data-front_fault, data-last_fault)

pub ruleset more_data_read = (data-read, data-front_fault, more-attributes_fault)

-- ---- the change of user, whose more data is read so

module _ (last : Codec CapabilityFlags (Option ComChangeUserMoreData)) (c : CapabilityFlags) where
  abbrev whole_of : Codec CapabilityFlags ComChangeUser
  whole_of = packet (change_user_fields last) (λ p. refl)

  abbrev more_after : ComChangeUser → List ℕ → Reading ComChangeUser
  more_after p mid = made (λ more. with_more_data more p) ((last.form c).reads mid)

  whole-parts : (bytes : List ℕ) → (whole_of.form c).reads bytes ≡ then_read (before_more_data.reads bytes) more_after
  whole-parts bytes =
      step (change_header.reads bytes) _ more_after _ (λ header b1.
      step (null_string.reads b1) _ more_after _ (λ user b2.
      step (u8_string.reads b2) _ more_after _ (λ answer b3.
      step (null_string.reads b3) _ more_after _ (λ database b4. refl))))

  pub whole-read : (p : ComChangeUser) (more : Option ComChangeUserMoreData) (bytes mid rest : List ℕ) → before_more_data.reads bytes ≡ Ok (p, mid)
      → (last.form c).reads mid ≡ Ok (more, rest) → (whole_of.form c).reads bytes ≡ Ok (with_more_data more p, rest)
  whole-read p more bytes mid rest e h = whole-parts bytes ∙ rw (e, h) refl

  pub whole-front_fault : (takes_memory : Bool) (e : FaultOf) (bytes : List ℕ) → Faults false e (before_more_data.reads bytes) → Faults takes_memory e ((whole_of.form c).reads bytes)
  whole-front_fault takes_memory e bytes h = rw (whole-parts bytes) (front-fault takes_memory e (before_more_data.reads bytes) more_after h)

  pub whole-last_fault : (takes_memory : Bool) (e : FaultOf) (p : ComChangeUser) (bytes mid : List ℕ) → before_more_data.reads bytes ≡ Ok (p, mid)
      → Faults takes_memory e ((last.form c).reads mid) → Faults takes_memory e ((whole_of.form c).reads bytes)
  whole-last_fault takes_memory e p bytes mid same h = rw (whole-parts bytes, same) (last-fault takes_memory e ((last.form c).reads mid) _ h)

module _ (c : CapabilityFlags) where
  pub change-more_fault : (e : FaultOf) (p : ComChangeUser) (bytes mid : List ℕ) → before_more_data.reads bytes ≡ Ok (p, mid)
      → Faults (counts_any ((in_last_part c).reads mid)) e ((last_part.form c).reads mid)
      → Faults (counts_any ((in_change_user c).reads bytes)) e ((change_user.form c).reads bytes)
  unfolding change_user
  change-more_fault e p bytes mid same h = rw same (whole-last_fault last_part c (counts_any ((in_last_part c).reads mid)) e p bytes mid same h)

  -- both agree, except for repeated keys
  there-once : (there : Bool) (mid : List ℕ) → made (option_map more_with_each_key_once) ((when there (more_data_as_sent.form c)).reads mid) ≡ (when there (more_data.form c)).reads mid
  there-once true mid =
      last-put more_with_each_key_once (option_map more_with_each_key_once) Some ((more_data_as_sent.form c).reads mid) (λ more. refl)
      ∙ ap (λ (read : Reading ComChangeUserMoreData). made Some read) (more_data-once c mid)
  there-once false mid = refl

  last-once : (mid : List ℕ) → made (option_map more_with_each_key_once) ((last_part_as_sent.form c).reads mid) ≡ (last_part.form c).reads mid
  unfolding last_part last_part_as_sent
  last-once mid = there-once (is_there mid) mid

  whole-once : (p : ComChangeUser) (mid : List ℕ) → made with_each_key_once (more_after last_part_as_sent c p mid) ≡ more_after last_part c p mid
  whole-once p mid =
      last-put (option_map more_with_each_key_once) with_each_key_once (λ more. with_more_data more p) ((last_part_as_sent.form c).reads mid) (λ more. refl)
      ∙ ap (λ (read : Reading (Option ComChangeUserMoreData)). made (λ more. with_more_data more p) read) (last-once mid)

  pub change_user-once : (bytes : List ℕ) → made with_each_key_once ((change_user_as_sent.form c).reads bytes) ≡ (change_user.form c).reads bytes
  unfolding change_user change_user_as_sent
  change_user-once bytes =
      ap (λ (read : Reading ComChangeUser). made with_each_key_once read) (whole-parts last_part_as_sent c bytes)
      ∙ after-front with_each_key_once (before_more_data.reads bytes) _ _ whole-once
      ∙ sym (whole-parts last_part c bytes)

pub ruleset change_parts = (whole-read, whole-front_fault, whole-last_fault)

pub ruleset changes_read = (whole-read, whole-front_fault, change-more_fault)

pub ruleset changes_once = (more_data-once, change_user-once)
