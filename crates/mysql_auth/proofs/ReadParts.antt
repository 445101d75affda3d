-- The parts of what was read: null-terminated texts have no zero, and a plugin is the one with its name.
use Rattle.std.proofs.Common.{◌≡◌, ℕ, zero, suc, ◌-◌, ◌<◌, ◌==◌, nat_lt, nat_eq, List, [], ◌∷◌, length, get_or, codes, Option, Bool, true, false, if◌then◌else◌, refl, sym, subst, ap, ◌∙◌, arith}
use Rattle.std.proofs.lemmas.Bool.{ne_eqb, and_right}
use Rattle.std.specs.Cmp.Lexicographic.{pointwise}
use Rattle.mysql_wire.proofs.Same.{bytes-same}
use Rattle.mysql_wire.specs.Form.{Form, either, all_left, when}
use Rattle.mysql_wire.specs.Null.{HasNoZero, null_string}
use Rattle.mysql_auth.specs.AuthPlugin.{plugin_name, plugin_named, plugin_of}
use Rattle.mysql_auth.specs.HandshakeResponse.{PartFits}
use Rattle.mysql_auth.specs.PluginName.{PluginFits, has_zero, plugin_null, plugin_null_or_eof}
use Rattle.mysql_auth.specs.EofName.{ends_in_zero, without_last_zero}
use Rattle.mysql_auth.specs.declared.auth_plugin.AuthPlugin.{AuthPlugin}

-- ---- texts without a zero

pub null-no_zero : (content bytes rest : List ℕ) → null_string.Spells content bytes rest → HasNoZero content
unfolding null_string
null-no_zero content bytes rest s = s.0

not-there : (bytes : List ℕ) → has_zero bytes ≡ false → HasNoZero bytes
not-there [] h = tt
not-there (zero ∷ bytes) h = absurd cc
not-there (suc b ∷ bytes) h = not-there bytes h

either-no_zero : (there : Bool) (content bytes rest : List ℕ) → has_zero bytes ≡ there → (either there null_string all_left).Spells content bytes rest → HasNoZero content
either-no_zero true content bytes rest e s = null-no_zero content bytes rest s
either-no_zero false content bytes rest e s = subst HasNoZero s.0 (not-there bytes e)

other-than-zero : (bytes : List ℕ) (k : ℕ) → k < length bytes → HasNoZero bytes → (get_or bytes k 0 == 0) ≡ false
other-than-zero [] k lt h = absurd (omega (arith, lt))
other-than-zero (zero ∷ bytes) k lt h = absurd h
other-than-zero (suc b ∷ bytes) zero lt h = ne_eqb (suc b) 0 (λ e. cc)
other-than-zero (suc b ∷ bytes) (suc k) lt h = other-than-zero bytes k (omega (arith, lt)) h

stays : (bytes : List ℕ) → HasNoZero bytes → without_last_zero bytes ≡ bytes
stays [] h = refl
stays (b ∷ bytes) h =
    let last : (get_or (b ∷ bytes) (length (b ∷ bytes) - 1) 0 == 0) ≡ false = other-than-zero (b ∷ bytes) (length (b ∷ bytes) - 1) (omega arith) h in
    let no : ends_in_zero (b ∷ bytes) ≡ false = and_right (nat_lt 0 (length (b ∷ bytes))) _ last in
    rw no refl

-- ---- plugins

step : (name known : List ℕ) (one other : AuthPlugin) → plugin_name one ≡ known → plugin_name other ≡ name → plugin_name (if pointwise nat_eq name known then one else other) ≡ name
step name known one other h k = by (pointwise nat_eq name known) refl
  where
    by : (t : Bool) → pointwise nat_eq name known ≡ t → plugin_name (if t then one else other) ≡ name
    by true e = h ∙ sym ((bytes-same name known).0 e)
    by false e = k

name-kept : (name : List ℕ) → plugin_name (plugin_named name) ≡ name
unfolding plugin_named
name-kept name =
    step name (codes "caching_sha2_password") _ _ refl
    (step name (codes "mysql_native_password") _ _ refl (step name (codes "mysql_old_password") _ _ refl
    (step name (codes "mysql_clear_password") _ _ refl (step name (codes "client_ed25519") _ _ refl (step name (codes "parsec") _ _ refl refl)))))

-- a name without a zero is the name of its plugin
pub name-told : (content : List ℕ) → HasNoZero content → plugin_name (plugin_of content) ≡ content
name-told content h = ap (λ (x : List ℕ). plugin_name (plugin_named x)) (stays content h) ∙ name-kept content

-- the plugin with a name without a zero
plugin-fits : (content : List ℕ) (p : AuthPlugin) → HasNoZero content → plugin_of content ≡ p → PluginFits p
plugin-fits content p h e =
    let name : plugin_name p ≡ content = ap plugin_name (sym e) ∙ name-told content h in
    record { no_zero = subst HasNoZero (sym name) h; named = ap plugin_of name ∙ e }

pub to-zero-fits : (p : AuthPlugin) (bytes rest : List ℕ) → (plugin_null.form tt).Spells p bytes rest → PluginFits p
unfolding plugin_null
to-zero-fits p bytes rest s = plugin-fits s.0 p (null-no_zero s.0 bytes rest s.2) s.1

pub to-zero-or-end-fits : (p : AuthPlugin) (bytes rest : List ℕ) → (plugin_null_or_eof.form tt).Spells p bytes rest → PluginFits p
unfolding plugin_null_or_eof
to-zero-or-end-fits p bytes rest s = plugin-fits s.0 p (either-no_zero (has_zero bytes) s.0 bytes rest refl s.2) s.1

-- ---- a part that is present if it is sent

pub read-part : {A : Type 0} (f : Form A) (Fits : A → Type 0) → ((a : A) (bytes rest : List ℕ) → f.Spells a bytes rest → Fits a)
    → (sent : Bool) (part : Option A) (bytes rest : List ℕ) → (when sent f).Spells part bytes rest → PartFits Fits sent part
read-part f Fits enough true part bytes rest s = subst (λ (o : Option _). PartFits Fits true o) s.1 (refl, enough s.0 bytes rest s.2)
read-part f Fits enough false part bytes rest s = subst (λ (o : Option _). PartFits Fits false o) (sym s.0) refl
