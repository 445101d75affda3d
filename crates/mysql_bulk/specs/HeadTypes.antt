-- The column types of a bulk request, in its bytes.
use Rattle.std.specs.Prelude.{◌≡◌, ℕ, ◌*◌, ◌++◌, ◌<◌, ◌^◌, Bool, true, false, List, [], ◌∷◌, length, refl}
use Rattle.std.specs.List.{All, flat_map}
use Rattle.std.proofs.Common.{ap, ◌∙◌, subst, arith, length-append}
use Rattle.std.proofs.lemmas.List.{append-nil}
use Rattle.mysql_wire.specs.Form.{Form, either, give, block}
use Rattle.mysql_wire.specs.ListAgain.{seq-again}
use Rattle.mysql_wire.specs.Seq.{seq}
use Rattle.mysql_wire.specs.Spelling.{IsSpelling, block-again}
use Rattle.mysql_wire.specs.Writing.{le_bytes}
use Rattle.mysql_values.specs.declared.param_type.ParamType.{ParamType}
use Rattle.mysql_values.specs.ParamType.{param_type}

-- two bytes for each type, in a block: missing bytes are an error before any type is checked
abbrev pub types_block : Bool → ℕ → Form (List ParamType)
types_block sent count = either sent (block (2 * count) (seq (give count) (param_type.form tt))) (give [])

abbrev pub types_bytes : List ParamType → List ℕ
types_bytes types = flat_map param_type.bytes types

-- a type for each of this many columns, if they are sent
abbrev pub TypesFor : Bool → ℕ → List ParamType → Type 0
TypesFor true count types = (length types ≡ count) × All (λ t. t.flags.0 < 2 ^ 8) types
TypesFor false count types = types ≡ []

-- ---- what is written is read back

pub length-param_type : (t : ParamType) → length (param_type.bytes t) ≡ 2
unfolding param_type le_bytes
length-param_type t = refl

pub length-types : (types : List ParamType) → length (types_bytes types) ≡ 2 * length types
length-types [] = refl
length-types (t ∷ types) = omega (arith, length-append (param_type.bytes t) (types_bytes types), length-param_type t, length-types types)

param_type-again : (t : ParamType) → t.flags.0 < 2 ^ 8 → IsSpelling (param_type.form tt) t (param_type.bytes t)
unfolding param_type
param_type-again t lt rest = param_type.again tt t rest (tt, (lt, tt))

pub types-again : (sent : Bool) (count : ℕ) (types : List ParamType) (rest : List ℕ) → TypesFor sent count types → (types_block sent count).Spells types (types_bytes types ++ rest) rest
types-again true count types rest f =
    let each = seq-again (λ t. t.flags.0 < 2 ^ 8) (param_type.form tt) param_type.bytes param_type-again (give count) [] types (λ rest. (f.0, refl)) f.1 [] in
    let S : List ℕ → Type 0 = λ bytes. (seq (give count) (param_type.form tt)).Spells types bytes [] in
    block-again (2 * count) (seq (give count) (param_type.form tt)) types (types_bytes types) (length-types types ∙ ap (λ n. 2 * n) f.0) (subst S (append-nil (types_bytes types)) each) rest
types-again false count types rest f = (f, ap (λ (l : List ParamType). types_bytes l ++ rest) f)
