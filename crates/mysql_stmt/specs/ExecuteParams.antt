-- The parameters of a plain execution.
use Rattle.std.specs.Prelude.{ℕ, ◌+◌, Bool, true, false, List, [], ◌∷◌, length, take}
use Rattle.mysql_values.specs.declared.value.Value.{Value}
use Rattle.mysql_values.specs.ParamValue.{Plain}
use Rattle.mysql_values.specs.Value.{content_of, contents_of}
use Rattle.mysql_stmt.specs.ExecuteParam.{Param, Sent}
use Rattle.mysql_stmt.specs.ExecuteRead.{TypedParam}
use Rattle.mysql_stmt.specs.NullMarks.{bitmap_of}
use Rattle.mysql_stmt.specs.SentParam.{bound_bytes, sent_params, type_of_param}
use Rattle.mysql_stmt.specs.declared.execute_params.ExecuteParams.{ExecuteParams}

-- a value as a parameter that is sent
abbrev pub value_param : Value → Param
value_param value = Sent (Plain (content_of value))

abbrev pub sent_values : List Value → List TypedParam
sent_values values = sent_params value_param (λ v. type_of_param (value_param v)) values

-- this bitmap of NULLs, and the types and the values
abbrev pub values_bytes : (nulls : List ℕ) → (as_long_data : Bool) → List Value → List ℕ
values_bytes nulls as_long_data values = bound_bytes nulls true false as_long_data (sent_values values) []

-- the size of a request that sends all its values, at least one: 10 bytes precede the bitmap
abbrev pub whole_size : List Value → ℕ
whole_size params = 10 + length (values_bytes (bitmap_of (contents_of params)) false params)

-- the bytes, if there are values
abbrev pub where_some : {A : Type 0} → List A → List ℕ → List ℕ
where_some [] bytes = []
where_some (v ∷ values) bytes = bytes

-- at most 8,192 bytes of the bitmap are sent
abbrev pub params_bytes : ExecuteParams → List ℕ
params_bytes p = where_some p.values.now (values_bytes (take 8192 p.bitmap.bytes) p.as_long_data p.values.now)
